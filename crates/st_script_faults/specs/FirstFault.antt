-- What it means that a fault is the first of some lines.
use Rattle.std.specs.Prelude.{◌≡◌, List, [], ◌∷◌, ◌++◌, Some, None}
use Rattle.st_script_faults.specs.Faults.{WholeScript, line_fault}
use Rattle.st_script_names.specs.Names.{Names, with_says}
use Rattle.st_script_faults.specs.declared.fault.ScriptFault.{ScriptFault}
use Rattle.st_statements.specs.declared.statement.ScriptLine.{ScriptLine}

-- these names, with those that lines define added
abbrev pub names_after : Names → List ScriptLine → Names
names_after names [] = names
names_after names (line ∷ lines) = names_after (with_says names line.says) lines

-- none of these lines has a fault, given the rows above and below each
abbrev pub AreFaultless : WholeScript → Names → List ScriptLine → List ScriptLine → Type 0
AreFaultless whole above [] below = Unit {0}
AreFaultless whole above (line ∷ lines) below =
    (line_fault whole above (lines ++ below) line ≡ None) × AreFaultless whole (with_says above line.says) lines below

-- a fault is that of a line, and no line above it has one
pub record IsFirstScriptFault (whole : WholeScript) (above : Names) (lines : List ScriptLine) (fault : ScriptFault) : Type 0 where
  pub front : List ScriptLine
  pub here : ScriptLine
  pub below : List ScriptLine
  pub parts : lines ≡ front ++ here ∷ below
  pub none : AreFaultless whole above front (here ∷ below)
  pub fault_is : line_fault whole (names_after above front) below here ≡ Some fault
