-- The first fault of lines, and what holds of lines without one.
use Rattle.std.proofs.Common.{◌≡◌, List, [], ◌∷◌, Option, Some, None, refl, ap, subst, ◌∙◌}
use Rattle.st_script_faults.specs.FirstFault.{IsFirstScriptFault}
use Rattle.st_script_faults.specs.Faults.{WholeScript, line_fault, first_fault}
use Rattle.st_script_names.specs.Names.{Names, with_says}
use Rattle.st_script_faults.specs.declared.fault.ScriptFault.{ScriptFault}
use Rattle.st_statements.specs.declared.statement.ScriptLine.{ScriptLine}

-- the fault of a line, or of those below it
abbrev either : Option ScriptFault → Option ScriptFault → Option ScriptFault
either here below = elim here [ Some fault ↦ Some fault | None ↦ below ]

first_by : (whole : WholeScript) (above : Names) (line : ScriptLine) (lines : List ScriptLine) (fault : ScriptFault) (o : Option ScriptFault) → line_fault whole above lines line ≡ o → either o (first_fault whole (with_says above line.says) lines) ≡ Some fault →
    (first_fault whole (with_says above line.says) lines ≡ Some fault → IsFirstScriptFault whole (with_says above line.says) lines fault) → IsFirstScriptFault whole above (line ∷ lines) fault
first_by whole above line lines fault (Some here) e is later = record { front = []; here = line; below = lines; parts = refl; none = tt; fault_is = e ∙ is }
first_by whole above line lines fault None e is later =
    let f : IsFirstScriptFault whole (with_says above line.says) lines fault = later is in
    record {
      front = line ∷ f.front;
      here = f.here;
      below = f.below;
      parts = ap (λ ls. line ∷ ls) f.parts;
      none = (subst (λ ls. line_fault whole above ls line ≡ None) f.parts e, f.none);
      fault_is = f.fault_is;
    }

pub is_first : (whole : WholeScript) (above : Names) (lines : List ScriptLine) (fault : ScriptFault) → first_fault whole above lines ≡ Some fault → IsFirstScriptFault whole above lines fault
is_first whole above [] fault is = absurd (cc)
is_first whole above (line ∷ lines) fault is =
    first_by whole above line lines fault (line_fault whole above lines line) refl is (is_first whole (with_says above line.says) lines fault)
