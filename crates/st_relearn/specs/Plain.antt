-- Texts that can be quoted: those of a script, and so those of every copy that a run makes.
use Rattle.std.specs.Prelude.{◌≡◌, List, [], ◌∷◌}
use Rattle.std.specs.List.{All}
use Rattle.st_calls.specs.Argument.{args_of}
use Rattle.st_calls.specs.declared.argument.ArgSpec.{ArgSpec}
use Rattle.st_calls.specs.declared.argument.ArgText.{ArgText}
use Rattle.st_calls.specs.declared.judged.Snapshot.{Snapshot}
use Rattle.st_lex.specs.Quote.{AreBytes}
use Rattle.st_model.specs.declared.object.NewKind.{NewKind}
use Rattle.st_model.specs.declared.object.NewKind.TheVariants as kind
use Rattle.st_names.specs.Name.{Components}
use Rattle.st_trace.specs.declared.start.ProcessRow.{ProcessRow}
use Rattle.st_trace.specs.declared.start.Start.{Start}
use Rattle.st_relearn.specs.Writable.{IsWritableBinary}

-- ---- scripts

-- each component of a name can be quoted
abbrev pub IsPlainName : Components → Type 0
IsPlainName name = All AreBytes name

-- the binary of a process can be written as a policy's, and the name of its directory can be quoted
pub record IsPlainProcess (row : ProcessRow) : Type 0 where
  pub binary : IsWritableBinary row.binary
  pub cwd : IsPlainName row.cwd

-- the target of a link can be quoted
abbrev pub HasPlainTarget : NewKind → Type 0
HasPlainTarget kind.Dir = Unit {0}
HasPlainTarget (kind.File content) = Unit {0}
HasPlainTarget (kind.Link target) = AreBytes target

-- the texts of a script, from which all texts of a run come, can be quoted
pub record HasPlainTexts (start : Start) : Type 0 where
  pub processes : All IsPlainProcess start.processes
  pub targets : All (λ row. HasPlainTarget row.new.kind) start.tree

-- ---- copies

-- arguments are those that are specified, in order, and their texts can be quoted
abbrev pub AreArguments : List ArgSpec → List ArgText → Type 0
AreArguments [] [] = Unit {0}
AreArguments [] (arg ∷ args) = ⊥
AreArguments (spec ∷ specs) [] = ⊥
AreArguments (spec ∷ specs) (arg ∷ args) =
    (arg.label ≡ spec.label) × (arg.index ≡ spec.index) × AreBytes arg.text × AreArguments specs args

-- the parts of some copies are the arguments of their rule, and their policy can be written
pub record AreWritableCopies (s : Snapshot) : Type 0 where
  pub parts : AreArguments (args_of s.rule) s.parts
  pub policy : IsWritableBinary s.policy
