-- The entries of lawful traces are ones that traces are written of.
use Rattle.std.proofs.Common.{List, [], ◌∷◌, reverse, subst}
use Rattle.std.proofs.lemmas.Grind.{reverse_onto}
use Rattle.std.specs.List.{AllByRecursion}
use Rattle.st_base.proofs.Each.{each-parts}
use Rattle.st_law.specs.Lawful.{Lawful}
use Rattle.st_law.specs.declared.input.Input.{Input}
use Rattle.st_trace.specs.declared.entry.Entry.{Entry}
use Rattle.st_written.specs.Normal.{HasNormalDirectories, HaveTypes, IsNormalEntry}
use Rattle.st_written.specs.Written.{AreEntries}
use Rattle.st_written.proofs.NormalStates.{lawful_normal}

pub all_reversed : {X : Type 0} (P : X → Type 0) (xs : List X) → AllByRecursion P (reverse xs) → AllByRecursion P xs
all_reversed P [] all = tt
all_reversed P (x ∷ xs) all =
    let parts = each-parts P (reverse xs) (x ∷ []) (subst (AllByRecursion P) (reverse_onto xs x []) all) in
    (parts.1.0, all_reversed P xs parts.0)

pub typed : (trace : List Entry) → AllByRecursion IsNormalEntry trace → HaveTypes trace → AreEntries trace
typed [] normal types = tt
typed (entry ∷ trace) normal types = (types.0 normal.0, typed trace normal.1 types.1)

pub lawful_written : (input : Input) → HasNormalDirectories input → (trace : List Entry) → Lawful input trace → HaveTypes trace → AreEntries trace
lawful_written input first trace law types = typed trace (all_reversed IsNormalEntry trace (lawful_normal input first (reverse trace) law)) types
