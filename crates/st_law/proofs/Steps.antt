-- Facts about the entry that a step adds, if it adds one.
use Rattle.std.proofs.Common.{◌≡◌, Bool, true, false, cond, Option, Some, None, refl}
use Rattle.st_trace.specs.declared.entry.Entry.{Entry}

-- the fact holds of the entry, if there is one
abbrev pub Says : (Entry → Type 0) → Option Entry → Type 0
Says P None = Unit {0}
Says P (Some e) = P e

pub says-unless : (P : Entry → Type 0) (b : Bool) (o : Option Entry) → (b ≡ false → Says P o) → Says P (cond b None o)
says-unless P true o f = tt
says-unless P false o f = f refl

pub says-when : (P : Entry → Type 0) (b : Bool) (o : Option Entry) → (b ≡ true → Says P o) → Says P (cond b o None)
says-when P true o f = f refl
says-when P false o f = tt

pub says-either : (P : Entry → Type 0) (b : Bool) (o p : Option Entry) → (b ≡ true → Says P o) → (b ≡ false → Says P p) → Says P (cond b o p)
says-either P true o p f g = f refl
says-either P false o p f g = g refl
