-- What a function that reads gives: a value, if what is read has one, unless memory runs out.
use Rattle.std.specs.Prelude.{ℕ, List, ◌≡◌, Option, Some, None, option_and_then, Result, Ok, Err}
use Rattle.st_fields.specs.declared.fault.LineFault.{LineFault}
use Rattle.st_fields.specs.declared.fault.LineFault.TheVariants.{NotInGrammar, NoMemory}

infixl 10 ◌>>=◌
abbrev pub ◌>>=◌ : {A B : Type 0} → Option A → (A → Option B) → Option B
o >>= f = option_and_then f o

-- a fault says that there is no value, unless memory ran out
abbrev pub Fails : {Y : Type 0} → LineFault → Option Y → Type 0
Fails NotInGrammar read = read ≡ None
Fails NoMemory read = Unit {0}

-- what is read is this value, or the fault says why there is none
abbrev pub Gives : {X : Type 0} → Result X LineFault → Option X → Type 0
Gives (Ok x) read = read ≡ Some x
Gives (Err fault) read = Fails fault read

-- what is read is this value, as it is viewed, with these bytes after it, or the fault says why there is none
abbrev pub ReadsAs : {X Y : Type 0} → (X → Y) → Result X LineFault → Option (Y × List ℕ) → List ℕ → Type 0
ReadsAs view (Ok x) read rest = read ≡ Some (view x, rest)
ReadsAs view (Err fault) read rest = Fails fault read

-- what is read is this value, with these bytes after it, or the fault says why there is none
abbrev pub Reads : {X : Type 0} → Result X LineFault → Option (X × List ℕ) → List ℕ → Type 0
Reads result read rest = ReadsAs (λ x. x) result read rest

-- what is skipped is there, with these bytes after it, or the fault says that it isn't
abbrev pub Skips : {U : Type 0} → Result U LineFault → Option (List ℕ) → List ℕ → Type 0
Skips (Ok done) read rest = read ≡ Some rest
Skips (Err fault) read rest = Fails fault read
