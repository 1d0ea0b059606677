-- The held calls have the same numbers as before, for those drawings that are still in use.
use Rattle.std.proofs.Common.{◌≡◌, ℕ, Bool, sym, subst}
use Rattle.st_law.specs.Numbers.{without_replaced}
use Rattle.st_messages.specs.Messages.{HeldCalls}
use Rattle.st_workers.specs.Numbers.{CarriesNumbers, HasNumbers, KeepsNumbers}

-- the calls are the same
pub fewer_none : (old new : HeldCalls) → new ≡ old → KeepsNumbers old new
fewer_none old new same numbers has = (numbers.in_use, subst (HasNumbers numbers) (sym same) has)

-- the same drawings are in use
pub fewer_same : (old new : HeldCalls) → CarriesNumbers (λ numbers. numbers) old new → KeepsNumbers old new
fewer_same old new carries numbers has = (numbers.in_use, carries numbers has)

-- one drawing isn't in use any more, or it is kept
pub fewer_one : (old new : HeldCalls) (ready : ℕ → Bool) (drawing : ℕ) → CarriesNumbers (without_replaced ready drawing) old new → KeepsNumbers old new
fewer_one old new ready drawing carries numbers has = ((without_replaced ready drawing numbers).in_use, carries numbers has)

-- after both of two calls
pub fewer_twice : (old between new : HeldCalls) → KeepsNumbers old between → KeepsNumbers between new → KeepsNumbers old new
fewer_twice old between new first second numbers has = let once = first numbers has in second (record numbers { in_use = once.0 }) once.1
