-- Writing to a file that doesn't get too long.
use Rattle.std.proofs.Common.{◌≡◌, ◌∙◌, ℕ, ◌+◌, ◌≤◌, ◌&&◌, Bool, true, false, List, if◌then◌else◌, length, Some, None, refl, ap}
use Rattle.std.specs.Prelude.{nat_lt}
use Rattle.st_base.specs.declared.errno.Errno.TheVariants.{ENOSPC}
use Rattle.st_tree.specs.Refusals.{write_too_long}
use Rattle.std.proofs.lemmas.Bool.{le-ltb}

none_over : (some : Bool) → (if some && false then Some ENOSPC else None) ≡ None
none_over true = refl
none_over false = refl

pub write_fits : (at : ℕ) (bytes : List ℕ) → at + length bytes ≤ 65536 → write_too_long at bytes ≡ None
write_fits at bytes fits =
    ap (λ (over : Bool). if nat_lt 0 (length bytes) && over then Some ENOSPC else None) (le-ltb 65536 (at + length bytes) fits) ∙ none_over (nat_lt 0 (length bytes))
