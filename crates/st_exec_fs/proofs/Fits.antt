-- Truncating a file to a length that isn't too great.
use Rattle.std.proofs.Common.{◌≡◌, ℕ, ◌≤◌, Bool, if◌then◌else◌, Some, None, ap}
use Rattle.st_base.specs.declared.errno.Errno.TheVariants.{ENOSPC}
use Rattle.st_tree.specs.Refusals.{cut_refused}
use Rattle.std.proofs.lemmas.Bool.{le-ltb}

pub cut_fits : (len : ℕ) → len ≤ 65536 → cut_refused len ≡ None
cut_fits len fits = ap (λ (over : Bool). if over then Some ENOSPC else None) (le-ltb 65536 len fits)
