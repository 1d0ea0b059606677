use Rattle.std.proofs.Common.{◌≡◌, drop}
use Rattle.std.specs.Map.{lookup}
use Rattle.std.specs.Str.{bytes_eq}
use Rattle.st_tree.proofs.object.compared.Given as goal

-- the lookup in all entries is the lookup in the remaining entries
abbrev pub invariant-loop-place : goal.invariant-loop-place
invariant-loop-place l = lookup (λ key. bytes_eq l.part key.items) l.entries.entries ≡ lookup (λ key. bytes_eq l.part key.items) (drop l.place l.entries.entries)
