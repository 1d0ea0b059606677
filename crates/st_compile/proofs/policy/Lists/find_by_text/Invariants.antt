use Rattle.std.proofs.Common.{◌≡◌}
use Rattle.st_compile.proofs.policy.Lists.find_by_text.Given as goal

-- the lists have the same filters
abbrev pub invariant-loop-i : goal.invariant-loop-i
invariant-loop-i l = record { lists : l.self.lists.items ≡ l.initial.self.lists.items; places : l.self.places.items ≡ l.initial.self.places.items }
