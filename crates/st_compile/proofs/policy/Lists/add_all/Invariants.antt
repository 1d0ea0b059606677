use Rattle.std.proofs.Common.{◌≡◌, take}
use Rattle.st_compile.specs.Compiling.{AreListed}
use Rattle.st_compile.proofs.policy.Lists.add_all.Given as goal

-- the filters so far are listed
abbrev pub invariant-loop-filter : goal.invariant-loop-filter
invariant-loop-filter l = record {
  items : l.filter-items ≡ l.policy;
  listed : AreListed (take l.filter-index l.filter-items) l.self.lists.items l.self.places.items;
}
