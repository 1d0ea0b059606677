-- Policies as a map stores them, by their binaries.
use Rattle.std.specs.Prelude.{ℕ, List, map, Vec}
use Rattle.std.specs.declared.alloc.Global.{Global}
use Rattle.st_filter.specs.Formula.{FilterValue}
use Rattle.st_filter.specs.declared.set.BinaryPolicy.{BinaryPolicy}

-- an entry of the map: a binary and its filters
abbrev pub PolicyEntry : Type 0
PolicyEntry = Vec ℕ Global × List FilterValue

-- the policy that an entry of the map represents
abbrev pub policy_of_entry : PolicyEntry → BinaryPolicy
policy_of_entry e = record { binary = e.0.items; filters = e.1 }

-- the policies that the map represents, in its order
abbrev pub represented_policies : List PolicyEntry → List BinaryPolicy
represented_policies entries = map policy_of_entry entries
