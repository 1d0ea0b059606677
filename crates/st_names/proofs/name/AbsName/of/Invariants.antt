use Rattle.std.proofs.Common.{◌≡◌, map}
use Rattle.std.specs.List.{filter}
use Rattle.st_names.specs.Name.{is_component}
use Rattle.st_names.proofs.name.AbsName.of.Given as goal

abbrev pub invariant-loop-part : goal.invariant-loop-part
invariant-loop-part l = l.name ≡ filter is_component (map (λ x. x.now) l.yielded)
