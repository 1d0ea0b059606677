use Rattle.std.proofs.Common.{◌≡◌, ◌+◌, length, map}
use Rattle.std.specs.List.{filter}
use Rattle.st_names.specs.Name.{is_component}
use Rattle.st_arguments.proofs.links.front_of_name.Given as goal

abbrev pub invariant-loop-part : goal.invariant-loop-part
invariant-loop-part l = record {
  name_is : l.name ≡ filter is_component (map (λ x. x.now) l.yielded);
  left_is : l.left + length l.name ≡ l.count;
}
