use Rattle.std.proofs.Common.{map}
use Rattle.std.specs.List.{filter}
use Rattle.st_names.specs.Name.{is_component}
use Rattle.st_arguments.proofs.WayDown.{HasCome}
use Rattle.st_arguments.proofs.links.parts_to_link.Given as goal

abbrev pub invariant-loop-part : goal.invariant-loop-part
invariant-loop-part l = HasCome l.tree l.follow (filter is_component (map (λ x. x.now) l.yielded)) l.count l.obj
