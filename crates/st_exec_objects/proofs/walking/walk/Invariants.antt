use Rattle.st_names.specs.Name.{Components}
use Rattle.st_exec_objects.specs.Walking.{IsWalked}
use Rattle.st_exec_objects.proofs.walking.walk.Given as goal

-- the walk has passed a prefix of the name, and the components that are left go on from there
abbrev pub invariant-loop-part : goal.invariant-loop-part
invariant-loop-part l = (done : Components) × IsWalked l.tree l.ids l.name done l.part-iterator l.place
