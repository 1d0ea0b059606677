use Rattle.std.proofs.Common.{◌∙◌, ap}
use Rattle.std.specs.List.{fold}
use Rattle.st_model.specs.Tree.{root_only}
use Rattle.st_law.specs.Processes.{tree_with_row}
use Rattle.st_system.proofs.Started.{system_first, whole_first}
use Rattle.st_system.proofs.system.System.start.Goals as goal

pub invariant_of-result : goal.invariant_of-result
invariant_of-result c =
    whole_first c.args.input.now c.in_ok-tree.tree c.in_ok-fds.fds c.in_ok-fds.procs c.begin_threads.new.procs c.in_ok-fds.spaces (c.in_ok-tree.ensures ∙ ap (fold tree_with_row root_only) c.as_slice.ensures)
    c.in_ok-fds.ensures c.in_ok-begin_threads.ensures c.requires

pub returns : goal.returns
returns c =
    system_first c.args.input.now c.in_ok-tree.tree c.in_ok-fds.fds c.in_ok-fds.procs c.begin_threads.new.procs c.in_ok-fds.spaces (c.in_ok-tree.ensures ∙ ap (fold tree_with_row root_only) c.as_slice.ensures)
    c.in_ok-fds.ensures c.in_ok-begin_threads.ensures c.requires
