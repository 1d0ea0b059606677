use Rattle.std.proofs.Common.{refl, rules}
use Rattle.st_exec_fs.specs.Execution.{IsLookingCall, IsOnDescriptors, IsOnNames}
use Rattle.st_exec_fs.proofs.Executed.{chdir_executed, descriptors_executed, look_executed, names_executed, open_executed, read_executed, ready_with_processes, ready_with_tree, still_ready, write_executed}
use Rattle.st_exec_fs.proofs.execution.execute_fs.Goals as goal
use Rattle.st_exec_fs.proofs.execution.execute_fs.Goals.{After-change_names, After-look, After-move_descriptors}

on_descriptors : (c : After-move_descriptors) → IsOnDescriptors c.args.call
on_descriptors c = search rules

is_look : (c : After-look) → IsLookingCall c.args.call
is_look c = search rules

on_names : (c : After-change_names) → IsOnNames c.args.call
on_names c = search rules

pub returns-in-Open-clause-executed : goal.returns-in-Open-clause-executed
returns-in-Open-clause-executed c =
    open_executed c.args.request.now c.args.tree.now c.args.fds.now c.args.procs.now c.args.spaces.now c.args.call c.open.result c.open.new.tree c.open.new.fds
    c.in-Open.is c.open.ensures.outcome c.open.ensures.tree

pub returns-in-Open-clause-ready : goal.returns-in-Open-clause-ready
returns-in-Open-clause-ready c =
    still_ready c.args.request.now c.args.tree.now c.args.fds.now c.args.procs.now c.args.spaces.now c.requires.ready c.open.new.tree c.open.new.fds c.args.spaces.now
    c.open.ensures.tables (refl, λ s. refl) (c.open.ensures.real c.requires.ready.real)

pub returns-in-Read-clause-executed : goal.returns-in-Read-clause-executed
returns-in-Read-clause-executed c =
    read_executed c.args.request.now c.args.tree.now c.args.fds.now c.args.procs.now c.args.spaces.now c.args.call c.read.result c.read.new.fds c.read.new.spaces
    c.in-Read.is c.read.ensures.outcome c.read.ensures.memory

pub returns-in-Read-clause-ready : goal.returns-in-Read-clause-ready
returns-in-Read-clause-ready c =
    still_ready c.args.request.now c.args.tree.now c.args.fds.now c.args.procs.now c.args.spaces.now c.requires.ready c.args.tree.now c.read.new.fds c.read.new.spaces
    c.read.ensures.tables c.read.ensures.spaces c.read.ensures.real

pub returns-in-Write-clause-executed : goal.returns-in-Write-clause-executed
returns-in-Write-clause-executed c =
    write_executed c.args.request.now c.args.tree.now c.args.fds.now c.args.procs.now c.args.spaces.now c.args.call c.write.result c.write.new.tree c.write.new.fds
    c.in-Write.is c.write.ensures.outcome c.write.ensures.tree

pub returns-in-Write-clause-ready : goal.returns-in-Write-clause-ready
returns-in-Write-clause-ready c =
    still_ready c.args.request.now c.args.tree.now c.args.fds.now c.args.procs.now c.args.spaces.now c.requires.ready c.write.new.tree c.write.new.fds c.args.spaces.now
    c.write.ensures.tables (refl, λ s. refl) c.write.ensures.real

pub returns-in-Close-clause-executed : goal.returns-in-Close-clause-executed
returns-in-Close-clause-executed c =
    descriptors_executed c.args.request.now c.args.tree.now c.args.fds.now c.args.procs.now c.args.spaces.now c.args.call c.move_descriptors.result c.move_descriptors.new.fds
    (on_descriptors c) c.move_descriptors.ensures.outcome

pub returns-in-Close-clause-ready : goal.returns-in-Close-clause-ready
returns-in-Close-clause-ready c =
    still_ready c.args.request.now c.args.tree.now c.args.fds.now c.args.procs.now c.args.spaces.now c.requires.ready c.args.tree.now c.move_descriptors.new.fds c.args.spaces.now
    c.move_descriptors.ensures.tables (refl, λ s. refl) c.move_descriptors.ensures.real

pub returns-in-Stat-clause-executed : goal.returns-in-Stat-clause-executed
returns-in-Stat-clause-executed c =
    look_executed c.args.request.now c.args.tree.now c.args.fds.now c.args.procs.now c.args.spaces.now c.args.call c.look.result c.look.new.spaces
    (is_look c) c.look.ensures.outcome c.look.ensures.memory

pub returns-in-Stat-clause-ready : goal.returns-in-Stat-clause-ready
returns-in-Stat-clause-ready c =
    still_ready c.args.request.now c.args.tree.now c.args.fds.now c.args.procs.now c.args.spaces.now c.requires.ready c.args.tree.now c.args.fds.now c.look.new.spaces
    (λ pid. refl) c.look.ensures.spaces c.requires.ready.real

pub returns-in-Chdir-clause-executed : goal.returns-in-Chdir-clause-executed
returns-in-Chdir-clause-executed c =
    chdir_executed c.args.request.now c.args.tree.now c.args.fds.now c.args.procs.now c.args.spaces.now c.args.call c.chdir.result c.chdir.new.procs
    c.in-Chdir.is c.chdir.ensures.outcome c.chdir.ensures.processes

pub returns-in-Chdir-clause-ready : goal.returns-in-Chdir-clause-ready
returns-in-Chdir-clause-ready c =
    ready_with_processes c.args.request.now c.args.tree.now c.args.fds.now c.args.procs.now c.args.spaces.now c.requires.ready c.chdir.result c.chdir.new.procs
    c.chdir.ensures.outcome c.chdir.ensures.processes c.chdir.ensures.err

pub returns-in-Unlink-clause-executed : goal.returns-in-Unlink-clause-executed
returns-in-Unlink-clause-executed c =
    names_executed c.args.request.now c.args.tree.now c.args.fds.now c.args.procs.now c.args.spaces.now c.args.call c.change_names.result c.change_names.new.tree
    (on_names c) c.change_names.ensures.outcome c.change_names.ensures.tree

pub returns-in-Unlink-clause-ready : goal.returns-in-Unlink-clause-ready
returns-in-Unlink-clause-ready c =
    ready_with_tree c.args.request.now c.args.tree.now c.args.fds.now c.args.procs.now c.args.spaces.now c.requires.ready c.change_names.result c.change_names.new.tree
    c.change_names.ensures.tree c.change_names.ensures.err
