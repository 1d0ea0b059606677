use Rattle.std.proofs.Common.{◌≡◌, rules, true}
use Rattle.st_calls.specs.Call.{sets_ids}
use Rattle.st_calls.specs.declared.call.SysCall.TheVariants.{Exit, Kill, Socket, Bind, Connect}
use Rattle.st_exec_sys.proofs.Executed.{ended_if_ok, ids_outcome, ids_set, moved, moved_if_ok, ready_with_ids, ready_with_table}
use Rattle.st_exec_sys.proofs.execution.execute_sys.Goals as goal
use Rattle.st_exec_sys.proofs.execution.execute_sys.Goals.{After-set_ids}

sets : (c : After-set_ids) → sets_ids c.args.call ≡ true
sets c = search rules

pub returns-in-Exit-clause-executed : goal.returns-in-Exit-clause-executed
returns-in-Exit-clause-executed c = ended_if_ok c.args.request.now c.args.fds.now c.args.procs.now c.args.spaces.now c.args.call Exit c.exit.result c.in-Exit.is c.exit.ensures.outcome c.exit.ensures.changes

pub returns-in-Kill-clause-executed : goal.returns-in-Kill-clause-executed
returns-in-Kill-clause-executed c = ended_if_ok c.args.request.now c.args.fds.now c.args.procs.now c.args.spaces.now c.args.call Kill c.kill.result c.in-Kill.is c.kill.ensures.outcome c.kill.ensures.changes

pub returns-in-SetUid-clause-executed : goal.returns-in-SetUid-clause-executed
returns-in-SetUid-clause-executed c = ids_set c.args.request.now c.args.fds.now c.args.procs.now c.args.spaces.now c.args.call c.set_ids.result c.set_ids.new.procs (ids_outcome c.args.request.now c.args.fds.now c.args.procs.now c.args.spaces.now c.args.call c.set_ids.result (sets c) c.set_ids.ensures.outcome) c.set_ids.ensures.processes c.set_ids.ensures.changes

pub returns-in-SetUid-clause-ready : goal.returns-in-SetUid-clause-ready
returns-in-SetUid-clause-ready c = ready_with_ids c.args.request.now c.args.fds.now c.args.procs.now c.args.spaces.now c.set_ids.result c.set_ids.new.procs c.set_ids.ensures.processes c.set_ids.ensures.changes c.set_ids.ensures.err

pub returns-in-Socket-clause-executed : goal.returns-in-Socket-clause-executed
returns-in-Socket-clause-executed c = moved_if_ok c.args.request.now c.args.fds.now c.args.procs.now c.args.spaces.now c.args.call Socket c.socket.result c.socket.new.fds c.in-Socket.is c.socket.ensures.outcome c.socket.ensures.changes c.socket.ensures.tables

pub returns-in-Socket-clause-ready : goal.returns-in-Socket-clause-ready
returns-in-Socket-clause-ready c = ready_with_table c.args.request.now c.args.fds.now c.args.procs.now c.args.spaces.now c.socket.new.fds c.socket.ensures.tables c.socket.ensures.real

pub returns-in-Bind-clause-executed : goal.returns-in-Bind-clause-executed
returns-in-Bind-clause-executed c = moved c.args.request.now c.args.fds.now c.args.procs.now c.args.spaces.now c.args.call Bind c.bind.result c.bind.new.fds c.in-Bind.is c.bind.ensures.outcome c.bind.ensures.changes c.bind.ensures.tables

pub returns-in-Bind-clause-ready : goal.returns-in-Bind-clause-ready
returns-in-Bind-clause-ready c = ready_with_table c.args.request.now c.args.fds.now c.args.procs.now c.args.spaces.now c.bind.new.fds c.bind.ensures.tables c.bind.ensures.real

pub returns-in-Connect-clause-executed : goal.returns-in-Connect-clause-executed
returns-in-Connect-clause-executed c = moved c.args.request.now c.args.fds.now c.args.procs.now c.args.spaces.now c.args.call Connect c.connect.result c.connect.new.fds c.in-Connect.is c.connect.ensures.outcome c.connect.ensures.changes c.connect.ensures.tables

pub returns-in-Connect-clause-ready : goal.returns-in-Connect-clause-ready
returns-in-Connect-clause-ready c = ready_with_table c.args.request.now c.args.fds.now c.args.procs.now c.args.spaces.now c.connect.new.fds c.connect.ensures.tables c.connect.ensures.real
