use denote.Param.Send.{IsSend, sendable}
use denote.Param.{param}
use Rattle.std.proofs.Crossing.{crosses}
use Rattle.std.proofs.marker.PhantomData.TheSendSync as phantom
use Rattle.std.proofs.sync.Condvar.TheSendSync as condvar
use Rattle.std.proofs.sync.Mutex.TheSendSync as mutex
use Rattle.st_trace.proofs.entry.Entry.TheSendSync as entry
use Rattle.st_monitor.proofs.Crossing.{compiled_sync, input_sync, kernel_send}
use Rattle.st_messages.proofs.queue.Poster.TheSendSync as poster
use Rattle.st_desk.proofs.runners.Runners.TheSendSync as runners
use Rattle.st_monitor.proofs.run.run_named.Goals as goal

-- what runners take in turns may be shared
pub run_all_at-requires-sync-M : goal.run_all_at-requires-sync-M
run_all_at-requires-sync-M g c κs within =
    let named_send : IsSend (param 0 g.row.N) = c.type_bounds.send-N in
    let recorder_send : IsSend (param 1 g.row.R) = c.type_bounds.send-R in
    search (kernel_send, compiled_sync, input_sync, runners.the_field_send, poster.the_send, entry.the_send, mutex.the_sync, condvar.the_sync, phantom.the_field_send, crosses, sendable) depth 60 fits 20000

-- and the run below the lock may be sent
pub run_all_at-requires-send-Q : goal.run_all_at-requires-send-Q
run_all_at-requires-send-Q g c κs within =
    let named_send : IsSend (param 0 g.row.N) = c.type_bounds.send-N in
    let recorder_send : IsSend (param 1 g.row.R) = c.type_bounds.send-R in
    search (kernel_send, poster.the_send, entry.the_send, phantom.the_field_send, crosses, sendable) depth 60 fits 20000
