use denote.Param.Send.{sendable}
use Rattle.st_monitor.proofs.Crossing.{answer_fault_send, answer_fault_sync}
use Rattle.test_sharing.proofs.kernels.works_are_shareable.Goals as goal

pub is_shareable-requires-2-send-T : goal.is_shareable-requires-2-send-T
is_shareable-requires-2-send-T c κs = search (answer_fault_send, sendable)

pub is_shareable-requires-2-sync-T : goal.is_shareable-requires-2-sync-T
is_shareable-requires-2-sync-T c κs = search (answer_fault_sync, sendable)
