use denote.Param.Send.{sendable}
use Rattle.std.proofs.Crossing.{crosses}
use Rattle.st_monitor.proofs.Crossing.{kernel_send, kernel_sync, machine_send, machine_sync, view_send, view_sync}
use Rattle.test_sharing.proofs.kernels.kernels_are_shareable.Goals as goal

pub is_shareable-requires-send-T : goal.is_shareable-requires-send-T
is_shareable-requires-send-T c κs = search (view_send, sendable)

pub is_shareable-requires-sync-T : goal.is_shareable-requires-sync-T
is_shareable-requires-sync-T c κs = search (view_sync, sendable)

pub is_shareable-requires-2-send-T : goal.is_shareable-requires-2-send-T
is_shareable-requires-2-send-T c κs = search (machine_send, sendable)

pub is_shareable-requires-2-sync-T : goal.is_shareable-requires-2-sync-T
is_shareable-requires-2-sync-T c κs = search (machine_sync, sendable)

pub is_shareable-requires-3-send-T : goal.is_shareable-requires-3-send-T
is_shareable-requires-3-send-T c κs = search (kernel_send, sendable)

pub is_shareable-requires-3-sync-T : goal.is_shareable-requires-3-sync-T
is_shareable-requires-3-sync-T c κs = search (kernel_sync, sendable)

pub is_shareable-requires-4-send-T : goal.is_shareable-requires-4-send-T
is_shareable-requires-4-send-T c κs = search (kernel_send, crosses, sendable)

pub is_shareable-requires-4-sync-T : goal.is_shareable-requires-4-sync-T
is_shareable-requires-4-sync-T c κs = search (kernel_send, crosses, sendable)
