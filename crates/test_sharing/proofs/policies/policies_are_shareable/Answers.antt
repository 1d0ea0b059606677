use denote.Param.Send.{sendable}
use Rattle.st_base.proofs.sequence.Sequence.TheSendSync as sequence
use Rattle.st_monitor.proofs.Crossing.{binary_policy_send, binary_policy_sync, compiled_send, compiled_sync, expr_send, expr_sync, filter_send, filter_sync, input_send, input_sync, judged_send, judged_sync, policies_send, policies_sync, policy_set_send, policy_set_sync, reply_send, reply_sync}
use Rattle.test_sharing.proofs.policies.policies_are_shareable.Goals as goal

pub is_shareable-requires-send-T : goal.is_shareable-requires-send-T
is_shareable-requires-send-T c κs = search (expr_send, sendable)

pub is_shareable-requires-sync-T : goal.is_shareable-requires-sync-T
is_shareable-requires-sync-T c κs = search (expr_sync, sendable)

pub is_shareable-requires-2-send-T : goal.is_shareable-requires-2-send-T
is_shareable-requires-2-send-T c κs = search (filter_send, sendable)

pub is_shareable-requires-2-sync-T : goal.is_shareable-requires-2-sync-T
is_shareable-requires-2-sync-T c κs = search (filter_sync, sendable)

pub is_shareable-requires-3-send-T : goal.is_shareable-requires-3-send-T
is_shareable-requires-3-send-T c κs = search (filter_send, sequence.the_send, sendable)

pub is_shareable-requires-3-sync-T : goal.is_shareable-requires-3-sync-T
is_shareable-requires-3-sync-T c κs = search (filter_sync, sequence.the_sync, sendable)

pub is_shareable-requires-4-send-T : goal.is_shareable-requires-4-send-T
is_shareable-requires-4-send-T c κs = search (binary_policy_send, sendable)

pub is_shareable-requires-4-sync-T : goal.is_shareable-requires-4-sync-T
is_shareable-requires-4-sync-T c κs = search (binary_policy_sync, sendable)

pub is_shareable-requires-5-send-T : goal.is_shareable-requires-5-send-T
is_shareable-requires-5-send-T c κs = search (policy_set_send, sendable)

pub is_shareable-requires-5-sync-T : goal.is_shareable-requires-5-sync-T
is_shareable-requires-5-sync-T c κs = search (policy_set_sync, sendable)

pub is_shareable-requires-6-send-T : goal.is_shareable-requires-6-send-T
is_shareable-requires-6-send-T c κs = search (policies_send, sendable)

pub is_shareable-requires-6-sync-T : goal.is_shareable-requires-6-sync-T
is_shareable-requires-6-sync-T c κs = search (policies_sync, sendable)

pub is_shareable-requires-7-send-T : goal.is_shareable-requires-7-send-T
is_shareable-requires-7-send-T c κs = search (reply_send, sendable)

pub is_shareable-requires-7-sync-T : goal.is_shareable-requires-7-sync-T
is_shareable-requires-7-sync-T c κs = search (reply_sync, sendable)

pub is_shareable-requires-8-send-T : goal.is_shareable-requires-8-send-T
is_shareable-requires-8-send-T c κs = search (input_send, sendable)

pub is_shareable-requires-8-sync-T : goal.is_shareable-requires-8-sync-T
is_shareable-requires-8-sync-T c κs = search (input_sync, sendable)

pub is_shareable-requires-9-send-T : goal.is_shareable-requires-9-send-T
is_shareable-requires-9-send-T c κs = search (judged_send, sendable)

pub is_shareable-requires-9-sync-T : goal.is_shareable-requires-9-sync-T
is_shareable-requires-9-sync-T c κs = search (judged_sync, sendable)

pub is_shareable-requires-10-send-T : goal.is_shareable-requires-10-send-T
is_shareable-requires-10-send-T c κs = search (compiled_send, sendable)

pub is_shareable-requires-10-sync-T : goal.is_shareable-requires-10-sync-T
is_shareable-requires-10-sync-T c κs = search (compiled_sync, sendable)
