use denote.Param.Send.{sendable}
use Rattle.st_monitor.proofs.Crossing.{added_filter_send, added_filter_sync, answers_send, answers_sync, kept_filter_send, kept_filter_sync, operator_send, operator_sync, session_send, session_sync}
use Rattle.test_sharing.proofs.policies.sessions_are_shareable.Goals as goal

pub is_shareable-requires-send-T : goal.is_shareable-requires-send-T
is_shareable-requires-send-T c κs = search (added_filter_send, sendable)

pub is_shareable-requires-sync-T : goal.is_shareable-requires-sync-T
is_shareable-requires-sync-T c κs = search (added_filter_sync, sendable)

pub is_shareable-requires-2-send-T : goal.is_shareable-requires-2-send-T
is_shareable-requires-2-send-T c κs = search (kept_filter_send, sendable)

pub is_shareable-requires-2-sync-T : goal.is_shareable-requires-2-sync-T
is_shareable-requires-2-sync-T c κs = search (kept_filter_sync, sendable)

pub is_shareable-requires-3-send-T : goal.is_shareable-requires-3-send-T
is_shareable-requires-3-send-T c κs = search (session_send, sendable)

pub is_shareable-requires-3-sync-T : goal.is_shareable-requires-3-sync-T
is_shareable-requires-3-sync-T c κs = search (session_sync, sendable)

pub is_shareable-requires-4-send-T : goal.is_shareable-requires-4-send-T
is_shareable-requires-4-send-T c κs = search (operator_send, sendable)

pub is_shareable-requires-4-sync-T : goal.is_shareable-requires-4-sync-T
is_shareable-requires-4-sync-T c κs = search (operator_sync, sendable)

pub is_shareable-requires-5-send-T : goal.is_shareable-requires-5-send-T
is_shareable-requires-5-send-T c κs = search (answers_send, sendable)

pub is_shareable-requires-5-sync-T : goal.is_shareable-requires-5-sync-T
is_shareable-requires-5-sync-T c κs = search (answers_sync, sendable)
