use Rattle.st_reading.proofs.Runnable.{replay_can_run}
use Rattle.st_reading.proofs.law.what_is_meant_to_be_replayed_can_run.Goals as goal

pub returns : goal.returns
returns c = replay_can_run c.what_is_replied_grants_no_ids_for_setting.ensures c.what_is_reloaded_grants_no_ids_for_setting.ensures
