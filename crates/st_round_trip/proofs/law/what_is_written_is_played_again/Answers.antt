use Rattle.st_round_trip.proofs.PlayedAgain.{plays_again}
use Rattle.st_round_trip.proofs.law.what_is_written_is_played_again.Goals as goal

pub returns : goal.returns
returns c contents step input schedule limits meant choices played name there fits =
    plays_again c.what_is_meant_to_run_can_run.ensures c.a_printed_schedule_is_read_again.ensures.played contents step input schedule limits meant choices played name there fits
