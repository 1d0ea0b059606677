use Rattle.st_round_trip.proofs.ReadAgain.{read_again}
use Rattle.st_round_trip.proofs.law.what_is_written_is_read_again.Goals as goal

pub returns : goal.returns
returns c contents step input schedule bytes limits learns meant script is_script choices few =
    read_again c.what_is_meant_to_run_can_run.ensures c.what_was_read_is_what_can_be_written.ensures c.what_a_script_says_can_be_written.ensures c.what_a_run_adds_can_be_written.ensures.session
    c.what_a_run_adds_can_be_written.ensures.in_force c.what_a_run_adds_can_be_written.ensures.changed c.learnt_text_is_read_again.ensures c.reading_is_one.ensures.one contents step input schedule bytes limits learns meant script is_script choices few
