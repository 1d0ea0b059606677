use Rattle.st_round_trip.proofs.Enforced.{is_enforced}
use Rattle.st_round_trip.proofs.law.what_was_learnt_is_enforced.Goals as goal

pub returns : goal.returns
returns c contents step input schedule bytes limits learning meant choices few name holds again script_is alone ids same_emulation other later meant_again =
    is_enforced c.what_is_written_is_read_again.ensures contents step input schedule bytes limits learning meant choices few c.what_was_made_is_permitted_by_what_is_written.ensures.permitted name holds again script_is alone ids same_emulation
    other later meant_again
