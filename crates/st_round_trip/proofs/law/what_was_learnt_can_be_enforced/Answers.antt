use Rattle.st_round_trip.proofs.Enforceable.{can_be_enforced}
use Rattle.st_round_trip.proofs.law.what_was_learnt_can_be_enforced.Goals as goal

pub returns : goal.returns
returns c contents step input schedule bytes limits learning meant choices few name holds short again script_is alone ids same_emulation text there within =
    can_be_enforced c.what_is_written_is_read_again.ensures c.what_is_read_is_a_filter.ensures c.what_is_a_filter_is_read.ensures contents step input schedule bytes limits learning meant choices few name holds short
    again script_is alone ids same_emulation text there within
