use Rattle.st_report.proofs.PlayedAgain.{played_again}
use Rattle.st_report.proofs.Repeats.{joined, no_others, one_more_choice, spelled_again}
use Rattle.st_report.proofs.schedule.a_printed_schedule_is_its_choices.Goals as goal

pub returns-clause-spelled : goal.returns-clause-spelled
returns-clause-spelled c = spelled_again

pub returns-clause-joined : goal.returns-clause-joined
returns-clause-joined c = joined

pub returns-clause-only : goal.returns-clause-only
returns-clause-only c = no_others

pub returns-clause-more : goal.returns-clause-more
returns-clause-more c = one_more_choice

pub returns-clause-played : goal.returns-clause-played
returns-clause-played c = played_again
