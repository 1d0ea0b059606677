use Rattle.st_top.proofs.Learning.{permits_what_was_made}
use Rattle.st_top.proofs.law.what_was_made_is_permitted_by_what_is_written.Goals as goal

pub returns-clause-permitted : goal.returns-clause-permitted
returns-clause-permitted c contents step input schedule limits learns meant =
    permits_what_was_made c.what_is_meant_to_run_can_run.ensures c.what_was_made_is_permitted_by_what_was_learnt.ensures contents step input schedule limits learns meant
