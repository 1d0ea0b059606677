use Rattle.st_request.proofs.Stay.{started_real, stay_real}
use Rattle.st_request.proofs.laws.open_files_stay_real.Goals as goal

pub returns-clause-changes : goal.returns-clause-changes
returns-clause-changes c = stay_real

pub returns-clause-start : goal.returns-clause-start
returns-clause-start c = started_real
