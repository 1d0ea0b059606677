use Rattle.st_reached.proofs.Renewing.{renewed_under, renewed_version}
use Rattle.st_reached.proofs.law.a_reload_renews_the_messages_under_its_policy.Goals as goal

pub returns-clause-renewed : goal.returns-clause-renewed
returns-clause-renewed c = renewed_under

pub returns-clause-version : goal.returns-clause-version
returns-clause-version c = renewed_version
