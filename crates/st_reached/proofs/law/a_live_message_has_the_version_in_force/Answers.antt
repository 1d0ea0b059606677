use Rattle.st_reached.proofs.Renewing.{live_process, live_version}
use Rattle.st_reached.proofs.law.a_live_message_has_the_version_in_force.Goals as goal

pub returns-clause-process : goal.returns-clause-process
returns-clause-process c = live_process

pub returns-clause-version : goal.returns-clause-version
returns-clause-version c = live_version
