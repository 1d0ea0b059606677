use Rattle.st_law.proofs.LinksMet as links
use Rattle.st_law.proofs.law.the_first_link_in_the_way_counts.Goals as goal

pub returns-clause-on_way : goal.returns-clause-on_way
returns-clause-on_way c = links.on_way

pub returns-clause-call : goal.returns-clause-call
returns-clause-call c = links.call_meets
