use Rattle.st_law.proofs.Living as living
use Rattle.st_law.proofs.looking_back.a_number_lives_since_it_was_posted.Goals as goal

pub returns-clause-since : goal.returns-clause-since
returns-clause-since c = living.since

pub returns-clause-lives : goal.returns-clause-lives
returns-clause-lives c = living.lives
