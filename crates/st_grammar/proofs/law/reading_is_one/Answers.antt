use Rattle.st_grammar.proofs.Complete.{reads-once, faultless-iff}
use Rattle.st_grammar.proofs.law.reading_is_one.Goals as goal

pub returns-clause-one : goal.returns-clause-one
returns-clause-one c = reads-once

pub returns-clause-faultless : goal.returns-clause-faultless
returns-clause-faultless c = faultless-iff
