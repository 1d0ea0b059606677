use Rattle.st_wordmem.proofs.WordSteps.{begins}
use Rattle.st_wordmem.proofs.memory.table_of.Goals as goal

pub of_words-requires : goal.of_words-requires
of_words-requires c = begins _ _ _ c.requires
