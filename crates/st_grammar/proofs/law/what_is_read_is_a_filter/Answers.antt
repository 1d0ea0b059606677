use Rattle.st_grammar.proofs.OneFilters.{filter_is_sound}
use Rattle.st_grammar.proofs.law.what_is_read_is_a_filter.Goals as goal

pub returns : goal.returns
returns c = filter_is_sound
