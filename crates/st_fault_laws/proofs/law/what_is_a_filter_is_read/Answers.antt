use Rattle.st_fault_laws.proofs.FilterReadings.{filter-complete}
use Rattle.st_fault_laws.proofs.law.what_is_a_filter_is_read.Goals as goal

pub returns : goal.returns
returns c = filter-complete c.what_is_read_is_a_filter.ensures
