-- Filters that a session keeps.
use Rattle.st_filter.specs.Formula.{FilterValue}
use Rattle.st_learn.specs.declared.kept_filter.KeptFilter.{KeptFilter}
use Rattle.st_learn.specs.declared.kept_filter.KeptFilter.TheVariants.{Learnt, Replied}

-- the filter, wherever it stands
abbrev pub filter_of : KeptFilter → FilterValue
filter_of (Learnt filter) = filter
filter_of (Replied filter) = filter.now
