use Rattle.std.proofs.Common.{◌∙◌, ap}
use Rattle.st_compile.specs.Arguments.{are_distinct}
use Rattle.st_compile.proofs.Arguments.{all_distinct}
use Rattle.st_compile.proofs.filter.CompiledFilter.new.Goals as goal

pub compiled-requires : goal.compiled-requires
compiled-requires c = ap are_distinct c.args_of_name.ensures ∙ all_distinct c.name.result.now
