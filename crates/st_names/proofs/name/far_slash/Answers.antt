use Rattle.std.proofs.Common.{◌∙◌}
use Rattle.st_names.proofs.Spelled.{slash_found}
use Rattle.st_names.proofs.name.far_slash.Goals as goal

pub returns-clause-place : goal.returns-clause-place
returns-clause-place c = c.unwrap_or.ensures ∙ slash_found c.args.text.now c.memchr.result c.memchr.ensures
