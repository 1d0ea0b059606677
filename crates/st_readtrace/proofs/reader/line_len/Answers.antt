use Rattle.std.proofs.Common.{◌∙◌}
use Rattle.st_readtrace.proofs.Closings.{found_within, newline_found}
use Rattle.st_readtrace.proofs.reader.line_len.Goals as goal

pub returns-clause-is : goal.returns-clause-is
returns-clause-is c = c.unwrap_or.ensures ∙ newline_found c.args.text.now c.memchr.result c.memchr.ensures

pub returns-clause-within : goal.returns-clause-within
returns-clause-within c = found_within c.args.text.now c.unwrap_or.result (c.unwrap_or.ensures ∙ newline_found c.args.text.now c.memchr.result c.memchr.ensures)
