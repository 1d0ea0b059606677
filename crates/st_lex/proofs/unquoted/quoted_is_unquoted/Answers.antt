use Rattle.st_lex.proofs.Unquotes.{unquoted-quoted, unquoted_plain-quoted}
use Rattle.st_lex.proofs.unquoted.quoted_is_unquoted.Goals as goal

pub returns-clause-named : goal.returns-clause-named
returns-clause-named c = unquoted-quoted

pub returns-clause-plain : goal.returns-clause-plain
returns-clause-plain c = unquoted_plain-quoted
