use Rattle.std.proofs.Common.{◌∙◌}
use Rattle.st_lex.proofs.Words.{word_bytes_are_word}
use Rattle.st_lex.proofs.lexer.is_word_text.Goals as goal

pub returns-in_default : goal.returns-in_default
returns-in_default c = c.are_word_bytes.ensures ∙ word_bytes_are_word c.args.bytes.now c.in_default.len_at_least
