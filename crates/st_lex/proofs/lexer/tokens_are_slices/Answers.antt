use Rattle.st_lex.proofs.Parts.{lexed_text-slices}
use Rattle.st_lex.proofs.lexer.tokens_are_slices.Goals as goal

pub returns : goal.returns
returns c text = lexed_text-slices text
