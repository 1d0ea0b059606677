use Rattle.st_lex.proofs.Pieces.{print_is_read}
use Rattle.st_lex.proofs.lexer.pieces_are_tokens.Goals as goal

pub returns : goal.returns
returns c = print_is_read
