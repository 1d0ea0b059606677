use Rattle.st_lex.proofs.Prints.{lexed_text-quoted}
use Rattle.st_lex.proofs.quoted.quoted_is_one_token.Goals as goal

pub returns : goal.returns
returns c bytes a = lexed_text-quoted bytes a
