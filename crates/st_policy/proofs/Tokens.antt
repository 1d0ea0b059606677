-- The next token of a text.
use Rattle.std.proofs.Common.{◌≡◌, Option, Some, Ok, subst}
use Rattle.st_lex.specs.declared.token.Lexed.{Lexed}
use Rattle.st_lex.specs.declared.token.Token.{Token}
use Rattle.st_lex.specs.Tokens.{IsNextToken, with_token}

-- the token that was returned was the first of those left
pub in_front : {came : Option Token} {token : Token} {old new : Lexed} → came ≡ Some token → IsNextToken (Ok came) old new → old ≡ with_token token new
in_front {came} {token} {old} {new} e h = subst (λ next. IsNextToken (Ok next) old new) e h
