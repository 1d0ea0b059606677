-- Texts without comments and lexical faults.
use Rattle.std.specs.Prelude.{ℕ, ◌==◌, if◌then◌else◌, List, Option, Some, None}
use Rattle.std.specs.List.{list_any}
use Rattle.st_lex.specs.declared.token.LexFault.{LexFault}
use Rattle.st_lex.specs.declared.token.Token.{Token}
use Rattle.st_lex.specs.Tokens.{lexed_text}

-- the byte `#`
abbrev pub hash : ℕ
hash = 35

-- these tokens, if there is no lexical fault
abbrev pub unless_faulty : List Token → Option LexFault → Option (List Token)
unless_faulty tokens None = Some tokens
unless_faulty tokens (Some fault) = None

-- the tokens of a text that has no `#` and no lexical fault
abbrev pub plain_tokens : List ℕ → Option (List Token)
plain_tokens text =
    if list_any (λ b. b == hash) text then None
    else unless_faulty (lexed_text text).tokens (lexed_text text).fault
