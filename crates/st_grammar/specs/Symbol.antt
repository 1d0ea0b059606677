-- Tokens as the grammar of policies sees them.
use Rattle.std.specs.Prelude.{ℕ, List}
use Rattle.st_lex.specs.declared.token.Token.{Token}
use Rattle.st_lex.specs.declared.token.TokenKind.{TokenKind}
use Rattle.st_lex.specs.declared.token.TokenKind.TheVariants as kind
use Rattle.st_lex.specs.Text.{text_of_token}
use Rattle.st_grammar.specs.declared.symbol.Symbol as declared
use Rattle.st_grammar.specs.declared.symbol.Symbol.TheVariants as variant

-- a token as the grammar of policies sees it
pub data Symbol : Type 0 where
  Word : List ℕ → Symbol
  -- a quoted text as it was written, with its quotes
  Quoted : List ℕ → Symbol
  Colon : Symbol
  Comma : Symbol
  Open : Symbol
  Close : Symbol
  OpenBracket : Symbol
  CloseBracket : Symbol
  Equal : Symbol
  NotEqual : Symbol
  Less : Symbol
  Greater : Symbol
  Line : Symbol
  -- bytes that form no token
  Broken : Symbol

-- the symbol of a token, by its kind and its bytes
abbrev pub symbol_by : TokenKind → List ℕ → Symbol
symbol_by kind.Word text = Word text
symbol_by kind.Quoted text = Quoted text
symbol_by kind.Colon text = Colon
symbol_by kind.Comma text = Comma
symbol_by kind.Open text = Open
symbol_by kind.Close text = Close
symbol_by kind.OpenBracket text = OpenBracket
symbol_by kind.CloseBracket text = CloseBracket
symbol_by kind.Equal text = Equal
symbol_by kind.NotEqual text = NotEqual
symbol_by kind.Less text = Less
symbol_by kind.Greater text = Greater
symbol_by kind.Line text = Line

-- the symbol of a token of a text
abbrev pub symbol_of : List ℕ → Token → Symbol
symbol_of text token = symbol_by token.kind (text_of_token text token)

-- a symbol of the code as its abstract symbol, without where its bytes are in memory
abbrev pub seen : declared.Symbol → Symbol
seen (variant.Word bytes) = Word bytes.now
seen (variant.Quoted bytes) = Quoted bytes.now
seen variant.Colon = Colon
seen variant.Comma = Comma
seen variant.Open = Open
seen variant.Close = Close
seen variant.OpenBracket = OpenBracket
seen variant.CloseBracket = CloseBracket
seen variant.Equal = Equal
seen variant.NotEqual = NotEqual
seen variant.Less = Less
seen variant.Greater = Greater
seen variant.Line = Line
seen variant.Broken = Broken
