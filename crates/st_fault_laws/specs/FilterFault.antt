-- What the first fault of a filter alone is: that of a policy in which the filter follows a header.
use Rattle.std.specs.Prelude.{◌≡◌, ◌≢◌, ℕ, ◌+◌, List, [], ◌∷◌, ◌++◌, length, codes, Option, Some, None}
use Rattle.st_lex.specs.declared.token.LexFault.{LexFault}
use Rattle.st_lex.specs.declared.token.Token.{Token}
use Rattle.st_lex.specs.Quoted.{newline, shifted_fault}
use Rattle.st_lex.specs.Tokens.{lexed_text}
use Rattle.st_emulation.specs.Words.{word_of}
use Rattle.st_emulation.specs.declared.emulation.Emulation.{Emulation}
use Rattle.st_grammar.specs.declared.env.Env.{Env}
use Rattle.st_grammar.specs.declared.fault.PolicyFault.{PolicyFault}
use Rattle.st_grammar.specs.declared.fault.PolicyFault.TheVariants.{Lex, Expected, UnknownCall, UnknownArgument, UnknownError, UnknownUser, DuplicatePolicy, ElevateWithoutIds, ElevateOnSetId, NotSupported, AskWithLearn, TooMany, NoMemory}
use Rattle.st_filter.specs.Formula.{FilterValue}
use Rattle.st_grammar.specs.Grammar.{IsFilter}
use Rattle.st_grammar.specs.Symbol.{Symbol, Word, Line, symbol_of}
use Rattle.st_fault_laws.specs.FirstFault.{symbols_at, plain_fault, IsFirstFault}

-- the line of a header, after which a filter with the emulation's prefix may follow
abbrev pub header : Emulation → List ℕ
header emulation = codes "Policy: /a, Emulation: " ++ word_of emulation ++ newline ∷ []

-- the same fault, this many bytes later in the text
abbrev pub moved : ℕ → PolicyFault → PolicyFault
moved n (Lex fault) = Lex (shifted_fault n fault)
moved n (Expected at) = Expected (n + at)
moved n (UnknownCall at) = UnknownCall (n + at)
moved n (UnknownArgument at) = UnknownArgument (n + at)
moved n (UnknownError at) = UnknownError (n + at)
moved n (UnknownUser at) = UnknownUser (n + at)
moved n (DuplicatePolicy at) = DuplicatePolicy (n + at)
moved n (ElevateWithoutIds at) = ElevateWithoutIds (n + at)
moved n (ElevateOnSetId at) = ElevateOnSetId (n + at)
moved n (NotSupported at what) = NotSupported (n + at) what
moved n (AskWithLearn at) = AskWithLearn (n + at)
moved n (TooMany at) = TooMany (n + at)
moved n NoMemory = NoMemory

-- the first token of a text is this Word
pub record BeginsWithWord (text word : List ℕ) : Type 0 where
  pub first : Token
  pub others : List Token
  pub parts : (lexed_text text).tokens ≡ first ∷ others
  pub is_word : symbol_of text first ≡ Word word

-- none of the symbols is a line's end
abbrev pub AreInLine : List Symbol → Type 0
AreInLine [] = Unit {0}
AreInLine (s ∷ ss) = (s ≢ Line) × AreInLine ss

-- there is a further token, or bytes that form none
abbrev pub IsMore : Option LexFault → List Token → Type 0
IsMore (Some fault) following = Unit {0}
IsMore None [] = ⊥
IsMore None (token ∷ tokens) = Unit {0}

-- the first line is a filter, and more follows its end
pub record EndsEarly (text : List ℕ) (env : Env) : Type 0 where
  pub row : List Token
  pub line : Token
  pub following : List Token
  pub parts : (lexed_text text).tokens ≡ row ++ line ∷ following
  pub in_line : AreInLine (symbols_at text row)
  pub ends : symbol_of text line ≡ Line
  pub filter : FilterValue
  pub is_filter : IsFilter env (symbols_at text row) filter
  pub more : IsMore (lexed_text text).fault following

-- the first fault of a text that should be one filter; at most one of the four cases applies to each text
pub data IsFirstFilterFault (text : List ℕ) (env : Env) : PolicyFault → Type 0 where
  -- a filter begins with a Word, and not even a blank line may come before it
  NoName : ((word : List ℕ) → BeginsWithWord text word → ⊥) → IsFirstFilterFault text env (plain_fault text (lexed_text text).tokens)
  -- a header is no filter, and `Policy` is no name
  Headed : (b : BeginsWithWord text (codes "Policy")) → IsFirstFilterFault text env (UnknownCall b.first.at)
  -- nothing may follow a filter
  AfterRow : (e : EndsEarly text env) → IsFirstFilterFault text env (plain_fault text e.following)
  -- a policy with this text after the header has the same first fault, moved by the header's length
  InRow : (word : List ℕ) (fault : PolicyFault) → BeginsWithWord text word → word ≢ codes "Policy" → (EndsEarly text env → ⊥) → IsFirstFault (header env.emulation ++ text) env [] (moved (length (header env.emulation)) fault) → IsFirstFilterFault text env fault
