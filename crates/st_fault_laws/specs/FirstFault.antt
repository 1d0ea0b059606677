-- What the first fault of a text is: the place at which no text that is read continues, and the fault that is reported there.
use Rattle.std.specs.Prelude.{◌≡◌, ◌⊎◌, ℕ, ◌≤◌, true, false, List, [], ◌∷◌, ◌++◌, length, map, codes, Option, Some, None}
use Rattle.st_lex.specs.declared.token.LexFault.{LexFault}
use Rattle.st_lex.specs.declared.token.Token.{Token}
use Rattle.st_lex.specs.Tokens.{lexed_text}
use Rattle.st_grammar.specs.declared.env.Env.{Env}
use Rattle.st_grammar.specs.declared.fault.PolicyFault.{PolicyFault}
use Rattle.st_grammar.specs.declared.fault.PolicyFault.TheVariants.{Lex, Expected, UnknownCall, UnknownArgument, UnknownError, UnknownUser, DuplicatePolicy, ElevateWithoutIds, ElevateOnSetId, NotSupported, AskWithLearn, TooMany}
use Rattle.st_grammar.specs.declared.fault.Unsupported.TheVariants as unsupported
use Rattle.st_filter.specs.declared.filter.FilterName.{FilterName}
use Rattle.st_filter.specs.declared.set.BinaryPolicy.{BinaryPolicy}
use Rattle.st_filter.specs.declared.set.TheConstants.{MOST_FILTERS}
use Rattle.st_filter.specs.Policies.{filters_in, has_policy}
use Rattle.st_grammar.specs.Grammar.{AreRows, AreNew, Reads, symbols_in, binary_of}
use Rattle.st_grammar.specs.Symbol.{Symbol, Word, Quoted, Colon, Comma, Open, Close, OpenBracket, Line, Broken, symbol_of}
use Rattle.st_grammar.specs.Words.{filter_name, index_in, is_label}

-- ---- what follows some tokens of a text

-- the symbol after the last token: the text's end, which ends a row, or bytes that form no token
abbrev pub symbol_at_end : Option LexFault → Symbol
symbol_at_end None = Line
symbol_at_end (Some fault) = Broken

-- the symbol at the beginning of the tokens that are left
abbrev pub symbol_here : List ℕ → List Token → Symbol
symbol_here text [] = symbol_at_end (lexed_text text).fault
symbol_here text (token ∷ tokens) = symbol_of text token

-- the offset of that symbol
abbrev pub place_here : List ℕ → List Token → ℕ
place_here text [] = length text
place_here text (token ∷ tokens) = token.at

-- the fault at the end of a text
abbrev pub fault_at_end : ℕ → Option LexFault → PolicyFault
fault_at_end at None = Expected at
fault_at_end at (Some fault) = Lex fault

-- the fault that is reported if no special one applies: no token, or a token that isn't expected
abbrev pub plain_fault : List ℕ → List Token → PolicyFault
plain_fault text [] = fault_at_end (length text) (lexed_text text).fault
plain_fault text (token ∷ tokens) = Expected token.at

-- the symbols of some tokens of a text
abbrev pub symbols_at : List ℕ → List Token → List Symbol
symbols_at text tokens = map (symbol_of text) tokens

-- ---- what may follow some symbols

-- some text that is read begins with these symbols
pub record MayContinue (env : Env) (old : List BinaryPolicy) (front : List Symbol) : Type 0 where
  pub other : List ℕ
  pub more : List Symbol
  pub set : List BinaryPolicy
  pub parts : symbols_in other ++ Line ∷ [] ≡ front ++ more
  pub reads : Reads other env old set

-- rows that are read as these policies
pub record AreRead (env : Env) (old : List BinaryPolicy) (rows : List Symbol) (policies : List BinaryPolicy) : Type 0 where
  pub are_rows : AreRows env rows policies
  pub new : AreNew old policies
  pub few : filters_in (old ++ policies) ≤ MOST_FILTERS

-- an operand has ended: a parenthesis may be closed, or the expression may end
pub data EndsOperand (env : Env) (old : List BinaryPolicy) (front : List Symbol) : Type 0 where
  InParens : MayContinue env old (front ++ Close ∷ []) → EndsOperand env old front
  Whole : MayContinue env old (front ++ Word (codes "then") ∷ Word (codes "permit") ∷ []) → EndsOperand env old front

-- an operand may occur here
abbrev pub TakesOperand : Env → List BinaryPolicy → List Symbol → Type 0
TakesOperand env old front = EndsOperand env old (front ++ Word (codes "true") ∷ [])

-- an operator and a text may occur here
abbrev pub TakesOperator : Env → List BinaryPolicy → List Symbol → Type 0
TakesOperator env old front = MayContinue env old (front ++ Word (codes "eq") ∷ Quoted (codes "\"\"") ∷ [])

-- an action may occur here
abbrev pub TakesAction : Env → List BinaryPolicy → List Symbol → Type 0
TakesAction env old front = MayContinue env old (front ++ Word (codes "deny") ∷ OpenBracket ∷ [])

-- an id may occur here
abbrev pub TakesId : Env → List BinaryPolicy → List Symbol → Type 0
TakesId env old front = MayContinue env old (front ++ Word (codes "0") ∷ Line ∷ [])

-- symbols end with `permit` where an action may occur, or with `log` after such a `permit`
pub data AfterPermit (env : Env) (old : List BinaryPolicy) (symbols : List Symbol) : Type 0 where
  Permitted : (front : List Symbol) → symbols ≡ front ++ Word (codes "permit") ∷ [] → TakesAction env old front → AfterPermit env old symbols
  Logged : (front : List Symbol) → symbols ≡ front ++ Word (codes "permit") ∷ Word (codes "log") ∷ [] → TakesAction env old front → AfterPermit env old symbols

-- this token is a label, at a place where an operand may occur
pub record IsLabelAt (text : List ℕ) (env : Env) (old : List BinaryPolicy) (front : List Token) (label : Token) : Type 0 where
  pub word : List ℕ
  pub symbol_is : symbol_of text label ≡ Word word
  pub labels : is_label word ≡ true
  pub takes : TakesOperand env old (symbols_at text front)

-- ---- the fault of a symbol that doesn't fit

-- the special faults of a symbol, by what may occur at its place
pub data IsSpecial (text : List ℕ) (env : Env) (old : List BinaryPolicy) (before : List Token) (at : ℕ) : Symbol → PolicyFault → Type 0 where
  NoCall : (ps : List BinaryPolicy) (p : BinaryPolicy) (word : List ℕ) → AreRead env old (symbols_at text before) (ps ++ p ∷ []) → filter_name word env.emulation ≡ None →
      IsSpecial text env old before at (Word word) (UnknownCall at)
  ManyFilters : (ps : List BinaryPolicy) (p : BinaryPolicy) (word : List ℕ) (name : FilterName) → AreRead env old (symbols_at text before) (ps ++ p ∷ []) → filter_name word env.emulation ≡ Some name →
      filters_in (old ++ (ps ++ p ∷ [])) ≡ MOST_FILTERS → IsSpecial text env old before at (Word word) (TooMany at)
  Twice : (rows : List Symbol) (ps : List BinaryPolicy) (here : Symbol) (binary : List ℕ) → symbols_at text before ≡ rows ++ Word (codes "Policy") ∷ Colon ∷ [] → AreRead env old rows ps →
      binary_of env here ≡ Some binary → has_policy (old ++ ps) binary ≡ true → IsSpecial text env old before at here (DuplicatePolicy at)
  OtherEmulation : (front : List Symbol) (word : List ℕ) → symbols_at text before ≡ front ++ Comma ∷ Word (codes "Emulation") ∷ Colon ∷ [] →
      IsSpecial text env old before at (Word word) (NotSupported at unsupported.Emulation)
  -- `not`, `and`, `or` and `(` if there may be no more of them
  ManyOpening : (here : Symbol) → (here ≡ Open) ⊎ (here ≡ Word (codes "not")) → TakesOperand env old (symbols_at text before) → IsSpecial text env old before at here (TooMany at)
  ManyJoining : (here : Symbol) → (here ≡ Word (codes "and")) ⊎ (here ≡ Word (codes "or")) → EndsOperand env old (symbols_at text before) → IsSpecial text env old before at here (TooMany at)
  -- a label that no argument has, and a label that no argument has with this index
  NoLabel : (word : List ℕ) → is_label word ≡ true → TakesOperand env old (symbols_at text before) → IsSpecial text env old before at (Word word) (UnknownArgument at)
  NoIndex : (front : List Token) (label bracket : Token) (word : List ℕ) (index : ℕ) → before ≡ front ++ label ∷ bracket ∷ [] → IsLabelAt text env old front label → symbol_of text bracket ≡ OpenBracket →
      index_in word ≡ Some index → IsSpecial text env old before at (Word word) (UnknownArgument label.at)
  NoRe : TakesOperator env old (symbols_at text before) → IsSpecial text env old before at (Word (codes "re")) (NotSupported at unsupported.Re)
  Learns : env.learn ≡ true → TakesAction env old (symbols_at text before) → IsSpecial text env old before at (Word (codes "ask")) (AskWithLearn at)
  NoError : (front : List Symbol) (word : List ℕ) → symbols_at text before ≡ front ++ Word (codes "deny") ∷ OpenBracket ∷ [] → IsSpecial text env old before at (Word word) (UnknownError at)
  NoIds : env.elevate ≡ false → AfterPermit env old (symbols_at text before) → IsSpecial text env old before at (Word (codes "as")) (ElevateWithoutIds at)
  SetsIds : env.elevate ≡ true → AfterPermit env old (symbols_at text before) → IsSpecial text env old before at (Word (codes "as")) (ElevateOnSetId at)
  NoUser : (word : List ℕ) → TakesId env old (symbols_at text before) → IsSpecial text env old before at (Word word) (UnknownUser at)

-- the fault of the first token that is left: a special one, or, if none applies, the plain fault
pub data Reports (text : List ℕ) (env : Env) (old : List BinaryPolicy) (before following : List Token) : PolicyFault → Type 0 where
  Specially : (fault : PolicyFault) → IsSpecial text env old before (place_here text following) (symbol_here text following) fault → Reports text env old before following fault
  Otherwise : ((fault : PolicyFault) → IsSpecial text env old before (place_here text following) (symbol_here text following) fault → ⊥) → Reports text env old before following (plain_fault text following)

-- ---- the first fault

-- some text that is read begins with the tokens before the fault, none begins with the symbol there as well, and this is its fault
pub record IsFirstFault (text : List ℕ) (env : Env) (old : List BinaryPolicy) (fault : PolicyFault) : Type 0 where
  pub before : List Token
  pub following : List Token
  pub parts : (lexed_text text).tokens ≡ before ++ following
  pub goes_on : MayContinue env old (symbols_at text before)
  pub stops : MayContinue env old (symbols_at text before ++ symbol_here text following ∷ []) → ⊥
  pub reported : Reports text env old before following fault
