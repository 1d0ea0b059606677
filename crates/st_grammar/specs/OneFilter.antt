-- One filter alone, without a header.
use Rattle.std.specs.Prelude.{◌≡◌, ℕ, if◌then◌else◌, List, [], ◌∷◌, ◌++◌, length, Option, Some, None, Result, Ok, Err}
use Rattle.st_filter.specs.Formula.{FilterValue}
use Rattle.st_lex.specs.Tokens.{lexed_text}
use Rattle.st_lex.specs.declared.token.LexFault.{LexFault}
use Rattle.st_lex.specs.declared.token.Token.{Token}
use Rattle.st_filter.specs.declared.filter.FilterName.TheVariants as name
use Rattle.st_grammar.specs.Diagram.{GrammarState, StepResult, fresh, next, expected, step_name, is_line_symbol, lexical}
use Rattle.st_grammar.specs.Grammar.{IsFilter, symbols_in}
use Rattle.st_grammar.specs.Symbol.{Symbol, Word, Line, Broken, symbol_of}
use Rattle.st_grammar.specs.Reading.{filter_of}
use Rattle.st_grammar.specs.declared.place.Place.TheVariants as place
use Rattle.st_grammar.specs.declared.env.Env.{Env}
use Rattle.st_grammar.specs.declared.fault.PolicyFault.{PolicyFault}
use Rattle.st_grammar.specs.declared.fault.PolicyFault.TheVariants.{Lex, Expected}

-- the symbols are those of a filter, ended by a Line or by the text's end
pub data IsOneRow (row : List Symbol) : List Symbol → Type 0 where
  ToTheEnd : IsOneRow row row
  ToALine : IsOneRow row (row ++ Line ∷ [])

-- the whole text is one filter
pub record ReadsFilter (text : List ℕ) (env : Env) (filter : FilterValue) : Type 0 where
  pub whole : (lexed_text text).fault ≡ None
  pub row : List Symbol
  pub one_row : IsOneRow row (symbols_in text)
  pub is : IsFilter env row filter

-- ---- the first fault

-- a filter, or the first fault
abbrev pub FilterResult : Type 0
FilterResult = Result FilterValue PolicyFault

-- nothing may follow a filter's Line
abbrev pub after_filter : Option LexFault → FilterValue → List Token → FilterResult
after_filter broken filter (t ∷ ts) = Err (Expected t.at)
after_filter None filter [] = Ok filter
after_filter (Some fault) filter [] = Err (Lex fault)

-- a filter that the text's end ends, if it may end there
abbrev pub if_ended : StepResult → FilterResult
if_ended (Ok w) = Ok (filter_of w)
if_ended (Err fault) = Err fault

-- where no token begins no filter ends: the fault is the lexical one, or an earlier one of the grammar
abbrev pub if_broken : LexFault → StepResult → FilterResult
if_broken fault (Ok w) = Err (Lex fault)
if_broken fault (Err found) = Err (lexical fault found)

-- the result for a filter at the end of the text's tokens
abbrev pub filter_at_end : Env → ℕ → GrammarState → Option LexFault → FilterResult
filter_at_end env end w None = if_ended (next env [] w end Line)
filter_at_end env end w (Some fault) = if_broken fault (next env [] w end Broken)

-- the result for a filter of which some symbols are read, with the tokens that follow
abbrev pub filter_from : Env → List ℕ → Option LexFault → GrammarState → List Token → FilterResult
filter_from env text broken w [] = filter_at_end env (length text) w broken
filter_from env text broken w (t ∷ ts) =
    elim (next env [] w t.at (symbol_of text t)) [
      | Ok w' ↦ if is_line_symbol (symbol_of text t) then after_filter broken (filter_of w') ts else filter_from env text broken w' ts
      | Err fault ↦ Err fault
    ]

-- a filter begins with its name
abbrev pub begin_filter : Env → ℕ → Symbol → StepResult
begin_filter env at (Word word) = step_name env (fresh place.Start 0 (name.Other [])) at word
begin_filter env at _ = expected at

-- the fault of a text without a token
abbrev pub no_filter : ℕ → Option LexFault → FilterResult
no_filter end None = Err (Expected end)
no_filter end (Some fault) = Err (Lex fault)

-- the filter that tokens spell, or their first fault
abbrev pub filter_of_tokens : Env → List ℕ → Option LexFault → List Token → FilterResult
filter_of_tokens env text broken [] = no_filter (length text) broken
filter_of_tokens env text broken (t ∷ ts) =
    elim (begin_filter env t.at (symbol_of text t)) [
      | Ok w ↦ filter_from env text broken w ts
      | Err fault ↦ Err fault
    ]

-- the filter that a text is, or the text's first fault
abbrev pub filter_in : List ℕ → Env → FilterResult
filter_in text env = filter_of_tokens env text (lexed_text text).fault (lexed_text text).tokens
