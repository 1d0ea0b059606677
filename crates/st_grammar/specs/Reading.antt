-- Reading texts place by place, and their first faults.
use Rattle.std.specs.Prelude.{ℕ, Bool, true, false, ◌&&◌, if◌then◌else◌, List, [], ◌∷◌, ◌++◌, map, length, Option, Some, None, option_map, Result, Ok, Err}
use Rattle.st_lex.specs.declared.token.LexFault.{LexFault}
use Rattle.st_lex.specs.declared.token.Token.{Token}
use Rattle.st_lex.specs.Tokens.{lexed_text}
use Rattle.st_filter.specs.Formula.{FilterValue}
use Rattle.st_filter.specs.Policies.{add_filter, filters_in}
use Rattle.st_filter.specs.declared.filter.FilterName.TheVariants as name
use Rattle.st_filter.specs.declared.set.BinaryPolicy.{BinaryPolicy}
use Rattle.st_grammar.specs.declared.env.Env.{Env}
use Rattle.st_grammar.specs.declared.fault.PolicyFault.{PolicyFault}
use Rattle.st_grammar.specs.declared.fault.PolicyRefusal.{PolicyRefusal}
use Rattle.st_grammar.specs.declared.place.Place.{Place}
use Rattle.st_grammar.specs.declared.place.Place.TheVariants as place
use Rattle.st_grammar.specs.Diagram.{GrammarState, StepResult, fresh, next, is_line_symbol, lexical}
use Rattle.st_grammar.specs.Grammar.{binary_of}
use Rattle.st_grammar.specs.Symbol.{Symbol, Line, Broken, symbol_of}

-- ---- places

-- whether this is the place of a header's binary
abbrev pub is_binary_place : Place → Bool
is_binary_place place.Binary = true
is_binary_place _ = false

-- whether no row has begun at this place
abbrev pub is_between_rows : Place → Bool
is_between_rows place.Start = true
is_between_rows place.Row = true
is_between_rows _ = false

-- whether a Line at this place ends a filter
abbrev pub ends_filter : Place → Bool
ends_filter place.Denial = true
ends_filter (place.Tail grant log) = true
ends_filter (place.User log) = true
ends_filter place.FilterEnd = true
ends_filter _ = false

-- ---- policies

-- the filter that was read
abbrev pub filter_of : GrammarState → FilterValue
filter_of w = record { name = w.name; formula = w.expression.formula; action = w.action; grant = w.grant; log = w.log; predicate = w.predicate }

-- the state at the beginning of the next row, after the filter was taken
abbrev pub taken : GrammarState → GrammarState
taken w = fresh place.Row w.filters w.name

-- a policy without filters for this binary, if there is one
abbrev pub new_policy : Option (List ℕ) → List BinaryPolicy
new_policy None = []
new_policy (Some binary) = record { binary = binary; filters = [] } ∷ []

-- the binaries of policies, in order
abbrev pub binaries : List BinaryPolicy → List (List ℕ)
binaries policies = map (λ p. p.binary) policies

-- ---- reading

-- how far a text has been read
pub record Reading : Type 0 where
  pub walk : GrammarState
  -- the policies read before and those of this text
  pub set : List BinaryPolicy

-- the reading with this state and these policies
abbrev pub as_reading : GrammarState → List BinaryPolicy → Reading
as_reading w set = record { walk = w; set = set }

-- the reading of a text of which nothing has been read yet, after the policies read before
abbrev pub first_reading : List BinaryPolicy → Reading
first_reading old = as_reading (fresh place.Start (filters_in old) (name.Other [])) old

-- the reading after a symbol that was accepted at a place: a binary begins a policy, the end of a filter adds the filter
abbrev pub reading_after : Env → Place → Symbol → List BinaryPolicy → GrammarState → Reading
reading_after env place.Binary s set w = as_reading w (set ++ new_policy (binary_of env s))
reading_after env p s set w = if ends_filter p && is_line_symbol s then as_reading (taken w) (add_filter set (filter_of w)) else as_reading w set

-- the reading after a symbol, by the symbol's result in the grammar
abbrev pub reading_step : Env → Reading → Symbol → StepResult → Result Reading PolicyFault
reading_step env r s (Err fault) = Err fault
reading_step env r s (Ok w) = Ok (reading_after env r.walk.place s r.set w)

-- the reading after a symbol, or the symbol's fault
abbrev pub read_step : Env → Reading → ℕ → Symbol → Result Reading PolicyFault
read_step env r at s = reading_step env r s (next env (binaries r.set) r.walk at s)

-- the same where no token begins: the lexical fault replaces that of an unexpected symbol
abbrev pub unless_lexical : LexFault → Result Reading PolicyFault → Result Reading PolicyFault
unless_lexical fault (Ok r) = Ok r
unless_lexical fault (Err found) = Err (lexical fault found)

-- the reading after the end of a text, which ends a row, or after bytes that form no token
abbrev pub read_end : Env → List ℕ → Option LexFault → Reading → Result Reading PolicyFault
read_end env text None r = read_step env r (length text) Line
read_end env text (Some fault) r = unless_lexical fault (read_step env r (length text) Broken)

-- a text's reading, or why it is refused and where in the grammar
abbrev pub Refusable : Type 0
Refusable = Result Reading PolicyRefusal

-- a result with the place in the grammar added to its fault
abbrev pub or_refused : Reading → Result Reading PolicyFault → Refusable
or_refused r (Ok r') = Ok r'
or_refused r (Err fault) = Err (record { fault = fault; place = r.walk.place })

-- the reading of these tokens and the text's end, or their first fault
abbrev pub read_from : Env → List ℕ → Option LexFault → Reading → List Token → Refusable
read_from env text broken r [] = or_refused r (read_end env text broken r)
read_from env text broken r (t ∷ ts) =
    elim (read_step env r t.at (symbol_of text t)) [
      | Ok r' ↦ read_from env text broken r' ts
      | Err fault ↦ Err (record { fault = fault; place = r.walk.place })
    ]

-- the reading of a text after the policies that were read before
abbrev pub reading_of : List ℕ → Env → List BinaryPolicy → Refusable
reading_of text env old = read_from env text (lexed_text text).fault (first_reading old) (lexed_text text).tokens

-- why a text is refused, if it is
abbrev pub refusal_of : Refusable → Option PolicyRefusal
refusal_of (Ok r) = None
refusal_of (Err refusal) = Some refusal

-- the first fault of a text that is read after earlier policies, with its place in the grammar
abbrev pub refusal_in : List ℕ → Env → List BinaryPolicy → Option PolicyRefusal
refusal_in text env old = refusal_of (reading_of text env old)

-- the fault for which a text is refused, if it is
abbrev pub fault_of : Refusable → Option PolicyFault
fault_of x = option_map (λ refusal. refusal.fault) (refusal_of x)

-- the first fault of a text that is read after earlier policies
abbrev pub fault_in : List ℕ → Env → List BinaryPolicy → Option PolicyFault
fault_in text env old = fault_of (reading_of text env old)

-- the policies that were read, or why they are refused
abbrev pub set_of : Refusable → Result (List BinaryPolicy) PolicyRefusal
set_of (Ok r) = Ok r.set
set_of (Err refusal) = Err refusal

-- the earlier policies followed by those of a text, or the text's first fault
abbrev pub policies_in : List ℕ → Env → List BinaryPolicy → Result (List BinaryPolicy) PolicyRefusal
policies_in text env old = set_of (reading_of text env old)
