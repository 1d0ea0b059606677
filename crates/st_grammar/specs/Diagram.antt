-- The symbols that may follow at each place of the grammar, what each spells, where it leads, and the fault of any other symbol.
use Rattle.std.specs.Prelude.{◌≡◌, ◌≢◌, ℕ, ◌+◌, ◌-◌, Bool, true, false, ◌&&◌, ◌||◌, ◌==◌, if◌then◌else◌, nat_lt, List, [], codes, Option, Some, None, option_map, Result, Ok, Err}
use Rattle.std.specs.List.{list_any}
use Rattle.std.specs.Str.{bytes_eq}
use Rattle.st_base.specs.declared.errno.Errno.TheVariants.{EPERM}
use Rattle.st_base.specs.Errno.{error_named}
use Rattle.st_lex.specs.declared.token.LexFault.{LexFault}
use Rattle.st_lex.specs.Unquote.{unquoted}
use Rattle.st_emulation.specs.Words.{word_of}
use Rattle.st_filter.specs.Formula.{Formula, True, Test}
use Rattle.st_filter.specs.declared.filter.Action.{Action}
use Rattle.st_filter.specs.declared.filter.Action.TheVariants.{Permit, Deny, Ask}
use Rattle.st_filter.specs.declared.filter.Cmp.{Cmp}
use Rattle.st_filter.specs.declared.filter.Cmp.TheVariants.{Same}
use Rattle.st_filter.specs.declared.filter.FilterName.{FilterName}
use Rattle.st_filter.specs.declared.filter.Grant.{Grant}
use Rattle.st_filter.specs.declared.filter.Op.{Op}
use Rattle.st_filter.specs.declared.filter.Op.TheVariants.{Eq}
use Rattle.st_filter.specs.declared.filter.Predicate.{Predicate}
use Rattle.st_filter.specs.declared.filter.Who.{Who}
use Rattle.st_filter.specs.declared.set.TheConstants.{MOST_FILTERS}
use Rattle.st_filter.specs.Policies.{names_set_id_call}
use Rattle.st_grammar.specs.declared.env.Env.{Env}
use Rattle.st_grammar.specs.declared.env.NamedId.{NamedId}
use Rattle.st_grammar.specs.declared.fault.PolicyFault.{PolicyFault}
use Rattle.st_grammar.specs.declared.fault.PolicyFault.TheVariants.{Lex, Expected, UnknownCall, UnknownArgument, UnknownError, UnknownUser, DuplicatePolicy, ElevateWithoutIds, ElevateOnSetId, NotSupported, AskWithLearn, TooMany, NoMemory}
use Rattle.st_grammar.specs.declared.fault.Unsupported.TheVariants as unsupported
use Rattle.st_grammar.specs.declared.place.Place.{Place}
use Rattle.st_grammar.specs.declared.place.Place.TheVariants as place
use Rattle.st_grammar.specs.Expression.{PendingOperand, Negation, Group, Reduced, reduced, close_group, with_pending, with_operand, without_either, joins_both, joins_either}
use Rattle.st_grammar.specs.Grammar.{most_joins, binary_of, who_named, comparison}
use Rattle.st_grammar.specs.Symbol.{Symbol, Word, Quoted, Colon, Comma, Open, Close, OpenBracket, CloseBracket, Line}
use Rattle.st_grammar.specs.Words.{is_label, filter_name, may_test, may_test_label, op_named, index_in, id_in, names_for}

-- how far the reader has come in the grammar
pub record GrammarState : Type 0 where
  pub place : Place
  -- how many filters have been read, those of earlier files and the current one included
  pub filters : ℕ
  -- the name of the current filter
  pub name : FilterName
  -- the current label, and its offset in the text
  pub label : List ℕ
  pub label_at : ℕ
  pub index : ℕ
  pub op : Op
  -- how many parentheses are open, and how many joins the filter's expression has
  pub parens : ℕ
  pub joins : ℕ
  -- the parts of the current filter that were read after its name
  pub expression : Reduced
  pub action : Action
  pub grant : Option Grant
  pub log : Bool
  pub cmp : Cmp
  pub predicate : Option Predicate

-- the state at this place after this many filters, with the name of the last, before anything else of the row is read
abbrev pub fresh : Place → ℕ → FilterName → GrammarState
fresh at filters name = record {
  place = at;
  filters = filters;
  name = name;
  label = [];
  label_at = 0;
  index = 0;
  op = Eq;
  parens = 0;
  joins = 0;
  expression = reduced [] True;
  action = Permit;
  grant = None;
  log = false;
  cmp = Same;
  predicate = None;
}

-- the result of a symbol: the state of the reader after it, or a fault
abbrev pub StepResult : Type 0
StepResult = Result GrammarState PolicyFault

-- the result of a step of the reader and the state after it agree with a result of the grammar, unless it ran out of memory
abbrev pub IsStepped : Result (Unit {0}) PolicyFault → GrammarState → StepResult → Type 0
IsStepped (Ok nothing) w step = step ≡ Ok w
IsStepped (Err fault) w step = fault ≢ NoMemory → step ≡ Err fault

-- the symbol may occur here, and this is the next place
abbrev pub step_to : GrammarState → Place → StepResult
step_to w then_at = Ok (record w { place = then_at })

-- the symbol isn't one that may occur here
abbrev pub expected : ℕ → StepResult
expected at = Err (Expected at)

-- goes on with what was understood; otherwise this is the fault
abbrev pub found : {A : Type 0} → PolicyFault → (A → StepResult) → Option A → StepResult
found fault leads (Some x) = leads x
found fault leads None = Err fault

-- only one symbol may occur here
abbrev pub only : GrammarState → ℕ → Bool → Place → StepResult
only w at fits then_at = if fits then step_to w then_at else expected at

-- whether a symbol is this Word
abbrev pub is_word_symbol : List ℕ → Symbol → Bool
is_word_symbol keyword (Word w) = bytes_eq w keyword
is_word_symbol keyword _ = false

-- whether a symbol is a colon
abbrev pub is_colon_symbol : Symbol → Bool
is_colon_symbol Colon = true
is_colon_symbol _ = false

-- whether a symbol is a comma
abbrev pub is_comma_symbol : Symbol → Bool
is_comma_symbol Comma = true
is_comma_symbol _ = false

-- whether a symbol is a closing bracket
abbrev pub is_close_bracket : Symbol → Bool
is_close_bracket CloseBracket = true
is_close_bracket _ = false

-- whether a symbol is a line's end
abbrev pub is_line_symbol : Symbol → Bool
is_line_symbol Line = true
is_line_symbol _ = false

-- ---- rows and headers

-- before the first header: a blank line, or `Policy`
abbrev pub step_start : GrammarState → ℕ → Symbol → StepResult
step_start w at Line = step_to w place.Start
step_start w at (Word word) = only w at (bytes_eq word (codes "Policy")) place.PolicyColon
step_start w at _ = expected at

-- at a filter's name, unless there are already too many filters
abbrev pub step_name : Env → GrammarState → ℕ → List ℕ → StepResult
step_name env w at word =
    found (UnknownCall at) (λ name. if nat_lt w.filters MOST_FILTERS then Ok (fresh place.NameColon (w.filters + 1) name) else Err (TooMany at)) (filter_name word env.emulation)

-- at the beginning of a row after a header: a blank line, `Policy`, or a filter's name
abbrev pub step_row : Env → GrammarState → ℕ → Symbol → StepResult
step_row env w at Line = step_to w place.Row
step_row env w at (Word word) =
    if bytes_eq word (codes "Policy") then step_to w place.PolicyColon else step_name env w at word
step_row env w at _ = expected at

-- at a header's binary, if the symbol is one; the binary may not have a policy yet
abbrev pub step_binary : List (List ℕ) → GrammarState → ℕ → Option (List ℕ) → StepResult
step_binary known w at binary =
    found (Expected at) (λ binary. if list_any (λ b. bytes_eq b binary) known then Err (DuplicatePolicy at) else step_to w place.Comma) binary

-- at the emulation of a header: only that of the environment is supported
abbrev pub step_system : Env → GrammarState → ℕ → Symbol → StepResult
step_system env w at (Word word) =
    if bytes_eq word (word_of env.emulation) then step_to w place.HeaderEnd else Err (NotSupported at unsupported.Emulation)
step_system env w at _ = expected at

-- ---- expressions

-- one more of `not`, `and`, `or` and `(`
abbrev pub with_joint : GrammarState → ℕ → StepResult
with_joint w at =
    if nat_lt w.joins most_joins then Ok (record w { place = place.Operand; joins = w.joins + 1 }) else Err (TooMany at)

-- adds a pending operand to the expression
abbrev pub waits : PendingOperand → GrammarState → GrammarState
waits p w = record w { expression = with_pending p w.expression }

-- an operand is complete
abbrev pub completed : Formula → GrammarState → GrammarState
completed f w = record w { place = place.Joint; expression = with_operand f w.expression }

-- at the beginning of an operand: `(`, `not`, `true`, or a label
abbrev pub step_operand : GrammarState → ℕ → Symbol → StepResult
step_operand w at Open = with_joint (record (waits Group w) { parens = w.parens + 1 }) at
step_operand w at (Word word) =
    if bytes_eq word (codes "not") then with_joint (waits Negation w) at
    else if bytes_eq word (codes "true") then Ok (completed True w)
    else if is_label word then Ok (record w { place = place.Label; label = word; label_at = at; index = 0 })
    else expected at
step_operand w at _ = expected at

-- the fault of a word that names no operator; `re` is an operator that isn't supported
abbrev pub no_operator : ℕ → List ℕ → PolicyFault
no_operator at word = if bytes_eq word (codes "re") then NotSupported at unsupported.Re else Expected at

-- at the operator of a test
abbrev pub step_operator : GrammarState → ℕ → Symbol → StepResult
step_operator w at (Word word) = found (no_operator at word) (λ op. Ok (record w { place = place.Text; op = op })) (op_named word)
step_operator w at _ = expected at

-- after a label: without an index it means index 0; if the call has no such argument, the fault is the label's
abbrev pub step_label : GrammarState → ℕ → Symbol → StepResult
step_label w at OpenBracket = step_to w place.Index
step_label w at (Word word) = if may_test w.name w.label 0 then step_operator w at (Word word) else Err (UnknownArgument w.label_at)
step_label w at _ = Err (if may_test w.name w.label 0 then Expected at else UnknownArgument w.label_at)

-- after the bracket that opens a label's index, by the index that is spelled, if any; the call must have such an argument
abbrev pub step_indexed : GrammarState → ℕ → Option ℕ → StepResult
step_indexed w at index =
    found (if may_test_label w.name w.label then Expected at else UnknownArgument w.label_at)
    (λ index. if may_test w.name w.label index then Ok (record w { place = place.IndexEnd; index = index }) else Err (UnknownArgument w.label_at)) index

-- the index that a symbol spells, if it spells one
abbrev pub word_index : Symbol → Option ℕ
word_index (Word word) = index_in word
word_index _ = None

-- at the text of a test, which completes it
abbrev pub step_text : Env → GrammarState → ℕ → Symbol → StepResult
step_text env w at (Quoted source) = Ok (completed (Test w.label w.index w.op (unquoted env.dollars source)) w)
step_text env w at _ = expected at

-- the conjunction at the expression's end is complete
abbrev pub concluded : GrammarState → GrammarState
concluded w = record w { expression = without_either w.expression }

-- after an operand: `)`, `and`, `or`, or `then`
abbrev pub step_joint : GrammarState → ℕ → Symbol → StepResult
step_joint w at Close =
    if nat_lt 0 w.parens then Ok (record w { place = place.Joint; parens = w.parens - 1; expression = close_group (without_either w.expression) })
    else expected at
step_joint w at (Word word) =
    if bytes_eq word (codes "and") then with_joint (record w { expression = joins_both w.expression }) at
    else if bytes_eq word (codes "or") then with_joint (record w { expression = joins_either (without_either w.expression) }) at
    else only (concluded w) at (bytes_eq word (codes "then") && w.parens == 0) place.Action
step_joint w at _ = expected at

-- ---- actions and what follows them

-- sets the filter's action
abbrev pub acts : Action → Place → GrammarState → GrammarState
acts action then_at w = record w { place = then_at; action = action }

-- at an action: `permit`, `deny`, which means EPERM unless an error follows, or `ask`, which is refused if filters are learnt
abbrev pub step_action : Env → GrammarState → ℕ → Symbol → StepResult
step_action env w at (Word word) =
    if bytes_eq word (codes "permit") then Ok (acts Permit (place.Tail true true) w)
    else if bytes_eq word (codes "deny") then Ok (acts (Deny EPERM) place.Denial w)
    else if bytes_eq word (codes "ask") then (if env.learn then Err (AskWithLearn at) else Ok (acts Ask (place.Tail false true) w))
    else expected at
step_action env w at _ = expected at

-- whether a symbol begins an action
abbrev pub is_action : Symbol → Bool
is_action s = is_word_symbol (codes "permit") s || (is_word_symbol (codes "deny") s || is_word_symbol (codes "ask") s)

-- after a filter's colon: an action, or the first operand of an expression
abbrev pub step_clause : Env → GrammarState → ℕ → Symbol → StepResult
step_clause env w at s = if is_action s then step_action env w at s else step_operand w at s

-- at `as`, which needs the permission to grant ids, and a call that sets no ids itself
abbrev pub step_as : Env → GrammarState → ℕ → Bool → StepResult
step_as env w at log =
    if env.elevate then (if names_set_id_call w.name then Err (ElevateOnSetId at) else step_to w (place.Grant log))
    else Err (ElevateWithoutIds at)

-- after an action: the row's end, a predicate's comma, or what may still follow of `as` and `log`
abbrev pub step_tail : Env → Bool → Bool → GrammarState → ℕ → Symbol → StepResult
step_tail env grant log w at Line = step_to w place.Row
step_tail env grant log w at Comma = step_to w place.If
step_tail env grant log w at (Word word) =
    if bytes_eq word (codes "as") && grant then step_as env w at log
    else only (record w { log = true }) at (bytes_eq word (codes "log") && log) (place.Tail grant false)
step_tail env grant log w at _ = expected at

-- after `deny`: the bracket of its error, or what may follow an action
abbrev pub step_denial : Env → GrammarState → ℕ → Symbol → StepResult
step_denial env w at OpenBracket = step_to w place.Error
step_denial env w at s = step_tail env false true w at s

-- after the bracket that opens the error of a denial
abbrev pub step_error : GrammarState → ℕ → Symbol → StepResult
step_error w at (Word word) = found (UnknownError at) (λ errno. Ok (acts (Deny errno) place.ErrorEnd w)) (error_named word)
step_error w at _ = expected at

-- an id, as a number or by a name
abbrev pub step_id : List NamedId → ℕ → (ℕ → GrammarState) → Symbol → StepResult
step_id names at leads (Word word) = found (UnknownUser at) (λ id. Ok (leads id)) (id_in names word)
step_id names at leads _ = expected at

-- sets the filter's grant to this user, with no group yet
abbrev pub grants : Option ℕ → Place → GrammarState → GrammarState
grants user then_at w = record w { place = then_at; grant = Some (record { user = user; group = None }) }

-- after `as`: a user, or the colon before a group
abbrev pub step_grant : Env → Bool → GrammarState → ℕ → Symbol → StepResult
step_grant env log w at Colon = Ok (grants None (place.Group log) w)
step_grant env log w at s = step_id env.users at (λ id. grants (Some id) (place.User log) w) s

-- after the user of a grant: the colon before a group, or what may follow a grant
abbrev pub step_user : Env → Bool → GrammarState → ℕ → Symbol → StepResult
step_user env log w at Colon = step_to w (place.Group log)
step_user env log w at s = step_tail env false log w at s

-- the grant with this group added
abbrev pub with_group : ℕ → Grant → Grant
with_group group grant = record { user = grant.user; group = Some group }

-- at the group of a grant
abbrev pub step_group : Env → Bool → GrammarState → ℕ → Symbol → StepResult
step_group env log w at s = step_id env.groups at (λ id. record w { place = place.Tail false log; grant = option_map (with_group id) w.grant }) s

-- whose id a predicate looks at, if the symbol is a word for it
abbrev pub word_who : Symbol → Option Who
word_who (Word word) = who_named word
word_who _ = None

-- after `if`: whose id is looked at
abbrev pub step_who : GrammarState → ℕ → Symbol → StepResult
step_who w at s = found (Expected at) (λ who. step_to w (place.Comparison who)) (word_who s)

-- at the comparison of a predicate
abbrev pub step_comparison : Who → GrammarState → ℕ → Symbol → StepResult
step_comparison who w at s = found (Expected at) (λ cmp. Ok (record w { place = place.Id who; cmp = cmp })) (comparison s)

-- at the id of a predicate, which completes it
abbrev pub step_predicate : Env → Who → GrammarState → ℕ → Symbol → StepResult
step_predicate env who w at s =
    step_id (names_for env who) at (λ id. record w { place = place.FilterEnd; predicate = Some (record { who = who; cmp = w.cmp; id = id }) }) s

-- ---- all places

-- the result of a symbol at this place, if these binaries have policies
abbrev pub step : Env → List (List ℕ) → GrammarState → ℕ → Symbol → Place → StepResult
step env known w at s place.Start = step_start w at s
step env known w at s place.Row = step_row env w at s
step env known w at s place.PolicyColon = only w at (is_colon_symbol s) place.Binary
step env known w at s place.Binary = step_binary known w at (binary_of env s)
step env known w at s place.Comma = only w at (is_comma_symbol s) place.Emulation
step env known w at s place.Emulation = only w at (is_word_symbol (codes "Emulation") s) place.EmulationColon
step env known w at s place.EmulationColon = only w at (is_colon_symbol s) place.System
step env known w at s place.System = step_system env w at s
step env known w at s place.NameColon = only w at (is_colon_symbol s) place.Clause
step env known w at s place.Clause = step_clause env w at s
step env known w at s place.Operand = step_operand w at s
step env known w at s place.Label = step_label w at s
step env known w at s place.Index = step_indexed w at (word_index s)
step env known w at s place.IndexEnd = only w at (is_close_bracket s) place.Operator
step env known w at s place.Operator = step_operator w at s
step env known w at s place.Text = step_text env w at s
step env known w at s place.Joint = step_joint w at s
step env known w at s place.Action = step_action env w at s
step env known w at s place.Denial = step_denial env w at s
step env known w at s place.Error = step_error w at s
step env known w at s place.ErrorEnd = only w at (is_close_bracket s) (place.Tail false true)
step env known w at s (place.Tail grant log) = step_tail env grant log w at s
step env known w at s (place.Grant log) = step_grant env log w at s
step env known w at s (place.User log) = step_user env log w at s
step env known w at s (place.Group log) = step_group env log w at s
step env known w at s place.If = only w at (is_word_symbol (codes "if") s) place.Who
step env known w at s place.Who = step_who w at s
step env known w at s (place.Comparison who) = step_comparison who w at s
step env known w at s (place.Id who) = step_predicate env who w at s
step env known w at s place.HeaderEnd = only w at (is_line_symbol s) place.Row
step env known w at s place.FilterEnd = only w at (is_line_symbol s) place.Row

-- the result of a symbol at the current place
abbrev pub next : Env → List (List ℕ) → GrammarState → ℕ → Symbol → StepResult
next env known w at s = step env known w at s w.place

-- the fault where no token begins: the lexical fault, if the grammar expected another symbol, otherwise the fault that was found
abbrev pub lexical : LexFault → PolicyFault → PolicyFault
lexical fault (Expected at) = Lex fault
lexical fault other = other
