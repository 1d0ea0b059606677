-- The result of a symbol at a later offset: the same result, with a fault moved as far.
use Rattle.std.proofs.Common.{◌≡◌, ℕ, ◌+◌, ◌-◌, Bool, true, false, ◌&&◌, ◌==◌, nat_lt, List, [], codes, Option, None, Some, option_map, Ok, Err, if◌then◌else◌, refl, ap, sym, subst, ◌∙◌, arith}
use Rattle.std.specs.Str.{bytes_eq}
use Rattle.st_grammar.proofs.Common.{acts, Ask, Close, Colon, Comma, comparison, completed, concluded, Deny, EPERM, error_named, shifted_fault, filter_name, found, fresh, GrammarState, grants, id_in, is_action, is_binary_place, is_close_bracket, is_colon_symbol, is_comma_symbol, is_word_symbol, is_label, is_line_symbol, with_joint, joins_both, joins_either, LexFault, lexical, Line, may_test, may_test_label, MOST_FILTERS, most_joins, names_for, next, only, op_named, Open, OpenBracket, Permit, Quoted, names_set_id_call, step, step_action, step_as, step_denial, step_error, step_grant, step_id, step_indexed, step_joint, step_label, step_name, step_operand, step_operator, step_row, step_start, step_system, step_tail, step_text, step_to, step_user, StepResult, Symbol, Test, True, unquoted, waits, with_group, without_either, Word, word_index, word_who}
use Rattle.st_grammar.specs.declared.fault.PolicyFault.TheVariants.{AskWithLearn, DuplicatePolicy, ElevateOnSetId, ElevateWithoutIds, Expected, Lex, NotSupported, TooMany, UnknownArgument, UnknownCall, UnknownError, UnknownUser}
use Rattle.st_grammar.specs.declared.env.Env.{Env}
use Rattle.st_grammar.specs.declared.env.NamedId.{NamedId}
use Rattle.st_grammar.specs.declared.place.Place.{Place}
use Rattle.st_grammar.specs.declared.fault.PolicyFault.{PolicyFault}
use Rattle.st_lex.specs.declared.token.LexFault.TheVariants.{BadByte, OpenQuote, BadEscape}
use Rattle.st_emulation.specs.Words.{word_of}
use Rattle.st_grammar.specs.declared.fault.PolicyFault.TheVariants.{NoMemory}
use Rattle.st_grammar.specs.declared.fault.Unsupported.TheVariants as unsupported
use Rattle.st_grammar.specs.declared.place.Place.TheVariants as place
use Rattle.st_grammar.specs.Diagram.{no_operator, step_clause}
use Rattle.st_grammar.specs.Expression.{Group, Negation}
use Rattle.st_grammar.proofs.Fronts.{by-test}
use Rattle.st_fault_laws.proofs.Completions.{closed}
use Rattle.st_fault_laws.specs.FilterFault.{moved}

-- ---- a moved fault determines the original

-- the lexical fault, this many bytes earlier
abbrev lex_before : ℕ → LexFault → LexFault
lex_before n (BadByte at) = BadByte (at - n)
lex_before n (OpenQuote at) = OpenQuote (at - n)
lex_before n (BadEscape at) = BadEscape (at - n)

-- the same fault, this many bytes earlier
abbrev moved_back : ℕ → PolicyFault → PolicyFault
moved_back n (Lex fault) = Lex (lex_before n fault)
moved_back n (Expected at) = Expected (at - n)
moved_back n (UnknownCall at) = UnknownCall (at - n)
moved_back n (UnknownArgument at) = UnknownArgument (at - n)
moved_back n (UnknownError at) = UnknownError (at - n)
moved_back n (UnknownUser at) = UnknownUser (at - n)
moved_back n (DuplicatePolicy at) = DuplicatePolicy (at - n)
moved_back n (ElevateWithoutIds at) = ElevateWithoutIds (at - n)
moved_back n (ElevateOnSetId at) = ElevateOnSetId (at - n)
moved_back n (NotSupported at what) = NotSupported (at - n) what
moved_back n (AskWithLearn at) = AskWithLearn (at - n)
moved_back n (TooMany at) = TooMany (at - n)
moved_back n NoMemory = NoMemory

there : (n at : ℕ) → (n + at) - n ≡ at
there n at = omega arith

lex-there : (n : ℕ) (fault : LexFault) → lex_before n (shifted_fault n fault) ≡ fault
lex-there n (BadByte at) = ap (λ (a : ℕ). BadByte a) (there n at)
lex-there n (OpenQuote at) = ap (λ (a : ℕ). OpenQuote a) (there n at)
lex-there n (BadEscape at) = ap (λ (a : ℕ). BadEscape a) (there n at)

back-there : (n : ℕ) (fault : PolicyFault) → moved_back n (moved n fault) ≡ fault
back-there n (Lex fault) = ap (λ (f : LexFault). Lex f) (lex-there n fault)
back-there n (Expected at) = ap (λ (a : ℕ). Expected a) (there n at)
back-there n (UnknownCall at) = ap (λ (a : ℕ). UnknownCall a) (there n at)
back-there n (UnknownArgument at) = ap (λ (a : ℕ). UnknownArgument a) (there n at)
back-there n (UnknownError at) = ap (λ (a : ℕ). UnknownError a) (there n at)
back-there n (UnknownUser at) = ap (λ (a : ℕ). UnknownUser a) (there n at)
back-there n (DuplicatePolicy at) = ap (λ (a : ℕ). DuplicatePolicy a) (there n at)
back-there n (ElevateWithoutIds at) = ap (λ (a : ℕ). ElevateWithoutIds a) (there n at)
back-there n (ElevateOnSetId at) = ap (λ (a : ℕ). ElevateOnSetId a) (there n at)
back-there n (NotSupported at what) = ap (λ (a : ℕ). NotSupported a what) (there n at)
back-there n (AskWithLearn at) = ap (λ (a : ℕ). AskWithLearn a) (there n at)
back-there n (TooMany at) = ap (λ (a : ℕ). TooMany a) (there n at)
back-there n NoMemory = refl

-- two faults that are equal after they were moved equally far are equal
pub moved-once : (n : ℕ) (a b : PolicyFault) → moved n a ≡ moved n b → a ≡ b
moved-once n a b e = sym (back-there n a) ∙ ap (moved_back n) e ∙ back-there n b

-- the fault where no token begins, moved
pub lexical-moved : (n : ℕ) (broken : LexFault) (fault : PolicyFault) → lexical (shifted_fault n broken) (moved n fault) ≡ moved n (lexical broken fault)
lexical-moved n broken (Expected at) = refl
lexical-moved n broken fault = refl

-- ---- steps

-- if the label's offset can still be reported, it is moved as far
abbrev pub LabelMoved : ℕ → Place → ℕ → ℕ → Type 0
LabelMoved n place.Label at to = to ≡ n + at
LabelMoved n place.Index at to = to ≡ n + at
LabelMoved n p at to = Unit {0}

-- the same state of the grammar, except for the offset of the label
pub record SameWalk (n : ℕ) (w v : GrammarState) : Type 0 where
  pub same : v ≡ record w { label_at = v.label_at }
  pub label : LabelMoved n w.place w.label_at v.label_at

-- the result of a symbol, and its result at the later offset
pub data Moved (n : ℕ) : StepResult → StepResult → Type 0 where
  Went : (w v : GrammarState) → SameWalk n w v → Moved n (Ok w) (Ok v)
  Stopped : (fault : PolicyFault) → Moved n (Err fault) (Err (moved n fault))

-- a state whose label is at this offset
abbrev pub labelled : ℕ → GrammarState → GrammarState
labelled x w = record w { label_at = x }

moved-if : {n : ℕ} {x y x' y' : StepResult} (b : Bool) → Moved n x x' → Moved n y y' → Moved n (if b then x else y) (if b then x' else y')
moved-if true p q = p
moved-if false p q = q

moved-found : {n : ℕ} {A : Type 0} {fault fault' : PolicyFault} {leads leads' : A → StepResult} (o : Option A) → ((x : A) → Moved n (leads x) (leads' x)) → Moved n (Err fault) (Err fault') → Moved n (found fault leads o) (found fault' leads' o)
moved-found (Some x) p q = p x
moved-found None p q = q

module _ (n at x : ℕ) where
  on : (w : GrammarState) → LabelMoved n w.place w.label_at x → Moved n (Ok w) (Ok (labelled x w))
  on w h = Went w (labelled x w) (record { same = refl; label = h })

  to : (w : GrammarState) (p : Place) → LabelMoved n p w.label_at x → Moved n (step_to w p) (step_to (labelled x w) p)
  to w p h = on (record w { place = p }) h

  not-expected : Moved n (Err (Expected at)) (Err (Expected (n + at)))
  not-expected = Stopped (Expected at)

  only-moved : (w : GrammarState) (b : Bool) (p : Place) → LabelMoved n p w.label_at x → Moved n (only w at b p) (only (labelled x w) (n + at) b p)
  only-moved w b p h = moved-if b (to w p h) not-expected

  start-moved : (w : GrammarState) (s : Symbol) → Moved n (step_start w at s) (step_start (labelled x w) (n + at) s)
  start-moved w Line = to w place.Start tt
  start-moved w (Word word) = only-moved w (bytes_eq word (codes "Policy")) place.PolicyColon tt
  start-moved w s = not-expected

  pub name-moved : (env : Env) (w : GrammarState) (word : List ℕ) → Moved n (step_name env w at word) (step_name env (labelled x w) (n + at) word)
  name-moved env w word = moved-found (filter_name word env.emulation) (λ name. moved-if (nat_lt w.filters MOST_FILTERS) (begun (fresh place.NameColon (w.filters + 1) name)) (Stopped (TooMany at))) (Stopped (UnknownCall at)) where
    begun : (w : GrammarState) → Moved n (Ok (fresh place.NameColon w.filters w.name)) (Ok (fresh place.NameColon w.filters w.name))
    begun w = Went (fresh place.NameColon w.filters w.name) (fresh place.NameColon w.filters w.name) (record { same = refl; label = tt })

  row-moved : (env : Env) (w : GrammarState) (s : Symbol) → Moved n (step_row env w at s) (step_row env (labelled x w) (n + at) s)
  row-moved env w Line = to w place.Row tt
  row-moved env w (Word word) = moved-if (bytes_eq word (codes "Policy")) (to w place.PolicyColon tt) (name-moved env w word)
  row-moved env w s = not-expected

  system-moved : (env : Env) (w : GrammarState) (s : Symbol) → Moved n (step_system env w at s) (step_system env (labelled x w) (n + at) s)
  system-moved env w (Word word) = moved-if (bytes_eq word (word_of env.emulation)) (to w place.HeaderEnd tt) (Stopped (NotSupported at unsupported.Emulation))
  system-moved env w s = not-expected

  joined-moved : (w : GrammarState) → Moved n (with_joint w at) (with_joint (labelled x w) (n + at))
  joined-moved w = moved-if (nat_lt w.joins most_joins) (on (record w { place = place.Operand; joins = w.joins + 1 }) tt) (Stopped (TooMany at))

  operand-moved : (w : GrammarState) (s : Symbol) → Moved n (step_operand w at s) (step_operand (labelled x w) (n + at) s)
  operand-moved w Open = joined-moved (record (waits Group w) { parens = w.parens + 1 })
  operand-moved w (Word word) =
      let label : ℕ → GrammarState = λ at. record w { place = place.Label; label = word; label_at = at; index = 0 } in
      moved-if (bytes_eq word (codes "not")) (joined-moved (waits Negation w))
      (moved-if (bytes_eq word (codes "true")) (on (completed True w) tt) (moved-if (is_label word) (Went (label at) (label (n + at)) (record { same = refl; label = refl })) not-expected))
  operand-moved w s = not-expected

  no-operator-moved : (word : List ℕ) → Moved n (Err (no_operator at word)) (Err (no_operator (n + at) word))
  no-operator-moved word = by-test (bytes_eq word (codes "re")) (λ e. rw e (Stopped (NotSupported at unsupported.Re))) (λ e. rw e not-expected)

  operator-moved : (w : GrammarState) (s : Symbol) → Moved n (step_operator w at s) (step_operator (labelled x w) (n + at) s)
  operator-moved w (Word word) = moved-found (op_named word) (λ op. on (record w { place = place.Text; op = op }) tt) (no-operator-moved word)
  operator-moved w s = not-expected

  unlabelled : (w : GrammarState) → x ≡ n + w.label_at → Moved n (Err (UnknownArgument w.label_at)) (Err (UnknownArgument x))
  unlabelled w h = subst (λ (a : ℕ). Moved n (Err (UnknownArgument w.label_at)) (Err (UnknownArgument a))) (sym h) (Stopped (UnknownArgument w.label_at))

  label-moved : (w : GrammarState) → x ≡ n + w.label_at → (s : Symbol) → Moved n (step_label w at s) (step_label (labelled x w) (n + at) s)
  label-moved w h OpenBracket = to w place.Index h
  label-moved w h (Word word) = moved-if (may_test w.name w.label 0) (operator-moved w (Word word)) (unlabelled w h)
  label-moved w h s = by-test (may_test w.name w.label 0) (λ e. rw e not-expected) (λ e. rw e (unlabelled w h))

  indexed-moved : (w : GrammarState) → x ≡ n + w.label_at → (o : Option ℕ) → Moved n (step_indexed w at o) (step_indexed (labelled x w) (n + at) o)
  indexed-moved w h o = moved-found o (λ index. moved-if (may_test w.name w.label index) (on (record w { place = place.IndexEnd; index = index }) tt) (unlabelled w h))
      (by-test (may_test_label w.name w.label) (λ e. rw e not-expected) (λ e. rw e (unlabelled w h)))

  text-moved : (env : Env) (w : GrammarState) (s : Symbol) → Moved n (step_text env w at s) (step_text env (labelled x w) (n + at) s)
  text-moved env w (Quoted source) = on (completed (Test w.label w.index w.op (unquoted env.dollars source)) w) tt
  text-moved env w s = not-expected

  joint-moved : (w : GrammarState) (s : Symbol) → Moved n (step_joint w at s) (step_joint (labelled x w) (n + at) s)
  joint-moved w Close = moved-if (nat_lt 0 w.parens) (on (record (closed w) { place = place.Joint }) tt) not-expected
  joint-moved w (Word word) =
      moved-if (bytes_eq word (codes "and")) (joined-moved (record w { expression = joins_both w.expression }))
      (moved-if (bytes_eq word (codes "or")) (joined-moved (record w { expression = joins_either (without_either w.expression) }))
      (only-moved (concluded w) (bytes_eq word (codes "then") && w.parens == 0) place.Action tt))
  joint-moved w s = not-expected

  action-moved : (env : Env) (w : GrammarState) (s : Symbol) → Moved n (step_action env w at s) (step_action env (labelled x w) (n + at) s)
  action-moved env w (Word word) =
      moved-if (bytes_eq word (codes "permit")) (on (acts Permit (place.Tail true true) w) tt)
      (moved-if (bytes_eq word (codes "deny")) (on (acts (Deny EPERM) place.Denial w) tt)
      (moved-if (bytes_eq word (codes "ask")) (moved-if env.learn (Stopped (AskWithLearn at)) (on (acts Ask (place.Tail false true) w) tt)) not-expected))
  action-moved env w s = not-expected

  clause-moved : (env : Env) (w : GrammarState) (s : Symbol) → Moved n (step_clause env w at s) (step_clause env (labelled x w) (n + at) s)
  clause-moved env w s = moved-if (is_action s) (action-moved env w s) (operand-moved w s)

  as-moved : (env : Env) (w : GrammarState) (log : Bool) → Moved n (step_as env w at log) (step_as env (labelled x w) (n + at) log)
  as-moved env w log = moved-if env.elevate (moved-if (names_set_id_call w.name) (Stopped (ElevateOnSetId at)) (to w (place.Grant log) tt)) (Stopped (ElevateWithoutIds at))

  tail-moved : (env : Env) (grant log : Bool) (w : GrammarState) (s : Symbol) → Moved n (step_tail env grant log w at s) (step_tail env grant log (labelled x w) (n + at) s)
  tail-moved env grant log w Line = to w place.Row tt
  tail-moved env grant log w Comma = to w place.If tt
  tail-moved env grant log w (Word word) = moved-if (bytes_eq word (codes "as") && grant) (as-moved env w log) (only-moved (record w { log = true }) (bytes_eq word (codes "log") && log) (place.Tail grant false) tt)
  tail-moved env grant log w s = not-expected

  denial-moved : (env : Env) (w : GrammarState) (s : Symbol) → Moved n (step_denial env w at s) (step_denial env (labelled x w) (n + at) s)
  denial-moved env w OpenBracket = to w place.Error tt
  denial-moved env w s = tail-moved env false true w s

  error-moved : (w : GrammarState) (s : Symbol) → Moved n (step_error w at s) (step_error (labelled x w) (n + at) s)
  error-moved w (Word word) = moved-found (error_named word) (λ errno. on (acts (Deny errno) place.ErrorEnd w) tt) (Stopped (UnknownError at))
  error-moved w s = not-expected

  id-moved : (names : List NamedId) (leads leads' : ℕ → GrammarState) → ((id : ℕ) → Moved n (Ok (leads id)) (Ok (leads' id))) → (s : Symbol) → Moved n (step_id names at leads s) (step_id names (n + at) leads' s)
  id-moved names leads leads' h (Word word) = moved-found (id_in names word) h (Stopped (UnknownUser at))
  id-moved names leads leads' h s = not-expected

  grant-moved : (env : Env) (log : Bool) (w : GrammarState) (s : Symbol) → Moved n (step_grant env log w at s) (step_grant env log (labelled x w) (n + at) s)
  grant-moved env log w Colon = on (grants None (place.Group log) w) tt
  grant-moved env log w s = id-moved env.users _ _ (λ id. on (grants (Some id) (place.User log) w) tt) s

  user-moved : (env : Env) (log : Bool) (w : GrammarState) (s : Symbol) → Moved n (step_user env log w at s) (step_user env log (labelled x w) (n + at) s)
  user-moved env log w Colon = to w (place.Group log) tt
  user-moved env log w s = tail-moved env false log w s

  -- at every place but that of a header's binary, where the known binaries matter
  step-moved : (env : Env) (known : List (List ℕ)) (w : GrammarState) (s : Symbol) (p : Place) → is_binary_place p ≡ false → LabelMoved n p w.label_at x → Moved n (step env [] w at s p) (step env known (labelled x w) (n + at) s p)
  step-moved env known w s place.Start e h = start-moved w s
  step-moved env known w s place.Row e h = row-moved env w s
  step-moved env known w s place.PolicyColon e h = only-moved w (is_colon_symbol s) place.Binary tt
  step-moved env known w s place.Binary e h = absurd (cc)
  step-moved env known w s place.Comma e h = only-moved w (is_comma_symbol s) place.Emulation tt
  step-moved env known w s place.Emulation e h = only-moved w (is_word_symbol (codes "Emulation") s) place.EmulationColon tt
  step-moved env known w s place.EmulationColon e h = only-moved w (is_colon_symbol s) place.System tt
  step-moved env known w s place.System e h = system-moved env w s
  step-moved env known w s place.NameColon e h = only-moved w (is_colon_symbol s) place.Clause tt
  step-moved env known w s place.Clause e h = clause-moved env w s
  step-moved env known w s place.Operand e h = operand-moved w s
  step-moved env known w s place.Label e h = label-moved w h s
  step-moved env known w s place.Index e h = indexed-moved w h (word_index s)
  step-moved env known w s place.IndexEnd e h = only-moved w (is_close_bracket s) place.Operator tt
  step-moved env known w s place.Operator e h = operator-moved w s
  step-moved env known w s place.Text e h = text-moved env w s
  step-moved env known w s place.Joint e h = joint-moved w s
  step-moved env known w s place.Action e h = action-moved env w s
  step-moved env known w s place.Denial e h = denial-moved env w s
  step-moved env known w s place.Error e h = error-moved w s
  step-moved env known w s place.ErrorEnd e h = only-moved w (is_close_bracket s) (place.Tail false true) tt
  step-moved env known w s (place.Tail grant log) e h = tail-moved env grant log w s
  step-moved env known w s (place.Grant log) e h = grant-moved env log w s
  step-moved env known w s (place.User log) e h = user-moved env log w s
  step-moved env known w s (place.Group log) e h = id-moved env.groups _ _ (λ id. on (record w { place = place.Tail false log; grant = option_map (with_group id) w.grant }) tt) s
  step-moved env known w s place.If e h = only-moved w (is_word_symbol (codes "if") s) place.Who tt
  step-moved env known w s place.Who e h = moved-found (word_who s) (λ who. to w (place.Comparison who) tt) not-expected
  step-moved env known w s (place.Comparison who) e h = moved-found (comparison s) (λ cmp. on (record w { place = place.Id who; cmp = cmp }) tt) not-expected
  step-moved env known w s (place.Id who) e h = id-moved (names_for env who) _ _ (λ id. on (record w { place = place.FilterEnd; predicate = Some (record { who = who; cmp = w.cmp; id = id }) }) tt) s
  step-moved env known w s place.HeaderEnd e h = only-moved w (is_line_symbol s) place.Row tt
  step-moved env known w s place.FilterEnd e h = only-moved w (is_line_symbol s) place.Row tt

-- a symbol inside a row has the same result, whichever binaries are known
pub next-moved : (n at : ℕ) (env : Env) (known : List (List ℕ)) (w v : GrammarState) (s : Symbol) → is_binary_place w.place ≡ false → SameWalk n w v → Moved n (next env [] w at s) (next env known v (n + at) s)
next-moved n at env known w v s e h =
    subst (λ (u : GrammarState). Moved n (next env [] w at s) (next env known u (n + at) s)) (sym h.same) (step-moved n at v.label_at env known w s w.place e h.label)
