-- The offset of the label that was read last.
use Rattle.std.proofs.Common.{◌≡◌, ℕ, ◌+◌, Bool, true, false, ◌&&◌, ◌==◌, nat_lt, codes, List, [], ◌∷◌, ◌++◌, Option, None, Some, option_map, Ok, Err, if◌then◌else◌, refl, ap, sym, subst, ◌∙◌}
use Rattle.std.specs.Str.{bytes_eq}
use Rattle.std.specs.List.{list_any}
use Rattle.std.proofs.lemmas.List.{map-append}
use Rattle.st_emulation.specs.Words.{word_of}
use Rattle.st_grammar.proofs.Common.{acts, add_filter, as_reading, Ask, binaries, binary_of, BinaryPolicy, Close, Colon, Comma, comparison, completed, concluded, Deny, ends_filter, EPERM, error_named, filter_name, filter_of, first_reading, found, fresh, GrammarState, grants, id_in, is_action, is_close_bracket, is_colon_symbol, is_comma_symbol, is_word_symbol, is_label, is_line_symbol, with_joint, joins_both, joins_either, Line, may_test, MOST_FILTERS, most_joins, names_for, next, only, op_named, Open, OpenBracket, Permit, Quoted, read_step, Reading, reading_after, reading_step, names_set_id_call, step, step_action, step_as, step_binary, step_denial, step_error, step_grant, step_id, step_indexed, step_joint, step_label, step_name, step_operand, step_operator, step_row, step_start, step_system, step_tail, step_text, step_to, step_user, StepResult, Symbol, symbol_of, taken, Test, Token, True, unquoted, waits, with_group, without_either, Word, word_index, word_who}
use Rattle.st_grammar.specs.declared.fault.PolicyFault.TheVariants.{AskWithLearn, DuplicatePolicy, ElevateOnSetId, ElevateWithoutIds, Expected, NotSupported, TooMany, UnknownArgument}
use Rattle.st_grammar.specs.declared.env.Env.{Env}
use Rattle.st_grammar.specs.declared.env.NamedId.{NamedId}
use Rattle.st_grammar.specs.declared.place.Place.{Place}
use Rattle.st_grammar.specs.declared.fault.PolicyFault.{PolicyFault}
use Rattle.st_grammar.specs.declared.fault.Unsupported.TheVariants as unsupported
use Rattle.st_grammar.specs.declared.place.Place.TheVariants as place
use Rattle.st_grammar.specs.Diagram.{expected, step_clause}
use Rattle.st_grammar.specs.Expression.{Group, Negation}
use Rattle.st_grammar.proofs.Complete.{placed}
use Rattle.st_grammar.proofs.Readings.{Placed, Read, read_over, reading_followed}
use Rattle.st_fault_laws.proofs.Completions.{closed}
use Rattle.st_fault_laws.proofs.WaysOn.{over-parts}

-- ---- steps to a label

-- a label is at the offset where its symbol is read, and its bracket follows it
abbrev pub Labelled : GrammarState → ℕ → GrammarState → Place → Type 0
Labelled w at v place.Label = v.label_at ≡ at
Labelled w at v place.Index = (w.place ≡ place.Label) × (v.label_at ≡ w.label_at) × (v.label ≡ w.label) × (v.name ≡ w.name)
Labelled w at v p = Unit {0}

pub data Comes (w : GrammarState) (at : ℕ) : StepResult → Type 0 where
  Goes : (v : GrammarState) → Labelled w at v v.place → Comes w at (Ok v)
  Stops : (fault : PolicyFault) → Comes w at (Err fault)

by-if : {w : GrammarState} {at : ℕ} {x y : StepResult} (b : Bool) → Comes w at x → Comes w at y → Comes w at (if b then x else y)
by-if true p q = p
by-if false p q = q

by-found : {w : GrammarState} {at : ℕ} {A : Type 0} (fault : PolicyFault) {leads : A → StepResult} (o : Option A) → ((x : A) → Comes w at (leads x)) → Comes w at (found fault leads o)
by-found fault (Some x) f = f x
by-found fault None f = Stops fault

module _ (w u : GrammarState) (at : ℕ) where
  to : (p : Place) → Labelled w at (record u { place = p }) p → Comes w at (step_to u p)
  to p h = Goes (record u { place = p }) h

  no-more : Comes w at (expected at)
  no-more = Stops (Expected at)

  comes-only : (b : Bool) (p : Place) → Labelled w at (record u { place = p }) p → Comes w at (only u at b p)
  comes-only b p h = by-if b (to p h) no-more

  comes-start : (s : Symbol) → Comes w at (step_start u at s)
  comes-start Line = to place.Start tt
  comes-start (Word word) = comes-only (bytes_eq word (codes "Policy")) place.PolicyColon tt
  comes-start s = no-more

  comes-name : (env : Env) (word : List ℕ) → Comes w at (step_name env u at word)
  comes-name env word = by-found _ (filter_name word env.emulation) (λ name. by-if (nat_lt u.filters MOST_FILTERS) (Goes (fresh place.NameColon (u.filters + 1) name) tt) (Stops (TooMany at)))

  comes-row : (env : Env) (s : Symbol) → Comes w at (step_row env u at s)
  comes-row env Line = to place.Row tt
  comes-row env (Word word) = by-if (bytes_eq word (codes "Policy")) (to place.PolicyColon tt) (comes-name env word)
  comes-row env s = no-more

  comes-binary : (known : List (List ℕ)) (o : Option (List ℕ)) → Comes w at (step_binary known u at o)
  comes-binary known o = by-found _ o (λ binary. by-if (list_any (λ b. bytes_eq b binary) known) (Stops (DuplicatePolicy at)) (to place.Comma tt))

  comes-system : (env : Env) (s : Symbol) → Comes w at (step_system env u at s)
  comes-system env (Word word) = by-if (bytes_eq word (word_of env.emulation)) (to place.HeaderEnd tt) (Stops (NotSupported at unsupported.Emulation))
  comes-system env s = no-more

  comes-joined : Comes w at (with_joint u at)
  comes-joined = by-if (nat_lt u.joins most_joins) (Goes (record u { place = place.Operand; joins = u.joins + 1 }) tt) (Stops (TooMany at))

  comes-operator : (s : Symbol) → Comes w at (step_operator u at s)
  comes-operator (Word word) = by-found _ (op_named word) (λ op. Goes (record u { place = place.Text; op = op }) tt)
  comes-operator s = no-more

  comes-indexed : (o : Option ℕ) → Comes w at (step_indexed u at o)
  comes-indexed o = by-found _ o (λ index. by-if (may_test u.name u.label index) (Goes (record u { place = place.IndexEnd; index = index }) tt) (Stops (UnknownArgument u.label_at)))

  comes-text : (env : Env) (s : Symbol) → Comes w at (step_text env u at s)
  comes-text env (Quoted source) = Goes (completed (Test u.label u.index u.op (unquoted env.dollars source)) u) tt
  comes-text env s = no-more

  comes-action : (env : Env) (s : Symbol) → Comes w at (step_action env u at s)
  comes-action env (Word word) =
      by-if (bytes_eq word (codes "permit")) (Goes (acts Permit (place.Tail true true) u) tt)
      (by-if (bytes_eq word (codes "deny")) (Goes (acts (Deny EPERM) place.Denial u) tt)
      (by-if (bytes_eq word (codes "ask")) (by-if env.learn (Stops (AskWithLearn at)) (Goes (acts Ask (place.Tail false true) u) tt)) no-more))
  comes-action env s = no-more

  comes-as : (env : Env) (log : Bool) → Comes w at (step_as env u at log)
  comes-as env log = by-if env.elevate (by-if (names_set_id_call u.name) (Stops (ElevateOnSetId at)) (to (place.Grant log) tt)) (Stops (ElevateWithoutIds at))

  comes-tail : (env : Env) (grant log : Bool) (s : Symbol) → Comes w at (step_tail env grant log u at s)
  comes-tail env grant log Line = to place.Row tt
  comes-tail env grant log Comma = to place.If tt
  comes-tail env grant log (Word word) = by-if (bytes_eq word (codes "as") && grant) (comes-as env log) (by-if (bytes_eq word (codes "log") && log) (Goes (record u { place = place.Tail grant false; log = true }) tt) no-more)
  comes-tail env grant log s = no-more

  comes-denial : (env : Env) (s : Symbol) → Comes w at (step_denial env u at s)
  comes-denial env OpenBracket = to place.Error tt
  comes-denial env s = comes-tail env false true s

  comes-error : (s : Symbol) → Comes w at (step_error u at s)
  comes-error (Word word) = by-found _ (error_named word) (λ errno. Goes (acts (Deny errno) place.ErrorEnd u) tt)
  comes-error s = no-more

  comes-id : (names : List NamedId) (leads : ℕ → GrammarState) → ((id : ℕ) → Labelled w at (leads id) (leads id).place) → (s : Symbol) → Comes w at (step_id names at leads s)
  comes-id names leads h (Word word) = by-found _ (id_in names word) (λ id. Goes (leads id) (h id))
  comes-id names leads h s = no-more

  comes-grant : (env : Env) (log : Bool) (s : Symbol) → Comes w at (step_grant env log u at s)
  comes-grant env log Colon = Goes (grants None (place.Group log) u) tt
  comes-grant env log s = comes-id env.users (λ id. grants (Some id) (place.User log) u) (λ id. tt) s

  comes-user : (env : Env) (log : Bool) (s : Symbol) → Comes w at (step_user env log u at s)
  comes-user env log Colon = to (place.Group log) tt
  comes-user env log s = comes-tail env false log s

comes-operand : (w u : GrammarState) (at : ℕ) (s : Symbol) → Comes w at (step_operand u at s)
comes-operand w u at Open = comes-joined w (record (waits Group u) { parens = u.parens + 1 }) at
comes-operand w u at (Word word) =
    by-if (bytes_eq word (codes "not")) (comes-joined w (waits Negation u) at)
    (by-if (bytes_eq word (codes "true")) (Goes (completed True u) tt)
    (by-if (is_label word) (Goes (record u { place = place.Label; label = word; label_at = at; index = 0 }) refl) (no-more w u at)))
comes-operand w u at s = no-more w u at

comes-joint : (w u : GrammarState) (at : ℕ) (s : Symbol) → Comes w at (step_joint u at s)
comes-joint w u at Close = by-if (nat_lt 0 u.parens) (Goes (record (closed u) { place = place.Joint }) tt) (no-more w u at)
comes-joint w u at (Word word) =
    by-if (bytes_eq word (codes "and")) (comes-joined w (record u { expression = joins_both u.expression }) at)
    (by-if (bytes_eq word (codes "or")) (comes-joined w (record u { expression = joins_either (without_either u.expression) }) at)
    (comes-only w (concluded u) at (bytes_eq word (codes "then") && u.parens == 0) place.Action tt))
comes-joint w u at s = no-more w u at

comes-clause : (env : Env) (w u : GrammarState) (at : ℕ) (s : Symbol) → Comes w at (step_clause env u at s)
comes-clause env w u at s = by-if (is_action s) (comes-action w u at env s) (comes-operand w u at s)

comes-label : (w : GrammarState) (at : ℕ) (s : Symbol) → Comes (record w { place = place.Label }) at (step_label (record w { place = place.Label }) at s)
comes-label w at OpenBracket = Goes (record w { place = place.Index }) (refl, refl, refl, refl)
comes-label w at (Word word) =
    let u : GrammarState = record w { place = place.Label } in
    by-if (may_test w.name w.label 0) (comes-operator u u at (Word word)) (Stops (UnknownArgument w.label_at))
comes-label w at s = Stops _

pub comes : (env : Env) (known : List (List ℕ)) (w : GrammarState) (at : ℕ) (s : Symbol) (p : Place) → Comes (record w { place = p }) at (step env known (record w { place = p }) at s p)
comes env known w at s place.Start = comes-start (record w { place = place.Start }) (record w { place = place.Start }) at s
comes env known w at s place.Row = comes-row (record w { place = place.Row }) (record w { place = place.Row }) at env s
comes env known w at s place.PolicyColon = comes-only (record w { place = place.PolicyColon }) (record w { place = place.PolicyColon }) at (is_colon_symbol s) place.Binary tt
comes env known w at s place.Binary = comes-binary (record w { place = place.Binary }) (record w { place = place.Binary }) at known (binary_of env s)
comes env known w at s place.Comma = comes-only (record w { place = place.Comma }) (record w { place = place.Comma }) at (is_comma_symbol s) place.Emulation tt
comes env known w at s place.Emulation = comes-only (record w { place = place.Emulation }) (record w { place = place.Emulation }) at (is_word_symbol (codes "Emulation") s) place.EmulationColon tt
comes env known w at s place.EmulationColon = comes-only (record w { place = place.EmulationColon }) (record w { place = place.EmulationColon }) at (is_colon_symbol s) place.System tt
comes env known w at s place.System = comes-system (record w { place = place.System }) (record w { place = place.System }) at env s
comes env known w at s place.NameColon = comes-only (record w { place = place.NameColon }) (record w { place = place.NameColon }) at (is_colon_symbol s) place.Clause tt
comes env known w at s place.Clause = comes-clause env (record w { place = place.Clause }) (record w { place = place.Clause }) at s
comes env known w at s place.Operand = comes-operand (record w { place = place.Operand }) (record w { place = place.Operand }) at s
comes env known w at s place.Label = comes-label w at s
comes env known w at s place.Index = comes-indexed (record w { place = place.Index }) (record w { place = place.Index }) at (word_index s)
comes env known w at s place.IndexEnd = comes-only (record w { place = place.IndexEnd }) (record w { place = place.IndexEnd }) at (is_close_bracket s) place.Operator tt
comes env known w at s place.Operator = comes-operator (record w { place = place.Operator }) (record w { place = place.Operator }) at s
comes env known w at s place.Text = comes-text (record w { place = place.Text }) (record w { place = place.Text }) at env s
comes env known w at s place.Joint = comes-joint (record w { place = place.Joint }) (record w { place = place.Joint }) at s
comes env known w at s place.Action = comes-action (record w { place = place.Action }) (record w { place = place.Action }) at env s
comes env known w at s place.Denial = comes-denial (record w { place = place.Denial }) (record w { place = place.Denial }) at env s
comes env known w at s place.Error = comes-error (record w { place = place.Error }) (record w { place = place.Error }) at s
comes env known w at s place.ErrorEnd = comes-only (record w { place = place.ErrorEnd }) (record w { place = place.ErrorEnd }) at (is_close_bracket s) (place.Tail false true) tt
comes env known w at s (place.Tail grant log) = comes-tail (record w { place = place.Tail grant log }) (record w { place = place.Tail grant log }) at env grant log s
comes env known w at s (place.Grant log) = comes-grant (record w { place = place.Grant log }) (record w { place = place.Grant log }) at env log s
comes env known w at s (place.User log) = comes-user (record w { place = place.User log }) (record w { place = place.User log }) at env log s
comes env known w at s (place.Group log) = comes-id (record w { place = place.Group log }) (record w { place = place.Group log }) at env.groups (λ id. record w { place = place.Tail false log; grant = option_map (with_group id) w.grant }) (λ id. tt) s
comes env known w at s place.If = comes-only (record w { place = place.If }) (record w { place = place.If }) at (is_word_symbol (codes "if") s) place.Who tt
comes env known w at s place.Who = by-found _ (word_who s) (λ who. Goes (record w { place = place.Comparison who }) tt)
comes env known w at s (place.Comparison who) = by-found _ (comparison s) (λ cmp. Goes (record w { place = place.Id who; cmp = cmp }) tt)
comes env known w at s (place.Id who) = comes-id (record w { place = place.Id who }) (record w { place = place.Id who }) at (names_for env who) (λ id. record w { place = place.FilterEnd; predicate = Some (record { who = who; cmp = w.cmp; id = id }) }) (λ id. tt) s
comes env known w at s place.HeaderEnd = comes-only (record w { place = place.HeaderEnd }) (record w { place = place.HeaderEnd }) at (is_line_symbol s) place.Row tt
comes env known w at s place.FilterEnd = comes-only (record w { place = place.FilterEnd }) (record w { place = place.FilterEnd }) at (is_line_symbol s) place.Row tt

-- ---- the last token that was read

pub record LastRead (text : List ℕ) (env : Env) (old : List BinaryPolicy) (before : List Token) (r : Reading) : Type 0 where
  pub front : List Token
  pub last : Token
  pub parts : before ≡ front ++ last ∷ []
  pub reading : Reading
  pub read : read_over env (first_reading old) (placed text front) ≡ Ok reading
  pub labelled : Labelled reading.walk last.at r.walk r.walk.place

followed-ok : (x : Read) → x ≡ reading_followed (λ r. Ok r) x
followed-ok (Ok r) = refl
followed-ok (Err fault) = refl

data LastOf (ts : List Token) : Type 0 where
  NoLast : ts ≡ [] → LastOf ts
  HasLast : (front : List Token) (last : Token) → ts ≡ front ++ last ∷ [] → LastOf ts

last-more : (t : Token) (ts : List Token) → LastOf ts → LastOf (t ∷ ts)
last-more t ts (NoLast e) = HasLast [] t (ap (λ (us : List Token). t ∷ us) e)
last-more t ts (HasLast front last e) = HasLast (t ∷ front) last (ap (λ (us : List Token). t ∷ us) e)

last-of : (ts : List Token) → LastOf ts
last-of [] = NoLast refl
last-of (t ∷ ts) = last-more t ts (last-of ts)

-- the end of a filter's row leaves no current label
labelled-following : (env : Env) (w : GrammarState) (at : ℕ) (p : Place) (s : Symbol) (set : List BinaryPolicy) (v : GrammarState) → Labelled w at v v.place → Labelled w at (reading_after env p s set v).walk (reading_after env p s set v).walk.place
labelled-following env w at place.Binary s set v h = h
labelled-following env w at p s set v h = by (ends_filter p && is_line_symbol s) where
  by : (b : Bool) → Labelled w at (if b then as_reading (taken v) (add_filter set (filter_of v)) else as_reading v set).walk (if b then as_reading (taken v) (add_filter set (filter_of v)) else as_reading v set).walk.place
  by true = tt
  by false = h

stepped : (env : Env) (w : GrammarState) (at : ℕ) (r : Reading) (s : Symbol) (x : StepResult) (q : Reading) → Comes w at x → reading_step env r s x ≡ Ok q → Labelled w at q.walk q.walk.place
stepped env w at r s _ q (Goes v h) e = let same : reading_after env r.walk.place s r.set v ≡ q = cc in subst (λ (q : Reading). Labelled w at q.walk q.walk.place) same (labelled-following env w at r.walk.place s r.set v h)
stepped env w at r s _ q (Stops fault) e = absurd (cc)

last-by : (text : List ℕ) (env : Env) (old : List BinaryPolicy) (before : List Token) (r : Reading) → LastOf before → (r.walk.place ≡ place.Start → ⊥) → read_over env (first_reading old) (placed text before) ≡ Ok r → LastRead text env old before r
last-by text env old before r (NoLast none) other e =
    let read : Ok (first_reading old) ≡ Ok r = ap (λ (ts : List Token). read_over env (first_reading old) (placed text ts)) (sym none) ∙ e in
    let same : first_reading old ≡ r = cc in
    absurd (other (sym (ap (λ (q : Reading). q.walk.place) same)))
last-by text env old before r (HasLast front last is) other e =
    let z : Placed = record { at = last.at; symbol = symbol_of text last } in
    let cut : placed text (front ++ last ∷ []) ≡ placed text front ++ z ∷ [] = map-append (λ (t : Token). record { at = t.at; symbol = symbol_of text t }) front (last ∷ []) in
    let two = over-parts env (placed text front) (z ∷ []) (first_reading old) r (ap (read_over env (first_reading old)) (sym cut) ∙ ap (λ (ts : List Token). read_over env (first_reading old) (placed text ts)) (sym is) ∙ e) in
    let q : Reading = two.0 in
    let one : read_step env q last.at (symbol_of text last) ≡ Ok r = followed-ok (read_step env q last.at (symbol_of text last)) ∙ two.2 in
    record {
      front = front;
      last = last;
      parts = is;
      reading = q;
      read = two.1;
      labelled = stepped env q.walk last.at q (symbol_of text last) (next env (binaries q.set) q.walk last.at (symbol_of text last)) r (comes env (binaries q.set) q.walk last.at (symbol_of text last) q.walk.place) one;
    }

pub last-read : (text : List ℕ) (env : Env) (old : List BinaryPolicy) (before : List Token) (r : Reading) → (r.walk.place ≡ place.Start → ⊥) → read_over env (first_reading old) (placed text before) ≡ Ok r → LastRead text env old before r
last-read text env old before r other e = last-by text env old before r (last-of before) other e
