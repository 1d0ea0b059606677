-- The fault of a symbol that doesn't fit, at each place, by what may occur there.
use Rattle.std.proofs.Common.{◌≡◌, ◌⊎◌, inl, inr, ℕ, ◌+◌, ◌≤◌, Bool, true, false, ◌&&◌, ◌==◌, nat_lt, List, [], ◌∷◌, ◌++◌, Option, option_map, None, Some, Ok, Err, if◌then◌else◌, codes, refl, ap, sym, subst, ◌∙◌, arith, append_assoc, append-nil}
use Rattle.std.specs.Str.{bytes_eq}
use Rattle.std.specs.List.{list_any}
use Rattle.std.proofs.lemmas.Bool.{ltb-false, and_parts}
use Rattle.st_emulation.specs.Words.{word_of}
use Rattle.st_grammar.proofs.Common.{Action, acts, Ask, Asks, binaries, binary_of, BinaryPolicy, Close, Colon, Comma, comparison, completed, concluded, Denies, DeniesWith, Deny, EPERM, error_named, filter_name, FilterName, filters_in, found, fresh, GrammarState, grants, has_policy, id_in, index_in, is_action, is_close_bracket, is_colon_symbol, is_comma_symbol, is_word_symbol, is_label, is_line_symbol, IsAction, with_joint, joins_both, joins_either, lexed_text, Line, may_test, may_test_label, MOST_FILTERS, most_joins, names_for, only, op_named, Open, OpenBracket, Permit, Quoted, names_set_id_call, step, step_action, step_as, step_binary, step_denial, step_error, step_grant, step_id, step_indexed, step_joint, step_label, step_name, step_operand, step_operator, step_row, step_start, step_system, step_tail, step_text, step_user, StepResult, Symbol, Test, Token, True, unquoted, waits, Who, with_group, without_either, Word, word_index, word_who}
use Rattle.st_grammar.specs.declared.fault.PolicyFault.TheVariants.{AskWithLearn, DuplicatePolicy, ElevateOnSetId, ElevateWithoutIds, Expected, NotSupported, TooMany, UnknownArgument, UnknownCall, UnknownError, UnknownUser}
use Rattle.st_grammar.specs.declared.env.Env.{Env}
use Rattle.st_grammar.specs.declared.env.NamedId.{NamedId}
use Rattle.st_grammar.specs.declared.place.Place.{Place}
use Rattle.st_grammar.specs.declared.fault.PolicyFault.{PolicyFault}
use Rattle.st_grammar.specs.declared.fault.Unsupported.TheVariants as unsupported
use Rattle.st_grammar.specs.declared.place.Place.TheVariants as place
use Rattle.st_grammar.specs.Diagram.{expected, no_operator}
use Rattle.st_grammar.specs.Expression.{Group, Negation}
use Rattle.st_filter.specs.declared.filter.Op.TheVariants.{Eq}
use Rattle.st_fault_laws.specs.FirstFault.{symbols_at, AreRead, TakesOperand, TakesOperator, TakesAction, TakesId, AfterPermit, Permitted, Logged, IsSpecial, NoCall, ManyFilters, Twice, OtherEmulation, ManyOpening, ManyJoining, NoRe, Learns, NoError, NoIds, SetsIds, NoUser}
use Rattle.st_grammar.specs.Grammar as grammar
use Rattle.st_fault_laws.proofs.Completions.{MayEnd, closed, facts-operator, label-first, led}
use Rattle.st_grammar.proofs.Fronts.{Facts, by-test, logged}
use Rattle.st_grammar.proofs.Keywords.{same-word}
use Rattle.st_fault_laws.proofs.MayStand.{TokenCut, token-cut, id-line, operator-text, denial-bracket, joint-ends, operand-taken}
use Rattle.st_grammar.proofs.Policies.{any-binaries}
use Rattle.st_grammar.proofs.Kept.{clause-actions, clause-operands, line-keeps}
use Rattle.st_grammar.proofs.Sound.{line-is_sound}

-- how a symbol fails to fit: by the plain fault, by a special one, or because no argument has the label
pub data Outcome (text : List ℕ) (env : Env) (old : List BinaryPolicy) (before : List Token) (p : Place) (w : GrammarState) (at : ℕ) (s : Symbol) : PolicyFault → Type 0 where
  IsPlain : MayEnd p w → Outcome text env old before p w at s (Expected at)
  IsReportedOf : (fault : PolicyFault) → MayEnd p w → IsSpecial text env old before at s fault → Outcome text env old before p w at s fault
  Unlabelled : (p ≡ place.Label) ⊎ (p ≡ place.Index) → may_test_label w.name w.label ≡ false → Outcome text env old before p w at s (UnknownArgument w.label_at)

pub data Judged (text : List ℕ) (env : Env) (old : List BinaryPolicy) (before : List Token) (p : Place) (w : GrammarState) (at : ℕ) (s : Symbol) : StepResult → Type 0 where
  Fits : (v : GrammarState) → Judged text env old before p w at s (Ok v)
  Fails : (fault : PolicyFault) → Outcome text env old before p w at s fault → Judged text env old before p w at s (Err fault)

pub outcome-of : {text : List ℕ} {env : Env} {old : List BinaryPolicy} {before : List Token} {p : Place} {w : GrammarState} {at : ℕ} {s : Symbol} {x : StepResult} (fault : PolicyFault) → Judged text env old before p w at s x → x ≡ Err fault → Outcome text env old before p w at s fault
outcome-of fault (Fits v) e = absurd (cc)
outcome-of {text} {env} {old} {before} {p} {w} {at} {s} fault (Fails found o) e = let same : found ≡ fault = cc in subst (Outcome text env old before p w at s) same o

-- what is required of an index that no argument has with this label
abbrev pub IndexAsked : List ℕ → Env → List BinaryPolicy → List Token → GrammarState → ℕ → Place → Type 0
IndexAsked text env old before w at place.Index = (word : List ℕ) (index : ℕ) → index_in word ≡ Some index → IsSpecial text env old before at (Word word) (UnknownArgument w.label_at)
IndexAsked text env old before w at p = Unit {0}

judged-if : {text : List ℕ} {env : Env} {old : List BinaryPolicy} {before : List Token} {p : Place} {w : GrammarState} {at : ℕ} {s : Symbol} {x y : StepResult} (b : Bool) → (b ≡ true → Judged text env old before p w at s x) → (b ≡ false → Judged text env old before p w at s y) → Judged text env old before p w at s (if b then x else y)
judged-if true f g = f refl
judged-if false f g = g refl

judged-found : {text : List ℕ} {env : Env} {old : List BinaryPolicy} {before : List Token} {p : Place} {w : GrammarState} {at : ℕ} {s : Symbol} {A : Type 0} {fault : PolicyFault} {leads : A → StepResult} (o : Option A) →
    ((x : A) → o ≡ Some x → Judged text env old before p w at s (leads x)) → (o ≡ None → Judged text env old before p w at s (Err fault)) → Judged text env old before p w at s (found fault leads o)
judged-found (Some x) f g = f x refl
judged-found None f g = g refl

no-label : (n : FilterName) (label : List ℕ) → may_test n label 0 ≡ false → may_test_label n label ≡ false
no-label n label e = by (may_test_label n label) refl where
  by : (b : Bool) → may_test_label n label ≡ b → may_test_label n label ≡ false
  by true l = let first : may_test n label 0 ≡ true = label-first n label l in absurd (cc)
  by false l = l

acted-permit : {env : Env} {ts : List Symbol} {a : Action} → IsAction env ts a → a ≡ Permit → ts ≡ Word (codes "permit") ∷ []
acted-permit grammar.Permits e = refl
acted-permit Denies e = absurd (cc)
acted-permit (DeniesWith h) e = absurd (cc)
acted-permit (Asks h) e = absurd (cc)

module _ (text : List ℕ) (env : Env) (old : List BinaryPolicy) (before following : List Token) (parts : (lexed_text text).tokens ≡ before ++ following) (rows front : List Symbol) (is : symbols_at text before ≡ rows ++ front) (w : GrammarState) (set : List BinaryPolicy) (at : ℕ) where
  abbrev At : Place → Symbol → StepResult → Type 0
  At p s x = Judged text env old before p w at s x

  -- ---- at every place from which a row can be completed

  module _ (p : Place) (m : MayEnd p w) (s : Symbol) where
    plain : At p s (expected at)
    plain = Fails (Expected at) (IsPlain m)

    special : (fault : PolicyFault) → IsSpecial text env old before at s fault → At p s (Err fault)
    special fault h = Fails fault (IsReportedOf fault m h)

    judged-only : (u : GrammarState) (b : Bool) (q : Place) → At p s (only u at b q)
    judged-only u b q = judged-if b (λ e. Fits (record u { place = q })) (λ e. plain)

    judged-joined : (u : GrammarState) → IsSpecial text env old before at s (TooMany at) → At p s (with_joint u at)
    judged-joined u h = judged-if (nat_lt u.joins most_joins) (λ e. Fits (record u { place = place.Operand; joins = u.joins + 1 })) (λ e. special (TooMany at) h)

  judged-start : (p : Place) → MayEnd p w → (u : GrammarState) (s : Symbol) → At p s (step_start u at s)
  judged-start p m u Line = Fits (record u { place = place.Start })
  judged-start p m u (Word word) = judged-only p m (Word word) u (bytes_eq word (codes "Policy")) place.PolicyColon
  judged-start p m u s = plain p m s

  -- ---- rows and headers

  read-rows : (ps : List BinaryPolicy) → front ≡ [] → AreRead env old rows ps → AreRead env old (symbols_at text before) ps
  read-rows ps e a = subst (λ (ts : List Symbol). AreRead env old ts ps) (sym (is ∙ ap (λ (ts : List Symbol). rows ++ ts) e ∙ append-nil rows)) a

  row-count : (h : Facts env old rows front place.Row w set) → filters_in (old ++ (h.following.before ++ h.following.last ∷ [])) ≡ w.filters
  row-count h = ap filters_in (sym (append_assoc old h.following.before (h.following.last ∷ [])) ∙ sym h.following.set_is) ∙ sym h.filters_are

  row-read : (h : Facts env old rows front place.Row w set) → AreRead env old (symbols_at text before) (h.following.before ++ h.following.last ∷ [])
  row-read h = read-rows (h.following.before ++ h.following.last ∷ []) h.front_is (record { are_rows = h.following.are_rows; new = h.following.new; few = omega (arith, row-count h, h.few) })

  judged-name : Facts env old rows front place.Row w set → (u : GrammarState) → u.filters ≡ w.filters → (word : List ℕ) → At place.Row (Word word) (step_name env u at word)
  judged-name h u f word = judged-found (filter_name word env.emulation)
      (λ name n. judged-if (nat_lt u.filters MOST_FILTERS) (λ e. Fits (fresh place.NameColon (u.filters + 1) name))
      (λ e. let full : MOST_FILTERS ≤ u.filters = ltb-false u.filters MOST_FILTERS e in
      special place.Row tt (Word word) (TooMany at) (ManyFilters h.following.before h.following.last word name (row-read h) n (omega (arith, full, row-count h, f, h.few)))))
      (λ n. special place.Row tt (Word word) (UnknownCall at) (NoCall h.following.before h.following.last word (row-read h) n))

  judged-row : Facts env old rows front place.Row w set → (u : GrammarState) → u.filters ≡ w.filters → (s : Symbol) → At place.Row s (step_row env u at s)
  judged-row h u f Line = Fits (record u { place = place.Row })
  judged-row h u f (Word word) = judged-if (bytes_eq word (codes "Policy")) (λ e. Fits (record u { place = place.PolicyColon })) (λ e. judged-name h u f word)
  judged-row h u f s = plain place.Row tt s

  judged-binary : Facts env old rows front place.Binary w set → (u : GrammarState) (s : Symbol) → At place.Binary s (step_binary (binaries set) u at (binary_of env s))
  judged-binary h u s = judged-found (binary_of env s)
      (λ binary e.
      let same : filters_in (old ++ h.policies) ≡ w.filters = ap filters_in (sym h.set_is) ∙ sym h.filters_are in
      let a : AreRead env old rows h.policies = record { are_rows = h.are_rows; new = h.new; few = omega (arith, same, h.few) } in
      judged-if (list_any (λ b. bytes_eq b binary) (binaries set))
      (λ known. special place.Binary tt s (DuplicatePolicy at) (Twice rows h.policies s binary (is ∙ ap (λ (ts : List Symbol). rows ++ ts) h.front_is) a e (ap (λ (ps : List BinaryPolicy). has_policy ps binary) (sym h.set_is) ∙ sym (any-binaries binary set) ∙ known)))
      (λ new. Fits (record u { place = place.Comma }))) (λ e. plain place.Binary tt s)

  judged-system : Facts env old rows front place.System w set → (u : GrammarState) (s : Symbol) → At place.System s (step_system env u at s)
  judged-system h u (Word word) =
      let begun : List Symbol = Word (codes "Policy") ∷ Colon ∷ h.spelled ∷ [] in
      let more : List Symbol = Comma ∷ Word (codes "Emulation") ∷ Colon ∷ [] in
      judged-if (bytes_eq word (word_of env.emulation)) (λ e. Fits (record u { place = place.HeaderEnd }))
      (λ e. special place.System tt (Word word) (NotSupported at unsupported.Emulation) (OtherEmulation (rows ++ begun) word (is ∙ ap (λ (ts : List Symbol). rows ++ ts) h.front_is ∙ sym (append_assoc rows begun more))))
  judged-system h u s = plain place.System tt s

  -- ---- expressions

  judged-operand : (p : Place) → MayEnd p w → TakesOperand env old (symbols_at text before) → (u : GrammarState) (s : Symbol) → At p s (step_operand u at s)
  judged-operand p m t u Open = judged-joined p m Open (record (waits Group u) { parens = u.parens + 1 }) (ManyOpening Open (inl refl) t)
  judged-operand p m t u (Word word) =
      judged-if (bytes_eq word (codes "not")) (λ e. judged-joined p m (Word word) (waits Negation u) (ManyOpening (Word word) (inr (ap Word (same-word word (codes "not") e))) t))
      (λ a. judged-if (bytes_eq word (codes "true")) (λ e. Fits (completed True u))
      (λ b. judged-if (is_label word) (λ e. Fits (record u { place = place.Label; label = word; label_at = at; index = 0 })) (λ e. plain p m (Word word))))
  judged-operand p m t u s = plain p m s

  -- a word that names no operator
  no-operator : (p : Place) → MayEnd p w → TakesOperator env old (symbols_at text before) → (word : List ℕ) → At p (Word word) (Err (no_operator at word))
  no-operator p m t word = by-test (bytes_eq word (codes "re"))
      (λ e. rw e (special p m (Word word) (NotSupported at unsupported.Re) (subst (λ (x : List ℕ). IsSpecial text env old before at (Word x) (NotSupported at unsupported.Re)) (sym (same-word word (codes "re") e)) (NoRe t))))
      (λ e. rw e (plain p m (Word word)))

  judged-operator : (p : Place) → MayEnd p w → TakesOperator env old (symbols_at text before) → (u : GrammarState) (s : Symbol) → At p s (step_operator u at s)
  judged-operator p m t u (Word word) = judged-found (op_named word) (λ op e. Fits (record u { place = place.Text; op = op })) (λ e. no-operator p m t word)
  judged-operator p m t u s = plain p m s

  label-operator : Facts env old rows front place.Label w set → may_test w.name w.label 0 ≡ true → TakesOperator env old (symbols_at text before)
  label-operator h m = operator-text text env old before following parts rows front is (record w { op = Eq }) set (facts-operator env old rows front w set m h)

  judged-label : Facts env old rows front place.Label w set → (s : Symbol) → At place.Label s (step_label (record w { place = place.Label }) at s)
  judged-label h OpenBracket = Fits (record w { place = place.Index })
  judged-label h (Word word) =
      judged-if (may_test w.name w.label 0) (λ m. judged-operator place.Label m (label-operator h m) (record w { place = place.Label }) (Word word))
      (λ e. Fails (UnknownArgument w.label_at) (Unlabelled (inl refl) (no-label w.name w.label e)))
  judged-label h s = by-test (may_test w.name w.label 0) (λ m. rw m (plain place.Label m s)) (λ e. rw e (Fails (UnknownArgument w.label_at) (Unlabelled (inl refl) (no-label w.name w.label e))))

  judged-index : ((word : List ℕ) (index : ℕ) → index_in word ≡ Some index → IsSpecial text env old before at (Word word) (UnknownArgument w.label_at)) → (s : Symbol) → At place.Index s (step_indexed (record w { place = place.Index }) at (word_index s))
  judged-index t s = by-test (may_test_label w.name w.label)
      (λ l. judged-found (word_index s)
      (λ index i. judged-if (may_test w.name w.label index) (λ e. Fits (record w { place = place.IndexEnd; index = index })) (λ e. special place.Index (label-first w.name w.label l) s (UnknownArgument w.label_at) (asked s index i)))
      (λ i. rw l (plain place.Index (label-first w.name w.label l) s)))
      (λ l. judged-found (word_index s)
      (λ index i. judged-if (may_test w.name w.label index) (λ e. Fits (record w { place = place.IndexEnd; index = index })) (λ e. Fails (UnknownArgument w.label_at) (Unlabelled (inr refl) l)))
      (λ i. rw l (Fails (UnknownArgument w.label_at) (Unlabelled (inr refl) l)))) where
        asked : (s : Symbol) (index : ℕ) → word_index s ≡ Some index → IsSpecial text env old before at s (UnknownArgument w.label_at)
        asked (Word word) index e = t word index e
        asked s index e = absurd (cc)

  judged-text : (u : GrammarState) (s : Symbol) → At place.Text s (step_text env u at s)
  judged-text u (Quoted source) = Fits (completed (Test u.label u.index u.op (unquoted env.dollars source)) u)
  judged-text u s = plain place.Text tt s

  judged-joint : Facts env old rows front place.Joint w set → (u : GrammarState) (s : Symbol) → At place.Joint s (step_joint u at s)
  judged-joint h u Close = judged-if (nat_lt 0 u.parens) (λ e. Fits (record (closed u) { place = place.Joint })) (λ e. plain place.Joint tt Close)
  judged-joint h u (Word word) =
      let ends = joint-ends text env old before following parts rows front is w set h in
      judged-if (bytes_eq word (codes "and")) (λ e. judged-joined place.Joint tt (Word word) (record u { expression = joins_both u.expression }) (ManyJoining (Word word) (inl (ap Word (same-word word (codes "and") e))) ends))
      (λ a. judged-if (bytes_eq word (codes "or")) (λ e. judged-joined place.Joint tt (Word word) (record u { expression = joins_either (without_either u.expression) }) (ManyJoining (Word word) (inr (ap Word (same-word word (codes "or") e))) ends))
      (λ b. judged-only place.Joint tt (Word word) (concluded u) (bytes_eq word (codes "then") && u.parens == 0) place.Action))
  judged-joint h u s = plain place.Joint tt s

  -- ---- actions and what follows them

  judged-action : (p : Place) → MayEnd p w → TakesAction env old (symbols_at text before) → (u : GrammarState) (s : Symbol) → At p s (step_action env u at s)
  judged-action p m t u (Word word) =
      judged-if (bytes_eq word (codes "permit")) (λ e. Fits (acts Permit (place.Tail true true) u))
      (λ a. judged-if (bytes_eq word (codes "deny")) (λ e. Fits (acts (Deny EPERM) place.Denial u))
      (λ b. judged-if (bytes_eq word (codes "ask"))
      (λ e. judged-if env.learn
      (λ l. special p m (Word word) (AskWithLearn at) (subst (λ (x : List ℕ). IsSpecial text env old before at (Word x) (AskWithLearn at)) (sym (same-word word (codes "ask") e)) (Learns l t)))
      (λ l. Fits (acts Ask (place.Tail false true) u)))
      (λ e. plain p m (Word word))))
  judged-action p m t u s = plain p m s

  judged-as : (p : Place) → MayEnd p w → AfterPermit env old (symbols_at text before) → (u : GrammarState) (log : Bool) (word : List ℕ) → bytes_eq word (codes "as") ≡ true → At p (Word word) (step_as env u at log)
  judged-as p m t u log word e =
      let same : word ≡ codes "as" = same-word word (codes "as") e in
      judged-if env.elevate
      (λ l. judged-if (names_set_id_call u.name)
      (λ i. special p m (Word word) (ElevateOnSetId at) (subst (λ (x : List ℕ). IsSpecial text env old before at (Word x) (ElevateOnSetId at)) (sym same) (SetsIds l t)))
      (λ i. Fits (record u { place = place.Grant log })))
      (λ l. special p m (Word word) (ElevateWithoutIds at) (subst (λ (x : List ℕ). IsSpecial text env old before at (Word x) (ElevateWithoutIds at)) (sym same) (NoIds l t)))

  judged-tail : (p : Place) → MayEnd p w → (grant log : Bool) → (grant ≡ true → AfterPermit env old (symbols_at text before)) → (u : GrammarState) (s : Symbol) → At p s (step_tail env grant log u at s)
  judged-tail p m grant log t u Line = Fits (record u { place = place.Row })
  judged-tail p m grant log t u Comma = Fits (record u { place = place.If })
  judged-tail p m grant log t u (Word word) =
      judged-if (bytes_eq word (codes "as") && grant) (λ e. let both = and_parts (bytes_eq word (codes "as")) grant e in judged-as p m (t both.1) u log word both.0)
      (λ e. judged-only p m (Word word) (record u { log = true }) (bytes_eq word (codes "log") && log) (place.Tail grant false))
  judged-tail p m grant log t u s = plain p m s

  judged-denial : (u : GrammarState) (s : Symbol) → At place.Denial s (step_denial env u at s)
  judged-denial u OpenBracket = Fits (record u { place = place.Error })
  judged-denial u s = judged-tail place.Denial tt false true (λ e. absurd (cc)) u s

  judged-error : Facts env old rows front place.Error w set → (u : GrammarState) (s : Symbol) → At place.Error s (step_error u at s)
  judged-error h u (Word word) = judged-found (error_named word) (λ errno e. Fits (acts (Deny errno) place.ErrorEnd u)) (λ e.
      let f = h.1 in
      let begun : List Symbol = Word f.spelled ∷ Colon ∷ f.rest.front in
      let more : List Symbol = Word (codes "deny") ∷ OpenBracket ∷ [] in
      let parts : f.us ≡ f.rest.front ++ more = f.rest.parts ∙ ap (λ (ts : List Symbol). f.rest.front ++ ts) f.rest.rest in
      special place.Error tt (Word word) (UnknownError at)
      (NoError (rows ++ begun) word (is ∙ ap (λ (ts : List Symbol). rows ++ ts) (f.front_is ∙ ap (λ (ts : List Symbol). Word f.spelled ∷ Colon ∷ ts) parts) ∙ sym (append_assoc rows begun more))))
  judged-error h u s = plain place.Error tt s

  judged-id : (p : Place) → MayEnd p w → TakesId env old (symbols_at text before) → (names : List NamedId) (leads : ℕ → GrammarState) (s : Symbol) → At p s (step_id names at leads s)
  judged-id p m t names leads (Word word) = judged-found (id_in names word) (λ id e. Fits (leads id)) (λ e. special p m (Word word) (UnknownUser at) (NoUser word t))
  judged-id p m t names leads s = plain p m s

  judged-grant : (log : Bool) → TakesId env old (symbols_at text before) → (u : GrammarState) (s : Symbol) → At (place.Grant log) s (step_grant env log u at s)
  judged-grant log t u Colon = Fits (grants None (place.Group log) u)
  judged-grant log t u s = judged-id (place.Grant log) tt t env.users (λ id. grants (Some id) (place.User log) u) s

  judged-user : (log : Bool) (u : GrammarState) (s : Symbol) → At (place.User log) s (step_user env log u at s)
  judged-user log u Colon = Fits (record u { place = place.Group log })
  judged-user log u s = judged-tail (place.User log) tt false log (λ e. absurd (cc)) u s

  -- ---- what may occur, by the facts

  action-taken : Facts env old rows front place.Action w set → TakesAction env old (symbols_at text before)
  action-taken h =
      let s : Symbol = Word (codes "deny") in
      denial-bracket text env old before following parts rows front is (led env w set s place.Action) set (line-keeps env old rows front w set 0 place.Action s refl h)

  grant-taken : (log : Bool) → Facts env old rows front (place.Grant log) w set → TakesId env old (symbols_at text before)
  grant-taken log h =
      let s : Symbol = Word (codes "0") in
      id-line text env old before following parts rows front is _ (line-is_sound env old rows (front ++ s ∷ []) (led env w set s (place.Grant log)) set (place.User log) 0 (line-keeps env old rows front w set 0 (place.Grant log) s refl h))

  group-taken : (log : Bool) → Facts env old rows front (place.Group log) w set → TakesId env old (symbols_at text before)
  group-taken log h =
      let s : Symbol = Word (codes "0") in
      id-line text env old before following parts rows front is _ (line-is_sound env old rows (front ++ s ∷ []) (led env w set s (place.Group log)) set (place.Tail false log) 0 (line-keeps env old rows front w set 0 (place.Group log) s refl h))

  predicate-taken : (who : Who) → Facts env old rows front (place.Id who) w set → TakesId env old (symbols_at text before)
  predicate-taken who h =
      let s : Symbol = Word (codes "0") in
      id-line text env old before following parts rows front is _ (line-is_sound env old rows (front ++ s ∷ []) (led env w set s (place.Id who)) set place.FilterEnd 0 (line-keeps env old rows front w set 0 (place.Id who) s refl h))

  -- `permit`, and `log` unless it may still come
  permit-by : (log : Bool) (F : List Symbol) → symbols_at text before ≡ (rows ++ F) ++ Word (codes "permit") ∷ logged log → TakesAction env old (rows ++ F) → AfterPermit env old (symbols_at text before)
  permit-by true F e t = Permitted (rows ++ F) e t
  permit-by false F e t = Logged (rows ++ F) e t

  permit-taken : (log : Bool) → Facts env old rows front (place.Tail true log) w set → AfterPermit env old (symbols_at text before)
  permit-taken log h =
      let a = h.rest.rest in
      let m = a.rest.grants refl in
      let F : List Symbol = Word h.spelled ∷ Colon ∷ h.rest.front in
      let us : List Symbol = Word (codes "permit") ∷ logged log in
      let acted = acted-permit a.first m.permits in
      let same : h.us ≡ h.rest.front ++ us = rw (h.rest.parts, a.parts, acted, m.begun_is) refl in
      let e : symbols_at text before ≡ (rows ++ F) ++ us = is ∙ ap (λ (ts : List Symbol). rows ++ ts) (h.front_is ∙ ap (λ (ts : List Symbol). Word h.spelled ∷ Colon ∷ ts) same) ∙ sym (append_assoc rows F us) in
      let c : TokenCut text before (rows ++ F) us = token-cut text (rows ++ F) us before e in
      let v : GrammarState = record w { action = Deny EPERM; grant = None; log = false; predicate = None } in
      let denied : Facts env old rows (F ++ Word (codes "deny") ∷ []) place.Denial v set = (
        refl,
        refl,
        record { following = h.following; filters_are = h.filters_are; few = h.few; spelled = h.spelled; us = h.rest.front ++ Word (codes "deny") ∷ []; front_is = refl; name_is = h.name_is; rest = record { front = h.rest.front; back = Word (codes "deny") ∷ []; parts = refl; first = h.rest.first; rest = refl } },
      ) in
      let cut : (lexed_text text).tokens ≡ c.front ++ (c.back ++ following) = parts ∙ ap (λ (ts : List Token). ts ++ following) c.parts ∙ append_assoc c.front c.back following in
      permit-by log F e (subst (TakesAction env old) c.front_is (denial-bracket text env old c.front (c.back ++ following) cut rows F c.front_is v set denied))

  permit-if : (grant log : Bool) → Facts env old rows front (place.Tail grant log) w set → grant ≡ true → AfterPermit env old (symbols_at text before)
  permit-if true log h e = permit-taken log h
  permit-if false log h e = absurd (cc)

  -- ---- all places

  pub judged : (p : Place) → IndexAsked text env old before w at p → Facts env old rows front p w set → (s : Symbol) → At p s (step env (binaries set) (record w { place = p }) at s p)
  judged place.Start i h s = judged-start place.Start tt (record w { place = place.Start }) s
  judged place.Row i h s = judged-row h (record w { place = place.Row }) refl s
  judged place.PolicyColon i h s = judged-only place.PolicyColon tt s (record w { place = place.PolicyColon }) (is_colon_symbol s) place.Binary
  judged place.Binary i h s = judged-binary h (record w { place = place.Binary }) s
  judged place.Comma i h s = judged-only place.Comma tt s (record w { place = place.Comma }) (is_comma_symbol s) place.Emulation
  judged place.Emulation i h s = judged-only place.Emulation tt s (record w { place = place.Emulation }) (is_word_symbol (codes "Emulation") s) place.EmulationColon
  judged place.EmulationColon i h s = judged-only place.EmulationColon tt s (record w { place = place.EmulationColon }) (is_colon_symbol s) place.System
  judged place.System i h s = judged-system h (record w { place = place.System }) s
  judged place.HeaderEnd i h s = judged-only place.HeaderEnd tt s (record w { place = place.HeaderEnd }) (is_line_symbol s) place.Row
  judged place.NameColon i h s = judged-only place.NameColon tt s (record w { place = place.NameColon }) (is_colon_symbol s) place.Clause
  judged place.Clause i h s =
      let u : GrammarState = record w { place = place.Clause } in
      judged-if (is_action s) (λ e. judged-action place.Clause tt (action-taken (clause-actions env old rows front w set at h)) u s)
      (λ e. judged-operand place.Clause tt (operand-taken text env old before following parts rows front is w set (clause-operands env old rows front w set at h)) u s)
  judged place.Operand i h s = judged-operand place.Operand tt (operand-taken text env old before following parts rows front is w set h) (record w { place = place.Operand }) s
  judged place.Label i h s = judged-label h s
  judged place.Index i h s = judged-index i s
  judged place.IndexEnd i h s = judged-only place.IndexEnd tt s (record w { place = place.IndexEnd }) (is_close_bracket s) place.Operator
  judged place.Operator i h s =
      let t : Symbol = Word (codes "eq") in
      judged-operator place.Operator tt (operator-text text env old before following parts rows front is (led env w set t place.Operator) set (line-keeps env old rows front w set 0 place.Operator t refl h)) (record w { place = place.Operator }) s
  judged place.Text i h s = judged-text (record w { place = place.Text }) s
  judged place.Joint i h s = judged-joint h (record w { place = place.Joint }) s
  judged place.Action i h s = judged-action place.Action tt (action-taken h) (record w { place = place.Action }) s
  judged place.Denial i h s = judged-denial (record w { place = place.Denial }) s
  judged place.Error i h s = judged-error h (record w { place = place.Error }) s
  judged place.ErrorEnd i h s = judged-only place.ErrorEnd tt s (record w { place = place.ErrorEnd }) (is_close_bracket s) (place.Tail false true)
  judged (place.Tail grant log) i h s = judged-tail (place.Tail grant log) tt grant log (permit-if grant log h) (record w { place = place.Tail grant log }) s
  judged (place.Grant log) i h s = judged-grant log (grant-taken log h) (record w { place = place.Grant log }) s
  judged (place.User log) i h s = judged-user log (record w { place = place.User log }) s
  judged (place.Group log) i h s = judged-id (place.Group log) tt (group-taken log h) env.groups (λ id. record w { place = place.Tail false log; grant = option_map (with_group id) w.grant }) s
  judged place.If i h s = judged-only place.If tt s (record w { place = place.If }) (is_word_symbol (codes "if") s) place.Who
  judged place.Who i h s = judged-found (word_who s) (λ who e. Fits (record w { place = place.Comparison who })) (λ e. plain place.Who tt s)
  judged (place.Comparison who) i h s = judged-found (comparison s) (λ cmp e. Fits (record w { place = place.Id who; cmp = cmp })) (λ e. plain (place.Comparison who) tt s)
  judged (place.Id who) i h s = judged-id (place.Id who) tt (predicate-taken who h) (names_for env who) (λ id. record w { place = place.FilterEnd; predicate = Some (record { who = who; cmp = w.cmp; id = id }) }) s
  judged place.FilterEnd i h s = judged-only place.FilterEnd tt s (record w { place = place.FilterEnd }) (is_line_symbol s) place.Row
