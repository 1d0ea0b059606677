-- A learnt filter permits what it was learnt from.
use native.Mathlib.Omega.{arith}
use Rattle.std.proofs.Common.{◌≡◌, ◌≢◌, ℕ, suc, zero, ◌+◌, Bool, true, false, cond, ◌&&◌, ◌==◌, List, [], ◌∷◌, ◌++◌, length, map, Option, Some, None, refl, sym, ap, subst, ◌∙◌, length-append}
use Rattle.std.proofs.lemmas.Bool.{eq-eqb, or_left, or_right, and_parts, and_from}
use Rattle.std.proofs.lemmas.List.{append_assoc}
use Rattle.std.proofs.lemmas.List.Folds.{list_any-append}
use Rattle.std.proofs.lemmas.Slice.Eq.{bytes_eq-Decides}
use Rattle.std.specs.List.{fold, list_any}
use Rattle.std.specs.Str.{bytes_eq}
use Rattle.st_calls.specs.Argument.{name_of_label}
use Rattle.st_calls.specs.declared.argument.ArgText.{ArgText}
use Rattle.st_calls.specs.declared.judged.Snapshot.{Snapshot}
use Rattle.st_calls.specs.declared.judged.Verdict.{Verdict}
use Rattle.st_calls.specs.declared.judged.Verdict.TheVariants.{Permit, Refuse, Unmatched}
use Rattle.st_filter.specs.Formula.{Formula, And, FilterValue}
use Rattle.st_filter.specs.Judging.{test_holds_of, is_true, ids_match, holds, verdict, verdict_by, verdict_from}
use Rattle.st_filter.specs.declared.filter.Action.{Action}
use Rattle.st_filter.specs.declared.filter.Action.TheVariants as action
use Rattle.st_filter.specs.declared.filter.Op.TheVariants.{Eq}
use Rattle.std.specs.Prelude.{filter}
use Rattle.st_base.specs.Numbered.{item_at_number}
use Rattle.st_calls.proofs.Rules.{same_rule-Decides}
use Rattle.st_calls.specs.Rules.{same_rule}
use Rattle.st_calls.specs.declared.rule.Rule.{Rule}
use Rattle.st_filter.specs.declared.set.Reply.{Reply}
use Rattle.st_trace.specs.declared.entry.Entry.TheVariants.{Stored, Entered, Claimed, Copied, Looked, Faulted, Answered, Used, Denied, Ended, Replied, Learned, Reloaded}
use Rattle.st_law.specs.declared.input.Input.{Input}
use Rattle.st_law.specs.History.{looking_back, message_at, session_at}
use Rattle.st_law.specs.Inputs.{IsStartable}
use Rattle.st_law.specs.Lawful.{IsLearned, IsLawfulBack}
use Rattle.st_law.specs.Machine.{state_after}
use Rattle.st_law.specs.Sessions.{SessionFilter, is_kept_for, session_filters, kept_for, learnt_by, replied_by, test_of, learnt_formula, learnt_filter, verdict_or, decision}
use Rattle.st_law.specs.State.{State, is_live, snapshot_in, snapshot_of_message, read_at, decision_in, is_undecided, operator_decides, is_open_question, is_question}
use Rattle.st_law.specs.Threads.{History}
use Rattle.st_law.proofs.Growth.{session_append}
use Rattle.st_law.proofs.Laws.{all_at}

same_bytes : (xs : List ℕ) → bytes_eq xs xs ≡ true
same_bytes xs = (bytes_eq-Decides xs xs).1 refl

-- ---- the learnt filter

-- the test of an argument holds of that argument
test_holds : (arg : ArgText) → test_holds_of (name_of_label arg.label) arg.index Eq arg.text arg ≡ true
test_holds arg = and_from (bytes_eq (name_of_label arg.label) (name_of_label arg.label) && arg.index == arg.index) (bytes_eq arg.text arg.text)
    (and_from (bytes_eq (name_of_label arg.label) (name_of_label arg.label)) (arg.index == arg.index) (same_bytes (name_of_label arg.label)) (eq-eqb arg.index arg.index refl)) (same_bytes arg.text)

-- the test of an argument is true of all arguments that include it
test_true : (front : List ArgText) (arg : ArgText) (rest : List ArgText) → is_true (test_of arg) (front ++ arg ∷ rest) ≡ true
test_true front arg rest = list_any-append (test_holds_of (name_of_label arg.label) arg.index Eq arg.text) front (arg ∷ rest)
    ∙ or_right (list_any (test_holds_of (name_of_label arg.label) arg.index Eq arg.text) front) _ (or_left (test_holds_of (name_of_label arg.label) arg.index Eq arg.text arg) _ (test_holds arg))

all_true : (f : Formula) (front rest : List ArgText) → is_true f (front ++ rest) ≡ true → is_true (fold (λ formula other. And formula (test_of other)) f rest) (front ++ rest) ≡ true
all_true f front [] e = e
all_true f front (arg ∷ rest) e =
    let same : (front ++ arg ∷ []) ++ rest ≡ front ++ arg ∷ rest = append_assoc front (arg ∷ []) rest in
    subst (λ args. is_true (fold (λ formula other. And formula (test_of other)) (And f (test_of arg)) rest) args ≡ true) same
    (all_true (And f (test_of arg)) (front ++ arg ∷ []) rest
    (subst (λ args. is_true (And f (test_of arg)) args ≡ true) (sym same) (and_from (is_true f (front ++ arg ∷ rest)) (is_true (test_of arg) (front ++ arg ∷ rest)) e (test_true front arg rest))))

formula_true : (args : List ArgText) → is_true (learnt_formula args) args ≡ true
formula_true [] = refl
formula_true (arg ∷ rest) = all_true (test_of arg) (arg ∷ []) rest (test_true [] arg rest)

-- the filter that is learnt from copies holds of them
pub learnt_holds : (s : Snapshot) → holds (learnt_filter s) s ≡ true
learnt_holds s = and_from (is_true (learnt_formula s.parts) s.parts) (ids_match None s.ids) (formula_true s.parts) refl

-- ---- if nothing decides, a filter at the end decides

-- no filter asks
abbrev pub NoneAsks : List FilterValue → Type 0
NoneAsks [] = Unit {0}
NoneAsks (f ∷ fs) = (f.action ≢ action.Ask) × NoneAsks fs

unasked : (n : ℕ) (f : FilterValue) (s : Snapshot) → f.action ≢ action.Ask → verdict_by n f.grant s.ids f.action ≡ Unmatched → ⊥
unasked n f s plain e = by f.action refl e where
  by : (a : Action) → f.action ≡ a → verdict_by n f.grant s.ids a ≡ Unmatched → ⊥
  by action.Permit same g = cc
  by (action.Deny errno) same g = cc
  by action.Ask same g = plain same

-- a filter decides under its own number if it holds and none of the filters before it decides
pub last_decides : (n : ℕ) (fs : List FilterValue) (f : FilterValue) (s : Snapshot) → NoneAsks fs → verdict_from n fs s ≡ Unmatched → holds f s ≡ true → verdict_from n (fs ++ f ∷ []) s ≡ verdict_by (n + length fs) f.grant s.ids f.action
last_decides n [] f s plain e h = ap (λ b. cond b (verdict_by n f.grant s.ids f.action) Unmatched) h ∙ ap (λ k. verdict_by k f.grant s.ids f.action) (let same : n ≡ n + 0 = omega arith in same)
last_decides n (g ∷ fs) f s plain e h = by (holds g s) e (last_decides (suc n) fs f s plain.1) where
  by : (b : Bool) → cond b (verdict_by n g.grant s.ids g.action) (verdict_from (suc n) fs s) ≡ Unmatched → (verdict_from (suc n) fs s ≡ Unmatched → holds f s ≡ true → verdict_from (suc n) (fs ++ f ∷ []) s ≡ verdict_by (suc n + length fs) f.grant s.ids f.action) → cond b (verdict_by n g.grant s.ids g.action) (verdict_from (suc n) (fs ++ f ∷ []) s) ≡ verdict_by (n + length (g ∷ fs)) f.grant s.ids f.action
  by true x rest = absurd (unasked n g s plain.0 x)
  by false x rest = rest x h ∙ ap (λ k. verdict_by k f.grant s.ids f.action) (let same : suc n + length fs ≡ n + length (g ∷ fs) = omega arith in same)

-- ---- sessions

-- no filter of a session asks
abbrev pub IsPlain : List SessionFilter → Type 0
IsPlain [] = Unit {0}
IsPlain (kept ∷ session) = (kept.filter.action ≢ action.Ask) × IsPlain session

plain_append : (session more : List SessionFilter) → IsPlain session → IsPlain more → IsPlain (session ++ more)
plain_append [] more x y = y
plain_append (kept ∷ session) more x y = (x.0, plain_append session more x.1 y)

pub plain_filters : (session : List SessionFilter) (policy : List ℕ) (rule : Rule) → IsPlain session → NoneAsks (session_filters session policy rule)
plain_filters [] policy rule x = tt
plain_filters (kept ∷ session) policy rule x = by (is_kept_for policy rule kept) (plain_filters session policy rule x.1) where
  by : (b : Bool) → NoneAsks (session_filters session policy rule) → NoneAsks (map (λ each. each.filter) (cond b (kept ∷ filter (is_kept_for policy rule) session) (filter (is_kept_for policy rule) session)))
  by true rest = (x.0, rest)
  by false rest = rest

learnt_plain : (o : Option Snapshot) → IsPlain (learnt_by o)
learnt_plain None = tt
learnt_plain (Some s) = (λ e. cc, tt)

replied_plain : (i : Input) → IsStartable i → (n : ℕ) (r : Option Reply) → item_at_number i.replies n ≡ r → (o : Option Snapshot) → IsPlain (replied_by r o)
replied_plain i startable n None e o = tt
replied_plain i startable n (Some r) e None = tt
replied_plain i startable zero (Some r) e (Some s) = cc
replied_plain i startable (suc k) (Some r) e (Some s) = (all_at (λ each. each.filter.action ≢ action.Ask) i.replies k r startable.replies e, tt)

-- no filter of a session asks, for every history
pub session_plain : (i : Input) → IsStartable i → (h : History) → IsPlain (session_at i h)
session_plain i startable [] = tt
session_plain i startable (Learned q n ∷ h) = plain_append (session_at i h) (learnt_by (snapshot_of_message q (message_at i h q))) (session_plain i startable h) (learnt_plain _)
session_plain i startable (Replied q reply n ∷ h) = plain_append (session_at i h) (replied_by (item_at_number i.replies reply) (snapshot_of_message q (message_at i h q))) (session_plain i startable h) (replied_plain i startable reply (item_at_number i.replies reply) refl _)
session_plain i startable (Stored u place word ∷ h) = session_plain i startable h
session_plain i startable (Entered u call regs way ∷ h) = session_plain i startable h
session_plain i startable (Claimed w p ∷ h) = session_plain i startable h
session_plain i startable (Copied p part place word ∷ h) = session_plain i startable h
session_plain i startable (Looked p part name seen ∷ h) = session_plain i startable h
session_plain i startable (Faulted p errno ∷ h) = session_plain i startable h
session_plain i startable (Answered w s v applied ∷ h) = session_plain i startable h
session_plain i startable (Used u seq call regs args ids result changes ∷ h) = session_plain i startable h
session_plain i startable (Reloaded u n done changes ∷ h) = session_plain i startable h
session_plain i startable (Denied u seq errno cause ∷ h) = session_plain i startable h
session_plain i startable (Ended u ∷ h) = session_plain i startable h

-- ---- a question that is answered

undecided : (v : Verdict) → is_undecided v ≡ true → v ≡ Unmatched
undecided (Permit n ids) e = cc
undecided (Refuse n errno) e = cc
undecided Unmatched e = refl

both_undecided : (v w : Verdict) → verdict_or v w ≡ Unmatched → (v ≡ Unmatched) × (w ≡ Unmatched)
both_undecided (Permit n ids) w e = cc
both_undecided (Refuse n errno) w e = cc
both_undecided Unmatched w e = (refl, e)

-- a question isn't decided
pub question_undecided : (i : Input) (st : State) (q : ℕ) (s : Snapshot) → is_question i st q ≡ true → snapshot_in st q ≡ Some s → decision_in i st s ≡ Unmatched
question_undecided i st q s e copies =
    let is_open : is_open_question i st (Some s) ≡ true = subst (λ o. is_open_question i st o ≡ true) copies (and_parts (is_live st q && (st.messages q).answered) (is_open_question i st (snapshot_in st q)) e).1 in
    undecided (decision_in i st s) (and_parts (is_undecided (decision_in i st s)) (operator_decides i st s i.options.mode) is_open).0

kept_own : (f : FilterValue) (s : Snapshot) → is_kept_for s.policy s.rule (kept_for f s) ≡ true
kept_own f s = and_from (bytes_eq s.policy s.policy) (same_rule s.rule s.rule) (same_bytes s.policy) ((same_rule-Decides s.rule s.rule).1 refl)

own_filters : (f : FilterValue) (s : Snapshot) → session_filters (kept_for f s ∷ []) s.policy s.rule ≡ f ∷ []
own_filters f s = ap (λ b. map (λ kept. kept.filter) (cond b (kept_for f s ∷ []) [])) (kept_own f s)

module _ (i : Input) (st : State) (plain : IsPlain st.session) (q n : ℕ) (x : IsLearned i st q n) where
  abbrev s : Snapshot
  s = x.copies

  abbrev read : List FilterValue
  read = read_at i st s.policy s.rule

  abbrev kept : List FilterValue
  kept = session_filters st.session s.policy s.rule

  none : (verdict read s ≡ Unmatched) × (verdict_from (suc (length read)) kept s ≡ Unmatched)
  none = both_undecided (verdict read s) (verdict_from (suc (length read)) kept s) (question_undecided i st q s x.asked.question x.asked.copies)

  numbered : suc (length read) + length kept ≡ n
  numbered = let number = x.asked.number in let both = length-append read kept in omega (arith, number, both)

  -- once a question is learnt, the filter of that number permits its call under its own ids
  pub learned_permits : decision_in i (state_after i st (Learned q n)) s ≡ Permit n s.ids
  learned_permits =
      ap (λ o. decision read (session_filters (st.session ++ learnt_by o) s.policy s.rule) s) x.asked.copies
      ∙ ap (λ fs. decision read fs s) (session_append st.session (kept_for (learnt_filter s) s ∷ []) s.policy s.rule ∙ ap (λ fs. kept ++ fs) (own_filters (learnt_filter s) s))
      ∙ ap (λ v. verdict_or v (verdict_from (suc (length read)) (kept ++ learnt_filter s ∷ []) s)) none.0
      ∙ last_decides (suc (length read)) kept (learnt_filter s) s (plain_filters st.session s.policy s.rule plain) none.1 (learnt_holds s)
      ∙ ap (λ k. Permit k s.ids) numbered

-- the same for a lawful history
pub learned_decides : (i : Input) → IsStartable i → (h : History) (q n : ℕ) (s : Snapshot) → IsLawfulBack i (Learned q n ∷ h) → snapshot_in (looking_back i h) q ≡ Some s → decision_in i (looking_back i (Learned q n ∷ h)) s ≡ Permit n s.ids
learned_decides i startable h q n s lawful e =
    let x : IsLearned i (looking_back i h) q n = lawful.0 in
    subst (λ u. decision_in i (looking_back i (Learned q n ∷ h)) u ≡ Permit n u.ids) (same x.copies s (sym x.asked.copies ∙ e)) (learned_permits i (looking_back i h) (session_plain i startable h) q n x) where
      same : (u v : Snapshot) → Some u ≡ Some v → u ≡ v
      same u v f = cc
