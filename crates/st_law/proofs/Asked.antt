-- The queries on a state mean what their names say.
use native.Mathlib.Omega.{arith}
use Rattle.std.proofs.Common.{◌≡◌, ◌≢◌, ◌≤◌, ◌<◌, ◌⊎◌, ◌↔◌, ℕ, zero, suc, ◌+◌, ◌*◌, ◌^◌, Bool, true, false, cond, not, ◌&&◌, ◌||◌, List, [], ◌∷◌, ◌++◌, length, map, Option, Some, None, is_some, nat_le, nat_lt, refl, sym, ap, subst, ◌∙◌, length-append, inl, inr}
use Rattle.std.specs.Prelude.{filter, slice_index}
use Rattle.std.specs.Bool.{Decides}
use Rattle.std.specs.Int.{byte_worth, sum_through}
use Rattle.std.specs.Str.{bytes_eq}
use Rattle.std.proofs.lemmas.Bool.{and_from, and_parts, false_from_ne_true, le-leb, leb-true, lt-ltb, ltb-true, or_right, true≢false}
use Rattle.std.proofs.lemmas.Option.{same_Some, slice_get_within}
use Rattle.std.proofs.lemmas.Slice.Eq.{bytes_eq-Decides}
use Rattle.st_base.specs.Numbered.{item_at_number}
use Rattle.st_base.specs.declared.errno.Errno.{Errno}
use Rattle.st_base.specs.declared.ids.Ids.{Ids}
use Rattle.st_calls.proofs.Rules.{same_rule-Decides}
use Rattle.st_calls.specs.Rules.{same_rule}
use Rattle.st_calls.specs.Call.{rule_of}
use Rattle.st_calls.specs.declared.argument.ArgText.{ArgText}
use Rattle.st_calls.specs.declared.call.SysCall.{SysCall}
use Rattle.st_calls.specs.declared.judged.Snapshot.{Snapshot}
use Rattle.st_calls.specs.declared.judged.Verdict.{Verdict}
use Rattle.st_calls.specs.declared.judged.Verdict.TheVariants.{Permit, Refuse, Unmatched}
use Rattle.st_calls.specs.declared.rule.FastAnswer.{FastAnswer}
use Rattle.st_calls.specs.declared.rule.FastAnswer.TheVariants as answer
use Rattle.st_calls.specs.declared.rule.Rule.{Rule}
use Rattle.st_filter.specs.Fast.{answer_by, fast_answer, fast}
use Rattle.st_filter.specs.Formula.{Formula, True, FilterValue}
use Rattle.st_filter.specs.Judging.{holds, verdict, verdict_by, verdict_from}
use Rattle.st_filter.specs.Policies.{is_for}
use Rattle.st_filter.specs.declared.filter.Action.{Action}
use Rattle.st_filter.specs.declared.filter.Action.TheVariants as action
use Rattle.st_filter.specs.declared.filter.FilterName.{FilterName}
use Rattle.st_filter.specs.declared.filter.FilterName.TheVariants as name
use Rattle.st_filter.specs.declared.filter.Grant.{Grant}
use Rattle.st_filter.specs.declared.filter.Predicate.{Predicate}
use Rattle.st_filter.specs.declared.set.Reply.{Reply}
use Rattle.st_model.specs.Memory.{bytes_from, word_of}
use Rattle.st_effects.specs.Progress.{Progress, Word, Look, Stuck, Ready}
use Rattle.st_law.specs.declared.input.Input.{Input}
use Rattle.st_law.specs.declared.input.Mode.{Mode}
use Rattle.st_law.specs.declared.input.Mode.TheVariants.{Enforce, Learn, AskText}
use Rattle.st_law.specs.Meaning.{IsWorker, IsWorkerAt, AreCopies, IsWordAt, IsKeptFor, IsFirstKept, AreKeptFor, IsFirstFilter, IsPlainPermit, IsPlainDenial, IsLeft, IsNextReply, IsAsking, IsMadeWith, IsSystemOfState, AreArgumentsOf}
use Rattle.st_law.specs.Messages.{Head}
use Rattle.st_law.specs.Sessions.{SessionFilter, is_kept_for, session_filters, verdict_or, is_reply_for}
use Rattle.st_law.specs.State.{State, read_at, space_of_head, word_for, is_live, is_ready, progress_in, snapshot_in, seq_at_work, worker_at, decision_in, answer_for, filter_count, is_reply_left, next_reply, operator_decides, is_undecided, is_open_question, is_question, child_of_pending, request_of, is_worker, progress_of_head, snapshot_with, snapshot_of_progress, system_of, arguments_now}
use Rattle.st_law.proofs.Least.{least}
use Rattle.st_law.proofs.OneStepTaken as one_step

-- ---- workers

module _ (st : State) (w q : ℕ) where
  at : (o : Option ℕ) → st.turns w ≡ o → seq_at_work st o ≡ Some q → IsWorkerAt st w q
  at None e f = cc
  at (Some p) e f = by (is_live st p) refl (progress_in st p) refl f where
    by : (b : Bool) → is_live st p ≡ b → (x : Progress) → progress_in st p ≡ x → cond (b || is_ready x) (Some p) None ≡ Some q → IsWorkerAt st w q
    by true live x is g = let same : p ≡ q = same_Some p q g in record { turn = e ∙ ap Some same; goes_on = inl (subst (λ k. is_live st k ≡ true) same live) }
    by false dead (Ready args) is g = let same : p ≡ q = same_Some p q g in record { turn = e ∙ ap Some same; goes_on = inr (args, subst (λ k. progress_in st k ≡ Ready args) same is) }
    by false dead (Word part place) is g = cc
    by false dead (Look part name) is g = cc
    by false dead (Stuck errno) is g = cc

  goes_on : (is_live st q ≡ true) ⊎ ((args : List ArgText) × (progress_in st q ≡ Ready args)) → (is_live st q || is_ready (progress_in st q)) ≡ true
  goes_on (inl live) = ap (λ b. b || is_ready (progress_in st q)) live
  goes_on (inr ready) = or_right (is_live st q) (is_ready (progress_in st q)) (ap is_ready ready.1)

  pub worker : (worker_at st w ≡ Some q) ↔ IsWorkerAt st w q
  worker = (at (st.turns w) refl, λ x. ap (seq_at_work st) x.turn ∙ ap (λ b. cond b (Some q) None) (goes_on x.goes_on))

pub workers : (i : Input) (w : ℕ) → (is_worker i w ≡ true) ↔ IsWorker i w
workers i w = (there, λ x. and_from (nat_lt 0 w) (nat_le w i.options.workers) (lt-ltb 0 w x.0) (le-leb w i.options.workers x.1)) where
  there : is_worker i w ≡ true → IsWorker i w
  there e = let both = and_parts (nat_lt 0 w) (nat_le w i.options.workers) e in (ltb-true 0 w both.0, leb-true w i.options.workers both.1)

-- ---- copies

module _ (st : State) (q : ℕ) (s : Snapshot) where
  copies_of : (o : Option Head) → (st.messages q).head ≡ o → (x : Progress) → progress_of_head o (st.messages q).words (st.messages q).lookups ≡ x
      → snapshot_of_progress q o x ≡ Some s → AreCopies st q s
  copies_of None e x f g = cc
  copies_of (Some head) e (Word part place) f g = cc
  copies_of (Some head) e (Look part name) f g = cc
  copies_of (Some head) e (Stuck errno) f g = cc
  copies_of (Some head) e (Ready args) f g = let same : snapshot_with q head args ≡ s = same_Some (snapshot_with q head args) s g in record {
    head = head;
    posted = e;
    seq_is = ap (λ u. u.seq) (sym same);
    pid_is = ap (λ u. u.pid) (sym same);
    ids_are = ap (λ u. u.ids) (sym same);
    policy_is = ap (λ u. u.policy) (sym same);
    version_is = ap (λ u. u.version) (sym same);
    rule_is = ap (λ u. u.rule) (sym same);
    call_is = ap (λ u. u.call) (sym same);
    regs_are = ap (λ u. u.regs) (sym same);
    parts_are = f ∙ ap (λ u. Ready u.parts) same;
  }

  are_copies : AreCopies st q s → snapshot_in st q ≡ Some s
  are_copies x =
      (λ k. snapshot_of_progress q (x.posted k) (progress_of_head (x.posted k) (st.messages q).words (st.messages q).lookups))
      ∙ ap (snapshot_of_progress q (Some x.head)) x.parts_are
      ∙ sym (λ k. Some (record {
        seq = x.seq_is k;
        pid = x.pid_is k;
        ids = x.ids_are k;
        policy = x.policy_is k;
        version = x.version_is k;
        rule = x.rule_is k;
        call = x.call_is k;
        regs = x.regs_are k;
        parts = s.parts;
      }))

  pub copies : (snapshot_in st q ≡ Some s) ↔ AreCopies st q s
  copies = (copies_of (st.messages q).head refl (progress_of_head (st.messages q).head (st.messages q).words (st.messages q).lookups) refl, are_copies)

-- ---- words

byte_of : (bytes : ℕ → ℕ) (at n j : ℕ) → j < n → slice_index (bytes_from bytes at n) j ≡ bytes (at + j)
byte_of bytes at zero j low = absurd (omega (arith, low))
byte_of bytes at (suc n) zero low = ap bytes (let same : at ≡ at + 0 = omega arith in same)
byte_of bytes at (suc n) (suc j) low = byte_of bytes (at + 1) n j (omega (arith, low)) ∙ ap bytes (let same : at + 1 + j ≡ at + suc j = omega arith in same)

worth : (j b : ℕ) → byte_worth j b ≡ b * 256 ^ j
worth zero b = let same : b ≡ b * 1 = omega arith in same
worth (suc j) b = refl

sum_same : (f g : ℕ → ℕ) (k : ℕ) → ((j : ℕ) → j ≤ k → f j ≡ g j) → sum_through f k ≡ sum_through g k
sum_same f g zero same = same 0 (omega arith)
sum_same f g (suc k) same = (λ x. sum_same f g k (λ j low. same j (omega (arith, low))) x + same (suc k) (omega arith) x)

word_at : (bytes : ℕ → ℕ) (place : ℕ) → IsWordAt bytes place (word_of bytes place)
word_at bytes place = sum_same (λ j. byte_worth j (slice_index (bytes_from bytes (8 * place) 8) j)) (λ j. bytes (8 * place + j) * 256 ^ j) 7
    (λ j low. worth j (slice_index (bytes_from bytes (8 * place) 8) j) ∙ ap (λ b. b * 256 ^ j) (byte_of bytes (8 * place) 8 j (omega (arith, low))))

pub word : (st : State) (q place : ℕ) (head : Head) → (st.messages q).head ≡ Some head → IsWordAt (st.memory (st.processes head.pid).space) place (word_for st q place)
word st q place head e = ap (λ o. word_of (st.memory (space_of_head st o)) place) e ∙ word_at (st.memory (st.processes head.pid).space) place

-- ---- the session's filters of a policy and a rule

module _ (policy : List ℕ) (rule : Rule) where
  kept_for : (kept : SessionFilter) → Decides (is_kept_for policy rule kept) (IsKeptFor policy rule kept)
  kept_for kept = (there, back) where
    there : is_kept_for policy rule kept ≡ true → IsKeptFor policy rule kept
    there e = let both = and_parts (bytes_eq kept.policy policy) (same_rule kept.rule rule) e in
        ((bytes_eq-Decides kept.policy policy).0 both.0, (same_rule-Decides kept.rule rule).0 both.1)

    back : IsKeptFor policy rule kept → is_kept_for policy rule kept ≡ true
    back x = and_from (bytes_eq kept.policy policy) (same_rule kept.rule rule) ((bytes_eq-Decides kept.policy policy).1 x.0) ((same_rule-Decides kept.rule rule).1 x.1)

  not_kept : (kept : SessionFilter) → is_kept_for policy rule kept ≡ false → IsKeptFor policy rule kept → ⊥
  not_kept kept e x = true≢false (sym ((kept_for kept).1 x) ∙ e)

  -- the filters of a session with this one before the others, by whether it is for the policy and the rule
  abbrev with_first : Bool → SessionFilter → List SessionFilter → List FilterValue
  with_first b kept session = map (λ k. k.filter) (cond b (kept ∷ filter (is_kept_for policy rule) session) (filter (is_kept_for policy rule) session))

  first_kept : (session : List SessionFilter) (f : FilterValue) (more : List FilterValue) → session_filters session policy rule ≡ f ∷ more → IsFirstKept policy rule session f
  first_kept [] f more e = cc
  first_kept (kept ∷ session) f more e = by (is_kept_for policy rule kept) refl e (first_kept session f more) where
    by : (b : Bool) → is_kept_for policy rule kept ≡ b → with_first b kept session ≡ f ∷ more → (session_filters session policy rule ≡ f ∷ more → IsFirstKept policy rule session f) → IsFirstKept policy rule (kept ∷ session) f
    by true is g rest = inl ((kept_for kept).0 is, same g) where
      same : kept.filter ∷ session_filters session policy rule ≡ f ∷ more → kept.filter ≡ f
      same h = cc
    by false is g rest = inr (not_kept kept is, rest g)

  kept_first : (session : List SessionFilter) (f : FilterValue) → IsFirstKept policy rule session f → (more : List FilterValue) × (session_filters session policy rule ≡ f ∷ more)
  kept_first [] f x = absurd x
  kept_first (kept ∷ session) f (inl x) =
      (session_filters session policy rule, ap (λ b. with_first b kept session) ((kept_for kept).1 x.0) ∙ ap (λ g. g ∷ session_filters session policy rule) x.1)
  kept_first (kept ∷ session) f (inr x) = let y : (more : List FilterValue) × (session_filters session policy rule ≡ f ∷ more) = kept_first session f x.1 in
      (y.0, ap (λ b. with_first b kept session) (false_from_ne_true (is_kept_for policy rule kept) (λ e. x.0 ((kept_for kept).0 e))) ∙ y.1)

  kept_count : (session : List SessionFilter) → AreKeptFor policy rule session (length (session_filters session policy rule))
  kept_count [] = refl
  kept_count (kept ∷ session) = by (is_kept_for policy rule kept) refl (kept_count session) where
    by : (b : Bool) → is_kept_for policy rule kept ≡ b → AreKeptFor policy rule session (length (session_filters session policy rule)) → AreKeptFor policy rule (kept ∷ session) (length (with_first b kept session))
    by true is rest = inl ((kept_for kept).0 is, (length (session_filters session policy rule), refl, rest))
    by false is rest = inr (not_kept kept is, rest)

pub count : (i : Input) (st : State) (s : Snapshot) → (n : ℕ) × AreKeptFor s.policy s.rule st.session n × (filter_count i st s ≡ length (read_at i st s.policy s.rule) + n)
count i st s = (
  length (session_filters st.session s.policy s.rule),
  kept_count s.policy s.rule st.session,
  length-append (read_at i st s.policy s.rule) (session_filters st.session s.policy s.rule),
)

-- ---- decisions

or_unless : (v w : Verdict) → v ≢ Unmatched → verdict_or v w ≡ v
or_unless (Permit n ids) w some = refl
or_unless (Refuse n errno) w some = refl
or_unless Unmatched w some = absurd (some refl)

pub read_decides : (i : Input) (st : State) (s : Snapshot) → verdict (read_at i st s.policy s.rule) s ≢ Unmatched → decision_in i st s ≡ verdict (read_at i st s.policy s.rule) s
read_decides i st s some = or_unless (verdict (read_at i st s.policy s.rule) s)
    (verdict_from (suc (length (read_at i st s.policy s.rule))) (session_filters st.session s.policy s.rule) s) some

pub session_decides : (i : Input) (st : State) (s : Snapshot) → verdict (read_at i st s.policy s.rule) s ≡ Unmatched
    → decision_in i st s ≡ verdict_from (1 + length (read_at i st s.policy s.rule)) (session_filters st.session s.policy s.rule) s
session_decides i st s none =
    ap (λ v. verdict_or v (verdict_from (suc (length (read_at i st s.policy s.rule))) (session_filters st.session s.policy s.rule) s)) none
    ∙ ap (λ n. verdict_from n (session_filters st.session s.policy s.rule) s)
    (let same : suc (length (read_at i st s.policy s.rule)) ≡ 1 + length (read_at i st s.policy s.rule) = omega arith in same)

-- ---- the kernel's own answer

-- the parts of a plain permit, and of a plain deny
permit_parts : (formula : Formula) (act : Action) (grant : Option Grant) (log : Bool) (predicate : Option Predicate) → answer_by formula act grant log predicate ≡ answer.Permit
    → (formula ≡ True) × (act ≡ action.Permit) × (grant ≡ None) × (log ≡ false) × (predicate ≡ None)
permit_parts True action.Permit None false None e = (refl, refl, refl, refl, refl)
permit_parts True action.Permit None false (Some asked) e = cc
permit_parts True action.Permit None true predicate e = cc
permit_parts True action.Permit (Some granted) log predicate e = cc
permit_parts True (action.Deny errno) grant false None e = cc
permit_parts True (action.Deny errno) grant false (Some asked) e = cc
permit_parts True (action.Deny errno) grant true predicate e = cc
permit_parts True action.Ask grant log predicate e = cc
permit_parts formula act grant log predicate e = cc

denial_parts : (errno : Errno) (formula : Formula) (act : Action) (grant : Option Grant) (log : Bool) (predicate : Option Predicate) → answer_by formula act grant log predicate ≡ answer.Refuse errno
    → (formula ≡ True) × (act ≡ action.Deny errno) × (log ≡ false) × (predicate ≡ None)
denial_parts errno True (action.Deny other) grant false None e = (refl, ap action.Deny (same e), refl, refl) where
  same : answer.Refuse other ≡ answer.Refuse errno → other ≡ errno
  same f = cc
denial_parts errno True (action.Deny other) grant false (Some asked) e = cc
denial_parts errno True (action.Deny other) grant true predicate e = cc
denial_parts errno True action.Permit None false None e = cc
denial_parts errno True action.Permit None false (Some asked) e = cc
denial_parts errno True action.Permit None true predicate e = cc
denial_parts errno True action.Permit (Some granted) log predicate e = cc
denial_parts errno True action.Ask grant log predicate e = cc
denial_parts errno formula act grant log predicate e = cc

permit_is : (f : FilterValue) → (fast_answer f ≡ answer.Permit) ↔ IsPlainPermit f
permit_is f = (there, λ x k. answer_by (x.formula_is k) (x.action_is k) (x.grant_is k) (x.log_is k) (x.predicate_is k)) where
  there : fast_answer f ≡ answer.Permit → IsPlainPermit f
  there e = let x = permit_parts f.formula f.action f.grant f.log f.predicate e in
      record { formula_is = x.0; action_is = x.1; grant_is = x.2; log_is = x.3; predicate_is = x.4 }

denial_is : (errno : Errno) (f : FilterValue) → (fast_answer f ≡ answer.Refuse errno) ↔ IsPlainDenial errno f
denial_is errno f = (there, λ x k. answer_by (x.formula_is k) (x.action_is k) f.grant (x.log_is k) (x.predicate_is k)) where
  there : fast_answer f ≡ answer.Refuse errno → IsPlainDenial errno f
  there e = let x = denial_parts errno f.formula f.action f.grant f.log f.predicate e in
      record { formula_is = x.0; action_is = x.1; log_is = x.2; predicate_is = x.3 }

module _ (i : Input) (st : State) (policy : List ℕ) (rule : Rule) (given : FastAnswer) (Is : FilterValue → Type 0) (asks : answer.Ask ≢ given) (is : (f : FilterValue) → (fast_answer f ≡ given) ↔ Is f) where
  by_kept : read_at i st policy rule ≡ [] → (fs : List FilterValue) → session_filters st.session policy rule ≡ fs → fast fs ≡ given → (f : FilterValue) × IsFirstFilter i st policy rule f × Is f
  by_kept none [] e g = absurd (asks g)
  by_kept none (f ∷ more) e g = (f, inr (none, first_kept policy rule st.session f more e), (is f).0 g)

  by_read : (fs : List FilterValue) → read_at i st policy rule ≡ fs → fast (fs ++ session_filters st.session policy rule) ≡ given → (f : FilterValue) × IsFirstFilter i st policy rule f × Is f
  by_read [] e g = by_kept e (session_filters st.session policy rule) refl g
  by_read (f ∷ more) e g = (f, inl (more, e), (is f).0 g)

  by_first : (f : FilterValue) → IsFirstFilter i st policy rule f → Is f → answer_for i st policy rule ≡ given
  by_first f (inl x) y = ap (λ fs. fast (fs ++ session_filters st.session policy rule)) x.1 ∙ (is f).1 y
  by_first f (inr x) y = ap (λ fs. fast (fs ++ session_filters st.session policy rule)) x.0 ∙ ap fast (kept_first policy rule st.session f x.1).1 ∙ (is f).1 y

  first_decides : (answer_for i st policy rule ≡ given) ↔ ((f : FilterValue) × IsFirstFilter i st policy rule f × Is f)
  first_decides = (by_read (read_at i st policy rule) refl, λ x. by_first x.0 x.1 x.2)

pub permits : (i : Input) (st : State) (policy : List ℕ) (rule : Rule) → (answer_for i st policy rule ≡ answer.Permit) ↔ ((f : FilterValue) × IsFirstFilter i st policy rule f × IsPlainPermit f)
permits i st policy rule = first_decides i st policy rule answer.Permit IsPlainPermit (λ e. cc) permit_is

pub refuses : (i : Input) (st : State) (policy : List ℕ) (rule : Rule) (errno : Errno) → (answer_for i st policy rule ≡ answer.Refuse errno) ↔ ((f : FilterValue) × IsFirstFilter i st policy rule f × IsPlainDenial errno f)
refuses i st policy rule errno = first_decides i st policy rule (answer.Refuse errno) (IsPlainDenial errno) (λ e. cc) (denial_is errno)

-- ---- replies

module _ (i : Input) (st : State) (policy : List ℕ) (rule : Rule) where
  not_so : (b : Bool) → not b ≡ true → b ≡ false
  not_so true e = cc
  not_so false e = refl

  named : (n : FilterName) → is_for rule n ≡ true → n ≡ name.Rule rule
  named (name.Rule other) e = ap name.Rule ((same_rule-Decides other rule).0 e)
  named (name.Other other) e = cc

  left : (r : ℕ) → Decides (is_reply_left i st policy rule r) (IsLeft i st policy rule r)
  left r = (there (item_at_number i.replies r) refl, back) where
    there : (o : Option Reply) → item_at_number i.replies r ≡ o → (is_reply_for policy rule o && not (st.replied r)) ≡ true → IsLeft i st policy rule r
    there None e f = cc
    there (Some reply) e f =
        let both = and_parts (is_reply_for policy rule (Some reply)) (not (st.replied r)) f in
        let parts = and_parts (bytes_eq reply.binary policy) (is_for rule reply.filter.name) both.0 in record {
          reply = reply;
          there = e;
          binary_is = (bytes_eq-Decides reply.binary policy).0 parts.0;
          rule_is = named reply.filter.name parts.1;
          ungiven = not_so (st.replied r) both.1;
        }

    back : IsLeft i st policy rule r → is_reply_left i st policy rule r ≡ true
    back x = and_from (is_reply_for policy rule (item_at_number i.replies r)) (not (st.replied r))
        (ap (is_reply_for policy rule) x.there ∙ and_from (bytes_eq x.reply.binary policy) (is_for rule x.reply.filter.name)
        ((bytes_eq-Decides x.reply.binary policy).1 x.binary_is) (ap (is_for rule) x.rule_is ∙ (same_rule-Decides rule rule).1 refl))
        (ap not x.ungiven)

  -- a reply that is left is among the script's
  within : (r : ℕ) → IsLeft i st policy rule r → (1 ≤ r) × (r < 1 + length i.replies)
  within zero x = absurd (none x.there) where
    none : None ≡ Some x.reply → ⊥
    none e = cc
  within (suc r) x = let low = slice_get_within i.replies r x.reply x.there in (omega arith, omega (arith, low))

  not_left : (r : ℕ) → is_reply_left i st policy rule r ≡ false → IsLeft i st policy rule r → ⊥
  not_left r e x = true≢false (sym ((left r).1 x) ∙ e)

  pub reply : IsNextReply i st policy rule (next_reply i st policy rule)
  reply = least (IsNextReply i st policy rule) (is_reply_left i st policy rule) 1 (length i.replies)
      (λ q x. ((left q).0 x.holds, λ k low y. not_left k (x.least k (within k y).0 low) y))
      (λ none r x. not_left r (none r (within r x).0 (within r x).1) x)

-- ---- questions

both_undecided : (v w : Verdict) → verdict_or v w ≡ Unmatched → (v ≡ Unmatched) × (w ≡ Unmatched)
both_undecided (Permit n ids) w e = cc
both_undecided (Refuse n errno) w e = cc
both_undecided Unmatched w e = (refl, e)

-- filters that decide nothing decide nothing under other numbers
undecided_from : (n m : ℕ) (fs : List FilterValue) (s : Snapshot) → verdict_from n fs s ≡ Unmatched → verdict_from m fs s ≡ Unmatched
undecided_from n m [] s e = refl
undecided_from n m (f ∷ fs) s e = by (holds f s) e (undecided_from (suc n) (suc m) fs s) where
  asks : (act : Action) → verdict_by n f.grant s.ids act ≡ Unmatched → verdict_by m f.grant s.ids act ≡ Unmatched
  asks action.Permit g = cc
  asks (action.Deny errno) g = cc
  asks action.Ask g = refl

  by : (b : Bool) → cond b (verdict_by n f.grant s.ids f.action) (verdict_from (suc n) fs s) ≡ Unmatched → (verdict_from (suc n) fs s ≡ Unmatched → verdict_from (suc m) fs s ≡ Unmatched)
      → cond b (verdict_by m f.grant s.ids f.action) (verdict_from (suc m) fs s) ≡ Unmatched
  by true g rest = asks f.action g
  by false g rest = rest g

undecided : (v : Verdict) → is_undecided v ≡ true → v ≡ Unmatched
undecided (Permit n ids) e = cc
undecided (Refuse n errno) e = cc
undecided Unmatched e = refl

module _ (i : Input) (st : State) (q : ℕ) where
  module _ (s : Snapshot) where
    abbrev Operates : Type 0
    Operates = (i.options.mode ≡ Learn) ⊎ ((i.options.mode ≡ AskText) × ((r : ℕ) × IsLeft i st s.policy s.rule r))

    some_left : (o : Option ℕ) → IsNextReply i st s.policy s.rule o → is_some o ≡ true → (r : ℕ) × IsLeft i st s.policy s.rule r
    some_left None x e = cc
    some_left (Some r) x e = (r, x.0)

    is_left : (o : Option ℕ) → IsNextReply i st s.policy s.rule o → (r : ℕ) → IsLeft i st s.policy s.rule r → is_some o ≡ true
    is_left None x r y = absurd (x r y)
    is_left (Some k) x r y = refl

    operates : (mode : Mode) → i.options.mode ≡ mode → operator_decides i st s mode ≡ true → Operates
    operates Enforce e f = cc
    operates Learn e f = inl e
    operates AskText e f = inr (e, some_left (next_reply i st s.policy s.rule) (reply i st s.policy s.rule) f)

    asked : Operates → operator_decides i st s i.options.mode ≡ true
    asked (inl e) = ap (operator_decides i st s) e
    asked (inr x) = ap (operator_decides i st s) x.0 ∙ is_left (next_reply i st s.policy s.rule) (reply i st s.policy s.rule) x.1.0 x.1.1

    none_decides : verdict (read_at i st s.policy s.rule) s ≡ Unmatched → verdict (session_filters st.session s.policy s.rule) s ≡ Unmatched → decision_in i st s ≡ Unmatched
    none_decides unread unkept =
        ap (λ v. verdict_or v (verdict_from (suc (length (read_at i st s.policy s.rule))) (session_filters st.session s.policy s.rule) s)) unread
        ∙ undecided_from 1 (suc (length (read_at i st s.policy s.rule))) (session_filters st.session s.policy s.rule) s unkept

  asks : is_live st q ≡ true → (st.messages q).answered ≡ true → (o : Option Snapshot) → snapshot_in st q ≡ o → is_open_question i st o ≡ true → IsAsking i st q
  asks live answered None e f = cc
  asks live answered (Some s) e f =
      let both = and_parts (is_undecided (decision_in i st s)) (operator_decides i st s i.options.mode) f in
      let none = both_undecided (verdict (read_at i st s.policy s.rule) s)
      (verdict_from (suc (length (read_at i st s.policy s.rule))) (session_filters st.session s.policy s.rule) s) (undecided (decision_in i st s) both.0) in record {
        live = live;
        answered = answered;
        copies = s;
        copied = e;
        unread = none.0;
        unkept = undecided_from (suc (length (read_at i st s.policy s.rule))) 1 (session_filters st.session s.policy s.rule) s none.1;
        operator = operates s i.options.mode refl both.1;
      }

  pub question : (is_question i st q ≡ true) ↔ IsAsking i st q
  question = (there, back) where
    there : is_question i st q ≡ true → IsAsking i st q
    there e =
        let x = and_parts (is_live st q && (st.messages q).answered) (is_open_question i st (snapshot_in st q)) e in
        let y = and_parts (is_live st q) (st.messages q).answered x.0 in
        asks y.0 y.1 (snapshot_in st q) refl x.1

    back : IsAsking i st q → is_question i st q ≡ true
    back x = and_from (is_live st q && (st.messages q).answered) (is_open_question i st (snapshot_in st q))
        (and_from (is_live st q) (st.messages q).answered x.live x.answered)
        (ap (is_open_question i st) x.copied ∙ and_from (is_undecided (decision_in i st x.copies)) (operator_decides i st x.copies i.options.mode)
        (ap is_undecided (none_decides x.copies x.unread x.unkept)) (asked x.copies x.operator))

-- ---- calls

pub made_with : (i : Input) (st : State) (t : ℕ) (regs : List ℕ) (args : List ArgText) (ids : Ids) → IsMadeWith i st t regs args ids (request_of i st t regs args ids)
made_with i st t regs args ids =
    record { tid_is = refl; pid_is = refl; ids_are = refl; regs_are = refl; args_are = refl; child_is = λ entered e. ap child_of_pending e; inherit_is = refl }

pub found_as : (i : Input) (st : State) → IsSystemOfState st (system_of i st)
found_as i st = record {
  tree_is = refl;
  memory_is = refl;
  descriptors_are = refl;
  processes_are = refl;
  next_process_is = refl;
  next_space_is = refl;
  next_number_is = refl;
}

pub arguments : (i : Input) (st : State) (t : ℕ) (call : SysCall) (regs : List ℕ) → AreArgumentsOf i st t call regs (arguments_now i st t call regs)
arguments i st t call regs =
    let x = one_step.arguments_taken (record { rule = rule_of call regs i.options.aliasing; call = call; regs = regs; cwd = (st.processes (st.threads t).owner).cwd })
    (record { bytes = st.memory (st.processes (st.threads t).owner).space; tree = st.tree }) in
    (x.0, x.1, x.2, x.2.arguments)
