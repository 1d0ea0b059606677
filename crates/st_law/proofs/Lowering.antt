-- Each lawful entry lowers the steps left: those of threads, messages and replies.
use native.Mathlib.Omega.{arith}
use Rattle.std.proofs.Common.{◌≡◌, ◌≢◌, ◌⊎◌, ◌≤◌, ℕ, ◌+◌, ◌*◌, Bool, true, false, cond, ◌==◌, List, ◌++◌, drop, Option, Some, None, refl, sym, ap, subst, ◌∙◌, inl, inr}
use Rattle.std.specs.Prelude.{is_some}
use Rattle.std.proofs.lemmas.Bool.{eqb-true, eqb-false, eq-eqb}
use Rattle.st_calls.specs.declared.call.SysCall.{SysCall}
use Rattle.st_calls.specs.declared.call.SysCall.TheVariants as calls
use Rattle.st_calls.specs.declared.judged.Snapshot.{Snapshot}
use Rattle.st_calls.specs.declared.judged.Verdict.{Verdict}
use Rattle.st_calls.specs.declared.judged.Verdict.TheVariants.{Permit, Refuse, Unmatched}
use Rattle.st_model.specs.Tree.{is_number}
use Rattle.st_trace.specs.Instructions.{IsCallOf}
use Rattle.st_trace.specs.declared.start.Instr.{Instr}
use Rattle.st_trace.specs.declared.start.Instr.TheVariants.{Store, Call, Fork, Reload}
use Rattle.st_law.specs.declared.input.Input.{Input}
use Rattle.st_law.specs.declared.input.Mode.{Mode}
use Rattle.st_law.specs.declared.input.Mode.TheVariants.{Enforce, Learn, AskText}
use Rattle.st_filter.specs.Policies.{filters_in_force}
use Rattle.st_calls.specs.Call.{sets_ids}
use Rattle.st_law.specs.Sessions.{SessionFilter, session_filters, decision}
use Rattle.st_law.specs.State.{State, thread_count, is_worker, snapshot_in, read_at, decision_in, is_undecided}
use Rattle.st_law.proofs.Copies.{Copies}
use Rattle.st_law.proofs.Growth.{session_append}
use Rattle.st_law.proofs.Least.{least}
use Rattle.st_law.proofs.MessageHistory.{number_only}
use Rattle.st_law.proofs.Potential.{weight, call_cost, thread_cost, taken, is_turn, may_be_learnt, remaining, message_cost, threads_cost, messages_cost, message_most, remaining_low, learnable, learnable_most, learnt_most}
use Rattle.st_law.proofs.Standing.{decision_append}
use Rattle.st_law.proofs.Sums.{total, total_low, total_drop, total_more, total_most}
use Rattle.st_law.proofs.Turns.{unlike, worker_range}

-- ---- turns

-- a number is a turn exactly when some worker has it as its turn
pub turn_found : (i : Input) (st : State) (q : ℕ) → is_turn i st q ≡ true → (w : ℕ) × (st.turns w ≡ Some q)
turn_found i st q = least (λ o. is_some o ≡ true → (w : ℕ) × (st.turns w ≡ Some q)) (λ w. is_number q (st.turns w)) 1 i.options.workers
    (λ w x e. (w, number_only q (st.turns w) x.holds)) (λ none e. cc)

pub turn_there : (i : Input) (st : State) (w q : ℕ) → is_worker i w ≡ true → st.turns w ≡ Some q → is_turn i st q ≡ true
turn_there i st w q worker turn = least (λ o. is_some o ≡ true) (λ v. is_number q (st.turns v)) 1 i.options.workers
    (λ v x. refl)
    (λ none. let range = worker_range i w worker in let high = range.1 in
    absurd (unlike (is_number q (st.turns w)) (ap (is_number q) turn ∙ eq-eqb q q refl) (none w range.0 (omega (arith, high)))))

pub turn_gone : (i : Input) (st : State) (q : ℕ) → ((w : ℕ) → st.turns w ≡ Some q → ⊥) → is_turn i st q ≡ false
turn_gone i st q none = by (is_turn i st q) refl where
  by : (b : Bool) → is_turn i st q ≡ b → is_turn i st q ≡ false
  by true e = let x : (w : ℕ) × (st.turns w ≡ Some q) = turn_found i st q e in absurd (none x.0 x.1)
  by false e = e

-- ---- numbers that may still be learnt

decided_or : (v : Verdict) → (v ≡ Unmatched) ⊎ ((v ≢ Unmatched) × (is_undecided v ≡ false))
decided_or (Permit n ids) = inr ((λ e. cc), refl)
decided_or (Refuse n errno) = inr ((λ e. cc), refl)
decided_or Unmatched = inl refl

-- if the operator learns, a state has the versions of another
abbrev pub KeepsVersions : Input → State → State → Type 0
KeepsVersions i st new = i.options.mode ≡ Learn → (policy : List ℕ) → new.versions policy ≡ st.versions policy

-- a session that grows leaves no more to be learnt, while nothing is reloaded
learnt_by_mode : (i : Input) (st new : State) (more : List SessionFilter) → new.session ≡ st.session ++ more → (s : Snapshot) → (mode : Mode) → (mode ≡ Learn → (policy : List ℕ) → new.versions policy ≡ st.versions policy)
    → learnable mode (is_undecided (decision_in i new s)) ≤ learnable mode (is_undecided (decision_in i st s))
learnt_by_mode i st new more grown s Enforce keeps = omega arith
learnt_by_mode i st new more grown s AskText keeps = omega arith
learnt_by_mode i st new more grown s Learn keeps = by (decided_or (decision_in i st s)) where
  by : (decision_in i st s ≡ Unmatched) ⊎ ((decision_in i st s ≢ Unmatched) × (is_undecided (decision_in i st s) ≡ false)) → learnable Learn (is_undecided (decision_in i new s)) ≤ learnable Learn (is_undecided (decision_in i st s))
  by (inl e) =
      let one : learnable Learn (is_undecided (decision_in i st s)) ≡ 1 = ap (λ v. learnable Learn (is_undecided v)) e in
      let most = learnable_most Learn (is_undecided (decision_in i new s)) in
      omega (arith, one, most)
  by (inr x) =
      let stays : decision_in i new s ≡ decision_in i st s =
      ap (λ version. decision (filters_in_force i.policies s.policy version s.rule) (session_filters new.session s.policy s.rule) s) (keeps refl s.policy)
      ∙ ap (λ session. decision (read_at i st s.policy s.rule) (session_filters session s.policy s.rule) s) grown
      ∙ ap (λ fs. decision (read_at i st s.policy s.rule) fs s) (session_append st.session more s.policy s.rule)
      ∙ decision_append (read_at i st s.policy s.rule) (session_filters st.session s.policy s.rule) (session_filters more s.policy s.rule) s x.0 in
      let same : learnable Learn (is_undecided (decision_in i new s)) ≡ learnable Learn (is_undecided (decision_in i st s)) = ap (λ v. learnable Learn (is_undecided v)) stays in
      omega (arith, same)

learnt_low : (i : Input) (st new : State) (more : List SessionFilter) → new.session ≡ st.session ++ more → KeepsVersions i st new → (o : Option Snapshot) → may_be_learnt i new o ≤ may_be_learnt i st o
learnt_low i st new more grown keeps None = omega arith
learnt_low i st new more grown keeps (Some s) = learnt_by_mode i st new more grown s i.options.mode keeps

-- ---- messages

-- a message is unchanged, and isn't a new turn
pub record IsUnmoved (i : Input) (st new : State) (p : ℕ) : Type 0 where
  pub claimed : (new.messages p).claimed ≡ (st.messages p).claimed
  pub taken_is : taken (new.messages p) ≡ taken (st.messages p)
  pub turn : is_turn i new p ≡ true → is_turn i st p ≡ true
  pub copies : snapshot_in new p ≡ snapshot_in st p

module _ (i : Input) (st : State) (copies : Copies st) where
  pub taken_few : (q : ℕ) → taken (st.messages q) ≤ 9602
  taken_few q =
      let a = copies.words q 0 in let b = copies.words q 1 in let c = copies.lookups q 0 in let d = copies.lookups q 1 in
      omega (arith, a, b, c, d)

  module _ (new : State) (more : List SessionFilter) (grown : new.session ≡ st.session ++ more) (keeps : KeepsVersions i st new) where
    pub unmoved_low : (p : ℕ) → IsUnmoved i st new p → message_cost i new p ≤ message_cost i st p
    unmoved_low p x =
        let learnt : may_be_learnt i new (snapshot_in new p) ≤ may_be_learnt i st (snapshot_in st p) =
        subst (λ o. may_be_learnt i new o ≤ may_be_learnt i st (snapshot_in st p)) (sym x.copies) (learnt_low i st new more grown keeps (snapshot_in st p)) in
        let low = remaining_low (st.messages p).claimed (is_turn i st p) (is_turn i new p) (taken (st.messages p)) (may_be_learnt i st (snapshot_in st p)) (may_be_learnt i new (snapshot_in new p)) x.turn learnt (learnt_most i st (snapshot_in st p)) (taken_few p) in
        let same : message_cost i new p ≡ remaining (st.messages p).claimed (is_turn i new p) (taken (st.messages p)) (may_be_learnt i new (snapshot_in new p)) =
        λ k. remaining (x.claimed k) (is_turn i new p) (x.taken_is k) (may_be_learnt i new (snapshot_in new p)) in
        omega (arith, low, same)

    -- unchanged messages, and `count` new ones
    pub messages_more : (count : ℕ) → new.posted ≡ st.posted + count → ((p : ℕ) → 1 ≤ p → p ≤ st.posted → IsUnmoved i st new p) → messages_cost i new ≤ messages_cost i st + 9605 * count
    messages_more count posted same =
        let split = total_more (message_cost i new) 1 st.posted count in
        let low = total_low (message_cost i new) (message_cost i st) 1 st.posted (λ p at below. unmoved_low p (same p at (omega (arith, below)))) in
        let most = total_most (message_cost i new) (1 + st.posted) count (message_most i new) in
        let counted : messages_cost i new ≡ total (message_cost i new) 1 (st.posted + count) = ap (total (message_cost i new) 1) posted in
        omega (arith, split, low, most, counted)

    -- one message has fewer steps left, and the others are unchanged
    pub messages_drop : (q : ℕ) → new.posted ≡ st.posted → 1 ≤ q → q ≤ st.posted → message_cost i new q + 1 ≤ message_cost i st q → ((p : ℕ) → q ≢ p → IsUnmoved i st new p) → messages_cost i new + 1 ≤ messages_cost i st
    messages_drop q posted at below drop same =
        let d = total_drop (message_cost i new) (message_cost i st) 1 st.posted q 1 (λ p from to. by p (q == p) refl) at (omega (arith, below)) drop in
        let counted : messages_cost i new ≡ total (message_cost i new) 1 st.posted = ap (total (message_cost i new) 1) posted in
        omega (arith, d, counted) where
          by : (p : ℕ) (b : Bool) → (q == p) ≡ b → message_cost i new p ≤ message_cost i st p
          by p true e = subst (λ n. message_cost i new n ≤ message_cost i st n) (eqb-true q p e) (omega (arith, drop))
          by p false e = unmoved_low p (same p (eqb-false q p e))

-- ---- threads

-- one thread has at least d fewer steps left, and the others no more
pub threads_drop : (i : Input) (st new : State) (u d : ℕ) → 1 ≤ u → u ≤ thread_count i → thread_cost (new.threads u) + d ≤ thread_cost (st.threads u) → ((t : ℕ) → (u == t) ≡ false → thread_cost (new.threads t) ≤ thread_cost (st.threads t)) → threads_cost i new + d ≤ threads_cost i st
threads_drop i st new u d at below drop others =
    total_drop (λ t. thread_cost (new.threads t)) (λ t. thread_cost (st.threads t)) 1 (thread_count i) u d (λ t from to. by t (u == t) refl) at (omega (arith, below)) drop where
      by : (t : ℕ) (b : Bool) → (u == t) ≡ b → thread_cost (new.threads t) ≤ thread_cost (st.threads t)
      by t true e = subst (λ n. thread_cost (new.threads n) ≤ thread_cost (st.threads n)) (eqb-true u t e) (omega (arith, drop))
      by t false e = others t e

-- the cost of an instruction that makes a call covers the call and a message
pub weight_of : (instruction : Instr) (call : SysCall) (regs : List ℕ) → IsCallOf instruction call regs → call_cost (sets_ids call) + 9999 ≤ weight instruction
weight_of (Store place word) call regs makes = absurd makes
weight_of (Reload n) call regs makes = absurd makes
weight_of (Call own own_regs) call regs makes = let same : sets_ids call ≡ sets_ids own = ap sets_ids makes.0 in by (sets_ids own) same where
  by : (b : Bool) → sets_ids call ≡ b → call_cost (sets_ids call) + 9999 ≤ cond b 650000 10000
  by true e = let c : call_cost (sets_ids call) ≡ call_cost true = ap call_cost e in omega (arith, c)
  by false e = let c : call_cost (sets_ids call) ≡ call_cost false = ap call_cost e in omega (arith, c)
weight_of (Fork child) call regs makes = let c : call_cost (sets_ids call) ≡ call_cost (sets_ids calls.Fork) = ap (λ made. call_cost (sets_ids made)) makes.0 in omega (arith, c)
