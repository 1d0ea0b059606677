-- A still thread stays still after each entry of another that doesn't wake it.
use native.Mathlib.Omega.{arith}
use Rattle.std.proofs.Common.{◌≡◌, ◌≢◌, ◌≤◌, ◌<◌, ◌⊎◌, ℕ, suc, ◌+◌, Bool, true, false, cond, ◌&&◌, ◌||◌, ◌==◌, List, [], ◌∷◌, ◌++◌, Option, Some, None, refl, sym, ap, subst, ◌∙◌, inl, inr}
use Rattle.std.proofs.lemmas.Bool.{and_from, and_parts, eq-eqb, ne_eqb, or_parts, true≢false}
use Rattle.std.specs.List.{list_any}
use Rattle.std.specs.Prelude.{is_some, length, not}
use Rattle.st_base.specs.Numbered.{item_at_number}
use Rattle.st_base.specs.declared.ids.Ids.{Ids}
use Rattle.st_calls.specs.declared.argument.ArgText.{ArgText}
use Rattle.st_calls.specs.declared.call.SysCall.{SysCall}
use Rattle.st_calls.specs.declared.judged.Snapshot.{Snapshot}
use Rattle.st_effects.specs.Changes.{dying_after_change, owner_after_change, seq_after}
use Rattle.st_effects.specs.Processes.{is_other_of, renewals_by}
use Rattle.st_effects.specs.System.{HeldCall}
use Rattle.st_filter.specs.Policies.{filters_in_force, is_block_of}
use Rattle.st_filter.specs.declared.set.Reply.{Reply}
use Rattle.st_trace.specs.declared.entry.CallResult.{CallResult}
use Rattle.st_trace.specs.declared.entry.Change.{Change}
use Rattle.st_trace.specs.declared.entry.Change.TheVariants.{Dying, Execed, Forked}
use Rattle.st_trace.specs.declared.entry.Choice.{Choice}
use Rattle.st_trace.specs.declared.entry.Entry.{Entry}
use Rattle.st_trace.specs.declared.entry.Entry.TheVariants.{Stored, Entered, Claimed, Copied, Looked, Faulted, Answered, Used, Denied, Ended, Learned, Replied, Reloaded}
use Rattle.st_trace.specs.declared.entry.Way.{Way}
use Rattle.st_trace.specs.declared.entry.Way.TheVariants.{Fast, Barred, Held, Untraced}
use Rattle.st_law.specs.declared.input.Input.{Input}
use Rattle.st_law.specs.declared.input.Mode.{Mode}
use Rattle.st_law.specs.declared.input.Mode.TheVariants.{Enforce, Learn, AskText}
use Rattle.st_law.specs.Lawful.{IsLawful, IsLearned, IsReplied, IsUsed}
use Rattle.st_law.specs.Machine.{entry_of, state_after, thread_entry}
use Rattle.st_law.specs.Sessions.{decision, is_reply_for, learnt_by, learnt_filter, least_from, replied_by, session_filters}
use Rattle.st_law.specs.State.{State, held_from, is_head_under, is_held_under, reload_changes, operator_decides, is_live, is_open_question, is_undecided, request_of, snapshot_in, system_of, thread_count}
use Rattle.st_law.specs.Threads.{child_of_next, thread_of}
use Rattle.st_law.proofs.HeldCalls.{IsHolder, held_of, own_of}
use Rattle.st_law.proofs.Invariant.{IsOpen, IfPending, Fine}
use Rattle.st_law.proofs.QuietChanges.{fold_same, mute_of_quiet, seq_mute}
use Rattle.st_law.proofs.HeldRenewals.{open_of, renewal}
use Rattle.st_law.proofs.ReloadKept.{same_dying, same_owner}
use Rattle.st_law.proofs.Renewals.{one_more}
use Rattle.st_law.proofs.ThreadSteps.{IsCopyOf, copies_of}
use Rattle.st_law.proofs.Shapes.{Each, Shape, quiet, forked, execed, renewed}
use Rattle.st_law.proofs.Turns.{IsFresh}
use Rattle.st_law.proofs.UsedShapes.{used_shape}
use Rattle.st_law.proofs.Standing.{answered_after_entry, copies_after}
use Rattle.st_reached.specs.Waiting.{WaitsForOperator, IsAwaiting, IsStill, are_alike, asking, awaiting, ended, holds_alike, is_head_by, is_message_by, unstarted, wakes, wakes_all}
use Rattle.st_reached.proofs.Movers.{others_add}
use Rattle.st_reached.proofs.Reached.{Reached, held_live, lawful_entry, reached_after}
use Rattle.st_reached.proofs.Still.{none_still, question_answered, still_none}
use Rattle.st_reached.proofs.Unlike.{are_of_one, asked_on, copies_alike, open_on, reply_there}

-- ---- changes that wake no thread

abbrev IsCalm : Change → Type 0
IsCalm c = wakes_all c ≡ false

calm_each : (changes : List Change) → list_any wakes_all changes ≡ false → Each IsCalm changes
calm_each [] none = tt
calm_each (c ∷ changes) none = let parts = or_parts (wakes_all c) (list_any wakes_all changes) none in (parts.0, calm_each changes parts.1)

owner_calm : (t o : ℕ) (c : Change) → IsCalm c → owner_after_change t o c ≡ o
owner_calm t o (Forked pid space tid) calm = absurd (true≢false calm)
owner_calm t o _ calm = refl

dying_calm : (t p u m : ℕ) (b : Bool) (c : Change) → IsCalm c → dying_after_change t p u m b c ≡ b
dying_calm t p u m b (Dying pid) calm = absurd (true≢false calm)
dying_calm t p u m b (Execed binary space) calm = absurd (true≢false calm)
dying_calm t p u m b _ calm = refl

-- ---- the number of a held call is the same, or a new one

abbrev SameOrNew : ℕ → ℕ → List Change → Type 0
SameOrNew n next changes = (seq_after n changes ≡ n) ⊎ (next ≤ seq_after n changes)

module _ (is : HeldCall → Bool) where
  renewals_new : (n next : ℕ) (helds : List HeldCall) → SameOrNew n next (renewals_by is next helds)
  renewals_new n next [] = inl refl
  renewals_new n next (held ∷ more) = one_more is (SameOrNew n next) next held more
      (λ is_so. by (held.number == n) (renewals_new n (next + 1) more) (renewals_new next (next + 1) more))
      (λ not_so. renewals_new n next more) where
        here : SameOrNew next (next + 1) (renewals_by is (next + 1) more) → next ≤ seq_after next (renewals_by is (next + 1) more)
        here (inl same) = omega (arith, same)
        here (inr high) = omega (arith, high)

        later : SameOrNew n (next + 1) (renewals_by is (next + 1) more) → SameOrNew n next (renewals_by is (next + 1) more)
        later (inl same) = inl same
        later (inr high) = inr (omega (arith, high))

        by : (b : Bool) → SameOrNew n (next + 1) (renewals_by is (next + 1) more) → SameOrNew next (next + 1) (renewals_by is (next + 1) more)
            → (seq_after (cond b next n) (renewals_by is (next + 1) more) ≡ n) ⊎ (next ≤ seq_after (cond b next n) (renewals_by is (next + 1) more))
        by true x y = inr (here y)
        by false x y = later x

-- ---- from entry to entry

-- a number's message was neither faulted nor answered
abbrev IsUnmetIn : State → ℕ → Type 0
IsUnmetIn st q = ((st.messages q).fault ≡ None) × ((st.messages q).answered ≡ false)

-- whether copies are asked about depends on the replies that were given
asked_by : (i : Input) (st new : State) → new.replied ≡ st.replied → (s : Snapshot) (mode : Mode) → operator_decides i new s mode ≡ operator_decides i st s mode
asked_by i st new replied s Enforce = refl
asked_by i st new replied s Learn = refl
asked_by i st new replied s AskText = λ k. is_some (least_from (λ n. is_reply_for s.policy s.rule (item_at_number i.replies n) && not (replied k n)) 1 (length i.replies))

open_by : (i : Input) (st new : State) → new.session ≡ st.session → new.replied ≡ st.replied → (s : Snapshot) → new.versions s.policy ≡ st.versions s.policy → is_open_question i new (Some s) ≡ is_open_question i st (Some s)
open_by i st new session replied s version =
    λ k. is_undecided (decision (filters_in_force i.policies s.policy (version k) s.rule) (session_filters (session k) s.policy s.rule) s) && asked_by i st new replied s i.options.mode k

module _ (i : Input) (st : State) (reached : Reached i st) (t : ℕ) where
  abbrev number : ℕ
  number = (st.threads t).number

  abbrev IsUnmet : ℕ → Type 0
  IsUnmet q = IsUnmetIn st q

  -- a number that isn't drawn yet was neither faulted nor answered
  unmet_above : (q : ℕ) → st.posted < q → IsUnmet q
  unmet_above q high = by (st.messages q).claimed refl where
    by : (b : Bool) → (st.messages q).claimed ≡ b → IsUnmet q
    by true claimed = absurd (let low = reached.whole.turns.low q claimed in omega (arith, low, high))
    by false unclaimed = let fresh : IsFresh (st.messages q) = reached.whole.turns.fresh q unclaimed in (fresh.fault, fresh.answered)

  -- what an entry leaves unchanged of a still thread, so that the thread stays still
  pub record Leaves (e : Entry) : Type 0 where
    pub owner : ((state_after i st e).threads t).owner ≡ (st.threads t).owner
    pub over : ((state_after i st e).threads t).ended ≡ (st.threads t).ended
    pub dying : ((state_after i st e).threads t).dying ≡ (st.threads t).dying
    pub pending : ((state_after i st e).threads t).pending ≡ (st.threads t).pending
    pub unfaulted : IsAwaiting st t → ((state_after i st e).messages ((state_after i st e).threads t).number).fault ≡ None
    pub unanswered : IsAwaiting st t → ((state_after i st e).messages ((state_after i st e).threads t).number).answered ≡ false
    pub renewed : (((state_after i st e).threads t).number ≡ number) ⊎ IsUnmetIn (state_after i st e) ((state_after i st e).threads t).number
    pub question : (s : Snapshot) → snapshot_in st number ≡ Some s → WaitsForOperator i st t → ((state_after i st e).threads t).number ≡ number → is_open_question i (state_after i st e) (Some s) ≡ is_open_question i st (Some s)

  -- a question stays one if its number is the same, and the operator still has to answer for its copies
  asks_on : (e : Entry) → IsLawful i st e → (leaves : Leaves e) → WaitsForOperator i st t → ((state_after i st e).threads t).number ≡ number → WaitsForOperator i (state_after i st e) t
  asks_on e lawful leaves x same =
      let new : State = state_after i st e in
      let pending : (new.threads t).pending ≡ Some x.entered = leaves.pending ∙ x.pending in
      let undying : (new.threads t).dying ≡ false = leaves.dying ∙ x.undying in
      let then : Reached i new = reached_after i st reached e lawful in
      let was : (st.messages number).answered ≡ true = question_answered i st number x.question in
      let answered : (new.messages (new.threads t).number).answered ≡ true = subst (λ q. (new.messages q).answered ≡ true) (sym same) (answered_after_entry i st reached.whole number was e) in
      let copies : snapshot_in new (new.threads t).number ≡ snapshot_in st number = ap (snapshot_in new) same ∙ copies_after i st reached.whole number was e lawful in
      let there : (s : Snapshot) × (snapshot_in st number ≡ Some s) = reached.whole.turns.ready number was in
      let is_open : is_open_question i new (snapshot_in new (new.threads t).number) ≡ true =
      ap (is_open_question i new) (copies ∙ there.1) ∙ leaves.question there.0 there.1 x same ∙ sym (ap (is_open_question i st) there.1)
      ∙ (and_parts (is_live st number && (st.messages number).answered) (is_open_question i st (snapshot_in st number)) x.question).1 in
      let live : is_live new (new.threads t).number ≡ true = ((held_live i new then).held t x.entered x.first pending x.way undying).live in record {
        undying = undying;
        entered = x.entered;
        pending = pending;
        first = x.first;
        way = x.way;
        unfaulted = then.whole.turns.sound (new.threads t).number answered;
        question = and_from (is_live new (new.threads t).number && (new.messages (new.threads t).number).answered) (is_open_question i new (snapshot_in new (new.threads t).number))
            (and_from (is_live new (new.threads t).number) (new.messages (new.threads t).number).answered live answered) is_open;
      }

  -- a question that is renewed waits for its answer again
  asks_then : (e : Entry) → IsLawful i st e → (leaves : Leaves e) → WaitsForOperator i st t → (((state_after i st e).threads t).number ≡ number) ⊎ IsUnmetIn (state_after i st e) ((state_after i st e).threads t).number → IsStill i (state_after i st e) t
  asks_then e lawful leaves x (inl same) = asking (asks_on e lawful leaves x same)
  asks_then e lawful leaves x (inr unmet) = awaiting (record {
    undying = leaves.dying ∙ x.undying;
    entered = x.entered;
    pending = leaves.pending ∙ x.pending;
    first = x.first;
    way = x.way;
    unfaulted = unmet.0;
    unanswered = unmet.1;
  })

  stays : (e : Entry) → IsLawful i st e → Leaves e → IsStill i st t → IsStill i (state_after i st e) t
  stays e lawful leaves (unstarted is) = unstarted (leaves.owner ∙ is)
  stays e lawful leaves (ended is) = ended (leaves.over ∙ is)
  stays e lawful leaves (awaiting x) = awaiting (record {
    undying = leaves.dying ∙ x.undying;
    entered = x.entered;
    pending = leaves.pending ∙ x.pending;
    first = x.first;
    way = x.way;
    unfaulted = leaves.unfaulted x;
    unanswered = leaves.unanswered x;
  })
  stays e lawful leaves (asking x) = asks_then e lawful leaves x leaves.renewed

  -- ---- another thread enters a call

  entered_leaves : (u : ℕ) (call : SysCall) (regs : List ℕ) (way : Way) → (u == t) ≡ false → Leaves (Entered u call regs way)
  entered_leaves u call regs way other = record {
    owner = refl;
    over = refl;
    dying = refl;
    pending = ap (λ b. cond b (Some (record { call = call; regs = regs; way = way; child = child_of_next (st.threads t).left })) (st.threads t).pending) other;
    unfaulted = λ x. ap (λ q. (st.messages q).fault) (number_same way) ∙ x.unfaulted;
    unanswered = λ x. ap (λ q. (st.messages q).answered) (number_same way) ∙ x.unanswered;
    renewed = inl (number_same way);
    question = λ s there x same. open_by i st (state_after i st (Entered u call regs way)) refl refl s refl;
  } where
    number_same : (each : Way) → ((state_after i st (Entered u call regs each)).threads t).number ≡ number
    number_same Fast = refl
    number_same (Barred n) = refl
    number_same (Held q) = ap (λ b. cond b q number) other
    number_same Untraced = refl

  -- ---- a message of another thread is faulted or answered

  -- the message of a thread's number is the thread's
  own_message : IsAwaiting st t → is_message_by st t number ≡ true
  own_message x =
      let holder : IsHolder st t = record { entered = x.entered; pending = x.pending; first = x.first; way = x.way; undying = x.undying } in
      let is_open : IsOpen st t x.entered.call x.entered.regs = open_of i st reached.whole.calls t holder in
      ap (is_head_by t) is_open.posted ∙ eq-eqb is_open.head.tid t is_open.own.tid_is

  other_number : IsAwaiting st t → (q : ℕ) → is_message_by st t q ≡ false → (q == number) ≡ false
  other_number x q other = ne_eqb q number (λ same. true≢false (sym (own_message x) ∙ sym (ap (is_message_by st t) same) ∙ other))

  unanswered_by : IsAwaiting st t → (q : ℕ) (applied : Bool) → (applied && is_message_by st t q) ≡ false → ((q == number && applied) || (st.messages number).answered) ≡ false
  unanswered_by x q true other = (λ k. (other_number x q other k && true) || (st.messages number).answered) ∙ x.unanswered
  unanswered_by x q false other = ap (λ b. b || (st.messages number).answered) (none (q == number)) ∙ x.unanswered where
    none : (b : Bool) → (b && false) ≡ false
    none true = refl
    none false = refl

  -- ---- another thread makes a call

  module _ (u : ℕ) (seq : Option ℕ) (call : SysCall) (regs : List ℕ) (args : List ArgText) (ids : Ids) (result : CallResult) (changes : List Change) where
    number_by : Shape (system_of i st) (request_of i st u regs args ids) call changes → Each IsCalm changes → SameOrNew number (suc st.posted) changes
    number_by (quiet x) calm = inl (seq_mute number changes (mute_of_quiet changes x))
    number_by (forked is e) calm = absurd (true≢false (subst (Each IsCalm) e calm).0)
    number_by (execed binary e) calm = absurd (true≢false (subst (Each IsCalm) e calm).0)
    number_by (renewed set sets e) calm = subst (SameOrNew number (suc st.posted)) (sym e) (renewals_new (is_other_of (st.threads u).owner u) number (suc st.posted) (held_from st 1 (thread_count i)))

    unmet_then : IsAwaiting st t → SameOrNew number (suc st.posted) changes → IsUnmet (seq_after number changes)
    unmet_then x (inl same) = subst IsUnmet (sym same) (x.unfaulted, x.unanswered)
    unmet_then x (inr high) = unmet_above (seq_after number changes) (omega (arith, high))

    same_or_unmet : SameOrNew number (suc st.posted) changes → (seq_after number changes ≡ number) ⊎ IsUnmet (seq_after number changes)
    same_or_unmet (inl same) = inl same
    same_or_unmet (inr high) = inr (unmet_above (seq_after number changes) (omega (arith, high)))

    used_leaves : (u == t) ≡ false → Each IsCalm changes → IsUsed i st u seq call regs args ids result changes → Leaves (Used u seq call regs args ids result changes)
    used_leaves other calm y =
        let drawn : SameOrNew number (suc st.posted) changes = number_by (used_shape i st u call regs args ids result changes seq y) calm in record {
          owner = fold_same (owner_after_change t) IsCalm (λ o c x. owner_calm t o c x) (st.threads t).owner changes calm;
          over = refl;
          dying = fold_same (dying_after_change t (st.threads t).owner u (st.threads u).owner) IsCalm (λ b c x. dying_calm t (st.threads t).owner u (st.threads u).owner b c x) (st.threads t).dying changes calm;
          pending = ap (λ b. cond b None (st.threads t).pending) other;
          unfaulted = λ x. (unmet_then x drawn).0;
          unanswered = λ x. (unmet_then x drawn).1;
          renewed = same_or_unmet drawn;
          question = λ s there x same. open_by i st (state_after i st (Used u seq call regs args ids result changes)) refl refl s refl;
        }

  -- a thread that waits for the operator holds its call
  holder : WaitsForOperator i st t → IsHolder st t
  holder x = record { entered = x.entered; pending = x.pending; first = x.first; way = x.way; undying = x.undying }

  -- ---- another thread reloads a policy

  module _ (u n : ℕ) where
    abbrev is : HeldCall → Bool
    is = is_held_under i st n

    abbrev done : State
    done = state_after i st (Reloaded u n true (reload_changes i st n true))

    done_drawn : SameOrNew number (suc st.posted) (reload_changes i st n true)
    done_drawn = renewals_new is number (suc st.posted) (held_from st 1 (thread_count i))

    done_unmet : IsAwaiting st t → SameOrNew number (suc st.posted) (reload_changes i st n true) → IsUnmet (seq_after number (reload_changes i st n true))
    done_unmet x (inl same) = subst IsUnmet (sym same) (x.unfaulted, x.unanswered)
    done_unmet x (inr high) = unmet_above (seq_after number (reload_changes i st n true)) (omega (arith, high))

    done_or_unmet : SameOrNew number (suc st.posted) (reload_changes i st n true) → (seq_after number (reload_changes i st n true) ≡ number) ⊎ IsUnmet (seq_after number (reload_changes i st n true))
    done_or_unmet (inl same) = inl same
    done_or_unmet (inr high) = inr (unmet_above (seq_after number (reload_changes i st n true)) (omega (arith, high)))

    -- a question whose number is the same is under another policy: those under this one are renewed
    question_by : (x : WaitsForOperator i st t) (s : Snapshot) → snapshot_in st number ≡ Some s → (done.threads t).number ≡ number → (b : Bool) → is (held_of st t) ≡ b → done.versions s.policy ≡ st.versions s.policy
    unfolding holder
    question_by x s there same true is_so =
        let is_open : IsOpen st t x.entered.call x.entered.regs = open_of i st reached.whole.calls t (holder x) in
        let fine : Fine st t x.entered = subst (IfPending (Fine st t)) x.pending (reached.whole.calls.fine t) in
        let drawn = renewal i st reached.whole.calls is (λ q. (st.messages q).head) (λ head. head) t fine.started (holder x) is_so x.entered.call x.entered.regs is_open in
        let new = drawn.drawn in
        let high = drawn.low in
        let low = is_open.low in
        absurd (omega (arith, same, new, high, low))
    question_by x s there same false not_so =
        let is_open : IsOpen st t x.entered.call x.entered.regs = open_of i st reached.whole.calls t (holder x) in
        let copy : IsCopyOf is_open.head s = copies_of st number is_open.head is_open.posted s there in
        ap (λ b. cond b n (st.versions s.policy)) (ap (is_block_of i.policies n) copy.policy ∙ sym (ap (is_head_under i n) is_open.posted) ∙ not_so)

    done_leaves : Leaves (Reloaded u n true (reload_changes i st n true))
    done_leaves = record {
      owner = same_owner i st reached.whole.calls u n t;
      over = refl;
      dying = same_dying i st reached.whole.calls u n t;
      pending = refl;
      unfaulted = λ x. (done_unmet x done_drawn).0;
      unanswered = λ x. (done_unmet x done_drawn).1;
      renewed = done_or_unmet done_drawn;
      question = λ s there x same. open_by i st done refl refl s (question_by x s there same (is (held_of st t)) refl);
    }

    reloaded_leaves : (b : Bool) → Leaves (Reloaded u n b (reload_changes i st n b))
    reloaded_leaves true = done_leaves
    reloaded_leaves false = record {
      owner = refl;
      over = refl;
      dying = refl;
      pending = refl;
      unfaulted = λ x. x.unfaulted;
      unanswered = λ x. x.unanswered;
      renewed = inl refl;
      question = λ s there x same. open_by i st (state_after i st (Reloaded u n false [])) refl refl s refl;
    }

  -- ---- the operator answers a question of another policy or rule

  apart : (q : ℕ) → holds_alike st q t ≡ false → WaitsForOperator i st t → (copies s : Snapshot) → snapshot_in st q ≡ Some copies → snapshot_in st number ≡ Some s → are_of_one copies s ≡ false
  apart q calm x copies s posted there =
      let alike : ℕ → Bool = λ p. are_alike (st.messages q).head (st.messages p).head in
      sym (copies_alike st q number copies s posted there)
      ∙ (or_parts (alike number) false (sym (ap (list_any (λ (held : HeldCall). alike held.number)) (own_of st t (holder x))) ∙ calm)).0

  learned_leaves : (q n : ℕ) → IsLearned i st q n → holds_alike st q t ≡ false → WaitsForOperator i st t → (s : Snapshot) → snapshot_in st number ≡ Some s → is_open_question i (state_after i st (Learned q n)) (Some s) ≡ is_open_question i st (Some s)
  learned_leaves q n y calm x s there =
      let new : State = state_after i st (Learned q n) in
      open_on i st y.copies s (apart q calm x y.copies s y.asked.copies there) new (learnt_filter y.copies)
      (ap (λ o. st.session ++ learnt_by o) y.asked.copies) refl (asked_by i st new refl s i.options.mode)

  replied_leaves : (q reply n : ℕ) → IsReplied i st q reply n → holds_alike st q t ≡ false → WaitsForOperator i st t → (s : Snapshot) → snapshot_in st number ≡ Some s → is_open_question i (state_after i st (Replied q reply n)) (Some s) ≡ is_open_question i st (Some s)
  replied_leaves q reply n y calm x s there =
      let new : State = state_after i st (Replied q reply n) in
      let differs : are_of_one y.copies s ≡ false = apart q calm x y.copies s y.asked.copies there in
      let is_for : is_reply_for y.copies.policy y.copies.rule (item_at_number i.replies reply) ≡ true = (and_parts (is_reply_for y.copies.policy y.copies.rule (item_at_number i.replies reply)) (not (st.replied reply)) y.there).0 in
      let given : (r : Reply) × (item_at_number i.replies reply ≡ Some r) = reply_there y.copies.policy y.copies.rule (item_at_number i.replies reply) is_for in
      open_on i st y.copies s differs new given.0.filter
      (λ k. st.session ++ replied_by (given.1 k) (y.asked.copies k)) refl (asked_on i st y.copies s differs new reply refl is_for i.options.mode)

  -- ---- every entry

  leaves : (e : Entry) → IsLawful i st e → thread_of e ≢ t → wakes st e t ≡ false → Leaves e
  leaves (Entered u call regs way) y other calm = entered_leaves u call regs way (ne_eqb u t other)
  leaves (Used u seq call regs args ids result changes) y other calm = used_leaves u seq call regs args ids result changes (ne_eqb u t other) (calm_each changes calm) y
  leaves (Reloaded u n done changes) y other calm = subst (λ cs. Leaves (Reloaded u n done cs)) (sym y.changes_are) (reloaded_leaves u n done)
  leaves (Denied u seq errno cause) y other calm = record {
    owner = refl;
    over = refl;
    dying = refl;
    pending = ap (λ b. cond b None (st.threads t).pending) (ne_eqb u t other);
    unfaulted = λ x. x.unfaulted;
    unanswered = λ x. x.unanswered;
    renewed = inl refl;
    question = λ s there x same. open_by i st (state_after i st (Denied u seq errno cause)) refl refl s refl;
  }
  leaves (Ended u) y other calm = record {
    owner = refl;
    over = ap (λ b. b || (st.threads t).ended) (ne_eqb u t other);
    dying = refl;
    pending = refl;
    unfaulted = λ x. x.unfaulted;
    unanswered = λ x. x.unanswered;
    renewed = inl refl;
    question = λ s there x same. open_by i st (state_after i st (Ended u)) refl refl s refl;
  }
  leaves (Faulted q errno) y other calm = record {
    owner = refl;
    over = refl;
    dying = refl;
    pending = refl;
    unfaulted = λ x. ap (λ b. cond b (Some errno) (st.messages number).fault) (other_number x q calm) ∙ x.unfaulted;
    unanswered = λ x. x.unanswered;
    renewed = inl refl;
    question = λ s there x same. open_by i st (state_after i st (Faulted q errno)) refl refl s refl;
  }
  leaves (Answered w s v applied) y other calm = record {
    owner = refl;
    over = refl;
    dying = refl;
    pending = refl;
    unfaulted = λ x. x.unfaulted;
    unanswered = λ x. unanswered_by x s.seq applied calm;
    renewed = inl refl;
    question = λ s there x same. open_by i st (state_after i st (Answered w s v applied)) refl refl s refl;
  }
  leaves (Learned q n) y other calm = record {
    owner = refl;
    over = refl;
    dying = refl;
    pending = refl;
    unfaulted = λ x. x.unfaulted;
    unanswered = λ x. x.unanswered;
    renewed = inl refl;
    question = λ s there x same. learned_leaves q n y calm x s there;
  }
  leaves (Replied q reply n) y other calm = record {
    owner = refl;
    over = refl;
    dying = refl;
    pending = refl;
    unfaulted = λ x. x.unfaulted;
    unanswered = λ x. x.unanswered;
    renewed = inl refl;
    question = λ s there x same. replied_leaves q reply n y calm x s there;
  }
  leaves (Stored u place word) y other calm = record {
    owner = refl;
    over = refl;
    dying = refl;
    pending = refl;
    unfaulted = λ x. x.unfaulted;
    unanswered = λ x. x.unanswered;
    renewed = inl refl;
    question = λ s there x same. open_by i st (state_after i st (Stored u place word)) refl refl s refl;
  }
  leaves (Claimed w q) y other calm = record {
    owner = refl;
    over = refl;
    dying = refl;
    pending = refl;
    unfaulted = λ x. x.unfaulted;
    unanswered = λ x. x.unanswered;
    renewed = inl refl;
    question = λ s there x same. open_by i st (state_after i st (Claimed w q)) refl refl s refl;
  }
  leaves (Copied q part place word) y other calm = record {
    owner = refl;
    over = refl;
    dying = refl;
    pending = refl;
    unfaulted = λ x. x.unfaulted;
    unanswered = λ x. x.unanswered;
    renewed = inl refl;
    question = λ s there x same. open_by i st (state_after i st (Copied q part place word)) refl refl s refl;
  }
  leaves (Looked q part name seen) y other calm = record {
    owner = refl;
    over = refl;
    dying = refl;
    pending = refl;
    unfaulted = λ x. x.unfaulted;
    unanswered = λ x. x.unanswered;
    renewed = inl refl;
    question = λ s there x same. open_by i st (state_after i st (Looked q part name seen)) refl refl s refl;
  }

  -- a still thread stays still after a lawful entry
  pub still_after : IsStill i st t → (e : Entry) → IsLawful i st e → thread_of e ≢ t → wakes st e t ≡ false → IsStill i (state_after i st e) t
  still_after still e lawful other calm = stays e lawful (leaves e lawful other calm) still

  -- a still thread stays still after the entry that a choice adds
  pub still_more : IsStill i st t → (c : Choice) (e : Entry) → entry_of i st c ≡ Some e → thread_of e ≢ t → wakes st e t ≡ false → IsStill i (state_after i st e) t
  still_more still c e is other calm = still_after still e (lawful_entry i st reached c e is) other calm

  -- a thread that adds no entry adds none after the entry either, unless the entry wakes it
  pub none_more : 1 ≤ t → thread_entry i st t ≡ None → (c : Choice) (e : Entry) → entry_of i st c ≡ Some e → wakes st e t ≡ false → thread_entry i (state_after i st e) t ≡ None
  none_more some none c e is calm = still_none i (state_after i st e) t (still_more (none_still i st reached.whole t none) c e is (others_add i st c e is t some none) calm)
