-- Which messages a reload renews: exactly the live ones under the policy of its binary, each once and in the order of the threads.
use native.Mathlib.Omega.{arith}
use Rattle.std.proofs.Common.{◌≡◌, ◌<◌, ℕ, zero, suc, ◌+◌, Bool, true, cond, List, [], ◌∷◌, ◌++◌, Some, sym, ap, subst, ◌∙◌}
use Rattle.std.proofs.lemmas.Option.{none-some, same_Some}
use Rattle.std.specs.Prelude.{slice_get}
use Rattle.st_filter.specs.Policies.{binary_of_block, is_block_of}
use Rattle.st_effects.specs.Processes.{renewals_by}
use Rattle.st_effects.specs.System.{HeldCall}
use Rattle.st_trace.specs.declared.entry.Change.{Change}
use Rattle.st_trace.specs.declared.entry.Change.TheVariants.{Renewed}
use Rattle.st_trace.specs.declared.entry.Choice.{Choice}
use Rattle.st_trace.specs.declared.entry.Entry.TheVariants.{Reloaded}
use Rattle.st_law.specs.declared.input.Input.{Input}
use Rattle.st_law.specs.History.{looking_back}
use Rattle.st_law.specs.Inputs.{IsStartable, IsThread}
use Rattle.st_law.specs.Lawful.{IsLawfulBack}
use Rattle.st_law.specs.Machine.{state_of_run}
use Rattle.st_law.specs.Messages.{Head, head_at, posted_at}
use Rattle.st_law.specs.State.{State, held_from, is_head_under, is_held_under, is_live, thread_count}
use Rattle.st_law.specs.Threads.{History}
use Rattle.st_law.proofs.HeldCalls.{IsAmong, IsHolder, IsItem, among, held_of, items}
use Rattle.st_law.proofs.HeldRenewals.{open_of}
use Rattle.st_law.proofs.Invariant.{IsOpen}
use Rattle.st_law.proofs.Reloads.{block_named}
use Rattle.st_law.proofs.Renewals.{EachHeld, one_more}
use Rattle.st_reached.specs.Reached.{IsHolding}
use Rattle.st_reached.specs.Reloading.{AreRenewedUnder, IsLiveUnder}
use Rattle.st_reached.proofs.Drawn.{IsAfter, Rising, each_both, rising}
use Rattle.st_reached.proofs.Owning.{held_lives, holder_of, own_process, own_version}
use Rattle.st_reached.proofs.Reached.{Reached, reached_back, reached_run}

-- ---- renewals of held calls of some kind

module _ (is : HeldCall → Bool) where
  -- a change renews a held call of the kind that has this property, as this number
  pub record IsRenewalOf (P : HeldCall → Type 0) (number : ℕ) (change : Change) : Type 0 where
    pub held : HeldCall
    pub has : P held
    pub renewed : is held ≡ true
    pub change_is : change ≡ Renewed held.number number

  numbered_on : (P : HeldCall → Type 0) (next k : ℕ) (change : Change) → IsRenewalOf P (next + 1 + k) change → IsRenewalOf P (next + suc k) change
  numbered_on P next k change x = subst (λ n. IsRenewalOf P n change) (let same : next + 1 + k ≡ next + suc k = omega arith in same) x

  -- each of the renewals is of a held call, and they have consecutive numbers
  each_renewal : (P : HeldCall → Type 0) (next : ℕ) (helds : List HeldCall) → EachHeld P helds → (k : ℕ) (change : Change) → slice_get (renewals_by is next helds) k ≡ Some change → IsRenewalOf P (next + k) change
  each_renewal P next [] each = λ k change e. absurd (none-some change e)
  each_renewal P next (held ∷ more) each = one_more is (λ cs. (k : ℕ) (change : Change) → slice_get cs k ≡ Some change → IsRenewalOf P (next + k) change) next held more
      (λ is_so. by is_so (each_renewal P (next + 1) more each.1)) (λ not_so. each_renewal P next more each.1) where
        by : is held ≡ true → ((k : ℕ) (change : Change) → slice_get (renewals_by is (next + 1) more) k ≡ Some change → IsRenewalOf P (next + 1 + k) change)
            → (k : ℕ) (change : Change) → slice_get (Renewed held.number next ∷ renewals_by is (next + 1) more) k ≡ Some change → IsRenewalOf P (next + k) change
        by is_so later zero change e = record {
          held = held;
          has = each.0;
          renewed = is_so;
          change_is = sym (same_Some (Renewed held.number next) change e) ∙ ap (Renewed held.number) (let same : next ≡ next + 0 = omega arith in same);
        }
        by is_so later (suc k) change e = numbered_on P next k change (later k change e)

  -- a held call of the kind is renewed
  some_renewal : (next : ℕ) (front : List HeldCall) (held : HeldCall) (more : List HeldCall) → is held ≡ true → (k : ℕ) × (slice_get (renewals_by is next (front ++ held ∷ more)) k ≡ Some (Renewed held.number (next + k)))
  some_renewal next [] held more is_so = one_more is (λ cs. (k : ℕ) × (slice_get cs k ≡ Some (Renewed held.number (next + k)))) next held more
      (λ y. (0, ap (λ n. Some (Renewed held.number n)) (let same : next ≡ next + 0 = omega arith in same))) (λ not_so. cc)
  some_renewal next (first ∷ front) held more is_so = one_more is (λ cs. (k : ℕ) × (slice_get cs k ≡ Some (Renewed held.number (next + k)))) next first (front ++ held ∷ more)
      (λ y. let later = some_renewal (next + 1) front held more is_so in
      (suc later.0, later.1 ∙ ap (λ n. Some (Renewed held.number n)) (let same : next + 1 + later.0 ≡ next + suc later.0 = omega arith in same)))
      (λ not_so. some_renewal next front held more is_so)

  -- two renewals, one after the other, of held calls in the order of their threads
  pub record AreInOrder (P : HeldCall → Type 0) (first second : Change) : Type 0 where
    pub held : HeldCall
    pub other : HeldCall
    pub has : P held
    pub other_has : P other
    pub rises : held.tid < other.tid
    pub first_number : ℕ
    pub second_number : ℕ
    pub first_is : first ≡ Renewed held.number first_number
    pub second_is : second ≡ Renewed other.number second_number

  in_order : (P : HeldCall → Type 0) (next : ℕ) (helds : List HeldCall) → EachHeld P helds → Rising helds → (k : ℕ) (first second : Change) → slice_get (renewals_by is next helds) k ≡ Some first → slice_get (renewals_by is next helds) (suc k) ≡ Some second → AreInOrder P first second
  in_order P next [] each up = λ k first second e f. absurd (none-some first e)
  in_order P next (held ∷ more) each up = one_more is (λ cs. (k : ℕ) (first second : Change) → slice_get cs k ≡ Some first → slice_get cs (suc k) ≡ Some second → AreInOrder P first second) next held more
      (λ is_so. by (in_order P (next + 1) more each.1 up.1)) (λ not_so. in_order P next more each.1 up.1) where
        by : ((k : ℕ) (first second : Change) → slice_get (renewals_by is (next + 1) more) k ≡ Some first → slice_get (renewals_by is (next + 1) more) (suc k) ≡ Some second → AreInOrder P first second)
            → (k : ℕ) (first second : Change) → slice_get (Renewed held.number next ∷ renewals_by is (next + 1) more) k ≡ Some first → slice_get (Renewed held.number next ∷ renewals_by is (next + 1) more) (suc k) ≡ Some second → AreInOrder P first second
        by later zero first second e f =
            let x = each_renewal (λ each_held. P each_held × IsAfter (suc held.tid) each_held) (next + 1) more (each_both P (IsAfter (suc held.tid)) more each.1 up.0) 0 second f in record {
              held = held;
              other = x.held;
              has = each.0;
              other_has = x.has.0;
              rises = let low = x.has.1 in omega (arith, low);
              first_number = next;
              second_number = next + 1 + 0;
              first_is = sym (same_Some (Renewed held.number next) first e);
              second_is = x.change_is;
            }
        by later (suc k) first second e f = later k first second e f

-- ---- a reload

abbrev old_of : Change → ℕ
old_of (Renewed old new) = old
old_of _ = 0

module _ (i : Input) (startable : IsStartable i) (h : History) (t n : ℕ) (changes : List Change) (binary : List ℕ) (lawful : IsLawfulBack i (Reloaded t n true changes ∷ h)) (named : binary_of_block i.policies n ≡ Some binary) where
  abbrev st : State
  st = looking_back i h

  reached : Reached i st
  reached = reached_back i startable h lawful.1

  abbrev is : HeldCall → Bool
  is = is_held_under i st n

  abbrev helds : List HeldCall
  helds = held_from st 1 (thread_count i)

  -- the message of a held call of a thread
  live_item : (held : HeldCall) → IsItem st held → is held ≡ true → (head : Head) × IsLiveUnder i h binary held.number head
  live_item held x is_so =
      let is_open : IsOpen st held.tid x.holder.entered.call x.holder.entered.regs = open_of i st reached.whole.calls held.tid x.holder in
      let number : held.number ≡ (st.threads held.tid).number = ap (λ (each : HeldCall). each.number) x.is in
      let posted : head_at i h held.number ≡ Some is_open.head = ap (head_at i h) number ∙ is_open.posted in
      let under : is_block_of i.policies n is_open.head.policy ≡ true = sym (ap (is_head_under i n) posted) ∙ is_so in (
        is_open.head,
        record {
          live = subst (λ q. is_live st q ≡ true) (sym number) (held_lives i st reached.whole.calls held.tid x.holder);
          posted = posted;
          policy_is = same_Some is_open.head.policy binary (sym ((block_named i.policies n is_open.head.policy).0 under) ∙ named);
        },
      )

  sound_by : (k : ℕ) (change : Change) → IsRenewalOf is (IsItem st) (suc (posted_at h) + k) change → (old : ℕ) × (head : Head) × IsLiveUnder i h binary old head × (change ≡ Renewed old (suc (posted_at h + k)))
  sound_by k change x =
      let y = live_item x.held x.has x.renewed in
      (x.held.number, y.0, y.1, x.change_is ∙ ap (Renewed x.held.number) (let same : suc (posted_at h) + k ≡ suc (posted_at h + k) = omega arith in same))

  complete_by : (old : ℕ) (head : Head) → IsLiveUnder i h binary old head → (k : ℕ) × (slice_get (renewals_by is (suc st.posted) helds) k ≡ Some (Renewed old (suc (posted_at h + k))))
  complete_by old head x =
      let holding : IsHolding st head.tid old = reached.owned.own old head x.live x.posted in
      let holder : IsHolder st head.tid = holder_of st reached.owned old head x.live x.posted in
      let thread : IsThread i head.tid = reached.whole.calls.started head.tid holding.started in
      let y : IsAmong st head.tid helds = among st head.tid 1 (thread_count i) holder thread.0 (let high = thread.1 in omega (arith, high)) in
      let is_so : is (held_of st head.tid) ≡ true =
      ap (λ q. is_head_under i n (head_at i h q)) holding.number ∙ ap (is_head_under i n) x.posted ∙ (block_named i.policies n head.policy).1 (named ∙ ap Some (sym x.policy_is)) in
      let z = some_renewal is (suc st.posted) y.front (held_of st head.tid) y.more is_so in
      let new : suc (posted_at h) + z.0 ≡ suc (posted_at h + z.0) = omega arith in
      let named_old : Some (Renewed (st.threads head.tid).number (suc (posted_at h) + z.0)) ≡ Some (Renewed old (suc (posted_at h + z.0))) = λ k. Some (Renewed (holding.number k) (new k)) in
      (z.0, ap (λ each. slice_get (renewals_by is (suc st.posted) each) z.0) y.is ∙ z.1 ∙ named_old)

  -- the head at the number of a held call of a thread is the thread's
  tid_at : (held : HeldCall) → IsItem st held → (old : ℕ) (head : Head) → old ≡ held.number → head_at i h old ≡ Some head → head.tid ≡ held.tid
  tid_at held x old head same posted =
      let is_open : IsOpen st held.tid x.holder.entered.call x.holder.entered.regs = open_of i st reached.whole.calls held.tid x.holder in
      ap (λ (each : Head). each.tid) (same_Some head is_open.head (sym posted ∙ ap (head_at i h) (same ∙ ap (λ (each : HeldCall). each.number) x.is) ∙ is_open.posted)) ∙ is_open.own.tid_is

  order_by : (k old other p q : ℕ) (head next : Head) → slice_get (renewals_by is (suc st.posted) helds) k ≡ Some (Renewed old p) → slice_get (renewals_by is (suc st.posted) helds) (suc k) ≡ Some (Renewed other q)
      → head_at i h old ≡ Some head → head_at i h other ≡ Some next → head.tid < next.tid
  order_by k old other p q head next e f posted then =
      let x = in_order is (IsItem st) (suc st.posted) helds (items st 1 (thread_count i)) (rising st 1 (thread_count i)) k (Renewed old p) (Renewed other q) e f in
      let first = tid_at x.held x.has old head (ap old_of x.first_is) posted in
      let second = tid_at x.other x.other_has other next (ap old_of x.second_is) then in
      let up = x.rises in
      omega (arith, first, second, up)

  pub renewed_under : AreRenewedUnder i h binary changes
  renewed_under = subst (AreRenewedUnder i h binary) (sym lawful.0.changes_are) (record {
    sound = λ k change e. sound_by k change (each_renewal is (IsItem st) (suc st.posted) helds (items st 1 (thread_count i)) k change e);
    complete = complete_by;
    in_order = order_by;
  })

  pub renewed_version : (q : ℕ) (head : Head) → IsLiveUnder i (Reloaded t n true changes ∷ h) binary q head → head.version ≡ n
  renewed_version q head x =
      let then : Reached i (looking_back i (Reloaded t n true changes ∷ h)) = reached_back i startable (Reloaded t n true changes ∷ h) lawful in
      own_version (looking_back i (Reloaded t n true changes ∷ h)) then.owned i then.whole.calls q head x.live x.posted
      ∙ ap (λ b. cond b n (st.versions head.policy)) ((block_named i.policies n head.policy).1 (named ∙ ap Some (sym x.policy_is)))

-- ---- the message of a live number

pub live_process : (i : Input) → IsStartable i → (choices : List Choice) (q : ℕ) (head : Head) → is_live (state_of_run i choices) q ≡ true → ((state_of_run i choices).messages q).head ≡ Some head → head.pid ≡ ((state_of_run i choices).threads head.tid).owner
live_process i startable choices q head live posted = let x = reached_run i startable choices in own_process (state_of_run i choices) x.owned i x.whole.calls q head live posted

pub live_version : (i : Input) → IsStartable i → (choices : List Choice) (q : ℕ) (head : Head) → is_live (state_of_run i choices) q ≡ true → ((state_of_run i choices).messages q).head ≡ Some head → head.version ≡ (state_of_run i choices).versions head.policy
live_version i startable choices q head live posted = let x = reached_run i startable choices in own_version (state_of_run i choices) x.owned i x.whole.calls q head live posted
