-- The invariant of the state of a lawful run is kept by a reload.
use native.Mathlib.Omega.{arith}
use Rattle.std.proofs.Common.{◌≡◌, ◌≢◌, ◌≤◌, ℕ, Bool, true, false, cond, List, [], Option, Some, refl, sym, ap, ◌∙◌, option_map}
use Rattle.std.specs.List.{All}
use Rattle.st_calls.specs.declared.call.SysCall.{SysCall}
use Rattle.st_filter.specs.Policies.{is_block_of}
use Rattle.st_effects.specs.Changes.{owner_after_change, dying_after_change, next_process_after_change, process_after_change, process_after}
use Rattle.st_effects.specs.Processes.{renewals_by}
use Rattle.st_effects.specs.System.{HeldCall}
use Rattle.st_trace.specs.declared.entry.Change.{Change}
use Rattle.st_trace.specs.declared.entry.Entry.{Entry}
use Rattle.st_trace.specs.declared.entry.Entry.TheVariants.{Reloaded}
use Rattle.st_law.specs.declared.input.Input.{Input}
use Rattle.st_law.specs.Inputs.{IsInstruction}
use Rattle.st_law.specs.Machine.{state_after}
use Rattle.st_law.specs.Messages.{Head, renewed_head}
use Rattle.st_law.specs.State.{State, process_in, is_head_under, is_held_under}
use Rattle.st_law.specs.Threads.{PendingCall}
use Rattle.st_law.proofs.Carried.{open_kept, fine_by, if_pending}
use Rattle.st_law.proofs.HeldCalls.{IsHolder, held_of}
use Rattle.st_law.proofs.HeldRenewals.{helds, next, fresh_other, kept_other, renewal}
use Rattle.st_law.proofs.Invariant.{IsOpen, Fine, Invariant}
use Rattle.st_law.proofs.Renewals.{EachHeld, IsOther, renewals_same, seq_other, renewed_other, posted_low, head_below, head_above, IsRenewal}

module _ (i : Input) (st : State) (inv : Invariant i st) (u n : ℕ) where
  abbrev is : HeldCall → Bool
  is = is_held_under i st n

  abbrev some : List HeldCall
  some = helds i st inv is

  abbrev fresh : ℕ
  fresh = next i st inv is

  abbrev changes : List Change
  changes = renewals_by is fresh some

  abbrev entry : Entry
  entry = Reloaded u n true changes

  abbrev after : State
  after = state_after i st entry

  abbrev heads : ℕ → Option Head
  heads q = (st.messages q).head

  abbrev m : ℕ
  m = (st.threads u).owner

  abbrev renewed : Head → Head
  renewed = renewed_head (λ p. process_after st.processes m p changes) after.versions

  -- ---- threads and processes

  pub same_owner : (t : ℕ) → (after.threads t).owner ≡ (st.threads t).owner
  same_owner t = renewals_same is (owner_after_change t) (λ o old new. refl) (st.threads t).owner fresh some

  pub same_dying : (t : ℕ) → (after.threads t).dying ≡ (st.threads t).dying
  same_dying t = renewals_same is (dying_after_change t (st.threads t).owner u m) (λ b old new. refl) (st.threads t).dying fresh some

  same_next : after.next_process ≡ st.next_process
  same_next = renewals_same is next_process_after_change (λ p old new. refl) st.next_process fresh some

  same_process : (p : ℕ) → after.processes p ≡ st.processes p
  same_process p = renewals_same is (process_after_change st.processes m p) (λ before old new. refl) (st.processes p) fresh some

  same_row : (t : ℕ) → process_in after t ≡ process_in st t
  same_row t = ap after.processes (same_owner t) ∙ same_process (st.threads t).owner

  more_posted : st.posted ≤ after.posted
  more_posted = posted_low is st.posted fresh some

  pub done_unclosed : (q : ℕ) → fresh ≤ q → (after.messages q).closed ≡ false
  done_unclosed q high = renewed_other is q (st.messages q).closed fresh some (fresh_other i st inv is q high) ∙ inv.closed q (omega (arith, high))

  -- ---- held calls

  -- whether a held call is renewed, by the head of its message
  by_head : (t : ℕ) (head : Head) → heads (st.threads t).number ≡ Some head → is (held_of st t) ≡ is_block_of i.policies n head.policy
  by_head t head posted = ap (is_head_under i n) posted

  kept_open : (t : ℕ) (c : SysCall) (r : List ℕ) → is (held_of st t) ≡ false → IsOpen st t c r → IsOpen after t c r
  kept_open t c r not_so x =
      let other : EachHeld (IsOther is (st.threads t).number) some = kept_other i st inv is t c r x not_so in
      open_kept st after t c r more_posted (record {
        owner = same_owner t;
        ids = ap (λ row. row.ids) (same_row t);
        policy = ap (λ row. row.policy) (same_row t);
        number = seq_other is (st.threads t).number fresh some other;
        head = head_below is heads renewed (st.threads t).number (heads (st.threads t).number) fresh some (let low = x.low in omega (arith, low));
        closed = λ unclosed. renewed_other is (st.threads t).number (st.messages (st.threads t).number).closed fresh some other ∙ unclosed;
        version = λ head posted. ap (λ b. cond b n (st.versions head.policy)) (sym (by_head t head posted) ∙ not_so);
      }) x

  renewed_open : (t : ℕ) (c : SysCall) (r : List ℕ) → IsOpen st t c r → IsRenewal is heads renewed (st.threads t).number st.posted fresh changes → IsOpen after t c r
  renewed_open t c r x y = record {
    head = renewed x.head;
    posted = (λ k. (after.messages (y.drawn k)).head) ∙ y.head (heads y.number) ∙ ap (option_map renewed) x.posted;
    own = record {
      tid_is = x.own.tid_is;
      pid_is = x.own.pid_is ∙ sym (same_owner t);
      ids_are = ap (λ p. (process_after st.processes m p changes).ids) (x.own.pid_is ∙ sym (same_owner t));
      policy_is = x.own.policy_is ∙ sym (ap (λ row. row.policy) (same_row t));
      version_is = refl;
      call_is = x.own.call_is;
      regs_are = x.own.regs_are;
    };
    unclosed = (λ k. (after.messages (y.drawn k)).closed) ∙ done_unclosed y.number y.low;
    low = let high = y.high in let same = y.drawn in omega (arith, high, same);
  }

  opened_at : (t : ℕ) (c : SysCall) (r : List ℕ) → (st.threads t).owner ≢ 0 → IsHolder st t → IsOpen st t c r → (b : Bool) → is (held_of st t) ≡ b → IsOpen after t c r
  opened_at t c r owned holder x true is_so = renewed_open t c r x (renewal i st inv is heads renewed t owned holder is_so c r x)
  opened_at t c r owned holder x false not_so = kept_open t c r not_so x

  still_fine : (t : ℕ) (entered : PendingCall) → (st.threads t).pending ≡ Some entered → Fine st t entered → Fine after t entered
  still_fine t entered e x = record {
    started = λ none. x.started (sym (same_owner t) ∙ none);
    fine = λ undying. let before : (st.threads t).dying ≡ false = sym (same_dying t) ∙ undying in
        fine_by st after t entered.call entered.regs entered.way refl
        (λ first way y. opened_at t entered.call entered.regs x.started (record { entered = entered; pending = e; first = first; way = way; undying = before }) y (is (held_of st t)) refl)
        (x.fine before);
  }

  -- a reload that is done keeps the invariant, by what is left of the bodies
  pub done_kept : ((t : ℕ) → All (IsInstruction i) (after.threads t).left) → Invariant i after
  done_kept bodies = record {
    started = λ t owned. inv.started t (λ none. owned (same_owner t ∙ none));
    bodies = bodies;
    children = inv.children;
    owners = λ t. let low = inv.owners t in let same = same_owner t in let last = same_next in omega (arith, low, same, last);
    heads = λ q high. head_above is heads renewed q (heads q) st.posted fresh some refl high ∙ inv.heads q (let low = more_posted in omega (arith, low, high));
    closed = λ q high. done_unclosed q (let low = more_posted in omega (arith, low, high));
    fine = λ t. if_pending (Fine st t) (Fine after t) (st.threads t).pending (still_fine t) (inv.fine t);
  }

  -- a posted number keeps its head
  pub done_stays : (q : ℕ) → q ≤ st.posted → (after.messages q).head ≡ (st.messages q).head
  done_stays q low = head_below is heads renewed q (heads q) fresh some (omega (arith, low))

  -- so does a reload that is refused
  pub refused_kept : ((t : ℕ) → All (IsInstruction i) ((state_after i st (Reloaded u n false [])).threads t).left) → Invariant i (state_after i st (Reloaded u n false []))
  refused_kept bodies = record {
    started = inv.started;
    bodies = bodies;
    children = inv.children;
    owners = inv.owners;
    heads = inv.heads;
    closed = inv.closed;
    fine = λ t. if_pending (Fine st t) (Fine (state_after i st (Reloaded u n false [])) t) (st.threads t).pending
        (λ entered e x. record {
          started = x.started;
          fine = λ undying. fine_by st (state_after i st (Reloaded u n false [])) t entered.call entered.regs entered.way refl
              (λ first way y. open_kept st (state_after i st (Reloaded u n false [])) t entered.call entered.regs (omega arith) (record { owner = refl; ids = refl; policy = refl; number = refl; head = refl; closed = λ unclosed. unclosed; version = λ head posted. refl }) y) (x.fine undying);
        }) (inv.fine t);
  }
