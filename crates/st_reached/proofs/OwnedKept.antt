-- After each lawful entry, too, each live number is its thread's own.
use native.Mathlib.Omega.{arith}
use Rattle.std.proofs.Common.{◌≡◌, ◌≤◌, ◌<◌, ◌⊎◌, ℕ, suc, Bool, true, false, cond, not, ◌&&◌, ◌||◌, ◌==◌, List, [], ◌∷◌, Option, Some, None, option_map, refl, sym, ap, subst, ◌∙◌, inl, inr}
use Rattle.std.proofs.lemmas.Bool.{and_parts, cases_lt, eq-eqb, eqb-true, ne_eqb, or_parts, true≢false}
use Rattle.std.proofs.lemmas.Option.{same_Some}
use Rattle.st_base.specs.declared.errno.Errno.{Errno}
use Rattle.st_base.specs.declared.ids.Ids.{Ids}
use Rattle.st_calls.specs.declared.argument.ArgText.{ArgText}
use Rattle.st_calls.specs.declared.call.SysCall.{SysCall}
use Rattle.st_effects.specs.Changes.{process_after, seq_after}
use Rattle.st_effects.specs.Processes.{is_other_of, policy_changes, renewals}
use Rattle.st_effects.specs.System.{HeldCall}
use Rattle.st_model.specs.Tree.{is_number}
use Rattle.std.specs.List.{fold}
use Rattle.st_trace.specs.declared.entry.CallResult.{CallResult}
use Rattle.st_trace.specs.declared.entry.Cause.{Cause}
use Rattle.st_trace.specs.declared.entry.Change.{Change}
use Rattle.st_trace.specs.declared.entry.Change.TheVariants.{Forked, Execed, Policy, SetIds}
use Rattle.st_trace.specs.declared.entry.Entry.{Entry}
use Rattle.st_trace.specs.declared.entry.Entry.TheVariants.{Stored, Entered, Claimed, Copied, Looked, Faulted, Answered, Used, Denied, Ended, Replied, Learned, Reloaded}
use Rattle.st_trace.specs.declared.entry.Way.{Way}
use Rattle.st_trace.specs.declared.entry.Way.TheVariants.{Fast, Barred, Held, Untraced}
use Rattle.st_law.specs.declared.input.Input.{Input}
use Rattle.st_law.specs.Lawful.{IsEntered, IsEnded, IsUsed, IsDenied, IsLawful}
use Rattle.st_law.specs.Machine.{first_state, state_after}
use Rattle.st_law.specs.Messages.{Head, head_after_change, is_renewed_by, new_head, renewed_head}
use Rattle.st_law.specs.State.{State, is_live_by, is_live, held_from, is_held_under, reload_changes, process_in, request_of, system_of, thread_count}
use Rattle.st_law.specs.Threads.{PendingCall, child_of_next}
use Rattle.st_law.proofs.HeldCalls.{IsItem, items}
use Rattle.st_law.proofs.Invariant.{IsOpen, Invariant}
use Rattle.st_law.proofs.Moves.{live_before, moves, open_if}
use Rattle.st_law.proofs.ReloadKept.{done_stays, same_dying, same_owner}
use Rattle.st_law.proofs.Preserved.{UsedKeeps, used_keeps}
use Rattle.st_law.proofs.QuietChanges.{AreMute, head_mute, mute_of, mute_of_quiet}
use Rattle.st_law.proofs.HeldRenewals.{open_of}
use Rattle.st_law.proofs.Renewals.{EachHeld, each_held, IsLow}
use Rattle.st_law.proofs.Shapes.{Shape, quiet, forked, execed, renewed}
use Rattle.st_law.proofs.UsedShapes.{used_shape}
use Rattle.st_reached.specs.Reached.{IsHolding, LiveNumbersAreOwn}
use Rattle.st_reached.proofs.Drawn.{SameOrDrawn, apart, drawn, seq_kept}
use Rattle.st_reached.proofs.Owning.{denied_number, held_lives, live_parts, lives_by, used_number}

-- a thread still holds its call if its parts are unchanged
holding_kept : (st new : State) (t p q : ℕ) → (new.threads t).pending ≡ (st.threads t).pending → (new.threads t).number ≡ q → (new.threads t).owner ≡ (st.threads t).owner → (new.threads t).ended ≡ (st.threads t).ended → IsHolding st t p → IsHolding new t q
holding_kept st new t p q pending number owner ended x = record {
  entered = x.entered;
  pending = pending ∙ x.pending;
  first = x.first;
  way = x.way;
  number = number;
  started = λ none. x.started (sym owner ∙ none);
  unended = ended ∙ x.unended;
}

-- before the first entry no number is live
pub owned_first : (i : Input) → LiveNumbersAreOwn (first_state i)
owned_first i = record { own = λ q head live posted. cc }

module _ (i : Input) (st : State) (inv : Invariant i st) (owned : LiveNumbersAreOwn st) where
  -- ---- entries that leave messages, and what threads hold

  kept_by : (e : Entry) → ((t : ℕ) → ((state_after i st e).threads t).pending ≡ (st.threads t).pending) → ((t : ℕ) → ((state_after i st e).threads t).number ≡ (st.threads t).number)
      → ((t : ℕ) → ((state_after i st e).threads t).owner ≡ (st.threads t).owner) → ((t : ℕ) → ((state_after i st e).threads t).ended ≡ (st.threads t).ended)
      → ((q : ℕ) → ((state_after i st e).messages q).head ≡ (st.messages q).head) → ((q : ℕ) → is_live (state_after i st e) q ≡ true → is_live st q ≡ true) → LiveNumbersAreOwn (state_after i st e)
  kept_by e pending numbers owner ended heads lived = record {
    own = λ q head live posted. let x : IsHolding st head.tid q = owned.own q head (lived q live) (sym (heads q) ∙ posted) in
        holding_kept st (state_after i st e) head.tid q q (pending head.tid) (numbers head.tid ∙ x.number) (owner head.tid) (ended head.tid) x;
  }

  -- ---- the end of a thread, which is dying or has no pending call

  ended_kept : (u : ℕ) → IsEnded st u → LiveNumbersAreOwn (state_after i st (Ended u))
  ended_kept u y = record {
    own = λ q head live posted. let x : IsHolding st head.tid q = owned.own q head live posted in
        holding_kept st (state_after i st (Ended u)) head.tid q q refl x.number refl (ap (λ b. b || (st.threads head.tid).ended) (ne_eqb u head.tid (not_it q head live posted x y.over))) x;
  } where
    none : (entered : PendingCall) → None ≡ Some entered → ⊥
    none entered e = cc

    not_it : (q : ℕ) (head : Head) → is_live st q ≡ true → (st.messages q).head ≡ Some head → IsHolding st head.tid q → ((st.threads u).dying ≡ true) ⊎ (((st.threads u).left ≡ []) × ((st.threads u).pending ≡ None)) → u ≡ head.tid → ⊥
    not_it q head live posted x (inl dying) same = true≢false (sym dying ∙ ap (λ t. (st.threads t).dying) same ∙ (live_parts st q head live posted).1)
    not_it q head live posted x (inr over) same = none x.entered (sym over.1 ∙ ap (λ t. (st.threads t).pending) same ∙ x.pending)

  -- ---- a call that is entered: its thread had none

  module _ (u : ℕ) (call : SysCall) (regs : List ℕ) (way : Way) (y : IsEntered i st u call regs way) where
    abbrev entered_state : State
    entered_state = state_after i st (Entered u call regs way)

    entered_other : (q : ℕ) (head : Head) → is_live st q ≡ true → (st.messages q).head ≡ Some head → ((u == head.tid) ≡ false → ((entered_state).threads head.tid).number ≡ (st.threads head.tid).number) → IsHolding entered_state head.tid q
    entered_other q head live posted numbers =
        let x : IsHolding st head.tid q = owned.own q head live posted in
        let differ : (u == head.tid) ≡ false = ne_eqb u head.tid (λ same. none x.entered (sym y.idle ∙ ap (λ t. (st.threads t).pending) same ∙ x.pending)) in
        holding_kept st entered_state head.tid q q (ap (λ b. cond b (Some (record { call = call; regs = regs; way = way; child = child_of_next (st.threads head.tid).left })) (st.threads head.tid).pending) differ)
        (numbers differ ∙ x.number) refl refl x
      where
        none : (entered : PendingCall) → None ≡ Some entered → ⊥
        none entered e = cc

  module _ (u p : ℕ) (call : SysCall) (regs : List ℕ) (y : IsEntered i st u call regs (Held p)) where
    abbrev held_state : State
    held_state = state_after i st (Entered u call regs (Held p))

    abbrev own_head : Head
    own_head = new_head i u (st.threads u).owner (process_in st u) (st.versions (process_in st u).policy) call regs

    own_holding : IsHolding held_state u p
    own_holding = record {
      entered = record { call = call; regs = regs; way = Held p; child = child_of_next (st.threads u).left };
      pending = ap (λ b. cond b (Some (record { call = call; regs = regs; way = Held p; child = child_of_next (st.threads u).left })) (st.threads u).pending) (eq-eqb u u refl);
      first = p;
      way = refl;
      number = ap (λ b. cond b p (st.threads u).number) (eq-eqb u u refl);
      started = y.running.started;
      unended = y.running.unended;
    }

    held_by : (q : ℕ) (head : Head) (b : Bool) → (p == q) ≡ b → is_live_by (cond b (Some own_head) (st.messages q).head) (st.messages q).closed (λ t. (st.threads t).dying) ≡ true → cond b (Some own_head) (st.messages q).head ≡ Some head → IsHolding held_state head.tid q
    held_by q head true same live posted =
        subst (λ n. IsHolding held_state head.tid n) (eqb-true p q same) (subst (λ t. IsHolding held_state t p) (ap (λ (h : Head). h.tid) (same_Some own_head head posted)) own_holding)
    held_by q head false same live posted = entered_other u call regs (Held p) y q head live posted (λ differ. ap (λ b. cond b p (st.threads head.tid).number) differ)

    held_kept : LiveNumbersAreOwn held_state
    held_kept = record {
      own = λ q head live posted. held_by q head (p == q) refl live posted;
    }

  entered_kept : (u : ℕ) (call : SysCall) (regs : List ℕ) (way : Way) → IsEntered i st u call regs way → LiveNumbersAreOwn (state_after i st (Entered u call regs way))
  entered_kept u call regs Fast y = record { own = λ q head live posted. entered_other u call regs Fast y q head live posted (λ differ. refl) }
  entered_kept u call regs Untraced y = record { own = λ q head live posted. entered_other u call regs Untraced y q head live posted (λ differ. refl) }
  entered_kept u call regs (Barred n) y = record { own = λ q head live posted. entered_other u call regs (Barred n) y q head live posted (λ differ. refl) }
  entered_kept u call regs (Held p) y = held_kept u p call regs y

  -- ---- a call that is denied

  module _ (u : ℕ) (seq : Option ℕ) (errno : Errno) (cause : Cause) (y : IsDenied i st u seq errno cause) where
    abbrev denied : State
    denied = state_after i st (Denied u seq errno cause)

    denied_at : (q : ℕ) (head : Head) → is_live denied q ≡ true → (denied.messages q).head ≡ Some head → IsHolding denied head.tid q
    denied_at q head live posted =
        let parts = live_parts denied q head live posted in
        let open_parts = or_parts (is_number q seq) (st.messages q).closed parts.0 in
        let x : IsHolding st head.tid q = owned.own q head (lives_by st q head posted open_parts.1 parts.1) posted in
        let differ : (u == head.tid) ≡ false = ne_eqb u head.tid (λ same. true≢false (sym (denied_number i st u q (subst (λ t. IsHolding st t q) (sym same) x) seq errno cause y) ∙ open_parts.0)) in
        holding_kept st denied head.tid q q (ap (λ b. cond b None (st.threads head.tid).pending) differ) x.number refl refl x

    denied_kept : LiveNumbersAreOwn denied
    denied_kept = record { own = denied_at }

  -- ---- a call that is made

  module _ (u : ℕ) (seq : Option ℕ) (call : SysCall) (regs : List ℕ) (args : List ArgText) (ids : Ids) (result : CallResult) (changes : List Change) (y : IsUsed i st u seq call regs args ids result changes) where
    abbrev new : State
    new = state_after i st (Used u seq call regs args ids result changes)

    kept : UsedKeeps i st inv u seq call regs args ids result changes
    kept = used_keeps i st inv u seq call regs args ids result changes y

    -- a number that was posted before
    used_low : (q : ℕ) (head : Head) → q ≤ st.posted → is_live new q ≡ true → (new.messages q).head ≡ Some head → IsHolding new head.tid q
    used_low q head low live posted =
        let parts = live_parts new q head live posted in
        let open_parts = or_parts (is_number q seq) (fold (is_renewed_by q) (st.messages q).closed changes) parts.0 in
        let before : (st.messages q).head ≡ Some head = sym (kept.keeps.stays q low) ∙ posted in
        let x : IsHolding st head.tid q = owned.own q head (live_before st new (moves i st inv (Used u seq call regs args ids result changes) y) q low live) before in
        let differ : (u == head.tid) ≡ false = ne_eqb u head.tid (λ same. true≢false (sym (used_number i st u q (subst (λ t. IsHolding st t q) (sym same) x) seq call regs args ids result changes y) ∙ open_parts.0)) in
        holding_kept st new head.tid q q (ap (λ b. cond b None (st.threads head.tid).pending) differ)
        (ap (λ n. seq_after n changes) x.number ∙ seq_kept q (st.messages q).closed changes open_parts.1)
        (kept.keeps.owner head.tid x.started) refl x

  abbrev helds : List HeldCall
  helds = held_from st 1 (thread_count i)

  abbrev heads : ℕ → Option Head
  heads q = (st.messages q).head

  item_low : (held : HeldCall) → IsItem st held → IsLow (suc st.posted) held
  item_low held x = let low = (open_of i st inv held.tid x.holder).low in let is = ap number_of x.is in omega (arith, low, is) where
    number_of : HeldCall → ℕ
    number_of each = each.number

  all_low : EachHeld (IsLow (suc st.posted)) helds
  all_low = each_held (IsItem st) (IsLow (suc st.posted)) item_low helds (items st 1 (thread_count i))

  exec_mute : (binary : List ℕ) (space : ℕ) (inherit : Bool) → AreMute (Execed binary space ∷ policy_changes inherit binary)
  exec_mute binary space true = (mute_of (Execed binary space) tt, tt)
  exec_mute binary space false = (mute_of (Execed binary space) tt, (mute_of (Policy binary) tt, tt))

  away_of : (m u : ℕ) (held : HeldCall) → (held.pid == m && not (held.tid == u)) ≡ true → (u == held.tid) ≡ false
  away_of m u held is_so = ne_eqb u held.tid (λ same. unlike (held.tid == u) (and_parts (held.pid == m) (not (held.tid == u)) is_so).1 (eq-eqb held.tid u (sym same))) where
    unlike : (b : Bool) → not b ≡ true → b ≡ true → ⊥
    unlike true e f = cc
    unlike false e f = cc

  module _ (u : ℕ) (seq : Option ℕ) (call : SysCall) (regs : List ℕ) (args : List ArgText) (ids : Ids) (result : CallResult) (changes : List Change) (y : IsUsed i st u seq call regs args ids result changes) where
    abbrev made : State
    made = state_after i st (Used u seq call regs args ids result changes)

    abbrev m : ℕ
    m = (st.threads u).owner

    abbrev renewing : Head → Head
    renewing = renewed_head (λ p. process_after st.processes m p changes) st.versions

    -- if nothing is renewed, no number is new
    mute_high : (q : ℕ) (head : Head) → st.posted < q → (made.messages q).head ≡ Some head → AreMute changes → ⊥
    mute_high q head high posted mute = none (sym (head_mute heads renewing q changes mute ∙ inv.heads q high) ∙ posted) where
      none : None ≡ Some head → ⊥
      none e = cc

    -- a new number belongs to the thread whose number it renews
    renewed_high : (set : Ids) → changes ≡ SetIds set ∷ renewals m u (suc st.posted) helds → (q : ℕ) (head : Head) → st.posted < q → (made.messages q).head ≡ Some head → SameOrDrawn (is_other_of m u) heads renewing q (IsItem st) (heads q) (renewals m u (suc st.posted) helds) → IsHolding made head.tid q
    renewed_high set e q head high posted (inl same) = absurd (none (sym (ap (λ cs. fold (head_after_change heads renewing q) (heads q) cs) e ∙ same ∙ inv.heads q high) ∙ posted)) where
      none : None ≡ Some head → ⊥
      none e = cc
    renewed_high set e q head high posted (inr x) =
        let t : ℕ = x.held.tid in
        let is_open : IsOpen st t x.item.holder.entered.call x.item.holder.entered.regs = open_of i st inv t x.item.holder in
        let before : heads x.held.number ≡ Some is_open.head = ap (λ (c : HeldCall). heads c.number) x.item.is ∙ is_open.posted in
        let is : Some head ≡ Some (renewing is_open.head) = sym posted ∙ ap (λ cs. fold (head_after_change heads renewing q) (heads q) cs) e ∙ x.head ∙ ap (option_map renewing) before in
        let tid : head.tid ≡ t = ap (λ (h : Head). h.tid) (same_Some head (renewing is_open.head) is) ∙ is_open.own.tid_is in
        let own : IsHolding st t (st.threads t).number = subst (λ n. IsHolding st n (st.threads t).number) is_open.own.tid_is (owned.own (st.threads t).number is_open.head (held_lives i st inv t x.item.holder) is_open.posted) in
        subst (λ n. IsHolding made n q) (sym tid) (holding_kept st made t (st.threads t).number q
        (ap (λ b. cond b None (st.threads t).pending) (away_of m u x.held x.renewable))
        (ap (λ cs. seq_after (st.threads t).number cs) e ∙ ap (λ (c : HeldCall). seq_after c.number (renewals m u (suc st.posted) helds)) (sym x.item.is) ∙ x.number)
        ((kept u seq call regs args ids result changes y).keeps.owner t own.started) refl own)

    used_high : (q : ℕ) (head : Head) → st.posted < q → (made.messages q).head ≡ Some head → Shape (system_of i st) (request_of i st u regs args ids) call changes → IsHolding made head.tid q
    used_high q head high posted (quiet x) = absurd (mute_high q head high posted (mute_of_quiet changes x))
    used_high q head high posted (forked is e) = absurd (mute_high q head high posted (subst AreMute (sym e) (mute_of (Forked st.next_process st.next_space (request_of i st u regs args ids).child) tt, tt)))
    used_high q head high posted (execed binary e) = absurd (mute_high q head high posted (subst AreMute (sym e) (exec_mute binary st.next_space i.options.inherit)))
    used_high q head high posted (renewed set sets e) =
        renewed_high set e q head high posted (drawn (is_other_of m u) heads renewing q (IsItem st) (heads q) (suc st.posted) helds (items st 1 (thread_count i)) (apart i st inv 1 (thread_count i)) all_low)

    used_kept : LiveNumbersAreOwn made
    used_kept = record { own = λ q head live posted. by q head live posted (cases_lt st.posted q) } where
      by : (q : ℕ) (head : Head) → is_live made q ≡ true → (made.messages q).head ≡ Some head → (st.posted < q) ⊎ (q ≤ st.posted) → IsHolding made head.tid q
      by q head live posted (inl high) = used_high q head high posted (used_shape i st u call regs args ids result changes seq y)
      by q head live posted (inr low) = used_low u seq call regs args ids result changes y q head low live posted

  -- ---- a reload

  module _ (u n : ℕ) where
    abbrev is : HeldCall → Bool
    is = is_held_under i st n

    abbrev done : State
    done = state_after i st (Reloaded u n true (reload_changes i st n true))

    abbrev reloading : Head → Head
    reloading = renewed_head done.processes done.versions

    done_low : (q : ℕ) (head : Head) → q ≤ st.posted → is_live done q ≡ true → (done.messages q).head ≡ Some head → IsHolding done head.tid q
    done_low q head low live posted =
        let parts = live_parts done q head live posted in
        let open_before = open_if q (st.messages q).closed (reload_changes i st n true) parts.0 in
        let before : (st.messages q).head ≡ Some head = sym (done_stays i st inv u n q low) ∙ posted in
        let undying = sym (same_dying i st inv u n head.tid) ∙ parts.1 in
        let x : IsHolding st head.tid q = owned.own q head (lives_by st q head before open_before undying) before in
        holding_kept st done head.tid q q refl (ap (λ p. seq_after p (reload_changes i st n true)) x.number ∙ seq_kept q (st.messages q).closed (reload_changes i st n true) parts.0) (same_owner i st inv u n head.tid) refl x

    done_high : (q : ℕ) (head : Head) → st.posted < q → (done.messages q).head ≡ Some head → SameOrDrawn is heads reloading q (IsItem st) (heads q) (reload_changes i st n true) → IsHolding done head.tid q
    done_high q head high posted (inl same) = absurd (none (sym (same ∙ inv.heads q high) ∙ posted)) where
      none : None ≡ Some head → ⊥
      none e = cc
    done_high q head high posted (inr x) =
        let t : ℕ = x.held.tid in
        let is_open : IsOpen st t x.item.holder.entered.call x.item.holder.entered.regs = open_of i st inv t x.item.holder in
        let before : heads x.held.number ≡ Some is_open.head = ap (λ (c : HeldCall). heads c.number) x.item.is ∙ is_open.posted in
        let same : Some head ≡ Some (reloading is_open.head) = sym posted ∙ x.head ∙ ap (option_map reloading) before in
        let tid : head.tid ≡ t = ap (λ (h : Head). h.tid) (same_Some head (reloading is_open.head) same) ∙ is_open.own.tid_is in
        let own : IsHolding st t (st.threads t).number = subst (λ p. IsHolding st p (st.threads t).number) is_open.own.tid_is (owned.own (st.threads t).number is_open.head (held_lives i st inv t x.item.holder) is_open.posted) in
        subst (λ p. IsHolding done p q) (sym tid) (holding_kept st done t (st.threads t).number q refl
        (ap (λ (c : HeldCall). seq_after c.number (reload_changes i st n true)) (sym x.item.is) ∙ x.number) (same_owner i st inv u n t) refl own)

    done_kept : LiveNumbersAreOwn done
    done_kept = record { own = λ q head live posted. by q head live posted (cases_lt st.posted q) } where
      by : (q : ℕ) (head : Head) → is_live done q ≡ true → (done.messages q).head ≡ Some head → (st.posted < q) ⊎ (q ≤ st.posted) → IsHolding done head.tid q
      by q head live posted (inl high) = done_high q head high posted (drawn is heads reloading q (IsItem st) (heads q) (suc st.posted) helds (items st 1 (thread_count i)) (apart i st inv 1 (thread_count i)) all_low)
      by q head live posted (inr low) = done_low q head low live posted

    reloaded_by : (b : Bool) → LiveNumbersAreOwn (state_after i st (Reloaded u n b (reload_changes i st n b)))
    reloaded_by true = done_kept
    reloaded_by false = kept_by (Reloaded u n false []) (λ t. refl) (λ t. refl) (λ t. refl) (λ t. refl) (λ q. refl) (λ q live. live)

  -- after each lawful entry each live number is its thread's own
  pub owned_after : (e : Entry) → IsLawful i st e → LiveNumbersAreOwn (state_after i st e)
  owned_after (Entered u call regs way) y = entered_kept u call regs way y
  owned_after (Used u seq call regs args ids result changes) y = used_kept u seq call regs args ids result changes y
  owned_after (Reloaded u n b changes) y = subst (λ cs. LiveNumbersAreOwn (state_after i st (Reloaded u n b cs))) (sym y.changes_are) (reloaded_by u n b)
  owned_after (Denied u seq errno cause) y = denied_kept u seq errno cause y
  owned_after (Ended u) y = ended_kept u y
  owned_after (Stored u place word) y = kept_by (Stored u place word) (λ t. refl) (λ t. refl) (λ t. refl) (λ t. refl) (λ q. refl) (λ q live. live)
  owned_after (Claimed w q) y = kept_by (Claimed w q) (λ t. refl) (λ t. refl) (λ t. refl) (λ t. refl) (λ q. refl) (λ q live. live)
  owned_after (Copied q part place word) y = kept_by (Copied q part place word) (λ t. refl) (λ t. refl) (λ t. refl) (λ t. refl) (λ q. refl) (λ q live. live)
  owned_after (Looked q part name seen) y = kept_by (Looked q part name seen) (λ t. refl) (λ t. refl) (λ t. refl) (λ t. refl) (λ q. refl) (λ q live. live)
  owned_after (Faulted q errno) y = kept_by (Faulted q errno) (λ t. refl) (λ t. refl) (λ t. refl) (λ t. refl) (λ q. refl) (λ q live. live)
  owned_after (Answered w s v applied) y = kept_by (Answered w s v applied) (λ t. refl) (λ t. refl) (λ t. refl) (λ t. refl) (λ q. refl) (λ q live. live)
  owned_after (Learned q n) y = kept_by (Learned q n) (λ t. refl) (λ t. refl) (λ t. refl) (λ t. refl) (λ q. refl) (λ q live. live)
  owned_after (Replied q reply n) y = kept_by (Replied q reply n) (λ t. refl) (λ t. refl) (λ t. refl) (λ t. refl) (λ q. refl) (λ q live. live)
