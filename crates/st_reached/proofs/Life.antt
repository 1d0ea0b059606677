-- Which numbers are live after each lawful entry.
use native.Mathlib.Omega.{arith}
use Rattle.std.proofs.Common.{◌≡◌, ◌≤◌, ℕ, suc, ◌+◌, Bool, true, false, cond, not, ◌&&◌, ◌||◌, ◌==◌, List, [], ◌∷◌, Option, Some, None, option_map, refl, sym, ap, subst, ◌∙◌}
use Rattle.std.proofs.lemmas.Bool.{and_parts, eq-eqb, eqb-false, eqb-true, false_from_ne_true, ne_eqb, or_parts, true≢false}
use Rattle.std.specs.List.{fold}
use Rattle.st_base.specs.declared.ids.Ids.{Ids}
use Rattle.st_calls.specs.declared.argument.ArgText.{ArgText}
use Rattle.st_calls.specs.declared.call.SysCall.{SysCall}
use Rattle.st_effects.specs.Changes.{dying_after, dying_after_change, process_after}
use Rattle.st_effects.specs.Processes.{is_other_of, policy_changes, renewals, renewals_by}
use Rattle.st_effects.specs.System.{HeldCall}
use Rattle.st_model.specs.Process.{Process}
use Rattle.st_model.specs.Tree.{is_number}
use Rattle.st_trace.specs.declared.entry.CallResult.{CallResult}
use Rattle.st_trace.specs.declared.entry.Change.{Change}
use Rattle.st_trace.specs.declared.entry.Change.TheVariants.{Execed, SetIds, Dying, Renewed}
use Rattle.st_trace.specs.declared.entry.Entry.{Entry}
use Rattle.st_trace.specs.declared.entry.Entry.TheVariants.{Entered, Used, Denied, Reloaded}
use Rattle.st_trace.specs.declared.entry.Way.TheVariants.{Fast, Barred, Held, Untraced}
use Rattle.st_law.specs.declared.input.Input.{Input}
use Rattle.st_law.specs.Lawful.{IsEntered, IsLawful, IsReloaded, IsUsed}
use Rattle.st_law.specs.Machine.{state_after}
use Rattle.st_law.specs.Messages.{Head, head_after_change, is_renewed_by, new_head, renewed_head}
use Rattle.st_law.specs.State.{State, held_from, is_held_under, reload_changes, is_live, is_live_by, process_in, request_of, system_of, thread_count}
use Rattle.st_law.proofs.HeldCalls.{IsItem, items}
use Rattle.st_law.proofs.Invariant.{IsOpen, Invariant}
use Rattle.st_law.proofs.Preserved.{used_keeps}
use Rattle.st_law.proofs.QuietChanges.{IsNoRenewal, mute_of, head_mute, renewed_mute, quiet_no_renewal, AreMute}
use Rattle.st_law.proofs.HeldRenewals.{open_of}
use Rattle.st_law.proofs.Renewals.{EachHeld, each_held, IsLow, lower, one_more, renewals_same}
use Rattle.st_law.proofs.Shapes.{AreQuiet, Each, Shape, quiet, forked, execed, renewed}
use Rattle.st_law.proofs.UsedKept.{not_closed_above}
use Rattle.st_law.proofs.UsedShapes.{used_shape}
use Rattle.st_reached.specs.Reached.{IsHolding, LiveNumbersAreOwn, is_head_of, is_number_of, life_after, life_after_change, life_after_changes, life_without}
use Rattle.st_reached.proofs.Owning.{lives_by, not_so, used_number}

pub eqb-sym : (m n : ℕ) → (m == n) ≡ (n == m)
eqb-sym m n = by (m == n) refl where
  by : (b : Bool) → (m == n) ≡ b → (m == n) ≡ (n == m)
  by true e = e ∙ sym (eq-eqb n m (sym (eqb-true m n e)))
  by false e = e ∙ sym (ne_eqb n m (λ same. eqb-false m n e (sym same)))

-- ---- a call is entered, made or denied

-- a closed number isn't live
pub closed_life : (s closed : Bool) (o : Option Head) (dying : ℕ → Bool) → is_live_by o (s || closed) dying ≡ cond s false (is_live_by o closed dying)
closed_life true closed None dying = refl
closed_life true closed (Some head) dying = refl
closed_life false closed o dying = refl

-- ---- changes that renew nothing

-- a number of a process that is killed, or that executes another binary, isn't live any more
killed_life : (x c b : Bool) → cond x false (not c && not b) ≡ (not c && not (b || x))
killed_life true true b = refl
killed_life true false true = refl
killed_life true false false = refl
killed_life false true b = refl
killed_life false false true = refl
killed_life false false false = refl

execed_life : (x own c b : Bool) → (own ≡ true → (not c && not b) ≡ false) → cond x false (not c && not b) ≡ (not c && not (b || (x && not own)))
execed_life true true c b mine = sym (not_dying c b ∙ mine refl) where
  not_dying : (c b : Bool) → (not c && not (b || false)) ≡ (not c && not b)
  not_dying c true = refl
  not_dying c false = refl
execed_life true false c b mine = killed_life true c b
execed_life false own c b mine = killed_life false c b

less : (c b x : Bool) → (not c && not b) ≡ false → (not c && not (b || x)) ≡ false
less true b x e = refl
less false true x e = refl
less false false x e = cc

dead : (b alive : Bool) → alive ≡ false → cond b false alive ≡ false
dead true alive e = refl
dead false alive e = e

module _ (st : State) (u other : ℕ) where
  abbrev m : ℕ
  m = (st.threads u).owner

  -- a number without a head isn't live
  headless : (st.messages other).head ≡ None → (changes : List Change) → Each IsNoRenewal changes → (alive : ℕ → Bool) → alive other ≡ false → life_after_changes st m alive changes other ≡ false
  headless none [] calm alive e = e
  headless none (Dying p ∷ changes) calm alive e = headless none changes calm.1 (life_after_change st m alive (Dying p)) (dead (is_number_of st p other) (alive other) e)
  headless none (Execed binary space ∷ changes) calm alive e = headless none changes calm.1 (life_after_change st m alive (Execed binary space)) (dead (is_number_of st m other) (alive other) e)
  headless none (Renewed old new ∷ changes) calm alive e = absurd calm.0
  headless none (_ ∷ changes) calm alive e = headless none changes calm.1 alive e

  module _ (head : Head) (posted : (st.messages other).head ≡ Some head) where
    abbrev t : ℕ
    t = head.tid

    abbrev p : ℕ
    p = (st.threads t).owner

    -- a number stays live if its thread isn't dying and it isn't closed
    calm_life : (changes : List Change) → Each IsNoRenewal changes → (alive : ℕ → Bool) (c b : Bool) → alive other ≡ (not c && not b) → ((u == t) ≡ true → (not c && not b) ≡ false)
        → life_after_changes st m alive changes other ≡ (not c && not (dying_after t p u m b changes))
    calm_life [] calm alive c b e mine = e
    calm_life (Dying pid ∷ changes) calm alive c b e mine = calm_life changes calm.1 (life_after_change st m alive (Dying pid)) c (b || pid == p)
        ((λ k. cond (is_head_of st pid (posted k)) false (e k)) ∙ killed_life (pid == p) c b) (λ own. less c b (pid == p) (mine own))
    calm_life (Execed binary space ∷ changes) calm alive c b e mine = calm_life changes calm.1 (life_after_change st m alive (Execed binary space)) c (b || (m == p && not (u == t)))
        ((λ k. cond (is_head_of st m (posted k)) false (e k)) ∙ execed_life (m == p) (u == t) c b mine) (λ own. less c b (m == p && not (u == t)) (mine own))
    calm_life (Renewed old new ∷ changes) calm alive c b e mine = absurd calm.0
    calm_life (_ ∷ changes) calm alive c b e mine = calm_life changes calm.1 alive c b e mine

-- ---- renewals

-- one renewal, by whether this number is the new one or the old one
renewal_life : (new old : Bool) (o fresh : Option Head) (s c : Bool) (dying : ℕ → Bool) (alive : Bool) → alive ≡ is_live_by o (s || c) dying → (new ≡ true → (s || (old || c)) ≡ false) → is_live_by fresh false dying ≡ true
    → cond new true (cond old false alive) ≡ is_live_by (cond new fresh o) (s || (old || c)) dying
renewal_life true old o fresh s c dying alive e unclosed lives = sym (ap (λ b. is_live_by fresh b dying) (unclosed refl) ∙ lives)
renewal_life false true o fresh s c dying alive e unclosed lives = closed s o where
  closed : (s : Bool) (o : Option Head) → false ≡ is_live_by o (s || true) dying
  closed s None = refl
  closed true (Some head) = refl
  closed false (Some head) = refl
renewal_life false false o fresh s c dying alive e unclosed lives = e

module _ (st : State) (m : ℕ) (is : HeldCall → Bool) (heads : ℕ → Option Head) (renewing : Head → Head) (dying : ℕ → Bool) (other : ℕ) (s : Bool) where
  -- a held call's renewed number is live
  abbrev LivesOn : HeldCall → Type 0
  LivesOn held = is_live_by (option_map renewing (heads held.number)) false dying ≡ true

  renewals_life : (next : ℕ) (helds : List HeldCall) → EachHeld (IsLow next) helds → EachHeld LivesOn helds → (alive : ℕ → Bool) (o : Option Head) (c : Bool) → alive other ≡ is_live_by o (s || c) dying → (next ≤ other → (s || c) ≡ false)
      → life_after_changes st m alive (renewals_by is next helds) other ≡ is_live_by (fold (head_after_change heads renewing other) o (renewals_by is next helds)) (s || fold (is_renewed_by other) c (renewals_by is next helds)) dying
  renewals_life next [] low lives alive o c e unclosed = e
  renewals_life next (held ∷ more) low lives alive o c e unclosed = one_more is
      (λ cs. life_after_changes st m alive cs other ≡ is_live_by (fold (head_after_change heads renewing other) o cs) (s || fold (is_renewed_by other) c cs) dying) next held more
      (λ is_so.
      let above : next ≤ other → (s || (held.number == other || c)) ≡ false = (λ high. ap (λ b. s || (b || c)) (ne_eqb held.number other (λ same. let under = low.0 in omega (arith, under, same, high))) ∙ unclosed high) in
      renewals_life (next + 1) more (lower next more low.1) lives.1 (life_after_change st m alive (Renewed held.number next))
      (cond (next == other) (option_map renewing (heads held.number)) o) (held.number == other || c)
      ((λ k. cond (eqb-sym other next k) true (cond (eqb-sym other held.number k) false (alive other)))
      ∙ renewal_life (next == other) (held.number == other) o (option_map renewing (heads held.number)) s c dying (alive other) e (λ new. above (let same = eqb-true next other new in omega (arith, same))) lives.0)
      (λ high. above (omega (arith, high))))
      (λ not_so. renewals_life next more low.1 lives.1 alive o c e unclosed)

-- ---- every entry

calm_mute : (changes : List Change) → Each IsNoRenewal changes → AreMute changes
calm_mute [] calm = tt
calm_mute (c ∷ changes) calm = (mute_of c calm.0, calm_mute changes calm.1)

pub quiet_calm : (changes : List Change) → AreQuiet changes → Each IsNoRenewal changes
quiet_calm [] x = tt
quiet_calm (c ∷ changes) x = (quiet_no_renewal c x.0, quiet_calm changes x.1)

pub exec_calm : (binary : List ℕ) (space : ℕ) (inherit : Bool) → Each IsNoRenewal (Execed binary space ∷ policy_changes inherit binary)
exec_calm binary space true = (tt, tt)
exec_calm binary space false = (tt, (tt, tt))

module _ (i : Input) (st : State) (inv : Invariant i st) (owned : LiveNumbersAreOwn st) (other : ℕ) where
  abbrev heads : ℕ → Option Head
  heads q = (st.messages q).head

  abbrev closed : Bool
  closed = (st.messages other).closed

  abbrev dying : ℕ → Bool
  dying t = (st.threads t).dying

  -- ---- a call that is held

  module _ (u p : ℕ) (call : SysCall) (regs : List ℕ) (y : IsEntered i st u call regs (Held p)) where
    abbrev own_head : Head
    own_head = new_head i u (st.threads u).owner (process_in st u) (st.versions (process_in st u).policy) call regs

    held_life : (b : Bool) → (p == other) ≡ b → is_live_by (cond b (Some own_head) (heads other)) closed dying ≡ cond b true (is_live st other)
    held_life true same = (λ k. not (inv.closed other (let is = eqb-true p other same in let drawn : p ≡ suc st.posted = y.way_is.1 in omega (arith, is, drawn)) k) && not (y.running.undying k))
    held_life false same = refl

    -- the next number is live, and each other number is as before
    pub entered_life : is_live (state_after i st (Entered u call regs (Held p))) other ≡ cond (other == p) true (is_live st other)
    entered_life = held_life (p == other) refl ∙ ap (λ b. cond b true (is_live st other)) (eqb-sym p other)

  -- ---- held calls

  abbrev helds : List HeldCall
  helds = held_from st 1 (thread_count i)

  item_low : (held : HeldCall) → IsItem st held → IsLow (suc st.posted) held
  item_low held x = let low = (open_of i st inv held.tid x.holder).low in let same = ap number_of x.is in omega (arith, low, same) where
    number_of : HeldCall → ℕ
    number_of each = each.number

  -- a held call lives on under its new number, if a renewal keeps the thread of a head
  item_lives : (m : ℕ) (is : HeldCall → Bool) (processes : ℕ → Process) (versions : List ℕ → ℕ) (s : Bool) (held : HeldCall) → IsItem st held → LivesOn st m is heads (renewed_head processes versions) dying other s held
  item_lives m is processes versions s held x =
      let is_open : IsOpen st held.tid x.holder.entered.call x.holder.entered.regs = open_of i st inv held.tid x.holder in
      ap (λ (c : HeldCall). is_live_by (option_map (renewed_head processes versions) (heads c.number)) false dying) x.is
      ∙ ap (λ o. is_live_by (option_map (renewed_head processes versions) o) false dying) is_open.posted
      ∙ ap not (ap dying is_open.own.tid_is ∙ x.holder.undying)

  -- ---- a reload

  module _ (u n : ℕ) where
    abbrev m_of : ℕ
    m_of = (st.threads u).owner

    done_life : is_live (state_after i st (Reloaded u n true (reload_changes i st n true))) other ≡ life_after_changes st m_of (is_live st) (reload_changes i st n true) other
    done_life =
        let after : State = state_after i st (Reloaded u n true (reload_changes i st n true)) in
        let is : HeldCall → Bool = is_held_under i st n in
        (λ k. is_live_by (after.messages other).head (after.messages other).closed
        (λ t. renewals_same is (dying_after_change t (st.threads t).owner u m_of) (λ b old fresh. refl) (dying t) (suc st.posted) helds k))
        ∙ sym (renewals_life st m_of is heads (renewed_head after.processes after.versions) dying other false (suc st.posted) helds
        (each_held (IsItem st) (IsLow (suc st.posted)) item_low helds (items st 1 (thread_count i)))
        (each_held (IsItem st) (LivesOn st m_of is heads (renewed_head after.processes after.versions) dying other false) (item_lives m_of is after.processes after.versions false) helds (items st 1 (thread_count i)))
        (is_live st) (heads other) closed refl (λ high. inv.closed other (omega (arith, high))))

    reload_life : (b : Bool) → is_live (state_after i st (Reloaded u n b (reload_changes i st n b))) other ≡ life_after_changes st m_of (is_live st) (reload_changes i st n b) other
    reload_life true = done_life
    reload_life false = refl

  -- which numbers are live after a reload
  pub reloaded_is : (u n : ℕ) (b : Bool) (changes : List Change) → IsReloaded i st u n b changes → is_live (state_after i st (Reloaded u n b changes)) other ≡ life_after_changes st (st.threads u).owner (is_live st) changes other
  reloaded_is u n b changes y = subst (λ cs. is_live (state_after i st (Reloaded u n b cs)) other ≡ life_after_changes st (st.threads u).owner (is_live st) cs other) (sym y.changes_are) (reload_life u n b)

  -- ---- a call that is made

  module _ (u : ℕ) (seq : Option ℕ) (call : SysCall) (regs : List ℕ) (args : List ArgText) (ids : Ids) (result : CallResult) (changes : List Change) (y : IsUsed i st u seq call regs args ids result changes) where
    abbrev made : Entry
    made = Used u seq call regs args ids result changes

    abbrev own : ℕ
    own = (st.threads u).owner

    abbrev renewing_by : Head → Head
    renewing_by = renewed_head (λ p. process_after st.processes own p changes) st.versions

    abbrev is_its : Bool
    is_its = is_number other seq

    start_life : life_without st seq other ≡ is_live_by (heads other) (is_its || closed) dying
    start_life = sym (closed_life is_its closed (heads other) dying)

    -- the caller has no live number but that of the call
    caller_life : (head : Head) → heads other ≡ Some head → (u == head.tid) ≡ true → (not (is_its || closed) && not (dying head.tid)) ≡ false
    caller_life head posted same = false_from_ne_true (not (is_its || closed) && not (dying head.tid)) (λ live.
        let parts = and_parts (not (is_its || closed)) (not (dying head.tid)) live in
        let open_parts = or_parts is_its closed (not_so (is_its || closed) parts.0) in
        let holding : IsHolding st head.tid other = owned.own other head (lives_by st other head posted open_parts.1 (not_so (dying head.tid) parts.1)) posted in
        true≢false (sym (used_number i st u other (subst (λ t. IsHolding st t other) (sym (eqb-true u head.tid same)) holding) seq call regs args ids result changes y) ∙ open_parts.0))

    calm_by : Each IsNoRenewal changes → (o : Option Head) → heads other ≡ o → is_live_by o (is_its || closed) (λ t. dying_after t (st.threads t).owner u own (dying t) changes) ≡ life_after_changes st own (life_without st seq) changes other
    calm_by calm None posted = sym (headless st u other posted changes calm (life_without st seq) (start_life ∙ ap (λ o. is_live_by o (is_its || closed) dying) posted))
    calm_by calm (Some head) posted = sym (calm_life st u other head posted changes calm (life_without st seq) (is_its || closed) (dying head.tid)
        (start_life ∙ ap (λ o. is_live_by o (is_its || closed) dying) posted) (caller_life head posted))

    calm_used : Each IsNoRenewal changes → is_live (state_after i st made) other ≡ life_after st made other
    calm_used calm =
        (λ k. is_live_by (head_mute heads renewing_by other changes (calm_mute changes calm) k) (is_its || renewed_mute other closed changes (calm_mute changes calm) k) (λ t. dying_after t (st.threads t).owner u own (dying t) changes))
        ∙ calm_by calm (heads other) refl

    renewed_used : (set : Ids) → changes ≡ SetIds set ∷ renewals own u (suc st.posted) helds → is_live (state_after i st made) other ≡ life_after st made other
    renewed_used set e =
        (λ k. is_live_by (fold (head_after_change heads renewing_by other) (heads other) (e k)) (is_its || fold (is_renewed_by other) closed (e k)) (λ t. dying_after t (st.threads t).owner u own (dying t) (e k)))
        ∙ (λ k. is_live_by (fold (head_after_change heads renewing_by other) (heads other) (renewals own u (suc st.posted) helds)) (is_its || fold (is_renewed_by other) closed (renewals own u (suc st.posted) helds))
        (λ t. renewals_same (is_other_of own u) (dying_after_change t (st.threads t).owner u own) (λ b old fresh. refl) (dying t) (suc st.posted) helds k))
        ∙ sym (renewals_life st own (is_other_of own u) heads renewing_by dying other is_its (suc st.posted) helds
        (each_held (IsItem st) (IsLow (suc st.posted)) item_low helds (items st 1 (thread_count i)))
        (each_held (IsItem st) (LivesOn st own (is_other_of own u) heads renewing_by dying other is_its) (item_lives own (is_other_of own u) (λ p. process_after st.processes own p changes) st.versions is_its) helds (items st 1 (thread_count i)))
        (life_after_change st own (life_without st seq) (SetIds set)) (heads other) closed start_life
        (λ high. (λ k. not_closed_above st u other seq (used_keeps i st inv u seq call regs args ids result changes y).open_seq (omega (arith, high)) k || closed) ∙ inv.closed other (omega (arith, high))))
        ∙ ap (λ cs. life_after_changes st own (life_without st seq) cs other) (sym e)

    used_by : Shape (system_of i st) (request_of i st u regs args ids) call changes → is_live (state_after i st made) other ≡ life_after st made other
    used_by (quiet x) = calm_used (quiet_calm changes x)
    used_by (forked is e) = calm_used (subst (Each IsNoRenewal) (sym e) (tt, tt))
    used_by (execed binary e) = calm_used (subst (Each IsNoRenewal) (sym e) (exec_calm binary st.next_space i.options.inherit))
    used_by (renewed set sets e) = renewed_used set e

    pub used_life : is_live (state_after i st made) other ≡ life_after st made other
    used_life = used_by (used_shape i st u call regs args ids result changes seq y)

  -- which numbers are live after a lawful entry
  pub life_later : (e : Entry) → IsLawful i st e → is_live (state_after i st e) other ≡ life_after st e other
  life_later (Entered u call regs Fast) y = refl
  life_later (Entered u call regs Untraced) y = refl
  life_later (Entered u call regs (Barred n)) y = refl
  life_later (Entered u call regs (Held p)) y = entered_life u p call regs y
  life_later (Used u seq call regs args ids result changes) y = used_life u seq call regs args ids result changes y
  life_later (Reloaded u n b changes) y = reloaded_is u n b changes y
  life_later (Denied u seq errno cause) y = closed_life (is_number other seq) closed (heads other) dying
  life_later _ y = refl
