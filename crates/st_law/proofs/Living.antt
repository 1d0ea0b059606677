-- A number is live exactly from the entry that posts it until an entry closes it or leaves its thread dying.
use native.Mathlib.Omega.{arith}
use Rattle.std.proofs.Common.{◌≡◌, ◌≤◌, ◌<◌, ◌⊎◌, ℕ, suc, ◌+◌, leb, Bool, true, false, not, ◌==◌, List, [], ◌∷◌, ◌++◌, fold, Option, Some, None, option_map, refl, sym, ap, subst, ◌∙◌, inl, inr}
use Rattle.std.proofs.lemmas.Bool.{eqb-true, eqb-false, and_parts, true≢false, false_from_ne_true}
use Rattle.std.proofs.lemmas.Bool.Decides.{leb_tells}
use Rattle.st_base.specs.declared.ids.Ids.{Ids}
use Rattle.st_calls.specs.declared.argument.ArgText.{ArgText}
use Rattle.st_calls.specs.declared.call.SysCall.{SysCall}
use Rattle.st_effects.specs.Changes.{dying_after_change, process_after}
use Rattle.st_effects.specs.Processes.{is_other_of, policy_changes, renewals, renewals_by}
use Rattle.st_effects.specs.System.{HeldCall}
use Rattle.st_trace.specs.declared.entry.CallResult.{CallResult}
use Rattle.st_trace.specs.declared.entry.Change.{Change}
use Rattle.st_trace.specs.declared.entry.Change.TheVariants.{Execed, SetIds, Renewed}
use Rattle.st_trace.specs.declared.entry.Entry.{Entry}
use Rattle.st_trace.specs.declared.entry.Entry.TheVariants.{Entered, Used, Reloaded}
use Rattle.st_trace.specs.declared.entry.Way.TheVariants.{Held}
use Rattle.st_law.specs.declared.input.Input.{Input}
use Rattle.st_law.specs.Entries.{Closes, LeavesDying, LivesSince, Posts, RenewsTo}
use Rattle.st_law.specs.History.{looking_back}
use Rattle.st_law.specs.Inputs.{IsStartable}
use Rattle.st_law.specs.Lawful.{IsLawful, IsLawfulBack, IsUsed}
use Rattle.st_law.specs.Messages.{Head, head_after_change, head_at, is_closed_at, new_head, posted_at, renewed_head}
use Rattle.st_law.specs.Splits.{NoneTouches, SomeIn}
use Rattle.st_law.specs.State.{State, held_from, is_held_under, reload_changes, is_live, is_live_by, process_in, request_of, system_of, thread_count}
use Rattle.st_law.specs.Threads.{History, is_dying_at}
use Rattle.st_law.proofs.HeldCalls.{IsItem, items}
use Rattle.st_law.proofs.Invariant.{IsOpen, Invariant}
use Rattle.st_law.proofs.MessageHistory as messages
use Rattle.st_law.proofs.Moves.{Moves, moves}
use Rattle.st_law.proofs.Preserved.{UsedKeeps, used_keeps}
use Rattle.st_law.proofs.RenewalKept.{unclosed_fresh}
use Rattle.st_law.proofs.HeldRenewals.{open_of}
use Rattle.st_law.proofs.ReloadKept.{done_unclosed}
use Rattle.st_law.proofs.Renewals.{EachHeld, head_below, one_more, renewals_same}
use Rattle.st_law.proofs.Shapes.{IsQuiet, AreQuiet, Shape, quiet, forked, execed, renewed}
use Rattle.st_law.proofs.Splitting.{kept_later, when_same}
use Rattle.st_law.proofs.ThreadHistory as threads
use Rattle.st_law.proofs.UsedShapes.{used_shape}
use Rattle.st_law.proofs.Whole.{Whole, whole_of}

-- ---- a live number was posted, and no entry since then closed it or left its thread dying

number_is_or_not : (m n : ℕ) → (m ≡ n) ⊎ (m ≡ n → ⊥)
number_is_or_not m n = by (m == n) refl where
  by : (b : Bool) → (m == n) ≡ b → (m ≡ n) ⊎ (m ≡ n → ⊥)
  by true e = inl (eqb-true m n e)
  by false e = inr (eqb-false m n e)

one_or_later : (A B : Type 0) → A ⊎ (A → ⊥) → B ⊎ (B → ⊥) → (A ⊎ B) ⊎ (A ⊎ B → ⊥)
one_or_later A B (inl x) later = inl (inl x)
one_or_later A B (inr none) (inl x) = inl (inr x)
one_or_later A B (inr none) (inr nor) = inr neither where
  neither : A ⊎ B → ⊥
  neither (inl x) = none x
  neither (inr x) = nor x

renews_or_not : (q : ℕ) (c : Change) → RenewsTo q c ⊎ (RenewsTo q c → ⊥)
renews_or_not q (Renewed old new) = number_is_or_not new q
renews_or_not q _ = inr (λ x. x)

some_or_none : (q : ℕ) (changes : List Change) → SomeIn (RenewsTo q) changes ⊎ (SomeIn (RenewsTo q) changes → ⊥)
some_or_none q [] = inr (λ x. x)
some_or_none q (c ∷ changes) = one_or_later (RenewsTo q c) (SomeIn (RenewsTo q) changes) (renews_or_not q c) (some_or_none q changes)

posts_or_not : (q : ℕ) (e : Entry) (h : History) → Posts q e h ⊎ (Posts q e h → ⊥)
posts_or_not q (Entered t call regs (Held p)) h = number_is_or_not p q
posts_or_not q (Used u seq call regs args ids result changes) h = some_or_none q changes
posts_or_not q (Reloaded u n done changes) h = some_or_none q changes
posts_or_not q _ h = inr (λ x. x)

false_before : (before new : Bool) → (before ≡ true → new ≡ true) → new ≡ false → before ≡ false
false_before before new stays e = false_from_ne_true before (λ up. true≢false (sym (stays up) ∙ e))

never : (b : Bool) (A : Type 0) → b ≡ false → (A → b ≡ true) → A → ⊥
never b A e up x = true≢false (sym (up x) ∙ e)

module _ (i : Input) (q : ℕ) (head : Head) where
  -- one more entry, by whether it posts the number
  since_by : (e : Entry) (h : History) → head_at i (e ∷ h) q ≡ Some head → is_closed_at (e ∷ h) q ≡ false → is_dying_at i (e ∷ h) head.tid ≡ false
      → (head_at i h q ≡ Some head → is_closed_at h q ≡ false → is_dying_at i h head.tid ≡ false → LivesSince i q head h)
      → Posts q e h ⊎ (Posts q e h → ⊥) → LivesSince i q head (e ∷ h)
  since_by e h posted unclosed undying deeper (inl posts) =
      record { later = []; entry = e; earlier = h; split = refl; posts = posts; posted = posted; unclosed = tt; undying = tt }
  since_by e h posted unclosed undying deeper (inr none) =
      let x : LivesSince i q head h = deeper (sym (messages.head_step i q e h none) ∙ posted)
      (false_before (is_closed_at h q) (is_closed_at (e ∷ h) q) (messages.closed_stays q e h) unclosed)
      (false_before (is_dying_at i h head.tid) (is_dying_at i (e ∷ h) head.tid) (threads.dying_stays i head.tid e h) undying) in record {
        later = e ∷ x.later;
        entry = x.entry;
        earlier = x.earlier;
        split = ap (λ rest. e ∷ rest) x.split;
        posts = x.posts;
        posted = x.posted;
        unclosed = (subst (λ rest. Closes q e rest → ⊥) x.split (never (is_closed_at (e ∷ h) q) (Closes q e h) unclosed (messages.closed_up q e h)), x.unclosed);
        undying = (subst (λ rest. LeavesDying i head.tid e rest → ⊥) x.split (never (is_dying_at i (e ∷ h) head.tid) (LeavesDying i head.tid e h) undying (threads.dying_up i head.tid e h)), x.undying);
      }

  since_with : (h : History) → head_at i h q ≡ Some head → is_closed_at h q ≡ false → is_dying_at i h head.tid ≡ false → LivesSince i q head h
  since_with [] posted unclosed undying = cc
  since_with (e ∷ h) posted unclosed undying = since_by e h posted unclosed undying (since_with h) (posts_or_not q e h)

not_so : (b : Bool) → not b ≡ true → b ≡ false
not_so true e = cc
not_so false e = refl

pub since : (i : Input) (h : History) (q : ℕ) → is_live (looking_back i h) q ≡ true → (head : Head) × LivesSince i q head h
since i h q live = by (head_at i h q) refl live where
  by : (o : Option Head) → head_at i h q ≡ o → is_live_by o (is_closed_at h q) (is_dying_at i h) ≡ true → (head : Head) × LivesSince i q head h
  by None posted x = cc
  by (Some head) posted x =
      let parts : (not (is_closed_at h q) ≡ true) × (not (is_dying_at i h head.tid) ≡ true) = and_parts (not (is_closed_at h q)) (not (is_dying_at i h head.tid)) x in
      (head, since_with i q head h posted (not_so (is_closed_at h q) parts.0) (not_so (is_dying_at i h head.tid) parts.1))

-- ---- a renewed number is one that a thread holds

quiet_renews : (q : ℕ) (c : Change) → IsQuiet c → RenewsTo q c → ⊥
quiet_renews q (Renewed old new) x y = x
quiet_renews q _ x y = y

none_renewed : (q : ℕ) (changes : List Change) → AreQuiet changes → SomeIn (RenewsTo q) changes → ⊥
none_renewed q [] x y = y
none_renewed q (c ∷ changes) x (inl y) = quiet_renews q c x.0 y
none_renewed q (c ∷ changes) x (inr y) = none_renewed q changes x.1 y

alone : (A B : Type 0) → (A → ⊥) → A ⊎ B → B
alone A B none (inl x) = absurd (none x)
alone A B none (inr x) = x

exec_renews : (q : ℕ) (binary : List ℕ) (space : ℕ) (inherit : Bool) → SomeIn (RenewsTo q) (Execed binary space ∷ policy_changes inherit binary) → ⊥
exec_renews q binary space true (inl x) = x
exec_renews q binary space true (inr x) = x
exec_renews q binary space false (inl x) = x
exec_renews q binary space false (inr x) = alone ⊥ ⊥ (λ y. y) x

module _ (is : HeldCall → Bool) (q : ℕ) where
  -- new numbers are at least the first one that is drawn
  drawn_high : (next : ℕ) (helds : List HeldCall) → SomeIn (RenewsTo q) (renewals_by is next helds) → next ≤ q
  drawn_high next [] = λ x. absurd x
  drawn_high next (held ∷ more) = one_more is (λ cs. SomeIn (RenewsTo q) cs → next ≤ q) next held more (λ is_so. first (drawn_high (next + 1) more)) (λ not_so. drawn_high next more) where
    first : {A : Type 0} → (A → next + 1 ≤ q) → (next ≡ q) ⊎ A → next ≤ q
    first later (inl x) = omega (arith, x)
    first later (inr x) = let high = later x in omega (arith, high)

  module _ (heads : ℕ → Option Head) (renewing : Head → Head) (P : HeldCall → Type 0) where
    -- the head of this number is the renewed head of one of the held calls
    abbrev HasRenewed : Option Head → List Change → Type 0
    HasRenewed before changes = (held : HeldCall) × P held × (fold (head_after_change heads renewing q) before changes ≡ option_map renewing (heads held.number))

    renewed_of : (next : ℕ) (helds : List HeldCall) → EachHeld P helds → (before : Option Head) → SomeIn (RenewsTo q) (renewals_by is next helds) → HasRenewed before (renewals_by is next helds)
    renewed_of next [] each before = λ x. absurd x
    renewed_of next (held ∷ more) each before = one_more is (λ cs. SomeIn (RenewsTo q) cs → HasRenewed before cs) next held more
        (λ is_so. first (renewed_of (next + 1) more each.1)) (λ not_so. renewed_of next more each.1 before) where
          first : ((start : Option Head) → SomeIn (RenewsTo q) (renewals_by is (next + 1) more) → HasRenewed start (renewals_by is (next + 1) more))
              → (next ≡ q) ⊎ SomeIn (RenewsTo q) (renewals_by is (next + 1) more) → HasRenewed before (Renewed held.number next ∷ renewals_by is (next + 1) more)
          first later (inl x) = (
            held,
            each.0,
            ap (λ o. fold (head_after_change heads renewing q) o (renewals_by is (next + 1) more)) (when_same next q (option_map renewing (heads held.number)) before x)
                ∙ head_below is heads renewing q (option_map renewing (heads held.number)) (next + 1) more (omega (arith, x)),
          )
          first later (inr x) = later (head_after_change heads renewing q before (Renewed held.number next)) x

-- the thread of a renewed number isn't dying, if a renewal keeps the thread of a head
module _ (i : Input) (st : State) (inv : Invariant i st) (is : HeldCall → Bool) (q : ℕ) (renewing : Head → Head) (keeps : (head : Head) → (renewing head).tid ≡ head.tid) where
  abbrev heads_in : ℕ → Option Head
  heads_in p = (st.messages p).head

  abbrev held_in : List HeldCall
  held_in = held_from st 1 (thread_count i)

  abbrev renewed_in : List Change
  renewed_in = renewals_by is (suc st.posted) held_in

  -- a head of a thread's open call, renewed or not, is that thread's
  tid_of : (own : Head) (o : Option Head) (head : Head) → o ≡ Some own → Some head ≡ option_map renewing o → head.tid ≡ own.tid
  tid_of own o head e f = by (f ∙ ap (option_map renewing) e) where
    by : Some head ≡ Some (renewing own) → head.tid ≡ own.tid
    by g = ap (λ x. tid_in head.tid x) g ∙ keeps own where
      tid_in : ℕ → Option Head → ℕ
      tid_in other None = other
      tid_in other (Some found) = found.tid

  renewed_undying : (head : Head) → fold (head_after_change heads_in renewing q) (heads_in q) renewed_in ≡ Some head
      → SomeIn (RenewsTo q) renewed_in → (st.threads head.tid).dying ≡ false
  renewed_undying head posted some =
      let x = renewed_of is q heads_in renewing (IsItem st) (suc st.posted) held_in (items st 1 (thread_count i)) (heads_in q) some in
      let held : HeldCall = x.0 in
      let is_open : IsOpen st held.tid x.1.holder.entered.call x.1.holder.entered.regs = open_of i st inv held.tid x.1.holder in
      let tid : head.tid ≡ is_open.head.tid = tid_of is_open.head (heads_in held.number) head (ap (λ call. heads_in call.number) x.1.is ∙ is_open.posted) (sym posted ∙ x.2) in
      ap (λ t. (st.threads t).dying) (tid ∙ is_open.own.tid_is) ∙ x.1.holder.undying

-- ---- a posted number is live

module _ (i : Input) (st : State) (inv : Invariant i st) (u : ℕ) (seq : Option ℕ) (call : SysCall) (regs : List ℕ) (args : List ArgText) (ids : Ids) (result : CallResult) (q : ℕ) where
  abbrev m : ℕ
  m = (st.threads u).owner

  abbrev helds : List HeldCall
  helds = held_from st 1 (thread_count i)

  -- ids are set, and other held calls renewed
  abbrev Renews : List Change → Type 0
  Renews changes = (set : Ids) × (changes ≡ SetIds set ∷ renewals m u (suc st.posted) helds)

  shape_renews : (changes : List Change) → SomeIn (RenewsTo q) changes → Shape (system_of i st) (request_of i st u regs args ids) call changes → Renews changes
  shape_renews changes some (quiet x) = absurd (none_renewed q changes x some)
  shape_renews changes some (forked is e) = absurd (alone ⊥ ⊥ (λ y. y) (subst (SomeIn (RenewsTo q)) e some))
  shape_renews changes some (execed binary e) = absurd (exec_renews q binary st.next_space i.options.inherit (subst (SomeIn (RenewsTo q)) e some))
  shape_renews changes some (renewed set sets e) = (set, e)

  used_renews : (changes : List Change) → SomeIn (RenewsTo q) changes → IsUsed i st u seq call regs args ids result changes → Renews changes
  used_renews changes some x = shape_renews changes some (used_shape i st u call regs args ids result changes seq x)

  module _ (set : Ids) where
    abbrev changes : List Change
    changes = SetIds set ∷ renewals m u (suc st.posted) helds

    -- what the call makes of a renewed head
    abbrev renewing : Head → Head
    renewing = renewed_head (λ p. process_after st.processes m p changes) st.versions

    dying_same : (t : ℕ) → fold (dying_after_change t (st.threads t).owner u m) (st.threads t).dying changes ≡ (st.threads t).dying
    dying_same t = renewals_same (is_other_of m u) (dying_after_change t (st.threads t).owner u m) (λ b old fresh. refl) (st.threads t).dying (suc st.posted) helds

module _ (i : Input) (q : ℕ) (head : Head) where
  -- after an entry a number is open, and its thread isn't dying
  abbrev IsFresh : Entry → History → Type 0
  IsFresh e h = (is_closed_at (e ∷ h) q ≡ false) × (is_dying_at i (e ∷ h) head.tid ≡ false)

  module _ (h : History) (whole : Whole i (looking_back i h)) where
    abbrev now : State
    now = looking_back i h

    held_fresh : (t p : ℕ) (call : SysCall) (regs : List ℕ) → IsLawful i now (Entered t call regs (Held p)) → p ≡ q → head_at i (Entered t call regs (Held p) ∷ h) q ≡ Some head → IsFresh (Entered t call regs (Held p)) h
    held_fresh t p call regs y same posted =
        let own : Head = new_head i t (now.threads t).owner (process_in now t) (now.versions (process_in now t).policy) call regs in
        let is : Some own ≡ Some head = sym (when_same p q (Some own) (head_at i h q) same) ∙ posted in
        let drawn : p ≡ suc (posted_at h) = y.way_is.1 in
        (whole.calls.closed q (omega (arith, same, drawn)), ap (is_dying_at i h) (tid_is own is) ∙ y.running.undying)
      where
        tid_in : Option Head → ℕ
        tid_in None = 0
        tid_in (Some found) = found.tid

        tid_is : (own : Head) → Some own ≡ Some head → head.tid ≡ own.tid
        tid_is own e = sym (ap tid_in e)

    module _ (u : ℕ) (seq : Option ℕ) (call : SysCall) (regs : List ℕ) (args : List ArgText) (ids : Ids) (result : CallResult) where
      -- by the changes of the call
      abbrev IfPosted : List Change → Type 0
      IfPosted cs = SomeIn (RenewsTo q) cs → head_at i (Used u seq call regs args ids result cs ∷ h) q ≡ Some head → IsFresh (Used u seq call regs args ids result cs) h

      renewed_fresh : (set : Ids) → UsedKeeps i now whole.calls u seq call regs args ids result (changes i now whole.calls u seq call regs args ids result q set) → IfPosted (changes i now whole.calls u seq call regs args ids result q set)
      renewed_fresh set kept some posted =
          let is : HeldCall → Bool = is_other_of (now.threads u).owner u in
          let y = alone ⊥ (SomeIn (RenewsTo q) (renewals (now.threads u).owner u (suc now.posted) (held_from now 1 (thread_count i)))) (λ x. x) some in (
            unclosed_fresh i now whole.calls u seq kept.open_seq call regs args ids result set q (drawn_high is q (suc now.posted) (held_from now 1 (thread_count i)) y),
            dying_same i now whole.calls u seq call regs args ids result q set head.tid
                ∙ renewed_undying i now whole.calls is q (renewing i now whole.calls u seq call regs args ids result q set) (λ each. refl) head posted y,
          )

      used_fresh : (cs : List Change) → IsLawful i now (Used u seq call regs args ids result cs) → IfPosted cs
      used_fresh cs y some =
          let x : Renews i now whole.calls u seq call regs args ids result q cs = used_renews i now whole.calls u seq call regs args ids result q cs some y in
          let kept : UsedKeeps i now whole.calls u seq call regs args ids result cs = used_keeps i now whole.calls u seq call regs args ids result cs y in
          subst IfPosted (sym x.1) (renewed_fresh x.0 (subst (UsedKeeps i now whole.calls u seq call regs args ids result) x.1 kept)) some

    reloaded_fresh : (u n : ℕ) (done : Bool) → SomeIn (RenewsTo q) (reload_changes i now n done) → head_at i (Reloaded u n done (reload_changes i now n done) ∷ h) q ≡ Some head → IsFresh (Reloaded u n done (reload_changes i now n done)) h
    reloaded_fresh u n false some posted = absurd some
    reloaded_fresh u n true some posted =
        let is : HeldCall → Bool = is_held_under i now n in
        let helds : List HeldCall = held_from now 1 (thread_count i) in
        let after : State = looking_back i (Reloaded u n true (reload_changes i now n true) ∷ h) in (
          done_unclosed i now whole.calls u n q (drawn_high is q (suc now.posted) helds some),
          renewals_same is (dying_after_change head.tid (now.threads head.tid).owner u (now.threads u).owner) (λ b old fresh. refl) (now.threads head.tid).dying (suc now.posted) helds
              ∙ renewed_undying i now whole.calls is q (renewed_head after.processes after.versions) (λ each. refl) head posted some,
        )

    -- a number is live after the entry that posts it
    fresh : (e : Entry) → IsLawful i now e → Posts q e h → head_at i (e ∷ h) q ≡ Some head → IsFresh e h
    fresh (Entered t call regs (Held p)) y posts posted = held_fresh t p call regs y posts posted
    fresh (Used u seq call regs args ids result cs) y posts posted = used_fresh u seq call regs args ids result cs y posts posted
    fresh (Reloaded u n done cs) y posts posted =
        subst (λ changes. SomeIn (RenewsTo q) changes → head_at i (Reloaded u n done changes ∷ h) q ≡ Some head → IsFresh (Reloaded u n done changes) h) (sym y.changes_are) (reloaded_fresh u n done) posts posted
    fresh _ y posts posted = absurd posts

-- ---- the number stays live while no later entry closes it or leaves its thread dying

kept_flag : (new old : Bool) (A : Type 0) → (new ≡ true → A ⊎ (old ≡ true)) → (old ≡ true → new ≡ true) → (A → ⊥) → new ≡ old
kept_flag true old A only stays none = by (only refl) where
  by : A ⊎ (old ≡ true) → true ≡ old
  by (inl x) = absurd (none x)
  by (inr e) = sym e
kept_flag false true A only stays none = stays refl
kept_flag false false A only stays none = refl

closed_kept : (q : ℕ) (e : Entry) (h : History) → (Closes q e h → ⊥) → is_closed_at (e ∷ h) q ≡ is_closed_at h q
closed_kept q e h none = kept_flag (is_closed_at (e ∷ h) q) (is_closed_at h q) (Closes q e h) (messages.closed_only q e h) (messages.closed_stays q e h) none

dying_kept : (i : Input) (t : ℕ) (e : Entry) (h : History) → (LeavesDying i t e h → ⊥) → is_dying_at i (e ∷ h) t ≡ is_dying_at i h t
dying_kept i t e h none = kept_flag (is_dying_at i (e ∷ h) t) (is_dying_at i h t) (LeavesDying i t e h) (threads.dying_only i t e h) (threads.dying_stays i t e h) none

module _ (i : Input) (startable : IsStartable i) (q : ℕ) (head : Head) where
  -- a number was posted, and keeps its head
  pub record Stays (h : History) : Type 0 where
    pub low : q ≤ posted_at h
    pub posted : head_at i h q ≡ Some head

  low_of : (h : History) → Whole i (looking_back i h) → head_at i h q ≡ Some head → q ≤ posted_at h
  low_of h whole posted = by (leb_tells q (posted_at h)) where
    by : ((leb q (posted_at h) ≡ true) × (q ≤ posted_at h)) ⊎ ((leb q (posted_at h) ≡ false) × (posted_at h < q)) → q ≤ posted_at h
    by (inl x) = x.1
    by (inr x) = absurd (none (sym (whole.calls.heads q x.1) ∙ posted)) where
      none : None ≡ Some head → ⊥
      none e = cc

  head_stays : (later earlier : History) → IsLawfulBack i (later ++ earlier) → Stays earlier → Stays (later ++ earlier)
  head_stays [] earlier lawful x = x
  head_stays (e ∷ later) earlier lawful x =
      let y : Stays (later ++ earlier) = head_stays later earlier lawful.1 x in
      let moved : Moves (looking_back i (later ++ earlier)) (looking_back i (e ∷ (later ++ earlier))) =
      moves i (looking_back i (later ++ earlier)) (whole_of i startable (later ++ earlier) lawful.1).calls e lawful.0 in
      record { low = let low = y.low in let more = moved.posted in omega (arith, low, more); posted = moved.heads q y.low ∙ y.posted }

  following : (later earlier : History) → IsLawfulBack i (later ++ earlier) → IsLawfulBack i earlier
  following [] earlier lawful = lawful
  following (e ∷ later) earlier lawful = following later earlier lawful.1

  lives_at : (later earlier : History) (e : Entry) → IsLawfulBack i (later ++ e ∷ earlier) → Posts q e earlier → head_at i (e ∷ earlier) q ≡ Some head
      → NoneTouches (Closes q) later (e ∷ earlier) → NoneTouches (LeavesDying i head.tid) later (e ∷ earlier) → is_live (looking_back i (later ++ e ∷ earlier)) q ≡ true
  lives_at later earlier e lawful posts posted unclosed undying =
      let then : IsLawfulBack i (e ∷ earlier) = following later (e ∷ earlier) lawful in
      let first : IsFresh i q head e earlier = fresh i q head earlier (whole_of i startable earlier then.1) e then.0 posts posted in
      let x : Stays (later ++ e ∷ earlier) = head_stays later (e ∷ earlier) lawful (record { low = low_of (e ∷ earlier) (whole_of i startable (e ∷ earlier) then) posted; posted = posted }) in
      let closed : is_closed_at (later ++ e ∷ earlier) q ≡ false = kept_later (λ h. is_closed_at h q) (Closes q) (closed_kept q) later (e ∷ earlier) unclosed ∙ first.0 in
      let dying : is_dying_at i (later ++ e ∷ earlier) head.tid ≡ false = kept_later (λ h. is_dying_at i h head.tid) (LeavesDying i head.tid) (dying_kept i head.tid) later (e ∷ earlier) undying ∙ first.1 in
      (λ k. is_live_by (x.posted k) (closed k) (is_dying_at i (later ++ e ∷ earlier))) ∙ ap not dying

pub lives : (i : Input) → IsStartable i → (h : History) → IsLawfulBack i h → (q : ℕ) (head : Head) → LivesSince i q head h → is_live (looking_back i h) q ≡ true
lives i startable h lawful q head x = subst (λ rest. is_live (looking_back i rest) q ≡ true) (sym x.split)
    (lives_at i startable q head x.later x.earlier x.entry (subst (IsLawfulBack i) x.split lawful) x.posts x.posted x.unclosed x.undying)
