-- Each lawful entry lowers the steps left by at least one.
use native.Mathlib.Omega.{arith}
use Rattle.std.proofs.Common.{◌≡◌, ◌≢◌, ◌≤◌, ◌<◌, ℕ, suc, ◌+◌, ◌-◌, ◌*◌, Bool, true, false, cond, ◌||◌, ◌==◌, List, [], ◌∷◌, drop, Option, Some, None, refl, sym, ap, subst, inl, inr}
use Rattle.std.proofs.lemmas.Bool.{eq-eqb, or_left}
use Rattle.std.proofs.lemmas.List.{append-nil}
use Rattle.st_base.specs.declared.errno.Errno.{Errno}
use Rattle.st_base.specs.declared.ids.Ids.{Ids}
use Rattle.st_calls.specs.declared.argument.ArgText.{ArgText}
use Rattle.st_calls.specs.declared.call.SysCall.{SysCall}
use Rattle.st_trace.specs.declared.entry.CallResult.{CallResult}
use Rattle.st_trace.specs.declared.entry.Cause.{Cause}
use Rattle.st_trace.specs.declared.entry.Change.{Change}
use Rattle.st_trace.specs.declared.entry.Entry.{Entry}
use Rattle.st_trace.specs.declared.entry.Entry.TheVariants.{Stored, Entered, Used, Denied, Ended, Reloaded}
use Rattle.st_trace.specs.declared.entry.Way.{Way}
use Rattle.st_trace.specs.declared.entry.Way.TheVariants.{Fast, Barred, Held, Untraced}
use Rattle.st_trace.specs.declared.start.Instr.{Instr}
use Rattle.st_trace.specs.declared.start.Instr.TheVariants.{Reload}
use Rattle.std.specs.List.{All, fold}
use Rattle.st_law.specs.Messages.{posted_after_change}
use Rattle.st_law.specs.declared.input.Input.{Input}
use Rattle.st_law.specs.Inputs.{IsThread, IsInstruction}
use Rattle.st_law.specs.Lawful.{IsRunning, IsPending, IsStored, IsEntered, IsReloaded, IsEnded, IsUsed, IsDenied}
use Rattle.st_law.specs.Machine.{state_after}
use Rattle.st_calls.specs.Call.{sets_ids}
use Rattle.st_law.specs.State.{State, thread_count, progress_of_head, snapshot_of_progress, snapshot_in}
use Rattle.st_law.specs.Threads.{child_of_next}
use Rattle.st_law.proofs.Copies.{Copies}
use Rattle.st_law.proofs.Lowering.{KeepsVersions, messages_more, threads_drop, weight_of}
use Rattle.st_law.proofs.Moves.{Moves, moves}
use Rattle.st_law.proofs.Potential.{cost, call_cost, pending_cost, step_unless, thread_cost, messages_cost, replies_cost, steps_left}
use Rattle.st_law.proofs.UsedPosted.{PostsFew, used_posts, reload_posts}
use Rattle.st_law.proofs.Whole.{Whole}

module _ (i : Input) (st : State) (whole : Whole i st) (copies : Copies st) where
  -- after an entry at least one step less is left
  abbrev pub Lessens : Entry → Type 0
  Lessens e = steps_left i (state_after i st e) + 1 ≤ steps_left i st

  there : (t : ℕ) → (st.threads t).owner ≢ 0 → IsThread i t
  there t started = whole.calls.started t started

  drop_cost : (left : List Instr) → cost (drop 1 left) ≤ cost left
  drop_cost [] = omega arith
  drop_cost (x ∷ left) = omega arith

  -- ---- entries of threads

  -- if the steps left of a thread fall by more than those of the messages rise, fewer steps are left
  thread_less : (e : Entry) (u d more : ℕ) → (st.threads u).owner ≢ 0 → more < d → thread_cost ((state_after i st e).threads u) + d ≤ thread_cost (st.threads u) → ((t : ℕ) → (u == t) ≡ false → thread_cost ((state_after i st e).threads t) ≤ thread_cost (st.threads t)) → messages_cost i (state_after i st e) ≤ messages_cost i st + more → replies_cost i (state_after i st e) ≤ replies_cost i st → Lessens e
  thread_less e u d more started less lower others messages replies =
      let range = there u started in
      let low = range.0 in
      let high = range.1 in
      let threads = threads_drop i st (state_after i st e) u d low high lower others in
      omega (arith, threads, messages, replies, less)

  pub stored_less : (u place word : ℕ) → IsStored st u place word → Lessens (Stored u place word)
  stored_less u place word y = thread_less (Stored u place word) u 1 0 y.running.started (omega arith) lower others (omega arith) (omega arith) where
    own : cost (cond (u == u) (drop 1 (st.threads u).left) (st.threads u).left) + 10000 ≤ cost (st.threads u).left
    own = subst (λ b. cost (cond b (drop 1 (st.threads u).left) (st.threads u).left) + 10000 ≤ cost (st.threads u).left) (sym (eq-eqb u u refl))
        (subst (λ left. cost (drop 1 left) + 10000 ≤ cost left) (sym y.next) (omega arith))

    lower : thread_cost ((state_after i st (Stored u place word)).threads u) + 1 ≤ thread_cost (st.threads u)
    lower = let o = own in omega (arith, o)

    others : (t : ℕ) → (u == t) ≡ false → thread_cost ((state_after i st (Stored u place word)).threads t) ≤ thread_cost (st.threads t)
    others t e = let same : cost (cond (u == t) (drop 1 (st.threads t).left) (st.threads t).left) ≡ cost (st.threads t).left = ap (λ b. cost (cond b (drop 1 (st.threads t).left) (st.threads t).left)) e in omega (arith, same)

  -- ---- reloads

  module _ (u n : ℕ) (done : Bool) (changes : List Change) (y : IsReloaded i st u n done changes) where
    abbrev reloaded : State
    reloaded = state_after i st (Reloaded u n done changes)

    -- a run that learns has no reload
    pub unlearnt : KeepsVersions i st reloaded
    unlearnt learns = let body : All (IsInstruction i) (Reload n ∷ y.later) = subst (All (IsInstruction i)) y.next (whole.calls.bodies u) in
        let is : IsInstruction i (Reload n) = body 0 (Reload n) (omega arith) in absurd (is.1 learns)

    reloaded_lower : thread_cost (reloaded.threads u) + 650000 ≤ thread_cost (st.threads u)
    reloaded_lower = let own = subst (λ b. cost (cond b (drop 1 (st.threads u).left) (st.threads u).left) + 650000 ≤ cost (st.threads u).left) (sym (eq-eqb u u refl))
        (subst (λ left. cost (drop 1 left) + 650000 ≤ cost left) (sym y.next) (let low : cost y.later + 650000 ≤ 650000 + cost y.later = omega arith in low)) in omega (arith, own)

    reloaded_others : (t : ℕ) → (u == t) ≡ false → thread_cost (reloaded.threads t) ≤ thread_cost (st.threads t)
    reloaded_others t e = let same : cost (cond (u == t) (drop 1 (st.threads t).left) (st.threads t).left) ≡ cost (st.threads t).left = ap (λ b. cost (cond b (drop 1 (st.threads t).left) (st.threads t).left)) e in omega (arith, same)

    reloaded_less : thread_count i ≤ 64 → Moves st reloaded → Lessens (Reloaded u n done changes)
    reloaded_less few moved = thread_less (Reloaded u n done changes) u 650000 614720 y.running.started (omega arith) reloaded_lower reloaded_others
        (let low = moved.posted in
        let high : reloaded.posted ≤ st.posted + 64 = subst (λ cs. fold posted_after_change st.posted cs ≤ st.posted + 64) (sym y.changes_are) (reload_posts i st few n done) in
        let most = messages_more i st copies reloaded [] (sym (append-nil st.session)) unlearnt (reloaded.posted - st.posted) (omega (arith, low))
        (λ p from to. record { claimed = refl; taken_is = refl; turn = λ e. e; copies = λ k. snapshot_of_progress p (moved.heads p to k) (progress_of_head (moved.heads p to k) (st.messages p).words (st.messages p).lookups) }) in
        omega (arith, most, high, low)) (omega arith)

  pub after_reloaded : thread_count i ≤ 64 → (u n : ℕ) (done : Bool) (changes : List Change) → IsReloaded i st u n done changes → Moves st (state_after i st (Reloaded u n done changes)) → Lessens (Reloaded u n done changes)
  after_reloaded few u n done changes y moved = reloaded_less u n done changes y few moved

  -- ---- calls that are entered

  module _ (u : ℕ) (call : SysCall) (regs : List ℕ) (way : Way) (y : IsEntered i st u call regs way) where
    abbrev entered : State
    entered = state_after i st (Entered u call regs way)

    own_left : cost ((entered.threads u).left) + call_cost (sets_ids call) + 9999 ≤ cost (st.threads u).left
    own_left = let room = weight_of y.instruction call regs y.makes in
        subst (λ b. cost (cond b (drop 1 (st.threads u).left) (st.threads u).left) + call_cost (sets_ids call) + 9999 ≤ cost (st.threads u).left) (sym (eq-eqb u u refl))
        (subst (λ left. cost (drop 1 left) + call_cost (sets_ids call) + 9999 ≤ cost left) (sym y.next) (omega (arith, room)))

    own_pending : pending_cost (entered.threads u).pending ≡ call_cost (sets_ids call)
    own_pending = ap (λ b. pending_cost (cond b (Some (record { call = call; regs = regs; way = way; child = child_of_next (st.threads u).left })) (st.threads u).pending)) (eq-eqb u u refl)

    entered_lower : thread_cost (entered.threads u) + 9999 ≤ thread_cost (st.threads u)
    entered_lower = let a = own_left in let b = own_pending in omega (arith, a, b)

    entered_others : (t : ℕ) → (u == t) ≡ false → thread_cost (entered.threads t) ≤ thread_cost (st.threads t)
    entered_others t e =
        let a : cost (entered.threads t).left ≡ cost (st.threads t).left = ap (λ b. cost (cond b (drop 1 (st.threads t).left) (st.threads t).left)) e in
        let b : pending_cost (entered.threads t).pending ≡ pending_cost (st.threads t).pending = ap (λ b. pending_cost (cond b (Some (record { call = call; regs = regs; way = way; child = child_of_next (st.threads t).left })) (st.threads t).pending)) e in
        omega (arith, a, b)

    entered_less : messages_cost i entered ≤ messages_cost i st + 9605 → Lessens (Entered u call regs way)
    entered_less messages = thread_less (Entered u call regs way) u 9999 9605 y.running.started (omega arith) entered_lower entered_others messages (omega arith)

  -- the copies of a posted number are kept if its words and lookups are
  pub copies_stay : (new : State) → Moves st new → (p : ℕ) → p ≤ st.posted → (new.messages p).words ≡ (st.messages p).words → (new.messages p).lookups ≡ (st.messages p).lookups → snapshot_in new p ≡ snapshot_in st p
  copies_stay new moved p low words lookups = λ k. snapshot_of_progress p (moved.heads p low k) (progress_of_head (moved.heads p low k) (words k) (lookups k))

  pub after_entered : (u : ℕ) (call : SysCall) (regs : List ℕ) (way : Way) → IsEntered i st u call regs way → Lessens (Entered u call regs way)
  after_entered u call regs Fast y = entered_less u call regs Fast y (omega arith)
  after_entered u call regs Untraced y = entered_less u call regs Untraced y (omega arith)
  after_entered u call regs (Barred n) y = entered_less u call regs (Barred n) y (omega arith)
  after_entered u call regs (Held q) y = entered_less u call regs (Held q) y
      (let most = messages_more i st copies (state_after i st (Entered u call regs (Held q))) [] (sym (append-nil st.session)) (λ learns policy. refl) 1 (let e : suc st.posted ≡ st.posted + 1 = omega arith in e)
      (λ p from to. record { claimed = refl; taken_is = refl; turn = λ e. e; copies = copies_stay (state_after i st (Entered u call regs (Held q))) (moves i st whole.calls (Entered u call regs (Held q)) y) p to refl refl }) in
      omega (arith, most))

  -- ---- calls that are made or denied, and ends

  module _ (u : ℕ) (call : SysCall) (regs : List ℕ) (way : Way) (pending : IsPending st u call regs way) where
    had_pending : pending_cost (st.threads u).pending ≡ call_cost (sets_ids call)
    had_pending = ap pending_cost pending.1

    none_pending : pending_cost (cond (u == u) None (st.threads u).pending) ≡ 0
    none_pending = ap (λ b. pending_cost (cond b None (st.threads u).pending)) (eq-eqb u u refl)

  other_pending : (u t : ℕ) → (u == t) ≡ false → pending_cost (cond (u == t) None (st.threads t).pending) ≡ pending_cost (st.threads t).pending
  other_pending u t e = ap (λ b. pending_cost (cond b None (st.threads t).pending)) e

  call_some : (b : Bool) → 1 ≤ call_cost b
  call_some true = omega arith
  call_some false = omega arith

  denied_less : (u : ℕ) (seq : Option ℕ) (errno : Errno) (cause : Cause) (call : SysCall) (regs : List ℕ) (way : Way) → IsRunning st u → IsPending st u call regs way → Lessens (Denied u seq errno cause)
  denied_less u seq errno cause call regs way running pending = thread_less (Denied u seq errno cause) u 1 0 running.started (omega arith)
      (let had = had_pending u call regs way pending in let none = none_pending u call regs way pending in let some = call_some (sets_ids call) in omega (arith, had, none, some))
      (λ t e. let same = other_pending u t e in omega (arith, same)) (omega arith) (omega arith)

  pub ended_less : (u : ℕ) → IsEnded st u → Lessens (Ended u)
  ended_less u y = thread_less (Ended u) u 1 0 y.started (omega arith)
      (let a : step_unless (u == u || (st.threads u).ended) ≡ step_unless true = ap step_unless (or_left (u == u) (st.threads u).ended (eq-eqb u u refl)) in
      let b : step_unless (st.threads u).ended ≡ step_unless false = ap step_unless y.unended in omega (arith, a, b))
      (λ t e. let same : step_unless (u == t || (st.threads t).ended) ≡ step_unless (st.threads t).ended = ap (λ b. step_unless (b || (st.threads t).ended)) e in omega (arith, same)) (omega arith) (omega arith)

  -- ---- calls that are made

  module _ (few : thread_count i ≤ 64) (u : ℕ) (seq : Option ℕ) (call : SysCall) (regs : List ℕ) (args : List ArgText) (ids : Ids) (result : CallResult) (changes : List Change) where
    abbrev used : State
    used = state_after i st (Used u seq call regs args ids result changes)

    used_messages : Moves st used → (count : ℕ) → used.posted ≡ st.posted + count → messages_cost i used ≤ messages_cost i st + 9605 * count
    used_messages moved count posted = messages_more i st copies used [] (sym (append-nil st.session)) (λ learns policy. refl) count posted
        (λ p from to. record { claimed = refl; taken_is = refl; turn = λ e. e; copies = copies_stay used moved p to refl refl })

    used_less : (way : Way) → IsRunning st u → IsPending st u call regs way → Moves st used → PostsFew i st few u call changes → Lessens (Used u seq call regs args ids result changes)
    used_less way running pending moved (inl same) = thread_less (Used u seq call regs args ids result changes) u 1 0 running.started (omega arith)
        (let had = had_pending u call regs way pending in let none = none_pending u call regs way pending in let some = call_some (sets_ids call) in omega (arith, had, none, some))
        (λ t e. let other = other_pending u t e in omega (arith, other))
        (let most = used_messages moved 0 (omega (arith, same)) in omega (arith, most)) (omega arith)
    used_less way running pending moved (inr x) = thread_less (Used u seq call regs args ids result changes) u 640000 614720 running.started (omega arith)
        (let had = had_pending u call regs way pending in let none = none_pending u call regs way pending in let set : call_cost (sets_ids call) ≡ call_cost true = ap call_cost x.0 in omega (arith, had, none, set))
        (λ t e. let other = other_pending u t e in omega (arith, other))
        (let low = moved.posted in let high = x.1 in let most = used_messages moved (used.posted - st.posted) (omega (arith, low)) in omega (arith, most, high, low)) (omega arith)

  pub after_used : thread_count i ≤ 64 → (u : ℕ) (seq : Option ℕ) (call : SysCall) (regs : List ℕ) (args : List ArgText) (ids : Ids) (result : CallResult) (changes : List Change) → IsUsed i st u seq call regs args ids result changes → Lessens (Used u seq call regs args ids result changes)
  after_used few u None call regs args ids result changes y = used_less few u None call regs args ids result changes y.way y.running y.entered
      (moves i st whole.calls (Used u None call regs args ids result changes) y) (used_posts i st few u call regs args ids result changes None y)
  after_used few u (Some q) call regs args ids result changes y = used_less few u (Some q) call regs args ids result changes (Held y.held.first) y.running y.held.entered
      (moves i st whole.calls (Used u (Some q) call regs args ids result changes) y) (used_posts i st few u call regs args ids result changes (Some q) y)

  pub after_denied : (u : ℕ) (seq : Option ℕ) (errno : Errno) (cause : Cause) → IsDenied i st u seq errno cause → Lessens (Denied u seq errno cause)
  after_denied u None errno cause y = denied_less u None errno cause y.call y.regs (Barred 1) y.running y.entered
  after_denied u (Some q) errno cause y = denied_less u (Some q) errno cause y.call y.regs (Held y.held.first) y.running y.held.entered
