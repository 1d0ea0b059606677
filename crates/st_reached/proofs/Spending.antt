-- What the calls of a script spend: a number that each state has. If it grows only when a call is entered or made, and by no more than
-- the call's instruction is worth, then it is never more than at first plus the worth of all instructions. Its value, plus the worth of
-- the instructions and the pending calls that all threads have left, never grows.
use native.Mathlib.Omega.{arith}
use Rattle.std.proofs.Common.{◌≡◌, ◌≢◌, ◌≤◌, ℕ, suc, ◌+◌, Bool, true, false, cond, ◌==◌, List, [], ◌∷◌, drop, length, reverse, Option, Some, None, refl, sym, ap, subst, ◌∙◌}
use Rattle.std.proofs.lemmas.Bool.{eq-eqb, eqb-true}
use Rattle.std.proofs.lemmas.List.Sums.{sum_by-cons}
use Rattle.std.specs.List.{sum_by}
use Rattle.std.specs.Prelude.{slice_get}
use Rattle.st_base.specs.declared.errno.Errno.{Errno}
use Rattle.st_base.specs.declared.ids.Ids.{Ids}
use Rattle.st_calls.specs.declared.argument.ArgText.{ArgText}
use Rattle.st_calls.specs.declared.call.SysCall.{SysCall}
use Rattle.st_trace.specs.Instructions.{IsCallOf}
use Rattle.st_trace.specs.declared.entry.CallResult.{CallResult}
use Rattle.st_trace.specs.declared.entry.Cause.{Cause}
use Rattle.st_trace.specs.declared.entry.Change.{Change}
use Rattle.st_trace.specs.declared.entry.Choice.{Choice}
use Rattle.st_trace.specs.declared.entry.Entry.{Entry}
use Rattle.st_trace.specs.declared.entry.Entry.TheVariants.{Stored, Entered, Claimed, Copied, Looked, Faulted, Answered, Used, Denied, Ended, Learned, Replied, Reloaded}
use Rattle.st_trace.specs.declared.entry.Way.{Way}
use Rattle.st_trace.specs.declared.entry.Way.TheVariants.{Held}
use Rattle.st_trace.specs.declared.start.Instr.{Instr}
use Rattle.st_trace.specs.declared.start.Instr.TheVariants.{Reload}
use Rattle.st_trace.specs.declared.start.ThreadRow.{ThreadRow}
use Rattle.st_law.specs.declared.input.Input.{Input}
use Rattle.st_law.specs.History.{looking_back}
use Rattle.st_law.specs.Inputs.{IsStartable, IsThread}
use Rattle.st_law.specs.Lawful.{IsEntered, IsLawful, IsLawfulBack, IsPending, IsReloaded, IsUsed}
use Rattle.st_law.specs.Machine.{first_state, history, state_after, state_of_run}
use Rattle.st_law.specs.State.{State, ThreadState, thread_count}
use Rattle.st_law.specs.Threads.{History, PendingCall, body_of, body_of_row, changes_of, child_of_next}
use Rattle.st_law.proofs.Invariant.{Invariant}
use Rattle.st_law.proofs.Laws.{lawful_history}
use Rattle.st_law.proofs.Sums.{total, total_drop}
use Rattle.st_law.proofs.Ties.{state-is}
use Rattle.st_law.proofs.Whole.{whole_of}

-- whether a call is entered
abbrev pub enters_call : Entry → Bool
enters_call (Entered u call regs way) = true
enters_call _ = false

module _ (worth : Instr → ℕ) (call_worth : PendingCall → ℕ) where
  -- ---- what instructions and pending calls are worth

  abbrev pub of_pending : Option PendingCall → ℕ
  of_pending None = 0
  of_pending (Some entered) = call_worth entered

  abbrev pub of_thread : ThreadState → ℕ
  of_thread thread = sum_by worth thread.left + of_pending thread.pending

  -- what all threads have left to spend
  abbrev pub left_of : Input → State → ℕ
  left_of i st = total (λ t. of_thread (st.threads t)) 1 (thread_count i)

  -- what a script has to spend
  abbrev pub all_of : List ThreadRow → ℕ
  all_of rows = sum_by (λ row. sum_by worth row.body) rows

  -- what the calls of a script spend: a call is worth no more than its instruction, less what entering it spends; the number is unchanged
  -- by any other entry without changes; and a call that is made, and a reload, raise it by no more than they are worth
  pub record Spends (i : Input) (spent : State → ℕ) : Type 0 where
    pub entering : ℕ
    pub entered : (x : Instr) (later : List Instr) (call : SysCall) (regs : List ℕ) (way : Way) → IsCallOf x call regs → call_worth (record { call = call; regs = regs; way = way; child = child_of_next (x ∷ later) }) + entering ≤ worth x
    pub enters : (st : State) (u : ℕ) (call : SysCall) (regs : List ℕ) (way : Way) → spent (state_after i st (Entered u call regs way)) ≤ spent st + entering
    pub still : (st : State) (e : Entry) → changes_of e ≡ [] → enters_call e ≡ false → spent (state_after i st e) ≡ spent st
    pub used : (st : State) (u : ℕ) (seq : Option ℕ) (call : SysCall) (regs : List ℕ) (args : List ArgText) (ids : Ids) (result : CallResult) (changes : List Change) (entered : PendingCall)
        → (st.threads u).pending ≡ Some entered → entered.call ≡ call → IsUsed i st u seq call regs args ids result changes → spent (state_after i st (Used u seq call regs args ids result changes)) ≤ spent st + call_worth entered
    pub reloaded : (st : State) (u n : ℕ) (done : Bool) (changes : List Change) → IsReloaded i st u n done changes → spent (state_after i st (Reloaded u n done changes)) ≤ spent st + worth (Reload n)

  -- ---- at first

  first_left : (rows : List ThreadRow) (f : ℕ → ℕ) (a : ℕ) → ((k : ℕ) → f (a + k) ≡ sum_by worth (body_of_row (slice_get rows k))) → total f a (length rows) ≡ all_of rows
  first_left [] f a is = omega arith
  first_left (row ∷ rows) f a is =
      let here : f (a + 0) ≡ sum_by worth row.body = is 0 in
      let same : f (a + 0) ≡ f a = ap f (let e : a + 0 ≡ a = omega arith in e) in
      let rest = first_left rows f (suc a) (λ k. ap f (let e : suc a + k ≡ a + suc k = omega arith in e) ∙ is (suc k)) in
      let sums = sum_by-cons (λ each. sum_by worth each.body) row rows in
      omega (arith, here, same, rest, sums)

  left_at_first : (i : Input) → left_of i (first_state i) ≡ all_of i.start.threads
  left_at_first i = first_left i.start.threads (λ t. of_thread ((first_state i).threads t)) 1 own where
    own : (k : ℕ) → of_thread ((first_state i).threads (1 + k)) ≡ sum_by worth (body_of_row (slice_get i.start.threads k))
    own k = let same : sum_by worth (body_of i (1 + k)) ≡ sum_by worth (body_of i (suc k)) = ap (λ n. sum_by worth (body_of i n)) (let e : 1 + k ≡ suc k = omega arith in e) in omega (arith, same)

  -- ---- from entry to entry

  module _ (i : Input) (spent : State → ℕ) (spends : Spends i spent) (st : State) (inv : Invariant i st) where
    -- what is spent and what is left are together no more than before
    abbrev Bounded : Entry → Type 0
    Bounded e = spent (state_after i st e) + left_of i (state_after i st e) ≤ spent st + left_of i st

    -- no more is spent than a started thread has less left
    bounded : (e : Entry) (u d : ℕ) → (st.threads u).owner ≢ 0 → spent (state_after i st e) ≤ spent st + d → ((t : ℕ) → of_thread ((state_after i st e).threads t) + cond (u == t) d 0 ≤ of_thread (st.threads t)) → Bounded e
    bounded e u d started more less =
        let thread : IsThread i u = inv.started u started in
        let low = thread.0 in
        let high = thread.1 in
        let here = less u in
        let all : cond (u == u) d 0 ≡ d = ap (λ b. cond b d 0) (eq-eqb u u refl) in
        let sums = total_drop (λ t. of_thread ((state_after i st e).threads t)) (λ t. of_thread (st.threads t)) 1 (thread_count i) u d
        (λ t from to. let other = less t in omega (arith, other)) low (omega (arith, high)) (omega (arith, here, all)) in
        omega (arith, more, sums)

    stored_less : (b : Bool) (left : List Instr) → sum_by worth (cond b (drop 1 left) left) + cond b 0 0 ≤ sum_by worth left
    stored_less false left = omega arith
    stored_less true [] = omega arith
    stored_less true (x ∷ later) = let more = sum_by-cons worth x later in omega (arith, more)

    stored_bounded : (u place word : ℕ) → (st.threads u).owner ≢ 0 → Bounded (Stored u place word)
    stored_bounded u place word started = bounded (Stored u place word) u 0 started (let same = spends.still st (Stored u place word) refl refl in omega (arith, same))
        (λ t. let less = stored_less (u == t) (st.threads t).left in omega (arith, less))

    denied_less : (b : Bool) (pending : Option PendingCall) → of_pending (cond b None pending) + cond b 0 0 ≤ of_pending pending
    denied_less false pending = omega arith
    denied_less true pending = omega arith

    denied_bounded : (u : ℕ) (seq : Option ℕ) (errno : Errno) (cause : Cause) → (st.threads u).owner ≢ 0 → Bounded (Denied u seq errno cause)
    denied_bounded u seq errno cause started = bounded (Denied u seq errno cause) u 0 started (let same = spends.still st (Denied u seq errno cause) refl refl in omega (arith, same))
        (λ t. let less = denied_less (u == t) (st.threads t).pending in omega (arith, less))

    -- ---- a call is entered

    module _ (u : ℕ) (call : SysCall) (regs : List ℕ) (way : Way) (y : IsEntered i st u call regs way) where
      abbrev Less : List Instr → Type 0
      Less left = sum_by worth (drop 1 left) + call_worth (record { call = call; regs = regs; way = way; child = child_of_next left }) + spends.entering ≤ sum_by worth left

      own_less : Less (st.threads u).left
      own_less =
          let more = sum_by-cons worth y.instruction y.later in
          let least = spends.entered y.instruction y.later call regs way y.makes in
          subst Less (sym y.next) (omega (arith, more, least))

      entered_less : (t : ℕ) (b : Bool) → (u == t) ≡ b → sum_by worth (cond b (drop 1 (st.threads t).left) (st.threads t).left) + of_pending (cond b (Some (record { call = call; regs = regs; way = way; child = child_of_next (st.threads t).left })) (st.threads t).pending) + cond b spends.entering 0 ≤ of_thread (st.threads t)
      entered_less t true same = let own : Less (st.threads t).left = subst (λ n. Less (st.threads n).left) (eqb-true u t same) own_less in omega (arith, own)
      entered_less t false same = omega arith

      entered_bounded : Bounded (Entered u call regs way)
      entered_bounded = bounded (Entered u call regs way) u spends.entering y.running.started (spends.enters st u call regs way) (λ t. entered_less t (u == t) refl)

    -- ---- a reload

    module _ (u n : ℕ) (done : Bool) (changes : List Change) (y : IsReloaded i st u n done changes) where
      reload_less : sum_by worth (drop 1 (st.threads u).left) + worth (Reload n) ≤ sum_by worth (st.threads u).left
      reload_less = subst (λ left. sum_by worth (drop 1 left) + worth (Reload n) ≤ sum_by worth left) (sym y.next) (let more = sum_by-cons worth (Reload n) y.later in omega (arith, more))

      reloaded_less : (t : ℕ) (b : Bool) → (u == t) ≡ b → sum_by worth (cond b (drop 1 (st.threads t).left) (st.threads t).left) + cond b (worth (Reload n)) 0 ≤ sum_by worth (st.threads t).left
      reloaded_less t true same = subst (λ p. sum_by worth (drop 1 (st.threads p).left) + worth (Reload n) ≤ sum_by worth (st.threads p).left) (eqb-true u t same) reload_less
      reloaded_less t false same = omega arith

      reloaded_bounded : Bounded (Reloaded u n done changes)
      reloaded_bounded = bounded (Reloaded u n done changes) u (worth (Reload n)) y.running.started (spends.reloaded st u n done changes y) (λ t. let less = reloaded_less t (u == t) refl in omega (arith, less))

    -- ---- a call is made

    used_less : (u : ℕ) (entered : PendingCall) → (st.threads u).pending ≡ Some entered → (t : ℕ) (b : Bool) → (u == t) ≡ b → of_pending (cond b None (st.threads t).pending) + cond b (call_worth entered) 0 ≤ of_pending (st.threads t).pending
    used_less u entered pending t true same =
        let own : of_pending (st.threads t).pending ≡ call_worth entered = ap (λ n. of_pending (st.threads n).pending) (sym (eqb-true u t same)) ∙ ap of_pending pending in
        omega (arith, own)
    used_less u entered pending t false same = omega arith

    used_bounded : (u : ℕ) (seq : Option ℕ) (call : SysCall) (regs : List ℕ) (args : List ArgText) (ids : Ids) (result : CallResult) (changes : List Change) (way : Way) → (st.threads u).owner ≢ 0 → IsPending st u call regs way → IsUsed i st u seq call regs args ids result changes → Bounded (Used u seq call regs args ids result changes)
    used_bounded u seq call regs args ids result changes way started pending y =
        let entered : PendingCall = record { call = call; regs = regs; way = way; child = pending.0 } in
        bounded (Used u seq call regs args ids result changes) u (call_worth entered) started (spends.used st u seq call regs args ids result changes entered pending.1 refl y)
        (λ t. let less = used_less u entered pending.1 t (u == t) refl in omega (arith, less))

    -- ---- every entry

    bounded_after : (e : Entry) → IsLawful i st e → Bounded e
    bounded_after (Stored u place word) y = stored_bounded u place word y.running.started
    bounded_after (Entered u call regs way) y = entered_bounded u call regs way y
    bounded_after (Used u None call regs args ids result changes) y = used_bounded u None call regs args ids result changes y.way y.running.started y.entered y
    bounded_after (Used u (Some q) call regs args ids result changes) y = used_bounded u (Some q) call regs args ids result changes (Held y.held.first) y.running.started y.held.entered y
    bounded_after (Reloaded u n done changes) y = reloaded_bounded u n done changes y
    bounded_after (Denied u None errno cause) y = denied_bounded u None errno cause y.running.started
    bounded_after (Denied u (Some q) errno cause) y = denied_bounded u (Some q) errno cause y.running.started
    bounded_after (Claimed w q) y = let same = spends.still st (Claimed w q) refl refl in omega (arith, same)
    bounded_after (Copied q part place word) y = let same = spends.still st (Copied q part place word) refl refl in omega (arith, same)
    bounded_after (Looked q part name seen) y = let same = spends.still st (Looked q part name seen) refl refl in omega (arith, same)
    bounded_after (Faulted q errno) y = let same = spends.still st (Faulted q errno) refl refl in omega (arith, same)
    bounded_after (Answered w s v applied) y = let same = spends.still st (Answered w s v applied) refl refl in omega (arith, same)
    bounded_after (Ended u) y = let same = spends.still st (Ended u) refl refl in omega (arith, same)
    bounded_after (Learned q n) y = let same = spends.still st (Learned q n) refl refl in omega (arith, same)
    bounded_after (Replied q reply n) y = let same = spends.still st (Replied q reply n) refl refl in omega (arith, same)

  -- ---- every run

  module _ (i : Input) (startable : IsStartable i) (spent : State → ℕ) (spends : Spends i spent) where
    spent_back : (h : History) → IsLawfulBack i h → spent (looking_back i h) + left_of i (looking_back i h) ≤ spent (first_state i) + all_of i.start.threads
    spent_back [] lawful = let first = left_at_first i in omega (arith, first)
    spent_back (e ∷ h) lawful =
        let before = spent_back h lawful.1 in
        let following = bounded_after i spent spends (looking_back i h) (whole_of i startable h lawful.1).calls e lawful.0 in
        omega (arith, before, following)

    -- in every state that a run reaches, what is spent and what is left are together no more than at first
    pub spent_most : (choices : List Choice) → spent (state_of_run i choices) + left_of i (state_of_run i choices) ≤ spent (first_state i) + all_of i.start.threads
    spent_most choices =
        let h : History = history i (reverse choices) in
        subst (λ (st : State). spent st + left_of i st ≤ spent (first_state i) + all_of i.start.threads) (sym (state-is i h)) (spent_back h (lawful_history i startable (reverse choices)))
