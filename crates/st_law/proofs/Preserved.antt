-- The invariant of the state of a lawful run is kept by each lawful entry.
use native.Mathlib.Omega.{arith}
use Rattle.std.proofs.Common.{◌≡◌, ◌≢◌, ◌≤◌, ℕ, suc, Bool, true, false, cond, ◌||◌, ◌==◌, List, [], ◌∷◌, drop, Option, Some, None, refl, sym, ap, subst, ◌∙◌}
use Rattle.std.proofs.lemmas.Bool.{eqb-true, eqb-false, eq-eqb, ne_eqb}
use Rattle.std.specs.List.{All}
use Rattle.st_base.specs.declared.errno.Errno.{Errno}
use Rattle.st_base.specs.declared.ids.Ids.{Ids}
use Rattle.st_calls.specs.declared.argument.ArgText.{ArgText}
use Rattle.st_calls.specs.declared.call.SysCall.{SysCall}
use Rattle.st_calls.specs.declared.call.SysCall.TheVariants as calls
use Rattle.st_trace.specs.Instructions.{IsCallOf}
use Rattle.st_trace.specs.declared.entry.CallResult.{CallResult}
use Rattle.st_trace.specs.declared.entry.Cause.{Cause}
use Rattle.st_trace.specs.declared.entry.Change.{Change}
use Rattle.st_trace.specs.declared.entry.Entry.{Entry}
use Rattle.st_trace.specs.declared.entry.Entry.TheVariants.{Stored, Entered, Claimed, Copied, Looked, Faulted, Answered, Used, Denied, Ended, Replied, Learned, Reloaded}
use Rattle.st_trace.specs.declared.entry.Way.{Way}
use Rattle.st_trace.specs.declared.entry.Way.TheVariants.{Fast, Barred, Held, Untraced}
use Rattle.st_trace.specs.declared.start.Instr.{Instr}
use Rattle.st_trace.specs.declared.start.Instr.TheVariants.{Store, Call, Fork, Reload}
use Rattle.st_law.specs.declared.input.Input.{Input}
use Rattle.st_law.specs.Inputs.{IsThread, IsInstruction}
use Rattle.st_law.specs.Lawful.{IsRunning, IsPending, IsHeld, IsEntered, IsUsed, IsDenied, IsLawful}
use Rattle.st_law.specs.Machine.{state_after}
use Rattle.st_law.specs.Messages.{new_head}
use Rattle.st_law.specs.State.{State, process_in, answer_in, reload_changes, system_of, request_of, child_of_pending}
use Rattle.st_law.specs.Threads.{child_of_next}
use Rattle.st_law.proofs.Carried.{IsKept, open_kept, fine_by, if_pending}
use Rattle.st_law.proofs.Invariant.{IsOpen, IsFine, Fine, IfPending, HasChild, Invariant}
use Rattle.st_law.proofs.ReloadKept.{done_kept, refused_kept}
use Rattle.st_law.proofs.RenewalKept.{renewal_keeps}
use Rattle.st_law.proofs.Shapes.{Shape, quiet, forked, execed, renewed}
use Rattle.st_law.proofs.ShapesKept.{quiet_keeps, fork_keeps, exec_keeps}
use Rattle.st_law.proofs.UsedShapes.{used_shape}
use Rattle.st_law.proofs.UsedKept.{IsOpenSeq, not_closed_by, not_closed_above, Keeps, used_kept}

module _ (i : Input) (st : State) (inv : Invariant i st) where
  -- ---- the number of a call that is made or denied

  held_open : (u q : ℕ) (call : SysCall) (regs : List ℕ) → IsRunning st u → IsHeld st u q call regs → IsOpenSeq st u (Some q)
  held_open u q call regs running held =
      let fine : Fine st u (record { call = call; regs = regs; way = Held held.first; child = held.entered.0 }) = subst (IfPending (Fine st u)) held.entered.1 (inv.fine u) in
      (call, regs, fine.fine running.undying, held.number)

  -- ---- a call that is made

  module _ (u : ℕ) (seq : Option ℕ) (open_seq : IsOpenSeq st u seq) (call : SysCall) (regs : List ℕ) (args : List ArgText) (ids : Ids) (result : CallResult) where
    abbrev Kept : List Change → Type 0
    Kept changes = Keeps i st inv u seq open_seq call regs args ids result changes

    child_there : (way : Way) → IsPending st u call regs way → call ≡ calls.Fork → IsThread i (child_of_pending (st.threads u).pending)
    child_there way entered is = subst (IsThread i) (sym (ap child_of_pending entered.1)) ((subst (IfPending (HasChild i)) entered.1 (inv.children u)).child is)

    shape_keeps : (way : Way) → IsPending st u call regs way → (changes : List Change) → Shape (system_of i st) (request_of i st u regs args ids) call changes → Kept changes
    shape_keeps way entered changes (quiet x) = quiet_keeps i st inv u seq open_seq call regs args ids result changes x
    shape_keeps way entered changes (forked is e) = subst Kept (sym e) (fork_keeps i st inv u seq open_seq call regs args ids result (child_of_pending (st.threads u).pending) (child_there way entered is))
    shape_keeps way entered changes (execed binary e) = subst Kept (sym e) (exec_keeps i st inv u seq open_seq call regs args ids result binary i.options.inherit)
    shape_keeps way entered changes (renewed set sets e) = subst Kept (sym e) (renewal_keeps i st inv u seq open_seq call regs args ids result set)

  -- what a call that is made keeps, given what is known of its number
  pub record UsedKeeps (u : ℕ) (seq : Option ℕ) (call : SysCall) (regs : List ℕ) (args : List ArgText) (ids : Ids) (result : CallResult) (changes : List Change) : Type 0 where
    pub open_seq : IsOpenSeq st u seq
    pub keeps : Keeps i st inv u seq open_seq call regs args ids result changes

  pub used_keeps : (u : ℕ) (seq : Option ℕ) (call : SysCall) (regs : List ℕ) (args : List ArgText) (ids : Ids) (result : CallResult) (changes : List Change) → IsUsed i st u seq call regs args ids result changes → UsedKeeps u seq call regs args ids result changes
  used_keeps u None call regs args ids result changes x =
      record { open_seq = tt; keeps = shape_keeps u None tt call regs args ids result x.way x.entered changes (used_shape i st u call regs args ids result changes None x) }
  used_keeps u (Some q) call regs args ids result changes x = let is_open : IsOpenSeq st u (Some q) = held_open u q call regs x.running x.held in
      record { open_seq = is_open; keeps = shape_keeps u (Some q) is_open call regs args ids result (Held x.held.first) x.held.entered changes (used_shape i st u call regs args ids result changes (Some q) x) }

  after_used : (u : ℕ) (seq : Option ℕ) (call : SysCall) (regs : List ℕ) (args : List ArgText) (ids : Ids) (result : CallResult) (changes : List Change) → IsUsed i st u seq call regs args ids result changes → Invariant i (state_after i st (Used u seq call regs args ids result changes))
  after_used u seq call regs args ids result changes x =
      let y : UsedKeeps u seq call regs args ids result changes = used_keeps u seq call regs args ids result changes x in
      used_kept i st inv u seq y.open_seq call regs args ids result changes y.keeps

  -- ---- a call that is denied

  module _ (u : ℕ) (seq : Option ℕ) (errno : Errno) (cause : Cause) (open_seq : IsOpenSeq st u seq) where
    abbrev denied : State
    denied = state_after i st (Denied u seq errno cause)

    denied_open : (t : ℕ) (c : SysCall) (r : List ℕ) → t ≢ u → IsOpen st t c r → IsOpen denied t c r
    denied_open t c r differ x = open_kept st denied t c r (omega arith) (record {
      owner = refl;
      ids = refl;
      policy = refl;
      number = refl;
      head = refl;
      closed = λ unclosed. (λ k. not_closed_by st u t seq open_seq differ c r x k || (st.messages (st.threads t).number).closed) ∙ unclosed;
      version = λ head posted. refl;
    }) x

    denied_fine : (t : ℕ) (b : Bool) → (u == t) ≡ b → IfPending (Fine denied t) (cond b None (st.threads t).pending)
    denied_fine t true e = tt
    denied_fine t false e = if_pending (Fine st t) (Fine denied t) (st.threads t).pending
        (λ entered is x. record {
          started = x.started;
          fine = λ undying. fine_by st denied t entered.call entered.regs entered.way refl (λ first way. denied_open t entered.call entered.regs (λ same. eqb-false u t e (sym same))) (x.fine undying);
        }) (inv.fine t)

    denied_child : (t : ℕ) (b : Bool) → IfPending (HasChild i) (cond b None (st.threads t).pending)
    denied_child t true = tt
    denied_child t false = inv.children t

    denied_kept : Invariant i denied
    denied_kept = record {
      started = inv.started;
      bodies = inv.bodies;
      children = λ t. denied_child t (u == t);
      owners = inv.owners;
      heads = inv.heads;
      closed = λ q high. (λ k. not_closed_above st u q seq open_seq high k || (st.messages q).closed) ∙ inv.closed q high;
      fine = λ t. denied_fine t (u == t) refl;
    }

  after_denied : (u : ℕ) (seq : Option ℕ) (errno : Errno) (cause : Cause) → IsDenied i st u seq errno cause → Invariant i (state_after i st (Denied u seq errno cause))
  after_denied u None errno cause x = denied_kept u None errno cause tt
  after_denied u (Some q) errno cause x = denied_kept u (Some q) errno cause (held_open u q x.call x.regs x.running x.held)

  -- ---- instructions

  all_drop : (left : List Instr) → All (IsInstruction i) left → All (IsInstruction i) (drop 1 left)
  all_drop [] all = all
  all_drop (x ∷ left) all = λ k d low. all (suc k) d (omega (arith, low))

  left_at : (u t : ℕ) (b : Bool) → All (IsInstruction i) (cond b (drop 1 (st.threads t).left) (st.threads t).left)
  left_at u t true = all_drop (st.threads t).left (inv.bodies t)
  left_at u t false = inv.bodies t

  first_of : (x : Instr) (left later : List Instr) → left ≡ x ∷ later → All (IsInstruction i) left → IsInstruction i x
  first_of x left later e all = subst (All (IsInstruction i)) e all 0 x (omega arith)

  -- if the call of an instruction is a fork, it starts a thread of the script
  child_of : (instruction : Instr) (later : List Instr) (call : SysCall) (regs : List ℕ) → IsCallOf instruction call regs → IsInstruction i instruction → call ≡ calls.Fork → IsThread i (child_of_next (instruction ∷ later))
  child_of (Store place word) later call regs makes x is = absurd makes
  child_of (Call own own_regs) later call regs makes x is = absurd (x (sym makes.0 ∙ is))
  child_of (Fork child) later call regs makes x is = x
  child_of (Reload n) later call regs makes x is = absurd makes

  module _ (u : ℕ) (call : SysCall) (regs : List ℕ) (way : Way) (x : IsEntered i st u call regs way) where
    abbrev entered_state : State
    entered_state = state_after i st (Entered u call regs way)

    own_child : HasChild i (record { call = call; regs = regs; way = way; child = child_of_next (st.threads u).left })
    own_child = record {
      child = λ is. subst (λ left. IsThread i (child_of_next left)) (sym x.next)
          (child_of x.instruction x.later call regs x.makes (first_of x.instruction (st.threads u).left x.later x.next (inv.bodies u)) is);
    }

    entered_child : (t : ℕ) (b : Bool) → (u == t) ≡ b → IfPending (HasChild i) (cond b (Some (record { call = call; regs = regs; way = way; child = child_of_next (st.threads t).left })) (st.threads t).pending)
    entered_child t true e = subst (λ n. HasChild i (record { call = call; regs = regs; way = way; child = child_of_next (st.threads n).left })) (eqb-true u t e) own_child
    entered_child t false e = inv.children t

  -- ---- calls that are entered

  -- another thread's pending call, by what the entry keeps of numbers and heads
  entered_other : (u : ℕ) (call : SysCall) (regs : List ℕ) (way : Way) (t : ℕ) → (u == t) ≡ false → st.posted ≤ (state_after i st (Entered u call regs way)).posted → IsKept st (state_after i st (Entered u call regs way)) t → IfPending (Fine (state_after i st (Entered u call regs way)) t) (st.threads t).pending
  entered_other u call regs way t differ more kept = if_pending (Fine st t) (Fine (state_after i st (Entered u call regs way)) t) (st.threads t).pending
      (λ entered is x. record {
        started = x.started;
        fine = λ undying. fine_by st (state_after i st (Entered u call regs way)) t entered.call entered.regs entered.way (ap (λ b. cond b (answer_in i st (process_in st t) call regs) (st.threads t).answer) differ)
            (λ first held. open_kept st (state_after i st (Entered u call regs way)) t entered.call entered.regs more kept) (x.fine undying);
      }) (inv.fine t)

  -- a call that isn't held
  module _ (u : ℕ) (call : SysCall) (regs : List ℕ) (way : Way) (x : IsEntered i st u call regs way) where
    abbrev entry : Entry
    entry = Entered u call regs way

    entered_by : ((state_after i st entry).posted ≡ st.posted) → ((q : ℕ) → ((state_after i st entry).messages q).head ≡ (st.messages q).head) → ((t : ℕ) → ((state_after i st entry).threads t).number ≡ (st.threads t).number) → ((t : ℕ) → t ≡ u → IsFine (state_after i st entry) t call regs way) → Invariant i (state_after i st entry)
    entered_by posted heads numbers own = record {
      started = inv.started;
      bodies = λ t. left_at u t (u == t);
      children = λ t. entered_child u call regs way x t (u == t) refl;
      owners = inv.owners;
      heads = λ q high. heads q ∙ inv.heads q (omega (arith, posted, high));
      closed = λ q high. inv.closed q (omega (arith, posted, high));
      fine = λ t. at t (u == t) refl;
    } where
      at : (t : ℕ) (b : Bool) → (u == t) ≡ b → IfPending (Fine (state_after i st entry) t) (cond b (Some (record { call = call; regs = regs; way = way; child = child_of_next (st.threads t).left })) (st.threads t).pending)
      at t true e = let same : u ≡ t = eqb-true u t e in record { started = subst (λ n. (st.threads n).owner ≢ 0) same x.running.started; fine = λ undying. own t (sym same) }
      at t false e = entered_other u call regs way t e (omega (arith, posted)) (record { owner = refl; ids = refl; policy = refl; number = numbers t; head = heads (st.threads t).number; closed = λ unclosed. unclosed; version = λ head posted. refl })

  -- a call that is held
  module _ (u q : ℕ) (call : SysCall) (regs : List ℕ) (x : IsEntered i st u call regs (Held q)) (drawn : q ≡ suc st.posted) where
    abbrev held_state : State
    held_state = state_after i st (Entered u call regs (Held q))

    own_number : ((held_state).threads u).number ≡ q
    own_number = ap (λ b. cond b q (st.threads u).number) (eq-eqb u u refl)

    own_open : IsOpen held_state u call regs
    own_open = record {
      head = new_head i u (st.threads u).owner (process_in st u) (st.versions (process_in st u).policy) call regs;
      posted = ap (λ n. (held_state.messages n).head) own_number ∙ ap (λ b. cond b (Some (new_head i u (st.threads u).owner (process_in st u) (st.versions (process_in st u).policy) call regs)) (st.messages q).head) (eq-eqb q q refl);
      own = record { tid_is = refl; pid_is = refl; ids_are = refl; policy_is = refl; version_is = refl; call_is = refl; regs_are = refl };
      unclosed = ap (λ n. (held_state.messages n).closed) own_number ∙ inv.closed q (omega (arith, drawn));
      low = let same = own_number in omega (arith, same, drawn);
    }

    other_kept : (t : ℕ) → (u == t) ≡ false → (st.threads t).number ≤ st.posted → IsKept st held_state t
    other_kept t differ low = record {
      owner = refl;
      ids = refl;
      policy = refl;
      number = ap (λ b. cond b q (st.threads t).number) differ;
      head = ap (λ b. cond b (Some (new_head i u (st.threads u).owner (process_in st u) (st.versions (process_in st u).policy) call regs)) (st.messages (st.threads t).number).head) (ne_eqb q (st.threads t).number (λ same. omega (arith, same, drawn, low)));
      closed = λ unclosed. unclosed;
      version = λ head posted. refl;
    }

    other_open : (t : ℕ) → (u == t) ≡ false → (c : SysCall) (r : List ℕ) → IsOpen st t c r → IsOpen held_state t c r
    other_open t differ c r y = open_kept st held_state t c r (omega arith) (other_kept t differ y.low) y

    held_fine : (t : ℕ) (b : Bool) → (u == t) ≡ b → IfPending (Fine held_state t) (cond b (Some (record { call = call; regs = regs; way = Held q; child = child_of_next (st.threads t).left })) (st.threads t).pending)
    held_fine t true e = subst (λ n. Fine held_state n (record { call = call; regs = regs; way = Held q; child = child_of_next (st.threads n).left })) (eqb-true u t e) (record { started = x.running.started; fine = λ undying. own_open })
    held_fine t false e = if_pending (Fine st t) (Fine held_state t) (st.threads t).pending
        (λ entered is y. record {
          started = y.started;
          fine = λ undying. fine_by st held_state t entered.call entered.regs entered.way (ap (λ b. cond b (answer_in i st (process_in st t) call regs) (st.threads t).answer) e) (λ first held. other_open t e entered.call entered.regs) (y.fine undying);
        }) (inv.fine t)

    after_held : Invariant i held_state
    after_held = record {
      started = inv.started;
      bodies = λ t. left_at u t (u == t);
      children = λ t. entered_child u call regs (Held q) x t (u == t) refl;
      owners = inv.owners;
      heads = λ p high. ap (λ b. cond b (Some (new_head i u (st.threads u).owner (process_in st u) (st.versions (process_in st u).policy) call regs)) (st.messages p).head) (ne_eqb q p (λ same. omega (arith, same, drawn, high))) ∙ inv.heads p (omega (arith, high));
      closed = λ p high. inv.closed p (omega (arith, high));
      fine = λ t. held_fine t (u == t) refl;
    }

  after_entered : (u : ℕ) (call : SysCall) (regs : List ℕ) (way : Way) → IsEntered i st u call regs way → Invariant i (state_after i st (Entered u call regs way))
  after_entered u call regs Fast x = entered_by u call regs Fast x refl (λ q. refl) (λ t. refl) (λ t same. tt)
  after_entered u call regs Untraced x = entered_by u call regs Untraced x refl (λ q. refl) (λ t. refl) (λ t same. tt)
  after_entered u call regs (Barred n) x = entered_by u call regs (Barred n) x refl (λ q. refl) (λ t. refl)
      (λ t same. subst (λ v. IsFine (state_after i st (Entered u call regs (Barred n))) v call regs (Barred n)) (sym same)
      (record { first = x.way_is.1; errno = x.way_is.2; refused = ap (λ b. cond b (answer_in i st (process_in st u) call regs) (st.threads u).answer) (eq-eqb u u refl) ∙ x.way_is.3 }))
  after_entered u call regs (Held q) x = after_held u q call regs x x.way_is.1

  -- ---- entries that leave the state's parts

  kept_fine : (e : Entry) (t : ℕ) → ((state_after i st e).threads t).answer ≡ (st.threads t).answer → st.posted ≤ (state_after i st e).posted → IsKept st (state_after i st e) t → ((state_after i st e).threads t).dying ≡ (st.threads t).dying → IfPending (Fine (state_after i st e) t) (st.threads t).pending
  kept_fine e t answer more kept dying = if_pending (Fine st t) (Fine (state_after i st e) t) (st.threads t).pending
      (λ entered is x. record {
        started = λ none. x.started (sym kept.owner ∙ none);
        fine = λ undying. fine_by st (state_after i st e) t entered.call entered.regs entered.way answer (λ first held. open_kept st (state_after i st e) t entered.call entered.regs more kept) (x.fine (sym dying ∙ undying));
      }) (inv.fine t)

  -- ---- reloads

  reloaded_at : (u n : ℕ) (b : Bool) → Invariant i (state_after i st (Reloaded u n b (reload_changes i st n b)))
  reloaded_at u n true = done_kept i st inv u n (λ t. left_at u t (u == t))
  reloaded_at u n false = refused_kept i st inv u n (λ t. left_at u t (u == t))

  -- the invariant of the state is kept by each lawful entry
  pub following : (e : Entry) → IsLawful i st e → Invariant i (state_after i st e)
  following (Stored u place word) x = record { started = inv.started; bodies = λ t. left_at u t (u == t); children = inv.children; owners = inv.owners; heads = inv.heads; closed = inv.closed; fine = λ t. kept_fine (Stored u place word) t refl (omega arith) (record { owner = refl; ids = refl; policy = refl; number = refl; head = refl; closed = λ unclosed. unclosed; version = λ head posted. refl }) refl }
  following (Entered u call regs way) x = after_entered u call regs way x
  following (Used u seq call regs args ids result changes) x = after_used u seq call regs args ids result changes x
  following (Denied u seq errno cause) x = after_denied u seq errno cause x
  following (Claimed w q) x = record { started = inv.started; bodies = inv.bodies; children = inv.children; owners = inv.owners; heads = inv.heads; closed = inv.closed; fine = λ t. kept_fine (Claimed w q) t refl (omega arith) (record { owner = refl; ids = refl; policy = refl; number = refl; head = refl; closed = λ unclosed. unclosed; version = λ head posted. refl }) refl }
  following (Copied q part place word) x = record { started = inv.started; bodies = inv.bodies; children = inv.children; owners = inv.owners; heads = inv.heads; closed = inv.closed; fine = λ t. kept_fine (Copied q part place word) t refl (omega arith) (record { owner = refl; ids = refl; policy = refl; number = refl; head = refl; closed = λ unclosed. unclosed; version = λ head posted. refl }) refl }
  following (Looked q part name seen) x = record { started = inv.started; bodies = inv.bodies; children = inv.children; owners = inv.owners; heads = inv.heads; closed = inv.closed; fine = λ t. kept_fine (Looked q part name seen) t refl (omega arith) (record { owner = refl; ids = refl; policy = refl; number = refl; head = refl; closed = λ unclosed. unclosed; version = λ head posted. refl }) refl }
  following (Faulted q errno) x = record { started = inv.started; bodies = inv.bodies; children = inv.children; owners = inv.owners; heads = inv.heads; closed = inv.closed; fine = λ t. kept_fine (Faulted q errno) t refl (omega arith) (record { owner = refl; ids = refl; policy = refl; number = refl; head = refl; closed = λ unclosed. unclosed; version = λ head posted. refl }) refl }
  following (Answered w s v applied) x = record { started = inv.started; bodies = inv.bodies; children = inv.children; owners = inv.owners; heads = inv.heads; closed = inv.closed; fine = λ t. kept_fine (Answered w s v applied) t refl (omega arith) (record { owner = refl; ids = refl; policy = refl; number = refl; head = refl; closed = λ unclosed. unclosed; version = λ head posted. refl }) refl }
  following (Ended u) x = record { started = inv.started; bodies = inv.bodies; children = inv.children; owners = inv.owners; heads = inv.heads; closed = inv.closed; fine = λ t. kept_fine (Ended u) t refl (omega arith) (record { owner = refl; ids = refl; policy = refl; number = refl; head = refl; closed = λ unclosed. unclosed; version = λ head posted. refl }) refl }
  following (Learned q n) x = record { started = inv.started; bodies = inv.bodies; children = inv.children; owners = inv.owners; heads = inv.heads; closed = inv.closed; fine = λ t. kept_fine (Learned q n) t refl (omega arith) (record { owner = refl; ids = refl; policy = refl; number = refl; head = refl; closed = λ unclosed. unclosed; version = λ head posted. refl }) refl }
  following (Replied q reply n) x = record { started = inv.started; bodies = inv.bodies; children = inv.children; owners = inv.owners; heads = inv.heads; closed = inv.closed; fine = λ t. kept_fine (Replied q reply n) t refl (omega arith) (record { owner = refl; ids = refl; policy = refl; number = refl; head = refl; closed = λ unclosed. unclosed; version = λ head posted. refl }) refl }
  following (Reloaded u n done changes) x = subst (λ cs. Invariant i (state_after i st (Reloaded u n done cs))) (sym x.changes_are) (reloaded_at u n done)
