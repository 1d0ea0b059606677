-- What a thread does next is what it does next in the law's machine.
use Rattle.std.proofs.Common.{◌≡◌, ◌≤◌, ◌<◌, ◌∙◌, zero, suc, ℕ, ◌&&◌, ◌||◌, ◌==◌, not, Bool, true, false, cond, length, List, Option, Some, None, inl, inr, refl, ap, sym, subst, arith}
use Rattle.std.proofs.lemmas.Bool.{ne_eqb, eq-eqb, or_left, or_right, true≢false}
use Rattle.std.proofs.lemmas.Option.{none-some, same_Some, slice_get_cases}
use Rattle.std.specs.Option.{option_map}
use Rattle.std.specs.Prelude.{IfOk, Result, Ok, Err}
use Rattle.st_base.specs.Numbered.{item_at_number}
use Rattle.st_base.specs.declared.errno.Errno.{Errno}
use Rattle.st_base.specs.declared.ids.Ids.{Ids}
use Rattle.st_calls.specs.declared.argument.ArgText.{ArgText}
use Rattle.st_calls.specs.declared.judged.Snapshot.{Snapshot}
use Rattle.st_calls.specs.declared.judged.Verdict.{Verdict}
use Rattle.st_messages.specs.declared.message.MsgState.{MsgState}
use Rattle.st_messages.specs.declared.message.MsgState.TheVariants.{Waiting, Claimed, Answered, Faulted}
use Rattle.st_model.specs.Processes.{StartedThread, pid_of, process_at, thread_at}
use Rattle.st_trace.specs.declared.entry.Entry.TheVariants.{Ended}
use Rattle.st_trace.specs.declared.entry.Way.{Way}
use Rattle.st_trace.specs.declared.entry.Way.TheVariants.{Fast, Barred, Held, Untraced}
use Rattle.st_names.specs.Name.{Components}
use Rattle.st_law.specs.declared.input.Input.{Input}
use Rattle.st_law.specs.Machine.{answered_entry, barred_entry, held_entry, pending_entry, permitted_entry, running_entry, thread_entry}
use Rattle.st_law.specs.Messages.{Head}
use Rattle.st_law.specs.State.{State, is_live, is_live_by, link_now, process_in, snapshot_in, thread_count}
use Rattle.st_law.specs.Threads.{PendingCall}
use Rattle.st_law.proofs.Invariant.{Fine, IfPending, IsFine, IsOpen}
use Rattle.st_system.specs.System.{IsAmong, IsSystem, IsThreadState}
use Rattle.st_workers.specs.Refinement.{HasMessageFlags, IsMessageStateOf, RepresentsMessages}
use Rattle.st_decide.specs.NextSteps.{HasEntered, HasPending, IsInProcess, IsStepOf}
use Rattle.st_decide.specs.Machine.{Refines, Running}
use Rattle.st_decide.specs.Step.{step_entry}
use Rattle.st_threads.specs.Thread.{ThreadRow, IsWayHeld, IsRow, IsRowOf}
use Rattle.st_decide.specs.declared.step.Step.{Step}
use Rattle.st_decide.proofs.Reached.{reached_of}
use Rattle.st_decide.proofs.Versions.{judged_now}
use Rattle.st_threads.proofs.Rows.{drawing_of_held}

-- a number of items within their count has an item
pub not_absent : {X : Type 0} (items : List X) (n : ℕ) → item_at_number items n ≡ None → 1 ≤ n → n ≤ length items → ⊥
not_absent items zero none from to = omega (arith, from)
not_absent items (suc n) none from to = elim ((slice_get_cases items n).1) [
  | inl found ↦ none-some found.0 (sym none ∙ found.2)
  | inr past ↦ let beyond = past.0 in omega (arith, beyond, to)
]

module _ (m : Running) (st : State) (is : Refines m st) (t : ℕ) where
  pub row_of : (row : ThreadRow) → item_at_number m.threads t ≡ Some row → IsRow row (st.threads t)
  row_of row e = subst (λ (o : Option ThreadRow). IsRowOf o (st.threads t)) e (is.threads t)

  -- ---- whether the thread runs

  pub owner_is : (pid : ℕ) → pid_of m.system.processes t ≡ Some pid → (st.threads t).owner ≡ pid
  owner_is pid e = by (thread_at m.system.processes t) (is.system.threads t) e where
    by : (o : Option StartedThread) → IsThreadState o (st.threads t) → option_map (λ (thread : StartedThread). thread.pid) o ≡ Some pid → (st.threads t).owner ≡ pid
    by None x e = absurd (none-some pid e)
    by (Some thread) x e = x.0 ∙ same_Some thread.pid pid e

  stopped : ((st.threads t).owner == 0 || (st.threads t).ended) ≡ true → thread_entry m.input st t ≡ None
  stopped e = ap (λ (x : Bool). cond x None (cond (st.threads t).dying (Some (Ended t)) (running_entry m.input st t (st.threads t).pending))) e

  unstarted : (st.threads t).owner ≡ 0 → thread_entry m.input st t ≡ None
  unstarted e = stopped (or_left ((st.threads t).owner == 0) (st.threads t).ended (eq-eqb (st.threads t).owner 0 e))

  -- a thread that hasn't started does nothing
  pub entry_unstarted : pid_of m.system.processes t ≡ None → thread_entry m.input st t ≡ None
  entry_unstarted e = by (thread_at m.system.processes t) (is.system.threads t) e where
    by : (o : Option StartedThread) → IsThreadState o (st.threads t) → option_map (λ (thread : StartedThread). thread.pid) o ≡ None → thread_entry m.input st t ≡ None
    by None x e = unstarted x.0
    by (Some thread) x e = absurd (none-some thread.pid (sym e))

  -- a thread that has ended does nothing
  pub entry_ended : (row : ThreadRow) → item_at_number m.threads t ≡ Some row → row.ended ≡ true → thread_entry m.input st t ≡ None
  entry_ended row row_is e = stopped (or_right ((st.threads t).owner == 0) (st.threads t).ended ((row_of row row_is).ended ∙ e))

  -- a thread that the script doesn't have does nothing
  pub entry_absent : item_at_number m.threads t ≡ None → thread_entry m.input st t ≡ None
  entry_absent none = by (thread_at m.system.processes t) (is.system.threads t) (is.system.among t) where
    by : (o : Option StartedThread) → IsThreadState o (st.threads t) → IsAmong (thread_count m.input) t o → thread_entry m.input st t ≡ None
    by None x among = unstarted x.0
    by (Some thread) x among = absurd (not_absent m.threads t none among.0 (subst (λ (n : ℕ). t ≤ n) (sym is.count) among.1))

  -- a thread that runs ends if it is dying, and otherwise goes on
  pub entry_running : (row : ThreadRow) (pid : ℕ) → item_at_number m.threads t ≡ Some row → pid_of m.system.processes t ≡ Some pid → 0 < pid → row.ended ≡ false
      → thread_entry m.input st t ≡ cond row.dying (Some (Ended t)) (running_entry m.input st t row.pending)
  entry_running row pid row_is process some unended =
      let its : IsRow row (st.threads t) = row_of row row_is in
      let apart : ((st.threads t).owner == 0) ≡ false = ne_eqb (st.threads t).owner 0 (λ e. let owner = owner_is pid process in omega (arith, e, owner, some)) in
      λ k. cond (apart k || (its.ended ∙ unended) k) None (cond (its.dying k) (Some (Ended t)) (running_entry m.input st t (its.pending k)))

-- the process of a thread is that of the law's machine
pub process_here : (m : Running) (st : State) → Refines m st → (t pid : ℕ) → IsInProcess m.system t pid → process_in st t ≡ process_at m.system.processes pid
process_here m st is t pid caller = ap st.processes (owner_is m st is t pid caller.process) ∙ is.system.processes pid

-- ---- a thread that has entered a call

module _ (m : Running) (st : State) (is : Refines m st) (t pid : ℕ) (entered : PendingCall) (x : HasEntered m t pid entered) where
  its : IsRow x.row (st.threads t)
  its = row_of m st is t x.row x.row_is

  -- a thread that has entered a call goes on by it
  pub entry_pending : thread_entry m.input st t ≡ pending_entry m.input st t entered.call entered.regs entered.way
  entry_pending = entry_running m st is t x.row pid x.row_is x.caller.process x.caller.there.0 x.unended ∙ (λ k. cond (x.undying k) (Some (Ended t)) (running_entry m.input st t (x.pending k)))

  pub process_is : (st.threads t).owner ≡ pid
  process_is = owner_is m st is t pid x.caller.process

  -- a barred call is denied with the answer that its thread has kept
  pub barred_is : (n : ℕ) → entered.way ≡ Barred n → (step : Step) → barred_entry t n x.row.answer ≡ step_entry m.input st t step → pending_entry m.input st t entered.call entered.regs entered.way ≡ step_entry m.input st t step
  barred_is n way step e = ap (pending_entry m.input st t entered.call entered.regs) way ∙ ap (barred_entry t n) (its.answer entered n x.pending way) ∙ e

-- ---- a held call

module _ (m : Running) (st : State) (is : Refines m st) (t pid drawing : ℕ) (entered : PendingCall) (pending : HasPending m t pid entered drawing) where
  abbrev x : HasEntered m t pid entered
  x = pending.has

  row_its : IsRow x.row (st.threads t)
  row_its = row_of m st is t x.row x.row_is

  number_by : (way : Way) → entered.way ≡ way → IsWayHeld way → (st.threads t).number ≡ drawing
  number_by (Held first) e held = row_its.number x.row.number (drawing_of_held x.row x.undying entered x.pending first e) ∙ pending.number
  number_by Fast e held = absurd held
  number_by (Barred n) e held = absurd held
  number_by Untraced e held = absurd held

  -- if the call is held, the thread has its number
  pub number_is : IsWayHeld entered.way → (st.threads t).number ≡ drawing
  number_is held = number_by entered.way refl held

  fine : Fine st t entered
  fine = subst (IfPending (Fine st t)) (row_its.pending ∙ x.pending) ((reached_of m.input st is.reached).whole.calls.fine t)

  open_by : (way : Way) → IsWayHeld way → IsFine st t entered.call entered.regs way → IsOpen st t entered.call entered.regs
  open_by (Held first) held x = x
  open_by Fast held x = absurd held
  open_by (Barred n) held x = absurd held
  open_by Untraced held x = absurd held

  -- the number of a held call is live
  pub held_live : IsWayHeld entered.way → is_live st drawing ≡ true
  held_live held =
      let undying : (st.threads t).dying ≡ false = row_its.dying ∙ x.undying in
      let own : IsOpen st t entered.call entered.regs = open_by entered.way held (fine.fine undying) in
      ap (is_live st) (sym (number_is held))
      ∙ ap (λ (o : Option Head). is_live_by o (st.messages (st.threads t).number).closed (λ u. (st.threads u).dying)) own.posted
      ∙ (λ k. not (own.unclosed k) && not ((st.threads (own.own.tid_is k)).dying))
      ∙ ap not undying

module _ (m : Running) (st : State) (is : Refines m st) (t q : ℕ) where
  waits : (claimed : Bool) → HasMessageFlags (st.messages q) claimed None false → held_entry m.input st t q (st.messages q).fault ≡ None
  waits claimed come = ap (held_entry m.input st t q) come.fault ∙ ap (λ (b : Bool). cond b (answered_entry m.input st t q (snapshot_in st q)) None) come.answered

  -- a held call that is neither answered nor faulted waits
  pub held_waits : (o : Option MsgState) → IsMessageStateOf m.input st q o → is_live st q ≡ true → ((v : Verdict) → o ≡ Some (Answered v) → ⊥) → ((errno : Errno) → o ≡ Some (Faulted errno) → ⊥) → held_entry m.input st t q (st.messages q).fault ≡ None
  held_waits None come live unanswered unfaulted = absurd (true≢false (sym live ∙ come))
  held_waits (Some Waiting) come live unanswered unfaulted = waits false come.1
  held_waits (Some (Claimed w)) come live unanswered unfaulted = waits true come.1
  held_waits (Some (Answered v)) come live unanswered unfaulted = absurd (unanswered v refl)
  held_waits (Some (Faulted errno)) come live unanswered unfaulted = absurd (unfaulted errno refl)

  -- the step of a held call, by the state of its message
  pub held_is : (o : Option MsgState) → IsMessageStateOf m.input st q o → (step : Step) → IsStepOf m st t q o step → held_entry m.input st t q (st.messages q).fault ≡ step_entry m.input st t step
  held_is None come step x = absurd x
  held_is (Some Waiting) come step x = waits false come.1 ∙ sym x
  held_is (Some (Claimed w)) come step x = waits true come.1 ∙ sym x
  held_is (Some (Faulted errno)) come step x = ap (held_entry m.input st t q) come.1.fault ∙ sym x
  held_is (Some (Answered v)) come step x =
      ap (held_entry m.input st t q) come.1.fault
      ∙ ap (λ (b : Bool). cond b (answered_entry m.input st t q (snapshot_in st q)) None) come.1.answered
      ∙ ap (answered_entry m.input st t q) come.3
      ∙ x come.2 come.3 (sym (judged_now m st is q come.2 come.0 come.3) ∙ sym come.4)

-- ---- a call that is permitted

-- the step by the copies that were sealed, and by the link in the way of their names
pub permitted_is : (m : Running) (st : State) → Refines m st → (t q : ℕ) (ids : Ids) (copies s : Snapshot) (parts : List ArgText) (link : Option Components) (aliasing : Bool)
    → ((i : Input) (state : State) → RepresentsMessages i state (is_live state) m.workers → snapshot_in state q ≡ Some copies)
    → ((i : Input) (state : State) → IsSystem i state m.system → i.options.aliasing ≡ aliasing → link ≡ link_now i state copies.call copies.regs parts) → m.input.options.aliasing ≡ aliasing → parts ≡ copies.parts
    → snapshot_in st q ≡ Some s → Some (permitted_entry m.input st t q s ids (link_now m.input st s.call s.regs s.parts)) ≡ Some (permitted_entry m.input st t q copies ids link)
permitted_is m st is t q ids copies s parts link aliasing sealed met alias same s_is =
    let copies_are : s ≡ copies = same_Some s copies (sym s_is ∙ sealed m.input st is.workers) in
    ap (λ (x : Snapshot). Some (permitted_entry m.input st t q x ids (link_now m.input st x.call x.regs x.parts))) copies_are
    ∙ ap (λ (o : Option Components). Some (permitted_entry m.input st t q copies ids o)) (ap (link_now m.input st copies.call copies.regs) (sym same) ∙ sym (met m.input st is.system alias))

-- the copies that several records share are those of the message
pub shared_are : (m : Running) (q : ℕ) (shared copies : Snapshot) → copies ≡ shared
    → ((i : Input) (state : State) → RepresentsMessages i state (is_live state) m.workers → snapshot_in state q ≡ Some shared)
    → (i : Input) (state : State) → RepresentsMessages i state (is_live state) m.workers → snapshot_in state q ≡ Some copies
shared_are m q shared copies same sealed i state kept = sealed i state kept ∙ ap Some (sym same)

-- what follows from a property of a result that is no error holds of it, too
pub if_ok : {A E : Type 0} (P Q : A → Type 0) (result : Result A E) → ((a : A) → P a → Q a) → IfOk result P → IfOk result Q
if_ok P Q (Ok a) more x = more a x
if_ok P Q (Err e) more x = tt

pub same_state : (a b : MsgState) → Some a ≡ Some b → a ≡ b
same_state a b e = same_Some a b e
