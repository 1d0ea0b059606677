use Rattle.st_calls.specs.declared.rule.FastAnswer.TheVariants as answers
use Rattle.std.proofs.Common.{◌≡◌, ◌-◌, ◌∙◌, ℕ, Some, ap, set, sym, subst}
use Rattle.st_base.specs.Numbered.{item_at_number}
use Rattle.st_model.specs.Processes.{pid_of}
use Rattle.st_trace.specs.declared.entry.Choice.TheVariants as choice
use Rattle.st_trace.specs.declared.entry.Entry.{Entry}
use Rattle.st_trace.specs.declared.entry.Entry.TheVariants as entry
use Rattle.st_trace.specs.declared.entry.Way.TheVariants.{Held}
use Rattle.st_law.specs.Messages.{new_head}
use Rattle.st_law.specs.State.{State}
use Rattle.st_workers.specs.Refinement.{head_of}
use Rattle.st_workers.proofs.Turns.{read_is}
use Rattle.st_decide.specs.Entering.{IsHeadOf, IsWayOf}
use Rattle.st_decide.specs.Machine.{Refines, IsNextStep, IsDrawnStep, Running, SameState}
use Rattle.st_threads.specs.Thread.{ThreadRow, row_entered}
use Rattle.st_decide.specs.declared.step.NewCall.{NewCall}
use Rattle.st_decide.specs.declared.step.Step.TheVariants as steps
use Rattle.st_steps.proofs.After.{with_parts}
use Rattle.st_steps.proofs.Entered.{held_step, no_number}
use Rattle.st_steps.proofs.Moving.{row_entering}
use Rattle.st_decide.proofs.NextSteps.{owner_is}
use Rattle.st_decide.proofs.FewCalls.{few_calls}
use Rattle.st_steps.proofs.Room.{room_left}
use Rattle.st_steps.proofs.Served.{left_as, on_err, running_stands, running_step, stands_so, with_workers}
use Rattle.st_machine.proofs.Running.{running_of}
use Rattle.st_steps.proofs.EntryNumbers.{held_has}
use Rattle.st_machine.proofs.machine.Machine.enter_held.Goals as goal

pub post-requires-clause-thread : goal.post-requires-clause-thread
post-requires-clause-thread c =
    let m : Running = running_of c.self.inside in
    let next = subst (λ (k : Running). IsNextStep k c.args.tid (steps.Enter c.args.new.now)) (sym c.self.view_is) c.requires.step.next in
    let goes = subst (λ (k : Running). IsWayOf k c.args.tid c.args.new.now (Held k.workers.calls.next)) (sym c.self.view_is) c.requires.way in
    let row = row_entering m c.self.invariant c.args.tid c.args.new.now next in
    no_number m c.args.tid c.args.new.now next row.0 row.1 (Held m.workers.calls.next) goes c.self.invariant.state c.self.invariant.is

pub post-requires-clause-room : goal.post-requires-clause-room
post-requires-clause-room c = room_left (running_of c.self.inside) c.self.invariant.state c.self.invariant.is

pub post-requires-clause-few : goal.post-requires-clause-few
post-requires-clause-few c = few_calls (running_of c.self.inside) c.self.invariant.state c.self.invariant.is

pub post-requires-clause-drawing : goal.post-requires-clause-drawing
post-requires-clause-drawing c = (subst (λ (k : Running). IsHeadOf k c.args.new.now c.in_ok-head.head) (c.view.ensures ∙ sym c.self.view_is) c.in_ok-head.ensures).drawing_is

pub post-requires-clause-seq : goal.post-requires-clause-seq
post-requires-clause-seq c = (subst (λ (k : Running). IsHeadOf k c.args.new.now c.in_ok-head.head) (c.view.ensures ∙ sym c.self.view_is) c.in_ok-head.ensures).seq_is

-- out of memory

pub invariant_of-self : goal.invariant_of-self
invariant_of-self c =
    let m : Running = running_of c.self.inside in
    running_stands m (with_workers m c.post.new.self) c.self.invariant (stands_so m c.post.new.self c.in_err-post.ensures.err c.in_err-post.ensures.unchanged)

pub returns-in_err-post-clause-err : goal.returns-in_err-post-clause-err
returns-in_err-post-clause-err c =
    let m : Running = running_of c.self.inside in
    on_err c.from_residual-in_err-post.result (subst (λ (k : Running). SameState k (with_workers m c.post.new.self)) c.self.view_is (stands_so m c.post.new.self c.in_err-post.ensures.err c.in_err-post.ensures.unchanged))

-- after the message is posted

abbrev old : goal.After-leave → Running
old c = running_of c.self.inside

abbrev call : goal.After-leave → NewCall
call c = c.args.new.now

next : (c : goal.After-leave) → IsNextStep (old c) c.args.tid (steps.Enter (call c))
next c = subst (λ (k : Running). IsNextStep k c.args.tid (steps.Enter (call c))) (sym c.self.view_is) c.requires.step.next

row : (c : goal.After-leave) → (row : ThreadRow) × (item_at_number (old c).threads c.args.tid ≡ Some row)
row c = row_entering (old c) c.self.invariant c.args.tid (call c) (next c)

posted : (c : goal.After-leave) → IsHeadOf (old c) (call c) c.in_ok-head.head
posted c = subst (λ (k : Running). IsHeadOf k (call c) c.in_ok-head.head) (c.view.ensures ∙ sym c.self.view_is) c.in_ok-head.ensures

-- the call is held under the number of its head
goes : (c : goal.After-leave) → IsWayOf (old c) c.args.tid (call c) (Held c.in_ok-head.head.drawing)
goes c = subst (λ (q : ℕ). IsWayOf (old c) c.args.tid (call c) (Held q)) (sym (posted c).drawing_is)
    (subst (λ (k : Running). IsWayOf k c.args.tid (call c) (Held k.workers.calls.next)) (sym c.self.view_is) c.requires.way)

abbrev added : goal.After-leave → Entry
added c = entry.Entered c.args.tid (call c).call (call c).regs (Held c.in_ok-head.head.drawing)

abbrev new : (c : goal.After-leave) → ThreadRow → Running
new c row = with_parts (old c) (old c).system c.post.new.self (set (old c).threads (c.args.tid - 1) row)

put : (c : goal.After-leave) → c.enter.new.self ≡ row_entered (row c).0 (call c).call (call c).regs (Held c.in_ok-head.head.drawing) answers.Ask
put c = c.enter.ensures ∙ ap (λ (r : ThreadRow). row_entered r (call c).call (call c).regs (Held c.in_ok-head.head.drawing) answers.Ask) (read_is (old c).threads c.args.tid (row c).0 c.index_mut.result.now (row c).1 c.index_mut.ensures.value)

-- the head is that of the law's machine
head : (c : goal.After-leave) (st : State) → Refines (old c) st → head_of c.args.tid c.in_ok-head.head ≡ new_head (old c).input c.args.tid (st.threads c.args.tid).owner (st.processes (st.threads c.args.tid).owner) (st.versions (st.processes (st.threads c.args.tid).owner).policy) (call c).call (call c).regs
head c st is =
    let process = ap (λ (k : Running). pid_of k.system.processes c.args.tid) c.self.view_is ∙ c.requires.step.can.process in
    (posted c).law st c.args.tid is ∙ ap (λ (pid : ℕ). new_head (old c).input c.args.tid pid (st.processes pid) (st.versions (st.processes pid).policy) (call c).call (call c).regs) (sym (owner_is (old c) st is c.args.tid (call c).pid process))

step : (c : goal.After-leave) → IsDrawnStep (old c) (choice.Thread c.args.tid) (added c) (new c c.enter.new.self)
step c = subst (λ (r : ThreadRow). IsDrawnStep (old c) (choice.Thread c.args.tid) (added c) (new c r)) (sym (put c))
    (held_step (old c) c.args.tid (call c) (next c) (row c).0 (row c).1 c.in_ok-head.head.drawing (goes c) answers.Ask c.post.new.self c.in_ok-head.head (head c) c.in_ok-post.ensures.kept c.in_ok-post.ensures.numbers)

pub invariant_of-self-2 : goal.invariant_of-self-2
invariant_of-self-2 c = running_step (old c) (new c c.enter.new.self) (choice.Thread c.args.tid) (added c) c.self.invariant (step c)

pub returns-clause-step : goal.returns-clause-step
returns-clause-step c = left_as (old c) _ _ c.self.view_is (choice.Thread c.args.tid) _ _ _ c.leave.ensures (step c)
    (held_has (old c).workers c.self.invariant.is.workers.numbered.calls c.args.tid c.in_ok-head.head.drawing c.in_ok-head.head.seq (call c).call (call c).regs (posted c).seq_is)
