use Rattle.std.proofs.Common.{◌≡◌, ◌∙◌, List, length, Bool, true, Option, Some, ap, refl, sym, subst, true≢false}
use Rattle.std.specs.Prelude.{vec_capacity, vec_len}
use Rattle.std.proofs.lemmas.List.{with_items_is}
use Rattle.st_filter.specs.Judged.{verdict_under}
use Rattle.st_filter.specs.Policies.{PoliciesValue}
use Rattle.st_trace.specs.declared.entry.Choice.TheVariants.{Worker}
use Rattle.st_trace.specs.declared.entry.Entry.{Entry}
use Rattle.st_report.specs.declared.schedule.Repeat.{Repeat}
use Rattle.st_decide.specs.Machine.{IsStep}
use Rattle.st_waking.specs.Waking.{is_asleep}
use Rattle.st_kernel.specs.Kernel.{RunSoFar, IsRunSoFar, kept_copies}
use Rattle.st_kernel.proofs.Answering.{IsReadyIn, HasAnswered, adds_one, has_answered, has_room, is_ready_in, its_copies, its_entry, keeps_none, room_then, there_then}
use Rattle.st_kernel.proofs.RunsSoFar.{HasWoken, WakesNoOther, course_on}
use Rattle.st_kernel.proofs.WokenBy.{wakes_no_other}
use Rattle.st_kernel.proofs.Working.{answer_task, worker_here}
use Rattle.st_kernel.proofs.kernel.Kernel.answer.Goals as goal

pub returns-in_default : goal.returns-in_default
returns-in_default c = record {
  ok = tt;
  enabled = tt;
  entry = tt;
  kept = tt;
  answered = tt;
  fault = (
    keeps_none c.self.inside.machine c.self.inside.made.items c.self.inside.first c.self.inside.asleep.items c.self.invariant.0 c.args.self.now c.self.view_is c.args.worker c.requires.worker _ (c.machine.view_is ∙ c.view-machine.ensures) c.turn.result.now c.turn.ensures c.in_default.not-Ready,
    refl,
  );
  err = refl;
  place = refl;
}

pub returns-then-not-is_same-clause-fault : goal.returns-then-not-is_same-clause-fault
returns-then-not-is_same-clause-fault c =
    let ready : IsReadyIn c.self.inside.machine c.self.inside.made.items c.self.inside.first c.self.inside.asleep.items c.args.worker c.in-Ready.field-0 c.in-Ready.copies =
    is_ready_in c.self.inside.machine c.self.inside.made.items c.self.inside.first c.self.inside.asleep.items c.self.invariant.0 c.args.self.now c.self.view_is c.args.worker c.requires.worker _ (c.machine.view_is ∙ c.view-machine.ensures) c.turn.result.now c.turn.ensures c.in-Ready.field-0 c.in-Ready.copies c.in-Ready.is in
    let kept : kept_copies c.args.self.now c.args.worker ≡ Some c.in-Ready.copies =
    subst (λ (k : RunSoFar). kept_copies k c.args.worker ≡ Some c.in-Ready.copies) c.self.view_is (its_copies c.self.inside.machine c.self.inside.made.items c.self.inside.first c.self.inside.asleep.items c.args.worker c.in-Ready.field-0 c.in-Ready.copies ready) in
    (c.in-Ready.copies, kept, λ same. true≢false (sym (c.is_same.ensures.1 (c.get.ensures ∙ same ∙ sym c.snapshot.ensures)) ∙ c.if-not-is_same.true), refl)

pub answer-requires-clause-task : goal.answer-requires-clause-task
answer-requires-clause-task c =
    let ready : IsReadyIn c.self.inside.machine c.self.inside.made.items c.self.inside.first c.self.inside.asleep.items c.args.worker c.in-Ready.field-0 c.in-Ready.copies =
    is_ready_in c.self.inside.machine c.self.inside.made.items c.self.inside.first c.self.inside.asleep.items c.self.invariant.0 c.args.self.now c.self.view_is c.args.worker c.requires.worker _ (c.machine.view_is ∙ c.view-machine.ensures) c.turn.result.now c.turn.ensures c.in-Ready.field-0 c.in-Ready.copies c.in-Ready.is in
    answer_task c.self.inside.machine c.args.worker c.in-Ready.field-0 c.in-Ready.copies (worker_here c.self.inside.machine c.self.inside.made.items c.self.inside.first c.self.inside.asleep.items c.self.invariant.0 c.args.self.now c.self.view_is c.args.worker c.requires.worker) ready.turn_is

-- a ready worker's choice adds an entry
pub unreachable-requires : goal.unreachable-requires
unreachable-requires c =
    let ready : IsReadyIn c.self.inside.machine c.self.inside.made.items c.self.inside.first c.self.inside.asleep.items c.args.worker c.in-Ready.field-0 c.in-Ready.copies =
    is_ready_in c.self.inside.machine c.self.inside.made.items c.self.inside.first c.self.inside.asleep.items c.self.invariant.0 c.args.self.now c.self.view_is c.args.worker c.requires.worker _ (c.machine.view_is ∙ c.view-machine.ensures) c.turn.result.now c.turn.ensures c.in-Ready.field-0 c.in-Ready.copies c.in-Ready.is in
    adds_one c.self.inside.machine c.self.inside.made.items c.self.inside.first c.self.inside.asleep.items c.args.worker c.in-Ready.field-0 c.in-Ready.copies ready c.answer.new.self
    (subst (λ (o : Option Entry). IsStep c.self.inside.machine (Worker c.args.worker) o c.answer.new.self) c.in_default-added.is c.answer.ensures.step)

pub note_choice-requires : goal.note_choice-requires
note_choice-requires c =
    let ready : IsReadyIn c.self.inside.machine c.self.inside.made.items c.self.inside.first c.self.inside.asleep.items c.args.worker c.in-Ready.field-0 c.in-Ready.copies =
    is_ready_in c.self.inside.machine c.self.inside.made.items c.self.inside.first c.self.inside.asleep.items c.self.invariant.0 c.args.self.now c.self.view_is c.args.worker c.requires.worker _ (c.machine.view_is ∙ c.view-machine.ensures) c.turn.result.now c.turn.ensures c.in-Ready.field-0 c.in-Ready.copies c.in-Ready.is in
    record { room = has_room c.self.inside.machine c.self.inside.made.items c.self.inside.first c.self.inside.asleep.items c.args.worker c.in-Ready.field-0 c.in-Ready.copies ready (vec_len c.self.inside.made) (vec_capacity c.self.inside.made) c.self.invariant.1 }

pub invariant_of-self : goal.invariant_of-self
invariant_of-self c =
    let ready : IsReadyIn c.self.inside.machine c.self.inside.made.items c.self.inside.first c.self.inside.asleep.items c.args.worker c.in-Ready.field-0 c.in-Ready.copies =
    is_ready_in c.self.inside.machine c.self.inside.made.items c.self.inside.first c.self.inside.asleep.items c.self.invariant.0 c.args.self.now c.self.view_is c.args.worker c.requires.worker _ (c.machine.view_is ∙ c.view-machine.ensures) c.turn.result.now c.turn.ensures c.in-Ready.field-0 c.in-Ready.copies c.in-Ready.is in
    let step : IsStep c.self.inside.machine (Worker c.args.worker) (Some c.in-Some.entry) c.answer.new.self = subst (λ (o : Option Entry). IsStep c.self.inside.machine (Worker c.args.worker) o c.answer.new.self) c.in-Some.is c.answer.ensures.step in
    let written = with_items_is c.self.inside.asleep c.wake.new.asleep (c.wake.ensures.count ∙ c.deref_mut.ensures.len) in
    let has : HasWoken c.answer.new.self c.woken_by-woken.result c.self.inside.first c.self.inside.asleep.items c.cursor-self-inside.result c.wake.new.asleep = record {
      from = c.cursor-self-inside.ensures.from;
      to = c.cursor-self-inside.ensures.to;
      before = c.cursor-self-inside.ensures.before;
      count = c.wake.ensures.count ∙ ap length c.deref_mut.ensures.value;
      marked = λ place is. subst (λ (marks : List Bool). is_asleep marks place ≡ true) c.deref_mut.ensures.value (c.wake.ensures.before place is);
      unwoken = c.wake.ensures.woken;
    } in
    let only : WakesNoOther c.answer.new.self step.0 c.woken_by-woken.result =
    wakes_no_other c.self.inside.machine c.answer.new.self c.self.inside.made.items c.self.inside.first c.self.inside.asleep.items c.self.invariant.0 c.answer.ensures.input (Worker c.args.worker) step.0 step.1 c.in-Some.entry step.2 c.woken_by-woken.result c.woken_by-woken.ensures in
    let on = course_on c.self.inside.machine c.answer.new.self c.self.inside.made.items c.self.inside.first c.self.inside.asleep.items (Worker c.args.worker) step.0 c.woken_by-woken.result c.cursor-self-inside.result c.wake.new.asleep
    c.self.invariant.0 c.answer.ensures.input step.1 only has in
    let noted = subst (λ (l : List Repeat). IsRunSoFar c.answer.new.self l c.cursor-self-inside.result c.wake.new.asleep) (sym c.note_choice.ensures.made) on in (
      subst (IsRunSoFar c.answer.new.self c.note_choice.new.repeats.items c.cursor-self-inside.result) (sym written) noted,
      room_then c.self.inside.machine c.self.inside.made.items c.self.inside.first c.self.inside.asleep.items c.args.worker c.in-Ready.field-0 c.in-Ready.copies ready c.answer.new.self.input c.answer.ensures.input c.note_choice.new.repeats.items c.note_choice.ensures.made
          (vec_len c.self.inside.made) (vec_len c.note_choice.new.repeats) (vec_capacity c.self.inside.made) (vec_capacity c.note_choice.new.repeats) c.note_choice.ensures.length c.note_choice.ensures.capacity c.self.invariant.1,
    )

-- the worker is ready when it answers
ready_here : (c : goal.After-drop-judged-inside) → IsReadyIn c.self.inside.machine c.self.inside.made.items c.self.inside.first c.self.inside.asleep.items c.args.worker c.in-Ready.field-0 c.in-Ready.copies
ready_here c =
    is_ready_in c.self.inside.machine c.self.inside.made.items c.self.inside.first c.self.inside.asleep.items c.self.invariant.0 c.args.self.now c.self.view_is c.args.worker c.requires.worker _ (c.machine.view_is ∙ c.view-machine.ensures) c.turn.result.now c.turn.ensures c.in-Ready.field-0 c.in-Ready.copies c.in-Ready.is

-- what its answer does
answered_here : (c : goal.After-drop-judged-inside) → HasAnswered c.args.self.now c.args.worker c.args.judged c.answer.new.added (there_then c.self.inside.machine c.self.inside.made.items c.self.inside.first c.self.inside.asleep.items c.args.worker c.in-Ready.field-0 c.in-Ready.copies (ready_here c) c.answer.new.self.input c.answer.ensures.input c.note_choice.new.repeats.items c.note_choice.ensures.made)
answered_here c =
    let ready = ready_here c in
    let step : IsStep c.self.inside.machine (Worker c.args.worker) (Some c.in-Some.entry) c.answer.new.self = subst (λ (o : Option Entry). IsStep c.self.inside.machine (Worker c.args.worker) o c.answer.new.self) c.in-Some.is c.answer.ensures.step in
    let same_s : c.in-Ready.copies ≡ c.args.judged.snapshot = sym c.get.ensures ∙ c.is_same.ensures.0 c.if-not-is_same.false ∙ c.snapshot.ensures in
    let verdict_is : c.args.judged.verdict ≡ verdict_under c.self.inside.machine.input.policies c.args.judged.snapshot =
    sym c.verdict.ensures.is ∙ c.verdict.ensures.under ∙ ap (λ (policies : PoliciesValue). verdict_under policies c.args.judged.snapshot) (c.requires.policies ∙ sym (ap (λ (k : RunSoFar). k.input.policies) c.self.view_is)) in
    has_answered c.self.inside.machine c.self.inside.made.items c.self.inside.first c.self.inside.asleep.items c.args.worker c.in-Ready.field-0 c.in-Ready.copies ready c.answer.new.self.input c.answer.ensures.input c.note_choice.new.repeats.items c.note_choice.ensures.made
    c.args.self.now c.self.view_is c.args.judged same_s verdict_is c.in-Some.entry (its_entry c.self.inside.machine c.self.inside.made.items c.self.inside.first c.self.inside.asleep.items c.args.worker c.in-Ready.field-0 c.in-Ready.copies ready c.in-Some.entry c.answer.new.self step) c.answer.new.added c.in-Some.is

pub returns-clause-ok : goal.returns-clause-ok
returns-clause-ok c = (answered_here c).ok

pub returns-clause-kept : goal.returns-clause-kept
returns-clause-kept c = (answered_here c).kept

pub returns-clause-answered : goal.returns-clause-answered
returns-clause-answered c = (answered_here c).answered

pub returns-clause-enabled : goal.returns-clause-enabled
returns-clause-enabled c = (answered_here c).enabled

pub returns-clause-entry : goal.returns-clause-entry
returns-clause-entry c = (answered_here c).entry
