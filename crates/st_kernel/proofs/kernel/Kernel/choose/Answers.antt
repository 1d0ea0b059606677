use native.Mathlib.Omega.{arith}
use Rattle.std.proofs.Common.{◌≡◌, ◌∙◌, ℕ, List, Bool, true, length, Option, Some, None, ap, refl, sym, subst}
use Rattle.std.specs.Prelude.{vec_capacity, vec_len}
use Rattle.st_law.specs.declared.input.Input.{Input}
use Rattle.st_waking.specs.Waking.{is_asleep}
use Rattle.st_kernel.proofs.Room.{room_kept, room_made}
use Rattle.std.specs.Prelude.{OnErr, Result, Ok, Err}
use Rattle.std.proofs.lemmas.List.{with_items_is}
use Rattle.st_trace.specs.declared.entry.Entry.{Entry}
use Rattle.st_law.specs.Machine.{entry_of}
use Rattle.st_report.specs.ScheduleText.{repeats_with, spelled_choices}
use Rattle.st_report.specs.declared.schedule.Repeat.{Repeat}
use Rattle.st_decide.specs.Machine.{IsStep, Running}
use Rattle.st_kernel.specs.Kernel.{RunSoFar, IsRunSoFar, numbered_next, state_in, with_choice}
use Rattle.st_kernel.proofs.RunsSoFar.{HasWoken, WakesNoOther, course_on, course_same, given_is, spelled_more}
use Rattle.st_kernel.proofs.WokenBy.{wakes_no_other}
use Rattle.st_kernel.proofs.kernel.Kernel.choose.Goals as goal

-- a proposition that holds also holds on an error
on_err : {A E P : Type 0} (result : Result A E) → P → OnErr result P
on_err (Ok a) x = tt
on_err (Err e) x = x

-- reserving room in a list keeps its items
kept_in : (m : Running) (kept kept_then : List Repeat) (first : ℕ) (asleep : List Bool) → kept_then ≡ kept → IsRunSoFar m kept first asleep → IsRunSoFar m kept_then first asleep
kept_in m kept kept_then first asleep same so_far = subst (λ (l : List Repeat). IsRunSoFar m l first asleep) (sym same) so_far

-- there are as many workers as the input says, before and after
workers_are : (new seen old : Running) (workers : ℕ) → new.input ≡ old.input → seen ≡ old → workers ≡ seen.input.options.workers → new.input.options.workers ≡ workers
workers_are new seen old workers same view is = ap (λ (i : Input). i.options.workers) same ∙ sym (ap (λ (m : Running). m.input.options.workers) view) ∙ sym is

-- out of memory for the room, all is as it was
pub invariant_of-self : goal.invariant_of-self
invariant_of-self c = (
  kept_in c.self.inside.machine c.self.inside.made.items c.reserve.new.self.items c.self.inside.first c.self.inside.asleep.items c.reserve.ensures.items c.self.invariant.0,
  room_kept (record { input = c.self.inside.machine.input; choices = spelled_choices c.self.inside.made.items }) (record { input = c.self.inside.machine.input; choices = spelled_choices c.reserve.new.self.items })
      (vec_len c.self.inside.made) (vec_len c.reserve.new.self) (vec_capacity c.self.inside.made) (vec_capacity c.reserve.new.self)
      (ap (λ (l : List Repeat). record { input = c.self.inside.machine.input; choices = spelled_choices l }) c.reserve.ensures.items) c.reserve.ensures.len c.reserve.ensures.capacity c.self.invariant.1,
)

pub invariant_of-self-in_err-choose : goal.invariant_of-self-in_err-choose
invariant_of-self-in_err-choose c =
    let so_far = kept_in c.choose.new.self c.self.inside.made.items c.reserve.new.self.items c.self.inside.first c.self.inside.asleep.items c.reserve.ensures.items
    (course_same c.self.inside.machine c.choose.new.self c.self.inside.made.items c.self.inside.first c.self.inside.asleep.items c.self.invariant.0 c.choose.ensures.input (c.in_err-choose.ensures.err _ c.self.invariant.0.machine).0 (c.in_err-choose.ensures.err _ c.self.invariant.0.machine).1) in (
      so_far,
      room_made (record { input = c.choose.new.self.input; choices = spelled_choices c.reserve.new.self.items }) c.worker_count.result (vec_len c.reserve.new.self) (vec_len c.reserve.new.self) (vec_capacity c.reserve.new.self) (vec_capacity c.reserve.new.self)
          (workers_are c.choose.new.self c.view.result c.self.inside.machine c.worker_count.result c.choose.ensures.input c.view.ensures c.worker_count.ensures.input) c.in_ok-reserve.ensures.ok (omega arith) refl,
    )

pub returns-in_err-choose-clause-err : goal.returns-in_err-choose-clause-err
returns-in_err-choose-clause-err c = on_err c.from_residual-in_err-choose.result ((λ k. record { input = c.choose.ensures.input k; choices = spelled_choices (c.reserve.ensures.items k) }) ∙ c.self.view_is)

pub invariant_of-self-in-Some : goal.invariant_of-self-in-Some
invariant_of-self-in-Some c =
    let step : IsStep c.self.inside.machine c.args.choice (Some c.in-Some.entry) c.choose.new.self = subst (λ (o : Option Entry). IsStep c.self.inside.machine c.args.choice o c.choose.new.self) c.in-Some.is c.in_ok-choose.ensures.step in
    let written = with_items_is c.self.inside.asleep c.wake.new.asleep (c.wake.ensures.count ∙ c.deref_mut.ensures.len) in
    let has : HasWoken c.choose.new.self c.woken_by-woken.result c.self.inside.first c.self.inside.asleep.items c.cursor-self-inside.result c.wake.new.asleep = record {
      from = c.cursor-self-inside.ensures.from;
      to = c.cursor-self-inside.ensures.to;
      before = c.cursor-self-inside.ensures.before;
      count = c.wake.ensures.count ∙ ap length c.deref_mut.ensures.value;
      marked = λ place is. subst (λ (marks : List Bool). is_asleep marks place ≡ true) c.deref_mut.ensures.value (c.wake.ensures.before place is);
      unwoken = c.wake.ensures.woken;
    } in
    let only : WakesNoOther c.choose.new.self step.0 c.woken_by-woken.result =
    wakes_no_other c.self.inside.machine c.choose.new.self c.self.inside.made.items c.self.inside.first c.self.inside.asleep.items c.self.invariant.0 c.choose.ensures.input c.args.choice step.0 step.1 c.in-Some.entry step.2 c.woken_by-woken.result c.woken_by-woken.ensures in
    let so_far = kept_in c.choose.new.self (repeats_with c.self.inside.made.items c.args.choice) c.note_choice.new.repeats.items c.cursor-self-inside.result _
    (c.note_choice.ensures.made ∙ ap (λ (l : List Repeat). repeats_with l c.args.choice) c.reserve.ensures.items)
    (subst (IsRunSoFar c.choose.new.self (repeats_with c.self.inside.made.items c.args.choice) c.cursor-self-inside.result) (sym written)
    (course_on c.self.inside.machine c.choose.new.self c.self.inside.made.items c.self.inside.first c.self.inside.asleep.items c.args.choice step.0 c.woken_by-woken.result c.cursor-self-inside.result c.wake.new.asleep
    c.self.invariant.0 c.choose.ensures.input step.1 only has)) in (
      so_far,
      room_made (record { input = c.choose.new.self.input; choices = spelled_choices c.note_choice.new.repeats.items }) c.worker_count.result (vec_len c.reserve.new.self) (vec_len c.note_choice.new.repeats) (vec_capacity c.reserve.new.self) (vec_capacity c.note_choice.new.repeats)
          (workers_are c.choose.new.self c.view.result c.self.inside.machine c.worker_count.result c.choose.ensures.input c.view.ensures c.worker_count.ensures.input) c.in_ok-reserve.ensures.ok c.note_choice.ensures.length c.note_choice.ensures.capacity,
    )

pub returns-in-Some-clause-chosen : goal.returns-in-Some-clause-chosen
returns-in-Some-clause-chosen c =
    let step : IsStep c.self.inside.machine c.args.choice (Some c.in-Some.entry) c.choose.new.self = subst (λ (o : Option Entry). IsStep c.self.inside.machine c.args.choice o c.choose.new.self) c.in-Some.is c.in_ok-choose.ensures.step in
    let all = ap spelled_choices (c.note_choice.ensures.made ∙ ap (λ (l : List Repeat). repeats_with l c.args.choice) c.reserve.ensures.items) ∙ spelled_more c.self.inside.made.items c.args.choice c.self.invariant.0.joined in (
      step.0,
      ap Some (given_is c.self.inside.machine c.self.inside.made.items c.self.inside.first c.self.inside.asleep.items c.self.invariant.0 step.0 c.in-Some.entry step.2 ∙ ap (λ (so_far : RunSoFar). numbered_next so_far step.0) c.self.view_is),
      subst (λ (so_far : RunSoFar). entry_of so_far.input (state_in so_far) c.args.choice ≡ Some step.0) c.self.view_is (step.1 _ c.self.invariant.0.machine).0,
      (λ k. record { input = c.choose.ensures.input k; choices = all k }) ∙ ap (λ (so_far : RunSoFar). with_choice so_far c.args.choice) c.self.view_is,
    )

pub invariant_of-self-in-None : goal.invariant_of-self-in-None
invariant_of-self-in-None c =
    let step : IsStep c.self.inside.machine c.args.choice None c.choose.new.self = subst (λ (o : Option Entry). IsStep c.self.inside.machine c.args.choice o c.choose.new.self) c.in-None.is c.in_ok-choose.ensures.step in
    let so_far = kept_in c.choose.new.self c.self.inside.made.items c.reserve.new.self.items c.self.inside.first c.self.inside.asleep.items c.reserve.ensures.items
    (course_same c.self.inside.machine c.choose.new.self c.self.inside.made.items c.self.inside.first c.self.inside.asleep.items c.self.invariant.0 c.choose.ensures.input (step _ c.self.invariant.0.machine).1 (step _ c.self.invariant.0.machine).2) in (
      so_far,
      room_made (record { input = c.choose.new.self.input; choices = spelled_choices c.reserve.new.self.items }) c.worker_count.result (vec_len c.reserve.new.self) (vec_len c.reserve.new.self) (vec_capacity c.reserve.new.self) (vec_capacity c.reserve.new.self)
          (workers_are c.choose.new.self c.view.result c.self.inside.machine c.worker_count.result c.choose.ensures.input c.view.ensures c.worker_count.ensures.input) c.in_ok-reserve.ensures.ok (omega arith) refl,
    )

pub returns-in-None-clause-chosen : goal.returns-in-None-clause-chosen
returns-in-None-clause-chosen c =
    let step : IsStep c.self.inside.machine c.args.choice None c.choose.new.self = subst (λ (o : Option Entry). IsStep c.self.inside.machine c.args.choice o c.choose.new.self) c.in-None.is c.in_ok-choose.ensures.step in (
      c.in-None.is,
      subst (λ (so_far : RunSoFar). entry_of so_far.input (state_in so_far) c.args.choice ≡ None) c.self.view_is (step _ c.self.invariant.0.machine).0,
      (λ k. record { input = c.choose.ensures.input k; choices = spelled_choices (c.reserve.ensures.items k) }) ∙ c.self.view_is,
    )
