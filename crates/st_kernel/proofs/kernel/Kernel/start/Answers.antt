use Rattle.std.proofs.Common.{◌≡◌, ◌∙◌, Bool, false, List, [], ap, replicate, rules, subst, sym, true≢false}
use Rattle.std.specs.Prelude.{vec_capacity, vec_len}
use Rattle.st_law.specs.declared.input.Input.{Input}
use Rattle.st_law.specs.Machine.{first_state}
use Rattle.st_law.specs.Numbers.{in_use_now, no_numbers}
use Rattle.st_report.specs.ScheduleText.{spelled_choices}
use Rattle.st_report.specs.declared.schedule.Repeat.{Repeat}
use Rattle.st_workers.specs.Numbers.{HasNumbers}
use Rattle.st_waking.specs.Waking.{is_asleep}
use Rattle.st_kernel.specs.Kernel.{numbers_now}
use Rattle.st_kernel.proofs.Cursors.{nobody_asleep}
use Rattle.st_kernel.proofs.Room.{room_start}
use Rattle.st_kernel.proofs.kernel.Kernel.start.Goals as goal

pub invariant_of-result : goal.invariant_of-result
invariant_of-result c =
    let marks : c.in_ok-asleep.asleep.items ≡ replicate c.len.result false = c.in_ok-asleep.ensures.items_if_clones_equal (λ y same. search rules) in
    let none : c.new.result.items ≡ [] = c.new.ensures.items in (
      record {
        machine = search rules;
        joined = search rules;
        enabled = search rules;
        still = search rules;
        from = search rules;
        to = search rules;
        marked = λ place is. absurd (true≢false (sym is ∙ ap (λ (asleep : List Bool). is_asleep asleep place) marks ∙ nobody_asleep c.len.result place));
        count = search rules;
        numbers = subst (λ (l : List Repeat). HasNumbers (numbers_now c.in_ok-start.field-0.input (spelled_choices l)) c.in_ok-start.field-0.workers.calls) (sym none)
            (subst (λ (i : Input). HasNumbers (in_use_now i (first_state i) no_numbers) c.in_ok-start.field-0.workers.calls) (sym c.in_ok-start.ensures.input) c.in_ok-start.ensures.numbers);
      },
      room_start c.in_ok-start.field-0.input c.new.result.items (vec_len c.new.result) (vec_capacity c.new.result) none c.new.ensures.len,
    )
