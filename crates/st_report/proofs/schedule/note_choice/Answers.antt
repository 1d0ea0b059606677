use Rattle.std.proofs.Common.{◌≡◌, ◌-◌, ◌++◌, ◌∷◌, [], ◌∙◌, rules}
use Rattle.st_report.specs.ScheduleText.{repeat_of, repeats_with}
use Rattle.st_report.proofs.Repeats.{last_grown, last_kept, none_kept}
use Rattle.st_report.proofs.schedule.note_choice.Goals as goal
use Rattle.st_report.proofs.schedule.note_choice.Goals.{else-count-gt0-via-then-count-gt0+else-joins, else-count-gt0-via-else-count-gt0}

pub returns-then-joins-clause-made : goal.returns-then-joins-clause-made
returns-then-joins-clause-made c =
    last_grown c.args.repeats.now.items (c.len-count.result - 1) c.index.result.now c.index_mut.result.now c.args.choice (search rules) (search rules) (search rules) (search rules)

pub returns-else-count-gt0-clause-made : goal.returns-else-count-gt0-clause-made
returns-else-count-gt0-clause-made c =
    let items = c.args.repeats.now.items in
    let following : items ++ repeat_of c.args.choice 1 ∷ [] ≡ repeats_with items c.args.choice = elim c.else-count-gt0.branch [
      | else-count-gt0-via-then-count-gt0+else-joins w ↦ last_kept items (c.len-count.result - 1) w.index.result.now c.args.choice (search rules) (search rules) (search rules)
      | else-count-gt0-via-else-count-gt0 w ↦ none_kept items c.args.choice (search rules)
    ] in
    c.push_reserved.ensures.items ∙ following
