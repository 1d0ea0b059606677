use Rattle.std.proofs.Common.{◌∙◌, sym, arith, ap, length}
use Rattle.std.specs.Option.{option_map}
use Rattle.st_names.specs.Name.{parts_left}
use Rattle.st_names.proofs.Spelled.{first_part_taken}
use Rattle.st_names.proofs.parts.SlashPartsIterator.next.Goals as goal

pub returns-clause-steps : goal.returns-clause-steps
returns-clause-steps c =
    sym c.self.view_is ∙ ap (λ o. parts_left (option_map (λ t. t.now) o)) c.in_ok-text.was
    ∙ first_part_taken c.in_ok-text.text.now c.split_at.result.0.now c.split_at.result.1.now c.first_slash.result (parts_left (option_map (λ t. t.now) c.after_slash-self-inside.result)) c.first_slash.ensures.place c.split_at.ensures.front c.split_at.ensures.back c.after_slash-self-inside.ensures

pub returns-clause-goes : goal.returns-clause-goes
returns-clause-goes c =
    let fewer = ap length (returns-clause-steps c) in
    record { on = λ _. (tt, tt, omega arith); keeps = tt; rests = λ _. tt }
