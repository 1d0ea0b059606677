use Rattle.std.proofs.Common.{◌∙◌, sym, arith, ap, length}
use Rattle.st_names.proofs.Spelled.{part_taken}
use Rattle.st_names.proofs.name.NamePartsIterator.next.Goals as goal

pub invariant_of-self : goal.invariant_of-self
invariant_of-self c =
    (part_taken c.self.inside.text.now c.in_ok-text.text.now c.split_at.result.0.now c.split_at.result.1.now c.in_ok-text.field-0-0.now c.first_slash.result c.in_ok-text.ensures.cases.0 c.self.invariant c.first_slash.ensures.place c.split_at.ensures.front c.split_at.ensures.back).0

pub returns-clause-steps : goal.returns-clause-steps
returns-clause-steps c =
    sym c.self.view_is ∙ (part_taken c.self.inside.text.now c.in_ok-text.text.now c.split_at.result.0.now c.split_at.result.1.now c.in_ok-text.field-0-0.now c.first_slash.result c.in_ok-text.ensures.cases.0 c.self.invariant c.first_slash.ensures.place c.split_at.ensures.front c.split_at.ensures.back).1

pub returns-clause-goes : goal.returns-clause-goes
returns-clause-goes c =
    let fewer = ap length (returns-clause-steps c) in
    record { on = λ _. (tt, tt, omega arith); keeps = tt; rests = λ _. tt }
