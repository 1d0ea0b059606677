use Rattle.std.proofs.Common.{◌∙◌, Bool, Option, ℕ, ap, cond, false, sym, subst}
use Rattle.st_model.specs.Tree.{is_number}
use Rattle.st_reached.proofs.Life.{eqb-sym}
use Rattle.st_workers.specs.Refinement.{RepresentsMessages}
use Rattle.st_threads.specs.Ending.{life_without_number}
use Rattle.st_threads.proofs.ending.end_call.Goals as goal

pub returns-in-Some-clause-kept : goal.returns-in-Some-clause-kept
returns-in-Some-clause-kept c = λ i st alive kept.
    c.cancel.ensures.kept i st.messages st.turns alive (life_without_number alive c.args.drawing) st.posted kept
    (λ other. ap (λ (b : Bool). cond b false (alive other)) (ap (is_number other) c.in-Some.is ∙ eqb-sym c.in-Some.drawing other))

pub returns-in_default-clause-kept : goal.returns-in_default-clause-kept
returns-in_default-clause-kept c = λ i st alive kept. subst (λ (drawing : Option ℕ). RepresentsMessages i st (life_without_number alive drawing) c.args.workers.now) (sym c.in_default.is) kept

pub returns-in_default-clause-numbers : goal.returns-in_default-clause-numbers
returns-in_default-clause-numbers c = λ numbers has. (numbers.in_use, has)
