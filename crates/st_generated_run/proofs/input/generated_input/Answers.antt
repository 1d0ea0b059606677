use Rattle.std.proofs.Common.{◌≡◌, ◌∙◌, ℕ, List, IfOk, IfErr, subst}
use Rattle.st_generator.specs.Policy.{generated_policy}
use Rattle.st_generator.specs.Script.{generated_script}
use Rattle.st_generated_run.specs.Generated.{IsInputOf, RefusesInput}
use Rattle.st_generated_run.proofs.input.generated_input.Goals as goal

pub returns-clause-generated : goal.returns-clause-generated
returns-clause-generated c =
    let text_is : c.bytes.result.now ≡ generated_script c.args.rounds = c.bytes.ensures ∙ c.in_ok-text.ensures in
    subst (λ (text : List ℕ). IfOk c.input_of.result (IsInputOf generated_policy text)) text_is
    (subst (λ (policy : List ℕ). IfOk c.input_of.result (IsInputOf policy c.bytes.result.now)) c.generated_policy.ensures c.input_of.ensures.meant)

pub returns-clause-refused : goal.returns-clause-refused
returns-clause-refused c =
    let text_is : c.bytes.result.now ≡ generated_script c.args.rounds = c.bytes.ensures ∙ c.in_ok-text.ensures in
    subst (λ (text : List ℕ). IfErr c.input_of.result (RefusesInput generated_policy text)) text_is
    (subst (λ (policy : List ℕ). IfErr c.input_of.result (RefusesInput policy c.bytes.result.now)) c.generated_policy.ensures c.input_of.ensures.refused)
