use Rattle.std.proofs.Common.{◌∙◌, ap}
use Rattle.st_law.specs.declared.input.Input.{Input}
use Rattle.st_monitor.proofs.shared.Shared.new.Goals as goal

pub invariant_of-shared : goal.invariant_of-shared
invariant_of-shared g c = record {
  of_input = c.input-input.ensures ∙ c.requires.input;
  compiled_of = c.in_ok-compiled.ensures ∙ ap (λ (i : Input). i.policies) (c.input-input.ensures ∙ c.requires.input);
}
