use Rattle.std.proofs.Common.{rules}
use Rattle.st_script.specs.Bounds.{IsWithinBounds}
use Rattle.st_script.specs.Startable.{IsRunnableScript}
use Rattle.st_script.proofs.Bounded.{IsBoundedScript, script_is_bounded}
use Rattle.st_script.proofs.Counted.{script_within}
use Rattle.st_script.proofs.FewPolicies.{HasFewFilters, HasFewPolicies, few_filters_read, few_policies}
use Rattle.st_script.proofs.ReadTexts.{result_has}
use Rattle.st_script.proofs.Startable.{script_can_start}
use Rattle.st_script.proofs.reading.read_script.Goals as goal

pub returns-clause-bounds : goal.returns-clause-bounds
returns-clause-bounds c = result_has IsWithinBounds c.args.text.now c.args.options.now c.args.emulation (script_within c.args.text.now c.args.options.now c.args.emulation) c.read_lines.result (search rules)

pub returns-clause-few_filters : goal.returns-clause-few_filters
returns-clause-few_filters c = result_has HasFewFilters c.args.text.now c.args.options.now c.args.emulation (few_filters_read c.args.text.now c.args.options.now c.args.emulation) c.read_lines.result (search rules)

pub returns-clause-few_policies : goal.returns-clause-few_policies
returns-clause-few_policies c = result_has HasFewPolicies c.args.text.now c.args.options.now c.args.emulation (few_policies c.args.text.now c.args.options.now c.args.emulation c.requires) c.read_lines.result (search rules)

pub returns-clause-can_start : goal.returns-clause-can_start
returns-clause-can_start c = result_has IsRunnableScript c.args.text.now c.args.options.now c.args.emulation (script_can_start c.args.text.now c.args.options.now c.args.emulation) c.read_lines.result (search rules)

pub returns-clause-bounded : goal.returns-clause-bounded
returns-clause-bounded c = result_has IsBoundedScript c.args.text.now c.args.options.now c.args.emulation (script_is_bounded c.args.text.now c.args.options.now c.args.emulation) c.read_lines.result (search rules)
