use Rattle.std.proofs.Common.{◌∙◌}
use Rattle.st_calls.specs.Call.{every_rule}
use Rattle.st_calls.proofs.Rules.{found_by_length}
use Rattle.st_calls.proofs.rule.rules_of_len.Goals as goal

pub returns-in-3 : goal.returns-in-3
returns-in-3 c = λ word e. found_by_length word 3 (e ∙ c.in-3.is) every_rule

pub returns-in-4 : goal.returns-in-4
returns-in-4 c = λ word e. found_by_length word 4 (e ∙ c.in-4.is) every_rule

pub returns-in-5 : goal.returns-in-5
returns-in-5 c = λ word e. found_by_length word 5 (e ∙ c.in-5.is) every_rule

pub returns-in-6 : goal.returns-in-6
returns-in-6 c = λ word e. found_by_length word 6 (e ∙ c.in-6.is) every_rule

pub returns-in-7 : goal.returns-in-7
returns-in-7 c = λ word e. found_by_length word 7 (e ∙ c.in-7.is) every_rule

pub returns-in-8 : goal.returns-in-8
returns-in-8 c = λ word e. found_by_length word 8 (e ∙ c.in-8.is) every_rule
