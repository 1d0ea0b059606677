use Rattle.st_calls.specs.Call.{rule_of}
use Rattle.st_law.proofs.Asked as asked
use Rattle.st_law.proofs.meaning.what_the_kernel_answers_by_itself.Goals as goal

pub returns-clause-permits : goal.returns-clause-permits
returns-clause-permits c = λ i st process call regs. asked.permits i st process.policy (rule_of call regs i.options.aliasing)

pub returns-clause-refuses : goal.returns-clause-refuses
returns-clause-refuses c = λ i st process call regs errno. asked.refuses i st process.policy (rule_of call regs i.options.aliasing) errno
