use Rattle.std.proofs.Common.{ap, refl}
use Rattle.st_audit.specs.AuditText.{audit}
use Rattle.st_audit.specs.PolicyText.{policy_text}
use Rattle.st_law.specs.Numbers.{largest_number}
use Rattle.st_reached.proofs.NumbersBack.{roomy, trace_back}
use Rattle.st_audit.proofs.LastAnswer.{last_answer}
use Rattle.st_audit.proofs.law.numbers_print_as_their_drawings.Goals as goal

pub returns-clause-audit : goal.returns-clause-audit
returns-clause-audit c = λ input startable trace lawful emulation. ap (λ entries. audit input entries emulation) (trace_back largest_number input startable (roomy input startable) trace lawful)

pub returns-clause-policies : goal.returns-clause-policies
returns-clause-policies c = λ input startable trace lawful emulation. ap (λ entries. policy_text input entries emulation) (trace_back largest_number input startable (roomy input startable) trace lawful)

pub returns-clause-answers : goal.returns-clause-answers
returns-clause-answers c = λ h n made. last_answer h n _ refl made
