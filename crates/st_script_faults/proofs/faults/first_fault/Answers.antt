use Rattle.std.proofs.Common.{◌≡◌, IfOk, subst}
use Rattle.st_script_faults.specs.Faults.{first_fault}
use Rattle.st_script_names.specs.Names.{Names}
use Rattle.st_script_faults.proofs.faults.first_fault.Goals as goal

pub returns-clause-fault : goal.returns-clause-fault
returns-clause-fault c = subst (λ (names : Names). IfOk c.fault_among.result (λ fault. fault ≡ first_fault c.args.whole.now names c.args.lines.now)) c.new-above.ensures c.fault_among.ensures.fault
