use Rattle.st_law.specs.Machine.{first_state}
use Rattle.st_law.specs.Numbers.{no_numbers}
use Rattle.st_workers.proofs.InUse.{rebased}
use Rattle.st_decide.specs.Machine.{Refines}
use Rattle.st_machine.proofs.Begun.{begun}
use Rattle.st_machine.proofs.machine.Machine.start.Goals as goal

first : (c : goal.In_ok-parts) → Refines (record { input = c.args.input.now; system = c.in_ok-system.system; workers = c.in_ok-parts.parts.workers; threads = c.in_ok-parts.parts.threads.items; answers = c.in_ok-parts.parts.answers; operator = c.in_ok-parts.parts.operator }) (first_state c.args.input.now)
first c =
    begun c.args.input.now c.in_ok-system.system c.in_ok-parts.parts.workers c.in_ok-parts.parts.threads.items c.in_ok-parts.parts.answers c.in_ok-parts.parts.operator c.in_ok-parts.ensures.threads
    c.requires c.in_ok-system.ensures c.in_ok-parts.ensures.workers c.in_ok-parts.ensures.answers c.in_ok-parts.ensures.operator

pub invariant_of-result : goal.invariant_of-result
invariant_of-result c = record { state = first_state c.args.input.now; is = first c }

pub returns-clause-first : goal.returns-clause-first
returns-clause-first c = first c

pub returns-clause-numbers : goal.returns-clause-numbers
returns-clause-numbers c = rebased c.args.input.now (first_state c.args.input.now) c.in_ok-parts.parts.workers (first c).workers no_numbers no_numbers.in_use c.in_ok-parts.ensures.numbers
