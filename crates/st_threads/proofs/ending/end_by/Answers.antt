use Rattle.std.proofs.Common.{false, subst, sym}
use Rattle.st_trace.specs.declared.entry.Change.{Change}
use Rattle.st_threads.specs.Ending.{HaveEnded, is_end_of}
use Rattle.st_threads.proofs.HeldEnds.{ended_as, ends_none, none_ended}
use Rattle.st_threads.proofs.ending.end_by.Goals as goal

pub returns-in-Dying : goal.returns-in-Dying
returns-in-Dying c = subst (λ (change : Change). HaveEnded (λ t. is_end_of c.args.system.now.processes c.args.caller.tid c.args.caller.pid t change) c.args.threads.now c.args.workers.now c.end_threads.new.threads c.end_threads.new.workers) (sym c.in-Dying.is) c.end_threads.ensures

pub returns-in-Execed : goal.returns-in-Execed
returns-in-Execed c = subst (λ (change : Change). HaveEnded (λ t. is_end_of c.args.system.now.processes c.args.caller.tid c.args.caller.pid t change) c.args.threads.now c.args.workers.now c.end_threads-in-Execed.new.threads c.end_threads-in-Execed.new.workers) (sym c.in-Execed.is) c.end_threads-in-Execed.ensures

pub returns-in_default : goal.returns-in_default
returns-in_default c = ended_as (λ t. false) (λ t. is_end_of c.args.system.now.processes c.args.caller.tid c.args.caller.pid t c.args.change.now)
    (λ t. sym (ends_none c.args.system.now.processes c.args.caller.tid c.args.caller.pid t c.args.change.now c.in_default.not-Dying c.in_default.not-Execed)) c.args.threads.now c.args.workers.now c.args.threads.now c.args.workers.now (none_ended c.args.threads.now c.args.workers.now)
