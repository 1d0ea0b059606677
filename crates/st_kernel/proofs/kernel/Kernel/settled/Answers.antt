use Rattle.st_law.specs.State.{thread_count}
use Rattle.st_trace.specs.declared.entry.Choice.TheVariants.{Thread, Worker}
use Rattle.st_kernel.proofs.Settled.{not_settled, settled_by}
use Rattle.st_kernel.proofs.kernel.Kernel.settled.Goals as goal

pub returns-then-has_thread_enabled : goal.returns-then-has_thread_enabled
returns-then-has_thread_enabled c = not_settled c.args.self.now Thread (thread_count c.args.self.now.input) c.has_thread_enabled.result c.has_thread_enabled.ensures.enabled c.if-has_thread_enabled.true

pub returns-then-has_worker_enabled : goal.returns-then-has_worker_enabled
returns-then-has_worker_enabled c = not_settled c.args.self.now Worker c.args.self.now.input.options.workers c.has_worker_enabled.result c.has_worker_enabled.ensures c.if-has_worker_enabled.true

pub returns : goal.returns
returns c =
    settled_by c.args.self.now c.has_thread_enabled.result c.has_worker_enabled.result c.enabled.result c.has_thread_enabled.ensures.played
    c.has_thread_enabled.ensures.enabled c.if-has_thread_enabled.false c.has_worker_enabled.ensures c.if-has_worker_enabled.false c.enabled.ensures
