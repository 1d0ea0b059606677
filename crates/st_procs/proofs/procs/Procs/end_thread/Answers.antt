use Rattle.std.proofs.Common.{◌∙◌, ap, subst, sym}
use Rattle.st_model.specs.Processes.{Processes, is_process_live}
use Rattle.st_procs.specs.Laws.{ThreadEnds}
use Rattle.st_procs.proofs.Live.{last_iff, threads_end}
use Rattle.st_procs.proofs.procs.Procs.end_thread.Goals as goal

pub returns-clause-threads : goal.returns-clause-threads
returns-clause-threads c = subst (ThreadEnds c.args.self.now c.args.tid) (sym c.finish-pid.ensures.ended) (threads_end c.args.self.now c.args.tid)

pub returns-clause-last : goal.returns-clause-last
returns-clause-last c =
    let f = c.finish-pid.ensures in
    last_iff c.args.self.now c.args.tid c.finish-pid.result f.ordered f.pid f.there c.alive.result (c.alive.ensures.live ∙ ap (λ (p : Processes). is_process_live p c.finish-pid.result) f.ended)
