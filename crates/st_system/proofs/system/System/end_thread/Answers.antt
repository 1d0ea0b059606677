use native.Mathlib.Omega.{arith}
use Rattle.std.proofs.Common.{◌∙◌, ap, subst, sym}
use Rattle.st_model.specs.Processes.{Processes}
use Rattle.st_system.specs.System.{IsSystem}
use Rattle.st_system.proofs.Ends.{ended}
use Rattle.st_system.proofs.Whole.{rows_stay, whole_end}
use Rattle.st_system.proofs.system.System.end_thread.Goals as goal

pub invariant_of-self : goal.invariant_of-self
invariant_of-self c =
    whole_end _ c.args.tid c.in-Some.pid c.end_thread-is_last.result c.end_thread-is_last.new.self c.close_if.new.fds c.self.invariant c.end_thread-is_last.ensures.ended c.end_thread-is_last.ensures.threads c.close_if.ensures.table c.close_if.ensures.tables

pub returns : goal.returns
returns c = λ i st x.
    let there = c.in-Some.ensures.there in
    ended i st _ (subst (IsSystem i st) (sym c.self.view_is) x) c.args.tid c.in-Some.pid (sym c.in-Some.ensures.pid) (λ zero. let low = there.0 in omega (arith, zero, low))
    c.end_thread-is_last.new.self c.end_thread-is_last.ensures.threads c.end_thread-is_last.result c.end_thread-is_last.ensures.last c.close_if.new.fds c.close_if.ensures.table
    (ap (λ (q : Processes). q.rows) c.end_thread-is_last.ensures.ended ∙ rows_stay c.self.inside.procs c.args.tid)
