use Rattle.std.proofs.Common.{◌∙◌, ap, subst, sym}
use Rattle.st_memory.specs.Memory.{is_space_live}
use Rattle.st_model.specs.Processes.{process_at, thread_at}
use Rattle.st_system.specs.System.{IsSystem}
use Rattle.st_system.proofs.Kept.{pid_owner, stored}
use Rattle.st_system.proofs.system.System.store.Goals as goal
use Rattle.st_system.proofs.system.System.store.Goals.{in-Ok, in-Err-NoMemory}

-- the system represents the state after the store
pub returns-clause-system : goal.returns-clause-system
returns-clause-system c = elim c.match-put_word.branch [
  | in-Ok w ↦ rw w.result-is (λ i st x.
      let owner = pid_owner (thread_at c.self.inside.procs c.args.tid) c.in-Some.pid c.in-Some.ensures.pid in
      stored i st _ (subst (IsSystem i st) (sym c.self.view_is) x) c.args.tid c.args.place c.args.word c.space-space.result c.put_word.new.self
      (c.space-space.ensures ∙ ap (λ p. (process_at c.self.inside.procs p).space) owner)
      (ap (λ s. is_space_live c.self.inside.spaces s) c.space-space.ensures ∙ (c.self.invariant.ready c.in-Some.pid c.in-Some.ensures.there).space)
      w.in-Ok.ensures.ok
      c.put_word.ensures.spaces)
  | in-Err-NoMemory w ↦ rw w.result-is tt
]
