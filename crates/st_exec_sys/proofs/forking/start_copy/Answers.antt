use Rattle.std.proofs.Common.{ℕ, ◌∙◌, ap, subst, Result, Ok, Err, OnOk}
use Rattle.st_model.specs.Processes.{process_at}
use Rattle.st_effects.specs.System.{Request}
use Rattle.st_exec_sys.specs.Execution.{IsSpaceCopied}
use Rattle.st_exec_sys.proofs.forking.start_copy.Goals as goal

-- what holds anyway holds if a call succeeded
on_ok : {T E : Type 0} {P : Type 0} (result : Result T E) → P → OnOk result P
on_ok (Ok value) p = p
on_ok (Err error) p = tt

pub returns-else-is_err-clause-memory : goal.returns-else-is_err-clause-memory
returns-else-is_err-clause-memory c =
    on_ok c.start_child-started.result (subst (λ (from : ℕ). IsSpaceCopied c.args.spaces.now from c.copy_space.new.self) (c.space.ensures ∙ ap (λ (r : Request). (process_at c.args.procs.now r.pid).space) c.request.view_is)
    (record { next = c.in_ok-space.ensures.next; live = c.in_ok-space.ensures.live; bytes = c.in_ok-space.ensures.bytes }))
