use native.Mathlib.Omega.{arith}
use Rattle.std.proofs.Common.{◌∙◌, ℕ, ap, subst, sym, Some}
use Rattle.std.proofs.lemmas.Option.{slice_get-get_or}
use Rattle.std.specs.Prelude.{slice_get}
use Rattle.st_model.specs.Processes.{processes_after_start}
use Rattle.st_system.specs.Start.{AreFirst}
use Rattle.st_system.proofs.First.{one_more}
use Rattle.st_system.proofs.start.processes_of.Goals as goal

pub loop-i-preserved : goal.loop-i-preserved
loop-i-preserved c =
    let made = c.in_ok-add_process.ensures in
    let row = c.index-rows-i.result in
    subst (λ (n : ℕ). AreFirst c.args.input.now n c.add_process.new.fds c.add_process.new.procs c.add_process.new.spaces) (omega arith)
    (one_more c.args.input.now c.loop-i.i row c.loop-i.fds c.loop-i.procs c.loop-i.spaces c.loop-i.invariant (ap (λ rows. slice_get rows c.loop-i.i) (sym c.as_slice-rows.ensures) ∙ slice_get-get_or c.as_slice-rows.result.now c.loop-i.i row c.loop-i-test.true ∙ ap Some (sym c.index-rows-i.is)) c.add_process.new.fds c.add_process.new.procs c.add_process.new.spaces
    made.table made.tables (made.process ∙ (λ j. processes_after_start c.loop-i.procs (record { traced = row.traced; policy = row.binary; ids = c.first_ids-ids.ensures j; cwd = row.cwd; space = c.loop-i.invariant.next j })))
    made.pids made.spaces made.live made.bytes)
