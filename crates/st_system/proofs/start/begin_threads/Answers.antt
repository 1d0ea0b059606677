use native.Mathlib.Omega.{arith}
use Rattle.std.proofs.Common.{◌≡◌, ◌∙◌, ◌<◌, ◌==◌, cond, ◌+◌, ℕ, suc, Some, ap, subst, sym}
use Rattle.std.proofs.lemmas.Option.{slice_get-get_or}
use Rattle.std.specs.Prelude.{slice_get}
use Rattle.st_model.specs.Processes.{next_pid, thread_at}
use Rattle.st_law.specs.Threads.{first_owner}
use Rattle.st_system.specs.Start.{first_thread_of, HaveStarted}
use Rattle.st_system.proofs.Begun.{below_next, none_started, one_more, owner_of_place}
use Rattle.st_system.proofs.start.begin_threads.Goals as goal

pub loop-i-init : goal.loop-i-init
loop-i-init c = none_started c.args.input.now c.args.procs.now c.requires.none

-- the process of the thread is that of its row
owner : (c : goal.After-owner_of) → c.owner_of.result ≡ first_owner c.args.input.now (suc c.loop-i.i)
owner c = c.owner_of.ensures ∙ owner_of_place c.args.input.now c.loop-i.i c.index-rows-i.result
    (ap (λ rows. slice_get rows c.loop-i.i) (sym c.as_slice-rows.ensures) ∙ slice_get-get_or c.as_slice-rows.result.now c.loop-i.i c.index-rows-i.result c.loop-i-test.true ∙ ap Some (sym c.index-rows-i.is))

pub begin-requires-clause-process : goal.begin-requires-clause-process
begin-requires-clause-process c = below_next c.args.procs.now c.loop-i.procs c.owner_of.result c.loop-i.invariant.rows
    (subst (λ (p : ℕ). p < next_pid c.args.procs.now) (sym (owner c)) (c.requires.owners (suc c.loop-i.i)))

pub loop-i-preserved : goal.loop-i-preserved
loop-i-preserved c =
    let made = c.in_ok-begin.ensures in
    let next : c.loop-i.i + 1 ≡ suc c.loop-i.i = omega arith in
    subst (λ (n : ℕ). HaveStarted c.args.input.now n c.args.procs.now c.begin.new.procs) (sym next)
    (one_more c.args.input.now c.loop-i.i c.owner_of.result c.args.procs.now c.loop-i.procs c.begin.new.procs c.loop-i.invariant
    (c.owner_of.ensures ∙ owner_of_place c.args.input.now c.loop-i.i c.index-rows-i.result
    (ap (λ rows. slice_get rows c.loop-i.i) (sym c.as_slice-rows.ensures) ∙ slice_get-get_or c.as_slice-rows.result.now c.loop-i.i c.index-rows-i.result c.loop-i-test.true ∙ ap Some (sym c.index-rows-i.is)))
    made.rows made.ordered (subst (λ (n : ℕ). (t : ℕ) → thread_at c.begin.new.procs t ≡ cond (t == n) (first_thread_of c.owner_of.result) (thread_at c.loop-i.procs t)) next made.threads))
