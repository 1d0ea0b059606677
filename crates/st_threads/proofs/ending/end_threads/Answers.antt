use native.Mathlib.Omega.{arith}
use Rattle.std.proofs.Common.{◌≡◌, ◌∙◌, ◌<◌, ◌+◌, ◌&&◌, List, suc, ℕ, Some, ap, set, sym, subst, true}
use Rattle.std.proofs.lemmas.Option.{slice_get-get_or}
use Rattle.std.specs.Prelude.{nat_le, slice_get, slice_index_or}
use Rattle.st_workers.specs.UnderWay.{UnderWay}
use Rattle.st_threads.specs.Ending.{HaveEnded, ends_with}
use Rattle.st_threads.specs.Thread.{ThreadRow}
use Rattle.st_threads.proofs.HeldEnds.{all_ended, next_ended, next_lives, next_spared, none_so_far}
use Rattle.st_threads.proofs.ending.end_threads.Goals as goal
use Rattle.st_threads.proofs.ending.end_threads.Goals.{then-ends_with, else-ends_with}

pub loop-i-init : goal.loop-i-init
loop-i-init c = none_so_far (ends_with c.args.system.now.processes c.args.pid c.args.spared) c.args.threads.now c.args.workers.now

pub make_dying-requires : goal.make_dying-requires
make_dying-requires c =
    let end = subst (λ (n : ℕ). c.loop-i.i < n) (sym c.loop-i.invariant.count) c.loop-i-test.true in
    let here : slice_get c.loop-i.threads c.loop-i.i ≡ Some (slice_index_or c.loop-i.threads c.loop-i.i c.index-threads-i.result) = slice_get-get_or c.loop-i.threads c.loop-i.i c.index-threads-i.result end in
    next_lives (ends_with c.args.system.now.processes c.args.pid c.args.spared) c.args.threads.now c.args.workers.now c.loop-i.threads c.loop-i.workers c.loop-i.i c.loop-i.invariant c.requires.calls _ here

pub loop-i-preserved : goal.loop-i-preserved
loop-i-preserved c = elim c.if-ends_with.branch [
  | then-ends_with w ↦
      let next : c.loop-i.i + 1 ≡ suc c.loop-i.i = omega arith in
      let end = subst (λ (n : ℕ). c.loop-i.i < n) (sym c.loop-i.invariant.count) c.loop-i-test.true in
      let row : ThreadRow = slice_index_or c.loop-i.threads c.loop-i.i w.index-threads-i.result in
      let here : slice_get c.loop-i.threads c.loop-i.i ≡ Some row = slice_get-get_or c.loop-i.threads c.loop-i.i w.index-threads-i.result end in
      subst (λ (rows : List ThreadRow). HaveEnded (λ t. nat_le t (c.loop-i.i + 1) && ends_with c.args.system.now.processes c.args.pid c.args.spared t) c.args.threads.now c.args.workers.now rows c.if-ends_with.workers)
      (sym (w.threads-is ∙ ap (set c.loop-i.threads c.loop-i.i) w.make_dying.ensures.thread))
      (subst (λ (left : UnderWay). HaveEnded (λ t. nat_le t (c.loop-i.i + 1) && ends_with c.args.system.now.processes c.args.pid c.args.spared t) c.args.threads.now c.args.workers.now (set c.loop-i.threads c.loop-i.i (record row { dying = true })) left) (sym w.workers-is)
      (next_ended (ends_with c.args.system.now.processes c.args.pid c.args.spared) c.args.threads.now c.args.workers.now c.loop-i.threads c.loop-i.workers c.loop-i.i c.loop-i.invariant
      (ap (ends_with c.args.system.now.processes c.args.pid c.args.spared) (sym next) ∙ sym c.ends_with.ensures ∙ w.if-ends_with.true) row here w.make_dying.new.workers w.make_dying.ensures.kept w.make_dying.ensures.numbers))
  | else-ends_with w ↦
      let next : c.loop-i.i + 1 ≡ suc c.loop-i.i = omega arith in
      subst (λ (rows : List ThreadRow). HaveEnded (λ t. nat_le t (c.loop-i.i + 1) && ends_with c.args.system.now.processes c.args.pid c.args.spared t) c.args.threads.now c.args.workers.now rows c.if-ends_with.workers) (sym w.threads-is)
      (subst (λ (left : UnderWay). HaveEnded (λ t. nat_le t (c.loop-i.i + 1) && ends_with c.args.system.now.processes c.args.pid c.args.spared t) c.args.threads.now c.args.workers.now c.loop-i.threads left) (sym w.workers-is)
      (next_spared (ends_with c.args.system.now.processes c.args.pid c.args.spared) c.args.threads.now c.args.workers.now c.loop-i.threads c.loop-i.workers c.loop-i.i c.loop-i.invariant
      (ap (ends_with c.args.system.now.processes c.args.pid c.args.spared) (sym next) ∙ sym c.ends_with.ensures ∙ w.if-ends_with.false)))
]

pub returns : goal.returns
returns c = all_ended (ends_with c.args.system.now.processes c.args.pid c.args.spared) c.args.threads.now c.args.workers.now c.loop-i.threads c.loop-i.workers c.loop-i.i (let over = c.loop-i-test.false in omega (arith, over)) c.loop-i.invariant
