use Rattle.std.proofs.Common.{◌≡◌, ◌∙◌, ◌≤◌, ℕ, arith, length, Some, ap, sym}
use Rattle.st_workers.specs.Tasks.{task_of, IsBusy}
use Rattle.st_workers.specs.UnderWay.{turn_of_worker, UnderWay}
use Rattle.st_workers.specs.declared.turn.Turn.TheVariants.{Working}
use Rattle.std.proofs.Common.{subst}
use Rattle.st_workers.proofs.Tasks.{busy_works}
use Rattle.st_workers.proofs.Turns.{number_within, read_is}
use Rattle.st_workers.proofs.workers.Workers.drawing_at.Goals as goal

-- the number that the worker is at
module _ (kept then : UnderWay) (same : kept ≡ then) (worker : ℕ) (busy : IsBusy (task_of then worker)) where
  at : (drawing : ℕ) × (turn_of_worker kept worker ≡ Some (Working drawing))
  at = busy_works kept (turn_of_worker kept worker) (subst (λ (k : UnderWay). IsBusy (task_of k worker)) (sym same) busy)

  within : (1 ≤ worker) × (worker ≤ length kept.turns)
  within = number_within kept.turns worker (Working at.0) at.1

pub overflow_sub-worker : goal.overflow_sub-worker
overflow_sub-worker c = (within (record { calls = c.self.inside.messages; slots = c.self.inside.slots; turns = c.self.inside.turns.items }) c.args.self.now c.self.view_is c.args.worker c.requires).0

pub index-requires : goal.index-requires
index-requires c =
    let there = within (record { calls = c.self.inside.messages; slots = c.self.inside.slots; turns = c.self.inside.turns.items }) c.args.self.now c.self.view_is c.args.worker c.requires in
    let from = there.0 in
    let to = there.1 in
    omega (arith, from, to)

pub unreachable-requires : goal.unreachable-requires
unreachable-requires c =
    let kept : UnderWay = record { calls = c.self.inside.messages; slots = c.self.inside.slots; turns = c.self.inside.turns.items } in
    let its = at kept c.args.self.now c.self.view_is c.args.worker c.requires in
    c.in_default.not-Working its.0 (read_is kept.turns c.args.worker (Working its.0) c.index.result.now its.1 c.index.ensures)

pub returns : goal.returns
returns c =
    let kept : UnderWay = record { calls = c.self.inside.messages; slots = c.self.inside.slots; turns = c.self.inside.turns.items } in
    let its = at kept c.args.self.now c.self.view_is c.args.worker c.requires in
    sym (ap (λ (k : UnderWay). turn_of_worker k c.args.worker) c.self.view_is) ∙ its.1 ∙ ap Some (sym (read_is kept.turns c.args.worker (Working its.0) c.index.result.now its.1 c.index.ensures) ∙ c.in-Working.is)
