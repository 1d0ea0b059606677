use Rattle.std.proofs.Common.{◌∙◌, ap, arith, Some, sym}
use Rattle.st_workers.specs.Tasks.{task_of}
use Rattle.st_workers.specs.UnderWay.{turn_of_worker, UnderWay}
use Rattle.st_workers.specs.declared.turn.Turn.TheVariants.{Ready}
use Rattle.st_workers.proofs.Tasks.{answers_ready}
use Rattle.st_workers.proofs.Turns.{read_is}
use Rattle.st_workers.proofs.workers.Workers.copies.Goals as goal

pub index-requires : goal.index-requires
index-requires c =
    let from = c.requires.worker.0 in
    let to = c.requires.worker.1 in
    let same = ap (λ (k : UnderWay). k.calls.workers) c.self.view_is in
    let count = c.self.invariant.0.count in
    omega (arith, from, to, same, count)

pub unreachable-requires : goal.unreachable-requires
unreachable-requires c =
    let kept : UnderWay = record { calls = c.self.inside.messages; slots = c.self.inside.slots; turns = c.self.inside.turns.items } in
    let ready = answers_ready kept c.self.invariant.0 c.args.worker (ap (λ (k : UnderWay). task_of k c.args.worker) c.self.view_is ∙ c.requires.task) in
    c.in_default.not-Ready ready.0 ready.1 (read_is kept.turns c.args.worker (Ready ready.0 ready.1) c.index.result.now ready.2 c.index.ensures)

pub returns : goal.returns
returns c =
    let kept : UnderWay = record { calls = c.self.inside.messages; slots = c.self.inside.slots; turns = c.self.inside.turns.items } in
    let ready = answers_ready kept c.self.invariant.0 c.args.worker (ap (λ (k : UnderWay). task_of k c.args.worker) c.self.view_is ∙ c.requires.task) in (
      c.in-Ready.field-0,
      sym (ap (λ (k : UnderWay). turn_of_worker k c.args.worker) c.self.view_is) ∙ ready.2
          ∙ ap Some (sym (read_is kept.turns c.args.worker (Ready ready.0 ready.1) c.index.result.now ready.2 c.index.ensures) ∙ c.in-Ready.is ∙ ap (Ready c.in-Ready.field-0) (sym c.get.ensures)),
    )
