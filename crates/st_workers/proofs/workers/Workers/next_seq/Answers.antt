use Rattle.std.proofs.Common.{sym, subst}
use Rattle.st_workers.specs.Numbers.{AreFew}
use Rattle.st_workers.specs.UnderWay.{UnderWay}
use Rattle.st_workers.proofs.Few.{few_in_use}
use Rattle.st_workers.proofs.workers.Workers.next_seq.Goals as goal

pub next_seq-requires : goal.next_seq-requires
next_seq-requires c =
    let kept : UnderWay = record { calls = c.self.inside.messages; slots = c.self.inside.slots; turns = c.self.inside.turns.items } in
    few_in_use kept c.self.invariant.1 c.self.invariant.0.count (subst (λ (k : UnderWay). AreFew k.calls) (sym c.self.view_is) c.requires)
