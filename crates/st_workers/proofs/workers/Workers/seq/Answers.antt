use Rattle.std.proofs.Common.{◌<◌, ◌∙◌, ap, subst}
use Rattle.std.specs.Prelude.{is_some}
use Rattle.st_messages.specs.Messages.{seq_of}
use Rattle.st_workers.specs.UnderWay.{UnderWay}
use Rattle.st_workers.proofs.Carried.{below_next, the_value}
use Rattle.st_workers.proofs.workers.Workers.seq.Goals as goal

pub unreachable-requires : goal.unreachable-requires
unreachable-requires c =
    let its = the_value (seq_of c.args.self.now.calls c.args.drawing) c.requires in
    c.in_default.not-Some its.0 (c.seq.ensures ∙ ap (λ (k : UnderWay). seq_of k.calls c.args.drawing) c.self.view_is ∙ its.1)

pub returns-clause-given : goal.returns-clause-given
returns-clause-given c =
    let kept : UnderWay = record { calls = c.self.inside.messages; slots = c.self.inside.slots; turns = c.self.inside.turns.items } in
    subst (λ (k : UnderWay). c.args.drawing < k.calls.next) c.self.view_is (below_next kept.calls c.self.invariant.1.calls c.args.drawing (ap (λ (k : UnderWay). is_some (seq_of k.calls c.args.drawing)) c.self.view_is ∙ c.requires))
