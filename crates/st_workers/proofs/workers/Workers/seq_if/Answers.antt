use Rattle.std.proofs.Common.{◌≡◌, ◌∙◌, ℕ, Option, true, ap, subst, sym}
use Rattle.std.specs.Prelude.{IfSome}
use Rattle.st_messages.specs.Messages.{is_live_drawing}
use Rattle.st_workers.specs.Numbers.{seq_if}
use Rattle.st_workers.proofs.Numbered.{live_has_seq}
use Rattle.st_workers.proofs.workers.Workers.seq_if.Goals as goal

pub seq-requires : goal.seq-requires
seq-requires c = live_has_seq c.args.self.now.calls c.in-Some.drawing (subst (λ (o : Option ℕ). IfSome o (λ q. is_live_drawing c.args.self.now.calls q ≡ true)) c.in-Some.is c.requires)

pub returns-in-Some : goal.returns-in-Some
returns-in-Some c = sym (ap (seq_if c.args.self.now.calls) c.in-Some.is ∙ c.seq.ensures.seq)

pub returns-in-None : goal.returns-in-None
returns-in-None c = sym (ap (seq_if c.args.self.now.calls) c.in-None.is)
