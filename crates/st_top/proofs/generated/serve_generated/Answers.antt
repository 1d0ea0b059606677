use Rattle.std.proofs.Common.{subst, sym}
use Rattle.st_top.specs.Generated.{EndsGenerated}
use Rattle.st_top.specs.declared.status.Status.{Status}
use Rattle.st_top.proofs.GenMeaning.{refused_end}
use Rattle.st_top.proofs.generated.serve_generated.Goals as goal

pub returns-clause-ends : goal.returns-clause-ends
returns-clause-ends g c =
    let sink = g.S.Sink.faults c.args.out.now in
    let written = g.S.Sink.written c.args.out.now in
    subst (λ (status : Status). EndsGenerated c.args.rounds sink sink written written status) (sym c.from.ensures)
    (refused_end c.args.rounds sink written c.in-Err.refusal c.in-Err.ensures.refused)
