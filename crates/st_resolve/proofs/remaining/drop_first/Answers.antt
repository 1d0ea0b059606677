use Rattle.std.proofs.Common.{◌∙◌, ◌++◌, ap}
use Rattle.st_names.specs.Name.{Components}
use Rattle.st_resolve.specs.Remaining.{joined_components}
use Rattle.st_resolve.proofs.Joined.{dropped_last}
use Rattle.st_resolve.proofs.remaining.drop_first.Goals as goal

pub returns-in-Some-clause-joined : goal.returns-in-Some-clause-joined
returns-in-Some-clause-joined c =
    c.put_back.ensures.joined ∙ ap (λ (front : Components). front ++ joined_components c.pop.new.self.items) c.drop_first.ensures
    ∙ dropped_last c.args.texts.now.items c.pop.new.self.items c.in-Some.text c.in-Some.ensures.items c.requires
