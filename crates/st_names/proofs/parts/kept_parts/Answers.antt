use Rattle.std.proofs.Common.{ap, ◌∙◌}
use Rattle.std.specs.List.{filter}
use Rattle.std.proofs.lemmas.Iterator.Consumers.{YieldsList-end, YieldsList-at, YieldsList-from_first}
use Rattle.st_names.specs.Name.{is_component, split_at_slashes}
use Rattle.st_names.proofs.parts.kept_parts.Goals as goal

pub returns : goal.returns
returns c =
    let all = YieldsList-end (YieldsList-at c.into_iter-part-iterator.ensures.into_iter_gives (YieldsList-from_first (λ part. part.now) (λ parts. parts) (split_at_slashes c.args.text.now) c.split_at_slashes-part-items.ensures)) c.loop-part.yielded _ c.loop-part.yielded_by _ _ c.in-None.is c.next.ensures.steps in
    c.loop-part.invariant ∙ ap (filter is_component) all.0
