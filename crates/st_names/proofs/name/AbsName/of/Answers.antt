use Rattle.std.proofs.Common.{ap, ◌∙◌, length}
use Rattle.std.specs.List.{filter}
use Rattle.std.proofs.lemmas.Iterator.Consumers.{YieldsList-end, YieldsList-at, YieldsList-from_first, YieldsList-turn}
use Rattle.st_names.specs.Name.{is_component, split_at_slashes, has_slash}
use Rattle.st_names.proofs.Spelled.{plain-parts}
use Rattle.st_names.proofs.name.AbsName.of.Goals as goal

pub push-requires : goal.push-requires
push-requires c =
    let turn = YieldsList-turn (YieldsList-at c.into_iter-part-iterator.ensures.into_iter_gives (YieldsList-from_first (λ part. part.now) (λ parts. parts) (split_at_slashes c.args.text.now) c.split_at_slashes-part-items.ensures)) c.loop-part.yielded _ c.loop-part.yielded_by _ _ c.in-Some.part c.in-Some.is c.next.ensures.steps in
    ap has_slash turn.1 ∙ plain-parts c.args.text.now (length c.loop-part.yielded) c.in-Some.part.now turn.0

pub returns : goal.returns
returns c =
    let all = YieldsList-end (YieldsList-at c.into_iter-part-iterator.ensures.into_iter_gives (YieldsList-from_first (λ part. part.now) (λ parts. parts) (split_at_slashes c.args.text.now) c.split_at_slashes-part-items.ensures)) c.loop-part.yielded _ c.loop-part.yielded_by _ _ c.in-None.is c.next.ensures.steps in
    c.loop-part.invariant ∙ ap (filter is_component) all.0
