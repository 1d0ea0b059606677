use Rattle.std.proofs.Common.{◌≡◌, ◌++◌, ◌∙◌, ap, sym, drop, length, map, arith}
use Rattle.std.specs.List.{filter}
use Rattle.std.proofs.lemmas.Iterator.Consumers.{YieldsList-end, YieldsList-at, YieldsList-from_first, YieldsList-so_far, YieldsList-turn}
use Rattle.st_names.specs.Name.{Components, is_component, has_slash, split_at_slashes}
use Rattle.st_names.proofs.Spelled.{plain-parts}
use Rattle.st_arguments.proofs.Fronts.{all_taken, front_of, front_taken}
use Rattle.st_arguments.proofs.links.front_of_name.Goals as goal
use Rattle.st_arguments.proofs.links.front_of_name.Goals.{in-None, in-Some+then-left-eq0}

pub push-requires : goal.push-requires
push-requires c =
    let turn = YieldsList-turn (YieldsList-at c.into_iter-part-iterator.ensures.into_iter_gives (YieldsList-from_first (λ part. part.now) (λ parts. parts) (split_at_slashes c.args.text.now) c.split_at_slashes-part-items.ensures)) c.loop-part.yielded _ c.loop-part.yielded_by _ _ c.in-Some.part c.in-Some.is c.next.ensures.steps in
    ap has_slash turn.1 ∙ plain-parts c.args.text.now (length c.loop-part.yielded) c.in-Some.part.now turn.0

pub returns : goal.returns
returns c = elim c.match-next.branch [
  | in-None w ↦
      let all = YieldsList-end (YieldsList-at c.into_iter-part-iterator.ensures.into_iter_gives (YieldsList-from_first (λ part. part.now) (λ parts. parts) (split_at_slashes c.args.text.now) c.split_at_slashes-part-items.ensures)) c.loop-part.yielded _ c.loop-part.yielded_by _ _ w.in-None.is c.next.ensures.steps in
      sym (all_taken c.args.text.now c.loop-part.name c.args.count c.loop-part.left (sym (c.loop-part.invariant.name_is ∙ ap (filter is_component) all.0)) c.loop-part.invariant.left_is)
  | in-Some+then-left-eq0 w ↦
      let so_far = YieldsList-so_far (YieldsList-at c.into_iter-part-iterator.ensures.into_iter_gives (YieldsList-from_first (λ part. part.now) (λ parts. parts) (split_at_slashes c.args.text.now) c.split_at_slashes-part-items.ensures)) c.loop-part.yielded _ c.loop-part.yielded_by in
      let full : c.args.count ≡ length c.loop-part.name = omega (arith, c.loop-part.invariant.left_is, w.if-left-eq0.true) in
      sym (front_taken c.args.text.now c.loop-part.name _ c.args.count
      (front_of c.args.text.now (map (λ x. x.now) c.loop-part.yielded) (length c.loop-part.yielded) so_far
      ∙ ap (λ (l : Components). l ++ filter is_component (drop (length c.loop-part.yielded) (split_at_slashes c.args.text.now))) (sym c.loop-part.invariant.name_is)) full)
]
