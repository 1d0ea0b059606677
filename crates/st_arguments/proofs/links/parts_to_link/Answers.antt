use Rattle.std.proofs.Common.{◌≡◌, ◌+◌, ◌++◌, ◌∷◌, [], ◌∙◌, ap, refl, sym, subst, length, map, take, append-nil, rules, arith, None, Some, ◌&&◌, cond, true, false}
use Rattle.std.specs.List.{filter}
use Rattle.std.specs.Option.{option_map}
use Rattle.std.proofs.lemmas.Iterator.Consumers.{YieldsList-end, YieldsList-at, YieldsList-from_first, YieldsList-so_far, YieldsList-turn}
use Rattle.std.proofs.lemmas.List.{map-append}
use Rattle.st_law.specs.Arguments.{is_link_node, link_on_way}
use Rattle.st_model.specs.Tree.{node_of_number}
use Rattle.st_names.specs.Name.{Components, components_of, is_component, split_at_slashes}
use Rattle.st_arguments.proofs.Fronts.{front_at, front-push, front_short, front_taken}
use Rattle.st_arguments.proofs.WayDown.{come_first, come_last, come_lost, come_on, come_to_link, HasCome}
use Rattle.st_arguments.proofs.links.parts_to_link.Goals as goal
use Rattle.st_arguments.proofs.links.parts_to_link.Goals.{else-follow-via-then-follow+else-is_link-2, else-follow-via-else-follow}

pub loop-part-init : goal.loop-part-init
loop-part-init c = come_first c.args.tree.now c.args.follow c.root-obj.result c.root-obj.ensures.object c.root-obj.ensures.made c.root-obj.ensures.directory

pub returns-then-is_link : goal.returns-then-is_link
returns-then-is_link c =
    let turn = YieldsList-turn (YieldsList-at c.into_iter-part-iterator.ensures.into_iter_gives (YieldsList-from_first (λ part. part.now) (λ parts. parts) (split_at_slashes c.args.text.now) c.split_at_slashes-part-items.ensures)) c.loop-part.yielded _ c.loop-part.yielded_by _ _ c.in-Some.part c.in-Some.is c.next.ensures.steps in
    let so_far = YieldsList-so_far (YieldsList-at c.into_iter-part-iterator.ensures.into_iter_gives (YieldsList-from_first (λ part. part.now) (λ parts. parts) (split_at_slashes c.args.text.now) c.split_at_slashes-part-items.ensures)) c.loop-part.yielded _ c.loop-part.yielded_by in
    let split = front_at c.args.text.now (map (λ x. x.now) c.loop-part.yielded) (length c.loop-part.yielded) so_far c.in-Some.part.now turn.0 turn.1 (sym c.is_component.ensures ∙ c.if-not-is_component.false) in
    ap (link_on_way c.args.tree.now c.args.follow) split
    ∙ come_to_link c.args.tree.now c.args.follow (filter is_component (map (λ x. x.now) c.loop-part.yielded)) c.loop-part.count c.loop-part.obj c.loop-part.invariant c.in-Some.part.now _ (sym c.if-is_link.true ∙ c.is_link.ensures)
    ∙ ap Some (sym (front_taken c.args.text.now (filter is_component (map (λ x. x.now) c.loop-part.yielded)) _ c.loop-part.count split c.loop-part.invariant.count_is))

pub returns-in_err-obj : goal.returns-in_err-obj
returns-in_err-obj c =
    let turn = YieldsList-turn (YieldsList-at c.into_iter-part-iterator.ensures.into_iter_gives (YieldsList-from_first (λ part. part.now) (λ parts. parts) (split_at_slashes c.args.text.now) c.split_at_slashes-part-items.ensures)) c.loop-part.yielded _ c.loop-part.yielded_by _ _ c.in-Some.part c.in-Some.is c.next.ensures.steps in
    let so_far = YieldsList-so_far (YieldsList-at c.into_iter-part-iterator.ensures.into_iter_gives (YieldsList-from_first (λ part. part.now) (λ parts. parts) (split_at_slashes c.args.text.now) c.split_at_slashes-part-items.ensures)) c.loop-part.yielded _ c.loop-part.yielded_by in
    let split = front_at c.args.text.now (map (λ x. x.now) c.loop-part.yielded) (length c.loop-part.yielded) so_far c.in-Some.part.now turn.0 turn.1 (sym c.is_component.ensures ∙ c.if-not-is_component.false) in
    let none : c.from_residual.result ≡ None = search (rules, c) in
    ap (link_on_way c.args.tree.now c.args.follow) split
    ∙ come_lost c.args.tree.now c.args.follow (filter is_component (map (λ x. x.now) c.loop-part.yielded)) c.loop-part.count c.loop-part.obj c.loop-part.invariant c.in-Some.part.now _ (sym c.if-is_link.false ∙ c.is_link.ensures)
    (λ rest. c.in_err-obj.ensures.below refl (filter is_component (map (λ x. x.now) c.loop-part.yielded)) rest c.loop-part.invariant.object)
    ∙ ap (option_map (λ count. take count (components_of c.args.text.now))) (sym none)

pub overflow_add-count : goal.overflow_add-count
overflow_add-count c =
    let turn = YieldsList-turn (YieldsList-at c.into_iter-part-iterator.ensures.into_iter_gives (YieldsList-from_first (λ part. part.now) (λ parts. parts) (split_at_slashes c.args.text.now) c.split_at_slashes-part-items.ensures)) c.loop-part.yielded _ c.loop-part.yielded_by _ _ c.in-Some.part c.in-Some.is c.next.ensures.steps in
    let so_far = YieldsList-so_far (YieldsList-at c.into_iter-part-iterator.ensures.into_iter_gives (YieldsList-from_first (λ part. part.now) (λ parts. parts) (split_at_slashes c.args.text.now) c.split_at_slashes-part-items.ensures)) c.loop-part.yielded _ c.loop-part.yielded_by in
    let split = front_at c.args.text.now (map (λ x. x.now) c.loop-part.yielded) (length c.loop-part.yielded) so_far c.in-Some.part.now turn.0 turn.1 (sym c.is_component.ensures ∙ c.if-not-is_component.false) in
    let short = front_short c.args.text.now (filter is_component (map (λ x. x.now) c.loop-part.yielded)) _ c.in-Some.part.now split in
    let count = c.loop-part.invariant.count_is in
    omega (arith, short, count)

pub loop-part-preserved : goal.loop-part-preserved
loop-part-preserved c =
    let part : is_component c.in-Some.part.now ≡ true = sym c.is_component.ensures ∙ c.if-not-is_component.false in
    let more : filter is_component (map (λ x. x.now) (c.loop-part.yielded ++ c.in-Some.part ∷ [])) ≡ filter is_component (map (λ x. x.now) c.loop-part.yielded) ++ c.in-Some.part.now ∷ [] =
    ap (filter is_component) (map-append (λ x. x.now) c.loop-part.yielded (c.in-Some.part ∷ [])) ∙ front-push (map (λ x. x.now) c.loop-part.yielded) c.in-Some.part.now part in
    subst (λ (front : Components). HasCome c.args.tree.now c.args.follow front (c.loop-part.count + 1) c.in_ok-obj.obj) (sym more)
    (come_on c.args.tree.now c.args.follow (filter is_component (map (λ x. x.now) c.loop-part.yielded)) c.loop-part.count c.loop-part.obj c.loop-part.invariant c.in-Some.part.now c.in_ok-obj.obj (sym c.if-is_link.false ∙ c.is_link.ensures)
    (c.in_ok-obj.ensures.object (filter is_component (map (λ x. x.now) c.loop-part.yielded)) c.loop-part.invariant.object) c.in_ok-obj.ensures.made)

pub returns-then-is_link-2 : goal.returns-then-is_link-2
returns-then-is_link-2 c =
    let all = YieldsList-end (YieldsList-at c.into_iter-part-iterator.ensures.into_iter_gives (YieldsList-from_first (λ part. part.now) (λ parts. parts) (split_at_slashes c.args.text.now) c.split_at_slashes-part-items.ensures)) c.loop-part.yielded _ c.loop-part.yielded_by _ _ c.in-None.is c.next.ensures.steps in
    let split : components_of c.args.text.now ≡ filter is_component (map (λ x. x.now) c.loop-part.yielded) = ap (filter is_component) (sym all.0) in
    let follow : c.args.follow ≡ true = c.if-follow.true in
    ap (link_on_way c.args.tree.now c.args.follow) split
    ∙ come_last c.args.tree.now c.args.follow (filter is_component (map (λ x. x.now) c.loop-part.yielded)) c.loop-part.count c.loop-part.obj c.loop-part.invariant true (sym c.if-is_link-2.true ∙ c.is_link-then-follow.ensures)
    ∙ ap (λ b. cond (b && true) (Some (filter is_component (map (λ x. x.now) c.loop-part.yielded))) None) follow
    ∙ ap Some (sym (front_taken c.args.text.now (filter is_component (map (λ x. x.now) c.loop-part.yielded)) [] c.loop-part.count (split ∙ sym (append-nil _)) c.loop-part.invariant.count_is))

pub returns-else-follow : goal.returns-else-follow
returns-else-follow c =
    let all = YieldsList-end (YieldsList-at c.into_iter-part-iterator.ensures.into_iter_gives (YieldsList-from_first (λ part. part.now) (λ parts. parts) (split_at_slashes c.args.text.now) c.split_at_slashes-part-items.ensures)) c.loop-part.yielded _ c.loop-part.yielded_by _ _ c.in-None.is c.next.ensures.steps in
    let split : components_of c.args.text.now ≡ filter is_component (map (λ x. x.now) c.loop-part.yielded) = ap (filter is_component) (sym all.0) in
    ap (link_on_way c.args.tree.now c.args.follow) split
    ∙ elim c.else-follow.branch [
      | else-follow-via-then-follow+else-is_link-2 w ↦
          come_last c.args.tree.now c.args.follow (filter is_component (map (λ x. x.now) c.loop-part.yielded)) c.loop-part.count c.loop-part.obj c.loop-part.invariant false (sym w.if-is_link-2.false ∙ w.is_link-then-follow.ensures)
          ∙ ap (λ b. cond (b && false) (Some (filter is_component (map (λ x. x.now) c.loop-part.yielded))) None) w.if-follow.true
      | else-follow-via-else-follow w ↦
          come_last c.args.tree.now c.args.follow (filter is_component (map (λ x. x.now) c.loop-part.yielded)) c.loop-part.count c.loop-part.obj c.loop-part.invariant _ refl
          ∙ ap (λ b. cond (b && is_link_node (node_of_number c.args.tree.now c.loop-part.obj)) (Some (filter is_component (map (λ x. x.now) c.loop-part.yielded))) None) w.if-follow.false
    ]
