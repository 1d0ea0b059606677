use Rattle.std.proofs.Common.{◌≡◌, ◌<◌, ◌∙◌, ◌+◌, ◌++◌, ◌∷◌, [], ℕ, List, length, take, get_or, ap, sym, subst, arith}
use Rattle.std.proofs.lemmas.List.{take_more}
use Rattle.std.proofs.Math.Seq.{take-length}
use Rattle.st_names.specs.declared.seen.SeenText.{SeenText}
use Rattle.st_model.specs.Walk.{start_walk}
use Rattle.st_resolve.specs.Walk.{walk_from}
use Rattle.st_lookaside.specs.Head.{arg_request}
use Rattle.st_lookaside.specs.Part.{words_in, IsWalk}
use Rattle.st_lookaside.proofs.Parts.{walk_asks, walk_first, walk_more}
use Rattle.st_lookaside.proofs.part.Part.walk_again.Goals as goal

pub loop-seen-init : goal.loop-seen-init
loop-seen-init c =
    walk_first (arg_request c.args.head.now) c.args.self.now.spec c.args.self.now.copying c.in-Some.copying [] c.text.result.now c.in-Ok.walk c.in-Some.is c.requires.part.copied c.requires.name c.text.ensures
    (λ l. c.in-Ok.ensures.walk l ∙ (λ k. start_walk c.text.result.now (c.get.ensures k) (c.follows-follow.ensures k) l)) (λ k. [])

pub advance-requires : goal.advance-requires
advance-requires c =
    let part = c.args.self.now in
    let within : c.loop-seen.seen-index < length part.lookups.items = subst (λ (l : List SeenText). c.loop-seen.seen-index < length l) c.deref-seen-items.ensures.value c.loop-seen-test.true in
    walk_asks (arg_request c.args.head.now) part.spec (words_in part.copying) (take c.loop-seen.seen-index part.lookups.items) c.loop-seen.walk c.loop-seen.invariant (c.requires.part.seen c.loop-seen.seen-index within)

pub loop-seen-preserved : goal.loop-seen-preserved
loop-seen-preserved c =
    let part = c.args.self.now in
    let i = c.loop-seen.seen-index in
    let all : List SeenText = part.lookups.items in
    let within : i < length all = subst (λ (l : List SeenText). i < length l) c.deref-seen-items.ensures.value c.loop-seen-test.true in
    let s : SeenText = c.seen-item.result in
    let here : s ≡ get_or all i s = c.seen-item.is ∙ ap (λ (l : List SeenText). get_or l i s) c.deref-seen-items.ensures.value in
    walk_more (arg_request c.args.head.now) part.spec (words_in part.copying) (take i all) (take (i + 1) all) c.loop-seen.walk c.advance.new.self s c.loop-seen.invariant
    (λ more. c.in_ok-advance.ensures.walk more ∙ ap (λ (x : SeenText). walk_from c.loop-seen.walk (x ∷ more)) c.seen_of.ensures)
    (take_more all i s within ∙ sym (ap (λ (x : SeenText). take i all ++ x ∷ []) here))

pub returns : goal.returns
returns c =
    let part = c.args.self.now in
    let len = ap length c.deref-seen-items.ensures.value in
    let at : c.loop-seen.seen-index ≡ length part.lookups.items = omega (arith, len, c.loop-seen-test.false, c.loop-seen.auto.seen-index-end) in
    subst (λ (l : List SeenText). IsWalk (arg_request c.args.head.now) part.spec (words_in part.copying) l c.loop-seen.walk)
    (ap (λ (n : ℕ). take n part.lookups.items) at ∙ take-length part.lookups.items) c.loop-seen.invariant
