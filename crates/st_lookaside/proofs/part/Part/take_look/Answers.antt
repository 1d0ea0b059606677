use Rattle.std.proofs.Common.{◌≡◌, ◌∙◌, ◌∷◌, ◌++◌, [], List, ap, refl, Some}
use Rattle.st_names.specs.declared.seen.SeenText.{SeenText}
use Rattle.st_names.specs.Seen.{seen_text}
use Rattle.st_lookaside.specs.Head.{arg_request}
use Rattle.st_lookaside.specs.Need.{need_of_walk}
use Rattle.st_lookaside.specs.Part.{Filled, with_lookup, words_in}
use Rattle.st_lookaside.specs.declared.part.Part.{Part}
use Rattle.st_lookaside.proofs.Parts.{part_seen}
use Rattle.st_lookaside.proofs.part.Part.take_look.Goals as goal

pub returns-clause-part : goal.returns-clause-part
returns-clause-part c =
    let begun : Part = c.begin_walk.new.self in
    part_seen (arg_request c.args.head.now) begun (record { spec = begun.spec; copying = begun.copying; lookups = c.push_reserved.new.self; walk = Some c.advance.new.self; need = c.of_step-self.result }) c.in-Some.walk c.advance.new.self (seen_text c.args.seen) c.begin_walk.ensures.part c.begin_walk.ensures.need c.in-Some.is c.in_ok-step.ensures.walk
    (c.of_step-self.ensures ∙ ap need_of_walk c.in_ok-step.ensures.step)
    (c.push_reserved.ensures.items ∙ ap (λ (l : List SeenText). l ++ c.in_ok-kept.kept ∷ []) c.reserve.ensures.items ∙ ap (λ (s : SeenText). begun.lookups.items ++ s ∷ []) c.in_ok-kept.ensures) refl refl refl

pub returns-clause-ok : goal.returns-clause-ok
returns-clause-ok c =
    let begun : Part = c.begin_walk.new.self in
    let taken : c.push_reserved.new.self.items ≡ begun.lookups.items ++ seen_text c.args.seen ∷ [] =
    c.push_reserved.ensures.items ∙ ap (λ (l : List SeenText). l ++ c.in_ok-kept.kept ∷ []) c.reserve.ensures.items ∙ ap (λ (s : SeenText). begun.lookups.items ++ s ∷ []) c.in_ok-kept.ensures in
    (λ k. record { words = words_in begun.copying; lookups = taken k }) ∙ ap (λ (filled : Filled). with_lookup filled (seen_text c.args.seen)) c.begin_walk.ensures.filled
