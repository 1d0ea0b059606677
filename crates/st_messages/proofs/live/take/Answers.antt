use Rattle.std.proofs.Common.{◌∙◌, Some, ap, sym}
use Rattle.std.proofs.lemmas.Bool.{eqb-true, true≢false}
use Rattle.std.proofs.lemmas.List.Quantifiers.{position-Some}
use Rattle.std.specs.Prelude.{is_some}
use Rattle.st_messages.specs.Messages.{is_message_of}
use Rattle.st_messages.proofs.Lookups.{found_first, found_nowhere, removed-at}
use Rattle.st_messages.proofs.live.take.Goals as goal

pub unreachable-requires : goal.unreachable-requires
unreachable-requires c = true≢false (sym c.requires.there ∙ ap is_some (found_nowhere (is_message_of c.args.drawing) c.args.live.now.items (sym c.place_of.ensures ∙ c.in_default.is)))

pub returns-clause-message : goal.returns-clause-message
returns-clause-message c =
    found_first (is_message_of c.args.drawing) c.args.live.now.items c.in-Some.place c.in-Some-remove.message (sym c.place_of.ensures ∙ c.in-Some.is) ∙ ap Some (sym c.in-Some-remove.ensures.value)

pub returns-clause-others : goal.returns-clause-others
returns-clause-others c =
    let live = c.args.live.now.items in
    let at = position-Some (is_message_of c.args.drawing) live c.in-Some.place c.in-Some-remove.message (sym c.place_of.ensures ∙ c.in-Some.is) in
    c.in-Some-remove.ensures.items ∙ removed-at live 1 c.requires.ordered.0 c.args.drawing c.in-Some.place c.in-Some-remove.message c.requires.ordered.1 at.0 (eqb-true _ c.args.drawing at.1)
