use Rattle.std.proofs.Common.{◌∙◌, Some, ap, sym}
use Rattle.st_messages.specs.Messages.{is_message_of}
use Rattle.st_messages.proofs.Lookups.{found_first, found_nowhere}
use Rattle.st_messages.proofs.live.message_of.Goals as goal

pub returns-in_err-place : goal.returns-in_err-place
returns-in_err-place c = c.from_residual.ensures ∙ sym (found_nowhere (is_message_of c.args.drawing) c.args.live.now.items (sym c.place_of.ensures ∙ c.in_err-place.was))

pub returns : goal.returns
returns c = sym (found_first (is_message_of c.args.drawing) c.args.live.now.items c.in_ok-place.place c.index.result.now (sym c.place_of.ensures ∙ c.in_ok-place.was) ∙ ap Some (sym c.index.ensures))
