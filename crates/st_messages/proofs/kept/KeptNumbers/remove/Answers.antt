use Rattle.std.proofs.Common.{◌∙◌, ap, not, rules}
use borrow.Author.Tests.{tests}
use Rattle.std.proofs.lemmas.Fn.{filter_same}
use Rattle.st_messages.specs.Messages.{is_kept_of, without_kept}
use Rattle.st_messages.proofs.kept.KeptNumbers.remove.Goals as goal

pub returns : goal.returns
returns c =
    filter_same _ (λ number. not (is_kept_of c.args.drawing number)) _ (λ x b f' k. search (rules, tests)) _ _ c.retain.ensures.filtered
    ∙ ap (λ kept. without_kept kept c.args.drawing) c.self.view_is
