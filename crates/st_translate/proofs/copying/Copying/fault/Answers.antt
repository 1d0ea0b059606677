use Rattle.std.proofs.Common.{◌∙◌, ap, sym}
use Rattle.st_translate.specs.Copied.{Copied, copy_fault, spelled_words}
use Rattle.st_translate.proofs.Stages.{spells}
use Rattle.st_translate.proofs.copying.Copying.fault.Goals as goal

pub returns : goal.returns
returns c =
    c.fault.ensures c.self.inside.text.items
    ∙ ap copy_fault (sym (spells c.self.inside.kind c.self.inside.at c.self.inside.words.items c.self.inside.text.items c.self.inside.stage c.self.invariant.reached))
    ∙ ap (λ (copied : Copied). copy_fault (spelled_words copied)) c.self.view_is
