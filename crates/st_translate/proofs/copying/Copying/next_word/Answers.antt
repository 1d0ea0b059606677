use Rattle.std.proofs.Common.{◌∙◌, ap, sym}
use Rattle.st_translate.specs.Copied.{Copied, asked_word, spelled_words}
use Rattle.st_translate.proofs.Stages.{asks_inside, spells}
use Rattle.st_translate.proofs.copying.Copying.next_word.Goals as goal

pub returns-clause-value : goal.returns-clause-value
returns-clause-value c =
    c.place.ensures c.self.inside.text.items
    ∙ ap asked_word (sym (spells c.self.inside.kind c.self.inside.at c.self.inside.words.items c.self.inside.text.items c.self.inside.stage c.self.invariant.reached))
    ∙ ap (λ (copied : Copied). asked_word (spelled_words copied)) c.self.view_is

pub returns-clause-inside : goal.returns-clause-inside
returns-clause-inside c =
    rw (c.place.ensures c.self.inside.text.items)
    (asks_inside c.self.inside.kind c.self.inside.at c.self.inside.words.items c.self.inside.text.items c.self.inside.stage c.self.invariant.reached)
