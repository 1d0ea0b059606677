use Rattle.std.proofs.Common.{◌∙◌, ap, sym, subst, List, ℕ}
use Rattle.st_model.specs.Spelling as spelling
use Rattle.st_translate.specs.Copied.{Copied, HasAllWords, spelled_words}
use Rattle.st_translate.proofs.Stages.{all_read}
use Rattle.st_translate.proofs.copying.Copying.text.Goals as goal

pub returns : goal.returns
returns c = ap spelled_words (sym c.self.view_is) ∙ all_read c.self.inside.kind c.self.inside.at c.self.inside.words.items c.self.inside.text.items c.self.inside.stage c.self.invariant.reached
    (subst (λ (copied : Copied). HasAllWords (spelled_words copied)) (sym c.self.view_is) c.requires)
    ∙ ap (λ (text : List ℕ). spelling.Text text) (sym c.deref.ensures.value)
