use Rattle.std.proofs.Common.{rules, ◌∙◌, ap, ℕ, length}
use borrow.Author.Tests.{tests}
use Rattle.std.specs.Prelude.{Option, unwrap_or}
use Rattle.std.proofs.lemmas.Iterator.{YieldsList-from_slice}
use Rattle.std.proofs.lemmas.Iterator.Search.{position_from_yields_List}
use Rattle.st_names.specs.Name.{is_slash}
use Rattle.st_names.proofs.Spelled.{first_slash_place}
use Rattle.st_names.proofs.name.near_slash.Goals as goal

pub returns-clause-place : goal.returns-clause-place
returns-clause-place c =
    c.unwrap_or.ensures ∙ ap (λ (r : Option ℕ). unwrap_or r (length c.args.text.now)) (position_from_yields_List is_slash _ _ _ c.position.ensures.ran (YieldsList-from_slice c.args.text.now (cc)) (λ x b q k. search (rules, tests))) ∙ first_slash_place c.args.text.now
