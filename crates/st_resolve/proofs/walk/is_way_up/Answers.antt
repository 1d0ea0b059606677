use Rattle.std.proofs.Common.{rules, ◌∙◌, not, ◌||◌}
use borrow.Author.Tests.{tests}
use Rattle.std.proofs.lemmas.Iterator.Consumers.{YieldsList-from_first}
use Rattle.std.proofs.lemmas.Iterator.Search.{all_from_yields_List}
use Rattle.st_names.specs.Name.{is_component, split_at_slashes}
use Rattle.st_model.specs.Walk.{is_up}
use Rattle.st_resolve.proofs.Firsts.{all_up}
use Rattle.st_resolve.proofs.walk.is_way_up.Goals as goal

pub returns : goal.returns
returns c =
    all_from_yields_List (λ part. not (is_component part) || is_up part) _ _ _ c.all.ensures.ran (YieldsList-from_first (λ part. part.now) (λ parts. parts) (split_at_slashes c.args.text.now) c.split_at_slashes.ensures) (λ x b q k. search (rules, tests))
    ∙ all_up (split_at_slashes c.args.text.now)
