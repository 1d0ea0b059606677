use Rattle.std.proofs.Common.{rules, ◌==◌}
use borrow.Author.Tests.{tests}
use Rattle.std.proofs.lemmas.Iterator.Search.{all_from_yields_List}
use Rattle.std.proofs.lemmas.Iterator.Splits.{YieldsList-from_slice_split}
use Rattle.st_statements.specs.Parts.{is_plain_part}
use Rattle.st_names.specs.Name.{slash}
use Rattle.st_statements.proofs.parts.has_plain_parts.Goals as goal

pub returns : goal.returns
returns c = all_from_yields_List is_plain_part _ _ _ c.all.ensures.ran (YieldsList-from_slice_split _ (λ b. b == slash) c.args.names.now c.split.ensures.rest c.split.ensures.done c.split.ensures.closure (λ x r q k. search (rules, tests))) (λ x b q k. search (rules, tests))
