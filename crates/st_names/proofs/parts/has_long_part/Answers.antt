use Rattle.std.proofs.Common.{rules, ◌∙◌, sym, arith}
use borrow.Author.Tests.{tests}
use Rattle.std.proofs.lemmas.Iterator.Consumers.{YieldsList-from_first}
use Rattle.std.proofs.lemmas.Iterator.Search.{any_from_yields_List}
use Rattle.std.specs.Prelude.{nat_lt, length}
use Rattle.st_names.specs.declared.limits.TheConstants.{LONGEST_PART}
use Rattle.st_names.specs.Name.{split_at_slashes}
use Rattle.st_names.proofs.Spelled.{no_long_part, no_longer}
use Rattle.st_names.proofs.parts.has_long_part.Goals as goal

pub returns-then-text-gt-LONGEST_PART : goal.returns-then-text-gt-LONGEST_PART
returns-then-text-gt-LONGEST_PART c = any_from_yields_List (λ part. nat_lt LONGEST_PART (length part)) _ _ _ c.any.ensures.ran (YieldsList-from_first (λ part. part.now) (λ parts. parts) (split_at_slashes c.args.text.now) c.split_at_slashes.ensures) (λ x b q k. search (rules, tests))

pub returns-else-text-gt-LONGEST_PART : goal.returns-else-text-gt-LONGEST_PART
returns-else-text-gt-LONGEST_PART c = no_longer LONGEST_PART (length c.args.text.now) (omega arith) ∙ sym (no_long_part c.args.text.now (omega arith))
