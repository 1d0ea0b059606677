use Rattle.std.proofs.Common.{rules, subst}
use Rattle.std.specs.List.Sorted.{IsSearchInRange}
use borrow.Author.Tests.{tests}
use Rattle.std.proofs.lemmas.Fn.{always_returns_same}
use Rattle.st_lookaside.specs.declared.slots.SlotKey.{SlotKey}
use Rattle.st_lookaside.proofs.Keys.{missing, placed}
use Rattle.st_lookaside.proofs.slots.search_of.Goals as goal

pub returns-clause-found : goal.returns-clause-found
returns-clause-found c =
    placed c.args.keys.now.items c.args.drawing c.binary_search_by_key.result (subst (IsSearchInRange c.binary_search_by_key.result) c.args.keys.now.ok.0 c.binary_search_by_key.ensures.bound)
    (c.binary_search_by_key.ensures.position (λ (key : SlotKey). key.drawing) (always_returns_same _ _ _ (λ a r f' k. search (rules, tests))))

pub returns-clause-missing : goal.returns-clause-missing
returns-clause-missing c =
    missing c.args.keys.now.items c.args.drawing c.binary_search_by_key.result c.requires (subst (IsSearchInRange c.binary_search_by_key.result) c.args.keys.now.ok.0 c.binary_search_by_key.ensures.bound)
    (c.binary_search_by_key.ensures.position (λ (key : SlotKey). key.drawing) (always_returns_same _ _ _ (λ a r f' k. search (rules, tests))))
