use Rattle.std.proofs.Common.{◌∙◌, Some, IsSome, ap, sym, subst}
use Rattle.std.proofs.lemmas.Bool.{true≢false}
use Rattle.st_lookaside.specs.declared.slots.SlotKey.{SlotKey}
use Rattle.st_lookaside.proofs.Keys.{found_at, none_at}
use Rattle.st_lookaside.proofs.slots.key_within.Goals as goal

pub returns-in-Some-last_of : goal.returns-in-Some-last_of
returns-in-Some-last_of c = found_at c.args.keys.now.items c.requires.ascending c.args.drawing c.in-Some-last_of.place c.in-Some-last_of.ensures c.index.result.now ∙ ap (λ (key : SlotKey). Some key.key) (sym c.index.ensures)

pub unreachable-requires : goal.unreachable-requires
unreachable-requires c = true≢false (sym (subst IsSome (none_at c.args.keys.now.items c.requires.ascending c.args.drawing c.in_default-search_of.field-0 c.in_default-search_of.ensures.missing) c.requires.some))

pub returns : goal.returns
returns c = found_at c.args.keys.now.items c.requires.ascending c.args.drawing c.in-Ok.place c.in-Ok.ensures.found c.index-2.result.now ∙ ap (λ (key : SlotKey). Some key.key) (sym c.index-2.ensures)
