use Rattle.std.proofs.Common.{◌≡◌, ◌<◌, ◌+◌, length, Some, ap, subst, arith}
use Rattle.std.proofs.lemmas.Grind.{common_steps}
use Rattle.slab.specs.Slab.{HasRoomFor}
use Rattle.std.proofs.lemmas.List.{length_push}
use Rattle.std.proofs.lemmas.List.Elements.{All-pop}
use Rattle.st_memory.specs.Pages.{AreCopies, IsCopy}
use Rattle.st_memory.proofs.Counts.{All-last, one-shared, owned-more, owned-there}
use Rattle.st_memory.proofs.table.own_row.Goals.{In-Some}
use Rattle.st_memory.proofs.table.own_row.Goals as goal

-- the copy that is put in place
copy_is : (c : In-Some) → IsCopy c.args.pages.now c.args.row.now c.args.first c.args.end (c.in-Some.index, c.in-Some.page)
copy_is c = All-last (IsCopy c.args.pages.now c.args.row.now c.args.first c.args.end) c.pop.new.self.items (c.in-Some.index, c.in-Some.page) (subst (AreCopies c.args.pages.now c.args.row.now c.args.first c.args.end) c.in-Some.ensures.items c.loop-index.invariant.copies)

inside : (c : In-Some) → c.in-Some.index < length c.loop-index.owned
inside c = let copy = copy_is c in let a = copy.high in let s = c.loop-index.invariant.owned.size in let i = c.requires.inside in omega arith

pub replace_page-requires-clause-inside : goal.replace_page-requires-clause-inside
replace_page-requires-clause-inside c = inside (goal.at.replace_page-requires-clause-inside c).In-Some

pub replace_page-requires-clause-there : goal.replace_page-requires-clause-there
replace_page-requires-clause-there c =
    owned-there c.args.pages.now c.loop-index.pages c.args.row.now c.args.first c.args.end c.loop-index.copies.items c.loop-index.owned c.in-Some.index c.requires.there c.loop-index.invariant.owned (inside (goal.at.replace_page-requires-clause-there c).In-Some)

pub returns-in_err-reserve-clause-shared : goal.returns-in_err-reserve-clause-shared
returns-in_err-reserve-clause-shared c = λ _. one-shared c.args.pages.now c.args.row.now c.args.first c.args.end c.in_ok-copies.copies.items (grind (arith, common_steps)) c.in_ok-copies.ensures.copies

pub loop-index-preserved : goal.loop-index-preserved
loop-index-preserved c =
    let long : length c.loop-index.copies.items ≡ length c.pop.new.self.items + 1 = omega (arith, ap length c.in-Some.ensures.items, length_push c.pop.new.self.items (c.in-Some.index, c.in-Some.page)) in
    record {
      room = c.replace_page.ensures.room (length c.pop.new.self.items) (subst (HasRoomFor c.loop-index.pages) long c.loop-index.invariant.room);
      copies = (All-pop (IsCopy c.args.pages.now c.args.row.now c.args.first c.args.end) c.loop-index.copies.items c.pop.new.self.items (Some (c.in-Some.index, c.in-Some.page)) c.in-Some.ensures.items c.loop-index.invariant.copies).0;
      owned = owned-more c.args.pages.now c.loop-index.pages c.replace_page.new.pages c.args.row.now c.args.first c.args.end c.in-Some.index c.replace_page.ensures.row.0 c.in-Some.page c.loop-index.owned c.replace_page.new.row c.loop-index.copies.items c.pop.new.self.items
          (omega (arith, c.requires.inside)) c.requires.there c.requires.once c.in-Some.ensures.items c.loop-index.invariant.copies c.loop-index.invariant.owned c.replace_page.ensures.row.1;
    }
