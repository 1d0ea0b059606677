use Rattle.std.proofs.Common.{[], None, ap, ◌∙◌}
use Rattle.std.specs.Prelude.{is_some}
use Rattle.st_base.specs.Numbered.{item_at_number_or}
use Rattle.st_memory.specs.Pages.{words_of, Rows}
use Rattle.st_memory.proofs.Rows.{found-in, is-there}
use Rattle.st_memory.proofs.Writes.{alone-already}
use Rattle.st_memory.proofs.spaces.Spaces.own.Goals as goal

pub row_of-requires : goal.row_of-requires
row_of-requires c = ap (λ (r : Rows). is_some (item_at_number_or None r c.args.space)) c.deref.ensures.value ∙ is-there c.self.inside.rows.items (words_of c.self.inside.pages) c.args.space c.args.self.now c.self.view_is c.requires.live

pub returns-then-are_alone-clause-pages : goal.returns-then-are_alone-clause-pages
returns-then-are_alone-clause-pages c = alone-already c.self.inside.rows.items c.self.inside.pages c.self.inside.pages c.row_of.result.now [] c.args.first c.args.end c.args.space c.self.invariant (found-in c.self.inside.rows.items c.deref.result.now c.args.space c.row_of.result.now c.deref.ensures.value c.row_of.ensures) c.args.self.now c.self.view_is c.requires.inside (c.are_alone.ensures c.if-are_alone.true)
