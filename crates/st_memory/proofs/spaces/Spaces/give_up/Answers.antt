use Rattle.std.proofs.Common.{None, ap, ◌∙◌}
use Rattle.std.specs.Prelude.{is_some}
use Rattle.st_base.specs.Numbered.{item_at_number_or}
use Rattle.st_memory.specs.Pages.{words_of, Rows}
use Rattle.st_memory.proofs.Rows.{found-in, is-there, row-there}
use Rattle.st_memory.proofs.Steps.{gone-bytes, gone-live, gone-next, gone-table, gone-view}
use Rattle.st_memory.proofs.spaces.Spaces.give_up.Goals as goal

pub row_of-requires : goal.row_of-requires
row_of-requires c = ap (λ (r : Rows). is_some (item_at_number_or None r c.args.space)) c.deref.ensures.value ∙ is-there c.self.inside.rows.items (words_of c.self.inside.pages) c.args.space c.args.self.now c.self.view_is c.requires

pub release-requires : goal.release-requires
release-requires c = row-there c.self.inside.rows.items c.self.inside.pages c.row_of.result.now c.args.space c.self.invariant (found-in c.self.inside.rows.items c.deref.result.now c.args.space c.row_of.result.now c.deref.ensures.value c.row_of.ensures)

pub invariant_of-self : goal.invariant_of-self
invariant_of-self c = gone-table c.self.inside.rows.items c.self.inside.pages c.release.new.pages c.row_of.result.now c.args.self.now c.args.space c.self.invariant c.self.view_is (found-in c.self.inside.rows.items c.deref.result.now c.args.space c.row_of.result.now c.deref.ensures.value c.row_of.ensures) c.release.ensures

pub returns-clause-spaces : goal.returns-clause-spaces
returns-clause-spaces c = gone-view c.self.inside.rows.items c.self.inside.pages c.release.new.pages c.row_of.result.now c.args.self.now c.args.space c.self.invariant c.self.view_is (found-in c.self.inside.rows.items c.deref.result.now c.args.space c.row_of.result.now c.deref.ensures.value c.row_of.ensures) c.release.ensures

pub returns-clause-next : goal.returns-clause-next
returns-clause-next c = gone-next c.self.inside.rows.items c.self.inside.pages c.release.new.pages c.row_of.result.now c.args.self.now c.args.space c.self.invariant c.self.view_is (found-in c.self.inside.rows.items c.deref.result.now c.args.space c.row_of.result.now c.deref.ensures.value c.row_of.ensures) c.release.ensures

pub returns-clause-live : goal.returns-clause-live
returns-clause-live c = gone-live c.self.inside.rows.items c.self.inside.pages c.release.new.pages c.row_of.result.now c.args.self.now c.args.space c.self.invariant c.self.view_is (found-in c.self.inside.rows.items c.deref.result.now c.args.space c.row_of.result.now c.deref.ensures.value c.row_of.ensures) c.release.ensures

pub returns-clause-others : goal.returns-clause-others
returns-clause-others c = gone-bytes c.self.inside.rows.items c.self.inside.pages c.release.new.pages c.row_of.result.now c.args.self.now c.args.space c.self.invariant c.self.view_is (found-in c.self.inside.rows.items c.deref.result.now c.args.space c.row_of.result.now c.deref.ensures.value c.row_of.ensures) c.release.ensures
