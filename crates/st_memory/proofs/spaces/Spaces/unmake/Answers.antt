use Rattle.std.proofs.Common.{None, ap, ◌∙◌}
use Rattle.std.specs.Prelude.{is_some}
use Rattle.st_base.specs.Numbered.{item_at_number_or}
use Rattle.st_memory.specs.Pages.{words_of, Rows}
use Rattle.st_memory.proofs.Rows.{found-in, is-there, row-there}
use Rattle.st_memory.proofs.Steps.{cut-bytes, cut-live, cut-next, cut-table, cut-undoes}
use Rattle.st_memory.proofs.spaces.Spaces.unmake.Goals as goal

pub row_of-requires : goal.row_of-requires
row_of-requires c = ap (λ (r : Rows). is_some (item_at_number_or None r c.args.space)) c.deref.ensures.value ∙ is-there c.self.inside.rows.items (words_of c.self.inside.pages) c.args.space c.args.self.now c.self.view_is c.requires.live

pub release-requires : goal.release-requires
release-requires c = row-there c.self.inside.rows.items c.self.inside.pages c.row_of.result.now c.args.space c.self.invariant (found-in c.self.inside.rows.items c.deref.result.now c.args.space c.row_of.result.now c.deref.ensures.value c.row_of.ensures)

pub invariant_of-self : goal.invariant_of-self
invariant_of-self c = rw c.truncate.ensures.items (cut-table c.self.inside.rows.items c.self.inside.pages c.release.new.pages c.row_of.result.now c.args.self.now c.args.space c.self.invariant c.self.view_is (found-in c.self.inside.rows.items c.deref.result.now c.args.space c.row_of.result.now c.deref.ensures.value c.row_of.ensures) c.release.ensures c.requires.last)

pub returns-clause-undoes : goal.returns-clause-undoes
returns-clause-undoes c = rw c.truncate.ensures.items (cut-undoes c.self.inside.rows.items c.self.inside.pages c.release.new.pages c.row_of.result.now c.args.self.now c.args.space c.self.invariant c.self.view_is (found-in c.self.inside.rows.items c.deref.result.now c.args.space c.row_of.result.now c.deref.ensures.value c.row_of.ensures) c.release.ensures c.requires.last)

pub returns-clause-next : goal.returns-clause-next
returns-clause-next c = rw c.truncate.ensures.items (cut-next c.self.inside.rows.items c.self.inside.pages c.release.new.pages c.row_of.result.now c.args.self.now c.args.space c.self.invariant c.self.view_is (found-in c.self.inside.rows.items c.deref.result.now c.args.space c.row_of.result.now c.deref.ensures.value c.row_of.ensures) c.release.ensures c.requires.last)

pub returns-clause-live : goal.returns-clause-live
returns-clause-live c = rw c.truncate.ensures.items (cut-live c.self.inside.rows.items c.self.inside.pages c.release.new.pages c.row_of.result.now c.args.self.now c.args.space c.self.invariant c.self.view_is (found-in c.self.inside.rows.items c.deref.result.now c.args.space c.row_of.result.now c.deref.ensures.value c.row_of.ensures) c.release.ensures c.requires.last)

pub returns-clause-others : goal.returns-clause-others
returns-clause-others c = rw c.truncate.ensures.items (cut-bytes c.self.inside.rows.items c.self.inside.pages c.release.new.pages c.row_of.result.now c.args.self.now c.args.space c.self.invariant c.self.view_is (found-in c.self.inside.rows.items c.deref.result.now c.args.space c.row_of.result.now c.deref.ensures.value c.row_of.ensures) c.release.ensures c.requires.last)
