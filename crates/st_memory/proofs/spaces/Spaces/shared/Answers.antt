use Rattle.std.proofs.Common.{◌/◌, None, inl, inr, ap, sym, ◌∙◌}
use Rattle.std.specs.Prelude.{is_some, slice_get}
use Rattle.std.proofs.lemmas.Bool.{cases_lt, le-ltb, lt-ltb, true≢false}
use Rattle.st_base.specs.Numbered.{item_at_number_or}
use Rattle.st_memory.specs.Pages.{row_of, words_of, Rows}
use Rattle.st_memory.proofs.Rows.{is-there}
use Rattle.st_memory.proofs.Writes.{counts-shared, shared-is-counted}
use Rattle.st_memory.proofs.spaces.Spaces.shared.Goals as goal

pub page_of-requires-clause-table : goal.page_of-requires-clause-table
page_of-requires-clause-table c = rw c.deref.ensures.value c.self.invariant

pub page_of-requires-clause-live : goal.page_of-requires-clause-live
page_of-requires-clause-live c = ap (λ (r : Rows). is_some (item_at_number_or None r c.args.space)) c.deref.ensures.value ∙ is-there c.self.inside.rows.items (words_of c.self.inside.pages) c.args.space c.args.self.now c.self.view_is c.requires.live

pub returns : goal.returns
returns c = (
  λ is. elim (cases_lt 1 c.page_of.result.now.count) [
    | inl many ↦ counts-shared c.self.inside.rows.items c.self.inside.pages c.args.space (c.args.place / 512) c.page_of.ensures.0 c.page_of.result.now c.args.self.now c.self.invariant c.self.view_is (ap (λ (r : Rows). slice_get (row_of r c.args.space) ((c.args.place / 512))) (sym c.deref.ensures.value) ∙ c.page_of.ensures.1) c.page_of.ensures.2 many
    | inr few ↦ absurd (true≢false (sym is ∙ le-ltb 1 c.page_of.result.now.count few))
  ],
  λ x. lt-ltb 1 c.page_of.result.now.count (shared-is-counted c.self.inside.rows.items c.self.inside.pages c.args.space (c.args.place / 512) c.page_of.ensures.0 c.page_of.result.now c.args.self.now c.self.invariant c.self.view_is (ap (λ (r : Rows). slice_get (row_of r c.args.space) ((c.args.place / 512))) (sym c.deref.ensures.value) ∙ c.page_of.ensures.1) c.page_of.ensures.2 x),
)
