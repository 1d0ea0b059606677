use Rattle.std.proofs.Common.{◌+◌, ◌*◌, ◌/◌, ◌%◌, None, ap, sym, ◌∙◌, arith}
use Rattle.std.specs.Prelude.{is_some, slice_get}
use Rattle.std.specs.Int.{w64, from_le_bytes}
use Rattle.st_base.specs.Numbered.{item_at_number_or}
use Rattle.st_memory.specs.Memory.{byte_in, byte_of}
use Rattle.st_memory.specs.Pages.{row_of, words_of, Rows}
use Rattle.st_memory.proofs.Rows.{is-there}
use Rattle.st_memory.proofs.Writes.{byte-here}
use Rattle.st_memory.proofs.Bytes.{bytes_from-same}
use Rattle.st_memory.proofs.spaces.Spaces.word.Goals as goal

pub page_of-counted-requires-clause-table : goal.page_of-counted-requires-clause-table
page_of-counted-requires-clause-table c = rw c.deref.ensures.value c.self.invariant

pub page_of-counted-requires-clause-live : goal.page_of-counted-requires-clause-live
page_of-counted-requires-clause-live c = ap (λ (r : Rows). is_some (item_at_number_or None r c.args.space)) c.deref.ensures.value ∙ is-there c.self.inside.rows.items (words_of c.self.inside.pages) c.args.space c.args.self.now c.self.view_is c.requires

pub returns-clause-value : goal.returns-clause-value
returns-clause-value c = c.word.ensures ∙ ap (from_le_bytes w64) (bytes_from-same (byte_of c.page_of-counted.result.now.page) (byte_in c.args.self.now c.args.space) (8 * (c.args.place % 512)) (8 * c.args.place) 8 (λ i low. sym (byte-here c.self.inside.rows.items c.self.inside.pages c.args.space (c.args.place / 512) c.page_of-counted.ensures.0 c.page_of-counted.result.now c.args.self.now c.self.invariant c.self.view_is (ap (λ (r : Rows). slice_get (row_of r c.args.space) ((c.args.place / 512))) (sym c.deref.ensures.value) ∙ c.page_of-counted.ensures.1) c.page_of-counted.ensures.2 (8 * c.args.place + i) (omega arith) ∙ ap (byte_of c.page_of-counted.result.now.page) (omega arith))))
