use Rattle.std.proofs.Common.{◌+◌, ◌/◌, ◌%◌, [], None, ap, sym, refl, ◌∙◌, arith}
use Rattle.std.specs.Prelude.{is_some, slice_get}
use Rattle.st_base.specs.Numbered.{item_at_number_or}
use Rattle.st_memory.specs.Memory.{byte_in, byte_of, bytes_from}
use Rattle.st_memory.specs.Pages.{row_of, words_of, Rows}
use Rattle.st_memory.proofs.Rows.{is-there}
use Rattle.st_memory.proofs.Writes.{byte-here}
use Rattle.st_memory.proofs.Bytes.{bytes_from-more}
use Rattle.std.proofs.lemmas.List.FromFn.{get_or-map-range_with_len, length-map-range_with_len}
use Rattle.st_memory.proofs.spaces.Spaces.bytes_inside.Goals as goal

pub page_of-counted-requires-clause-table : goal.page_of-counted-requires-clause-table
page_of-counted-requires-clause-table c = rw c.deref.ensures.value c.self.invariant

pub page_of-counted-requires-clause-live : goal.page_of-counted-requires-clause-live
page_of-counted-requires-clause-live c = ap (λ (r : Rows). is_some (item_at_number_or None r c.args.space)) c.deref.ensures.value ∙ is-there c.self.inside.rows.items (words_of c.self.inside.pages) c.args.space c.args.self.now c.self.view_is c.requires.live

pub loop-done-preserved : goal.loop-done-preserved
loop-done-preserved c = record {
  within = omega arith;
  so_far = bytes_from-more (byte_in c.args.self.now c.args.space) c.args.at c.loop-done.done c.min-width.result [] c.loop-done.bytes.items (bytes_from (byte_of c.page_of-counted.result.now.page) ((c.args.at + c.loop-done.done) % 4096) c.min-width.result) c.append_bytes.new.bytes.items
      c.loop-done.invariant.so_far c.in_ok-append_bytes.ensures (length-map-range_with_len (byte_of c.page_of-counted.result.now.page) ((c.args.at + c.loop-done.done) % 4096) c.min-width.result)
      (λ i low. get_or-map-range_with_len (byte_of c.page_of-counted.result.now.page) ((c.args.at + c.loop-done.done) % 4096) c.min-width.result i ((c.args.at + c.loop-done.done) % 4096 + i) 0 low refl
      ∙ ap (byte_of c.page_of-counted.result.now.page) (omega arith)
      ∙ sym (byte-here c.self.inside.rows.items c.self.inside.pages c.args.space ((c.args.at + c.loop-done.done) / 4096) c.page_of-counted.ensures.0 c.page_of-counted.result.now c.args.self.now c.self.invariant c.self.view_is (ap (λ (r : Rows). slice_get (row_of r c.args.space) (((c.args.at + c.loop-done.done) / 4096))) (sym c.deref.ensures.value) ∙ c.page_of-counted.ensures.1) c.page_of-counted.ensures.2 (c.args.at + c.loop-done.done + i) (omega arith)));
}
