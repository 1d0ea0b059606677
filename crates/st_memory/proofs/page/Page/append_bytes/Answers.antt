use Rattle.std.proofs.Common.{◌+◌, ◌%◌, refl, arith}
use Rattle.st_memory.proofs.Bytes.{bytes_from-part}
use Rattle.st_memory.proofs.page.Page.append_bytes.Goals as goal

pub loop-done-preserved : goal.loop-done-preserved
loop-done-preserved c =
    let words = c.args.self.now in record {
      within = omega arith;
      so_far = bytes_from-part words c.args.bytes.now.items c.args.at c.loop-done.done c.min-width.result _ ((c.args.at + c.loop-done.done) % 8) c.at.result c.loop-done.bytes.items c.to_le_bytes-word.result c.extend_from_slice.new.self.items
          c.loop-done.invariant.so_far c.at.ensures c.to_le_bytes-word.ensures refl (omega arith) (omega arith) c.in_ok-extend_from_slice.ensures.items;
    }
