use Rattle.std.proofs.Common.{◌+◌, ◌∙◌, arith}
use Rattle.st_memory.specs.Memory.{byte_of}
use Rattle.st_memory.proofs.Parts.{put_in-more}
use Rattle.st_memory.proofs.page.Page.put_bytes.Goals as goal

pub loop-done-preserved : goal.loop-done-preserved
loop-done-preserved c = record {
  within = omega arith;
  so_far = λ b. c.put_part.ensures b ∙ put_in-more (byte_of c.args.self.now) (byte_of c.loop-done.self) c.args.at c.args.bytes.now c.loop-done.done (c.loop-done.done + c.min.result) (omega arith) (omega arith) c.loop-done.invariant.so_far b;
}
