use Rattle.std.proofs.Common.{◌+◌, ◌/◌, refl, ◌∙◌, arith}
use Rattle.st_memory.specs.Memory.{byte_in}
use Rattle.st_memory.proofs.Writes.{keeps-both, put-more, shared-moves}
use Rattle.st_memory.proofs.spaces.Spaces.put_bytes_alone.Goals as goal

pub put_part_alone-requires-clause-live : goal.put_part_alone-requires-clause-live
put_part_alone-requires-clause-live c = c.loop-done.invariant.spaces.1 c.args.space ∙ c.requires.live

pub put_part_alone-requires-clause-alone : goal.put_part_alone-requires-clause-alone
put_part_alone-requires-clause-alone c = λ x. c.requires.alone ((c.args.at + c.loop-done.done) / 4096) (c.args.at + c.loop-done.done, omega arith, omega arith, refl) (shared-moves c.args.self.now c.loop-done.self c.args.space ((c.args.at + c.loop-done.done) / 4096) c.loop-done.invariant.numbers x)

pub loop-done-preserved : goal.loop-done-preserved
loop-done-preserved c = record {
  within = omega arith;
  so_far = put-more (byte_in c.args.self.now) (byte_in c.loop-done.self) (byte_in c.put_part_alone.new.self) c.args.space c.args.at c.args.bytes.now c.loop-done.done (c.loop-done.done + c.min.result) (omega arith) (omega arith) c.loop-done.invariant.so_far c.put_part_alone.ensures.bytes;
  numbers = λ s i. c.put_part_alone.ensures.numbers s i ∙ c.loop-done.invariant.numbers s i;
  spaces = keeps-both c.args.self.now c.loop-done.self c.put_part_alone.new.self c.loop-done.invariant.spaces c.put_part_alone.ensures.spaces;
}
