use Rattle.std.proofs.Common.{arith, ap, ◌∙◌}
use Rattle.st_memory.specs.Memory.{byte_of}
use Rattle.st_memory.proofs.Bytes.{byte_of-set}
use Rattle.st_memory.proofs.page.Page.put_word.Goals as goal

pub returns : goal.returns
returns c = λ b. ap (λ words. byte_of words b) c.set.ensures.is ∙ byte_of-set c.args.self.now c.args.place c.args.word b (omega (arith, c.set.ensures.size))
