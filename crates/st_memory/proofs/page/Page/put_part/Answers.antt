use Rattle.std.proofs.Common.{◌/◌, ◌∙◌, ap, refl, arith}
use Rattle.st_memory.specs.Memory.{byte_of}
use Rattle.st_memory.proofs.Parts.{byte_of-merged}
use Rattle.st_memory.proofs.page.Page.put_part.Goals as goal

pub returns : goal.returns
returns c = λ b.
    ap (λ words. byte_of words b) c.set.ensures.is
    ∙ byte_of-merged c.args.self.now (c.args.at / 8) c.at.result c.merged.result c.args.at c.args.part.now c.at.ensures refl (omega (arith, c.set.ensures.size)) c.requires.one_word c.merged.ensures b
