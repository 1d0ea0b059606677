use Rattle.std.proofs.Common.{◌∙◌, arith}
use Rattle.st_memory.proofs.Bytes.{word_of-byte_of}
use Rattle.st_memory.proofs.page.Page.word.Goals as goal

pub returns : goal.returns
returns c = c.at.ensures ∙ word_of-byte_of c.args.self.now c.args.place (omega arith)
