use Rattle.std.proofs.Common.{◌+◌, ◌-◌, length, arith, rules}
use Rattle.st_memory.proofs.Parts.{merged-is}
use Rattle.st_memory.proofs.page.merged.Goals as goal

pub returns : goal.returns
returns c = merged-is c.args.word c.args.from (c.args.from + length c.args.part.now - c.args.from) c.from_le_bytes.result c.to_le_bytes-bytes.result c.args.part.now c.copy_from_slice.new.self c.to_le_bytes-bytes.ensures c.copy_from_slice.ensures.after (omega arith) (omega arith) (search rules) c.from_le_bytes.ensures
