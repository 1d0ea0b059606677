use Rattle.std.proofs.Common.{◌≡◌, ◌+◌, ◌-◌, length, arith}
use Rattle.st_tree.proofs.Bytes.{put_is}
use Rattle.st_tree.proofs.content.put.Goals as goal

pub returns : goal.returns
returns c =
    let width : c.args.at + length c.args.new.now - c.args.at ≡ length c.args.new.now = omega arith in
    put_is c.args.bytes.now c.args.new.now c.copy_from_slice.new.self c.args.at _ width c.copy_from_slice.ensures.after
