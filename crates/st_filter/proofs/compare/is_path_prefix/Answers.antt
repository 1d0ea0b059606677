use Rattle.std.proofs.Common.{sym, ◌∙◌}
use Rattle.st_filter.proofs.Paths.{is_path_prefix-ended}
use Rattle.st_filter.proofs.compare.is_path_prefix.Goals as goal

pub returns-in-empty : goal.returns-in-empty
returns-in-empty c =
    sym (is_path_prefix-ended c.args.argument.now c.loop-byte.rest.now c.loop-byte.byte-index c.loop-byte-test.true c.in-empty.len_below)
    ∙ c.loop-byte.invariant
