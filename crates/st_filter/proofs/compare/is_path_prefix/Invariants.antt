use Rattle.std.proofs.Common.{◌≡◌, drop}
use Rattle.st_filter.specs.Judging.{is_path_prefix}
use Rattle.st_filter.proofs.compare.is_path_prefix.Given as goal

-- the rest of the argument is a prefix of the rest of the path exactly if the argument is a prefix of the path
abbrev pub invariant-loop-byte : goal.invariant-loop-byte
invariant-loop-byte l = is_path_prefix (drop l.byte-index l.argument) l.rest ≡ is_path_prefix l.argument l.path
