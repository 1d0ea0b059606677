use Rattle.std.proofs.Common.{◌≡◌, ◌+◌, drop}
use Rattle.st_compile.specs.Passing.{literal_len}
use Rattle.st_compile.proofs.passing.literal_len.Given as goal

-- the bytes so far, and those of the rest
abbrev pub invariant-loop-byte : goal.invariant-loop-byte
invariant-loop-byte l = record {
  len : l.len ≡ l.byte-index;
  all : l.len + literal_len (drop l.byte-index l.pattern) ≡ literal_len l.pattern;
}
