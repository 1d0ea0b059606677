use Rattle.std.proofs.Common.{◌≡◌, false, take}
use Rattle.st_lex.specs.Quote.{quoted_bytes}
use Rattle.st_lex.proofs.quoted.has_escaped.Given as goal

-- if no escaped byte was found, the bytes so far are spelled between quotes as they are
abbrev pub invariant-loop-byte : goal.invariant-loop-byte
invariant-loop-byte l = l.found ≡ false → quoted_bytes (take l.byte-index l.bytes) ≡ take l.byte-index l.bytes
