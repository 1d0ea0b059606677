use Rattle.std.proofs.Common.{◌≡◌, ◌++◌, take}
use Rattle.st_lex.specs.Quote.{quoted_bytes}
use Rattle.st_lex.proofs.quoted.quote_bytes.Given as goal

-- the bytes so far were appended as they are spelled between quotes
abbrev pub invariant-loop-byte : goal.invariant-loop-byte
invariant-loop-byte l = l.out ≡ l.fn.out ++ quoted_bytes (take l.byte-index l.bytes)
