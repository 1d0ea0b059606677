use Rattle.std.proofs.Common.{◌≡◌, ◌++◌, take, map}
use Rattle.std.specs.Char.{to_ascii_lowercase}
use Rattle.st_printing.proofs.print.append_error.Given as goal

-- the letters so far are appended to the text
abbrev pub invariant-loop-byte : goal.invariant-loop-byte
invariant-loop-byte l = l.out ≡ l.initial.out ++ map to_ascii_lowercase (take l.byte-index l.byte-items)
