use Rattle.std.proofs.Common.{◌≡◌, ◌++◌, take, flat_map}
use Rattle.st_report.specs.Fields.{hex_byte}
use Rattle.st_report.proofs.fields.append_digits.Given as goal

-- the bytes so far are appended to the text
abbrev pub invariant-loop-byte : goal.invariant-loop-byte
invariant-loop-byte l = l.text ≡ l.initial.text ++ flat_map hex_byte (take l.byte-index l.bytes)
