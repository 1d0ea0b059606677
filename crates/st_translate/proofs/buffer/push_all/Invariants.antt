use Rattle.std.proofs.Common.{◌≡◌, ◌+◌, ◌++◌, take, vec_capacity, vec_len}
use Rattle.st_translate.proofs.buffer.push_all.Given as goal

-- the bytes so far have been appended, and the capacity is the same
abbrev pub invariant-loop-byte : goal.invariant-loop-byte
invariant-loop-byte l = (l.text.items ≡ l.initial.text.items ++ take l.byte-index l.bytes) × (vec_len l.text ≡ vec_len l.initial.text + l.byte-index) × (vec_capacity l.text ≡ vec_capacity l.initial.text)
