use Rattle.std.proofs.Common.{◌≡◌, ◌+◌, ◌≤◌, ◌++◌, take, vec_capacity, vec_len}
use Rattle.std.specs.List.{prefix_len}
use Rattle.st_translate.specs.Bytes.{is_letter}
use Rattle.st_translate.proofs.stage.push_until_zero.Given as goal

-- the bytes so far are letters and have been appended, and the capacity is the same
abbrev pub invariant-loop-count : goal.invariant-loop-count
invariant-loop-count l = (l.text.items ≡ l.initial.text.items ++ take l.count l.bytes) × (vec_len l.text ≡ vec_len l.initial.text + l.count) × (vec_capacity l.text ≡ vec_capacity l.initial.text) × (l.count ≤ prefix_len is_letter l.bytes)
