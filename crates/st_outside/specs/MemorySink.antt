-- The model of a sink in memory.
use Rattle.std.specs.Prelude.{ℕ, ◌-◌, min, Bool, ◌||◌, List, length, ◌==◌, if◌then◌else◌}
use Rattle.st_outside.specs.Count.{is_one_of, next_count}

-- a sink in memory: the bytes written so far, how many bytes there is room for in all, the number of calls
-- so far, the numbers of the calls that fail and of the calls that are short, and the count of faults
pub record SinkInMemory : Type 0 where
  pub bytes : List ℕ
  pub room : ℕ
  pub calls : ℕ
  pub failing : List ℕ
  pub short : List ℕ
  pub faults : ℕ

-- whether the next call fails: its number is among those that fail, or no room is left
abbrev pub will_fail : SinkInMemory → Bool
will_fail sink = is_one_of sink.failing (next_count sink.calls) || (length sink.bytes == sink.room)

-- how many of `len` bytes the next call writes: one if it is a short call, otherwise as many as there is room for
abbrev pub accepted_len : SinkInMemory → ℕ → ℕ
accepted_len sink len = if is_one_of sink.short (next_count sink.calls) then 1 else min len (sink.room - length sink.bytes)
