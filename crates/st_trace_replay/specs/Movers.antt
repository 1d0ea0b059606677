-- Who moves by the line of an entry: its first word and the number after it say so.
use Rattle.std.specs.Prelude.{ℕ, Bool, ◌||◌, if◌then◌else◌, List, codes, Option, Some, None, option_map}
use Rattle.std.specs.Str.{bytes_eq}
use Rattle.st_fields.specs.Fields.{spelled_at}
use Rattle.st_fields.specs.Words.{number_of_16, number_of_32, split_word}
use Rattle.st_replay.specs.declared.mover.Mover.{Mover}
use Rattle.st_replay.specs.declared.mover.Mover.TheVariants.{Thread, Worker, Number, Operator}

-- the words of the lines of threads, of workers with their numbers, of workers with the numbers that they are at, and of the operator
abbrev pub tells_thread : List ℕ → Bool
tells_thread word =
    bytes_eq word (codes "stored") || (bytes_eq word (codes "entered") || (bytes_eq word (codes "used") || (bytes_eq word (codes "denied") || (bytes_eq word (codes "ended") || bytes_eq word (codes "reloaded")))))

abbrev pub tells_worker : List ℕ → Bool
tells_worker word = bytes_eq word (codes "claimed") || bytes_eq word (codes "answered")

abbrev pub tells_number : List ℕ → Bool
tells_number word = bytes_eq word (codes "copied") || (bytes_eq word (codes "looked") || bytes_eq word (codes "faulted"))

abbrev pub tells_operator : List ℕ → Bool
tells_operator word = bytes_eq word (codes "replied") || bytes_eq word (codes "learned")

-- who moves by a line with this first word and these bytes after it
abbrev pub mover_by : List ℕ → List ℕ → Option Mover
mover_by word rest =
    if tells_thread word then option_map (λ tid. Thread tid.0) (spelled_at number_of_32 rest)
    else if tells_worker word then option_map (λ worker. Worker worker.0) (spelled_at number_of_32 rest)
    else if tells_number word then option_map (λ seq. Number seq.0) (spelled_at number_of_16 rest)
    else if tells_operator word then Some Operator
    else None

-- who moves by a line
abbrev pub mover_of_line : List ℕ → Option Mover
mover_of_line line = mover_by (split_word line).0 (split_word line).1
