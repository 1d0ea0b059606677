-- The script of a generated run: the threads t1 to t4 of one process ask for files, in as many rounds as are wanted. Rounds are counted
-- from 0.
use Rattle.std.specs.Prelude.{ℕ, ◌+◌, ◌*◌, ◌%◌, ◌==◌, if◌then◌else◌, List, ◌++◌, codes, decimal}
use Rattle.std.specs.List.{flat_map, range_with_len}

-- a file in `/pub`
abbrev pub file_row : ℕ → List ℕ
file_row number = codes "file \"/pub/f" ++ decimal number ++ codes "\" 0 0 644 \"x\"\n"

-- the directory of the file that a thread asks for in a round
abbrev pub directory_asked : ℕ → ℕ → List ℕ
directory_asked thread round = if (round + thread) % 3 == 0 then codes "sec" else codes "pub"

-- the file that a thread asks for in a round
abbrev pub file_asked : ℕ → ℕ → List ℕ
file_asked thread round = codes "/" ++ directory_asked thread round ++ codes "/f" ++ decimal ((7 * round + thread) % 10)

-- the file's name is stored in the thread's memory
abbrev pub put_line : ℕ → ℕ → List ℕ
put_line thread round = codes "put " ++ decimal (64 * thread) ++ codes " \"" ++ file_asked thread round ++ codes "\"\n"

-- the thread asks whether it may read that file
abbrev pub access_line : ℕ → List ℕ
access_line thread = codes "call access " ++ decimal (64 * thread) ++ codes " 4\n"

-- a thread's lines of a round
abbrev pub round_lines : ℕ → ℕ → List ℕ
round_lines thread round = put_line thread round ++ access_line thread

-- a thread's lines of so many rounds
abbrev pub rounds_lines : ℕ → ℕ → List ℕ
rounds_lines rounds thread = flat_map (round_lines thread) (range_with_len 0 rounds)

-- a thread
abbrev pub thread_lines : ℕ → ℕ → List ℕ
thread_lines rounds thread = codes "thread t" ++ decimal thread ++ codes " in g\n" ++ rounds_lines rounds thread ++ codes "end\n"

-- the script: two directories, five files in one of them, a traced process, and its four threads
abbrev pub generated_script : ℕ → List ℕ
generated_script rounds =
    codes "dir \"/pub\" 0 0 755\ndir \"/sec\" 0 0 755\n" ++ flat_map file_row (range_with_len 0 5) ++
    codes "process g traced \"/bin/gen\" 1000 1000 \"/\"\n" ++ flat_map (thread_lines rounds) (range_with_len 1 4)
