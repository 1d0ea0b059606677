-- How long the generated script and its parts are.
use Rattle.std.proofs.Common.{ℕ, zero, suc, ◌+◌, ◌*◌, ◌%◌, ◌<◌, ◌≤◌, ◌==◌, Bool, true, false, if◌then◌else◌, List, ◌++◌, length, length-append, codes, decimal, arith, flat_map}
use Rattle.std.proofs.lemmas.Fmt.{length-decimal-le}
use Rattle.std.specs.List.{range_with_len}
use Rattle.st_generator.specs.Script.{access_line, file_asked, file_row, generated_script, put_line, round_lines, thread_lines}

-- a text has at most so many bytes
record IsShort (text : List ℕ) (most : ℕ) : Type 0 where
  within : length text ≤ most

whole : (a : List ℕ) → IsShort a (length a)
whole a = record { within = omega arith }

-- two pieces, one after the other
joined : {a b : List ℕ} {m n : ℕ} → IsShort a m → IsShort b n → IsShort (a ++ b) (m + n)
joined {a} {b} {m} {n} first last = record { within = omega (arith, first.within, last.within, length-append a b) }

few : (n : ℕ) → n < 1000 → IsShort (decimal n) 3
few n small = record { within = length-decimal-le 3 n (omega arith) (omega (arith, small)) (omega (arith, small)) }

one : (n : ℕ) → n < 10 → IsShort (decimal n) 1
one n small = record { within = length-decimal-le 1 n (omega arith) (omega (arith, small)) (omega (arith, small)) }

either : (b : Bool) → IsShort (if b then codes "sec" else codes "pub") 3
either true = whole (codes "sec")
either false = whole (codes "pub")

asked_short : (thread round : ℕ) → IsShort (file_asked thread round) 7
asked_short thread round =
    joined (joined (joined (whole (codes "/")) (either ((round + thread) % 3 == 0))) (whole (codes "/f"))) (one ((7 * round + thread) % 10) (omega arith))

put_short : (thread round : ℕ) → thread ≤ 4 → IsShort (put_line thread round) 18
put_short thread round small =
    joined (joined (joined (joined (whole (codes "put ")) (few (64 * thread) (omega (arith, small)))) (whole (codes " \""))) (asked_short thread round)) (whole (codes "\"\n"))

access_short : (thread : ℕ) → thread ≤ 4 → IsShort (access_line thread) 18
access_short thread small = joined (joined (whole (codes "call access ")) (few (64 * thread) (omega (arith, small)))) (whole (codes " 4\n"))

round_short : (thread round : ℕ) → thread ≤ 4 → IsShort (round_lines thread round) 36
round_short thread round small = joined (put_short thread round small) (access_short thread small)

rounds_short : (thread from rounds : ℕ) → thread ≤ 4 → IsShort (flat_map (round_lines thread) (range_with_len from rounds)) (36 * rounds)
rounds_short thread from zero small = record { within = omega arith }
rounds_short thread from (suc rounds) small =
    let both = joined (round_short thread from small) (rounds_short thread (from + 1) rounds small) in
    record { within = omega (arith, both.within) }

thread_short : (rounds thread : ℕ) → thread ≤ 4 → IsShort (thread_lines rounds thread) (36 * rounds + 19)
thread_short rounds thread small =
    let all = joined (joined (joined (joined (whole (codes "thread t")) (one thread (omega (arith, small)))) (whole (codes " in g\n"))) (rounds_short thread 0 rounds small)) (whole (codes "end\n")) in
    record { within = omega (arith, all.within) }

-- so many times a number
abbrev times : ℕ → ℕ → ℕ
times zero most = 0
times (suc n) most = most + times n most

-- the pieces of n numbers, each of which is at most so long
pieces_short : (piece : ℕ → List ℕ) (most limit from n : ℕ) → ((k : ℕ) → k ≤ limit → IsShort (piece k) most) → from + n ≤ suc limit →
    IsShort (flat_map piece (range_with_len from n)) (times n most)
pieces_short piece most limit from zero short within = record { within = omega arith }
pieces_short piece most limit from (suc n) short within =
    joined (short from (omega (arith, within))) (pieces_short piece most limit (from + 1) n short (omega (arith, within)))

file_short : (number : ℕ) → number ≤ 4 → IsShort (file_row number) 27
file_short number small = joined (joined (whole (codes "file \"/pub/f")) (one number (omega (arith, small)))) (whole (codes "\" 0 0 644 \"x\"\n"))

pub script_short : (rounds : ℕ) → length (generated_script rounds) ≤ 144 * rounds + 300
script_short rounds =
    let files = pieces_short file_row 27 4 0 5 file_short (omega arith) in
    let threads = pieces_short (thread_lines rounds) (36 * rounds + 19) 4 1 4 (thread_short rounds) (omega arith) in
    let all = joined (joined (joined (whole (codes "dir \"/pub\" 0 0 755\ndir \"/sec\" 0 0 755\n")) files) (whole (codes "process g traced \"/bin/gen\" 1000 1000 \"/\"\n"))) threads in
    omega (arith, all.within)
