-- Runs of calls on messages, computed: a circle of 5 numbers with 3 in use, drawn round three times, and a late answer.
use Rattle.std.proofs.Common.{◌≡◌, ℕ, ◌+◌, true, false, List, [], ◌∷◌, map, Some, None, refl}
use Rattle.st_messages.specs.Circle.{circle_after, first_free}
use Rattle.st_messages.specs.declared.message.MsgState.TheVariants.{Claimed}
use Rattle.st_messages.specs.Messages.{HeldCalls, calls_after_cancel, calls_after_let_go, calls_after_post, calls_after_renew, drawing_of, first_waiting, is_claimed, next_seq, seq_of, seqs_in_use, with_state}

-- in which order the numbers are tried
order : map (circle_after 5) (0 ∷ 2 ∷ 5 ∷ []) ≡ (1 ∷ 2 ∷ 3 ∷ 4 ∷ 5 ∷ []) ∷ (3 ∷ 4 ∷ 5 ∷ 1 ∷ 2 ∷ []) ∷ (1 ∷ 2 ∷ 3 ∷ 4 ∷ 5 ∷ []) ∷ []
order = refl

-- the first that is free, after each number, if 1, 3 and 4 are in use
free_ones : map (first_free 5 (4 ∷ 1 ∷ 3 ∷ [])) (0 ∷ 1 ∷ 2 ∷ 3 ∷ 4 ∷ 5 ∷ []) ≡ 2 ∷ 2 ∷ 5 ∷ 5 ∷ 5 ∷ 2 ∷ []
free_ones = refl

no_free_one : first_free 5 (4 ∷ 1 ∷ 3 ∷ 5 ∷ 2 ∷ []) 2 ≡ 0
no_free_one = refl

-- ---- runs of calls

-- no message, in a circle of 5 numbers
abbrev begun : HeldCalls
begun = record { workers = 1; next = 1; greatest = 5; last = 0; live = []; kept = [] }

-- two calls are posted; the first is claimed, and renewed
abbrev two : HeldCalls
two = calls_after_post (calls_after_post begun 7) 8

abbrev renewed_one : HeldCalls
renewed_one = calls_after_renew (with_state two 1 (Claimed 1)) 1 false

claims : (first_waiting two ≡ Some 1) × (next_seq two ≡ 3) × (first_waiting renewed_one ≡ Some 2) × (first_waiting (with_state renewed_one 2 (Claimed 1)) ≡ Some 3)
    × (first_waiting (with_state (with_state renewed_one 2 (Claimed 1)) 3 (Claimed 1)) ≡ None)
claims = (refl, refl, refl, refl, refl)

-- an answer to the first is applied before its renewal, and stale afterwards
late_answer : (is_claimed (with_state two 1 (Claimed 1)) 1 ≡ true) × (is_claimed renewed_one 1 ≡ false)
late_answer = (refl, refl)

-- three calls are posted, with the drawings 1 to 3
abbrev posted : HeldCalls
posted = calls_after_post two 9

posted_numbers : seqs_in_use posted ≡ 1 ∷ 2 ∷ 3 ∷ []
posted_numbers = refl

-- drawings are renewed in order, and no ready worker keeps their numbers
abbrev renewed : List ℕ → HeldCalls → HeldCalls
renewed [] calls = calls
renewed (drawing ∷ drawings) calls = renewed drawings (calls_after_renew calls drawing false)

abbrev orders : List (List ℕ)
orders = (1 ∷ 2 ∷ 3 ∷ []) ∷ (1 ∷ 3 ∷ 2 ∷ []) ∷ (2 ∷ 1 ∷ 3 ∷ []) ∷ (2 ∷ 3 ∷ 1 ∷ []) ∷ (3 ∷ 1 ∷ 2 ∷ []) ∷ (3 ∷ 2 ∷ 1 ∷ []) ∷ []

-- The drawings are renewed in each order, and then the new ones in the same order, twice. The number of a drawing stays in use while its own
-- new number is drawn, and is free for the next one.
once : map (λ drawings. seqs_in_use (renewed drawings posted)) orders
    ≡ (4 ∷ 5 ∷ 1 ∷ []) ∷ (4 ∷ 5 ∷ 1 ∷ []) ∷ (4 ∷ 5 ∷ 1 ∷ []) ∷ (4 ∷ 5 ∷ 2 ∷ []) ∷ (4 ∷ 5 ∷ 1 ∷ []) ∷ (4 ∷ 5 ∷ 2 ∷ []) ∷ []
once = refl

abbrev later : ℕ → List ℕ → List ℕ
later n drawings = map (λ drawing. drawing + n) drawings

twice : map (λ drawings. seqs_in_use (renewed (later 3 drawings) (renewed drawings posted))) orders
    ≡ (2 ∷ 3 ∷ 4 ∷ []) ∷ (2 ∷ 3 ∷ 4 ∷ []) ∷ (2 ∷ 3 ∷ 4 ∷ []) ∷ (3 ∷ 5 ∷ 1 ∷ []) ∷ (2 ∷ 3 ∷ 4 ∷ []) ∷ (3 ∷ 1 ∷ 2 ∷ []) ∷ []
twice = refl

three_times : map (λ drawings. seqs_in_use (renewed (later 6 drawings) (renewed (later 3 drawings) (renewed drawings posted)))) orders
    ≡ (5 ∷ 1 ∷ 2 ∷ []) ∷ (5 ∷ 1 ∷ 2 ∷ []) ∷ (5 ∷ 1 ∷ 2 ∷ []) ∷ (2 ∷ 4 ∷ 5 ∷ []) ∷ (5 ∷ 1 ∷ 2 ∷ []) ∷ (4 ∷ 5 ∷ 1 ∷ []) ∷ []
three_times = refl

-- the number of the caller's own drawing, which isn't renewed, stays in use
others_renewed : map (λ drawings. seqs_in_use (renewed drawings posted)) ((2 ∷ 3 ∷ []) ∷ (2 ∷ 3 ∷ 4 ∷ 5 ∷ []) ∷ (1 ∷ 3 ∷ []) ∷ (1 ∷ 3 ∷ 4 ∷ 5 ∷ []) ∷ [])
    ≡ (1 ∷ 4 ∷ 5 ∷ []) ∷ (1 ∷ 2 ∷ 3 ∷ []) ∷ (2 ∷ 4 ∷ 5 ∷ []) ∷ (2 ∷ 1 ∷ 3 ∷ []) ∷ []
others_renewed = refl

-- ---- numbers that ready workers keep

-- drawing 1 is renewed, and a ready worker keeps its number
abbrev kept : HeldCalls
kept = calls_after_renew posted 1 true

kept_number : map (seq_of kept) (1 ∷ 2 ∷ 3 ∷ 4 ∷ 5 ∷ []) ≡ Some 1 ∷ Some 2 ∷ Some 3 ∷ Some 4 ∷ None ∷ []
kept_number = refl

kept_drawing : map (drawing_of kept) (1 ∷ 2 ∷ 3 ∷ 4 ∷ 5 ∷ []) ≡ Some 1 ∷ Some 2 ∷ Some 3 ∷ Some 4 ∷ None ∷ []
kept_drawing = refl

-- it isn't drawn, until it is let go
skipped : map (λ drawings. seqs_in_use (renewed drawings kept)) ((2 ∷ 3 ∷ []) ∷ (3 ∷ 2 ∷ []) ∷ []) ≡ (4 ∷ 5 ∷ 2 ∷ 1 ∷ []) ∷ (4 ∷ 5 ∷ 3 ∷ 1 ∷ []) ∷ []
skipped = refl

let_go : map (λ drawings. seqs_in_use (renewed drawings (calls_after_let_go kept 1))) ((2 ∷ 3 ∷ []) ∷ (3 ∷ 2 ∷ []) ∷ []) ≡ (4 ∷ 5 ∷ 1 ∷ []) ∷ (4 ∷ 5 ∷ 1 ∷ []) ∷ []
let_go = refl

-- a number is kept of a drawing that ended; when all are in use, none is drawn
abbrev full : HeldCalls
full = calls_after_post (calls_after_post (calls_after_cancel posted 2 true) 8) 6

ended : (seqs_in_use full ≡ 1 ∷ 3 ∷ 4 ∷ 5 ∷ 2 ∷ []) × (next_seq full ≡ 0) × (next_seq (calls_after_let_go full 2) ≡ 2) × (next_seq (calls_after_cancel posted 2 false) ≡ 4)
ended = (refl, refl, refl, refl)

-- ---- a number that has come again

-- Drawing 1 is claimed, and renewed until its number is that of drawing 6, which another worker claims. A late answer to drawing 1 is stale.
abbrev again : HeldCalls
again = with_state (renewed (2 ∷ 3 ∷ []) (calls_after_renew (with_state posted 1 (Claimed 1)) 1 false)) 6 (Claimed 2)

late_to_another : (seq_of again 6 ≡ Some 1) × (drawing_of again 1 ≡ Some 6) × (is_claimed again 6 ≡ true) × (is_claimed again 1 ≡ false) × (seq_of again 1 ≡ None)
late_to_another = (refl, refl, refl, refl, refl)
