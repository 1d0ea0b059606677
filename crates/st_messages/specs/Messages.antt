-- Held calls by their drawings: which are live, how far each has come, which number each has, and how each call changes them.
use Rattle.std.specs.Prelude.{◌≡◌, ◌≢◌, ℕ, suc, ◌+◌, ◌≤◌, ◌<◌, Bool, true, false, ◌==◌, not, if◌then◌else◌, List, [], ◌∷◌, ◌++◌, map, length, Option, Some, None, option_map, is_some, find, ⊤}
use Rattle.std.specs.List.{filter}
use Rattle.std.specs.Option.{option_or}
use Rattle.st_messages.specs.Circle.{first_free, is_among}
use Rattle.st_messages.specs.declared.kept.KeptNumber.{KeptNumber}
use Rattle.st_messages.specs.declared.message.MsgState.{MsgState}
use Rattle.st_messages.specs.declared.message.MsgState.TheVariants.{Waiting, Claimed, Answered, Faulted}
use Rattle.st_messages.specs.declared.message.Message.{Message}

-- the held calls of a run
pub record HeldCalls : Type 0 where
  pub workers : ℕ
  -- the drawing that the next message has
  pub next : ℕ
  -- the greatest number
  pub greatest : ℕ
  -- the number that was drawn last; 0 before the first
  pub last : ℕ
  -- the live messages, in the order of their drawings
  pub live : List Message
  -- the numbers of ended messages that ready workers keep
  pub kept : List KeptNumber

-- ---- looking up

-- whether a message has this drawing
abbrev pub is_message_of : ℕ → Message → Bool
is_message_of drawing message = message.drawing == drawing

-- the message of this drawing
abbrev pub message_in : List Message → ℕ → Option Message
message_in live drawing = find (is_message_of drawing) live

-- the message of a live drawing; none if the drawing isn't live
abbrev pub message_of_drawing : HeldCalls → ℕ → Option Message
message_of_drawing calls drawing = message_in calls.live drawing

-- whether a drawing is live
abbrev pub is_live_drawing : HeldCalls → ℕ → Bool
is_live_drawing calls drawing = is_some (message_of_drawing calls drawing)

-- how far a live drawing has come
abbrev pub message_state : HeldCalls → ℕ → Option MsgState
message_state calls drawing = option_map (λ (message : Message). message.state) (message_of_drawing calls drawing)

-- the thread of a live drawing
abbrev pub thread_of_drawing : HeldCalls → ℕ → Option ℕ
thread_of_drawing calls drawing = option_map (λ (message : Message). message.tid) (message_of_drawing calls drawing)

-- whether a state is that of a message that no worker has claimed
abbrev pub is_waiting_state : MsgState → Bool
is_waiting_state Waiting = true
is_waiting_state (Claimed worker) = false
is_waiting_state (Answered verdict) = false
is_waiting_state (Faulted errno) = false

-- whether no worker has claimed a message
abbrev pub is_unclaimed : Message → Bool
is_unclaimed message = is_waiting_state message.state

-- the drawing of the first waiting message
abbrev pub first_waiting : HeldCalls → Option ℕ
first_waiting calls = option_map (λ (message : Message). message.drawing) (find is_unclaimed calls.live)

-- whether a state is that of a claimed message that is neither answered nor faulted
abbrev pub is_claimed_state : Option MsgState → Bool
is_claimed_state None = false
is_claimed_state (Some Waiting) = false
is_claimed_state (Some (Claimed worker)) = true
is_claimed_state (Some (Answered verdict)) = false
is_claimed_state (Some (Faulted errno)) = false

-- whether a drawing is live and claimed, and neither answered nor faulted
abbrev pub is_claimed : HeldCalls → ℕ → Bool
is_claimed calls drawing = is_claimed_state (message_state calls drawing)

-- a drawing is live, and no worker has claimed it
abbrev pub IsWaiting : HeldCalls → ℕ → Type 0
IsWaiting calls drawing = message_state calls drawing ≡ Some Waiting

-- this drawing is waiting, and no smaller drawing is
pub record IsLeastWaiting (calls : HeldCalls) (drawing : ℕ) : Type 0 where
  pub waiting : IsWaiting calls drawing
  pub least : (other : ℕ) → IsWaiting calls other → drawing ≤ other

-- no live drawing is this thread's
abbrev pub HasNoDrawing : HeldCalls → ℕ → Type 0
HasNoDrawing calls tid = (drawing : ℕ) → thread_of_drawing calls drawing ≢ Some tid

-- a worker of this number exists
abbrev pub HasWorker : HeldCalls → ℕ → Type 0
HasWorker calls worker = (1 ≤ worker) × (worker ≤ calls.workers)

-- ---- the numbers in use

-- whether this is the number that is kept of a drawing
abbrev pub is_kept_of : ℕ → KeptNumber → Bool
is_kept_of drawing number = number.drawing == drawing

-- the number that is kept of a drawing
abbrev pub kept_in : List KeptNumber → ℕ → Option KeptNumber
kept_in kept drawing = find (is_kept_of drawing) kept

-- whether a ready worker keeps the number of a drawing that has ended
abbrev pub is_kept : HeldCalls → ℕ → Bool
is_kept calls drawing = is_some (kept_in calls.kept drawing)

-- the number of a drawing in use, which is live or kept; none of any other
abbrev pub seq_of : HeldCalls → ℕ → Option ℕ
seq_of calls drawing =
    option_or (option_map (λ (message : Message). message.seq) (message_of_drawing calls drawing))
    (option_map (λ (number : KeptNumber). number.seq) (kept_in calls.kept drawing))

-- the numbers in use, of live messages and kept ones
abbrev pub seqs_in : List Message → List KeptNumber → List ℕ
seqs_in live kept = map (λ (message : Message). message.seq) live ++ map (λ (number : KeptNumber). number.seq) kept

-- the numbers in use
abbrev pub seqs_in_use : HeldCalls → List ℕ
seqs_in_use calls = seqs_in calls.live calls.kept

-- how many numbers are in use
abbrev pub count_in_use : HeldCalls → ℕ
count_in_use calls = length calls.live + length calls.kept

-- how many numbers are in use at most when one is drawn: one for each thread, and one for each worker
abbrev pub most_in_use : ℕ
most_in_use = 72

-- whether a number is in use
abbrev pub is_in_use : HeldCalls → ℕ → Bool
is_in_use calls seq = is_among (seqs_in_use calls) seq

-- the number that is drawn next: the first after the last one that isn't in use
abbrev pub next_seq : HeldCalls → ℕ
next_seq calls = first_free calls.greatest (seqs_in_use calls) calls.last

-- whether a message has this number
abbrev pub has_seq : ℕ → Message → Bool
has_seq seq message = message.seq == seq

-- whether this number is kept
abbrev pub keeps_seq : ℕ → KeptNumber → Bool
keeps_seq seq number = number.seq == seq

-- the drawing of a live message or a kept number that has this number
abbrev pub drawing_in : List Message → List KeptNumber → ℕ → Option ℕ
drawing_in live kept seq =
    option_or (option_map (λ (message : Message). message.drawing) (find (has_seq seq) live))
    (option_map (λ (number : KeptNumber). number.drawing) (find (keeps_seq seq) kept))

-- the drawing in use that has this number
abbrev pub drawing_of : HeldCalls → ℕ → Option ℕ
drawing_of calls seq = drawing_in calls.live calls.kept seq

-- ---- how calls change them

-- messages, with another state for that of this drawing
abbrev pub with_state_in : List Message → ℕ → MsgState → List Message
with_state_in [] drawing state = []
with_state_in (message ∷ live) drawing state =
    if is_message_of drawing message then record message { state = state } ∷ live else message ∷ with_state_in live drawing state

-- held calls, with another state for a drawing
abbrev pub with_state : HeldCalls → ℕ → MsgState → HeldCalls
with_state calls drawing state = record calls { live = with_state_in calls.live drawing state }

-- a waiting message
abbrev pub waiting_message : ℕ → ℕ → ℕ → Message
waiting_message drawing seq tid = record { drawing = drawing; seq = seq; tid = tid; state = Waiting }

-- the held calls after a call of a thread was posted, and got this drawing
abbrev pub calls_after_post_as : HeldCalls → ℕ → ℕ → HeldCalls
calls_after_post_as calls tid seq = record calls { next = suc calls.next; last = seq; live = calls.live ++ waiting_message calls.next seq tid ∷ [] }

-- the held calls after a call of a thread was posted
abbrev pub calls_after_post : HeldCalls → ℕ → HeldCalls
calls_after_post calls tid = calls_after_post_as calls tid (next_seq calls)

-- messages, without that of this drawing
abbrev pub without_drawing : List Message → ℕ → List Message
without_drawing live drawing = filter (λ message. not (is_message_of drawing message)) live

-- what is kept of a message that ends, if a ready worker keeps its number
abbrev pub kept_of_message : Bool → Option Message → List KeptNumber
kept_of_message keeps None = []
kept_of_message keeps (Some message) = if keeps then record { drawing = message.drawing; seq = message.seq } ∷ [] else []

-- the held calls after a drawing has ended, whose number a ready worker keeps or not
abbrev pub calls_after_cancel : HeldCalls → ℕ → Bool → HeldCalls
calls_after_cancel calls drawing keeps = record calls {
  live = without_drawing calls.live drawing;
  kept = calls.kept ++ kept_of_message keeps (message_of_drawing calls drawing);
}

-- the held calls after the message of a drawing was posted again under the next one
abbrev pub calls_after_renew_of : HeldCalls → ℕ → Bool → Option Message → HeldCalls
calls_after_renew_of calls drawing keeps None = calls
calls_after_renew_of calls drawing keeps (Some message) = calls_after_post_as (calls_after_cancel calls drawing keeps) message.tid (next_seq calls)

-- The held calls after a drawing was renewed: it is no longer live, and its thread has the next drawing, which is waiting. The number of
-- the old drawing is in use while that of the new one is drawn, and afterwards only if a ready worker keeps it.
abbrev pub calls_after_renew : HeldCalls → ℕ → Bool → HeldCalls
calls_after_renew calls drawing keeps = calls_after_renew_of calls drawing keeps (message_of_drawing calls drawing)

-- kept numbers, without that of this drawing
abbrev pub without_kept : List KeptNumber → ℕ → List KeptNumber
without_kept kept drawing = filter (λ number. not (is_kept_of drawing number)) kept

-- the held calls after the worker that kept the number of a drawing has let it go
abbrev pub calls_after_let_go : HeldCalls → ℕ → HeldCalls
calls_after_let_go calls drawing = record calls { kept = without_kept calls.kept drawing }

-- a drawing has this state now, and each other drawing is unchanged
abbrev pub ChangesState : HeldCalls → ℕ → Option MsgState → HeldCalls → Type 0
ChangesState old drawing state new = (other : ℕ) → message_state new other ≡ (if other == drawing then state else message_state old other)

-- a drawing is no longer live, this new drawing is waiting, and each other drawing is unchanged
abbrev pub RenewsState : HeldCalls → ℕ → ℕ → HeldCalls → Type 0
RenewsState old drawing fresh new =
    (other : ℕ) → message_state new other ≡ (if other == fresh then Some Waiting else if other == drawing then None else message_state old other)

-- a drawing has this number now, or none, and each other drawing is unchanged
abbrev pub ChangesSeq : HeldCalls → ℕ → Option ℕ → HeldCalls → Type 0
ChangesSeq old drawing seq new = (other : ℕ) → seq_of new other ≡ (if other == drawing then seq else seq_of old other)

-- the number of a drawing is kept now or not, and each other drawing is unchanged
abbrev pub ChangesKept : HeldCalls → ℕ → Bool → HeldCalls → Type 0
ChangesKept old drawing keeps new = (other : ℕ) → is_kept new other ≡ (if other == drawing then keeps else is_kept old other)

-- the number of a drawing that ends, if a ready worker keeps it
abbrev pub seq_left : HeldCalls → ℕ → Bool → Option ℕ
seq_left calls drawing keeps = if keeps then seq_of calls drawing else None

-- a drawing ended, this new drawing has the number that was drawn next, and each other drawing is unchanged
abbrev pub RenewsSeq : HeldCalls → ℕ → Bool → HeldCalls → Type 0
RenewsSeq old drawing keeps new =
    (other : ℕ) → seq_of new other ≡ (if other == old.next then Some (next_seq old) else if other == drawing then seq_left old drawing keeps else seq_of old other)

-- ---- the invariants of held calls

-- the drawings of messages are ascending, at least `from` and less than `to`
abbrev pub AreBetween : ℕ → List Message → ℕ → Type 0
AreBetween from [] to = from ≤ to
AreBetween from (message ∷ live) to = (from ≤ message.drawing) × AreBetween (suc message.drawing) live to

-- each thread has at most one live drawing
abbrev pub AreOfOwnThreads : HeldCalls → Type 0
AreOfOwnThreads calls = (a b tid : ℕ) → thread_of_drawing calls a ≡ Some tid → thread_of_drawing calls b ≡ Some tid → a ≡ b

-- no two drawings in use have the same number
abbrev pub AreOfOwnDrawings : HeldCalls → Type 0
AreOfOwnDrawings calls = (a b seq : ℕ) → seq_of calls a ≡ Some seq → seq_of calls b ≡ Some seq → a ≡ b

-- a number is one of the circle
abbrev pub IsInCircle : HeldCalls → ℕ → Type 0
IsInCircle calls seq = (1 ≤ seq) × (seq ≤ calls.greatest)

-- of each drawing one number is kept at most
abbrev pub AreKeptOnce : List KeptNumber → Type 0
AreKeptOnce [] = ⊤
AreKeptOnce (number ∷ kept) = (kept_in kept number.drawing ≡ None) × AreKeptOnce kept

-- a drawing was given, and isn't live any more
abbrev pub HasEnded : HeldCalls → ℕ → Type 0
HasEnded calls drawing = (drawing < calls.next) × (message_of_drawing calls drawing ≡ None)

-- the invariants of held calls
pub record AreValidCalls (calls : HeldCalls) : Type 0 where
  pub ordered : AreBetween 1 calls.live calls.next
  pub threads : AreOfOwnThreads calls
  pub workers : (drawing worker : ℕ) → message_state calls drawing ≡ Some (Claimed worker) → HasWorker calls worker
  pub seqs : AreOfOwnDrawings calls
  pub circle : (drawing seq : ℕ) → seq_of calls drawing ≡ Some seq → IsInCircle calls seq
  pub last : calls.last ≤ calls.greatest
  pub once : AreKeptOnce calls.kept
  pub ended : (drawing : ℕ) → is_kept calls drawing ≡ true → HasEnded calls drawing
  pub few : count_in_use calls ≤ suc most_in_use
  pub many : most_in_use < calls.greatest
