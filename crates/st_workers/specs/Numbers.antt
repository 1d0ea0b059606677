-- The numbers of the messages under way: which of them ready workers keep, how they follow from the law's numbers, and that few are in use.
use Rattle.std.specs.Prelude.{◌≡◌, ◌≤◌, ◌↔◌, ℕ, suc, Bool, true, false, length, Option, Some, None, is_some}
use Rattle.st_calls.specs.declared.judged.Snapshot.{Snapshot}
use Rattle.st_lookaside.specs.Slot.{Slot}
use Rattle.st_lookaside.specs.Slots.{slot_at}
use Rattle.st_law.specs.Numbers.{Numbers, largest_number, numbered_entry, numbers_after}
use Rattle.st_messages.specs.Messages.{HeldCalls, is_kept, is_live_drawing, seq_of, thread_of_drawing, AreValidCalls}
use Rattle.st_trace.specs.declared.entry.Entry.{Entry}
use Rattle.st_workers.specs.UnderWay.{UnderWay, turn_of_worker}
use Rattle.st_workers.specs.declared.turn.Turn.TheVariants.{Ready}

-- ---- what ready workers keep

-- some worker is ready with the message of a drawing
abbrev pub IsReadyWith : UnderWay → ℕ → Type 0
IsReadyWith kept q = (worker : ℕ) × (s : Snapshot) × (turn_of_worker kept worker ≡ Some (Ready q s))

-- these are the drawings that some worker is ready with
abbrev pub AreReady : (ℕ → Bool) → UnderWay → Type 0
AreReady ready kept = (q : ℕ) → (ready q ≡ true) ↔ IsReadyWith kept q

-- the slot of each message, and the copies of each ready worker, have the number of their drawing
pub record HaveSeqs (kept : UnderWay) : Type 0 where
  pub slots : (q : ℕ) (slot : Slot) → slot_at kept.slots q ≡ Some slot → seq_of kept.calls q ≡ Some slot.head.seq
  pub copies : (worker q : ℕ) (s : Snapshot) → turn_of_worker kept worker ≡ Some (Ready q s) → seq_of kept.calls q ≡ Some s.seq

-- each worker has a turn, the held calls are valid, the numbers that are kept are those of the ended messages that some worker is ready with,
-- and slots and copies have the numbers of their drawings
pub record AreNumbered (kept : UnderWay) : Type 0 where
  pub count : length kept.turns ≡ kept.calls.workers
  pub calls : AreValidCalls kept.calls
  pub ready : (q : ℕ) → is_kept kept.calls q ≡ true → IsReadyWith kept q
  pub seqs : HaveSeqs kept
  pub ended : (q : ℕ) → IsReadyWith kept q → is_live_drawing kept.calls q ≡ false → is_kept kept.calls q ≡ true

-- ---- how many are in use

-- the held calls are those of 64 threads at most, and there are at most 8 workers: so few numbers are in use
pub record AreFew (calls : HeldCalls) : Type 0 where
  pub threads : (q tid : ℕ) → thread_of_drawing calls q ≡ Some tid → (1 ≤ tid) × (tid ≤ 64)
  pub workers : calls.workers ≤ 8

-- the number of a drawing, if there is one
abbrev pub seq_if : HeldCalls → Option ℕ → Option ℕ
seq_if calls None = None
seq_if calls (Some q) = seq_of calls q

-- ---- the numbers of the law

-- the held calls have the law's numbers: for the drawings in use, and no others
pub record HasNumbers (numbers : Numbers) (calls : HeldCalls) : Type 0 where
  pub greatest : calls.greatest ≡ largest_number
  pub next : calls.next ≡ suc numbers.last
  pub last : calls.last ≡ numbers.number_of numbers.last
  pub seqs : (q seq : ℕ) → seq_of calls q ≡ Some seq → numbers.number_of q ≡ seq
  pub in_use : (q : ℕ) → is_some (seq_of calls q) ≡ numbers.in_use q
  pub zero : numbers.in_use 0 ≡ false

-- whatever numbers the old calls have, the new ones have those after this step
abbrev pub CarriesNumbers : (Numbers → Numbers) → HeldCalls → HeldCalls → Type 0
CarriesNumbers step old new = (numbers : Numbers) → HasNumbers numbers old → HasNumbers (step numbers) new

-- whatever numbers the old calls have, the new ones have the same, for those drawings that are still in use
abbrev pub KeepsNumbers : HeldCalls → HeldCalls → Type 0
KeepsNumbers old new = (numbers : Numbers) → HasNumbers numbers old → (in_use : ℕ → Bool) × HasNumbers (record numbers { in_use = in_use }) new

-- whatever numbers the held calls have before an entry, they have those after it, for those drawings that are still in use
abbrev pub CarriesEntry : Entry → UnderWay → UnderWay → Type 0
CarriesEntry e old new = (ready : ℕ → Bool) → AreReady ready old → (numbers : Numbers) → HasNumbers numbers old.calls → (in_use : ℕ → Bool) × HasNumbers (record (numbers_after largest_number ready numbers e) { in_use = in_use }) new.calls

-- this is an entry of drawings with the numbers that they have after it, by the numbers that the held calls have before it
abbrev pub IsNumbered : Entry → Entry → UnderWay → Type 0
IsNumbered e given workers = (ready : ℕ → Bool) → AreReady ready workers → (numbers : Numbers) → HasNumbers numbers workers.calls → given ≡ numbered_entry (numbers_after largest_number ready numbers e).number_of e
