-- Which number each drawing of a message has. There are only so many numbers: they are drawn in a circle, past those of the drawings that are
-- in use. A trace of drawings as a trace of numbers, and back.
use Rattle.std.specs.Prelude.{◌≡◌, ◌⊎◌, ℕ, suc, ◌-◌, Bool, false, ◌&&◌, ◌||◌, ◌==◌, not, if◌then◌else◌, List, [], ◌∷◌, ◌++◌, find, map, reverse, Some, is_some, unwrap_or, option_map}
use Rattle.std.specs.List.{fold, range_with_len}
use Rattle.st_model.specs.Tree.{is_number}
use Rattle.st_trace.specs.declared.entry.Change.{Change}
use Rattle.st_trace.specs.declared.entry.Change.TheVariants.{Renewed}
use Rattle.st_trace.specs.declared.entry.Entry.{Entry}
use Rattle.st_trace.specs.declared.entry.Entry.TheVariants.{Entered, Claimed, Copied, Looked, Faulted, Answered, Used, Denied, Replied, Learned, Reloaded}
use Rattle.st_trace.specs.declared.entry.Way.{Way}
use Rattle.st_trace.specs.declared.entry.Way.TheVariants.{Held}
use Rattle.st_law.specs.declared.input.Input.{Input}
use Rattle.st_law.specs.Entries.{Renews}
use Rattle.st_law.specs.History.{looking_back}
use Rattle.st_law.specs.Lawful.{Lawful}
use Rattle.st_law.specs.Sessions.{least_from}
use Rattle.st_law.specs.Splits.{SomeIn}
use Rattle.st_law.specs.State.{State, is_live, is_ready, progress_in, worker_at}
use Rattle.st_law.specs.Threads.{History}

-- ---- the circle of numbers

-- the largest number; the next one after it is 1
abbrev pub largest_number : ℕ
largest_number = 65535

-- the numbers of a circle, in the order in which a search after `last` tries them
abbrev pub circle_after : ℕ → ℕ → List ℕ
circle_after circle last = range_with_len (suc last) (circle - last) ++ range_with_len 1 last

-- the first number of a circle after `last` that isn't taken; 0 if all are taken
abbrev pub next_number : ℕ → (ℕ → Bool) → ℕ → ℕ
next_number circle is_taken last = unwrap_or (find (λ n. not (is_taken n)) (circle_after circle last)) 0

-- ---- which drawings are in use

-- whether some worker is at a drawing
abbrev pub is_at_work : Input → State → ℕ → Bool
is_at_work i st q = is_some (least_from (λ w. is_number q (worker_at st w)) 1 i.options.workers)

-- whether a drawing is in use: it is live, or some worker is at it
abbrev pub is_in_use : Input → State → ℕ → Bool
is_in_use i st q = is_live st q || is_at_work i st q

-- whether some worker is ready with a drawing, and so keeps it until it answers
abbrev pub is_kept : Input → State → ℕ → Bool
is_kept i st q = is_at_work i st q && is_ready (progress_in st q)

-- ---- the number of each drawing

-- the drawings that were made, with their numbers
pub record Numbers : Type 0 where
  -- the drawing that was made last, 0 at first
  pub last : ℕ
  -- the number of each drawing, 0 for one that wasn't made
  pub number_of : ℕ → ℕ
  -- which drawings are in use
  pub in_use : ℕ → Bool

-- whether a drawing in use has this number
abbrev pub is_taken : Numbers → ℕ → Bool
is_taken numbers n = is_some (least_from (λ q. numbers.in_use q && numbers.number_of q == n) 1 numbers.last)

-- the number that is drawn next
abbrev pub number_drawn : ℕ → Numbers → ℕ
number_drawn circle numbers = next_number circle (is_taken numbers) (numbers.number_of numbers.last)

-- a drawing is made: it has the number that is drawn next, and is in use
abbrev pub drawn_as : ℕ → ℕ → Numbers → Numbers
drawn_as circle new numbers = record {
  last = new;
  number_of = λ q. if q == new then number_drawn circle numbers else numbers.number_of q;
  in_use = λ q. q == new || numbers.in_use q;
}

-- a drawing was replaced by another: it isn't in use any more, unless it is kept
abbrev pub without_replaced : (ℕ → Bool) → ℕ → Numbers → Numbers
without_replaced kept old numbers = record numbers { in_use = λ q. numbers.in_use q && (not (q == old) || kept q) }

-- the numbers after a change: the old drawing of a renewal is in use until its new one has its number
abbrev pub numbers_after_change : ℕ → (ℕ → Bool) → Numbers → Change → Numbers
numbers_after_change circle kept numbers (Renewed old new) = without_replaced kept old (drawn_as circle new numbers)
numbers_after_change circle kept numbers _ = numbers

-- the numbers after an entry, by the drawings that workers keep; the changes are made in order
abbrev pub numbers_after : ℕ → (ℕ → Bool) → Numbers → Entry → Numbers
numbers_after circle kept numbers (Entered t call regs (Held q)) = drawn_as circle q numbers
numbers_after circle kept numbers (Used t seq call regs args ids result changes) = fold (numbers_after_change circle kept) numbers changes
numbers_after circle kept numbers (Reloaded t n done changes) = fold (numbers_after_change circle kept) numbers changes
numbers_after circle kept numbers _ = numbers

-- the numbers before the first entry
abbrev pub no_numbers : Numbers
no_numbers = record { last = 0; number_of = λ q. 0; in_use = λ q. false }

-- the numbers with the drawings that are in use in this state
abbrev pub in_use_now : Input → State → Numbers → Numbers
in_use_now i st numbers = record numbers { in_use = is_in_use i st }

-- the numbers after a history of drawings; at each entry the drawings are in use that are in the state before it
abbrev pub numbers_at : ℕ → Input → History → Numbers
numbers_at circle i [] = no_numbers
numbers_at circle i (e ∷ h) = numbers_after circle (is_kept i (looking_back i h)) (in_use_now i (looking_back i h) (numbers_at circle i h)) e

-- ---- the drawing of each number

-- the drawings that were counted
pub record Drawings : Type 0 where
  -- how many there are
  pub count : ℕ
  -- the last drawing of each number, 0 if it has none
  pub drawing_of : ℕ → ℕ

-- one more drawing is counted, of this number
abbrev pub counted : Drawings → ℕ → Drawings
counted drawings n = record { count = suc drawings.count; drawing_of = λ m. if m == n then suc drawings.count else drawings.drawing_of m }

-- the drawings after a change
abbrev pub drawings_after_change : Drawings → Change → Drawings
drawings_after_change drawings (Renewed old new) = counted drawings new
drawings_after_change drawings _ = drawings

-- the drawings after an entry
abbrev pub drawings_after : Drawings → Entry → Drawings
drawings_after drawings (Entered t call regs (Held n)) = counted drawings n
drawings_after drawings (Used t seq call regs args ids result changes) = fold drawings_after_change drawings changes
drawings_after drawings (Reloaded t n done changes) = fold drawings_after_change drawings changes
drawings_after drawings _ = drawings

-- the drawings after a history of numbers
abbrev pub drawings_at : History → Drawings
drawings_at [] = record { count = 0; drawing_of = λ n. 0 }
drawings_at (e ∷ h) = drawings_after (drawings_at h) e

-- ---- a trace of drawings as a trace of numbers, and back

-- the way of a call, with another number if it is held
abbrev pub renumbered_way : (ℕ → ℕ) → Way → Way
renumbered_way new (Held q) = Held (new q)
renumbered_way new way = way

-- an entry that names its messages in another way: the one that it posts by `new`, those among its changes by `changed`, all others by `named`
abbrev pub renumbered : (ℕ → ℕ) → (ℕ → ℕ) → (List Change → List Change) → Entry → Entry
renumbered named new changed (Entered t call regs way) = Entered t call regs (renumbered_way new way)
renumbered named new changed (Claimed w q) = Claimed w (named q)
renumbered named new changed (Copied q part place word) = Copied (named q) part place word
renumbered named new changed (Looked q part name seen) = Looked (named q) part name seen
renumbered named new changed (Faulted q errno) = Faulted (named q) errno
renumbered named new changed (Answered w s v applied) = Answered w (record s { seq = named s.seq }) v applied
renumbered named new changed (Used t seq call regs args ids result changes) = Used t (option_map named seq) call regs args ids result (changed changes)
renumbered named new changed (Denied t seq errno cause) = Denied t (option_map named seq) errno cause
renumbered named new changed (Replied q reply n) = Replied (named q) reply n
renumbered named new changed (Learned q n) = Learned (named q) n
renumbered named new changed (Reloaded t n done changes) = Reloaded t n done (changed changes)
renumbered named new changed e = e

-- a change with the numbers of its drawings
abbrev pub numbered_change : (ℕ → ℕ) → Change → Change
numbered_change number_of (Renewed old new) = Renewed (number_of old) (number_of new)
numbered_change number_of change = change

-- an entry with the numbers of its drawings
abbrev pub numbered_entry : (ℕ → ℕ) → Entry → Entry
numbered_entry number_of e = renumbered number_of number_of (map (numbered_change number_of)) e

-- changes with the drawings of their numbers: each old number has its last drawing before the entry, and the new ones are counted on
abbrev pub drawn_changes : (ℕ → ℕ) → ℕ → List Change → List Change
drawn_changes drawing_of count [] = []
drawn_changes drawing_of count (Renewed old new ∷ changes) = Renewed (drawing_of old) (suc count) ∷ drawn_changes drawing_of (suc count) changes
drawn_changes drawing_of count (change ∷ changes) = change ∷ drawn_changes drawing_of count changes

-- an entry with the drawings of its numbers, by the drawings before it
abbrev pub drawn_entry : Drawings → Entry → Entry
drawn_entry drawings e = renumbered drawings.drawing_of (λ n. suc drawings.count) (drawn_changes drawings.drawing_of drawings.count) e

-- a history of drawings as one of numbers: each entry has the numbers that its drawings have after it
abbrev pub numbered_back : ℕ → Input → History → History
numbered_back circle i [] = []
numbered_back circle i (e ∷ h) = numbered_entry (numbers_at circle i (e ∷ h)).number_of e ∷ numbered_back circle i h

-- a history of numbers as one of drawings
abbrev pub drawn_back : History → History
drawn_back [] = []
drawn_back (e ∷ h) = drawn_entry (drawings_at h) e ∷ drawn_back h

-- a trace of drawings as a trace of numbers of this circle
abbrev pub numbered_in : ℕ → Input → List Entry → List Entry
numbered_in circle i trace = reverse (numbered_back circle i (reverse trace))

-- a trace of drawings as a trace of numbers
abbrev pub numbered : Input → List Entry → List Entry
numbered i trace = numbered_in largest_number i trace

-- a trace of numbers as a trace of drawings
abbrev pub drawn : List Entry → List Entry
drawn trace = reverse (drawn_back (reverse trace))

-- a trace of numbers is lawful: its numbers are those of its drawings, and the trace of its drawings is lawful
pub record IsLawfulByNumber (i : Input) (trace : List Entry) : Type 0 where
  pub numbers_are : numbered i (drawn trace) ≡ trace
  pub lawful : Lawful i (drawn trace)

-- ---- which drawings an entry names

-- an entry names a drawing, other than those that it makes
abbrev pub NamesDrawing : ℕ → Entry → Type 0
NamesDrawing q (Claimed w p) = p ≡ q
NamesDrawing q (Copied p part place word) = p ≡ q
NamesDrawing q (Looked p part name seen) = p ≡ q
NamesDrawing q (Faulted p errno) = p ≡ q
NamesDrawing q (Answered w s v applied) = s.seq ≡ q
NamesDrawing q (Used t seq call regs args ids result changes) = (seq ≡ Some q) ⊎ SomeIn (Renews q) changes
NamesDrawing q (Denied t seq errno cause) = seq ≡ Some q
NamesDrawing q (Replied p reply n) = p ≡ q
NamesDrawing q (Learned p n) = p ≡ q
NamesDrawing q (Reloaded t n done changes) = SomeIn (Renews q) changes
NamesDrawing q _ = ⊥
