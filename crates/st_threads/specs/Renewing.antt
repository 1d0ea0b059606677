-- How held calls get new drawings: those of a process when another call of it sets its ids, and those under a policy when it is replaced.
use Rattle.std.specs.List.{fold}
use Rattle.std.specs.Prelude.{◌≡◌, ◌≢◌, ◌↔◌, ℕ, suc, Bool, true, not, ◌&&◌, ◌==◌, if◌then◌else◌, List, [], ◌∷◌, ◌++◌, map, Option, Some, None}
use Rattle.std.specs.Str.{bytes_eq}
use Rattle.st_lookaside.specs.declared.head.Renewal.{Renewal}
use Rattle.st_model.specs.Processes.{Processes, process_at, pid_of}
use Rattle.st_names.specs.Name.{Components}
use Rattle.st_trace.specs.declared.entry.Change.{Change}
use Rattle.st_trace.specs.declared.entry.Change.TheVariants.{Renewed}
use Rattle.st_law.specs.declared.input.Input.{Input}
use Rattle.st_law.specs.Numbers.{Numbers, largest_number, numbered_change, numbers_after_change}
use Rattle.st_law.specs.State.{Message, State}
use Rattle.st_workers.specs.Numbers.{AreReady, CarriesNumbers, HasNumbers, IsReadyWith}
use Rattle.st_workers.specs.Refinement.{messages_renewed, RepresentsMachineMessages, RepresentsMessages, RenewsLife}
use Rattle.st_workers.specs.UnderWay.{UnderWay}
use Rattle.st_threads.specs.Thread.{ThreadRow, drawing_held}
use Rattle.st_threads.specs.declared.renewing.RenewedCall.{RenewedCall}
use Rattle.st_threads.specs.declared.which.WhichCalls.{WhichCalls}
use Rattle.st_threads.specs.declared.which.WhichCalls.TheVariants.{OthersOf, Under}

-- ---- which calls are renewed

-- whether these calls are those of the threads of a process, or of this one of them
abbrev pub is_one_of : Processes → WhichCalls → ℕ → ℕ → Bool
is_one_of processes (OthersOf caller) t pid = pid == caller.pid && not (t == caller.tid)
is_one_of processes (Under binary) t pid = bytes_eq (process_at processes pid).policy binary.now

-- the process of a thread, if it is one whose held call is among these
abbrev pub pid_if : Processes → WhichCalls → ℕ → Option ℕ → Option ℕ
pid_if processes which t None = None
pid_if processes which t (Some pid) = if is_one_of processes which t pid then Some pid else None

-- the processes of the threads whose held calls are these; none for each other thread
abbrev pub pids_of : Processes → WhichCalls → ℕ → Option ℕ
pids_of processes which t = pid_if processes which t (pid_of processes t)

-- the call that a thread of this process holds under a drawing
abbrev pub call_of : Option ℕ → Option ℕ → Option RenewedCall
call_of None drawing = None
call_of (Some pid) None = None
call_of (Some pid) (Some q) = Some (record { pid = pid; drawing = q })

-- the call that a thread holds, if it is renewed, by the processes of the threads whose calls are
abbrev pub call_renewed : (ℕ → Option ℕ) → ℕ → ThreadRow → Option RenewedCall
call_renewed pids t row = call_of (pids t) (drawing_held row)

-- calls, with one more if it exists
abbrev pub with_call : Option RenewedCall → List RenewedCall → List RenewedCall
with_call None calls = calls
with_call (Some call) calls = call ∷ calls

-- the calls that are renewed, of the threads from t on, in their order
abbrev pub calls_from : (ℕ → Option ℕ) → ℕ → List ThreadRow → List RenewedCall
calls_from pids t [] = []
calls_from pids t (row ∷ rows) = with_call (call_renewed pids t row) (calls_from pids (suc t) rows)

-- ---- how they are renewed

-- what a call is judged by from now on: the ids and the directory of its process, and this version of its policy
abbrev pub renewal_of : Processes → ℕ → RenewedCall → Renewal
renewal_of processes version call = record { ids = (process_at processes call.pid).ids; cwd = (process_at processes call.pid).cwd; version = version }

-- the directory of the process of each call; that of the last call comes first
abbrev pub cwds_of : Processes → List RenewedCall → List Components
cwds_of processes [] = []
cwds_of processes (call ∷ calls) = cwds_of processes calls ++ (process_at processes call.pid).cwd ∷ []

-- the last of these directories is that of the process of a call, if there is one, and these are left
abbrev pub TakesCwd : Processes → Option RenewedCall → List Components → List Components → Type 0
TakesCwd processes None cwds left = cwds ≡ left
TakesCwd processes (Some call) cwds left = cwds ≡ left ++ (process_at processes call.pid).cwd ∷ []

-- the changes that renew each call, under the drawings from this one on
abbrev pub renewals_from : ℕ → List RenewedCall → List Change
renewals_from next [] = []
renewals_from next (call ∷ calls) = Renewed call.drawing next ∷ renewals_from (suc next) calls

-- the numbers of the law after renewals, if some worker is ready with these drawings
abbrev pub numbers_after_renewals : (ℕ → Bool) → List Change → Numbers → Numbers
numbers_after_renewals ready changes numbers = fold (numbers_after_change largest_number ready) numbers changes

-- these are changes that are made one after the other, with the numbers that the law then has
abbrev pub AreNumberedFrom : UnderWay → List Change → List Change → Type 0
AreNumberedFrom workers drawn given =
    (ready : ℕ → Bool) → AreReady ready workers → (numbers : Numbers) → HasNumbers numbers workers.calls → given ≡ map (numbered_change (numbers_after_renewals ready drawn numbers).number_of) drawn

-- the next drawing after one was given or not
abbrev pub next_after : ℕ → Option RenewedCall → ℕ
next_after next None = next
next_after next (Some call) = suc next

-- a thread whose held call has got a new drawing, or hasn't
abbrev pub row_renewed : ℕ → Option RenewedCall → ThreadRow → ThreadRow
row_renewed next None row = row
row_renewed next (Some call) row = record row { number = next }

-- the threads from t on, after each call was renewed
abbrev pub rows_renewed : (ℕ → Option ℕ) → ℕ → ℕ → List ThreadRow → List ThreadRow
rows_renewed pids next t [] = []
rows_renewed pids next t (row ∷ rows) =
    row_renewed next (call_renewed pids t row) row ∷ rows_renewed pids (next_after next (call_renewed pids t row)) (suc t) rows

-- ---- the messages

-- a live drawing is renewed under the next one
abbrev pub RenewsOne : Renewal → ℕ → UnderWay → UnderWay → Type 0
RenewsOne renewal q old new = (i : Input) (messages : ℕ → Message) (turns : ℕ → Option ℕ) (alive later : ℕ → Bool) (posted : ℕ)
    → RepresentsMachineMessages i messages turns alive posted old → RenewsLife alive q (suc posted) later → RepresentsMachineMessages i (messages_renewed renewal q (suc posted) messages) turns later (suc posted) new

-- a call is renewed, if there is one, with this version of its policy
abbrev pub RenewsIf : Processes → ℕ → Option RenewedCall → UnderWay → UnderWay → Type 0
RenewsIf processes version None old new = new ≡ old
RenewsIf processes version (Some call) old new = RenewsOne (renewal_of processes version call) call.drawing old new

-- calls are renewed one after the other, with this version of their policy
abbrev pub RenewsAll : Processes → ℕ → List RenewedCall → UnderWay → UnderWay → Type 0
RenewsAll processes version [] old new = new ≡ old
RenewsAll processes version (call ∷ calls) old new =
    (between : UnderWay) × RenewsOne (renewal_of processes version call) call.drawing old between × RenewsAll processes version calls between new

-- none of these calls has this drawing
abbrev pub AreOthers : ℕ → List RenewedCall → Type 0
AreOthers q [] = Unit {0}
AreOthers q (call ∷ calls) = (call.drawing ≢ q) × AreOthers q calls

-- the drawing of each of these calls is live, and no two of them have the same
abbrev pub AreLiveAndDistinct : (ℕ → Bool) → List RenewedCall → Type 0
AreLiveAndDistinct alive [] = Unit {0}
AreLiveAndDistinct alive (call ∷ calls) = (alive call.drawing ≡ true) × AreOthers call.drawing calls × AreLiveAndDistinct alive calls

-- the messages under way are those of some state in which each of these calls is live
pub record CanRenew (workers : UnderWay) (calls : List RenewedCall) : Type 0 where
  pub input : Input
  pub state : State
  pub alive : ℕ → Bool
  pub kept : RepresentsMessages input state alive workers
  pub live : AreLiveAndDistinct alive calls

-- the held calls of the threads of these processes have got new drawings, in the order of threads, and this version of their policy
pub record HaveRenewed (processes : Processes) (pids : ℕ → Option ℕ) (version : ℕ) (rows : List ThreadRow) (workers : UnderWay) (new : List ThreadRow) (left : UnderWay) : Type 0 where
  pub rows_are : new ≡ rows_renewed pids workers.calls.next 1 rows
  pub all : RenewsAll processes version (calls_from pids 1 rows) workers left
  pub numbers : (ready : ℕ → Bool) → AreReady ready workers → CarriesNumbers (numbers_after_renewals ready (renewals_from workers.calls.next (calls_from pids 1 rows))) workers.calls left.calls
  pub ready : (q : ℕ) → IsReadyWith left q ↔ IsReadyWith workers q
