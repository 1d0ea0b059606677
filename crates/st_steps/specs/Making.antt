-- The step that makes a call.
use Rattle.std.specs.Prelude.{◌≡◌, ◌<◌, ◌+◌, ◌-◌, ◌^◌, ℕ, true, List, length, set, Option, Some, None, IfSome, IsSome, slice_index_or}
use Rattle.st_base.specs.Numbered.{item_at_number}
use Rattle.st_calls.specs.Call.{sets_ids}
use Rattle.st_messages.specs.Messages.{is_live_drawing}
use Rattle.st_model.specs.Identity.{set_refused}
use Rattle.st_model.specs.Processes.{Processes}
use Rattle.st_names.specs.Name.{Components}
use Rattle.st_request.specs.declared.outcome.Outcome.{Outcome}
use Rattle.st_trace.specs.declared.entry.Change.{Change}
use Rattle.st_trace.specs.declared.entry.Choice.TheVariants.{Thread}
use Rattle.st_trace.specs.declared.entry.Entry.TheVariants.{Used}
use Rattle.st_threads.specs.Ending.{is_ended_by, EndsCall, HaveEnded}
use Rattle.st_threads.specs.Renewing.{calls_from, cwds_of, pids_of, CanRenew, HaveRenewed}
use Rattle.st_threads.specs.Thread.{ThreadRow}
use Rattle.st_threads.specs.declared.which.WhichCalls.TheVariants.{OthersOf}
use Rattle.st_workers.specs.Numbers.{seq_if, AreFew, IsNumbered, KeepsNumbers}
use Rattle.st_workers.specs.UnderWay.{UnderWay}
use Rattle.st_decide.specs.Machine.{IsDrawnStep, Running}
use Rattle.st_decide.specs.declared.step.ReadyCall.{ReadyCall}
use Rattle.st_steps.specs.declared.own_call.OwnCall.{OwnCall}

-- a thread makes its call with this outcome, and the machine that runs goes on by the entry that this adds; the changes of the outcome have
-- the numbers of the drawings
abbrev pub MakesCall : Running → ℕ → ReadyCall → Outcome → Running → Type 0
MakesCall old tid ready outcome new =
    (drawn : List Change) × IsDrawnStep old (Thread tid) (Used tid ready.drawing ready.call ready.regs ready.args ready.ids outcome.result drawn) new
    × ((seq : Option ℕ) → seq ≡ seq_if old.workers.calls ready.drawing → IsNumbered (Used tid ready.drawing ready.call ready.regs ready.args ready.ids outcome.result drawn) (Used tid seq ready.call ready.regs ready.args ready.ids outcome.result outcome.changes) old.workers)

-- a call renews no held calls: it sets no ids, or is refused
abbrev pub RenewsNone : ReadyCall → Type 0
RenewsNone ready = sets_ids ready.call ≡ true → IsSome (set_refused ready.call ready.ids (slice_index_or ready.regs 0 0))

-- ---- a call that is made ends

-- the threads, of which one has no pending call any more
abbrev pub IsClosed : List ThreadRow → ℕ → List ThreadRow → Type 0
IsClosed rows t closed = (row : ThreadRow) × (item_at_number rows t ≡ Some row) × (closed ≡ set rows (t - 1) (record row { pending = None }))

-- a call has ended, and then the threads that die by these changes, with their held calls
abbrev pub EndsMade : Processes → OwnCall → List Change → List ThreadRow → UnderWay → List ThreadRow → UnderWay → Type 0
EndsMade processes own changes rows workers new left =
    (closed : List ThreadRow) × (between : UnderWay) × IsClosed rows own.caller.tid closed × EndsCall own.drawing workers between × KeepsNumbers workers.calls between.calls
    × HaveEnded (is_ended_by processes own.caller.tid own.caller.pid changes) closed between new left

-- the process of each thread whose held call is renewed with the call of another thread: those of the same process
abbrev pub others : Processes → OwnCall → ℕ → Option ℕ
others processes own = pids_of processes (OthersOf own.caller)

-- the other held calls of the process of a call can be renewed, with this version of their policy and these copies of directories, and then
-- the call can end
pub record CanRenewOthers (processes : Processes) (own : OwnCall) (version : ℕ) (closed : List ThreadRow) (workers : UnderWay) (cwds : List Components) : Type 0 where
  pub calls : CanRenew workers (calls_from (others processes own) 1 closed)
  pub room : workers.calls.next + length closed < 2 ^ 64
  pub few : AreFew workers.calls
  pub copies : cwds ≡ cwds_of processes (calls_from (others processes own) 1 closed)
  pub lives : (new : List ThreadRow) (between : UnderWay) → HaveRenewed processes (others processes own) version closed workers new between → IfSome own.drawing (λ q. is_live_drawing between.calls q ≡ true)

-- the other held calls of the process of a call are renewed, with this version of their policy, and then the call has ended
abbrev pub RenewsOthers : Processes → OwnCall → ℕ → List ThreadRow → UnderWay → List ThreadRow → UnderWay → Type 0
RenewsOthers processes own version rows workers new left =
    (closed : List ThreadRow) × (between : UnderWay) × IsClosed rows own.caller.tid closed × HaveRenewed processes (others processes own) version closed workers new between
    × EndsCall own.drawing between left × KeepsNumbers between.calls left.calls
