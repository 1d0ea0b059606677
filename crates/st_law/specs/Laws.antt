-- The conclusions of the laws of runs, apart from the lawfulness of each entry.
use Rattle.std.specs.Prelude.{◌≡◌, ◌≢◌, ◌≤◌, ◌<◌, ◌⊎◌, ℕ, suc, false, List, [], ◌∷◌, ◌++◌, drop, length, slice_get, None, Some}
use Rattle.st_calls.specs.Argument.{name_of_label}
use Rattle.st_base.specs.declared.ids.Ids.{Ids}
use Rattle.st_calls.specs.declared.argument.ArgText.{ArgText}
use Rattle.st_calls.specs.declared.call.SysCall.{SysCall}
use Rattle.st_calls.specs.declared.judged.Snapshot.{Snapshot}
use Rattle.st_calls.specs.declared.judged.Verdict.{Verdict}
use Rattle.st_calls.specs.declared.judged.Verdict.TheVariants.{Permit, Unmatched}
use Rattle.st_effects.specs.System.{HeldCall}
use Rattle.st_trace.specs.Instructions.{IsCallOf}
use Rattle.st_trace.specs.declared.entry.Entry.{Entry}
use Rattle.st_trace.specs.declared.entry.Entry.TheVariants.{Stored, Entered, Reloaded}
use Rattle.st_trace.specs.declared.entry.Way.TheVariants.{Held}
use Rattle.st_trace.specs.declared.start.Instr.{Instr}
use Rattle.st_trace.specs.declared.start.Instr.TheVariants.{Store, Reload}
use Rattle.st_law.specs.declared.input.Input.{Input}
use Rattle.st_law.specs.History.{looking_back, thread_at}
use Rattle.st_law.specs.Machine.{state_of_run, IsSettled}
use Rattle.st_law.specs.Messages.{turn_at}
use Rattle.st_law.specs.Schedules.{Played}
use Rattle.st_law.specs.State.{State}
use Rattle.st_law.specs.Threads.{History, PendingCall, left_at}

-- a call of a number is made with the copies that its answer judged and, if the answer decided, under the ids that it granted
pub record IsUsedAsAnswered (s : Snapshot) (v : Verdict) (call : SysCall) (regs : List ℕ) (args : List ArgText) (ids : Ids) : Type 0 where
  pub call_is : s.call ≡ call
  pub regs_are : s.regs ≡ regs
  pub args_are : args ≡ s.parts
  pub ids_are : v ≢ Unmatched → (n : ℕ) × (v ≡ Permit n ids)

-- these arguments have one with the label's name, the index and the text of this argument
pub record HasEqualArgument (args : List ArgText) (arg : ArgText) : Type 0 where
  pub place : ℕ
  pub same : ArgText
  pub there : slice_get args place ≡ Some same
  pub label : name_of_label same.label ≡ name_of_label arg.label
  pub index : same.index ≡ arg.index
  pub text : same.text ≡ arg.text

-- these arguments have each of the wanted ones
abbrev pub HaveEqualArguments : List ArgText → List ArgText → Type 0
HaveEqualArguments args wanted = (j : ℕ) (arg : ArgText) → slice_get wanted j ≡ Some arg → HasEqualArgument args arg

-- the played state is that of the played choices, and no choice is enabled in it
pub record IsRested (i : Input) (played : Played) : Type 0 where
  pub reached : played.state ≡ state_of_run i played.choices
  pub settled : IsSettled i played.state

-- an entry changes nothing except that this worker becomes idle
pub record IsStale (i : Input) (h : History) (w : ℕ) (e : Entry) : Type 0 where
  pub record_stays : looking_back i (e ∷ h) ≡ record (looking_back i h) { turns = turn_at (e ∷ h) }
  pub own : turn_at (e ∷ h) w ≡ None
  pub others : (u : ℕ) → u ≢ w → turn_at (e ∷ h) u ≡ turn_at h u

-- an entry changes nothing except that this thread goes past its next instruction
pub record IsPassedBy (i : Input) (h : History) (t : ℕ) (e : Entry) : Type 0 where
  pub record_stays : looking_back i (e ∷ h) ≡ record (looking_back i h) { threads = thread_at i (e ∷ h) }
  pub own : thread_at i (e ∷ h) t ≡ record (thread_at i h t) { left = drop 1 (left_at i h t) }
  pub others : (u : ℕ) → u ≢ t → thread_at i (e ∷ h) u ≡ thread_at i h u

-- ---- the instructions that a thread has begun, in order

-- an own entry of the thread appends this instruction to those begun before it; an entry of another thread appends none
abbrev pub IsBegun : ℕ → ℕ → (Instr → Type 0) → (List Instr → Type 0) → List Instr → Type 0
IsBegun u t Is Before begun =
    ((u ≡ t) × ((earlier : List Instr) × (instruction : Instr) × Is instruction × Before earlier × (begun ≡ earlier ++ instruction ∷ []))) ⊎
    ((u ≢ t) × Before begun)

-- these are the instructions that a thread has stored, entered and reloaded, in order
abbrev pub HasBegun : ℕ → History → List Instr → Type 0
HasBegun t [] begun = begun ≡ []
HasBegun t (Stored u place word ∷ h) begun = IsBegun u t (λ instruction. instruction ≡ Store place word) (HasBegun t h) begun
HasBegun t (Entered u call regs way ∷ h) begun = IsBegun u t (λ instruction. IsCallOf instruction call regs) (HasBegun t h) begun
HasBegun t (Reloaded u n done changes ∷ h) begun = IsBegun u t (λ instruction. instruction ≡ Reload n) (HasBegun t h) begun
HasBegun t (_ ∷ h) begun = HasBegun t h begun

-- ---- what a call sees

-- a thread of the script
abbrev pub IsOneOf : Input → ℕ → Type 0
IsOneOf i t = (1 ≤ t) × (t ≤ length i.start.threads)

-- a process exists and hasn't ended: its number was given, and it has no thread, or one that hasn't ended
pub record IsProcessLive (i : Input) (st : State) (p : ℕ) : Type 0 where
  pub low : 1 ≤ p
  pub given : p < st.next_process
  pub running : ((t : ℕ) → IsOneOf i t → (st.threads t).owner ≢ p)
      ⊎ ((t : ℕ) × IsOneOf i t × ((st.threads t).owner ≡ p) × ((st.threads t).ended ≡ false))

-- a thread holds a call, and isn't dying
pub record HoldsCall (i : Input) (st : State) (t : ℕ) : Type 0 where
  pub one : IsOneOf i t
  pub first : ℕ
  pub entered : PendingCall
  pub pending : (st.threads t).pending ≡ Some entered
  pub way : entered.way ≡ Held first
  pub undying : (st.threads t).dying ≡ false

-- these are the calls that threads hold, in the order of the threads, each with its process and number
pub record AreHeldCalls (i : Input) (st : State) (helds : List HeldCall) : Type 0 where
  pub sound : (k : ℕ) (held : HeldCall) → slice_get helds k ≡ Some held → HoldsCall i st held.tid
      × (held ≡ record { tid = held.tid; pid = (st.threads held.tid).owner; number = (st.threads held.tid).number })
  pub complete : (t : ℕ) → HoldsCall i st t → (k : ℕ) × (held : HeldCall) × (slice_get helds k ≡ Some held) × (held.tid ≡ t)
  pub in_order : (k : ℕ) (held next : HeldCall) → slice_get helds k ≡ Some held → slice_get helds (suc k) ≡ Some next → held.tid < next.tid
