-- Invariants of every state that a run reaches: which thread a live number belongs to, that a held call has a live number, which numbers
-- are live after each entry, how many are drawn at most, that a fork starts a new thread, and under which ids a call sets ids.
use Rattle.std.specs.Prelude.{◌≡◌, ◌≢◌, ℕ, ◌+◌, ◌*◌, Bool, true, false, ◌==◌, if◌then◌else◌, List, Option, Some, None}
use Rattle.std.specs.List.{fold}
use Rattle.st_base.specs.declared.ids.Ids.{Ids}
use Rattle.st_calls.specs.declared.argument.ArgText.{ArgText}
use Rattle.st_calls.specs.declared.call.SysCall.{SysCall}
use Rattle.st_calls.specs.declared.call.SysCall.TheVariants.{Fork}
use Rattle.st_model.specs.Tree.{is_number}
use Rattle.st_trace.specs.declared.entry.CallResult.{CallResult}
use Rattle.st_trace.specs.declared.entry.Change.{Change}
use Rattle.st_trace.specs.declared.entry.Change.TheVariants.{Execed, Dying, Renewed}
use Rattle.st_trace.specs.declared.entry.Entry.{Entry}
use Rattle.st_trace.specs.declared.entry.Entry.TheVariants.{Entered, Used, Denied, Reloaded}
use Rattle.st_trace.specs.declared.entry.Way.TheVariants.{Held}
use Rattle.st_law.specs.declared.input.Input.{Input}
use Rattle.st_law.specs.Lawful.{IsUsed}
use Rattle.st_law.specs.Messages.{Head}
use Rattle.st_law.specs.Schedules.{instruction_count, renewing_count}
use Rattle.st_calls.specs.Call.{sets_ids}
use Rattle.st_law.specs.State.{State, is_live, process_in}
use Rattle.st_law.specs.Threads.{PendingCall}

-- ---- which thread a live number belongs to

-- a thread that has started and hasn't ended has its pending call held under this number
pub record IsHolding (st : State) (t q : ℕ) : Type 0 where
  pub entered : PendingCall
  pub pending : (st.threads t).pending ≡ Some entered
  pub first : ℕ
  pub way : entered.way ≡ Held first
  pub number : (st.threads t).number ≡ q
  pub started : (st.threads t).owner ≢ 0
  pub unended : (st.threads t).ended ≡ false

-- each live number is that of its thread's held call
pub record LiveNumbersAreOwn (st : State) : Type 0 where
  pub own : (q : ℕ) (head : Head) → is_live st q ≡ true → (st.messages q).head ≡ Some head → IsHolding st head.tid q

-- ---- the number of a held call

-- the number of a thread is live, and its message is the thread's own
pub record HasLiveNumber (st : State) (t : ℕ) : Type 0 where
  pub live : is_live st (st.threads t).number ≡ true
  pub head : Head
  pub posted : (st.messages (st.threads t).number).head ≡ Some head
  pub own : head.tid ≡ t

-- each call that a thread holds has a live number, unless the thread is dying
pub record AllHeldLive (st : State) : Type 0 where
  pub held : (t : ℕ) (entered : PendingCall) (first : ℕ) → (st.threads t).pending ≡ Some entered → entered.way ≡ Held first → (st.threads t).dying ≡ false → HasLiveNumber st t

-- ---- which thread a fork starts

-- each pending fork names a thread that hasn't started
pub record ForksStartNew (st : State) : Type 0 where
  pub child : (t : ℕ) (entered : PendingCall) → (st.threads t).pending ≡ Some entered → entered.call ≡ Fork → (st.threads entered.child).owner ≡ 0

-- ---- under which ids a call sets ids

-- each call that sets ids, if it is made according to the law, is made under its process's own ids
pub record SetsOwnIds (i : Input) (st : State) : Type 0 where
  pub own : (t : ℕ) (seq : Option ℕ) (call : SysCall) (regs : List ℕ) (args : List ArgText) (ids : Ids) (result : CallResult) (changes : List Change)
      → IsUsed i st t seq call regs args ids result changes → sets_ids call ≡ true → ids ≡ (process_in st t).ids

-- ---- how many numbers are drawn

-- the bound of numbers: no run draws more. An instruction's call draws one number if it is held. A call that sets ids and a reload renew the
-- numbers of held calls, and there are at most as many of these as threads, so at most 64.
abbrev pub most_numbers : Input → ℕ
most_numbers i = instruction_count i + 64 * renewing_count i

-- ---- which numbers are live after an entry

-- whether the thread of a head belongs to process p
abbrev pub is_head_of : State → ℕ → Option Head → Bool
is_head_of st p None = false
is_head_of st p (Some head) = p == (st.threads head.tid).owner

-- whether the thread of a number belongs to process p
abbrev pub is_number_of : State → ℕ → ℕ → Bool
is_number_of st p q = is_head_of st p (st.messages q).head

-- whether a number is live: false for the numbers of process p, `alive` for all others
abbrev pub life_without_process : State → ℕ → (ℕ → Bool) → ℕ → Bool
life_without_process st p alive other = if is_number_of st p other then false else alive other

-- which numbers are live after a change made by process m: a process that is killed or executes another binary has none, and a renewal
-- replaces one number by another
abbrev pub life_after_change : State → ℕ → (ℕ → Bool) → Change → ℕ → Bool
life_after_change st m alive (Dying p) other = life_without_process st p alive other
life_after_change st m alive (Execed binary space) other = life_without_process st m alive other
life_after_change st m alive (Renewed old new) other = if other == new then true else if other == old then false else alive other
life_after_change st m alive _ other = alive other

-- which numbers are live after changes made by process m
abbrev pub life_after_changes : State → ℕ → (ℕ → Bool) → List Change → ℕ → Bool
life_after_changes st m alive changes = fold (life_after_change st m) alive changes

-- whether a number is live: false for the number of the call that is made or denied, as before for all others
abbrev pub life_without : State → Option ℕ → ℕ → Bool
life_without st seq other = if is_number other seq then false else is_live st other

-- which numbers are live after an entry
abbrev pub life_after : State → Entry → ℕ → Bool
life_after st (Entered t call regs (Held q)) other = if other == q then true else is_live st other
life_after st (Used t seq call regs args ids result changes) other =
    life_after_changes st (st.threads t).owner (life_without st seq) changes other
life_after st (Denied t seq errno cause) other = life_without st seq other
life_after st (Reloaded t n done changes) other = life_after_changes st (st.threads t).owner (is_live st) changes other
life_after st _ other = is_live st other
