-- How the messages and workers of the machine that runs represent those of the law's machine.
use Rattle.std.specs.Prelude.{◌≡◌, ◌<◌, ◌≤◌, ◌==◌, ◌||◌, ℕ, suc, Bool, true, false, if◌then◌else◌, [], length, Option, Some, None, option_map}
use Rattle.st_base.specs.declared.errno.Errno.{Errno}
use Rattle.st_calls.specs.Argument.{args_of}
use Rattle.st_calls.specs.declared.judged.Snapshot.{Snapshot}
use Rattle.st_calls.specs.declared.judged.Verdict.{Verdict}
use Rattle.st_filter.specs.Judged.{verdict_under}
use Rattle.st_lookaside.specs.Slot.{Slot, part_at}
use Rattle.st_lookaside.specs.declared.head.Head as kept
use Rattle.st_lookaside.specs.declared.head.Renewal.{Renewal}
use Rattle.st_messages.specs.declared.message.MsgState.{MsgState}
use Rattle.st_messages.specs.declared.message.MsgState.TheVariants.{Waiting, Claimed, Answered, Faulted}
use Rattle.st_messages.specs.Messages.{message_state}
use Rattle.st_trace.specs.declared.entry.Entry.{Entry}
use Rattle.st_law.specs.declared.input.Input.{Input}
use Rattle.st_law.specs.Machine.{message_after}
use Rattle.st_law.specs.Messages.{Head, posted_after, turn_after}
use Rattle.st_law.specs.State.{Message, State, is_live, is_ready, progress_of_message, snapshot_in, snapshot_of_message}
use Rattle.st_workers.specs.Numbers.{AreNumbered}
use Rattle.st_workers.specs.UnderWay.{Found, UnderWay, found_in}
use Rattle.st_workers.specs.declared.turn.Turn.{Turn}
use Rattle.st_workers.specs.declared.turn.Turn.TheVariants.{Idle, Working, Ready}

-- ---- a message

-- the head of a message, with the thread that posted it
abbrev pub head_of : ℕ → kept.Head → Head
head_of tid head = record {
  tid = tid;
  pid = head.pid;
  ids = head.ids;
  cwd = head.cwd;
  policy = head.policy;
  version = head.version;
  rule = head.rule;
  call = head.call;
  regs = head.regs;
}

-- whether a message was claimed, its fault, and whether it was answered
pub record HasMessageFlags (message : Message) (is_claimed : Bool) (met : Option Errno) (is_answered : Bool) : Type 0 where
  pub claimed : message.claimed ≡ is_claimed
  pub fault : message.fault ≡ met
  pub answered : message.answered ≡ is_answered

-- a message wasn't claimed, faulted or answered, and nothing was copied or seen for it
pub record IsUntouched (message : Message) : Type 0 where
  pub come : HasMessageFlags message false None false
  pub words : (j : ℕ) → message.words j ≡ []
  pub lookups : (j : ℕ) → message.lookups j ≡ []

-- a state represents how far the message of a drawing has come; a claimed message is its worker's turn, and an answered message is complete
abbrev pub IsState : (ℕ → Option ℕ) → ℕ → Message → MsgState → Type 0
IsState turns q message Waiting = HasMessageFlags message false None false
IsState turns q message (Claimed worker) = HasMessageFlags message true None false × (turns worker ≡ Some q)
IsState turns q message (Answered v) = HasMessageFlags message true None true × (is_ready (progress_of_message message) ≡ true)
IsState turns q message (Faulted errno) = HasMessageFlags message true (Some errno) false

-- a slot has a message's head, and for each argument its words and lookups
pub record IsSlotOf (message : Message) (tid : ℕ) (slot : Slot) : Type 0 where
  pub head : message.head ≡ Some (head_of tid slot.head)
  pub count : length slot.parts ≡ length (args_of slot.head.rule)
  pub words : (j : ℕ) → message.words j ≡ (part_at slot.parts j).words
  pub lookups : (j : ℕ) → message.lookups j ≡ (part_at slot.parts j).lookups

-- the slot of a message that was claimed and is complete is sealed
abbrev pub IsSealedOnceReady : Message → Slot → Type 0
IsSealedOnceReady message slot = message.claimed ≡ true → is_ready (progress_of_message message) ≡ true → slot.is_sealed ≡ true

-- a live drawing has a state, a thread and a slot, which represent its message
pub record IsLive (turns : ℕ → Option ℕ) (q : ℕ) (message : Message) (found : Found) : Type 0 where
  pub state : MsgState
  pub tid : ℕ
  pub slot : Slot
  pub state_is : found.state q ≡ Some state
  pub thread_is : found.thread q ≡ Some tid
  pub slot_is : found.slot q ≡ Some slot
  pub is_state : IsState turns q message state
  pub is_slot : IsSlotOf message tid slot
  pub is_sealed : IsSealedOnceReady message slot

-- a drawing that isn't live has none of them
pub record IsDead (q : ℕ) (found : Found) : Type 0 where
  pub state : found.state q ≡ None
  pub thread : found.thread q ≡ None
  pub slot : found.slot q ≡ None

-- a drawing is live and answered
abbrev pub HasAnswer : Option MsgState → Type 0
HasAnswer None = ⊥
HasAnswer (Some Waiting) = ⊥
HasAnswer (Some (Claimed worker)) = ⊥
HasAnswer (Some (Answered v)) = Unit {0}
HasAnswer (Some (Faulted errno)) = ⊥

-- ---- a worker

-- the drawing that a worker is at, by its turn and the live drawings; none if it is idle
abbrev pub at_work : (ℕ → Message) → (ℕ → Bool) → Option ℕ → Option ℕ
at_work messages alive None = None
at_work messages alive (Some q) = if alive q || is_ready (progress_of_message (messages q)) then Some q else None

-- copies as the law's machine has them: there, a message's number is its drawing
abbrev pub drawn_copies : ℕ → Snapshot → Snapshot
drawn_copies q s = record s { seq = q }

-- a turn represents what a worker is at in the law's machine: idle; at a live drawing whose message isn't complete; or at a drawing whose
-- message is complete, with its copies, whether the drawing is live or not
abbrev pub IsTurn : (ℕ → Message) → (ℕ → Bool) → Option ℕ → Turn → Type 0
IsTurn messages alive turned Idle = at_work messages alive turned ≡ None
IsTurn messages alive turned (Working q) = (turned ≡ Some q) × (alive q ≡ true) × (is_ready (progress_of_message (messages q)) ≡ false)
IsTurn messages alive turned (Ready q s) = (turned ≡ Some q) × (snapshot_of_message q (messages q) ≡ Some (drawn_copies q s))

-- ---- all of them

-- what is found represents the messages and turns of the law's machine, if these drawings are live and so many were posted
pub record AgreesWithMachine (messages : ℕ → Message) (turns : ℕ → Option ℕ) (alive : ℕ → Bool) (posted : ℕ) (found : Found) : Type 0 where
  pub next : found.next ≡ suc posted
  pub live : (q : ℕ) → alive q ≡ true → IsLive turns q (messages q) found
  pub dead : (q : ℕ) → alive q ≡ false → IsDead q found
  pub given : (q : ℕ) → alive q ≡ true → (0 < q) × (q ≤ posted)
  pub later : (q : ℕ) → posted < q → IsUntouched (messages q)
  pub turned : (worker q : ℕ) → turns worker ≡ Some q → HasMessageFlags (messages q) true None false
  pub apart : (a b q : ℕ) → turns a ≡ Some q → turns b ≡ Some q → a ≡ b
  pub workers : (worker : ℕ) (turn : Turn) → found.turn worker ≡ Some turn → IsTurn messages alive (turns worker) turn

-- the same for the workers of an input; each answer is the verdict of the policies on its copies, at their version; ready workers keep the
-- numbers of ended messages
pub record RepresentsMachineMessages (i : Input) (messages : ℕ → Message) (turns : ℕ → Option ℕ) (alive : ℕ → Bool) (posted : ℕ) (kept : UnderWay) : Type 0 where
  pub workers : kept.calls.workers ≡ i.options.workers
  pub numbered : AreNumbered kept
  pub agrees : AgreesWithMachine messages turns alive posted (found_in kept)
  pub verdicts : (q : ℕ) (v : Verdict) (s : Snapshot) → message_state kept.calls q ≡ Some (Answered v) → snapshot_of_message q (messages q) ≡ Some s → v ≡ verdict_under i.policies s

-- the same for a state of the law's machine
abbrev pub RepresentsMessages : Input → State → (ℕ → Bool) → UnderWay → Type 0
RepresentsMessages i st alive kept = RepresentsMachineMessages i st.messages st.turns alive st.posted kept

-- the same after one more entry
abbrev pub RepresentsMessagesAfter : Input → State → Entry → (ℕ → Bool) → UnderWay → Type 0
RepresentsMessagesAfter i st e alive kept = RepresentsMachineMessages i (message_after i st e) (λ w. turn_after e w (st.turns w)) alive (posted_after e st.posted) kept

-- the messages and workers represent the state after an entry that changes for no drawing whether it is live
abbrev pub RepresentsAfterEntry : UnderWay → Entry → UnderWay → Type 0
RepresentsAfterEntry old e new = (i : Input) (st : State) (alive : ℕ → Bool) → RepresentsMessages i st alive old → RepresentsMessagesAfter i st e alive new

-- the new messages and workers represent whatever the old ones represent
abbrev pub SameWorkersState : UnderWay → UnderWay → Type 0
SameWorkersState old new = (i : Input) (messages : ℕ → Message) (turns : ℕ → Option ℕ) (alive : ℕ → Bool) (posted : ℕ) → RepresentsMachineMessages i messages turns alive posted old → RepresentsMachineMessages i messages turns alive posted new

-- how far a drawing has come in a state of the law's machine: it isn't live; it is neither faulted nor answered; it is answered with the
-- verdict of the policies on its copies, at their version; or it is faulted
abbrev pub IsMessageStateOf : Input → State → ℕ → Option MsgState → Type 0
IsMessageStateOf i st q None = is_live st q ≡ false
IsMessageStateOf i st q (Some Waiting) = (is_live st q ≡ true) × HasMessageFlags (st.messages q) false None false
IsMessageStateOf i st q (Some (Claimed worker)) = (is_live st q ≡ true) × HasMessageFlags (st.messages q) true None false
IsMessageStateOf i st q (Some (Answered v)) = (is_live st q ≡ true) × HasMessageFlags (st.messages q) true None true × (s : Snapshot) × (snapshot_in st q ≡ Some s) × (v ≡ verdict_under i.policies s)
IsMessageStateOf i st q (Some (Faulted errno)) = (is_live st q ≡ true) × HasMessageFlags (st.messages q) true (Some errno) false

-- a drawing is that of a call that this thread holds, or has held
abbrev pub IsHeldBy : State → ℕ → ℕ → Type 0
IsHeldBy st q t = option_map (λ (head : Head). head.tid) (st.messages q).head ≡ Some t

-- a drawing is live now or not, and each other drawing is unchanged
abbrev pub ChangesLife : (ℕ → Bool) → ℕ → Bool → (ℕ → Bool) → Type 0
ChangesLife alive q is_live later = (other : ℕ) → later other ≡ (if other == q then is_live else alive other)

-- a drawing is no longer live, this new drawing is, and each other is unchanged
abbrev pub RenewsLife : (ℕ → Bool) → ℕ → ℕ → (ℕ → Bool) → Type 0
RenewsLife alive q fresh later = (other : ℕ) → later other ≡ (if other == fresh then true else if other == q then false else alive other)

-- the head of a message after this renewal
abbrev pub head_renewed : Renewal → Head → Head
head_renewed renewal head = record head { ids = renewal.ids; cwd = renewal.cwd; version = renewal.version }

-- the messages after one of them was renewed under a new drawing
abbrev pub messages_renewed : Renewal → ℕ → ℕ → (ℕ → Message) → ℕ → Message
messages_renewed renewal drawing fresh messages q =
    record (messages q) { head = if fresh == q then option_map (head_renewed renewal) (messages drawing).head else (messages q).head }

-- each worker has a turn, and what is found represents some messages and turns
pub record AreValidWorkers (kept : UnderWay) : Type 0 where
  pub count : length kept.turns ≡ kept.calls.workers
  pub messages : ℕ → Message
  pub turns : ℕ → Option ℕ
  pub alive : ℕ → Bool
  pub posted : ℕ
  pub agrees : AgreesWithMachine messages turns alive posted (found_in kept)
