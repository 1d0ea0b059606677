-- Which entries give each part of the state its value, defined on the entries and on the history before them.
use Rattle.std.specs.Prelude.{◌≡◌, ◌≢◌, ◌≤◌, ◌<◌, ◌⊎◌, ℕ, suc, ◌+◌, ◌/◌, ◌%◌, Bool, true, List, [], ◌∷◌, ◌++◌, length, slice_index, Option, Some, None}
use Rattle.std.specs.Int.{w64, to_le_bytes}
use Rattle.st_base.specs.Numbered.{item_at_number}
use Rattle.st_base.specs.declared.errno.Errno.{Errno}
use Rattle.st_base.specs.declared.ids.Ids.{Ids}
use Rattle.st_calls.specs.Call.{rule_of}
use Rattle.st_calls.specs.declared.judged.Snapshot.{Snapshot}
use Rattle.st_filter.specs.Policies.{binary_of_block, with_binary}
use Rattle.st_filter.specs.declared.set.Reply.{Reply}
use Rattle.st_model.specs.DescriptorCalls.{table_after_close_all}
use Rattle.st_model.specs.Descriptors.{Table}
use Rattle.st_names.specs.Name.{Components}
use Rattle.st_names.specs.declared.seen.SeenText.{SeenText}
use Rattle.st_effects.specs.Effect.{effect}
use Rattle.st_trace.specs.declared.entry.CallResult.TheVariants.{Value}
use Rattle.st_trace.specs.declared.entry.Change.{Change}
use Rattle.st_trace.specs.declared.entry.Change.TheVariants.{Put, Forked, Execed, SetIds, Cwd, Dying, Renewed, Policy}
use Rattle.st_trace.specs.declared.entry.Entry.{Entry}
use Rattle.st_trace.specs.declared.entry.Entry.TheVariants.{Stored, Entered, Claimed, Copied, Looked, Faulted, Answered, Used, Denied, Ended, Learned, Replied, Reloaded}
use Rattle.st_trace.specs.declared.entry.Way.TheVariants.{Held}
use Rattle.st_trace.specs.declared.start.Instr.{Instr}
use Rattle.st_trace.specs.declared.start.Instr.TheVariants.{Fork}
use Rattle.st_law.specs.declared.input.Input.{Input}
use Rattle.st_law.specs.History.{changed_at, message_at, session_at, looking_back, descriptors_at}
use Rattle.st_law.specs.Messages.{Head, head_at, words_at, lookups_at, turn_at}
use Rattle.st_law.specs.Processes.{process_at, byte_at}
use Rattle.st_law.specs.Sessions.{SessionFilter, learnt_filter}
use Rattle.st_law.specs.Splits.{NoneIn, SomeIn, LastGives, NoneTouches}
use Rattle.st_law.specs.State.{thread_count, system_of, request_of, snapshot_of_message}
use Rattle.st_law.specs.Threads.{History, PendingCall, owner_at, left_at, number_at, has_ended_at}
use Rattle.st_law.specs.Versions.{version_at}

-- ---- threads

-- a change starts thread t
abbrev pub IsFork : ℕ → Change → Type 0
IsFork t (Forked pid space tid) = tid ≡ t
IsFork t _ = ⊥

-- an entry has a change that starts thread t
abbrev pub Forks : ℕ → Entry → History → Type 0
Forks t (Used u seq call regs args ids result changes) h = SomeIn (IsFork t) changes
Forks t (Reloaded u n done changes) h = SomeIn (IsFork t) changes
Forks t _ h = ⊥

-- the first of these changes that starts thread t starts it in this process
pub record StartsIn (t pid : ℕ) (changes : List Change) : Type 0 where
  pub before : List Change
  pub space : ℕ
  pub after : List Change
  pub split : changes ≡ before ++ Forked pid space t ∷ after
  pub none_before : NoneIn (IsFork t) before

-- an entry starts thread t in this process
abbrev pub Starts : ℕ → ℕ → Entry → Type 0
Starts t pid (Used u seq call regs args ids result changes) = StartsIn t pid changes
Starts t pid (Reloaded u n done changes) = StartsIn t pid changes
Starts t pid _ = ⊥

-- an entry takes the first instruction that thread t has left, and leaves it these
abbrev pub GivesLeft : Input → ℕ → Entry → History → List Instr → Type 0
GivesLeft i t (Stored u place word) h v = (first : Instr) × (u ≡ t) × (left_at i h t ≡ first ∷ v)
GivesLeft i t (Entered u call regs way) h v = (first : Instr) × (u ≡ t) × (left_at i h t ≡ first ∷ v)
GivesLeft i t (Reloaded u n done changes) h v = (first : Instr) × (u ≡ t) × (left_at i h t ≡ first ∷ v)
GivesLeft i t _ h v = ⊥

-- the next instruction starts this thread, 0 if it starts none
abbrev pub IsChild : List Instr → ℕ → Type 0
IsChild (Fork child ∷ later) c = c ≡ child
IsChild _ c = c ≡ 0

-- thread t has a call pending from the entry that enters it until the call is made or denied
abbrev pub GivesPending : Input → ℕ → Entry → History → Option PendingCall → Type 0
GivesPending i t (Entered u call regs way) h v =
    (child : ℕ) × (u ≡ t) × IsChild (left_at i h t) child × (v ≡ Some (record { call = call; regs = regs; way = way; child = child }))
GivesPending i t (Used u seq call regs args ids result changes) h v = (u ≡ t) × (v ≡ None)
GivesPending i t (Denied u seq errno cause) h v = (u ≡ t) × (v ≡ None)
GivesPending i t _ h v = ⊥

-- a change renews number q
abbrev pub Renews : ℕ → Change → Type 0
Renews q (Renewed old new) = old ≡ q
Renews q _ = ⊥

-- these changes renew number q as number p: no change before renews q, and none after renews p
pub record RenewsAs (q p : ℕ) (changes : List Change) : Type 0 where
  pub before : List Change
  pub after : List Change
  pub split : changes ≡ before ++ Renewed q p ∷ after
  pub none_before : NoneIn (Renews q) before
  pub none_after : NoneIn (Renews p) after

-- thread t gets this number for its held call: the number that the call is entered with, or the number that its old one is renewed as
abbrev pub GivesNumber : ℕ → Entry → History → ℕ → Type 0
GivesNumber t (Entered u call regs (Held q)) h v = (u ≡ t) × (v ≡ q)
GivesNumber t (Used u seq call regs args ids result changes) h v = RenewsAs (number_at h t) v changes
GivesNumber t (Reloaded u n done changes) h v = RenewsAs (number_at h t) v changes
GivesNumber t _ h v = ⊥

-- an entry gives thread t a number, or renews the number that it has
abbrev pub TouchesNumber : ℕ → Entry → History → Type 0
TouchesNumber t (Entered u call regs (Held q)) h = u ≡ t
TouchesNumber t (Used u seq call regs args ids result changes) h = SomeIn (Renews (number_at h t)) changes
TouchesNumber t (Reloaded u n done changes) h = SomeIn (Renews (number_at h t)) changes
TouchesNumber t _ h = ⊥

-- a change made by thread u leaves thread t dying: it kills the process of t, or u executes another binary in it
abbrev pub Kills : Input → ℕ → ℕ → History → Change → Type 0
Kills i t u h (Dying pid) = pid ≡ owner_at i h t
Kills i t u h (Execed binary space) = (owner_at i h u ≡ owner_at i h t) × (u ≢ t)
Kills i t u h _ = ⊥

-- an entry leaves thread t dying
abbrev pub LeavesDying : Input → ℕ → Entry → History → Type 0
LeavesDying i t (Used u seq call regs args ids result changes) h = SomeIn (Kills i t u h) changes
LeavesDying i t (Reloaded u n done changes) h = SomeIn (Kills i t u h) changes
LeavesDying i t _ h = ⊥

-- an entry is the end of thread t
abbrev pub IsEnd : ℕ → Entry → History → Type 0
IsEnd t (Ended u) h = u ≡ t
IsEnd t _ h = ⊥

-- ---- processes: thread u makes a change, and its process is that of the history before the entry, also as the parent of a child

-- a change sets whether process p is traced
abbrev pub GivesTraced : Input → ℕ → ℕ → History → Change → Bool → Type 0
GivesTraced i p u h (Forked pid space tid) v = (pid ≡ p) × (v ≡ (process_at i h (owner_at i h u)).traced)
GivesTraced i p u h _ v = ⊥

-- a change sets the policy of process p
abbrev pub GivesPolicy : Input → ℕ → ℕ → History → Change → List ℕ → Type 0
GivesPolicy i p u h (Policy binary) v = (owner_at i h u ≡ p) × (v ≡ binary)
GivesPolicy i p u h (Forked pid space tid) v = (pid ≡ p) × (v ≡ (process_at i h (owner_at i h u)).policy)
GivesPolicy i p u h _ v = ⊥

-- a change sets the ids of process p
abbrev pub GivesIds : Input → ℕ → ℕ → History → Change → Ids → Type 0
GivesIds i p u h (SetIds ids) v = (owner_at i h u ≡ p) × (v ≡ ids)
GivesIds i p u h (Forked pid space tid) v = (pid ≡ p) × (v ≡ (process_at i h (owner_at i h u)).ids)
GivesIds i p u h _ v = ⊥

-- a change sets the directory of process p
abbrev pub GivesCwd : Input → ℕ → ℕ → History → Change → Components → Type 0
GivesCwd i p u h (Cwd name) v = (owner_at i h u ≡ p) × (v ≡ name)
GivesCwd i p u h (Forked pid space tid) v = (pid ≡ p) × (v ≡ (process_at i h (owner_at i h u)).cwd)
GivesCwd i p u h _ v = ⊥

-- a change sets the space of process p; a child gets one of its own
abbrev pub GivesSpace : Input → ℕ → ℕ → History → Change → ℕ → Type 0
GivesSpace i p u h (Execed binary space) v = (owner_at i h u ≡ p) × (v ≡ space)
GivesSpace i p u h (Forked pid space tid) v = (pid ≡ p) × (v ≡ space)
GivesSpace i p u h _ v = ⊥

-- the next process has the number after that of the last child
abbrev pub GivesNextProcess : ℕ → History → Change → ℕ → Type 0
GivesNextProcess u h (Forked pid space tid) v = v ≡ suc pid
GivesNextProcess u h _ v = ⊥

-- the next space has the number after that of the last one made
abbrev pub GivesNextSpace : ℕ → History → Change → ℕ → Type 0
GivesNextSpace u h (Forked pid space tid) v = v ≡ suc space
GivesNextSpace u h (Execed binary space) v = v ≡ suc space
GivesNextSpace u h _ v = ⊥

-- ---- memory

-- the number of the space of thread u's process
abbrev pub memory_of : Input → History → ℕ → ℕ
memory_of i h u = (process_at i h (owner_at i h u)).space

-- a change writes byte b of space s
abbrev pub Covers : ℕ → ℕ → Change → Type 0
Covers s b (Put space at bytes) = (space ≡ s) × (at ≤ b) × (b < at + length bytes)
Covers s b (Forked pid space tid) = space ≡ s
Covers s b _ = ⊥

-- v is the byte at address b of bytes that begin at address `at`
pub record IsByteAt (b at : ℕ) (bytes : List ℕ) (v : ℕ) : Type 0 where
  pub first : List ℕ
  pub rest : List ℕ
  pub split : bytes ≡ first ++ v ∷ rest
  pub place : b ≡ at + length first

-- a change made by thread u gives byte b of space s its value; a child's space has the bytes of its parent's, if no change before wrote it
abbrev pub GivesByteIn : Input → ℕ → ℕ → ℕ → History → List Change → Change → ℕ → Type 0
GivesByteIn i s b u h before (Put space at bytes) v = (space ≡ s) × IsByteAt b at bytes v
GivesByteIn i s b u h before (Forked pid space tid) v = (space ≡ s) × NoneIn (Covers (memory_of i h u) b) before × (v ≡ byte_at i h (memory_of i h u) b)
GivesByteIn i s b u h before _ v = ⊥

-- an entry gives byte b of space s its value: a store by a thread of its process, or the last change that writes the byte
abbrev pub GivesByte : Input → ℕ → ℕ → Entry → History → ℕ → Type 0
GivesByte i s b (Stored u place word) h v = (memory_of i h u ≡ s) × (b / 8 ≡ place) × (v ≡ slice_index (to_le_bytes w64 word) (b % 8))
GivesByte i s b (Used u seq call regs args ids result changes) h v = LastGives (Covers s b) (GivesByteIn i s b u h) changes v
GivesByte i s b _ h v = ⊥

-- an entry writes byte b of space s
abbrev pub TouchesByte : Input → ℕ → ℕ → Entry → History → Type 0
TouchesByte i s b (Stored u place word) h = (memory_of i h u ≡ s) × (b / 8 ≡ place)
TouchesByte i s b (Used u seq call regs args ids result changes) h = SomeIn (Covers s b) changes
TouchesByte i s b _ h = ⊥

-- ---- the file tree

-- all changes of the entries, the oldest first
abbrev pub changes_so_far : History → List Change
changes_so_far [] = []
changes_so_far (Used t seq call regs args ids result changes ∷ h) = changes_so_far h ++ changes
changes_so_far (Reloaded t n done changes ∷ h) = changes_so_far h ++ changes
changes_so_far (_ ∷ h) = changes_so_far h

-- ---- messages

-- the new numbers that changes give, in order
abbrev pub new_numbers : List Change → List ℕ
new_numbers [] = []
new_numbers (Renewed old new ∷ changes) = new ∷ new_numbers changes
new_numbers (_ ∷ changes) = new_numbers changes

-- the numbers that were given, the oldest first
abbrev pub numbers_so_far : History → List ℕ
numbers_so_far [] = []
numbers_so_far (Entered t call regs (Held q) ∷ h) = numbers_so_far h ++ q ∷ []
numbers_so_far (Used t seq call regs args ids result changes ∷ h) = numbers_so_far h ++ new_numbers changes
numbers_so_far (Reloaded t n done changes ∷ h) = numbers_so_far h ++ new_numbers changes
numbers_so_far (_ ∷ h) = numbers_so_far h

-- a change renews a number as number q
abbrev pub RenewsTo : ℕ → Change → Type 0
RenewsTo q (Renewed old new) = new ≡ q
RenewsTo q _ = ⊥

-- the head of the old number with the ids and the directory of its process, and the version of its policy, after these entries; none if the
-- old number has none
abbrev pub IsRenewedHead : Input → History → Option Head → Option Head → Type 0
IsRenewedHead i after None v = v ≡ None
IsRenewedHead i after (Some head) v = v ≡ Some (record {
  tid = head.tid;
  pid = head.pid;
  ids = (process_at i after head.pid).ids;
  cwd = (process_at i after head.pid).cwd;
  policy = head.policy;
  version = version_at i after head.policy;
  rule = head.rule;
  call = head.call;
  regs = head.regs;
})

-- a change gives number q its head, by the entries before that of the change, and those up to it
abbrev pub GivesHeadIn : Input → ℕ → History → History → List Change → Change → Option Head → Type 0
GivesHeadIn i q h after before (Renewed old new) v = (new ≡ q) × IsRenewedHead i after (head_at i h old) v
GivesHeadIn i q h after before _ v = ⊥

-- an entry gives number q its head: a call that is held under q, with its thread and process as they are then, or the last renewal as q
abbrev pub GivesHead : Input → ℕ → Entry → History → Option Head → Type 0
GivesHead i q (Entered t call regs (Held p)) h v = (p ≡ q) × (v ≡ Some (record {
  tid = t;
  pid = owner_at i h t;
  ids = (process_at i h (owner_at i h t)).ids;
  cwd = (process_at i h (owner_at i h t)).cwd;
  policy = (process_at i h (owner_at i h t)).policy;
  version = version_at i h (process_at i h (owner_at i h t)).policy;
  rule = rule_of call regs i.options.aliasing;
  call = call;
  regs = regs;
}))
GivesHead i q (Used u seq call regs args ids result changes) h v =
    LastGives (RenewsTo q) (GivesHeadIn i q h (Used u seq call regs args ids result changes ∷ h)) changes v
GivesHead i q (Reloaded u n done changes) h v = LastGives (RenewsTo q) (GivesHeadIn i q h (Reloaded u n done changes ∷ h)) changes v
GivesHead i q _ h v = ⊥

-- an entry posts number q
abbrev pub Posts : ℕ → Entry → History → Type 0
Posts q (Entered t call regs (Held p)) h = p ≡ q
Posts q (Used u seq call regs args ids result changes) h = SomeIn (RenewsTo q) changes
Posts q (Reloaded u n done changes) h = SomeIn (RenewsTo q) changes
Posts q _ h = ⊥

-- an entry claims number q
abbrev pub Claims : ℕ → Entry → History → Type 0
Claims q (Claimed w p) h = p ≡ q
Claims q _ h = ⊥

-- an entry appends a word to those copied for part j of number q
abbrev pub GivesWords : ℕ → ℕ → Entry → History → List ℕ → Type 0
GivesWords q j (Copied p part place word) h v = (p ≡ q) × (part ≡ j) × (v ≡ words_at h q j ++ word ∷ [])
GivesWords q j _ h v = ⊥

-- an entry appends a lookup's answer to those seen for part j of number q
abbrev pub GivesLookups : ℕ → ℕ → Entry → History → List SeenText → Type 0
GivesLookups q j (Looked p part name seen) h v = (p ≡ q) × (part ≡ j) × (v ≡ lookups_at h q j ++ seen ∷ [])
GivesLookups q j _ h v = ⊥

-- an entry is the fault of number q
abbrev pub GivesFault : ℕ → Entry → History → Option Errno → Type 0
GivesFault q (Faulted p errno) h v = (p ≡ q) × (v ≡ Some errno)
GivesFault q _ h v = ⊥

-- an entry is an applied answer to number q
abbrev pub AnswersTo : ℕ → Entry → History → Type 0
AnswersTo q (Answered w snapshot verdict applied) h = (snapshot.seq ≡ q) × (applied ≡ true)
AnswersTo q _ h = ⊥

-- an entry makes or denies the call of number q, or renews the number
abbrev pub Closes : ℕ → Entry → History → Type 0
Closes q (Used t seq call regs args ids result changes) h = (seq ≡ Some q) ⊎ SomeIn (Renews q) changes
Closes q (Denied t seq errno cause) h = seq ≡ Some q
Closes q (Reloaded t n done changes) h = SomeIn (Renews q) changes
Closes q _ h = ⊥

-- number q is live, with this head: some entry posted it with this head, and no later entry makes or denies its call, renews it, or leaves
-- its thread dying
pub record LivesSince (i : Input) (q : ℕ) (head : Head) (h : History) : Type 0 where
  pub later : History
  pub entry : Entry
  pub earlier : History
  pub split : h ≡ later ++ entry ∷ earlier
  pub posts : Posts q entry earlier
  pub posted : head_at i (entry ∷ earlier) q ≡ Some head
  pub unclosed : NoneTouches (Closes q) later (entry ∷ earlier)
  pub undying : NoneTouches (LeavesDying i head.tid) later (entry ∷ earlier)

-- worker w has a turn from a claim until it answers, or the number of its turn is faulted
abbrev pub GivesTurn : ℕ → Entry → History → Option ℕ → Type 0
GivesTurn w (Claimed v q) h o = (v ≡ w) × (o ≡ Some q)
GivesTurn w (Answered v snapshot verdict applied) h o = (v ≡ w) × (o ≡ None)
GivesTurn w (Faulted q errno) h o = (turn_at h w ≡ Some q) × (o ≡ None)
GivesTurn w _ h o = ⊥

-- ---- the versions of policies

-- an entry is a reload of the policy of this binary that is done
abbrev pub Reloads : Input → List ℕ → Entry → History → Type 0
Reloads i binary (Reloaded t n done changes) h = (done ≡ true) × (binary_of_block i.policies n ≡ Some binary)
Reloads i binary _ h = ⊥

-- an entry gives the policy of this binary a version: a reload that is done puts the script's policy of its number in force
abbrev pub GivesVersion : Input → List ℕ → Entry → History → ℕ → Type 0
GivesVersion i binary (Reloaded t n done changes) h v = (done ≡ true) × (binary_of_block i.policies n ≡ Some binary) × (v ≡ n)
GivesVersion i binary _ h v = ⊥

-- ---- the session

-- an entry appends one filter to the session, for the policy and the rule of the copies of its number
abbrev pub GivesSession : Input → Entry → History → List SessionFilter → Type 0
GivesSession i (Learned q number) h v = (s : Snapshot) × (snapshot_of_message q (message_at i h q) ≡ Some s)
    × (v ≡ session_at i h ++ record { policy = s.policy; rule = s.rule; filter = learnt_filter s } ∷ [])
GivesSession i (Replied q n number) h v = (s : Snapshot) × (reply : Reply) × (snapshot_of_message q (message_at i h q) ≡ Some s)
    × (item_at_number i.replies n ≡ Some reply) × (v ≡ session_at i h ++ record { policy = s.policy; rule = s.rule; filter = reply.filter } ∷ [])
GivesSession i _ h v = ⊥

-- an entry makes this the list of the binaries whose policies the run has changed: the binary of the copies of the number that it gives a
-- filter, or that of its reload that is done, is appended if it isn't among them
abbrev pub GivesChanged : Input → Entry → History → List (List ℕ) → Type 0
GivesChanged i (Learned q number) h v = (s : Snapshot) × (snapshot_of_message q (message_at i h q) ≡ Some s) × (v ≡ with_binary (changed_at i h) s.policy)
GivesChanged i (Replied q n number) h v = (s : Snapshot) × (reply : Reply) × (snapshot_of_message q (message_at i h q) ≡ Some s)
    × (item_at_number i.replies n ≡ Some reply) × (v ≡ with_binary (changed_at i h) s.policy)
GivesChanged i (Reloaded t n done changes) h v = (binary : List ℕ) × (done ≡ true) × (binary_of_block i.policies n ≡ Some binary) × (v ≡ with_binary (changed_at i h) binary)
GivesChanged i _ h v = ⊥

-- an entry gives reply n
abbrev pub Replies : ℕ → Entry → History → Type 0
Replies n (Replied q reply number) h = reply ≡ n
Replies n _ h = ⊥

-- ---- descriptors

-- every other thread of the process of thread t has ended
abbrev pub IsLastOne : Input → History → ℕ → Type 0
IsLastOne i h t = (u : ℕ) → 1 ≤ u → u ≤ thread_count i → u ≢ t → owner_at i h u ≡ owner_at i h t → has_ended_at h u ≡ true

-- an entry gives the descriptors: a successful call by its effect, or the end of a process's last thread, which closes all that it has
abbrev pub GivesTable : Input → Entry → History → Table → Type 0
GivesTable i (Used t seq call regs args ids (Value n) changes) h v = v ≡ (effect (system_of i (looking_back i h)) call (request_of i (looking_back i h) t regs args ids)).descriptors
GivesTable i (Ended t) h v = IsLastOne i h t × (v ≡ table_after_close_all (descriptors_at i h) (owner_at i h t))
GivesTable i _ h v = ⊥
