-- The law of whole traces, entry by entry: what has to hold of an entry, given the entries before it.
use Rattle.std.specs.Prelude.{◌≡◌, ◌≢◌, ◌≤◌, ◌<◌, ℕ, suc, Bool, true, false, ◌⊎◌, List, [], ◌∷◌, reverse, Option, Some, None}
use Rattle.st_base.specs.declared.errno.Errno.{Errno}
use Rattle.st_base.specs.declared.errno.Errno.TheVariants.{EPERM, ELOOP}
use Rattle.st_base.specs.declared.ids.Ids.{Ids}
use Rattle.st_calls.specs.declared.argument.ArgText.{ArgText}
use Rattle.st_calls.specs.declared.call.SysCall.{SysCall}
use Rattle.st_calls.specs.declared.judged.Snapshot.{Snapshot}
use Rattle.st_calls.specs.declared.judged.Verdict.{Verdict}
use Rattle.st_calls.specs.declared.judged.Verdict.TheVariants.{Permit, Refuse, Unmatched}
use Rattle.st_calls.specs.declared.rule.FastAnswer.{FastAnswer}
use Rattle.st_calls.specs.declared.rule.FastAnswer.TheVariants as answer
use Rattle.st_filter.specs.Judged.{verdict_under}
use Rattle.st_names.specs.Name.{Components}
use Rattle.st_names.specs.declared.seen.SeenText.{SeenText}
use Rattle.st_model.specs.Tree.{look}
use Rattle.st_effects.specs.Effect.{effect}
use Rattle.st_effects.specs.Progress.{Progress, Word, Look, Stuck, Ready}
use Rattle.st_trace.specs.Instructions.{IsCallOf}
use Rattle.st_trace.specs.declared.entry.CallResult.{CallResult}
use Rattle.st_trace.specs.declared.entry.CallResult.TheVariants.{Failed}
use Rattle.st_trace.specs.declared.entry.Cause.{Cause}
use Rattle.st_trace.specs.declared.entry.Cause.TheVariants.{Filter, NoFilter, Fault, Link}
use Rattle.st_trace.specs.declared.entry.Change.{Change}
use Rattle.st_trace.specs.declared.entry.Entry.{Entry}
use Rattle.st_trace.specs.declared.entry.Entry.TheVariants.{Stored, Entered, Claimed, Copied, Looked, Faulted, Answered, Used, Denied, Ended, Replied, Learned, Reloaded}
use Rattle.st_trace.specs.declared.entry.Way.{Way}
use Rattle.st_trace.specs.declared.entry.Way.TheVariants.{Fast, Barred, Held, Untraced}
use Rattle.st_trace.specs.declared.start.Instr.{Instr}
use Rattle.st_trace.specs.declared.start.Instr.TheVariants.{Store, Reload}
use Rattle.st_law.specs.declared.input.Input.{Input}
use Rattle.st_law.specs.declared.input.Mode.TheVariants.{Learn, AskText}
use Rattle.st_law.specs.History.{looking_back}
use Rattle.st_law.specs.State.{State, process_in, is_live, progress_in, snapshot_in, is_worker, worker_at, decision_in, answer_in, filter_count, is_reply_left, is_question, system_of, request_of, arguments_now, link_now, may_reload, reload_changes, word_for}
use Rattle.st_law.specs.Threads.{History}

-- ---- entries of threads

-- a thread that has started, hasn't ended and isn't dying
pub record IsRunning (st : State) (t : ℕ) : Type 0 where
  pub started : (st.threads t).owner ≢ 0
  pub unended : (st.threads t).ended ≡ false
  pub undying : (st.threads t).dying ≡ false

-- a thread stores what its next instruction says, while no call is pending
pub record IsStored (st : State) (t place word : ℕ) : Type 0 where
  pub running : IsRunning st t
  pub idle : (st.threads t).pending ≡ None
  pub later : List Instr
  pub next : (st.threads t).left ≡ Store place word ∷ later

-- a call is untraced exactly when its process is. Otherwise it is fast exactly when the kernel permits it by itself, barred exactly when
-- the kernel refuses it by itself, and held under the next number exactly when the filters have to be tried.
abbrev pub IsWay : Bool → ℕ → Way → FastAnswer → Type 0
IsWay traced next Untraced given = traced ≡ false
IsWay traced next Fast given = (traced ≡ true) × (given ≡ answer.Permit)
IsWay traced next (Barred n) given = (traced ≡ true) × (n ≡ 1) × (errno : Errno) × (given ≡ answer.Refuse errno)
IsWay traced next (Held q) given = (traced ≡ true) × (q ≡ next) × (given ≡ answer.Ask)

-- a thread enters the call of its next instruction, while no call is pending, on the way that its policy gives
pub record IsEntered (i : Input) (st : State) (t : ℕ) (call : SysCall) (regs : List ℕ) (way : Way) : Type 0 where
  pub running : IsRunning st t
  pub idle : (st.threads t).pending ≡ None
  pub instruction : Instr
  pub later : List Instr
  pub next : (st.threads t).left ≡ instruction ∷ later
  pub makes : IsCallOf instruction call regs
  pub way_is : IsWay (process_in st t).traced (suc st.posted) way (answer_in i st (process_in st t) call regs)

-- a thread reloads the policy that its next instruction names, while no call is pending. It is done exactly if its process may reload; then
-- each live message under the policy is renewed.
pub record IsReloaded (i : Input) (st : State) (t n : ℕ) (done : Bool) (changes : List Change) : Type 0 where
  pub running : IsRunning st t
  pub idle : (st.threads t).pending ≡ None
  pub later : List Instr
  pub next : (st.threads t).left ≡ Reload n ∷ later
  pub done_is : done ≡ may_reload (process_in st t)
  pub changes_are : changes ≡ reload_changes i st n done

-- a thread ends if it is dying, or if nothing is left of its body and no call is pending
pub record IsEnded (st : State) (t : ℕ) : Type 0 where
  pub started : (st.threads t).owner ≢ 0
  pub unended : (st.threads t).ended ≡ false
  pub over : ((st.threads t).dying ≡ true) ⊎ (((st.threads t).left ≡ []) × ((st.threads t).pending ≡ None))

-- ---- entries of workers

-- an idle worker claims the least live number that wasn't claimed
pub record IsClaimed (i : Input) (st : State) (w q : ℕ) : Type 0 where
  pub worker : is_worker i w ≡ true
  pub idle : worker_at st w ≡ None
  pub live : is_live st q ≡ true
  pub unclaimed : (st.messages q).claimed ≡ false
  pub least : (p : ℕ) → 1 ≤ p → p < q → is_live st p ≡ true → (st.messages p).claimed ≡ true

-- some worker is at this number
pub record IsServed (i : Input) (st : State) (q : ℕ) : Type 0 where
  pub number : ℕ
  pub worker : is_worker i number ≡ true
  pub at : worker_at st number ≡ Some q

-- the word that the number's arguments need next is copied, with the value that the memory of its process has at this step
pub record IsCopied (i : Input) (st : State) (q part place word : ℕ) : Type 0 where
  pub served : IsServed i st q
  pub due : progress_in st q ≡ Word part place
  pub word_is : word ≡ word_for st q place

-- the name that the number's arguments need next is looked up in the tree of this step
pub record IsLooked (i : Input) (st : State) (q part : ℕ) (name : Components) (seen : SeenText) : Type 0 where
  pub served : IsServed i st q
  pub due : progress_in st q ≡ Look part name
  pub seen_is : seen ≡ look st.tree name

-- the number's arguments have a fault
pub record IsFaulted (i : Input) (st : State) (q : ℕ) (errno : Errno) : Type 0 where
  pub served : IsServed i st q
  pub due : progress_in st q ≡ Stuck errno

-- a worker answers with the verdict on the copies of its number of the filters in force at their version; the answer is applied exactly if
-- the number is live
pub record IsAnswered (i : Input) (st : State) (w : ℕ) (s : Snapshot) (v : Verdict) (applied : Bool) : Type 0 where
  pub worker : is_worker i w ≡ true
  pub at : worker_at st w ≡ Some s.seq
  pub copies : snapshot_in st s.seq ≡ Some s
  pub verdict_is : v ≡ verdict_under i.policies s
  pub applied_is : applied ≡ is_live st s.seq

-- ---- calls that aren't held

-- a way on which a call is made at once
abbrev pub IsUnheld : Way → Type 0
IsUnheld Fast = Unit {0}
IsUnheld Untraced = Unit {0}
IsUnheld (Barred n) = ⊥
IsUnheld (Held q) = ⊥

-- the record of a call that fails before its effect: no arguments, an error, and no changes
pub record IsFailure (errno : Errno) (args : List ArgText) (result : CallResult) (changes : List Change) : Type 0 where
  pub args_are : args ≡ []
  pub result_is : result ≡ Failed errno
  pub changes_are : changes ≡ []

-- the record of a call that takes effect: the result and the changes are those of its effect
pub record IsEffect (i : Input) (st : State) (t : ℕ) (call : SysCall) (regs : List ℕ) (ids : Ids) (args : List ArgText) (result : CallResult) (changes : List Change) : Type 0 where
  pub result_is : result ≡ (effect (system_of i st) call (request_of i st t regs args ids)).result
  pub changes_are : changes ≡ (effect (system_of i st) call (request_of i st t regs args ids)).changes

-- a call with these arguments fails if a link is in its way, otherwise it takes effect
abbrev pub IsUnlinkedOutcome : Input → State → ℕ → SysCall → List ℕ → Ids → List ArgText → Option Components → List ArgText → CallResult → List Change → Type 0
IsUnlinkedOutcome i st t call regs ids found (Some name) args result changes = IsFailure ELOOP args result changes
IsUnlinkedOutcome i st t call regs ids found None args result changes = (args ≡ found) × IsEffect i st t call regs ids args result changes

-- a call that copies and looks in one step fails if that gives a fault, and goes on if all arguments are complete
abbrev pub IsUnheldOutcome : Input → State → ℕ → SysCall → List ℕ → Ids → Progress → List ArgText → CallResult → List Change → Type 0
IsUnheldOutcome i st t call regs ids (Word part place) args result changes = ⊥
IsUnheldOutcome i st t call regs ids (Look part name) args result changes = ⊥
IsUnheldOutcome i st t call regs ids (Stuck errno) args result changes = IsFailure errno args result changes
IsUnheldOutcome i st t call regs ids (Ready found) args result changes =
    IsUnlinkedOutcome i st t call regs ids found (link_now i st call regs found) args result changes

-- the pending call of a thread
abbrev pub IsPending : State → ℕ → SysCall → List ℕ → Way → Type 0
IsPending st t call regs way =
    (child : ℕ) × ((st.threads t).pending ≡ Some (record { call = call; regs = regs; way = way; child = child }))

-- the pending call, which is fast or untraced, is made under the process's own ids
pub record IsUsedUnheld (i : Input) (st : State) (t : ℕ) (call : SysCall) (regs : List ℕ) (args : List ArgText) (ids : Ids) (result : CallResult) (changes : List Change) : Type 0 where
  pub running : IsRunning st t
  pub way : Way
  pub entered : IsPending st t call regs way
  pub unheld : IsUnheld way
  pub identity : ids ≡ (process_in st t).ids
  pub outcome : IsUnheldOutcome i st t call regs ids (arguments_now i st t call regs) args result changes

-- the pending call, which is barred, is denied with the error of the filter that barred it when it was entered, and that filter is the cause
pub record IsDeniedBarred (i : Input) (st : State) (t : ℕ) (errno : Errno) (cause : Cause) : Type 0 where
  pub running : IsRunning st t
  pub call : SysCall
  pub regs : List ℕ
  pub entered : IsPending st t call regs (Barred 1)
  pub refused : (st.threads t).answer ≡ answer.Refuse errno
  pub cause_is : cause ≡ Filter 1

-- ---- held calls

-- the pending call is held, under this live number
pub record IsHeld (st : State) (t q : ℕ) (call : SysCall) (regs : List ℕ) : Type 0 where
  pub first : ℕ
  pub entered : IsPending st t call regs (Held first)
  pub number : (st.threads t).number ≡ q
  pub live : is_live st q ≡ true

-- a number was answered, it has no fault, and these are its copies
pub record IsJudged (st : State) (q : ℕ) (s : Snapshot) : Type 0 where
  pub answered : (st.messages q).answered ≡ true
  pub unfaulted : (st.messages q).fault ≡ None
  pub copies : snapshot_in st q ≡ Some s

-- the first filter that holds of a number's copies permits them under these ids; the copies have the current ids of its process, and the
-- version of their policy that is in force
pub record IsPermitted (i : Input) (st : State) (t q : ℕ) (s : Snapshot) (ids : Ids) : Type 0 where
  pub judged : IsJudged st q s
  pub filter : ℕ
  pub permitted : decision_in i st s ≡ Permit filter ids
  pub identity : s.ids ≡ (process_in st t).ids
  pub version : s.version ≡ st.versions s.policy

-- the pending call, which is held, is made with exactly the copies that its filters permitted, under the ids that they granted, and no link
-- is in its way
pub record IsUsedHeld (i : Input) (st : State) (t q : ℕ) (call : SysCall) (regs : List ℕ) (args : List ArgText) (ids : Ids) (result : CallResult) (changes : List Change) : Type 0 where
  pub running : IsRunning st t
  pub held : IsHeld st t q call regs
  pub copies : Snapshot
  pub permitted : IsPermitted i st t q copies ids
  pub call_is : copies.call ≡ call
  pub regs_are : copies.regs ≡ regs
  pub args_are : args ≡ copies.parts
  pub unlinked : link_now i st call regs args ≡ None
  pub outcome : IsEffect i st t call regs ids args result changes

-- a call is made according to the law: held if it has a number, fast or untraced if it has none
abbrev pub IsUsed : Input → State → ℕ → Option ℕ → SysCall → List ℕ → List ArgText → Ids → CallResult → List Change → Type 0
IsUsed i st t None call regs args ids result changes = IsUsedUnheld i st t call regs args ids result changes
IsUsed i st t (Some q) call regs args ids result changes = IsUsedHeld i st t q call regs args ids result changes

-- why a held call is denied: its message has this fault; the first filter that holds of its copies refuses them with this error; no filter
-- decides and it is no question; or it is permitted, and this is the first link in its way
abbrev pub IsCause : Input → State → ℕ → ℕ → SysCall → List ℕ → Errno → Cause → Type 0
IsCause i st t q call regs errno Fault = (st.messages q).fault ≡ Some errno
IsCause i st t q call regs errno (Filter n) = (s : Snapshot) × IsJudged st q s × (decision_in i st s ≡ Refuse n errno)
IsCause i st t q call regs errno NoFilter =
    (s : Snapshot) × IsJudged st q s × (decision_in i st s ≡ Unmatched) × (is_question i st q ≡ false) × (errno ≡ EPERM)
IsCause i st t q call regs errno (Link name) =
    (s : Snapshot) × (ids : Ids) × IsPermitted i st t q s ids × (link_now i st call regs s.parts ≡ Some name) × (errno ≡ ELOOP)

-- the pending call, which is held, is denied for this cause with its error
pub record IsDeniedHeld (i : Input) (st : State) (t q : ℕ) (errno : Errno) (cause : Cause) : Type 0 where
  pub running : IsRunning st t
  pub call : SysCall
  pub regs : List ℕ
  pub held : IsHeld st t q call regs
  pub cause_is : IsCause i st t q call regs errno cause

-- a call is denied according to the law: held if it has a number, barred if it has none
abbrev pub IsDenied : Input → State → ℕ → Option ℕ → Errno → Cause → Type 0
IsDenied i st t None errno cause = IsDeniedBarred i st t errno cause
IsDenied i st t (Some q) errno cause = IsDeniedHeld i st t q errno cause

-- ---- entries of the operator

-- a number is the least question, these are its copies, and the filter that answers it has the next number
pub record IsAsked (i : Input) (st : State) (q n : ℕ) (s : Snapshot) : Type 0 where
  pub question : is_question i st q ≡ true
  pub least : (p : ℕ) → 1 ≤ p → p < q → is_question i st p ≡ false
  pub copies : snapshot_in st q ≡ Some s
  pub number : n ≡ suc (filter_count i st s)

-- the least question is answered by the filter that is learnt from its copies
pub record IsLearned (i : Input) (st : State) (q n : ℕ) : Type 0 where
  pub copies : Snapshot
  pub asked : IsAsked i st q n copies
  pub mode : i.options.mode ≡ Learn

-- the least question is answered by the first reply for its policy and rule that wasn't given yet
pub record IsReplied (i : Input) (st : State) (q reply n : ℕ) : Type 0 where
  pub copies : Snapshot
  pub asked : IsAsked i st q n copies
  pub mode : i.options.mode ≡ AskText
  pub there : is_reply_left i st copies.policy copies.rule reply ≡ true
  pub first : (r : ℕ) → 1 ≤ r → r < reply → is_reply_left i st copies.policy copies.rule r ≡ false

-- ---- the law

-- an entry is lawful in the state before it
abbrev pub IsLawful : Input → State → Entry → Type 0
IsLawful i st (Stored t place word) = IsStored st t place word
IsLawful i st (Entered t call regs way) = IsEntered i st t call regs way
IsLawful i st (Claimed w q) = IsClaimed i st w q
IsLawful i st (Copied q part place word) = IsCopied i st q part place word
IsLawful i st (Looked q part name seen) = IsLooked i st q part name seen
IsLawful i st (Faulted q errno) = IsFaulted i st q errno
IsLawful i st (Answered w s v applied) = IsAnswered i st w s v applied
IsLawful i st (Used t seq call regs args ids result changes) = IsUsed i st t seq call regs args ids result changes
IsLawful i st (Denied t seq errno cause) = IsDenied i st t seq errno cause
IsLawful i st (Ended t) = IsEnded st t
IsLawful i st (Replied q reply n) = IsReplied i st q reply n
IsLawful i st (Learned q n) = IsLearned i st q n
IsLawful i st (Reloaded t n done changes) = IsReloaded i st t n done changes

-- each entry of a history is lawful in the state after the entries before it
abbrev pub IsLawfulBack : Input → History → Type 0
IsLawfulBack i [] = Unit {0}
IsLawfulBack i (e ∷ h) = IsLawful i (looking_back i h) e × IsLawfulBack i h

-- each entry of a trace is lawful by the entries before it
abbrev pub Lawful : Input → List Entry → Type 0
Lawful i trace = IsLawfulBack i (reverse trace)
