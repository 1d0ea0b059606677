-- Messages: the record of each held call by its number, and each worker's turn, as functions of the history.
use Rattle.std.specs.Prelude.{ℕ, suc, Bool, false, ◌&&◌, ◌||◌, ◌==◌, if◌then◌else◌, List, [], ◌∷◌, ◌++◌, Option, Some, None, option_map}
use Rattle.std.specs.List.{fold}
use Rattle.st_base.specs.declared.errno.Errno.{Errno}
use Rattle.st_base.specs.declared.ids.Ids.{Ids}
use Rattle.st_calls.specs.declared.call.SysCall.{SysCall}
use Rattle.st_calls.specs.declared.rule.Rule.{Rule}
use Rattle.st_calls.specs.Call.{rule_of}
use Rattle.st_model.specs.Process.{Process}
use Rattle.st_model.specs.Tree.{is_number}
use Rattle.st_names.specs.Name.{Components}
use Rattle.st_names.specs.declared.seen.SeenText.{SeenText}
use Rattle.st_effects.specs.Changes.{process_after}
use Rattle.st_trace.specs.declared.entry.Change.{Change}
use Rattle.st_trace.specs.declared.entry.Change.TheVariants.{Renewed}
use Rattle.st_trace.specs.declared.entry.Entry.{Entry}
use Rattle.st_trace.specs.declared.entry.Entry.TheVariants.{Entered, Claimed, Copied, Looked, Faulted, Answered, Used, Denied, Reloaded}
use Rattle.st_trace.specs.declared.entry.Way.TheVariants.{Held}
use Rattle.st_law.specs.declared.input.Input.{Input}
use Rattle.st_law.specs.Threads.{History, thread_of, owner_at}
use Rattle.st_law.specs.Processes.{process_at}
use Rattle.st_law.specs.Versions.{version_at}

-- a held call, as it was when its number was posted
pub record Head : Type 0 where
  pub tid : ℕ
  pub pid : ℕ
  pub ids : Ids
  -- the directory from which its relative names are resolved
  pub cwd : Components
  -- the binary whose policy judges it, and the version of that policy
  pub policy : List ℕ
  pub version : ℕ
  pub rule : Rule
  pub call : SysCall
  pub regs : List ℕ

-- the head of the message that is posted for this call of a thread, whose process has this number and row, and this version of its policy
abbrev pub new_head : Input → ℕ → ℕ → Process → ℕ → SysCall → List ℕ → Head
new_head i t pid process version call regs = record {
  tid = t;
  pid = pid;
  ids = process.ids;
  cwd = process.cwd;
  policy = process.policy;
  version = version;
  rule = rule_of call regs i.options.aliasing;
  call = call;
  regs = regs;
}

-- ---- what each entry does to the message of a number

-- the head of a renewed message: it has the ids and the directory of its process, and the version of its policy, as they are now
abbrev pub renewed_head : (ℕ → Process) → (List ℕ → ℕ) → Head → Head
renewed_head processes versions head =
    record head { version = versions head.policy; ids = (processes head.pid).ids; cwd = (processes head.pid).cwd }

-- the head of number q after a change, by the heads before the entry and what a renewal makes of a head
abbrev pub head_after_change : (ℕ → Option Head) → (Head → Head) → ℕ → Option Head → Change → Option Head
head_after_change heads renewed q before (Renewed old new) = if new == q then option_map renewed (heads old) else before
head_after_change heads renewed q before _ = before

-- the head of number q after changes
abbrev pub head_after_changes : (ℕ → Option Head) → (Head → Head) → ℕ → List Change → Option Head
head_after_changes heads renewed q changes = fold (head_after_change heads renewed q) (heads q) changes

-- the head of number q after an entry: a held call and a renewal each post one, by the versions after the entry, the rows of processes before
-- it, and the number of the thread's process
abbrev pub head_after : Input → (List ℕ → ℕ) → (ℕ → Process) → ℕ → (ℕ → Option Head) → Entry → ℕ → Option Head
head_after i versions processes m heads (Entered t call regs (Held p)) q =
    if p == q then Some (new_head i t m (processes m) (versions (processes m).policy) call regs) else heads q
head_after i versions processes m heads (Used t seq call regs args ids result changes) q =
    head_after_changes heads (renewed_head (λ p. process_after processes m p changes) versions) q changes
head_after i versions processes m heads (Reloaded t n done changes) q =
    head_after_changes heads (renewed_head (λ p. process_after processes m p changes) versions) q changes
head_after i versions processes m heads _ q = heads q

-- how many numbers were posted after a change
abbrev pub posted_after_change : ℕ → Change → ℕ
posted_after_change before (Renewed old new) = suc before
posted_after_change before _ = before

-- how many numbers were posted after an entry
abbrev pub posted_after : Entry → ℕ → ℕ
posted_after (Entered t call regs (Held q)) before = suc before
posted_after (Used t seq call regs args ids result changes) before = fold posted_after_change before changes
posted_after (Reloaded t n done changes) before = fold posted_after_change before changes
posted_after _ before = before

-- whether number q is claimed after an entry
abbrev pub claimed_after : Entry → ℕ → Bool → Bool
claimed_after (Claimed w p) q before = p == q || before
claimed_after _ q before = before

-- the words copied for part j of number q after an entry
abbrev pub words_after : Entry → ℕ → ℕ → List ℕ → List ℕ
words_after (Copied p part place word) q j before = if p == q && part == j then before ++ word ∷ [] else before
words_after _ q j before = before

-- the lookups' answers for part j of number q after an entry
abbrev pub lookups_after : Entry → ℕ → ℕ → List SeenText → List SeenText
lookups_after (Looked p part name seen) q j before = if p == q && part == j then before ++ seen ∷ [] else before
lookups_after _ q j before = before

-- the fault of number q after an entry
abbrev pub fault_after : Entry → ℕ → Option Errno → Option Errno
fault_after (Faulted p errno) q before = if p == q then Some errno else before
fault_after _ q before = before

-- whether an answer to number q was applied after an entry
abbrev pub answered_after : Entry → ℕ → Bool → Bool
answered_after (Answered w snapshot verdict applied) q before = (snapshot.seq == q && applied) || before
answered_after _ q before = before

-- whether number q was renewed, before or by a change
abbrev pub is_renewed_by : ℕ → Bool → Change → Bool
is_renewed_by q before (Renewed old new) = old == q || before
is_renewed_by q before _ = before

-- whether the call of number q was made or denied, or the number was renewed, after an entry
abbrev pub closed_after : Entry → ℕ → Bool → Bool
closed_after (Used t seq call regs args ids result changes) q before = is_number q seq || fold (is_renewed_by q) before changes
closed_after (Denied t seq errno cause) q before = is_number q seq || before
closed_after (Reloaded t n done changes) q before = fold (is_renewed_by q) before changes
closed_after _ q before = before

-- ---- what each entry does to a worker's turn

-- the number of a turn, unless it is this number
abbrev pub unless_same : ℕ → Option ℕ → Option ℕ
unless_same p None = None
unless_same p (Some q) = if p == q then None else Some q

-- the number that worker w has claimed and neither answered nor found faulty, after an entry
abbrev pub turn_after : Entry → ℕ → Option ℕ → Option ℕ
turn_after (Claimed v q) w before = if v == w then Some q else before
turn_after (Faulted p errno) w before = unless_same p before
turn_after (Answered v snapshot verdict applied) w before = if v == w then None else before
turn_after _ w before = before

-- ---- looking back

-- the head of a number, none if it wasn't posted
abbrev pub head_at : Input → History → ℕ → Option Head
head_at i [] q = None
head_at i (e ∷ h) q = head_after i (version_at i (e ∷ h)) (process_at i h) (owner_at i h (thread_of e)) (head_at i h) e q

-- how many numbers were posted; they are 1, 2, 3 and so on
abbrev pub posted_at : History → ℕ
posted_at [] = 0
posted_at (e ∷ h) = posted_after e (posted_at h)

-- whether a number was claimed
abbrev pub is_claimed_at : History → ℕ → Bool
is_claimed_at [] q = false
is_claimed_at (e ∷ h) q = claimed_after e q (is_claimed_at h q)

-- the words copied for a part of a number
abbrev pub words_at : History → ℕ → ℕ → List ℕ
words_at [] q j = []
words_at (e ∷ h) q j = words_after e q j (words_at h q j)

-- the answers of the lookups for a part of a number
abbrev pub lookups_at : History → ℕ → ℕ → List SeenText
lookups_at [] q j = []
lookups_at (e ∷ h) q j = lookups_after e q j (lookups_at h q j)

-- the fault of a number
abbrev pub fault_at : History → ℕ → Option Errno
fault_at [] q = None
fault_at (e ∷ h) q = fault_after e q (fault_at h q)

-- whether an answer to a number was applied
abbrev pub is_answered_at : History → ℕ → Bool
is_answered_at [] q = false
is_answered_at (e ∷ h) q = answered_after e q (is_answered_at h q)

-- whether the call of a number was made or denied, or the number was renewed
abbrev pub is_closed_at : History → ℕ → Bool
is_closed_at [] q = false
is_closed_at (e ∷ h) q = closed_after e q (is_closed_at h q)

-- the number that a worker has claimed and neither answered nor found faulty
abbrev pub turn_at : History → ℕ → Option ℕ
turn_at [] w = None
turn_at (e ∷ h) w = turn_after e w (turn_at h w)
