-- What the queries on a state mean, and how a run begins, defined by the script, the filters and the parts of the state alone.
use Rattle.std.specs.Prelude.{◌≡◌, ◌≢◌, ◌≤◌, ◌<◌, ◌⊎◌, ℕ, suc, ◌+◌, ◌*◌, ◌^◌, true, false, List, [], ◌∷◌, ◌++◌, length, replicate, Option, Some, None}
use Rattle.std.specs.Int.{sum_through}
use Rattle.st_base.specs.Numbered.{item_at_number}
use Rattle.st_base.specs.declared.errno.Errno.{Errno}
use Rattle.st_base.specs.declared.ids.Ids.{Ids}
use Rattle.st_calls.specs.Call.{rule_of}
use Rattle.st_calls.specs.declared.argument.ArgText.{ArgText}
use Rattle.st_calls.specs.declared.call.SysCall.{SysCall}
use Rattle.st_calls.specs.declared.judged.Snapshot.{Snapshot}
use Rattle.st_calls.specs.declared.judged.Verdict.TheVariants.{Unmatched}
use Rattle.st_calls.specs.declared.rule.Rule.{Rule}
use Rattle.st_filter.specs.Formula.{True, FilterValue}
use Rattle.st_filter.specs.Judging.{verdict}
use Rattle.st_filter.specs.Policies.{filters_in_force}
use Rattle.st_filter.specs.declared.filter.Action.TheVariants as action
use Rattle.st_filter.specs.declared.filter.FilterName.TheVariants as name
use Rattle.st_filter.specs.declared.set.Reply.{Reply}
use Rattle.st_model.specs.Descriptors.{Table, file_number_at}
use Rattle.st_model.specs.Tree.{Tree, node_of_new, object_of, node_of, root_node}
use Rattle.st_model.specs.declared.open_file.FileKind.TheVariants.{Console}
use Rattle.st_names.specs.Name.{Components}
use Rattle.st_names.specs.declared.seen.SeenText.{SeenText}
use Rattle.st_effects.specs.Progress.{ArgRequest, Progress, Ready, progress}
use Rattle.st_effects.specs.System.{Request, System}
use Rattle.st_trace.specs.declared.start.ProcessRow.{ProcessRow}
use Rattle.st_trace.specs.declared.start.Start.{Start}
use Rattle.st_trace.specs.declared.start.ThreadRow.{ThreadRow}
use Rattle.st_trace.specs.declared.start.TreeRow.{TreeRow}
use Rattle.st_law.specs.declared.input.Input.{Input}
use Rattle.st_law.specs.declared.input.Mode.TheVariants.{Learn, AskText}
use Rattle.st_law.specs.Loaded.{process_by_script, IsAloneAt, IsNextStore, IsStoredIn}
use Rattle.st_law.specs.Messages.{Head}
use Rattle.st_law.specs.OneStep.{AreTakenInOneStep}
use Rattle.st_law.specs.Processes.{first_process}
use Rattle.st_law.specs.Sessions.{SessionFilter, session_filters}
use Rattle.st_law.specs.State.{State, is_live, progress_in, snapshot_in}
use Rattle.st_law.specs.Threads.{PendingCall, first_owner, body_of}

-- ---- workers

-- there is a worker of this number
abbrev pub IsWorker : Input → ℕ → Type 0
IsWorker i w = (1 ≤ w) × (w ≤ i.options.workers)

-- a worker is at a number: it has claimed it, and the number is live or all its arguments are complete
pub record IsWorkerAt (st : State) (w q : ℕ) : Type 0 where
  pub turn : st.turns w ≡ Some q
  pub goes_on : (is_live st q ≡ true) ⊎ ((args : List ArgText) × (progress_in st q ≡ Ready args))

-- a word is the eight bytes at a word index of a memory, the lowest first
abbrev pub IsWordAt : (ℕ → ℕ) → ℕ → ℕ → Type 0
IsWordAt bytes place word = word ≡ sum_through (λ j. bytes (8 * place + j) * 256 ^ j) 7

-- these are the copies of a number: they have the fields of its head, and the arguments that its words and lookups give
pub record AreCopies (st : State) (q : ℕ) (s : Snapshot) : Type 0 where
  pub head : Head
  pub posted : (st.messages q).head ≡ Some head
  pub seq_is : s.seq ≡ q
  pub pid_is : s.pid ≡ head.pid
  pub ids_are : s.ids ≡ head.ids
  pub policy_is : s.policy ≡ head.policy
  pub version_is : s.version ≡ head.version
  pub rule_is : s.rule ≡ head.rule
  pub call_is : s.call ≡ head.call
  pub regs_are : s.regs ≡ head.regs
  pub parts_are : progress (record { rule = head.rule; call = head.call; regs = head.regs; cwd = head.cwd }) (st.messages q).words (st.messages q).lookups
      ≡ Ready s.parts

-- ---- the filters of a policy and a rule

-- a filter of the session is for this policy and rule
abbrev pub IsKeptFor : List ℕ → Rule → SessionFilter → Type 0
IsKeptFor policy rule kept = (kept.policy ≡ policy) × (kept.rule ≡ rule)

-- the first filter of the session that is for this policy and rule
abbrev pub IsFirstKept : List ℕ → Rule → List SessionFilter → FilterValue → Type 0
IsFirstKept policy rule [] f = ⊥
IsFirstKept policy rule (kept ∷ session) f =
    (IsKeptFor policy rule kept × (kept.filter ≡ f)) ⊎ ((IsKeptFor policy rule kept → ⊥) × IsFirstKept policy rule session f)

-- this many filters of the session are for this policy and rule
abbrev pub AreKeptFor : List ℕ → Rule → List SessionFilter → ℕ → Type 0
AreKeptFor policy rule [] n = n ≡ 0
AreKeptFor policy rule (kept ∷ session) n =
    (IsKeptFor policy rule kept × ((m : ℕ) × (n ≡ suc m) × AreKeptFor policy rule session m))
    ⊎ ((IsKeptFor policy rule kept → ⊥) × AreKeptFor policy rule session n)

-- the first filter of a policy and a rule: the first in force, or the session's first if none is in force
abbrev pub IsFirstFilter : Input → State → List ℕ → Rule → FilterValue → Type 0
IsFirstFilter i st policy rule f = ((more : List FilterValue) × (filters_in_force i.policies policy (st.versions policy) rule ≡ f ∷ more))
    ⊎ ((filters_in_force i.policies policy (st.versions policy) rule ≡ []) × IsFirstKept policy rule st.session f)

-- `true then permit`, without a grant, a log or a predicate
pub record IsPlainPermit (f : FilterValue) : Type 0 where
  pub formula_is : f.formula ≡ True
  pub action_is : f.action ≡ action.Permit
  pub grant_is : f.grant ≡ None
  pub log_is : f.log ≡ false
  pub predicate_is : f.predicate ≡ None

-- `true then deny` with this error, without a log or a predicate
pub record IsPlainDenial (errno : Errno) (f : FilterValue) : Type 0 where
  pub formula_is : f.formula ≡ True
  pub action_is : f.action ≡ action.Deny errno
  pub log_is : f.log ≡ false
  pub predicate_is : f.predicate ≡ None

-- ---- questions

-- reply r is for this policy and rule, and wasn't given
pub record IsLeft (i : Input) (st : State) (policy : List ℕ) (rule : Rule) (r : ℕ) : Type 0 where
  pub reply : Reply
  pub there : item_at_number i.replies r ≡ Some reply
  pub binary_is : reply.binary ≡ policy
  pub rule_is : reply.filter.name ≡ name.Rule rule
  pub ungiven : st.replied r ≡ false

-- the reply that is given next: the first that is left, or none
abbrev pub IsNextReply : Input → State → List ℕ → Rule → Option ℕ → Type 0
IsNextReply i st policy rule None = (r : ℕ) → IsLeft i st policy rule r → ⊥
IsNextReply i st policy rule (Some r) = IsLeft i st policy rule r × ((k : ℕ) → k < r → IsLeft i st policy rule k → ⊥)

-- a number is a question: it is live and answered, neither the filters in force nor the session's decide its copies, and the operator learns,
-- or has a reply left for it
pub record IsAsking (i : Input) (st : State) (q : ℕ) : Type 0 where
  pub live : is_live st q ≡ true
  pub answered : (st.messages q).answered ≡ true
  pub copies : Snapshot
  pub copied : snapshot_in st q ≡ Some copies
  pub unread : verdict (filters_in_force i.policies copies.policy (st.versions copies.policy) copies.rule) copies ≡ Unmatched
  pub unkept : verdict (session_filters st.session copies.policy copies.rule) copies ≡ Unmatched
  pub operator : (i.options.mode ≡ Learn) ⊎ ((i.options.mode ≡ AskText) × ((r : ℕ) × IsLeft i st copies.policy copies.rule r))

-- ---- calls

-- a call of thread t is made by its process, with these registers, arguments and ids
pub record IsMadeWith (i : Input) (st : State) (t : ℕ) (regs : List ℕ) (args : List ArgText) (ids : Ids) (request : Request) : Type 0 where
  pub tid_is : request.tid ≡ t
  pub pid_is : request.pid ≡ (st.threads t).owner
  pub ids_are : request.ids ≡ ids
  pub regs_are : request.regs ≡ regs
  pub args_are : request.args ≡ args
  pub child_is : (entered : PendingCall) → (st.threads t).pending ≡ Some entered → request.child ≡ entered.child
  pub inherit_is : request.inherit ≡ i.options.inherit

-- a call sees the tree, memory, descriptors and processes of the state, and the numbers that come next
pub record IsSystemOfState (st : State) (system : System) : Type 0 where
  pub tree_is : system.tree ≡ st.tree
  pub memory_is : system.memory ≡ st.memory
  pub descriptors_are : system.descriptors ≡ st.descriptors
  pub processes_are : system.processes ≡ st.processes
  pub next_process_is : system.next_process ≡ st.next_process
  pub next_space_is : system.next_space ≡ st.next_space
  pub next_number_is : system.next_number ≡ suc st.posted

-- the arguments of a call that thread t makes in one step are those that a worker would get, from the memory and the directory of its
-- process and from the tree
abbrev pub AreArgumentsOf : Input → State → ℕ → SysCall → List ℕ → Progress → Type 0
AreArgumentsOf i st t call regs arguments =
    let asked : ArgRequest = record { rule = rule_of call regs i.options.aliasing; call = call; regs = regs; cwd = (st.processes (st.threads t).owner).cwd } in
    (words : ℕ → List ℕ) × (lookups : ℕ → List SeenText)
    × AreTakenInOneStep asked (record { bytes = st.memory (st.processes (st.threads t).owner).space; tree = st.tree }) words lookups
    × (arguments ≡ progress asked words lookups)

-- ---- how a run begins

-- a thread begins as its row says: in a process, or by a fork
pub record ThreadBegins (i : Input) (t : ℕ) (row : ThreadRow) : Type 0 where
  pub body_is : body_of i t ≡ row.body
  pub in_process : (p : ℕ) → row.process ≡ Some p → first_owner i t ≡ p
  pub by_fork : row.process ≡ None → first_owner i t ≡ 0

-- a process begins as its row says; its ids are those of the options if it is traced and they give some, otherwise those of its row
pub record ProcessBegins (i : Input) (p : ℕ) (row : ProcessRow) : Type 0 where
  pub traced_is : (first_process i p).traced ≡ row.traced
  pub policy_is : (first_process i p).policy ≡ row.binary
  pub cwd_is : (first_process i p).cwd ≡ row.cwd
  pub space_is : (first_process i p).space ≡ p
  pub given : (u g : ℕ) → i.options.ids ≡ Some (u, g) → row.traced ≡ true
      → (first_process i p).ids ≡ record { ruid = u; euid = u; rgid = g; egid = g }
  pub own : (i.options.ids ≡ None) ⊎ (row.traced ≡ false)
      → (first_process i p).ids ≡ record { ruid = row.uid; euid = row.uid; rgid = row.gid; egid = row.gid }

-- none of these rows has this name
abbrev pub NoneNamed : Components → List TreeRow → Type 0
NoneNamed name [] = Unit {0}
NoneNamed name (row ∷ rows) = (row.name ≢ name) × NoneNamed name rows

-- the tree begins with the root and these rows: the root is object 1, each row in order is the next object, a name has the object of its
-- last row, and no other name exists
pub record TreeBegins (rows : List TreeRow) (tree : Tree) : Type 0 where
  pub root : node_of tree [] ≡ Some root_node
  pub number : (before after : List TreeRow) (row : TreeRow) → rows ≡ before ++ row ∷ after → row.name ≢ [] → NoneNamed row.name after
      → object_of tree row.name ≡ Some (2 + length before)
  pub object : (before after : List TreeRow) (row : TreeRow) → rows ≡ before ++ row ∷ after → row.name ≢ [] → NoneNamed row.name after
      → node_of tree row.name ≡ Some (node_of_new row.new)
  pub no_more : (name : Components) → name ≢ [] → NoneNamed name rows → object_of tree name ≡ None

-- this many processes begin with the console open three times, each time as an open file of its own, and with nothing else
pub record ConsolesBegin (count : ℕ) (table : Table) : Type 0 where
  pub three : (p fd : ℕ) → p < count → fd < 3 → file_number_at table (suc p) fd ≡ Some (3 * p + fd)
  pub no_more : (p fd : ℕ) → p < count → 3 ≤ fd → file_number_at table (suc p) fd ≡ None
  pub no_other : (p fd : ℕ) → count ≤ p → file_number_at table (suc p) fd ≡ None
  pub files : table.files ≡ replicate (3 * count) (record { kind = Console; read = true; write = true; append = false; offset = 0 })

-- ---- loads without a lock

-- one of a thread's first stores is of this word at this place, and none after it is there
pub record IsOwnLast (start : Start) (t made place word : ℕ) : Type 0 where
  pub count : ℕ
  pub within : count < made
  pub store : IsNextStore start t count place word
  pub none_after : (later other : ℕ) → count < later → later < made → IsNextStore start t later place other → ⊥

-- A loaded word is 0 or one that a thread of the process stores there. Where one of the thread's first stores is there, it is one that a
-- thread of the process stores there. Where besides no other thread of the process stores there, it is the word of the last of those stores.
pub record IsLoadExplained (start : Start) (t made place word : ℕ) : Type 0 where
  pub known : (word ≡ 0) ⊎ IsStoredIn start (process_by_script start t) place word
  pub stored : (count own : ℕ) → count < made → IsNextStore start t count place own → IsStoredIn start (process_by_script start t) place word
  pub last : (own : ℕ) → IsOwnLast start t made place own → IsAloneAt start t place → word ≡ own
