-- Calls on processes: the outcome of each call, with its reasons for refusal in the order in which they are tested.
use Rattle.std.specs.Prelude.{ℕ, ◌+◌, ◌==◌, ◌&&◌, ◌||◌, not, if◌then◌else◌, Bool, true, false, List, [], ◌∷◌, length}
use Rattle.st_base.specs.Errno.{error_if}
use Rattle.st_model.specs.DescriptorCalls.{table_after_copy}
use Rattle.st_base.specs.declared.errno.Errno.TheVariants.{EPERM, ESRCH, ENOEXEC, EACCES, EINVAL}
use Rattle.st_base.specs.declared.ids.Ids.{Ids}
use Rattle.st_model.specs.Identity.{ids_after_set, set_refused}
use Rattle.st_calls.specs.declared.call.SysCall.{SysCall}
use Rattle.st_names.specs.Name.{printed_name}
use Rattle.st_model.specs.Tree.{Node}
use Rattle.st_model.specs.declared.object.Kind.{Kind}
use Rattle.st_model.specs.declared.object.Kind.TheVariants as object_kind
use Rattle.st_model.specs.declared.permission.Want.TheVariants as want
use Rattle.st_effects.specs.NameTests.{walk_error, is_allowed_at, on_object}
use Rattle.st_effects.specs.System.{System, Request, Outcome, HeldCall, success, success_with_table, unless_refused, register, arg_name_at}
use Rattle.st_trace.specs.declared.entry.Change.{Change}
use Rattle.st_trace.specs.declared.entry.Change.TheVariants.{Forked, Execed, SetIds, Dying, Renewed, Policy}

-- the outcome of fork()
abbrev pub fork_outcome : System → Request → Outcome
fork_outcome system request =
    success_with_table system.next_process
    (Forked system.next_process system.next_space request.child ∷ [])
    (table_after_copy system.descriptors request.pid system.next_process)

-- whether a kind is that of a file
abbrev pub is_file : Kind → Bool
is_file object_kind.Dir = false
is_file object_kind.File = true
is_file object_kind.Link = false

-- whether an object is a file that the ids may execute
abbrev pub may_execute : Ids → Node → Bool
may_execute ids node = is_file node.kind && is_allowed_at ids node want.Execute

-- the change of the policy by an execve: none if the policy is inherited, otherwise the binary's policy applies
abbrev pub policy_changes : Bool → List ℕ → List Change
policy_changes true binary = []
policy_changes false binary = Policy binary ∷ []

-- the outcome of execve(name, argv)
abbrev pub execve_outcome : System → Request → Outcome
execve_outcome system request =
    let name = arg_name_at request 0 in
    unless_refused system (walk_error system.tree request.ids name ∷ [])
    (on_object system name (λ object.
    unless_refused system (
    error_if (not (may_execute request.ids object.node)) EACCES ∷
    error_if (length object.node.content == 0) ENOEXEC ∷ [])
    (success system 0 (Execed (printed_name name) system.next_space ∷ policy_changes request.inherit (printed_name name)))))

-- the outcome of exit(code)
abbrev pub exit_outcome : System → Request → Outcome
exit_outcome system request = success system 0 (Dying request.pid ∷ [])

-- the signal that ends a process; signal 0 only tests
abbrev pub kill_signal : ℕ
kill_signal = 9

-- whether these ids may send a signal to a process with this real user
abbrev pub may_signal : Ids → ℕ → Bool
may_signal ids target = ids.euid == 0 || (ids.ruid == target || ids.euid == target)

-- the outcome of kill(pid, signal)
abbrev pub kill_outcome : System → Request → Outcome
kill_outcome system request =
    let target = register request 0 in
    let signal = register request 1 in
    unless_refused system (
    error_if (not (signal == 0 || signal == kill_signal)) EINVAL ∷
    error_if (not (system.is_live target)) ESRCH ∷
    error_if (not (may_signal request.ids (system.processes target).ids.ruid)) EPERM ∷ [])
    (success system 0 (if signal == 0 then [] else Dying target ∷ []))

-- the changes that renew the held calls of this kind: they get new numbers from this number on, in the order of their threads
abbrev pub renewals_by : (HeldCall → Bool) → ℕ → List HeldCall → List Change
renewals_by is next [] = []
renewals_by is next (held ∷ more) =
    if is held then Renewed held.number next ∷ renewals_by is (next + 1) more
    else renewals_by is next more

-- whether a held call is one of a process, other than the thread's own
abbrev pub is_other_of : ℕ → ℕ → HeldCall → Bool
is_other_of pid tid held = held.pid == pid && not (held.tid == tid)

-- the changes that renew the live messages of a process other than the thread's own
abbrev pub renewals : ℕ → ℕ → ℕ → List HeldCall → List Change
renewals pid tid next held = renewals_by (is_other_of pid tid) next held

-- the outcome of setuid(uid), seteuid(uid), setgid(gid) and setegid(gid)
abbrev pub set_ids_outcome : SysCall → System → Request → Outcome
set_ids_outcome call system request =
    unless_refused system (set_refused call request.ids (register request 0) ∷ [])
    (success system 0 (SetIds (ids_after_set call request.ids (register request 0)) ∷
    renewals request.pid request.tid system.next_number system.held))
