-- The system after a call on names and files.
use Rattle.std.proofs.Common.{◌≡◌, ◌∙◌, ℕ, ap, subst, sym, Option, Some, None}
use Rattle.std.specs.Prelude.{◌<◌, Result, Ok, Err, IfOk, OnErr}
use Rattle.st_calls.specs.declared.call.SysCall.{SysCall}
use Rattle.st_calls.specs.declared.call.SysCall.TheVariants.{Chdir}
use Rattle.st_fds.specs.Table.{KeepsTables}
use Rattle.st_memory.specs.Memory.{is_space_live, KeepsSpaces}
use Rattle.st_model.specs.Process.{Process}
use Rattle.st_model.specs.Processes.{StartedThread, IsPid, next_pid, process_at, thread_at}
use Rattle.st_procs.specs.Laws.{AreOrdered}
use Rattle.st_effects.specs.System.{Request, arg_name_at}
use Rattle.st_memory.specs.Memory.{next_space}
use Rattle.st_exec_fs.specs.Execution.{IsFileCallExecuted, IsOnFiles}
use Rattle.st_request.specs.Ready.{IsReady}
use Rattle.st_request.specs.declared.outcome.Outcome.{Outcome}
use Rattle.st_exec_fs.proofs.Changed.{Each}
use Rattle.st_law.specs.State.{thread_count}
use Rattle.st_system.specs.Steps.{IsCallMade}
use Rattle.st_system.specs.System.{HasOwner, IsAmong, IsThreadState, IsValidSystem, Parts}
use Rattle.st_system.proofs.After.{IsLeft, bare_system, made}
use Rattle.st_system.proofs.Kept.{with_owner}
use Rattle.st_system.proofs.Memory.{same_given_up}
use Rattle.st_system.proofs.Plain.{IsPlain, next_process_same, next_space_same, owner_same, plain_changes, short_same, space_same}
use Rattle.st_system.proofs.Short.{IsShort}

module _ (parts new : Parts) (x : IsValidSystem parts) (call : SysCall) (request : Request) (outcome : Outcome) (on : IsOnFiles call) (move : call ≡ Chdir → IsShort (arg_name_at request 0))
    (done : IsFileCallExecuted call request outcome parts.tree parts.descriptors parts.processes parts.memories new.tree new.descriptors new.processes new.memories)
    (spaces : KeepsSpaces parts.memories new.memories) (tables : KeepsTables parts.descriptors new.descriptors)
    (ready : IsReady new.tree new.descriptors new.processes new.memories request.pid) where
  plain : Each IsPlain outcome.changes
  plain = subst (Each IsPlain) (sym (ap (λ o. o.changes) (done.outcome (bare_system parts)))) (plain_changes (bare_system parts) request call on move)

  same_thread : (t : ℕ) → thread_at new.processes t ≡ thread_at parts.processes t
  same_thread t = ap (λ threads. thread_at (record { rows = parts.processes.rows; threads = threads }) t) done.processes.threads

  pid_before : (p : ℕ) → IsPid new.processes p → IsPid parts.processes p
  pid_before p is = (is.0, subst (λ n. p < n) done.processes.next is.1)

  pid_now : (p : ℕ) → IsPid parts.processes p → IsPid new.processes p
  pid_now p is = (is.0, subst (λ n. p < n) (sym done.processes.next) is.1)

  owner_now : (o : Option StartedThread) → HasOwner parts.processes o → HasOwner new.processes o
  owner_now None x = tt
  owner_now (Some thread) x = pid_now thread.pid x

  space_is : (p : ℕ) → (process_at new.processes p).space ≡ (process_at parts.processes p).space
  space_is p = ap (λ process. process.space) (done.processes.processes p) ∙ space_same (process_at parts.processes) request.pid p outcome.changes plain

  pub whole_call : IsValidSystem new
  whole_call = record {
    ordered = subst (λ threads. AreOrdered (record { rows = new.processes.rows; threads = threads })) (sym done.processes.threads) x.ordered;
    owners = λ t. subst (HasOwner new.processes) (sym (same_thread t)) (owner_now (thread_at parts.processes t) (x.owners t));
    ready = λ p is. let r = x.ready p (pid_before p is) in record {
      table = tables p ∙ r.table;
      process = is;
      space = ap (λ s. is_space_live new.memories s) (space_is p) ∙ spaces.1 (process_at parts.processes p).space ∙ r.space;
      real = ready.real;
    };
    tables = λ p has. pid_now p (x.tables p (sym (tables p) ∙ has));
    apart = λ p q is other same. x.apart p q (pid_before p is) (pid_before q other) (sym (space_is p) ∙ same ∙ space_is q);
    short = λ p. subst (λ (process : Process). IsShort process.cwd) (sym (done.processes.processes p)) (short_same (process_at parts.processes) request.pid p x.short outcome.changes plain);
  }

  pub left_files : IsLeft call request outcome parts new
  left_files = record {
    outcome = λ system none. done.outcome system;
    tree = done.tree;
    processes = done.processes.processes;
    next_process = done.processes.next ∙ sym (next_process_same (next_pid parts.processes) outcome.changes plain);
    next_space = spaces.0 ∙ sym (next_space_same (next_space parts.memories) outcome.changes plain);
    memory = λ s b there. done.memory s b;
    kept = λ s there. same_given_up parts.memories new.memories spaces s ∙ there;
    threads = λ t row other y owner ended. subst (λ o. IsThreadState o other) (sym (same_thread t)) (with_owner (thread_at parts.processes t) row other y (owner ∙ owner_same t row.owner outcome.changes plain) ended);
    among = λ i child t y. subst (IsAmong (thread_count i) t) (sym (same_thread t)) y;
  }

-- the invariants hold after a call was made, or memory ran out
pub whole_on_files : {E : Type 0} (result : Result Outcome E) (parts new : Parts) (call : SysCall) (request : Request) → IsValidSystem parts → IsOnFiles call → (call ≡ Chdir → IsShort (arg_name_at request 0))
    → IfOk result (λ outcome. IsFileCallExecuted call request outcome parts.tree parts.descriptors parts.processes parts.memories new.tree new.descriptors new.processes new.memories)
    → KeepsSpaces parts.memories new.memories → KeepsTables parts.descriptors new.descriptors → IsReady new.tree new.descriptors new.processes new.memories request.pid
    → OnErr result ((new.tree ≡ parts.tree) × ((new.descriptors ≡ parts.descriptors) × ((new.processes ≡ parts.processes) × (new.memories ≡ parts.memories)))) → IsValidSystem new
whole_on_files (Ok outcome) parts new call request x on move done spaces tables ready err = whole_call parts new x call request outcome on move done spaces tables ready
whole_on_files (Err error) parts new call request x on move done spaces tables ready err =
    subst IsValidSystem (λ k. record { tree = sym err.0 k; descriptors = sym err.1.0 k; processes = sym err.1.1.0 k; memories = sym err.1.1.1 k }) x

pub made_on_files : {E : Type 0} (result : Result Outcome E) (parts new : Parts) (call : SysCall) (request : Request) → IsValidSystem parts → IsOnFiles call → (call ≡ Chdir → IsShort (arg_name_at request 0))
    → IfOk result (λ outcome. IsFileCallExecuted call request outcome parts.tree parts.descriptors parts.processes parts.memories new.tree new.descriptors new.processes new.memories)
    → KeepsSpaces parts.memories new.memories → KeepsTables parts.descriptors new.descriptors → IsReady new.tree new.descriptors new.processes new.memories request.pid
    → IsPid parts.processes request.pid → IfOk result (λ outcome. IsCallMade call request outcome parts new)
made_on_files (Ok outcome) parts new call request x on move done spaces tables ready is = λ i st y asked child seq.
    made call request outcome parts new x.ordered (x.ready request.pid is).space (left_files parts new x call request outcome on move done spaces tables ready) i st y asked child seq
made_on_files (Err error) parts new call request x on move done spaces tables ready is = tt
