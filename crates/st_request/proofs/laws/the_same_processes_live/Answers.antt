use Rattle.std.proofs.Common.{◌∙◌, ap, List, ℕ}
use Rattle.std.specs.List.{list_any}
use Rattle.std.specs.Map.{values_of}
use Rattle.std.specs.Prelude.{◌&&◌, ◌||◌, not, nat_lt}
use Rattle.st_model.specs.Processes.{is_running_in, is_thread_of, next_pid, StartedThread}
use Rattle.st_request.proofs.laws.the_same_processes_live.Goals as goal

pub returns : goal.returns
returns c = λ old pid changes new after p.
    ap (λ (next : ℕ). (nat_lt 0 p && nat_lt p next) && (not (list_any (is_thread_of p) (values_of new.threads)) || list_any (is_running_in p) (values_of new.threads))) after.next
    ∙ ap (λ (threads : List (ℕ × StartedThread)). (nat_lt 0 p && nat_lt p (next_pid old)) && (not (list_any (is_thread_of p) (values_of threads)) || list_any (is_running_in p) (values_of threads))) after.threads
