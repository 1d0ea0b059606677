-- What holds of each script that is read, whatever it says.
use Rattle.std.specs.Prelude.{◌≢◌, ◌≤◌, length}
use Rattle.std.specs.List.{AllByRecursion}
use Rattle.st_filter.specs.declared.filter.Action.TheVariants as action
use Rattle.st_law.specs.Inputs.{HasProcess, HasShortTarget}
use Rattle.st_script_names.specs.declared.limits.TheConstants.{MOST_PROCESSES, MOST_THREADS, MOST_TREE_ROWS}
use Rattle.st_script.specs.declared.reading.ReadScript.{ReadScript}

-- there are no more rows than a script may have, threads start in existing processes, targets are short, and no reply asks
pub record IsWithinBounds (script : ReadScript) : Type 0 where
  pub few_threads : length script.start.threads ≤ MOST_THREADS
  pub few_processes : length script.start.processes ≤ MOST_PROCESSES
  pub few_objects : length script.start.tree ≤ MOST_TREE_ROWS
  pub processes : AllByRecursion (λ row. HasProcess (length script.start.processes) row.process) script.start.threads
  pub targets : AllByRecursion (λ row. HasShortTarget row.new.kind) script.start.tree
  pub replies : AllByRecursion (λ reply. reply.filter.action ≢ action.Ask) script.replies
