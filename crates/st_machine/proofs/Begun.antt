-- The machine that a run starts with represents the first state of the law's machine.
use Rattle.std.proofs.Common.{◌≡◌, ◌∙◌, ℕ, zero, suc, List, length, map, Option, Some, None, refl, ap, sym, subst}
use Rattle.std.proofs.lemmas.List.{length-map}
use Rattle.std.proofs.lemmas.Option.{none-some, slice_get-map}
use Rattle.std.specs.Option.{option_map}
use Rattle.st_base.specs.Numbered.{item_at_number}
use Rattle.st_trace.specs.declared.start.ThreadRow as start
use Rattle.st_law.specs.declared.input.Input.{Input}
use Rattle.st_law.specs.Machine.{first_state, first_thread}
use Rattle.st_law.specs.State.{is_live}
use Rattle.st_law.specs.Threads.{body_of_row}
use Rattle.st_learn.specs.Answers.{Answers, AreAnswersIn}
use Rattle.st_learn.specs.Operator.{Added, IsAdded}
use Rattle.st_reached.specs.Runnable.{CanRun}
use Rattle.st_system.specs.System.{IsSystem, Parts}
use Rattle.st_workers.specs.Refinement.{RepresentsMessages}
use Rattle.st_workers.specs.UnderWay.{UnderWay}
use Rattle.st_decide.specs.Machine.{Refines}
use Rattle.st_threads.specs.Thread.{ThreadRow, IsRowOf, first_row}
use Rattle.st_decide.proofs.Reached.{reached_first}

abbrev row_of : start.ThreadRow → ThreadRow
row_of row = first_row row.body

item-map : (rows : List start.ThreadRow) (t : ℕ) → item_at_number (map row_of rows) t ≡ option_map row_of (item_at_number rows t)
item-map rows zero = refl
item-map rows (suc k) = slice_get-map row_of rows k

module _ (i : Input) (system : Parts) (workers : UnderWay) (threads : List ThreadRow) (answers : Answers) (operator : Added) (are : threads ≡ map row_of i.start.threads) where
  rows : (t : ℕ) → IsRowOf (item_at_number threads t) (first_thread i t)
  rows t = subst (λ (o : Option ThreadRow). IsRowOf o (first_thread i t)) (sym (ap (λ (l : List ThreadRow). item_at_number l t) are ∙ item-map i.start.threads t)) (by (item_at_number i.start.threads t) refl) where
    by : (o : Option start.ThreadRow) → item_at_number i.start.threads t ≡ o → IsRowOf (option_map row_of o) (first_thread i t)
    by None e = tt
    by (Some row) e = record { left = ap body_of_row e; pending = refl; answer = λ entered n e w. absurd (none-some entered e); number = λ q e. absurd (none-some q e); dying = refl; ended = refl }

  pub begun : CanRun i → IsSystem i (first_state i) system → RepresentsMessages i (first_state i) (is_live (first_state i)) workers → AreAnswersIn i (first_state i) answers → IsAdded i (first_state i) operator
      → Refines (record { input = i; system = system; workers = workers; threads = threads; answers = answers; operator = operator }) (first_state i)
  begun can_run is_system is_kept are_answers is_added = record {
    reached = reached_first i can_run.startable;
    bounded = can_run.bounded;
    ungranted = can_run.ungranted;
    replies = can_run.replies;
    system = is_system;
    workers = is_kept;
    threads = rows;
    count = ap length are ∙ length-map i.start.threads row_of;
    answers = are_answers;
    operator = is_added;
  }
