-- A worker adds no entry exactly when it is still.
use Rattle.std.proofs.Common.{◌≡◌, ℕ, Bool, true, false, cond, Option, Some, None, refl, ap, ◌∙◌}
use Rattle.st_effects.specs.Progress.{Progress, Word, Look, Stuck, Ready}
use Rattle.st_law.specs.declared.input.Input.{Input}
use Rattle.st_law.specs.Machine.{answer_entry, claimed_entry, least_waiting, turn_entry, worker_entry, working_entry}
use Rattle.st_law.specs.Messages.{Head}
use Rattle.st_law.specs.State.{State, is_worker, progress_in, snapshot_of_progress, worker_at}
use Rattle.st_law.proofs.Progressing.{Is}
use Rattle.st_law.proofs.Turns.{turn_of}
use Rattle.st_law.proofs.Whole.{Whole}
use Rattle.st_reached.specs.Waiting.{IsStillWorker, idle, no_worker}
use Rattle.st_reached.proofs.Still.{something}

-- ---- a still worker adds no entry

module _ (i : Input) (st : State) (w : ℕ) where
  pub worker_none : IsStillWorker i st w → worker_entry i st w ≡ None
  worker_none (no_worker is) = ap (λ b. cond b (turn_entry i st w (worker_at st w)) None) is
  worker_none (idle at none) = by (is_worker i w) where
    by : (b : Bool) → cond b (turn_entry i st w (worker_at st w)) None ≡ None
    by true = ap (turn_entry i st w) at ∙ ap (claimed_entry w) none
    by false = refl

-- ---- every other worker adds an entry

module _ (i : Input) (st : State) (whole : Whole i st) (w : ℕ) where
  -- a number that a worker is at has a head, so it is answered once its arguments are complete
  working_is : (q : ℕ) (head : Head) → (st.messages q).head ≡ Some head → (pr : Progress) → Is (working_entry i st w q pr)
  working_is q head posted (Word part place) = (_, refl)
  working_is q head posted (Look part name) = (_, refl)
  working_is q head posted (Stuck errno) = (_, refl)
  working_is q head posted (Ready args) = (_, ap (λ o. answer_entry i st w q (snapshot_of_progress q o (Ready args))) posted)

  waiting_still : (o : Option ℕ) → least_waiting st ≡ o → worker_at st w ≡ None → claimed_entry w o ≡ None → IsStillWorker i st w
  waiting_still None is at none = idle at is
  waiting_still (Some q) is at none = something (IsStillWorker i st w) (claimed_entry w (Some q)) (_, refl) none

  turn_still : (o : Option ℕ) → worker_at st w ≡ o → turn_entry i st w o ≡ None → IsStillWorker i st w
  turn_still None at none = waiting_still (least_waiting st) refl at none
  turn_still (Some q) at none =
      let head : (h : Head) × ((st.messages q).head ≡ Some h) = whole.posted.claimed q (whole.turns.claimed w q (turn_of st (st.turns w) q at)) in
      something (IsStillWorker i st w) (working_entry i st w q (progress_in st q)) (working_is q head.0 head.1 (progress_in st q)) none

  pub none_worker : worker_entry i st w ≡ None → IsStillWorker i st w
  none_worker none = by (is_worker i w) refl none where
    by : (b : Bool) → is_worker i w ≡ b → cond b (turn_entry i st w (worker_at st w)) None ≡ None → IsStillWorker i st w
    by true is none = turn_still (worker_at st w) refl none
    by false is none = no_worker is
