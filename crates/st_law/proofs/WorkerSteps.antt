-- Each step of a worker or of the operator is lawful.
use Rattle.std.proofs.Common.{◌≡◌, ℕ, suc, ◌+◌, Bool, true, false, not, ◌&&◌, length, List, Option, Some, None, refl}
use Rattle.st_calls.specs.declared.argument.ArgText.{ArgText}
use Rattle.st_calls.specs.declared.judged.Snapshot.{Snapshot}
use Rattle.st_effects.specs.Progress.{Progress, Word, Look, Stuck, Ready}
use Rattle.st_law.specs.declared.input.Input.{Input}
use Rattle.st_law.specs.declared.input.Mode.{Mode}
use Rattle.st_law.specs.declared.input.Mode.TheVariants.{Enforce, Learn, AskText}
use Rattle.st_law.specs.Lawful.{IsAsked, IsLawful}
use Rattle.st_law.specs.Machine.{least_waiting, claimed_entry, turn_entry, working_entry, answer_entry, worker_entry, least_question, reply_entry, question_entry, asked_entry, operator_entry}
use Rattle.st_law.specs.Messages.{Head}
use Rattle.st_law.specs.State.{State, is_live, is_waiting, progress_in, snapshot_of_progress, snapshot_in, is_worker, worker_at, is_question, filter_count, is_reply_left, next_reply}
use Rattle.st_law.proofs.Least.{IsLeast, least}
use Rattle.st_law.proofs.Steps.{Says, says-when}

and_parts : (a b : Bool) → (a && not b) ≡ true → (a ≡ true) × (b ≡ false)
and_parts true true e = cc
and_parts true false e = (refl, refl)
and_parts false b e = cc

and_not : (a b : Bool) → (a && not b) ≡ false → a ≡ true → b ≡ true
and_not true true e x = refl
and_not true false e x = cc
and_not false b e x = cc

module _ (i : Input) (st : State) where
  -- ---- workers

  claimed_by : (w : ℕ) → is_worker i w ≡ true → worker_at st w ≡ None → Says (IsLawful i st) (claimed_entry w (least_waiting st))
  claimed_by w worker idle = least (λ o. Says (IsLawful i st) (claimed_entry w o)) (is_waiting st) 1 st.posted
      (λ q x. let parts : (is_live st q ≡ true) × ((st.messages q).claimed ≡ false) = and_parts (is_live st q) (st.messages q).claimed x.holds in
      record {
        worker = worker;
        idle = idle;
        live = parts.0;
        unclaimed = parts.1;
        least = λ p low below. and_not (is_live st p) (st.messages p).claimed (x.least p low below);
      })
      (λ none. tt)

  module _ (w q : ℕ) (worker : is_worker i w ≡ true) (at : worker_at st w ≡ Some q) where
    answer_by : (args : List ArgText) → progress_in st q ≡ Ready args → (o : Option Head) → (st.messages q).head ≡ o → Says (IsLawful i st) (answer_entry i st w q (snapshot_of_progress q o (Ready args)))
    answer_by args e None posted = tt
    answer_by args e (Some head) posted =
        record { worker = worker; at = at; copies = λ k. snapshot_of_progress q (posted k) (e k); verdict_is = refl; applied_is = refl }

    working_by : (pr : Progress) → progress_in st q ≡ pr → Says (IsLawful i st) (working_entry i st w q pr)
    working_by (Word part place) e = record { served = record { number = w; worker = worker; at = at }; due = e; word_is = refl }
    working_by (Look part name) e = record { served = record { number = w; worker = worker; at = at }; due = e; seen_is = refl }
    working_by (Stuck errno) e = record { served = record { number = w; worker = worker; at = at }; due = e }
    working_by (Ready args) e = answer_by args e (st.messages q).head refl

  turn_by : (w : ℕ) → is_worker i w ≡ true → (o : Option ℕ) → worker_at st w ≡ o → Says (IsLawful i st) (turn_entry i st w o)
  turn_by w worker None at = claimed_by w worker at
  turn_by w worker (Some q) at = working_by w q worker at (progress_in st q) refl

  -- the step of a worker is lawful
  pub worker_step : (w : ℕ) → Says (IsLawful i st) (worker_entry i st w)
  worker_step w = says-when (IsLawful i st) (is_worker i w) _ (λ worker. turn_by w worker (worker_at st w) refl)

  -- ---- the operator

  module _ (q : ℕ) (x : IsLeast (is_question i st) 1 (1 + st.posted) q) (s : Snapshot) (copies : snapshot_in st q ≡ Some s) where
    asked_by : IsAsked i st q (suc (filter_count i st s)) s
    asked_by = record { question = x.holds; least = x.least; copies = copies; number = refl }

    replied_by : i.options.mode ≡ AskText → Says (IsLawful i st) (reply_entry i st q s (next_reply i st s.policy s.rule))
    replied_by mode = least (λ o. Says (IsLawful i st) (reply_entry i st q s o)) (is_reply_left i st s.policy s.rule) 1 (length i.replies)
        (λ reply y. record { copies = s; asked = asked_by; mode = mode; there = y.holds; first = y.least })
        (λ none. tt)

    question_by : (mode : Mode) → i.options.mode ≡ mode → Says (IsLawful i st) (question_entry i st q s mode)
    question_by Enforce e = tt
    question_by Learn e = record { copies = s; asked = asked_by; mode = e }
    question_by AskText e = replied_by e

  asked_with : (q : ℕ) → IsLeast (is_question i st) 1 (1 + st.posted) q → (o : Option Snapshot) → snapshot_in st q ≡ o → Says (IsLawful i st) (asked_entry i st q o)
  asked_with q x None e = tt
  asked_with q x (Some s) e = question_by q x s e i.options.mode refl

  -- the step of the operator is lawful
  pub operator_step : Says (IsLawful i st) (operator_entry i st (least_question i st))
  operator_step = least (λ o. Says (IsLawful i st) (operator_entry i st o)) (is_question i st) 1 st.posted
      (λ q x. asked_with q x (snapshot_in st q) refl)
      (λ none. tt)
