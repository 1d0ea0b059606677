-- The machine that runs represents the state after one more entry if each of its parts does.
use Rattle.std.proofs.Common.{◌≡◌, ◌≢◌, ◌-◌, ◌∙◌, ℕ, Bool, cond, set, List, length, Option, Some, None, inl, inr, ap, sym, subst}
use Rattle.std.proofs.lemmas.Bool.{cases_eq, eq-eqb, ne_eqb}
use Rattle.st_base.specs.Numbered.{item_at_number}
use Rattle.st_trace.specs.declared.entry.Choice.{Choice}
use Rattle.st_trace.specs.declared.entry.Entry.{Entry}
use Rattle.st_law.specs.Machine.{entry_of, state_after}
use Rattle.st_law.specs.State.{State, ThreadState, is_live}
use Rattle.st_system.specs.System.{IsSystem, Parts}
use Rattle.st_workers.specs.Refinement.{RepresentsMessages}
use Rattle.st_workers.specs.UnderWay.{UnderWay}
use Rattle.st_workers.proofs.Turns.{item_put, number_within}
use Rattle.st_decide.specs.Machine.{Refines, Running}
use Rattle.st_threads.specs.Thread.{ThreadRow, IsRow, IsRowOf}
use Rattle.st_learn.specs.Answers.{Answers, AreAnswersIn}
use Rattle.st_learn.specs.Operator.{Added, IsAdded}
use Rattle.st_learn.proofs.InForce.{answers_stand}
use Rattle.st_learn.proofs.Replies.{added_stands}
use Rattle.st_decide.proofs.Reached.{reached_more}

-- the rows represent these threads
abbrev pub AreRows : List ThreadRow → (ℕ → ThreadState) → Type 0
AreRows rows threads = (t : ℕ) → IsRowOf (item_at_number rows t) (threads t)

-- two threads have come equally far: a row that represents one of them represents the other
pub record HasComeAsFar (a b : ThreadState) : Type 0 where
  pub left : b.left ≡ a.left
  pub pending : b.pending ≡ a.pending
  pub answer : b.answer ≡ a.answer
  pub number : b.number ≡ a.number
  pub dying : b.dying ≡ a.dying
  pub ended : b.ended ≡ a.ended

row_same : (row : ThreadRow) (a b : ThreadState) → HasComeAsFar a b → IsRow row a → IsRow row b
row_same row a b far is = record { left = far.left ∙ is.left; pending = far.pending ∙ is.pending; answer = λ entered n e w. far.answer ∙ is.answer entered n e w; number = λ q e. far.number ∙ is.number q e; dying = far.dying ∙ is.dying; ended = far.ended ∙ is.ended }

pub row_of_same : (o : Option ThreadRow) (a b : ThreadState) → HasComeAsFar a b → IsRowOf o a → IsRowOf o b
row_of_same None a b far is = tt
row_of_same (Some row) a b far is = row_same row a b far is

-- the rows represent the new threads if each thread has come as far as before
pub rows_stand : (rows : List ThreadRow) (old new : ℕ → ThreadState) → ((t : ℕ) → HasComeAsFar (old t) (new t)) → AreRows rows old → AreRows rows new
rows_stand rows old new far are t = row_of_same (item_at_number rows t) (old t) (new t) (far t) (are t)

-- one row is changed, and each other thread has come as far as before
pub rows_changed : (rows : List ThreadRow) (old new : ℕ → ThreadState) (u : ℕ) (before row : ThreadRow) → item_at_number rows u ≡ Some before → ((t : ℕ) → t ≢ u → HasComeAsFar (old t) (new t)) → IsRow row (new u) → AreRows rows old
    → AreRows (set rows (u - 1) row) new
rows_changed rows old new u before row there far is are t =
    let within = number_within rows u before there in
    let at = item_put rows u row within.0 within.1 t in
    elim (cases_eq t u) [
      | inl e ↦ subst (λ (o : Option ThreadRow). IsRowOf o (new t)) (sym (at ∙ ap (λ (b : Bool). cond b (Some row) (item_at_number rows t)) (eq-eqb t u e))) (subst (λ (n : ℕ). IsRow row (new n)) (sym e) is)
      | inr ne ↦ subst (λ (o : Option ThreadRow). IsRowOf o (new t)) (sym (at ∙ ap (λ (b : Bool). cond b (Some row) (item_at_number rows t)) (ne_eqb t u ne))) (row_of_same (item_at_number rows t) (old t) (new t) (far t ne) (are t))
    ]

-- ---- the machine that runs

-- the machine that runs, with other parts
abbrev pub with_parts : Running → Parts → UnderWay → List ThreadRow → Running
with_parts m system workers threads = record { input = m.input; system = system; workers = workers; threads = threads; answers = m.answers; operator = m.operator }

-- the machine that runs, with other parts, and with what answers calls and what the operator has added
abbrev pub with_all : Running → Parts → UnderWay → List ThreadRow → Answers → Added → Running
with_all m system workers threads answers operator = record { input = m.input; system = system; workers = workers; threads = threads; answers = answers; operator = operator }

module _ (m : Running) (st : State) (is : Refines m st) (c : Choice) (e : Entry) (entry : entry_of m.input st c ≡ Some e) where
  -- every part changes
  pub all_following : (answers : Answers) (operator : Added) → AreAnswersIn m.input (state_after m.input st e) answers → IsAdded m.input (state_after m.input st e) operator → (system : Parts) (workers : UnderWay) (threads : List ThreadRow)
      → IsSystem m.input (state_after m.input st e) system → RepresentsMessages m.input (state_after m.input st e) (is_live (state_after m.input st e)) workers
      → AreRows threads (state_after m.input st e).threads → length threads ≡ length m.threads → Refines (with_all m system workers threads answers operator) (state_after m.input st e)
  all_following answers operator are_answers is_added system workers threads is_system is_kept are same = record {
    reached = reached_more m.input st is.reached c e entry;
    bounded = is.bounded;
    ungranted = is.ungranted;
    replies = is.replies;
    system = is_system;
    workers = is_kept;
    threads = are;
    count = same ∙ is.count;
    answers = are_answers;
    operator = is_added;
  }

  -- neither the session nor the versions in force change
  module _ (keeps : (state_after m.input st e).session ≡ st.session) (orders : (state_after m.input st e).changed ≡ st.changed) (stays : (binary : List ℕ) → (state_after m.input st e).versions binary ≡ st.versions binary) (gives : (state_after m.input st e).replied ≡ st.replied) where
    pub following : (system : Parts) (workers : UnderWay) (threads : List ThreadRow)
        → IsSystem m.input (state_after m.input st e) system → RepresentsMessages m.input (state_after m.input st e) (is_live (state_after m.input st e)) workers
        → AreRows threads (state_after m.input st e).threads → length threads ≡ length m.threads → Refines (with_parts m system workers threads) (state_after m.input st e)
    following = all_following m.answers m.operator (answers_stand m.input st (state_after m.input st e) m.answers keeps stays is.answers)
        (added_stands m.input st (state_after m.input st e) m.operator keeps orders stays gives is.operator)
