-- A run ends: it has no more steps than its script's instructions allow, and `rest` goes on until no choice is enabled.
use native.Mathlib.Omega.{arith}
use Rattle.std.proofs.Common.{◌≡◌, ◌≤◌, ℕ, zero, suc, ◌+◌, ◌*◌, Bool, true, false, cond, not, List, [], ◌∷◌, length, reverse, Some, refl, sym, ap, subst, ◌∙◌}
use Rattle.std.specs.Prelude.{slice_get, count_by}
use Rattle.std.specs.List.{sum_by}
use Rattle.std.proofs.lemmas.List.Sums.{sum_by-cons}
use Rattle.std.proofs.lemmas.List.{length-reverse}
use Rattle.st_model.specs.Tree.{is_number}
use Rattle.st_trace.specs.declared.entry.Choice.{Choice}
use Rattle.st_trace.specs.declared.start.Instr.{Instr}
use Rattle.st_trace.specs.declared.start.ThreadRow.{ThreadRow}
use Rattle.st_law.specs.declared.input.Input.{Input}
use Rattle.st_law.specs.History.{looking_back}
use Rattle.st_law.specs.Inputs.{IsStartable}
use Rattle.st_law.specs.Lawful.{IsLawfulBack}
use Rattle.st_law.specs.Machine.{first_state, history, run}
use Rattle.st_law.specs.Schedules.{is_renewing_instruction, most_steps, served_number, steps_for}
use Rattle.st_law.specs.State.{thread_count}
use Rattle.st_law.specs.Threads.{History, body_of, body_of_row}
use Rattle.st_law.proofs.Copies.{copies_of}
use Rattle.st_law.proofs.Laws.{lawful_history}
use Rattle.st_law.proofs.Learning.{session_plain}
use Rattle.st_law.proofs.LesseningAnswers.{lessens, takes}
use Rattle.st_law.proofs.Potential.{message_cost, message_most, cost, thread_cost, step_unless, threads_cost, replies_cost, steps_left}
use Rattle.st_law.proofs.Sums.{total}
use Rattle.st_law.proofs.Whole.{whole_of}

-- ---- the cost of a script

count_more : (x : Instr) (body : List Instr) → count_by is_renewing_instruction (x ∷ body) ≡ step_unless (not (is_renewing_instruction x)) + count_by is_renewing_instruction body
count_more x body = sum_by-cons (λ y. cond (is_renewing_instruction y) 1 0) x body ∙ ap (λ n. n + count_by is_renewing_instruction body) (by (is_renewing_instruction x)) where
  by : (b : Bool) → cond b 1 0 ≡ step_unless (not b)
  by true = refl
  by false = refl

cost_more : (b : Bool) (costs lengths counts : ℕ) → costs ≡ 10000 * lengths + 640000 * counts → cond b 650000 10000 + costs ≡ 10000 * suc lengths + 640000 * (step_unless (not b) + counts)
cost_more true costs lengths counts e = omega (arith, e)
cost_more false costs lengths counts e = omega (arith, e)

cost_is : (body : List Instr) → cost body ≡ 10000 * length body + 640000 * count_by is_renewing_instruction body
cost_is [] = omega arith
cost_is (x ∷ body) = cost_more (is_renewing_instruction x) (cost body) (length body) (count_by is_renewing_instruction body) (cost_is body) ∙ ap (λ n. 10000 * suc (length body) + 640000 * n) (sym (count_more x body))

-- a sum over numbers is at most the sum over the rows that they count
rows_low : (g : ThreadRow → ℕ) (f : ℕ → ℕ) (rows : List ThreadRow) (a : ℕ) → ((k : ℕ) (row : ThreadRow) → slice_get rows k ≡ Some row → f (a + k) ≤ g row) → total f a (length rows) ≤ sum_by g rows
rows_low g f [] a low = omega arith
rows_low g f (row ∷ rows) a low =
    let first : f (a + 0) ≤ g row = low 0 row refl in
    let same : f (a + 0) ≡ f a = ap f (let e : a + 0 ≡ a = omega arith in e) in
    let rest = rows_low g f rows (suc a) (λ k each e. subst (λ n. f n ≤ g each) (let e : a + suc k ≡ suc a + k = omega arith in e) (low (suc k) each e)) in
    let more = sum_by-cons g row rows in
    omega (arith, first, same, rest, more)

abbrev row_cost : ThreadRow → ℕ
row_cost row = cost row.body + 1

rows_cost : (rows : List ThreadRow) → sum_by row_cost rows ≡ 10000 * sum_by (λ row. length row.body) rows + 640000 * sum_by (λ row. count_by is_renewing_instruction row.body) rows + length rows
rows_cost [] = omega arith
rows_cost (row ∷ rows) =
    let a = sum_by-cons row_cost row rows in
    let b = sum_by-cons (λ each. length each.body) row rows in
    let c = sum_by-cons (λ each. count_by is_renewing_instruction each.body) row rows in
    let d = cost_is row.body in
    let rest = rows_cost rows in
    omega (arith, a, b, c, d, rest)

ones : (a count : ℕ) → total (λ n. step_unless false) a count ≡ count
ones a zero = refl
ones a (suc count) = let rest = ones (suc a) count in omega (arith, rest)

-- the first state has at most the bound of steps left
pub first_bound : (i : Input) → thread_count i ≤ 64 → steps_left i (first_state i) ≤ most_steps i
first_bound i few =
    let threads : threads_cost i (first_state i) ≤ sum_by row_cost i.start.threads = rows_low row_cost (λ t. thread_cost ((first_state i).threads t)) i.start.threads 1 row_low in
    let rows = rows_cost i.start.threads in
    let replies : replies_cost i (first_state i) ≡ length i.replies = ones 1 (length i.replies) in
    omega (arith, threads, rows, replies, few) where
      row_low : (k : ℕ) (row : ThreadRow) → slice_get i.start.threads k ≡ Some row → thread_cost ((first_state i).threads (1 + k)) ≤ row_cost row
      row_low k row e =
          let same : cost (body_of i (1 + k)) ≡ cost (body_of i (suc k)) = ap (λ n. cost (body_of i n)) (let f : 1 + k ≡ suc k = omega arith in f) in
          let own : cost (body_of i (suc k)) ≡ cost row.body = ap (λ o. cost (body_of_row o)) e in
          omega (arith, same, own)

-- ---- steps made and steps left

module _ (i : Input) (startable : IsStartable i) where
  -- the steps left and the steps made are together at most the bound
  pub bound_of : (h : History) → IsLawfulBack i h → steps_left i (looking_back i h) + length h ≤ most_steps i
  bound_of [] lawful = let first = first_bound i startable.few_threads in omega (arith, first)
  bound_of (e ∷ h) lawful =
      let before = bound_of h lawful.1 in
      let less = lessens i (looking_back i h) (whole_of i startable h lawful.1) (copies_of i startable h lawful.1) startable.few_threads (session_plain i startable h) e lawful.0 in
      omega (arith, before, less)

  -- a run has no more steps than its script's instructions allow
  pub run_bound : (choices : List Choice) → length (run i choices) ≤ most_steps i
  run_bound choices =
      let bound = bound_of (history i (reverse choices)) (lawful_history i startable (reverse choices)) in
      let same : length (run i choices) ≡ length (history i (reverse choices)) = length-reverse (history i (reverse choices)) in
      omega (arith, bound, same)

  -- ---- the steps of one number

  -- the steps made for a number and those left for it are together at most 9,605
  steps_bound : (q : ℕ) (h : History) → IsLawfulBack i h → steps_for q h + message_cost i (looking_back i h) q ≤ 9605
  steps_bound q [] lawful = let most = message_most i (first_state i) q in omega (arith, most)
  steps_bound q (e ∷ h) lawful =
      let before = steps_bound q h lawful.1 in
      let step = takes i (looking_back i h) (whole_of i startable h lawful.1) (copies_of i startable h lawful.1) q (session_plain i startable h) e lawful.0 in
      let more = sum_by-cons (λ x. cond (is_number q (served_number x)) 1 0) e h in
      let one = counted (is_number q (served_number e)) in
      omega (arith, before, step, more, one) where
        counted : (b : Bool) → cond b 1 0 ≡ step_unless (not b)
        counted true = refl
        counted false = refl

  -- at most 10,000 steps are for one number: the steps of workers, and the one by which it is learnt
  pub number_bound : (q : ℕ) (h : History) → IsLawfulBack i h → steps_for q h ≤ 10000
  number_bound q h lawful = let bound = steps_bound q h lawful in omega (arith, bound)
