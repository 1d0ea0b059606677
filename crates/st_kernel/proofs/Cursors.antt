-- The choice that the cursor finds is the first enabled choice.
use native.Mathlib.Omega.{arith}
use Rattle.std.proofs.Common.{◌≡◌, ◌≤◌, ◌<◌, ◌∙◌, ℕ, zero, suc, ◌+◌, Bool, true, false, Option, Some, None, inl, inr, refl, replicate, ap, sym, subst}
use Rattle.std.proofs.lemmas.Bool.{cases_eq}
use Rattle.st_trace.specs.declared.entry.Choice.{Choice}
use Rattle.st_trace.specs.declared.entry.Choice.TheVariants as choice
use Rattle.st_trace.specs.declared.entry.Entry.{Entry}
use Rattle.st_law.specs.Machine.{entry_of}
use Rattle.st_law.specs.Schedules.{EnabledChoice, choice_or, first_enabled, first_enabled_of}
use Rattle.st_law.specs.State.{State, thread_count}
use Rattle.st_law.specs.declared.input.Input.{Input}
use Rattle.st_waking.specs.Waking.{is_asleep}
use Rattle.st_kernel.specs.Kernel.{RunSoFar, state_in, HasMadeFirstEnabled, IsChosen, IsNextEntry}

-- no thread is marked at first
pub nobody_asleep : (n place : ℕ) → is_asleep (replicate n false) place ≡ false
nobody_asleep zero place = refl
nobody_asleep (suc n) zero = refl
nobody_asleep (suc n) (suc place) = nobody_asleep n place

-- what holds of each number before n, and of n, holds of each number before n + 1
pub one_more : (P : ℕ → Type 0) (n : ℕ) → ((q : ℕ) → 1 ≤ q → q < n → P q) → P n → (q : ℕ) → 1 ≤ q → q < n + 1 → P q
one_more P n before here q low high = elim (cases_eq q n) [
  | inl same ↦ subst P (sym same) here
  | inr ne ↦ before q low (omega (arith, high, ne))
]

-- ---- the first choice

-- a choice that is enabled, with the entry that it adds
abbrev pub enabled_by : Choice → Entry → EnabledChoice
enabled_by c e = record { choice = c; entry = e }

module _ (of : ℕ → Choice) (i : Input) (st : State) where
  passed : (n : ℕ) (o : Option Entry) (other : Option EnabledChoice) → o ≡ None → choice_or (of n) o other ≡ other
  passed n o other e = ap (λ (x : Option Entry). choice_or (of n) x other) e

  -- the first enabled choice of a family
  found : (n count : ℕ) (other : Option EnabledChoice) (p : ℕ) (e : Entry) → n ≤ p → p < n + count → ((q : ℕ) → n ≤ q → q < p → entry_of i st (of q) ≡ None) → entry_of i st (of p) ≡ Some e
      → first_enabled_of of i st n count other ≡ Some (enabled_by (of p) e)
  found n zero other p e low high none adds = absurd (omega (arith, low, high))
  found n (suc count) other p e low high none adds = elim (cases_eq n p) [
    | inl same ↦ ap (λ (x : Option Entry). choice_or (of n) x (first_enabled_of of i st (suc n) count other)) (ap (λ (k : ℕ). entry_of i st (of k)) same ∙ adds) ∙ ap (λ (k : ℕ). Some (enabled_by (of k) e)) same
    | inr ne ↦ passed n (entry_of i st (of n)) (first_enabled_of of i st (suc n) count other) (none n (omega arith) (omega (arith, low, ne)))
        ∙ found (suc n) count other p e (omega (arith, low, ne)) (omega (arith, high)) (λ q above below. none q (omega (arith, above)) below) adds
  ]

  -- if no choice of a family is enabled, it is the other
  none_of : (n count : ℕ) (other : Option EnabledChoice) → ((q : ℕ) → n ≤ q → q < n + count → entry_of i st (of q) ≡ None) → first_enabled_of of i st n count other ≡ other
  none_of n zero other none = refl
  none_of n (suc count) other none =
      passed n (entry_of i st (of n)) (first_enabled_of of i st (suc n) count other) (none n (omega arith) (omega arith)) ∙ none_of (suc n) count other (λ q above below. none q (omega (arith, above)) (omega (arith, below)))

module _ (i : Input) (st : State) where
  abbrev asked : Option EnabledChoice
  asked = choice_or choice.Operator (entry_of i st choice.Operator) None

  abbrev workers : Option EnabledChoice
  workers = first_enabled_of choice.Worker i st 1 i.options.workers asked

  abbrev pub NoThread : Type 0
  NoThread = (q : ℕ) → 1 ≤ q → q ≤ thread_count i → entry_of i st (choice.Thread q) ≡ None

  abbrev pub NoWorker : Type 0
  NoWorker = (q : ℕ) → 1 ≤ q → q ≤ i.options.workers → entry_of i st (choice.Worker q) ≡ None

  no_thread : NoThread → first_enabled i st ≡ workers
  no_thread none = none_of choice.Thread i st 1 (thread_count i) workers (λ q low high. none q low (omega (arith, high)))

  -- if no thread and no worker can move, it is the operator's, if there is a question
  pub nobody_else : NoThread → NoWorker → first_enabled i st ≡ asked
  nobody_else none idle = no_thread none ∙ none_of choice.Worker i st 1 i.options.workers asked (λ q low high. idle q low (omega (arith, high)))

-- ---- how a run continues

module _ (before after : RunSoFar) where
  abbrev i : Input
  i = before.input

  abbrev st : State
  st = state_in before

  -- the first enabled choice was made: by a thread
  pub thread_next : (added : Option Entry) → HasMadeFirstEnabled choice.Thread (thread_count i) before true added after → IsNextEntry before true added after
  thread_next added (e, there, it) =
      let high = it.to in
      (e, choice.Thread it.number, there, found choice.Thread i st 1 (thread_count i) (workers i st) it.number e it.from (omega (arith, high)) it.before it.adds, it.made)

  -- by a worker, if no thread can move
  pub worker_next : (added : Option Entry) → NoThread i st → HasMadeFirstEnabled choice.Worker i.options.workers before true added after → IsNextEntry before true added after
  worker_next added none (e, there, it) =
      let high = it.to in
      (e, choice.Worker it.number, there, no_thread i st none ∙ found choice.Worker i st 1 i.options.workers (asked i st) it.number e it.from (omega (arith, high)) it.before it.adds, it.made)

  -- by the operator, if there is a question; otherwise no choice is enabled
  pub operator_next : (made : Bool) (added : Option Entry) → NoThread i st → NoWorker i st → IsChosen before choice.Operator made added after → IsNextEntry before made added after
  operator_next true added none idle (e, there, adds, on) = (e, choice.Operator, there, nobody_else i st none idle ∙ ap (λ (o : Option Entry). choice_or choice.Operator o None) adds, on)
  operator_next false added none idle chosen = (nobody_else i st none idle ∙ ap (λ (o : Option Entry). choice_or choice.Operator o None) chosen.1, chosen.2)
