-- What `rest` does, step by step. Its bound of steps is so large that it makes no difference.
use native.Mathlib.Omega.{arith}
use Rattle.std.proofs.Common.{◌≡◌, ◌≤◌, ◌<◌, ◌∙◌, ℕ, zero, suc, ◌+◌, ◌-◌, ◌∷◌, ◌++◌, true, List, [], length, Option, Some, None, refl, ap, sym, subst}
use Rattle.std.proofs.lemmas.List.{append_assoc, length-append}
use Rattle.st_trace.specs.declared.entry.Choice.{Choice}
use Rattle.st_trace.specs.declared.entry.Entry.{Entry}
use Rattle.st_law.specs.Inputs.{IsStartable}
use Rattle.st_law.specs.Machine.{entry_of, run, state_after, state_of_run, IsSettled}
use Rattle.st_law.specs.Schedules.{EnabledChoice, Played, first_enabled, most_steps, rest_from, rest_on}
use Rattle.st_law.specs.State.{State}
use Rattle.st_law.specs.declared.input.Input.{Input}
use Rattle.st_law.proofs.EndOfRuns.{run_bound}
use Rattle.st_law.proofs.Resting.{first_found, rest_settles}
use Rattle.st_kernel.specs.Kernel.{RunSoFar, IsNextEntry, IsPlayed, next_enabled, rested, state_in}
use Rattle.st_kernel.proofs.RunsSoFar.{run_more, state_more}

module _ (i : Input) (startable : IsStartable i) where
  -- each of these choices was enabled when it was made
  abbrev AreEnabled : List Choice → Type 0
  AreEnabled made = length (run i made) ≡ length made

  longer : (made : List Choice) (c : Choice) → length (made ++ c ∷ []) ≡ length made + 1
  longer made c = length-append made (c ∷ [])

  pub enabled_more : (made : List Choice) (c : Choice) (e : Entry) → AreEnabled made → entry_of i (state_of_run i made) c ≡ Some e → AreEnabled (made ++ c ∷ [])
  enabled_more made c e are adds = ap (λ (l : List Entry). length l) (run_more i made c e adds) ∙ length-append (run i made) (e ∷ []) ∙ ap (λ (n : ℕ). n + 1) are ∙ sym (longer made c)

  -- then one more choice is within the bound of steps
  pub room : (made : List Choice) (c : Choice) (e : Entry) → AreEnabled made → entry_of i (state_of_run i made) c ≡ Some e → length made + 1 ≤ most_steps i
  room made c e are adds =
      let bound = run_bound i startable (made ++ c ∷ []) in
      let same = enabled_more made c e are adds in
      let long = longer made c in
      omega (arith, bound, same, long)

  -- `rest` after the first choice that is found
  abbrev following : (count : ℕ) (made : List Choice) → EnabledChoice → Played
  following count made found = rest_from count i (state_after i (state_of_run i made) found.entry) (made ++ found.choice ∷ [])

  later_is : (count : ℕ) (made : List Choice) (found : EnabledChoice) → first_enabled i (state_of_run i made) ≡ Some found → following count made found ≡ rest_from count i (state_of_run i (made ++ found.choice ∷ [])) (made ++ found.choice ∷ [])
  later_is count made found e = ap (λ (st : State). rest_from count i st (made ++ found.choice ∷ [])) (sym (state_more i made found.choice found.entry (first_found i (state_of_run i made) found e)))

  -- one step more makes no difference if it makes none after the first choice
  step : (count : ℕ) (made : List Choice) (o : Option EnabledChoice) → first_enabled i (state_of_run i made) ≡ o
      → ((found : EnabledChoice) → first_enabled i (state_of_run i made) ≡ Some found → rest_from (suc count) i (state_of_run i (made ++ found.choice ∷ [])) (made ++ found.choice ∷ []) ≡ rest_from count i (state_of_run i (made ++ found.choice ∷ [])) (made ++ found.choice ∷ []))
      → rest_from (suc (suc count)) i (state_of_run i made) made ≡ rest_from (suc count) i (state_of_run i made) made
  step count made None e again = ap (rest_on (record { choices = made; state = state_of_run i made }) (λ found. following (suc count) made found)) e ∙ sym (ap (rest_on (record { choices = made; state = state_of_run i made }) (λ found. following count made found)) e)
  step count made (Some found) e again =
      ap (rest_on (record { choices = made; state = state_of_run i made }) (λ other. following (suc count) made other)) e
      ∙ later_is (suc count) made found e ∙ again found e ∙ sym (later_is count made found e)
      ∙ sym (ap (rest_on (record { choices = made; state = state_of_run i made }) (λ other. following count made other)) e)

  -- it makes no difference if there are enough steps
  enough : (count : ℕ) (made : List Choice) → AreEnabled made → most_steps i ≤ count + length made → rest_from (suc count) i (state_of_run i made) made ≡ rest_from count i (state_of_run i made) made
  enough zero made are few = by (first_enabled i (state_of_run i made)) refl where
    by : (o : Option EnabledChoice) → first_enabled i (state_of_run i made) ≡ o → rest_on (record { choices = made; state = state_of_run i made }) (λ found. following zero made found) o ≡ rest_from zero i (state_of_run i made) made
    by None e = refl
    by (Some found) e = let more = room made found.choice found.entry are (first_found i (state_of_run i made) found e) in absurd (omega (arith, more, few))
  enough (suc count) made are few = step count made (first_enabled i (state_of_run i made)) refl
      (λ found e. enough count (made ++ found.choice ∷ []) (enabled_more made found.choice found.entry are (first_found i (state_of_run i made) found e)) (let long = longer made found.choice in omega (arith, few, long)))

  further : (made : List Choice) (found : EnabledChoice) → AreEnabled made → first_enabled i (state_of_run i made) ≡ Some found → (most : ℕ) → most_steps i ≡ most
      → rest_from most i (state_of_run i (made ++ found.choice ∷ [])) (made ++ found.choice ∷ []) ≡ rest_from most i (state_of_run i made) made
  further made found are e zero same = let more = room made found.choice found.entry are (first_found i (state_of_run i made) found e) in absurd (omega (arith, more, same))
  further made found are e (suc count) same =
      let long = longer made found.choice in
      enough count (made ++ found.choice ∷ []) (enabled_more made found.choice found.entry are (first_found i (state_of_run i made) found e)) (omega (arith, same, long))
      ∙ sym (later_is count made found e)
      ∙ sym (ap (rest_on (record { choices = made; state = state_of_run i made }) (λ other. following count made other)) e)

  -- `rest` gives the same result after the choice that it makes first
  pub rest_further : (made : List Choice) (found : EnabledChoice) → AreEnabled made → first_enabled i (state_of_run i made) ≡ Some found → rested (record { input = i; choices = made ++ found.choice ∷ [] }) ≡ rested (record { input = i; choices = made })
  rest_further made found are e = ap (λ (played : Played). record { input = i; choices = played.choices }) (further made found are e (most_steps i) refl)

-- if no choice is enabled, `rest` makes none
rests_at : (so_far : RunSoFar) → next_enabled so_far ≡ None → rest_from (most_steps so_far.input) so_far.input (state_of_run so_far.input so_far.choices) so_far.choices ≡ record { choices = so_far.choices; state = state_of_run so_far.input so_far.choices }
rests_at so_far none = by (most_steps so_far.input) where
  st : State
  st = state_in so_far

  by : (most : ℕ) → rest_from most so_far.input st so_far.choices ≡ record { choices = so_far.choices; state = st }
  by zero = refl
  by (suc count) = ap (rest_on (record { choices = so_far.choices; state = st }) (λ found. rest_from count so_far.input (state_after so_far.input st found.entry) (so_far.choices ++ found.choice ∷ []))) none

pub rest_over : (so_far : RunSoFar) → next_enabled so_far ≡ None → rested so_far ≡ so_far
rest_over so_far none = ap (λ (played : Played). record { input = so_far.input; choices = played.choices }) (rests_at so_far none)

-- if there is no first enabled choice, the state is settled
pub settled_at : (so_far : RunSoFar) → IsPlayed so_far → next_enabled so_far ≡ None → IsSettled so_far.input (state_of_run so_far.input so_far.choices)
settled_at so_far played none =
    subst (λ (at : Played). IsSettled so_far.input at.state) (rests_at so_far none) (rest_settles so_far.input played.startable so_far.choices (most_steps so_far.input) (omega arith)).settled

-- ---- a step of `rest`

-- the first enabled choice adds its entry
pub next_adds : (so_far : RunSoFar) (e : Entry) (c : Choice) → next_enabled so_far ≡ Some (record { choice = c; entry = e }) → entry_of so_far.input (state_in so_far) c ≡ Some e
next_adds so_far e c first = first_found so_far.input (state_in so_far) (record { choice = c; entry = e }) first

-- the run was continued by a choice, `rest` gives the same result after it, and fewer steps are left
pub record GoesOn (before after : RunSoFar) : Type 0 where
  pub on_the_way : rested after ≡ rested before
  pub made : (c : Choice) × (after.choices ≡ before.choices ++ c ∷ [])
  pub less : most_steps after.input - length after.choices < most_steps before.input - length before.choices

-- after the first enabled choice, the run was continued in that way
pub goes_on : (before after : RunSoFar) (added : Option Entry) → IsPlayed before → IsNextEntry before true added after → GoesOn before after
goes_on before after added played (e, c, there, first, on) =
    let more = room before.input played.startable before.choices c e played.enabled (next_adds before e c first) in
    let long = length-append before.choices (c ∷ []) in
    subst (GoesOn before) (sym on) (record {
      on_the_way = rest_further before.input played.startable before.choices (record { choice = c; entry = e }) played.enabled first;
      made = (c, refl);
      less = omega (arith, more, long);
    })

-- choices that were made earlier remain
pub made_on : (first : List Choice) (before after : RunSoFar) → (made : List Choice) × (before.choices ≡ first ++ made) → GoesOn before after → (made : List Choice) × (after.choices ≡ first ++ made)
made_on first before after earlier goes =
    let c = goes.made.0 in
    (earlier.0 ++ c ∷ [], goes.made.1 ∙ ap (λ (l : List Choice). l ++ c ∷ []) earlier.1 ∙ append_assoc first earlier.0 (c ∷ []))
