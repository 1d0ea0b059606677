-- What the lines of a schedule add to a run, from the kernel's current state on.
use native.Mathlib.Omega.{arith}
use Rattle.std.proofs.Common.{◌≡◌, ◌<◌, ◌∙◌, ℕ, suc, ◌+◌, ◌-◌, ◌∷◌, ◌++◌, List, [], Some, None, Result, Ok, Err, ap, reverse, sym, subst}
use Rattle.std.specs.Result.{IsErr, IsErrAnd}
use Rattle.std.proofs.Math.Nat.{le_refl}
use Rattle.std.proofs.lemmas.List.{append_assoc, append-nil}
use Rattle.st_trace.specs.declared.entry.Choice.{Choice}
use Rattle.st_trace.specs.declared.entry.Entry.{Entry}
use Rattle.st_law.proofs.Resting.{rest_settles}
use Rattle.st_law.specs.History.{session_at}
use Rattle.st_law.specs.Inputs.{IsStartable}
use Rattle.st_law.specs.Machine.{entry_of, state_after, state_of_run}
use Rattle.st_law.specs.Numbers.{drawn}
use Rattle.st_law.specs.Schedules.{Played, further_on, line_played, most_steps, repeated, rest_from}
use Rattle.st_law.specs.Sessions.{SessionFilter}
use Rattle.st_law.specs.State.{State}
use Rattle.st_law.specs.declared.input.Input.{Input}
use Rattle.st_law.specs.declared.input.What.TheVariants.{Rest}
use Rattle.st_kernel.specs.declared.kernel.StepFault.{StepFault}
use Rattle.st_kernel.specs.Kernel.{RunSoFar, numbered_next, rested, played_so_far, state_in, trace_of, with_choice, Continues}
use Rattle.st_kernel.proofs.RunsSoFar.{state_more, trace_more}

module _ (i : Input) (made : List Choice) where
  abbrev here : RunSoFar
  here = record { input = i; choices = made }

  -- ---- a repeated choice

  pub repeated_further : (count : ℕ) (c : Choice) (e : Entry) → entry_of i (state_of_run i made) c ≡ Some e → repeated (suc count) c i (played_so_far here) ≡ repeated count c i (played_so_far (record { input = i; choices = made ++ c ∷ [] }))
  repeated_further count c e adds =
      ap (further_on (λ (entry : Entry). repeated count c i (record { choices = made ++ c ∷ []; state = state_after i (state_of_run i made) entry }))) adds
      ∙ ap (λ (st : State). repeated count c i (record { choices = made ++ c ∷ []; state = st })) (sym (state_more i made c e adds))

  pub repeated_stuck : (count : ℕ) (c : Choice) → entry_of i (state_of_run i made) c ≡ None → repeated (suc count) c i (played_so_far here) ≡ None
  repeated_stuck count c none = ap (further_on (λ (entry : Entry). repeated count c i (record { choices = made ++ c ∷ []; state = state_after i (state_of_run i made) entry }))) none

  -- ---- `rest`

  pub rest_stands : (count : ℕ) → IsStartable i → line_played Rest count i (played_so_far here) ≡ Some (played_so_far (rested here))
  rest_stands count startable =
      let over : Played = rest_from (most_steps i) i (state_of_run i made) made in
      ap (λ (st : State). Some (record { choices = over.choices; state = st })) (rest_settles i startable made (most_steps i) (le_refl (most_steps i))).reached

-- ---- the rounds of the loop that repeats a choice

module _ (old : RunSoFar) (c : Choice) (count k : ℕ) (within : k < count) where
  abbrev i : Input
  i = old.input

  one_less : count - k ≡ suc (count - (k + 1))
  one_less = omega (arith, within)

  further : (new : RunSoFar) (e : Entry) → new ≡ with_choice old c → entry_of i (state_in old) c ≡ Some e → repeated (count - (k + 1)) c i (played_so_far new) ≡ repeated (count - k) c i (played_so_far old)
  further new e on adds =
      ap (λ (so_far : RunSoFar). repeated (count - (k + 1)) c i (played_so_far so_far)) on
      ∙ sym (repeated_further i old.choices (count - (k + 1)) c e adds)
      ∙ ap (λ (n : ℕ). repeated n c i (played_so_far old)) (sym one_less)

  stuck : entry_of i (state_in old) c ≡ None → repeated (count - k) c i (played_so_far old) ≡ None
  stuck none = ap (λ (n : ℕ). repeated n c i (played_so_far old)) one_less ∙ repeated_stuck i old.choices (count - (k + 1)) c none

  -- after one more round, the choice is to be made one time less
  pub round_further : (input : Input) → i ≡ input → (new : RunSoFar) (e : Entry) → new ≡ with_choice old c → entry_of i (state_in old) c ≡ Some e → repeated (count - (k + 1)) c input (played_so_far new) ≡ repeated (count - k) c input (played_so_far old)
  round_further input same new e on adds = subst (λ (j : Input). repeated (count - (k + 1)) c j (played_so_far new) ≡ repeated (count - k) c j (played_so_far old)) same (further new e on adds)

  pub round_stuck : (input : Input) → i ≡ input → entry_of i (state_in old) c ≡ None → repeated (count - k) c input (played_so_far old) ≡ None
  round_stuck input same none = subst (λ (j : Input). repeated (count - k) c j (played_so_far old) ≡ None) same (stuck none)

-- ---- entries that are given to the recorder

-- what holds of the run so far, and is preserved by each entry, holds after a choice
pub noted_on : (P Q : Input → List Entry → Type 0) (old : RunSoFar) (c : Choice) (e given : Entry) (new : RunSoFar) (i : Input) (session : List SessionFilter)
    → new ≡ with_choice old c → i ≡ new.input → session ≡ session_at new.input (reverse (drawn (trace_of new))) → entry_of old.input (state_in old) c ≡ Some e → numbered_next old e ≡ given
    → ((trace : List Entry) → session ≡ session_at i (reverse (drawn (trace ++ given ∷ []))) → P i trace → Q i (trace ++ given ∷ [])) → P old.input (trace_of old) → Q new.input (trace_of new)
noted_on P Q old c e given new i session on same following adds its noted x =
    let was : i ≡ old.input = same ∙ ap (λ (so_far : RunSoFar). so_far.input) on in
    let longer : trace_of new ≡ trace_of old ++ given ∷ [] = ap trace_of on ∙ trace_more old.input old.choices c e adds ∙ ap (λ (next : Entry). trace_of old ++ next ∷ []) its in
    let here : session ≡ session_at i (reverse (drawn (trace_of old ++ given ∷ []))) = following ∙ (λ k. session_at (sym same k) (reverse (drawn (longer k)))) in
    subst (λ (j : Input). Q j (trace_of new)) same
    (subst (Q i) (sym longer) (noted (trace_of old) here (subst (λ (j : Input). P j (trace_of old)) (sym was) x)))

-- ---- choices that were made remain

-- no choice was added
pub continues_here : (so_far : RunSoFar) → Continues so_far so_far
continues_here so_far = ([], sym (append-nil so_far.choices))

-- one choice was added
pub continues_by : (old : RunSoFar) (c : Choice) (new : RunSoFar) → new ≡ with_choice old c → Continues old new
continues_by old c new on = (c ∷ [], ap (λ (so_far : RunSoFar). so_far.choices) on)

pub continues_on : (first middle last : RunSoFar) → Continues first middle → Continues middle last → Continues first last
continues_on first middle last a b = (a.0 ++ b.0, b.1 ∙ ap (λ (l : List Choice). l ++ b.0) a.1 ∙ append_assoc first.choices a.0 b.0)

-- the error of a result, or the given one
abbrev fault_or : {A : Type 0} → StepFault → Result A StepFault → StepFault
fault_or other (Ok value) = other
fault_or other (Err e) = e

-- an error that is passed on is the error that was received
pub came_from : {A : Type 0} (s f : StepFault) (r : Result A StepFault) → IsErr r → IsErrAnd r (λ e. e ≡ s) → r ≡ Err f → s ≡ f
came_from s f (Ok value) failed same is = cc
came_from s f (Err e) failed same is = sym same ∙ ap (fault_or e) is
