-- The number of a live drawing.
use Rattle.std.proofs.Common.{◌≡◌, ◌∙◌, ℕ, Bool, true, false, cond, List, Option, Some, None, ap, sym, subst}
use Rattle.std.specs.Prelude.{is_some}
use Rattle.st_messages.specs.Messages.{seq_of}
use Rattle.st_report.specs.ScheduleText.{spelled_choices}
use Rattle.st_report.specs.declared.schedule.Repeat.{Repeat}
use Rattle.st_law.specs.declared.input.Input.{Input}
use Rattle.st_law.specs.State.{State, is_live}
use Rattle.st_reached.proofs.InUse.{used_live}
use Rattle.st_workers.specs.Refinement.{RepresentsMessages}
use Rattle.st_workers.specs.UnderWay.{UnderWay}
use Rattle.st_decide.specs.Machine.{Running}
use Rattle.st_kernel.specs.Kernel.{RunSoFar, IsRunSoFar, live_number, number_now, state_in}
use Rattle.st_kernel.proofs.RunsSoFar.{number_has}

-- a drawing is live exactly if there is this thread, in each state that the messages under way represent
abbrev pub IsLiveBy : UnderWay → ℕ → Option ℕ → Type 0
IsLiveBy workers q o = (i : Input) (st : State) → RepresentsMessages i st (is_live st) workers → is_some o ≡ is_live st q

module _ (m : Running) (made : List Repeat) (first : ℕ) (asleep : List Bool) (so_far : IsRunSoFar m made first asleep) (now : RunSoFar) (view_is : record { input = m.input; choices = spelled_choices made } ≡ now) (q : ℕ) where
  abbrev here : RunSoFar
  here = record { input = m.input; choices = spelled_choices made }

  number_if : (b : Bool) → b ≡ is_live (state_in here) q → cond b (Some (number_now here q)) None ≡ live_number here q
  number_if b is = ap (λ (live : Bool). cond live (Some (number_now here q)) None) is

  has_number : true ≡ is_live (state_in here) q → seq_of m.workers.calls q ≡ Some (number_now here q)
  has_number live = number_has m made first asleep so_far q (used_live m.input (state_in here) q (sym live))

  -- no thread has it: it isn't live
  pub none_live : IsLiveBy m.workers q None → None ≡ live_number now q
  none_live law = subst (λ (k : RunSoFar). None ≡ live_number k q) view_is (number_if false (law m.input (state_in here) so_far.machine.workers))

  module _ (t : ℕ) (law : IsLiveBy m.workers q (Some t)) where
    live : true ≡ is_live (state_in here) q
    live = law m.input (state_in here) so_far.machine.workers

    -- some thread has it: it has a number
    pub some_has : is_some (seq_of m.workers.calls q) ≡ true
    some_has = ap is_some (has_number live)

    -- and this is the law's number
    pub some_live : (n : ℕ) → seq_of m.workers.calls q ≡ Some n → Some n ≡ live_number now q
    some_live n is = subst (λ (k : RunSoFar). Some n ≡ live_number k q) view_is (sym is ∙ has_number live ∙ number_if true live)
