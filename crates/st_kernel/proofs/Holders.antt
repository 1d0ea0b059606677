-- Which thread holds the call of a number, and whether the number is live.
use Rattle.std.proofs.Common.{◌≡◌, ◌↔◌, ◌∙◌, ℕ, Bool, true, false, List, Option, Some, None, IfSome, ap, sym, subst, true≢false}
use Rattle.std.proofs.lemmas.Option.{none-some, same_Some}
use Rattle.st_messages.specs.Messages.{drawing_of}
use Rattle.st_messages.proofs.Seqs.{drawing_has_it, drawing_is}
use Rattle.st_report.specs.ScheduleText.{spelled_choices}
use Rattle.st_report.specs.declared.schedule.Repeat.{Repeat}
use Rattle.st_law.specs.State.{State, is_live}
use Rattle.st_reached.specs.Waiting.{is_message_by}
use Rattle.st_reached.proofs.InUse.{used_live}
use Rattle.st_decide.specs.Machine.{Refines, Running}
use Rattle.st_kernel.specs.Kernel.{RunSoFar, IsLiveNumber, IsRunSoFar, number_now, state_in}
use Rattle.st_kernel.proofs.RunsSoFar.{number_has}

-- this thread alone holds the live call of a number
abbrev pub IsOnlyHolder : RunSoFar → ℕ → Option ℕ → Type 0
IsOnlyHolder now seq o = IfSome o (λ tid. (t q : ℕ) → is_live (state_in now) q ≡ true → number_now now q ≡ seq → is_message_by (state_in now) t q ≡ true → t ≡ tid)

module _ (m : Running) (made : List Repeat) (first : ℕ) (asleep : List Bool) (so_far : IsRunSoFar m made first asleep) (now : RunSoFar) (view_is : record { input = m.input; choices = spelled_choices made } ≡ now) (seq : ℕ) where
  abbrev here : RunSoFar
  here = record { input = m.input; choices = spelled_choices made }

  abbrev st : State
  st = state_in here

  -- the one live drawing of a number is found
  live_found : (q : ℕ) → is_live st q ≡ true → number_now here q ≡ seq → drawing_of m.workers.calls seq ≡ Some q
  live_found q live its = drawing_is m.workers.calls seq so_far.machine.workers.numbered.calls q (number_has m made first asleep so_far q (used_live m.input st q live) ∙ ap Some its)

  module _ (d : ℕ) (found : drawing_of m.workers.calls seq ≡ Some d) where
    same_drawing : (q : ℕ) → is_live st q ≡ true → number_now here q ≡ seq → q ≡ d
    same_drawing q live its = same_Some q d (sym (live_found q live its) ∙ found)

    live_here : (b : Bool) → b ≡ is_live st d → (b ≡ true) ↔ IsLiveNumber here seq
    live_here b is = (
      λ yes. (d, sym is ∙ yes, so_far.numbers.seqs d seq (drawing_has_it m.workers.calls seq so_far.machine.workers.numbered.calls d found)),
      λ x. is ∙ subst (λ (n : ℕ). is_live st n ≡ true) (same_drawing x.0 x.1 x.2) x.1,
    )

    only_here : (o : Option ℕ) → IfSome o (λ tid. (s : State) → Refines m s → (t : ℕ) → is_message_by s t d ≡ true → t ≡ tid) → IsOnlyHolder here seq o
    only_here None law = tt
    only_here (Some tid) law = λ t q live its by. law st so_far.machine t (subst (λ (n : ℕ). is_message_by st t n ≡ true) (same_drawing q live its) by)

    pub live_some : (b : Bool) → ((s : State) → Refines m s → b ≡ is_live s d) → (b ≡ true) ↔ IsLiveNumber now seq
    live_some b is = subst (λ (k : RunSoFar). (b ≡ true) ↔ IsLiveNumber k seq) view_is (live_here b (is st so_far.machine))

    pub only_some : (o : Option ℕ) → IfSome o (λ tid. (s : State) → Refines m s → (t : ℕ) → is_message_by s t d ≡ true → t ≡ tid) → IsOnlyHolder now seq o
    only_some o law = subst (λ (k : RunSoFar). IsOnlyHolder k seq o) view_is (only_here o law)

  -- a number that no drawing in use has isn't live
  pub live_none : drawing_of m.workers.calls seq ≡ None → (false ≡ true) ↔ IsLiveNumber now seq
  live_none none = subst (λ (k : RunSoFar). (false ≡ true) ↔ IsLiveNumber k seq) view_is (
    λ no. absurd (true≢false (sym no)),
    λ x. absurd (none-some x.0 (sym none ∙ live_found x.0 x.1 x.2)),
  )
