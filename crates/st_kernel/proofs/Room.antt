-- The room for the answers of ready workers.
use native.Mathlib.Omega.{arith}
use Rattle.std.proofs.Common.{◌≡◌, ◌≤◌, ◌+◌, ℕ, zero, suc, Bool, true, false, cond, List, [], Option, None, refl, ap, sym, subst, ◌∙◌}
use Rattle.std.specs.Prelude.{is_some}
use Rattle.st_calls.specs.declared.judged.Snapshot.{Snapshot}
use Rattle.st_law.specs.State.{State, worker_at}
use Rattle.st_law.specs.declared.input.Input.{Input}
use Rattle.st_report.specs.ScheduleText.{spelled_choices}
use Rattle.st_report.specs.declared.schedule.Repeat.{Repeat}
use Rattle.st_kernel.specs.Kernel.{RunSoFar, HasRoom, copies_at, ready_workers, state_in}

one_more_ready : (b : Bool) (k n : ℕ) → k ≤ n → cond b (suc k) k ≤ suc n
one_more_ready true k n few = omega (arith, few)
one_more_ready false k n few = omega (arith, few)

-- no more workers are ready than there are
ready_few : (st : State) (n : ℕ) → ready_workers st n ≤ n
ready_few st zero = omega arith
ready_few st (suc n) = one_more_ready (is_some (copies_at st (worker_at st (suc n)))) (ready_workers st n) n (ready_few st n)

none_ready : (st : State) → ((w : ℕ) → copies_at st (worker_at st w) ≡ None) → (n : ℕ) → ready_workers st n ≡ 0
none_ready st none zero = refl
none_ready st none (suc n) = ap (λ (o : Option Snapshot). cond (is_some o) (suc (ready_workers st n)) (ready_workers st n)) (none (suc n)) ∙ none_ready st none n

-- the same room for the same run
pub room_kept : (old new : RunSoFar) (count count_then capacity capacity_then : ℕ) → new ≡ old → count_then ≡ count → capacity ≤ capacity_then → HasRoom old count capacity → HasRoom new count_then capacity_then
room_kept old new count count_then capacity capacity_then same length more room =
    let here : HasRoom new count capacity = subst (λ (so_far : RunSoFar). HasRoom so_far count capacity) (sym same) room in
    omega (arith, here, length, more)

-- room for one choice and the answer of each worker is enough, whatever the choice does
pub room_made : (new : RunSoFar) (workers before count room capacity : ℕ) → new.input.options.workers ≡ workers → before + (1 + workers) ≤ room → count ≤ before + 1 → capacity ≡ room → HasRoom new count capacity
room_made new workers before count room capacity same made more kept =
    let few = ready_few (state_in new) new.input.options.workers in
    omega (arith, few, same, made, more, kept)

-- before the first choice no worker is ready
pub room_start : (i : Input) (made : List Repeat) (count capacity : ℕ) → made ≡ [] → count ≡ 0 → HasRoom (record { input = i; choices = spelled_choices made }) count capacity
room_start i made count capacity none empty =
    let first : RunSoFar = record { input = i; choices = [] } in
    let unready = none_ready (state_in first) (λ w. refl) i.options.workers in
    let here : HasRoom first count capacity = omega (arith, unready, empty) in
    subst (λ (l : List Repeat). HasRoom (record { input = i; choices = spelled_choices l }) count capacity) (sym none) here
