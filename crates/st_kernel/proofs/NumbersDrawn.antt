-- How many drawings a run has made, and how many it makes at most.
use Rattle.std.proofs.Common.{◌≡◌, ◌≤◌, suc, subst, sym}
use Rattle.st_law.specs.State.{State}
use Rattle.st_reached.specs.Reached.{most_numbers}
use Rattle.st_reached.proofs.NumbersDrawn.{few_drawn}
use Rattle.st_decide.specs.Machine.{Refines, Running}

pub next_is : (m : Running) (st : State) → Refines m st → m.workers.calls.next ≡ suc st.posted
next_is m st is = is.workers.agrees.next

pub at_most : (m : Running) (st : State) → Refines m st → st.posted ≤ most_numbers m.input
at_most m st is = subst (λ (s : State). s.posted ≤ most_numbers m.input) (sym is.reached.state_is) (few_drawn m.input is.reached.startable is.reached.choices)
