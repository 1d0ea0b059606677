-- There is always a next number for a message.
use native.Mathlib.Omega.{arith}
use Rattle.std.proofs.Common.{◌≡◌, ◌≤◌, ◌<◌, ◌-◌, ◌^◌, suc, sym, subst}
use Rattle.std.proofs.lemmas.List.Sums.{count_by-le-length, sum_by-le-sum_by}
use Rattle.st_law.specs.Schedules.{instruction_count, is_renewing_instruction, renewing_count}
use Rattle.st_law.specs.State.{State}
use Rattle.st_law.specs.declared.input.Input.{Input}
use Rattle.st_reached.specs.Reached.{most_numbers}
use Rattle.st_reached.proofs.NumbersDrawn.{few_drawn}
use Rattle.st_decide.specs.Machine.{Refines, Running}

-- at most as many instructions renew messages as there are instructions
pub fewer_renew : (i : Input) → renewing_count i ≤ instruction_count i
fewer_renew i = sum_by-le-sum_by _ _ i.start.threads (λ row. count_by-le-length is_renewing_instruction row.body)

pub room_left : (m : Running) (st : State) → Refines m st → m.workers.calls.next < 2 ^ 64 - 1
room_left m st is =
    let drawn : st.posted ≤ most_numbers m.input = subst (λ (s : State). s.posted ≤ most_numbers m.input) (sym is.reached.state_is) (few_drawn m.input is.reached.startable is.reached.choices) in
    let fewer : renewing_count m.input ≤ instruction_count m.input = fewer_renew m.input in
    let few : instruction_count m.input ≤ 4096 = is.bounded.few_instructions in
    let next : m.workers.calls.next ≡ suc st.posted = is.workers.agrees.next in
    omega (arith, drawn, fewer, few, next)
