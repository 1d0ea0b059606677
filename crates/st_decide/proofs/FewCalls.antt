-- Few calls are held at a time.
use native.Mathlib.Omega.{arith}
use Rattle.std.proofs.Common.{ℕ, ◌≡◌, ◌∙◌, true, Option, Some, ap, sym}
use Rattle.std.proofs.lemmas.Option.{same_Some}
use Rattle.std.specs.Option.{option_map}
use Rattle.std.specs.Prelude.{is_some}
use Rattle.st_law.specs.Inputs.{IsThread}
use Rattle.st_law.specs.Messages.{Head}
use Rattle.st_law.specs.State.{is_live, State}
use Rattle.st_law.proofs.Whole.{live_head}
use Rattle.st_reached.specs.Reached.{IsHolding}
use Rattle.st_reached.proofs.Reached.{Reached}
use Rattle.st_workers.specs.Numbers.{AreFew}
use Rattle.st_workers.proofs.States.{is_held_by, is_live_by_thread}
use Rattle.st_decide.specs.Machine.{Refines, Running}
use Rattle.st_decide.proofs.Reached.{reached_of}

-- the held calls are those of the script's threads, which are few
pub few_calls : (m : Running) (st : State) → Refines m st → AreFew m.workers.calls
few_calls m st is = record {
  threads = λ q tid has.
      let live : is_live st q ≡ true = sym (is_live_by_thread m.input st m.workers is.workers q) ∙ ap (λ (o : Option ℕ). is_some o) has in
      let reached : Reached m.input st = reached_of m.input st is.reached in
      let posted : (head : Head) × ((st.messages q).head ≡ Some head) = live_head st q live in
      let same : posted.0.tid ≡ tid = same_Some posted.0.tid tid (sym (ap (option_map (λ (head : Head). head.tid)) posted.1) ∙ is_held_by m.input st m.workers is.workers q tid has) in
      let holding : IsHolding st posted.0.tid q = reached.owned.own q posted.0 live posted.1 in
      let thread : IsThread m.input posted.0.tid = reached.whole.calls.started posted.0.tid holding.started in
      let low = thread.0 in
      let high = thread.1 in
      let few = is.reached.startable.few_threads in
      (omega (arith, low, same), omega (arith, high, same, few));
  workers = let few = is.reached.startable.few_workers in let same = is.workers.workers in omega (arith, few, same);
}
