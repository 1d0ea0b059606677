use Rattle.std.proofs.Common.{◌≡◌, ◌<◌, ◌∙◌, ap, subst, sym}
use Rattle.atomic_table.specs.Table.{step, Allows}
use Rattle.st_model.specs.declared.limits.TheConstants.{SPACE_WORDS}
use Rattle.st_law.specs.Loaded.{IsNextStore}
use Rattle.st_wordmem.specs.Memory.{made_in, memory_in, memory_of, thread_in, MemoryOf, SeatOf}
use Rattle.st_wordmem.specs.Rule.{IsStoreTold, Kept}
use Rattle.st_wordmem.specs.declared.seat_state.SeatState.{SeatState}
use Rattle.st_wordmem.proofs.SeatStates.{thread_state}
use Rattle.st_wordmem.proofs.ScriptStores.{stored_inside}
use Rattle.st_wordmem.proofs.WordSteps.{stores}
use Rattle.st_wordmem.proofs.memory.WordMem.store.Goals as goal

pub swap-requires : goal.swap-requires
swap-requires c =
    let shared = c.self.inside.table.shared in
    let seat = c.seat.inside.seat in
    let start = shared.key.start.value in
    let same : memory_in seat.table_id seat.me.0 ≡ memory_of shared.table_id start shared.key.pid = ap (λ (s : SeatOf). s.memory) c.seat.view_is ∙ c.requires.memory ∙ sym c.self.view_is in
    let next : IsNextStore start (thread_in seat.me.0) (made_in seat.me.0) c.args.place c.args.word = subst (λ (z : MemoryOf × SeatOf). IsNextStore z.0.start z.1.thread z.1.made c.args.place c.args.word) (λ k. (sym c.self.view_is k, sym c.seat.view_is k)) c.requires.next in
    let is = thread_state seat.table_id seat.me.0 _ c.seat.invariant.0 same in
    let inside : c.args.place < SPACE_WORDS = stored_inside start c.self.invariant.1 _ _ c.args.place c.args.word next in (
      is.0,
      subst (λ n. c.args.place < n) (sym c.self.invariant.0) inside,
      subst (λ (v : SeatState). Allows (Kept start shared.key.pid) shared.table_id.slots seat.id (v, seat.me.1) c.args.place (λ _. c.args.word) (IsStoreTold (step shared.table_id.slots c.args.place c.args.word 0 mathlib.Core.Option.none) (v, seat.me.1))) (sym is.1)
          (stores start shared.key.pid _ seat.id c.args.place c.args.word _ _ seat.me.1 inside next),
    )
