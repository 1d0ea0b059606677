use Rattle.std.proofs.Common.{◌≡◌, ◌∙◌, ap, arith, sym}
use Rattle.st_wordmem.specs.Memory.{memory_in, memory_of, RootOf, SeatOf}
use Rattle.st_wordmem.proofs.SeatStates.{root_state, thread_state}
use Rattle.st_wordmem.proofs.WordSteps.{joins}
use Rattle.st_wordmem.proofs.memory.WordMem.join.Goals as goal

pub join_seat-requires : goal.join_seat-requires
join_seat-requires c =
    let shared = c.self.inside.table.shared in
    let root = c.root.inside.seat in
    let seat = c.seat.inside.seat in
    let same_root : memory_in root.table_id root.me.0 ≡ memory_of shared.table_id shared.key.start.value shared.key.pid = ap (λ (r : RootOf). r.memory) c.root.view_is ∙ c.requires.root ∙ sym c.self.view_is in
    let same_seat : memory_in seat.table_id seat.me.0 ≡ memory_of shared.table_id shared.key.start.value shared.key.pid = ap (λ (s : SeatOf). s.memory) c.seat.view_is ∙ c.requires.seat ∙ sym c.self.view_is in (
      (root_state root.table_id root.me.0 _ c.root.invariant.0 same_root).0,
      (thread_state seat.table_id seat.me.0 _ c.seat.invariant.0 same_seat).0,
      c.seat.invariant.1,
      omega (arith, c.self.invariant.0),
      joins shared.key.start.value shared.key.pid _ _ _ _,
    )
