use Rattle.std.proofs.Common.{◌≡◌, ◌∙◌, ap, arith, subst, sym}
use Rattle.atomic_table.specs.Table.{Splits}
use Rattle.st_law.specs.Loaded.{process_by_script}
use Rattle.st_wordmem.specs.Memory.{memory_in, memory_of, next_in, MemoryOf, RootOf}
use Rattle.st_wordmem.specs.Rule.{root_after, seat_of_next, Kept}
use Rattle.st_wordmem.specs.declared.seat_state.SeatState.{SeatState}
use Rattle.st_wordmem.proofs.SeatStates.{root_state}
use Rattle.st_wordmem.proofs.WordSteps.{splits}
use Rattle.st_wordmem.proofs.memory.WordMem.seat.Goals as goal

pub split_seat-requires : goal.split_seat-requires
split_seat-requires c =
    let shared = c.self.inside.table.shared in
    let root = c.root.inside.seat in
    let same : memory_in root.table_id root.me.0 ≡ memory_of shared.table_id shared.key.start.value shared.key.pid = ap (λ (r : RootOf). r.memory) c.root.view_is ∙ c.requires.memory ∙ sym c.self.view_is in
    let some : process_by_script shared.key.start.value (next_in root.me.0) ≡ shared.key.pid = subst (λ (z : MemoryOf × RootOf). process_by_script z.0.start z.1.next ≡ z.0.pid) (λ k. (sym c.self.view_is k, sym c.root.view_is k)) c.requires.some in
    let is = root_state root.table_id root.me.0 _ c.root.invariant.0 same in (
      is.0,
      omega (arith, c.self.invariant.0),
      subst (λ (v : SeatState). Splits (Kept shared.key.start.value shared.key.pid) root.id v (root_after v) (seat_of_next v)) (sym is.1)
          (splits shared.key.start.value shared.key.pid root.id (next_in root.me.0) some),
    )
