use Rattle.std.proofs.Common.{◌≡◌, ◌<◌, ◌∙◌, ap, subst, sym}
use Rattle.st_wordmem.specs.Memory.{memory_in, memory_of, SeatOf}
use Rattle.st_wordmem.proofs.SeatStates.{thread_state}
use Rattle.st_wordmem.proofs.WordSteps.{loads}
use Rattle.st_wordmem.proofs.memory.WordMem.load.Goals as goal

pub load-requires : goal.load-requires
load-requires c =
    let shared = c.self.inside.table.shared in
    let seat = c.seat.inside.seat in
    let same : memory_in seat.table_id seat.me.0 ≡ memory_of shared.table_id shared.key.start.value shared.key.pid = ap (λ (s : SeatOf). s.memory) c.seat.view_is ∙ c.requires.memory ∙ sym c.self.view_is in
    let is = thread_state seat.table_id seat.me.0 _ c.seat.invariant.0 same in (
      is.0,
      subst (λ n. c.args.place < n) (sym c.self.invariant.0) c.requires.place,
      loads shared.key.start.value shared.key.pid _ _ c.args.place seat.me,
    )
