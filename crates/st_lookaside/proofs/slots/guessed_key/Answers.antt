use Rattle.std.proofs.Common.{arith, refl}
use Rattle.st_lookaside.proofs.Keys.{found_among}
use Rattle.st_lookaside.proofs.slots.guessed_key.Goals as goal

pub returns-then-guessed-drawing : goal.returns-then-guessed-drawing
returns-then-guessed-drawing c =
    found_among c.args.keys.now.items c.requires c.args.drawing c.in_ok-place.place c.in_ok-guessed.guessed.now (omega (arith, c.in_ok-guessed.ensures.variant.0 refl, c.args.keys.now.ok.0)) c.in_ok-guessed.ensures.lookup c.if-guessed-drawing.true
