use Rattle.std.proofs.Common.{◌<◌, ◌≤◌, ◌+◌, length, take, arith}
use Rattle.st_translate.specs.Stage.{most_added, most_text}
use Rattle.st_translate.proofs.Rooms.{letters_fit}
use Rattle.st_translate.proofs.Stages.{asks, further}
use Rattle.st_translate.proofs.copying.read_again.Goals as goal

pub take-requires-clause-room : goal.take-requires-clause-room
take-requires-clause-room c =
    let below : c.loop-word.word-index < length c.args.words.now = omega arith in
    let some = c.requires.asked c.loop-word.word-index below in
    let reached = c.loop-word.invariant.0 in
    let few : length c.loop-word.text.items + most_added c.loop-word.stage ≤ most_text c.args.kind = letters_fit c.args.kind c.args.at (take c.loop-word.word-index c.args.words.now) c.loop-word.text.items c.loop-word.stage reached
    (asks c.args.kind c.args.at (take c.loop-word.word-index c.args.words.now) c.loop-word.text.items c.loop-word.stage reached some) in
    let len = c.loop-word.text.ok.0 in
    let same = c.loop-word.invariant.1 in
    let cleared = c.clear.ensures.capacity in
    let room = c.requires.room in
    omega (arith, few, len, same, cleared, room)

pub loop-word-preserved : goal.loop-word-preserved
loop-word-preserved c =
    let below : c.loop-word.word-index < length c.args.words.now = omega arith in (
      further c.args.kind c.args.at c.args.words.now c.take.new.text.items c.take.new.self c.loop-word.word-index below
          (c.take.ensures.stage c.args.kind c.args.at (take c.loop-word.word-index c.args.words.now) c.loop-word.invariant.0),
      (let took = c.take.ensures.capacity in let same = c.loop-word.invariant.1 in omega (arith, took, same)),
    )
