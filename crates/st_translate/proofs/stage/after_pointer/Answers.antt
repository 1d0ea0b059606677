use Rattle.std.proofs.Common.{◌<◌, ◌≤◌, ◌+◌, ◌/◌, arith}
use Rattle.st_model.specs.declared.limits.TheConstants.{SPACE_WORDS}
use Rattle.st_translate.proofs.Vectors.{part_begins}
use Rattle.st_translate.proofs.stage.after_pointer.Goals as goal

pub returns-else-word-ge-SPACE_BYTES : goal.returns-else-word-ge-SPACE_BYTES
returns-else-word-ge-SPACE_BYTES c = λ kind at words text r.
    let near : c.args.word / 8 < SPACE_WORDS = (let inside = c.if-word-ge-SPACE_BYTES.false in omega (arith, inside)) in
    let some : 0 < c.args.word = (let other = c.if-word-eq0.false in omega (arith, other)) in
    let few = c.if-vector-ge-ARGV_PARTS.false in
    let here : (c.args.vector.pointer + 8) / 8 ≤ SPACE_WORDS = (let asked = c.requires.0 in omega (arith, asked)) in
    ((near, (few, here, c.requires.1.1)), part_begins r c.args.word some few)
