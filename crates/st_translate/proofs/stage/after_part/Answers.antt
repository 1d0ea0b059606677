use Rattle.std.proofs.Common.{◌∙◌, sym, arith}
use Rattle.st_translate.proofs.Vectors.{part_ends, part_further}
use Rattle.st_translate.proofs.stage.after_part.Goals as goal

pub returns-then-ended : goal.returns-then-ended
returns-then-ended c = λ kind at word words text count ended r.
    let few = c.if-bytes-gt-ARGV_BYTES.false in
    c.inside.ensures kind at _ _
    (rw count (part_ends r word (sym ended ∙ c.if-ended.true) (omega (arith, count, few))))

pub returns-else-ended : goal.returns-else-ended
returns-else-ended c = λ kind at word words text count ended r.
    let few = c.if-bytes-gt-ARGV_BYTES.false in
    c.inside-else-ended.ensures kind at _ _
    (rw (c.next_word_byte-next.ensures, count) (part_further r word (sym ended ∙ c.if-ended.false) (omega (arith, count, few))))
