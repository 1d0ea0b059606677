use Rattle.std.proofs.Common.{◌∙◌, sym, arith}
use Rattle.st_translate.proofs.Texts.{text_ends, text_further, text_too_long}
use Rattle.st_translate.proofs.stage.after_text.Goals as goal

pub returns-then-read-longest : goal.returns-then-read-longest
returns-then-read-longest c = λ kind at word words text count ended r.
    let long = c.if-read-longest.true in
    text_too_long r word (omega (arith, count, long))

pub returns-then-ended : goal.returns-then-ended
returns-then-ended c = λ kind at word words text count ended r.
    let short = c.if-read-longest.false in
    text_ends r word (sym ended ∙ c.if-ended.true) (omega (arith, count, short))

pub returns-else-ended : goal.returns-else-ended
returns-else-ended c = λ kind at word words text count ended r.
    c.inside.ensures kind at _ _
    (rw (c.next_word_byte-next.ensures, count) (text_further r word (sym ended ∙ c.if-ended.false)))
