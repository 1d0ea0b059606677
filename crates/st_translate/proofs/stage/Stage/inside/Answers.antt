use Rattle.std.proofs.Common.{◌∙◌, sym, arith}
use Rattle.st_translate.proofs.Stages.{inside, outside, same_place}
use Rattle.st_translate.proofs.stage.Stage.inside.Goals as goal

pub returns-in_default : goal.returns-in_default
returns-in_default c = λ kind at words text r.
    inside kind at words text c.args.self (λ place e. absurd (c.in_default.not-Some place (c.place.ensures text ∙ e))) c.requires r

pub returns-then-place-lt-SPACE_WORDS : goal.returns-then-place-lt-SPACE_WORDS
returns-then-place-lt-SPACE_WORDS c = λ kind at words text r.
    inside kind at words text c.args.self (λ place e.
    let same = same_place c.in-Some.place place (sym c.in-Some.is ∙ c.place.ensures text ∙ e) in
    let near = c.if-place-lt-SPACE_WORDS.true in
    omega (arith, same, near)) c.requires r

pub returns-else-place-lt-SPACE_WORDS : goal.returns-else-place-lt-SPACE_WORDS
returns-else-place-lt-SPACE_WORDS c = λ kind at words text r.
    outside kind at words text c.args.self c.in-Some.place (sym (c.place.ensures text) ∙ c.in-Some.is) c.if-place-lt-SPACE_WORDS.false c.requires r
