use Rattle.std.proofs.Common.{◌++◌, ◌∷◌, [], ℕ, List, sym, subst}
use Rattle.st_translate.specs.Stage.{Reaches}
use Rattle.st_translate.specs.declared.stage.Stage.{Stage}
use Rattle.st_translate.proofs.stage.Stage.take.Goals as goal

pub returns-in-Text-clause-stage : goal.returns-in-Text-clause-stage
returns-in-Text-clause-stage c = λ kind at words r.
    subst (λ (text : List ℕ). Reaches kind at (words ++ c.args.word ∷ []) text c.after_text.result) (sym c.push_letters-letters.ensures.bytes)
    (c.after_text.ensures kind at c.args.word words c.args.text.now.items c.push_letters-letters.ensures.count c.push_letters-letters.ensures.ended
    (subst (λ (stage : Stage). Reaches kind at words c.args.text.now.items stage) c.in-Text.is r).1)

pub returns-in-Pointer-clause-stage : goal.returns-in-Pointer-clause-stage
returns-in-Pointer-clause-stage c = λ kind at words r.
    subst (λ (text : List ℕ). Reaches kind at (words ++ c.args.word ∷ []) text c.after_pointer.result) (sym c.push_blank.ensures.bytes)
    (c.after_pointer.ensures kind at words c.args.text.now.items
    (subst (λ (stage : Stage). Reaches kind at words c.args.text.now.items stage) c.in-Pointer.is r).1)

pub returns-in-Part-clause-stage : goal.returns-in-Part-clause-stage
returns-in-Part-clause-stage c = λ kind at words r.
    subst (λ (text : List ℕ). Reaches kind at (words ++ c.args.word ∷ []) text c.after_part.result) (sym c.push_letters-letters-in-Part.ensures.bytes)
    (c.after_part.ensures kind at c.args.word words c.args.text.now.items c.push_letters-letters-in-Part.ensures.count c.push_letters-letters-in-Part.ensures.ended
    (subst (λ (stage : Stage). Reaches kind at words c.args.text.now.items stage) c.in-Part.is r).1)
