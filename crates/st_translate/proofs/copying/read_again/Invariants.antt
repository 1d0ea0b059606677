use Rattle.std.proofs.Common.{◌≡◌, take, vec_capacity}
use Rattle.st_translate.specs.Stage.{Reaches}
use Rattle.st_translate.proofs.copying.read_again.Given as goal

-- the words so far have led to this stage and this text
abbrev pub invariant-loop-word : goal.invariant-loop-word
invariant-loop-word l = Reaches l.fn.kind l.at (take l.word-index l.words) l.text.items l.stage × (vec_capacity l.text ≡ vec_capacity l.initial.text)
