use Rattle.std.proofs.Common.{◌≡◌, ◌<◌, ◌≤◌, ◌+◌, ◌/◌, ℕ, ap, subst, refl, ◌∙◌, arith}
use Rattle.st_memory.specs.Memory.{memory_after_store, IsPageShared}
use Rattle.st_memory.proofs.Steps.{on-err}
use Rattle.st_memory.proofs.Writes.{keeps-both, owns-moves}
use Rattle.st_memory.proofs.spaces.Spaces.put_word.Goals as goal

pub put_word_alone-requires-clause-live : goal.put_word_alone-requires-clause-live
put_word_alone-requires-clause-live c = c.own.ensures.spaces.1 c.args.space ∙ c.requires

pub put_word_alone-requires-clause-alone : goal.put_word_alone-requires-clause-alone
put_word_alone-requires-clause-alone c = λ x. c.in_ok-own.ensures.pages.alone (c.args.place / 512) (omega arith, omega arith) x

pub returns-in_err-own-clause-spaces : goal.returns-in_err-own-clause-spaces
returns-in_err-own-clause-spaces c = c.own.ensures.spaces

pub returns-in_err-own-clause-memory : goal.returns-in_err-own-clause-memory
returns-in_err-own-clause-memory c = λ _. let x = c.in_err-own.ensures.shared refl in subst (IsPageShared c.args.self.now c.args.space) (let e : x.0 ≡ c.args.place / 512 = omega (arith, x.1, x.2) in e) x.3

pub returns-in_err-own-clause-err : goal.returns-in_err-own-clause-err
returns-in_err-own-clause-err c = on-err c.from_residual.result c.in_err-own.ensures.err

pub returns-clause-ok : goal.returns-clause-ok
returns-clause-ok c = λ s b. c.put_word_alone.ensures.bytes s b ∙ ap (λ (m : ℕ → ℕ → ℕ). memory_after_store m c.args.space c.args.place c.args.word s b) (λ i t k. c.own.ensures.bytes t k i)

pub returns-clause-spaces : goal.returns-clause-spaces
returns-clause-spaces c = keeps-both c.args.self.now c.own.new.self c.put_word_alone.new.self c.own.ensures.spaces c.put_word_alone.ensures.spaces

pub returns-clause-pages : goal.returns-clause-pages
returns-clause-pages c = owns-moves c.args.self.now c.own.new.self c.put_word_alone.new.self c.args.space (λ index. (c.args.place / 512 ≤ index) × (index < c.args.place / 512 + 1)) (λ index. index ≡ c.args.place / 512) c.in_ok-own.ensures.pages c.put_word_alone.ensures.numbers (λ i e. (omega (arith, e), omega (arith, e))) (λ i range. omega (arith, range.0, range.1))
