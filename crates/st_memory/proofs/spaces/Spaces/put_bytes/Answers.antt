use Rattle.std.proofs.Common.{◌<◌, ◌≤◌, ◌+◌, ◌-◌, ◌/◌, ℕ, length, ap, refl, ◌∙◌, arith}
use Rattle.std.proofs.lemmas.Grind.{common_steps}
use Rattle.st_memory.specs.Memory.{memory_after_put, IsWritten}
use Rattle.st_memory.proofs.Steps.{on-err}
use Rattle.st_memory.proofs.Writes.{keeps-both, owns-moves, range-written, written-range}
use Rattle.st_memory.proofs.spaces.Spaces.put_bytes.Goals as goal

pub put_bytes_alone-requires-clause-live : goal.put_bytes_alone-requires-clause-live
put_bytes_alone-requires-clause-live c = c.own.ensures.spaces.1 c.args.space ∙ c.requires

pub put_bytes_alone-requires-clause-alone : goal.put_bytes_alone-requires-clause-alone
put_bytes_alone-requires-clause-alone c = λ index is x. c.in_ok-own.ensures.pages.alone index (written-range c.args.at (length c.args.bytes.now) index is) x

pub returns-in_err-own-clause-spaces : goal.returns-in_err-own-clause-spaces
returns-in_err-own-clause-spaces c = c.own.ensures.spaces

pub returns-in_err-own-clause-memory : goal.returns-in_err-own-clause-memory
returns-in_err-own-clause-memory c = λ _. let x = c.in_err-own.ensures.shared refl in (x.0, range-written c.args.at (length c.args.bytes.now) x.0 (grind (arith, common_steps)) (x.1, x.2), x.3)

pub returns-in_err-own-clause-err : goal.returns-in_err-own-clause-err
returns-in_err-own-clause-err c = on-err c.from_residual.result c.in_err-own.ensures.err

pub returns-clause-ok : goal.returns-clause-ok
returns-clause-ok c = λ s b. c.put_bytes_alone.ensures.bytes s b ∙ ap (λ (m : ℕ → ℕ → ℕ). memory_after_put m c.args.space c.args.at c.args.bytes.now s b) (λ i t k. c.own.ensures.bytes t k i)

pub returns-clause-spaces : goal.returns-clause-spaces
returns-clause-spaces c = keeps-both c.args.self.now c.own.new.self c.put_bytes_alone.new.self c.own.ensures.spaces c.put_bytes_alone.ensures.spaces

pub returns-clause-pages : goal.returns-clause-pages
returns-clause-pages c = owns-moves c.args.self.now c.own.new.self c.put_bytes_alone.new.self c.args.space (λ index. (c.args.at / 4096 ≤ index) × (index < (c.args.at + length c.args.bytes.now - 1) / 4096 + 1)) (IsWritten c.args.at (length c.args.bytes.now)) c.in_ok-own.ensures.pages c.put_bytes_alone.ensures.numbers (written-range c.args.at (length c.args.bytes.now)) (λ i range. range-written c.args.at (length c.args.bytes.now) i (grind (arith, common_steps)) range)
