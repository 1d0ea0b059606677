use Rattle.std.proofs.Common.{◌≡◌, ◌∙◌, ℕ, ◌+◌, Bool, true, Option, Some, None, ap, eqb, arith, refl, sym, true≢false}
use Rattle.std.specs.Option.{option_eq, option_map}
use Rattle.std.specs.Prelude.{unwrap_or}
use Rattle.st_model.specs.Tree.{is_number}
use Rattle.st_law.specs.declared.input.Input.{Input}
use Rattle.st_law.specs.State.{worker_at}
use Rattle.st_law.proofs.Least.{IsLeast, least, least_is}
use Rattle.st_kernel.specs.Kernel.{number_now, state_in}
use Rattle.st_replay.proofs.choice.worker_numbered.Goals as goal

-- there are as many workers as the kernel's input says
workers_are : (given input : Input) → given ≡ input → given.options.workers ≡ input.options.workers
workers_are given input same = ap (λ (i : Input). i.options.workers) same

-- whether an option is that of a number
found_as : (o : Option ℕ) (n : ℕ) → option_eq eqb o (Some n) ≡ is_number n o
found_as None n = refl
found_as (Some m) n = refl

pub returns-then-eq : goal.returns-then-eq
returns-then-eq c =
    let run = c.args.kernel.now in
    let is : ℕ → Bool = λ w. is_number c.args.seq (option_map (number_now run) (worker_at (state_in run) w)) in
    let count = workers_are c.input.result.now run.input c.input.ensures in
    let low = c.loop-worker.auto.worker in
    let high = c.loop-worker-test.true in
    let holds : is c.loop-worker.worker ≡ true = ap (is_number c.args.seq) (sym c.working_on.ensures) ∙ sym (found_as c.working_on.result c.args.seq) ∙ sym c.eq.ensures ∙ c.if-eq.true in
    let x : IsLeast is 1 (1 + run.input.options.workers) c.loop-worker.worker = record { holds = holds; low = low; high = omega (arith, high, count); least = c.loop-worker.invariant } in
    sym (ap (λ (o : Option ℕ). unwrap_or o 0) (least_is is 1 run.input.options.workers c.loop-worker.worker x))

pub returns : goal.returns
returns c =
    let run = c.args.kernel.now in
    let is : ℕ → Bool = λ w. is_number c.args.seq (option_map (number_now run) (worker_at (state_in run) w)) in
    let count = workers_are c.input.result.now run.input c.input.ensures in
    let end = c.loop-worker-test.false in
    least (λ (o : Option ℕ). 0 ≡ unwrap_or o 0) is 1 run.input.options.workers
    (λ w x. absurd (true≢false (sym x.holds ∙ c.loop-worker.invariant w x.low (let high = x.high in omega (arith, high, end, count)))))
    (λ none. refl)
