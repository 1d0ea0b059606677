use Rattle.std.proofs.Common.{◌∙◌, true, false, subst}
use Rattle.std.proofs.lemmas.Result.{IfOk-weaker}
use Rattle.st_law.specs.State.{thread_count}
use Rattle.st_trace.specs.declared.entry.Choice.TheVariants.{Operator, Thread, Worker}
use Rattle.st_kernel.specs.Kernel.{RunSoFar, HasMadeFirstEnabled, IsChosen, IsNextEntry, state_in}
use Rattle.st_kernel.proofs.Cursors.{NoWorker, operator_next, thread_next, worker_next}
use Rattle.st_kernel.proofs.kernel.Kernel.make_next.Goals as goal

pub returns-then-branch-clause-made : goal.returns-then-branch-clause-made
returns-then-branch-clause-made c =
    thread_next c.args.self.now c.move_first.new.self c.move_first.new.added (subst (λ made. HasMadeFirstEnabled Thread (thread_count c.args.self.now.input) c.args.self.now made c.move_first.new.added c.move_first.new.self) c.if-branch.true c.in_ok-move_first.ensures.made)

pub returns-then-branch-2-clause-made : goal.returns-then-branch-2-clause-made
returns-then-branch-2-clause-made c =
    let none : HasMadeFirstEnabled Thread (thread_count c.args.self.now.input) c.args.self.now false c.move_first.new.added c.move_first.new.self = subst (λ made. HasMadeFirstEnabled Thread (thread_count c.args.self.now.input) c.args.self.now made c.move_first.new.added c.move_first.new.self) c.if-branch.false c.in_ok-move_first.ensures.made in
    let server : HasMadeFirstEnabled Worker c.move_first.new.self.input.options.workers c.move_first.new.self true c.serve_first.new.added c.serve_first.new.self = subst (λ made. HasMadeFirstEnabled Worker c.move_first.new.self.input.options.workers c.move_first.new.self made c.serve_first.new.added c.serve_first.new.self) c.if-branch-2.true c.in_ok-serve_first.ensures.made in
    worker_next c.args.self.now c.serve_first.new.self c.serve_first.new.added none.0 (subst (λ (so_far : RunSoFar). HasMadeFirstEnabled Worker so_far.input.options.workers so_far true c.serve_first.new.added c.serve_first.new.self) none.1 server)

pub returns-clause-made : goal.returns-clause-made
returns-clause-made c =
    let none : HasMadeFirstEnabled Thread (thread_count c.args.self.now.input) c.args.self.now false c.move_first.new.added c.move_first.new.self = subst (λ made. HasMadeFirstEnabled Thread (thread_count c.args.self.now.input) c.args.self.now made c.move_first.new.added c.move_first.new.self) c.if-branch.false c.in_ok-move_first.ensures.made in
    let idle : HasMadeFirstEnabled Worker c.move_first.new.self.input.options.workers c.move_first.new.self false c.serve_first.new.added c.serve_first.new.self = subst (λ made. HasMadeFirstEnabled Worker c.move_first.new.self.input.options.workers c.move_first.new.self made c.serve_first.new.added c.serve_first.new.self) c.if-branch-2.false c.in_ok-serve_first.ensures.made in
    let same = idle.1 ∙ none.1 in
    IfOk-weaker c.choose.result (λ asked. IsChosen c.serve_first.new.self Operator asked c.choose.new.added c.choose.new.self) (λ asked. IsNextEntry c.args.self.now asked c.choose.new.added c.choose.new.self)
    (λ asked chosen. operator_next c.args.self.now c.choose.new.self asked c.choose.new.added none.0 (subst (λ (so_far : RunSoFar). NoWorker so_far.input (state_in so_far)) none.1 idle.0) (subst (λ (so_far : RunSoFar). IsChosen so_far Operator asked c.choose.new.added c.choose.new.self) same chosen))
    c.choose.ensures.chosen
