use Rattle.std.proofs.Common.{◌≡◌, ◌+◌, ◌∙◌, suc, ℕ, Option, None, Some, ap, arith, sym, subst}
use Rattle.std.proofs.lemmas.Option.{slice_get-get_or}
use Rattle.st_base.specs.Numbered.{item_at_number}
use Rattle.st_workers.proofs.Turns.{number_within}
use Rattle.st_decide.specs.Machine.{Running}
use Rattle.st_decide.specs.Questions.{IsLeastAmong, IsLeastFound}
use Rattle.st_decide.proofs.Asked.{among_free, among_held, found_by, none_among}
use Rattle.st_decide.proofs.Running.{running_of}
use Rattle.st_decide.proofs.view.View.least_held_question.Goals.{in-Some, in_default}
use Rattle.st_decide.proofs.view.View.least_held_question.Goals as goal

pub loop-thread-init : goal.loop-thread-init
loop-thread-init c = none_among c.args.self.now None tt

pub loop-thread-preserved : goal.loop-thread-preserved
loop-thread-preserved c =
    let m : Running = running_of c.self.inside in
    let i = c.loop-thread.thread-index in
    let row = c.thread-item.result in
    let here : item_at_number m.threads (suc i) ≡ Some row =
    slice_get-get_or m.threads i row c.loop-thread-test.true ∙ ap Some (sym c.thread-item.is) in
    let row_is : item_at_number c.args.self.now.threads (suc i) ≡ Some row = subst (λ (k : Running). item_at_number k.threads (suc i) ≡ Some row) c.self.view_is here in
    let next : suc i ≡ i + 1 = omega arith in
    subst (λ (n : ℕ). IsLeastAmong c.args.self.now n c.match-drawing_held.least) next (elim c.match-drawing_held.branch [
      | in-Some w ↦ subst (λ (o : Option ℕ). IsLeastAmong c.args.self.now (suc i) o) (sym w.least-is)
          (among_held c.args.self.now i c.loop-thread.least c.loop-thread.invariant row row_is w.in-Some.drawing (sym c.drawing_held.ensures ∙ w.in-Some.is) w.lesser-least.result w.lesser-least.ensures)
      | in_default w ↦ subst (λ (o : Option ℕ). IsLeastAmong c.args.self.now (suc i) o) (sym w.least-is)
          (among_free c.args.self.now i c.loop-thread.least c.loop-thread.invariant row row_is (sym c.drawing_held.ensures ∙ w.in_default.is))
    ])

pub returns : goal.returns
returns c =
    let m : Running = running_of c.self.inside in
    let found : Option ℕ = c.loop-thread.least in
    let among : IsLeastAmong m c.loop-thread.thread-index found = subst (λ (k : Running). IsLeastAmong k c.loop-thread.thread-index found) (sym c.self.view_is) c.loop-thread.invariant in
    subst (λ (k : Running). IsLeastFound k found) c.self.view_is
    (found_by m c.loop-thread.thread-index found among (λ t row is. let within = (number_within m.threads t row is).1 in omega (arith, within, c.loop-thread-test.false)))
