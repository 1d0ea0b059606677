use Rattle.std.proofs.Common.{◌≡◌, ◌≤◌, ◌-◌, ◌∙◌, arith, length, set, Some, ap, refl, sym, subst}
use Rattle.st_lookaside.proofs.Turns.{both_ok, on_err, on_ok}
use Rattle.st_workers.specs.Refinement.{RepresentsMessages, AreValidWorkers, SameWorkersState}
use Rattle.st_workers.specs.Tasks.{task_of, IsCopy}
use Rattle.st_workers.specs.UnderWay.{turn_of_worker, UnderWay}
use Rattle.st_workers.specs.declared.turn.Turn.TheVariants.{Working}
use Rattle.st_workers.proofs.Same.{stands_by, whole_by}
use Rattle.st_workers.proofs.Taken.{both_err, copied_follows, copied_whole, either_way, put_again}
use Rattle.st_workers.proofs.Turns.{number_within, read_is}
use Rattle.st_workers.specs.Numbers.{AreNumbered}
use Rattle.st_workers.proofs.Numbered.{same_numbered}
use Rattle.st_workers.proofs.workers.Workers.copy.Goals as goal

pub index_mut-turn-requires : goal.index_mut-turn-requires
index_mut-turn-requires c =
    let old : UnderWay = record { calls = c.self.inside.messages; slots = c.self.inside.slots; turns = c.self.inside.turns.items } in
    let within : (1 ≤ c.args.worker) × (c.args.worker ≤ length old.turns) =
    number_within old.turns c.args.worker (Working c.drawing_at-drawing.result) (ap (λ (k : UnderWay). turn_of_worker k c.args.worker) c.self.view_is ∙ c.drawing_at-drawing.ensures) in
    omega (arith, within.0, within.1)

pub take_word-requires-clause-turn : goal.take_word-requires-clause-turn
take_word-requires-clause-turn c =
    read_is c.self.inside.turns.items c.args.worker (Working c.drawing_at-drawing.result) c.index_mut-turn.result.now (ap (λ (k : UnderWay). turn_of_worker k c.args.worker) c.self.view_is ∙ c.drawing_at-drawing.ensures) c.index_mut-turn.ensures.value

pub invariant_of-self : goal.invariant_of-self
invariant_of-self c =
    let old : UnderWay = record { calls = c.self.inside.messages; slots = c.self.inside.slots; turns = c.self.inside.turns.items } in
    let new : UnderWay = record { calls = c.self.inside.messages; slots = c.take_word.new.slots; turns = set c.self.inside.turns.items (c.args.worker - 1) c.take_word.new.turn } in
    let working : turn_of_worker old c.args.worker ≡ Some (Working c.drawing_at-drawing.result) = ap (λ (k : UnderWay). turn_of_worker k c.args.worker) c.self.view_is ∙ c.drawing_at-drawing.ensures in
    either_way c.take_word.result _ _ (AreValidWorkers new × AreNumbered new)
    (λ both. copied_whole old new c.args.worker c.drawing_at-drawing.result c.take_word.new.turn working c.self.invariant.0 refl refl c.args.word both.0 both.1
    (subst (λ (k : UnderWay). IsCopy (task_of k c.args.worker)) (sym c.self.view_is) c.requires) c.self.invariant.1)
    (λ both.
    let turns = put_again old new c.args.worker (Working c.drawing_at-drawing.result) c.index_mut-turn.result.now c.take_word.new.turn working c.index_mut-turn.ensures.value both.1 refl in
    (whole_by old new refl both.0 turns c.self.invariant.0, same_numbered old new refl both.0 turns c.self.invariant.1))
    (both_ok c.take_word.result _ _ c.take_word.ensures.slot c.take_word.ensures.turn)
    (both_err c.take_word.result _ _ c.take_word.ensures.err c.take_word.ensures.stays)

pub returns-clause-kept : goal.returns-clause-kept
returns-clause-kept c =
    let old : UnderWay = record { calls = c.self.inside.messages; slots = c.self.inside.slots; turns = c.self.inside.turns.items } in
    let new : UnderWay = record { calls = c.self.inside.messages; slots = c.take_word.new.slots; turns = set c.self.inside.turns.items (c.args.worker - 1) c.take_word.new.turn } in
    let working : turn_of_worker old c.args.worker ≡ Some (Working c.drawing_at-drawing.result) = ap (λ (k : UnderWay). turn_of_worker k c.args.worker) c.self.view_is ∙ c.drawing_at-drawing.ensures in
    on_ok c.take_word.result _ _
    (λ both drawing pid part place asked i st alive kept.
    copied_follows old new c.args.worker c.drawing_at-drawing.result c.take_word.new.turn working c.self.invariant.0 refl refl c.args.word both.0 both.1 drawing pid part place
    (ap (λ (k : UnderWay). task_of k c.args.worker) c.self.view_is ∙ asked) i st alive (subst (λ (k : UnderWay). RepresentsMessages i st alive k) (sym c.self.view_is) kept))
    (both_ok c.take_word.result _ _ c.take_word.ensures.slot c.take_word.ensures.turn)

pub returns-clause-err : goal.returns-clause-err
returns-clause-err c =
    let old : UnderWay = record { calls = c.self.inside.messages; slots = c.self.inside.slots; turns = c.self.inside.turns.items } in
    let new : UnderWay = record { calls = c.self.inside.messages; slots = c.take_word.new.slots; turns = set c.self.inside.turns.items (c.args.worker - 1) c.take_word.new.turn } in
    let working : turn_of_worker old c.args.worker ≡ Some (Working c.drawing_at-drawing.result) = ap (λ (k : UnderWay). turn_of_worker k c.args.worker) c.self.view_is ∙ c.drawing_at-drawing.ensures in
    on_err c.take_word.result _ _
    (λ both. subst (λ (k : UnderWay). SameWorkersState k new) c.self.view_is (stands_by old new refl both.0 (put_again old new c.args.worker (Working c.drawing_at-drawing.result) c.index_mut-turn.result.now c.take_word.new.turn working c.index_mut-turn.ensures.value both.1 refl)))
    (both_err c.take_word.result _ _ c.take_word.ensures.err c.take_word.ensures.stays)
