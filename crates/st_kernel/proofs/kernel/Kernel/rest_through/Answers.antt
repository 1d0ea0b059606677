use Rattle.std.proofs.Common.{◌≡◌, ◌∙◌, Some, true, false, ap, sym, subst}
use Rattle.std.proofs.lemmas.Option.{none-some, same_Some}
use Rattle.st_law.specs.Machine.{entry_of}
use Rattle.st_kernel.specs.Kernel.{IsNextEntry, IsPlayed, next_enabled, numbered_next, state_in}
use Rattle.st_kernel.proofs.Plays.{noted_on}
use Rattle.st_kernel.proofs.Rests.{GoesOn, goes_on, made_on, next_adds, rest_over, settled_at}
use Rattle.st_kernel.proofs.kernel.Kernel.rest_through.Goals as goal

-- a choice that was made adds an entry
pub unreachable-requires : goal.unreachable-requires
unreachable-requires g c =
    let made : IsNextEntry c.loop-added.self true c.make_next.new.added c.make_next.new.self = subst (λ made. IsNextEntry c.loop-added.self made c.make_next.new.added c.make_next.new.self) c.if-branch.true c.in_ok-make_next.ensures.made in
    none-some (numbered_next c.loop-added.self made.0) (sym c.in_default.is ∙ made.2)

pub loop-added-smaller : goal.loop-added-smaller
loop-added-smaller g c =
    let made : IsNextEntry c.loop-added.self true c.make_next.new.added c.make_next.new.self = subst (λ made. IsNextEntry c.loop-added.self made c.make_next.new.added c.make_next.new.self) c.if-branch.true c.in_ok-make_next.ensures.made in
    (goes_on c.loop-added.self c.make_next.new.self c.make_next.new.added c.make_next.ensures.played made).less

pub loop-added-preserved : goal.loop-added-preserved
loop-added-preserved g c =
    let made : IsNextEntry c.loop-added.self true c.make_next.new.added c.make_next.new.self = subst (λ made. IsNextEntry c.loop-added.self made c.make_next.new.added c.make_next.new.self) c.if-branch.true c.in_ok-make_next.ensures.made in
    let goes : GoesOn c.loop-added.self c.make_next.new.self = goes_on c.loop-added.self c.make_next.new.self c.make_next.new.added c.make_next.ensures.played made in
    let same : numbered_next c.loop-added.self made.0 ≡ c.in-Some.entry = same_Some (numbered_next c.loop-added.self made.0) c.in-Some.entry (sym made.2 ∙ c.in-Some.is) in
    let adds : entry_of c.loop-added.self.input (state_in c.loop-added.self) made.1 ≡ Some made.0 = next_adds c.loop-added.self made.0 made.1 made.3 in
    record {
      on_the_way = goes.on_the_way ∙ c.loop-added.invariant.on_the_way;
      made = made_on _ c.loop-added.self c.make_next.new.self c.loop-added.invariant.made goes;
      noted = λ x. noted_on (g.R.Recorder.has_noted c.loop-added.recorder) (g.R.Recorder.has_noted c.note.new.self) c.loop-added.self made.1 made.0 c.in-Some.entry c.make_next.new.self c.input.result.now c.session.result.now.filters made.4 c.input.ensures c.session.ensures.filters adds same
          c.in_ok-note.ensures (c.loop-added.invariant.noted x);
    }

pub returns-in_err-note-clause-on_the_way : goal.returns-in_err-note-clause-on_the_way
returns-in_err-note-clause-on_the_way g c =
    let made : IsNextEntry c.loop-added.self true c.make_next.new.added c.make_next.new.self = subst (λ made. IsNextEntry c.loop-added.self made c.make_next.new.added c.make_next.new.self) c.if-branch.true c.in_ok-make_next.ensures.made in
    (goes_on c.loop-added.self c.make_next.new.self c.make_next.new.added c.make_next.ensures.played made).on_the_way ∙ c.loop-added.invariant.on_the_way

pub returns-in_err-note-clause-made : goal.returns-in_err-note-clause-made
returns-in_err-note-clause-made g c =
    let made : IsNextEntry c.loop-added.self true c.make_next.new.added c.make_next.new.self = subst (λ made. IsNextEntry c.loop-added.self made c.make_next.new.added c.make_next.new.self) c.if-branch.true c.in_ok-make_next.ensures.made in
    made_on _ c.loop-added.self c.make_next.new.self c.loop-added.invariant.made (goes_on c.loop-added.self c.make_next.new.self c.make_next.new.added c.make_next.ensures.played made)

pub returns-clause-ok : goal.returns-clause-ok
returns-clause-ok g c =
    let none : IsNextEntry c.loop-added.self false c.make_next.new.added c.make_next.new.self = subst (λ made. IsNextEntry c.loop-added.self made c.make_next.new.added c.make_next.new.self) c.if-branch.false c.in_ok-make_next.ensures.made in
    none.1 ∙ sym (rest_over c.loop-added.self none.0) ∙ c.loop-added.invariant.on_the_way

pub returns-clause-settled : goal.returns-clause-settled
returns-clause-settled g c =
    let none : IsNextEntry c.loop-added.self false c.make_next.new.added c.make_next.new.self = subst (λ made. IsNextEntry c.loop-added.self made c.make_next.new.added c.make_next.new.self) c.if-branch.false c.in_ok-make_next.ensures.made in
    settled_at c.make_next.new.self (subst IsPlayed (sym none.1) c.make_next.ensures.played) (ap next_enabled none.1 ∙ none.0)
