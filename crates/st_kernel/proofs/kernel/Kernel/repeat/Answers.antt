use Rattle.std.proofs.Common.{◌≡◌, ◌∙◌, Err, Some, ap, sym}
use Rattle.std.proofs.lemmas.Option.{none-some, same_Some}
use Rattle.std.specs.Option.{option_map}
use Rattle.st_trace.specs.declared.entry.Entry.{Entry}
use Rattle.st_law.specs.Machine.{entry_of}
use Rattle.st_kernel.specs.declared.kernel.StepFault.TheVariants.{NotEnabled}
use Rattle.st_kernel.specs.Kernel.{RunSoFar, numbered_next, state_in}
use Rattle.st_kernel.proofs.Plays.{came_from, continues_by, continues_on, noted_on, round_further, round_stuck}
use Rattle.st_kernel.proofs.kernel.Kernel.repeat.Goals as goal

pub returns-in_err-advance-clause-not_enabled : goal.returns-in_err-advance-clause-not_enabled
returns-in_err-advance-clause-not_enabled g c = λ is.
    sym c.loop.invariant.left ∙ round_stuck c.loop.self c.args.repeat.choice c.args.repeat.times c.loop.counter c.loop-test.true c.args.self.now.input c.loop.invariant.input
    (c.in_err-advance.ensures.not_enabled (ap Err (came_from c.in_err-advance.field-0.0 NotEnabled c.from_residual.result c.from_residual.ensures.0 c.from_residual.ensures.1 is)))

-- a choice that is enabled adds an entry
pub unreachable-requires : goal.unreachable-requires
unreachable-requires g c = none-some (numbered_next c.loop.self c.in_ok-advance.ensures.enabled.0) (sym c.in_default.is ∙ c.in_ok-advance.ensures.entry ∙ ap (option_map (numbered_next c.loop.self)) c.in_ok-advance.ensures.enabled.1)

pub returns-in_err-note-clause-made : goal.returns-in_err-note-clause-made
returns-in_err-note-clause-made g c = continues_on c.args.self.now c.loop.self c.advance.new.self c.loop.invariant.made (continues_by c.loop.self c.args.repeat.choice c.advance.new.self c.in_ok-advance.ensures.ok)

pub loop-preserved : goal.loop-preserved
loop-preserved g c =
    let end = c.in_ok-advance.ensures in
    let e : Entry = end.enabled.0 in
    let adds : entry_of c.loop.self.input (state_in c.loop.self) c.args.repeat.choice ≡ Some e = end.enabled.1 in
    let its : numbered_next c.loop.self e ≡ c.in-Some.entry = same_Some (numbered_next c.loop.self e) c.in-Some.entry (sym (end.entry ∙ ap (option_map (numbered_next c.loop.self)) adds) ∙ c.in-Some.is) in
    record {
      made = continues_on c.args.self.now c.loop.self c.advance.new.self c.loop.invariant.made (continues_by c.loop.self c.args.repeat.choice c.advance.new.self end.ok);
      input = ap (λ (so_far : RunSoFar). so_far.input) end.ok ∙ c.loop.invariant.input;
      noted = λ x. noted_on (g.R.Recorder.has_noted c.loop.recorder) (g.R.Recorder.has_noted c.note.new.self) c.loop.self c.args.repeat.choice e c.in-Some.entry c.advance.new.self c.input.result.now c.session.result.now.filters end.ok c.input.ensures c.session.ensures.filters adds its c.in_ok-note.ensures (c.loop.invariant.noted x);
      left = round_further c.loop.self c.args.repeat.choice c.args.repeat.times c.loop.counter c.loop-test.true c.args.self.now.input c.loop.invariant.input c.advance.new.self e end.ok adds ∙ c.loop.invariant.left;
    }
