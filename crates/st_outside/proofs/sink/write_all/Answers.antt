use Rattle.std.proofs.Common.{◌∙◌}
use Rattle.st_outside.proofs.SinkLemmas.{Appends-more, within_more}
use Rattle.st_outside.proofs.sink.write_all.Goals as goal

pub loop-done-preserved : goal.loop-done-preserved
loop-done-preserved g c = record {
  within = within_more c.args.text.now c.loop-done.done c.in_ok-done.field-0 c.loop-done.invariant.within c.in_ok-done.ensures.within;
  appended = Appends-more _ _ _ c.args.text.now c.loop-done.done c.in_ok-done.field-0 c.loop-done.invariant.appended c.in_ok-done.ensures.taken;
  quiet = c.in_ok-done.ensures.quiet ∙ c.loop-done.invariant.quiet;
}
