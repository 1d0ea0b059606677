use Rattle.std.proofs.Common.{true, false, sym, ◌∙◌}
use Rattle.st_glob.proofs.Fronts.{glob-fills}
use Rattle.st_glob.proofs.pattern.glob.Goals as goal

pub returns-in-Whole-clause-fills : goal.returns-in-Whole-clause-fills
returns-in-Whole-clause-fills c = glob-fills true c.args.pattern.now c.args.text.now (sym c.in-Whole.ensures.is)

pub returns-in-Differs-clause-fills : goal.returns-in-Differs-clause-fills
returns-in-Differs-clause-fills c = glob-fills false c.args.pattern.now c.args.text.now (sym c.in-Differs.ensures.is)

pub returns-in-Run-clause-fills : goal.returns-in-Run-clause-fills
returns-in-Run-clause-fills c = glob-fills c.glob_after_run.result c.args.pattern.now c.args.text.now (c.glob_after_run.ensures ∙ sym c.in-Run.ensures.is.0)
