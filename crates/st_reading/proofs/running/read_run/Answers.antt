use Rattle.std.proofs.Common.{ap, subst}
use Rattle.st_command.specs.Command.{RunWords}
use Rattle.st_reading.specs.RunMeaning.{EndsReadingRun, run_input}
use Rattle.st_reading.proofs.Inputs.{ends_from}
use Rattle.st_reading.proofs.Leads.{words_at}
use Rattle.st_reading.proofs.RunMeanings.{run_ends}
use Rattle.st_reading.proofs.running.read_run.Goals as goal

pub returns-clause-ends : goal.returns-clause-ends
returns-clause-ends g c =
    let contents = g.F.Files.contents c.args.files.now in
    let faults = g.F.Files.faults c.args.files.now in
    let old = g.F.Files.asked c.args.files.now in
    let run : RunWords = record { policies = words_at c.run.inside.policies; script = c.run.inside.script.now; options = c.run.inside.options; print = c.run.inside.print; emulation = c.run.inside.emulation } in
    let after = g.F.Files.faults c.read_input.new.files in
    let new = g.F.Files.asked c.read_input.new.files in
    subst (λ (r : RunWords). EndsReadingRun contents r faults after old new c.read_input.result) c.run.view_is
    (run_ends contents run faults after old new c.read_input.result
    (ends_from contents (run_input run) (words_at c.as_slice.result.now) (ap words_at c.as_slice.ensures) faults after old new c.read_input.result c.read_input.ensures.ends))
