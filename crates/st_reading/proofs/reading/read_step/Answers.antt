use Rattle.std.proofs.Common.{◌≡◌, ◌≢◌, ap, ◌∙◌, subst, [], ◌∷◌, ◌++◌, List, ℕ, refl, Ok, Err}
use Rattle.st_law.specs.declared.input.Input.{Input}
use Rattle.st_schedule.specs.Schedule.{schedule_in}
use Rattle.st_command.specs.Command.{StepWords}
use Rattle.st_command.specs.declared.command.Command.TheVariants as command
use Rattle.st_reading.specs.Ends.{EndsReading, RefusesReading}
use Rattle.st_reading.specs.Files.{Has, IsInput}
use Rattle.st_reading.specs.Meaning.{Contents, InputWords, Meaning, Means, MeansSchedule, Runs, step_input, names_to}
use Rattle.st_reading.specs.declared.reading.Reading.TheVariants as reading
use Rattle.st_reading.specs.declared.refusal.Refusal.TheVariants.{ReadFault}
use Rattle.st_reading.specs.declared.refusal.Which.TheVariants as which
use Rattle.st_reading.proofs.Fetched.{asked_more, fetch_refused_before, handed_on}
use Rattle.st_reading.proofs.Inputs.{ends_from, input_refused, last_read, last_refused}
use Rattle.st_reading.proofs.Leads.{words_at}
use Rattle.st_reading.proofs.reading.read_step.Goals as goal

-- what the text of the last file gives
abbrev gives : Input → List ℕ → Meaning
gives input text = Runs input (schedule_in text)

pub returns-in_err-input-clause-ends : goal.returns-in_err-input-clause-ends
returns-in_err-input-clause-ends g c =
    let contents = g.F.Files.contents c.args.files.now in
    let faults = g.F.Files.faults c.args.files.now in
    let old = g.F.Files.asked c.args.files.now in
    let step : StepWords = record { policies = words_at c.step.inside.policies; script = c.step.inside.script.now; schedule = c.step.inside.schedule.now; options = c.step.inside.options; print = c.step.inside.print; emulation = c.step.inside.emulation } in
    let words : InputWords = step_input step in
    let after = g.F.Files.faults c.read_input.new.files in
    let new = g.F.Files.asked c.read_input.new.files in
    handed_on (EndsReading contents (command.Step c.args.step.now) faults after old new)
    c.in_err-input.field-0.0 c.from_residual.result c.from_residual.ensures.0 c.from_residual.ensures.1
    (subst (λ (w : StepWords). RefusesReading contents (command.Step w) faults after old new c.in_err-input.field-0.0) c.step.view_is
    (input_refused contents words (MeansSchedule contents step) (Means contents (command.Step step)) (names_to (command.Step step)) faults after old new (λ o m. m) refl (λ n. refl) c.in_err-input.field-0.0
    (ends_from contents words (words_at c.as_slice.result.now) (ap words_at c.as_slice.ensures) faults after old new (Err c.in_err-input.field-0.0) c.in_err-input.ensures.ends)))

pub returns-in_err-schedule-clause-ends : goal.returns-in_err-schedule-clause-ends
returns-in_err-schedule-clause-ends g c =
    let contents = g.F.Files.contents c.args.files.now in
    let faults = g.F.Files.faults c.args.files.now in
    let old = g.F.Files.asked c.args.files.now in
    let step : StepWords = record { policies = words_at c.step.inside.policies; script = c.step.inside.script.now; schedule = c.step.inside.schedule.now; options = c.step.inside.options; print = c.step.inside.print; emulation = c.step.inside.emulation } in
    let words : InputWords = step_input step in
    let mid = g.F.Files.asked c.read_input.new.files in
    let after = g.F.Files.faults c.read_schedule_file.new.files in
    let new = g.F.Files.asked c.read_schedule_file.new.files in
    let read : IsInput contents words c.in_ok-input.input × (mid ≡ old ++ words.script ∷ words.policies) =
    ends_from contents words (words_at c.as_slice.result.now) (ap words_at c.as_slice.ensures) faults (g.F.Files.faults c.read_input.new.files) old mid (Ok c.in_ok-input.input) c.in_ok-input.ensures.ends in
    handed_on (EndsReading contents (command.Step c.args.step.now) faults after old new)
    c.in_err-schedule.field-0.0 c.from_residual-in_err-schedule.result c.from_residual-in_err-schedule.ensures.0 c.from_residual-in_err-schedule.ensures.1
    (subst (λ (w : StepWords). RefusesReading contents (command.Step w) faults after old new c.in_err-schedule.field-0.0) c.step.view_is
    (last_refused contents words step.schedule which.Schedule gives (Means contents (command.Step step)) (λ o m. m) (names_to (command.Step step)) refl faults after old new c.in_ok-input.input read.0
    (asked_more (old ++ words.script ∷ words.policies) mid new (step.schedule ∷ []) (step.schedule ∷ []) read.1 refl c.in_err-schedule.ensures.asked) c.in_err-schedule.field-0.0
    (fetch_refused_before contents (g.F.Files.contents c.read_input.new.files) step.schedule which.Schedule faults (g.F.Files.faults c.read_input.new.files) after c.in_err-schedule.field-0.0
    c.in_ok-input.ensures.contents (c.in_ok-input.ensures.quiet (λ e. cc)) c.in_err-schedule.ensures.ends)))

pub returns-in_err-schedule-clause-quiet : goal.returns-in_err-schedule-clause-quiet
returns-in_err-schedule-clause-quiet g c =
    handed_on (λ r. r ≢ Err ReadFault → g.F.Files.faults c.read_schedule_file.new.files ≡ g.F.Files.faults c.args.files.now)
    c.in_err-schedule.field-0.0 c.from_residual-in_err-schedule.result c.from_residual-in_err-schedule.ensures.0 c.from_residual-in_err-schedule.ensures.1
    (λ other. c.in_err-schedule.ensures.quiet (λ e. other (cc)) ∙ c.in_ok-input.ensures.quiet (λ e. cc))

pub returns-clause-ends : goal.returns-clause-ends
returns-clause-ends g c =
    let contents = g.F.Files.contents c.args.files.now in
    let faults = g.F.Files.faults c.args.files.now in
    let old = g.F.Files.asked c.args.files.now in
    let step : StepWords = record { policies = words_at c.step.inside.policies; script = c.step.inside.script.now; schedule = c.step.inside.schedule.now; options = c.step.inside.options; print = c.step.inside.print; emulation = c.step.inside.emulation } in
    let words : InputWords = step_input step in
    let mid = g.F.Files.asked c.read_input.new.files in
    let after = g.F.Files.faults c.read_schedule_file.new.files in
    let new = g.F.Files.asked c.read_schedule_file.new.files in
    let read : IsInput contents words c.in_ok-input.input × (mid ≡ old ++ words.script ∷ words.policies) =
    ends_from contents words (words_at c.as_slice.result.now) (ap words_at c.as_slice.ensures) faults (g.F.Files.faults c.read_input.new.files) old mid (Ok c.in_ok-input.input) c.in_ok-input.ensures.ends in
    let has : Has (contents step.schedule) (λ text. c.in_ok-schedule.schedule ≡ schedule_in text) = subst (λ (x : Contents). Has (x step.schedule) (λ text. c.in_ok-schedule.schedule ≡ schedule_in text)) c.in_ok-input.ensures.contents c.in_ok-schedule.ensures.ends in
    let meaning : Meaning = Runs c.in_ok-input.input c.in_ok-schedule.schedule in
    subst (λ (w : StepWords). EndsReading contents (command.Step w) faults after old new (Ok (reading.Run c.in_ok-input.input c.in_ok-schedule.schedule))) c.step.view_is
    (last_read contents words step.schedule which.Schedule gives (Means contents (command.Step step)) (λ o m. m) (names_to (command.Step step)) refl old new c.in_ok-input.input read.0
    (asked_more (old ++ words.script ∷ words.policies) mid new (step.schedule ∷ []) (step.schedule ∷ []) read.1 refl c.in_ok-schedule.ensures.asked) meaning
    (record { text = has.text; content = has.content; within = has.within; says = ap (Runs c.in_ok-input.input) has.says }))
