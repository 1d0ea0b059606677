use Rattle.std.proofs.Common.{◌≡◌, ◌≢◌, ap, ◌∙◌, subst, [], ◌∷◌, ◌++◌, List, ℕ, refl, Ok, Err}
use Rattle.st_law.specs.declared.input.Input.{Input}
use Rattle.st_command.specs.Command.{ReplayWords}
use Rattle.st_command.specs.declared.command.Command.TheVariants as command
use Rattle.st_reading.specs.Ends.{EndsReading, RefusesReading}
use Rattle.st_reading.specs.Files.{Has, IsInput}
use Rattle.st_reading.specs.Meaning.{Contents, InputWords, Meaning, Means, MeansTrace, Replays, replay_input, names_to}
use Rattle.st_reading.specs.declared.reading.Reading.TheVariants as reading
use Rattle.st_reading.specs.declared.refusal.Refusal.TheVariants.{ReadFault}
use Rattle.st_reading.specs.declared.refusal.Which.TheVariants as which
use Rattle.st_reading.proofs.Fetched.{asked_more, fetch_refused_before, handed_on}
use Rattle.st_reading.proofs.Inputs.{ends_from, input_refused, last_read, last_refused}
use Rattle.st_reading.proofs.Leads.{words_at}
use Rattle.st_reading.proofs.reading.read_replay.Goals as goal

-- what the text of the last file gives
abbrev gives : Input → List ℕ → Meaning
gives input text = Replays input text

pub returns-in_err-input-clause-ends : goal.returns-in_err-input-clause-ends
returns-in_err-input-clause-ends g c =
    let contents = g.F.Files.contents c.args.files.now in
    let faults = g.F.Files.faults c.args.files.now in
    let old = g.F.Files.asked c.args.files.now in
    let replay : ReplayWords = record { policies = words_at c.replay.inside.policies; script = c.replay.inside.script.now; trace = c.replay.inside.trace.now; options = c.replay.inside.options; emulation = c.replay.inside.emulation } in
    let words : InputWords = replay_input replay in
    let after = g.F.Files.faults c.read_input.new.files in
    let new = g.F.Files.asked c.read_input.new.files in
    handed_on (EndsReading contents (command.Replay c.args.replay.now) faults after old new)
    c.in_err-input.field-0.0 c.from_residual.result c.from_residual.ensures.0 c.from_residual.ensures.1
    (subst (λ (w : ReplayWords). RefusesReading contents (command.Replay w) faults after old new c.in_err-input.field-0.0) c.replay.view_is
    (input_refused contents words (MeansTrace contents replay) (Means contents (command.Replay replay)) (names_to (command.Replay replay)) faults after old new (λ o m. m) refl (λ n. refl) c.in_err-input.field-0.0
    (ends_from contents words (words_at c.as_slice.result.now) (ap words_at c.as_slice.ensures) faults after old new (Err c.in_err-input.field-0.0) c.in_err-input.ensures.ends)))

pub returns-in_err-trace-clause-ends : goal.returns-in_err-trace-clause-ends
returns-in_err-trace-clause-ends g c =
    let contents = g.F.Files.contents c.args.files.now in
    let faults = g.F.Files.faults c.args.files.now in
    let old = g.F.Files.asked c.args.files.now in
    let replay : ReplayWords = record { policies = words_at c.replay.inside.policies; script = c.replay.inside.script.now; trace = c.replay.inside.trace.now; options = c.replay.inside.options; emulation = c.replay.inside.emulation } in
    let words : InputWords = replay_input replay in
    let mid = g.F.Files.asked c.read_input.new.files in
    let after = g.F.Files.faults c.fetch_trace.new.files in
    let new = g.F.Files.asked c.fetch_trace.new.files in
    let read : IsInput contents words c.in_ok-input.input × (mid ≡ old ++ words.script ∷ words.policies) =
    ends_from contents words (words_at c.as_slice.result.now) (ap words_at c.as_slice.ensures) faults (g.F.Files.faults c.read_input.new.files) old mid (Ok c.in_ok-input.input) c.in_ok-input.ensures.ends in
    handed_on (EndsReading contents (command.Replay c.args.replay.now) faults after old new)
    c.in_err-trace.field-0.0 c.from_residual-in_err-trace.result c.from_residual-in_err-trace.ensures.0 c.from_residual-in_err-trace.ensures.1
    (subst (λ (w : ReplayWords). RefusesReading contents (command.Replay w) faults after old new c.in_err-trace.field-0.0) c.replay.view_is
    (last_refused contents words replay.trace which.Trace gives (Means contents (command.Replay replay)) (λ o m. m) (names_to (command.Replay replay)) refl faults after old new c.in_ok-input.input read.0
    (asked_more (old ++ words.script ∷ words.policies) mid new (replay.trace ∷ []) (replay.trace ∷ []) read.1 refl c.in_err-trace.ensures.asked) c.in_err-trace.field-0.0
    (fetch_refused_before contents (g.F.Files.contents c.read_input.new.files) replay.trace which.Trace faults (g.F.Files.faults c.read_input.new.files) after c.in_err-trace.field-0.0
    c.in_ok-input.ensures.contents (c.in_ok-input.ensures.quiet (λ e. cc)) c.in_err-trace.ensures.ends)))

pub returns-in_err-trace-clause-quiet : goal.returns-in_err-trace-clause-quiet
returns-in_err-trace-clause-quiet g c =
    handed_on (λ r. r ≢ Err ReadFault → g.F.Files.faults c.fetch_trace.new.files ≡ g.F.Files.faults c.args.files.now)
    c.in_err-trace.field-0.0 c.from_residual-in_err-trace.result c.from_residual-in_err-trace.ensures.0 c.from_residual-in_err-trace.ensures.1
    (λ other. c.in_err-trace.ensures.quiet (λ e. other (cc)) ∙ c.in_ok-input.ensures.quiet (λ e. cc))

pub returns-clause-ends : goal.returns-clause-ends
returns-clause-ends g c =
    let contents = g.F.Files.contents c.args.files.now in
    let faults = g.F.Files.faults c.args.files.now in
    let old = g.F.Files.asked c.args.files.now in
    let replay : ReplayWords = record { policies = words_at c.replay.inside.policies; script = c.replay.inside.script.now; trace = c.replay.inside.trace.now; options = c.replay.inside.options; emulation = c.replay.inside.emulation } in
    let words : InputWords = replay_input replay in
    let mid = g.F.Files.asked c.read_input.new.files in
    let after = g.F.Files.faults c.fetch_trace.new.files in
    let new = g.F.Files.asked c.fetch_trace.new.files in
    let read : IsInput contents words c.in_ok-input.input × (mid ≡ old ++ words.script ∷ words.policies) =
    ends_from contents words (words_at c.as_slice.result.now) (ap words_at c.as_slice.ensures) faults (g.F.Files.faults c.read_input.new.files) old mid (Ok c.in_ok-input.input) c.in_ok-input.ensures.ends in
    let has : Has (contents replay.trace) (λ text. c.in_ok-trace.trace ≡ text) = subst (λ (x : Contents). Has (x replay.trace) (λ text. c.in_ok-trace.trace ≡ text)) c.in_ok-input.ensures.contents c.in_ok-trace.ensures.ends in
    let meaning : Meaning = Replays c.in_ok-input.input c.in_ok-trace.trace in
    subst (λ (w : ReplayWords). EndsReading contents (command.Replay w) faults after old new (Ok (reading.Replay c.in_ok-input.input c.in_ok-trace.trace))) c.replay.view_is
    (last_read contents words replay.trace which.Trace gives (Means contents (command.Replay replay)) (λ o m. m) (names_to (command.Replay replay)) refl old new c.in_ok-input.input read.0
    (asked_more (old ++ words.script ∷ words.policies) mid new (replay.trace ∷ []) (replay.trace ∷ []) read.1 refl c.in_ok-trace.ensures.asked) meaning
    (record { text = has.text; content = has.content; within = has.within; says = ap (Replays c.in_ok-input.input) has.says }))
