-- The outcome of words and files: a refusal, or a text that is written.
use Rattle.std.specs.Prelude.{◌≡◌, ℕ, Bool, true, false, List, codes, Option, Some, None}
use Rattle.st_trace.specs.declared.entry.Choice.{Choice}
use Rattle.st_law.specs.declared.input.Input.{Input}
use Rattle.st_law.specs.Machine.{run}
use Rattle.st_law.specs.Numbers.{numbered}
use Rattle.st_law.specs.Schedules.{ScheduleOutcome, Choices, BadLine, played}
use Rattle.st_report.specs.TraceText.{trace_text}
use Rattle.st_report.specs.ScheduleText.{schedule_text}
use Rattle.st_audit.specs.AuditText.{audit}
use Rattle.st_audit.specs.PolicyText.{policy_text}
use Rattle.st_command.specs.Reading.{command_in, gen_of_words}
use Rattle.st_command.specs.Words.{Word}
use Rattle.st_command.specs.declared.command.Command.{Command}
use Rattle.st_command.specs.declared.command.Command.TheVariants as command
use Rattle.st_command.specs.declared.given.Print.{Print}
use Rattle.st_command.specs.declared.given.Print.TheVariants as print
use Rattle.st_emulation.specs.declared.emulation.Emulation.{Emulation}
use Rattle.st_emulation.specs.declared.emulation.Emulation.TheVariants.{Native}
use Rattle.st_kernel.specs.declared.play.PlayFault.{PlayFault}
use Rattle.st_kernel.specs.declared.play.PlayFault.TheVariants as play
use Rattle.st_reading.specs.Meaning as meaning
use Rattle.st_reading.specs.Meaning.{Contents, Meaning, Means}
use Rattle.st_reading.specs.declared.refusal.Refusal.{Refusal}
use Rattle.st_reading.specs.declared.refusal.Refusal.TheVariants as refusal
use Rattle.st_reading.specs.declared.refusal.Which.{Which}
use Rattle.st_trace_replay.specs.Replayed.{IsReplayed}
use Rattle.st_top.specs.Generated.{MeansGenerated}
use Rattle.st_top.specs.declared.status.Status.{Status}
use Rattle.st_top.specs.declared.status.Status.TheVariants.{Missing, Usage, Policy, Script, ReadFault, NoMemory, Schedule, TooLong, Illegal}

-- ---- statuses

-- a refusal, as a status
abbrev pub status_of : Refusal → Status
status_of (refusal.Missing which) = Missing which
status_of (refusal.TooLong which) = TooLong which
status_of refusal.ReadFault = ReadFault
status_of (refusal.Script fault) = Script fault
status_of (refusal.Policy file fault) = Policy file fault
status_of refusal.NoMemory = NoMemory

-- why a schedule isn't played, as a status
abbrev pub status_of_play : PlayFault → Status
status_of_play (play.BadLine line) = Schedule line
status_of_play play.NoMemory = NoMemory

-- ---- what is printed of a run

-- the text that is asked for of the run by these choices, under an emulation; its trace is printed with the numbers of messages, and its
-- trace and its schedule as they are without an emulation
abbrev pub printed : Print → Input → List Choice → Emulation → List ℕ
printed print.Audit i choices emulation = audit i (run i choices) emulation
printed print.Trace i choices emulation = trace_text (numbered i (run i choices))
printed print.Schedule i choices emulation = schedule_text choices
printed print.Policy i choices emulation = policy_text i (run i choices) emulation

-- what a command asks to be printed of its run
abbrev pub print_of : Command → Print
print_of (command.Step step) = step.print
print_of (command.Replay replay) = print.Audit
print_of (command.Check check) = print.Audit

-- the emulation that a command asks for
abbrev pub emulation_asked : Command → Emulation
emulation_asked (command.Step step) = step.emulation
emulation_asked (command.Replay replay) = replay.emulation
emulation_asked (command.Check check) = check.emulation

-- what is written of a lawful trace
abbrev pub lawful_text : List ℕ
lawful_text = codes "lawful\n"

-- ---- outcomes

-- the outcome of a call of the program: a stop at a file that can't be read, a refusal, or a text to be written
pub data CommandOutcome : Type 0 where
  Stops : Which → CommandOutcome
  Refuses : Status → CommandOutcome
  Writes : List ℕ → CommandOutcome

-- whether an outcome is a stop, which any file that is reached can cause
abbrev pub is_stop : CommandOutcome → Bool
is_stop (Stops which) = true
is_stop (Refuses status) = false
is_stop (Writes text) = false

-- the text of the run of a schedule that can be played, or the refusal of a schedule with a bad line
abbrev pub outcome_of_play : Print → Input → ScheduleOutcome → Emulation → CommandOutcome
outcome_of_play print i (Choices choices) emulation = Writes (printed print i choices emulation)
outcome_of_play print i (BadLine line) emulation = Refuses (Schedule line)

-- the outcome of a replay, by the first line of the trace that isn't lawful
abbrev pub outcome_of_replay : Option ℕ → CommandOutcome
outcome_of_replay None = Writes lawful_text
outcome_of_replay (Some line) = Refuses (Illegal line)

-- the outcome of a command, by what it and its files mean
abbrev pub IsOutcomeOf : Print → Emulation → Meaning → CommandOutcome → Type 0
IsOutcomeOf print emulation (meaning.Stops which) outcome = outcome ≡ Stops which
IsOutcomeOf print emulation (meaning.Refuses refusal) outcome = outcome ≡ Refuses (status_of refusal)
IsOutcomeOf print emulation (meaning.Runs i schedule) outcome = outcome ≡ outcome_of_play print i (played i schedule) emulation
IsOutcomeOf print emulation (meaning.Replays i trace) outcome = (broken : Option ℕ) × IsReplayed i trace broken × (outcome ≡ outcome_of_replay broken)
IsOutcomeOf print emulation (meaning.Prints text) outcome = outcome ≡ Writes text

-- the outcome of words that spell no other command: that of `gen`, or wrong usage
abbrev pub HasOtherOutcome : Option ℕ → CommandOutcome → Type 0
HasOtherOutcome None outcome = outcome ≡ Refuses Usage
HasOtherOutcome (Some rounds) outcome = (m : Meaning) × MeansGenerated rounds m × IsOutcomeOf print.Audit Native m outcome

-- the outcome of words, by the command or the rounds of `gen` that they spell
abbrev pub HasOutcome : Contents → Option Command → Option ℕ → CommandOutcome → Type 0
HasOutcome contents None rounds outcome = HasOtherOutcome rounds outcome
HasOutcome contents (Some c) rounds outcome = (m : Meaning) × Means contents c m × IsOutcomeOf (print_of c) (emulation_asked c) m outcome

-- the outcome of words over files of which this much is known
abbrev pub WordsHaveOutcome : List Word → Contents → CommandOutcome → Type 0
WordsHaveOutcome words contents outcome = HasOutcome contents (command_in words) (gen_of_words words) outcome
