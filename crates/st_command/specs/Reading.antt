-- The command that words spell, read from left to right.
use Rattle.std.specs.Prelude.{ℕ, ◌≤◌, if◌then◌else◌, List, [], ◌∷◌, length, codes, Option, None, option_map}
use Rattle.std.specs.Str.{bytes_eq}
use Rattle.std.specs.Borrow.{Bor}
use Rattle.st_command.specs.Words.{Word}
use Rattle.st_command.specs.Given.{GivenOption, PolicyFile, ModeIs, Inherits, Unaliased, IdsAre, WorkersAre, PrintIs, EmulatesLinux, options_in}
use Rattle.st_command.specs.Command.{RunWords, check_in, step_in, replay_in, run_in, gen_in}
use Rattle.st_command.specs.declared.command.Command.{Command}
use Rattle.st_command.specs.declared.command.Command.TheVariants as command
use Rattle.st_command.specs.declared.given.Given.{Given}
use Rattle.st_command.specs.declared.given.Given.TheVariants as given

-- the command of this name that the words after the name spell
abbrev pub command_after : Word → List Word → Option Command
command_after name words =
    if bytes_eq name (codes "check") then option_map command.Check (check_in (options_in words))
    else if bytes_eq name (codes "step") then option_map command.Step (step_in (options_in words))
    else if bytes_eq name (codes "replay") then option_map command.Replay (replay_in (options_in words))
    else None

-- the command that words spell, if they spell one
abbrev pub command_in : List Word → Option Command
command_in [] = None
command_in (name ∷ words) = command_after name words

-- what `run` is asked to do by words, if they spell it
abbrev pub run_of_words : List Word → Option RunWords
run_of_words [] = None
run_of_words (name ∷ words) = if bytes_eq name (codes "run") then run_in (options_in words) else None

-- the rounds that `gen` is asked for by words, if they spell it
abbrev pub gen_of_words : List Word → Option ℕ
gen_of_words [] = None
gen_of_words (name ∷ words) = if bytes_eq name (codes "gen") then gen_in words else None

-- the limits that every command that words spell keeps to
abbrev pub IsWithinLimits : Command → Type 0
IsWithinLimits (command.Step step) = (length step.policies ≤ 8) × (1 ≤ step.options.workers) × (step.options.workers ≤ 8)
IsWithinLimits (command.Replay replay) = (length replay.policies ≤ 8) × (1 ≤ replay.options.workers) × (replay.options.workers ≤ 8)
IsWithinLimits (command.Check check) = Unit {0}

-- the limits that every `run` that words spell keeps to
abbrev pub IsRunWithinLimits : RunWords → Type 0
IsRunWithinLimits run = (length run.policies ≤ 8) × (1 ≤ run.options.workers) × (run.options.workers ≤ 8)

-- an option of the code as its abstract value
abbrev pub option_value : Given → GivenOption
option_value (given.Policy name) = PolicyFile name.now
option_value (given.Mode mode) = ModeIs mode
option_value given.Inherit = Inherits
option_value given.Unaliased = Unaliased
option_value (given.Ids uid gid) = IdsAre uid gid
option_value (given.Workers count) = WorkersAre count
option_value (given.Print print) = PrintIs print
option_value given.Linux = EmulatesLinux

-- the abstract values of an option of the code and of the words after it
abbrev pub shown_next : Given × Bor (List Word) → GivenOption × List Word
shown_next next = (option_value next.0, next.1.now)
