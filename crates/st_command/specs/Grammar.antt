-- The grammar of the command line: which words spell which command.
--
--     check {OPTION} POLICY [SCRIPT]
--     step {OPTION} SCRIPT SCHEDULE
--     replay {OPTION} SCRIPT TRACE
--     run {OPTION} SCRIPT
--     gen N
use Rattle.std.specs.Prelude.{◌≡◌, ◌≢◌, ℕ, ◌≤◌, false, List, [], ◌∷◌, ◌++◌, codes, decimal, Option, Some, None}
use Rattle.st_command.specs.Words.{Word, has_dash}
use Rattle.st_command.specs.Given.{GivenOption, all_spelled, AreWithin, count_of}
use Rattle.st_command.specs.Command.{StepWords, ReplayWords, RunWords, CheckWords, step_words, replay_words, run_words, check_words}
use Rattle.st_command.specs.declared.command.Command.{Command}
use Rattle.st_command.specs.declared.command.Command.TheVariants as command
use Rattle.st_command.specs.declared.given.Kind.{Kind}
use Rattle.st_command.specs.declared.given.Kind.TheVariants as kind

-- options may be given together: at most 8 policy files, and every other kind of option at most once
pub record MayBeGiven (given : List GivenOption) : Type 0 where
  pub few_policies : count_of kind.Policy given ≤ 8
  pub once : (k : Kind) → k ≢ kind.Policy → count_of k given ≤ 1

-- words are `step`, options in any order, a script and a schedule
pub record SpellsStep (words : List Word) (step : StepWords) : Type 0 where
  pub given : List GivenOption
  pub within : AreWithin given
  pub together : MayBeGiven given
  pub script : has_dash step.script ≡ false
  pub schedule : has_dash step.schedule ≡ false
  pub words_are : words ≡ codes "step" ∷ (all_spelled given ++ step.script ∷ step.schedule ∷ [])
  pub asked : step ≡ step_words given step.script step.schedule

-- words are `replay`, options in any order but `--print`, a script and a trace
pub record SpellsReplay (words : List Word) (replay : ReplayWords) : Type 0 where
  pub given : List GivenOption
  pub within : AreWithin given
  pub together : MayBeGiven given
  pub no_print : count_of kind.Print given ≡ 0
  pub script : has_dash replay.script ≡ false
  pub trace : has_dash replay.trace ≡ false
  pub words_are : words ≡ codes "replay" ∷ (all_spelled given ++ replay.script ∷ replay.trace ∷ [])
  pub asked : replay ≡ replay_words given replay.script replay.trace

-- words are `run`, options in any order, and a script
pub record SpellsRun (words : List Word) (run : RunWords) : Type 0 where
  pub given : List GivenOption
  pub within : AreWithin given
  pub together : MayBeGiven given
  pub script : has_dash run.script ≡ false
  pub words_are : words ≡ codes "run" ∷ (all_spelled given ++ run.script ∷ [])
  pub asked : run ≡ run_words given run.script

-- words are `gen` and a number of rounds
pub record SpellsGen (words : List Word) (rounds : ℕ) : Type 0 where
  pub least : 1 ≤ rounds
  pub most : rounds ≤ 512
  pub words_are : words ≡ codes "gen" ∷ decimal rounds ∷ []

-- the word of an operand that may be left out, if it is given
abbrev pub maybe_word : Option Word → List Word
maybe_word None = []
maybe_word (Some word) = word ∷ []

abbrev pub MayBeOperand : Option Word → Type 0
MayBeOperand None = Unit {0}
MayBeOperand (Some word) = has_dash word ≡ false

-- words are `check`, optional ids and emulation in any order, a policy, and an optional script
pub record SpellsCheck (words : List Word) (check : CheckWords) : Type 0 where
  pub given : List GivenOption
  pub within : AreWithin given
  pub together : MayBeGiven given
  pub no_more : (k : Kind) → k ≢ kind.Ids → k ≢ kind.Linux → count_of k given ≡ 0
  pub policy : has_dash check.policy ≡ false
  pub script : MayBeOperand check.script
  pub words_are : words ≡ codes "check" ∷ (all_spelled given ++ check.policy ∷ maybe_word check.script)
  pub asked : check ≡ check_words given check.policy check.script

-- words spell a command
abbrev pub SpellsCommand : List Word → Command → Type 0
SpellsCommand words (command.Step step) = SpellsStep words step
SpellsCommand words (command.Replay replay) = SpellsReplay words replay
SpellsCommand words (command.Check check) = SpellsCheck words check
