-- Examples of words that spell no command, and of words that are taken as they stand.
use Rattle.std.proofs.Common.{◌≡◌, ℕ, List, [], ◌∷◌, codes, Option, Some, None, refl}
use Rattle.st_emulation.specs.declared.emulation.Emulation.TheVariants.{Native, Linux}
use Rattle.st_law.specs.declared.input.Mode.TheVariants.{Learn}
use Rattle.st_command.specs.Words.{Word}
use Rattle.st_command.specs.Given.{PolicyFile, ModeIs, Inherits, Unaliased, IdsAre, WorkersAre, PrintIs, EmulatesLinux}
use Rattle.st_command.specs.Command.{RunWords, replay_words, run_words}
use Rattle.st_command.specs.Reading.{command_in, run_of_words, gen_of_words}
use Rattle.st_command.specs.declared.command.Command.{Command}
use Rattle.st_command.specs.declared.command.Command.TheVariants.{Check, Replay}
use Rattle.st_command.specs.declared.given.Print.TheVariants.{Trace}

-- what words are read as: a command, a `run`, and the rounds of a `gen`
abbrev read : List Word → Option Command × Option RunWords × Option ℕ
read words = (command_in words, run_of_words words, gen_of_words words)

-- words spell nothing
abbrev SpellNothing : List Word → Type 0
SpellNothing words = read words ≡ (None, None, None)

-- two modes exclude each other
two_modes : SpellNothing (codes "step" ∷ codes "-a" ∷ codes "-t" ∷ codes "s" ∷ codes "c" ∷ [])
two_modes = refl

-- there are at most eight workers
nine_workers : SpellNothing (codes "step" ∷ codes "-w" ∷ codes "9" ∷ codes "s" ∷ codes "c" ∷ [])
nine_workers = refl

-- `step` has a schedule
no_schedule : SpellNothing (codes "step" ∷ codes "-f" ∷ codes "p" ∷ codes "s" ∷ [])
no_schedule = refl

-- ids are a user and a group
no_group : SpellNothing (codes "check" ∷ codes "-c" ∷ codes "1" ∷ codes "p" ∷ [])
no_group = refl

-- an option and its value are two words
joined_by_a_sign : SpellNothing (codes "step" ∷ codes "--print=trace" ∷ codes "s" ∷ codes "c" ∷ [])
joined_by_a_sign = refl

-- options stand before the operands
an_option_after_the_script : SpellNothing (codes "step" ∷ codes "s" ∷ codes "-a" ∷ codes "c" ∷ [])
an_option_after_the_script = refl

-- `replay` has a trace, and prints nothing of its run
a_replay_without_a_trace : SpellNothing (codes "replay" ∷ codes "s" ∷ [])
a_replay_without_a_trace = refl

a_replay_that_prints : SpellNothing (codes "replay" ∷ codes "--print" ∷ codes "audit" ∷ codes "s" ∷ codes "t" ∷ [])
a_replay_that_prints = refl

-- `run` has no schedule
a_run_with_a_schedule : SpellNothing (codes "run" ∷ codes "s" ∷ codes "c" ∷ [])
a_run_with_a_schedule = refl

a_run_without_a_script : SpellNothing (codes "run" ∷ [])
a_run_without_a_script = refl

a_run_with_two_modes : SpellNothing (codes "run" ∷ codes "-a" ∷ codes "-t" ∷ codes "s" ∷ [])
a_run_with_two_modes = refl

a_run_by_nine : SpellNothing (codes "run" ∷ codes "-w" ∷ codes "9" ∷ codes "s" ∷ [])
a_run_by_nine = refl

a_run_by_none : SpellNothing (codes "run" ∷ codes "-w" ∷ codes "0" ∷ codes "s" ∷ [])
a_run_by_none = refl

a_run_joined : SpellNothing (codes "run" ∷ codes "--print=trace" ∷ codes "s" ∷ [])
a_run_joined = refl

a_run_joined_to_a_number : SpellNothing (codes "run" ∷ codes "-w2" ∷ codes "s" ∷ [])
a_run_joined_to_a_number = refl

a_run_with_an_option_after : SpellNothing (codes "run" ∷ codes "s" ∷ codes "-a" ∷ [])
a_run_with_an_option_after = refl

a_run_that_inherits_twice : SpellNothing (codes "run" ∷ codes "-i" ∷ codes "-i" ∷ codes "s" ∷ [])
a_run_that_inherits_twice = refl

-- there are 1 to 512 rounds, without a leading zero or a sign
no_rounds : SpellNothing (codes "gen" ∷ codes "0" ∷ [])
no_rounds = refl

too_many_rounds : SpellNothing (codes "gen" ∷ codes "513" ∷ [])
too_many_rounds = refl

a_leading_zero : SpellNothing (codes "gen" ∷ codes "01" ∷ [])
a_leading_zero = refl

a_sign : SpellNothing (codes "gen" ∷ codes "+1" ∷ [])
a_sign = refl

a_gen_without_rounds : SpellNothing (codes "gen" ∷ [])
a_gen_without_rounds = refl

a_gen_with_an_option : SpellNothing (codes "gen" ∷ codes "-w" ∷ codes "1" ∷ [])
a_gen_with_an_option = refl

a_gen_with_more : SpellNothing (codes "gen" ∷ codes "1" ∷ codes "2" ∷ [])
a_gen_with_more = refl

-- `gen` doesn't depend on the emulation
a_gen_of_linux : SpellNothing (codes "gen" ∷ codes "--linux" ∷ codes "1" ∷ [])
a_gen_of_linux = refl

-- the emulation is given once, before the operands, and without a value
linux_twice : SpellNothing (codes "step" ∷ codes "--linux" ∷ codes "-a" ∷ codes "--linux" ∷ codes "s" ∷ codes "c" ∷ [])
linux_twice = refl

linux_twice_of_check : SpellNothing (codes "check" ∷ codes "--linux" ∷ codes "--linux" ∷ codes "p" ∷ [])
linux_twice_of_check = refl

linux_after_the_script : SpellNothing (codes "run" ∷ codes "s" ∷ codes "--linux" ∷ [])
linux_after_the_script = refl

linux_with_a_value : SpellNothing (codes "replay" ∷ codes "--linux=1" ∷ codes "s" ∷ codes "t" ∷ [])
linux_with_a_value = refl

-- `check` has no mode, and ids once
a_check_with_a_mode : SpellNothing (codes "check" ∷ codes "--linux" ∷ codes "-a" ∷ codes "p" ∷ [])
a_check_with_a_mode = refl

a_check_with_ids_twice : SpellNothing (codes "check" ∷ codes "-c" ∷ codes "1:2" ∷ codes "-c" ∷ codes "1:2" ∷ codes "p" ∷ [])
a_check_with_ids_twice = refl

-- `check` has ids and the emulation in any order
a_check_of_linux : command_in (codes "check" ∷ codes "--linux" ∷ codes "-c" ∷ codes "1:2" ∷ codes "p" ∷ codes "s" ∷ []) ≡
    Some (Check record { policy = codes "p"; script = Some (codes "s"); ids = Some (1, 2); emulation = Linux })
a_check_of_linux = refl

a_check_with_ids_first : command_in (codes "check" ∷ codes "-c" ∷ codes "1:2" ∷ codes "--linux" ∷ codes "p" ∷ []) ≡
    Some (Check record { policy = codes "p"; script = None; ids = Some (1, 2); emulation = Linux })
a_check_with_ids_first = refl

a_native_check : command_in (codes "check" ∷ codes "p" ∷ []) ≡ Some (Check record { policy = codes "p"; script = None; ids = None; emulation = Native })
a_native_check = refl

-- every option may be given
all_options : run_of_words (codes "run" ∷ codes "-f" ∷ codes "p" ∷ codes "-A" ∷ codes "-i" ∷ codes "-u" ∷ codes "-c" ∷ codes "1:2" ∷ codes "-w" ∷ codes "8" ∷ codes "--print" ∷ codes "trace" ∷ codes "--linux" ∷ codes "s" ∷ []) ≡
    Some (run_words (PolicyFile (codes "p") ∷ ModeIs Learn ∷ Inherits ∷ Unaliased ∷ IdsAre 1 2 ∷ WorkersAre 8 ∷ PrintIs Trace ∷ EmulatesLinux ∷ []) (codes "s"))
all_options = refl

a_replay_with_options : command_in (codes "replay" ∷ codes "--linux" ∷ codes "-f" ∷ codes "p" ∷ codes "-A" ∷ codes "-w" ∷ codes "8" ∷ codes "s" ∷ codes "t" ∷ []) ≡
    Some (Replay (replay_words (EmulatesLinux ∷ PolicyFile (codes "p") ∷ ModeIs Learn ∷ WorkersAre 8 ∷ []) (codes "s") (codes "t")))
a_replay_with_options = refl

-- an option's value may begin with a dash
a_policy_with_a_dash : run_of_words (codes "run" ∷ codes "-f" ∷ codes "-a" ∷ codes "s" ∷ []) ≡ Some (run_words (PolicyFile (codes "-a") ∷ []) (codes "s"))
a_policy_with_a_dash = refl

few_rounds : gen_of_words (codes "gen" ∷ codes "1" ∷ []) ≡ Some 1
few_rounds = refl

many_rounds : gen_of_words (codes "gen" ∷ codes "512" ∷ []) ≡ Some 512
many_rounds = refl
