-- What the commands are asked to do.
use Rattle.std.specs.Prelude.{ℕ, Bool, true, false, not, ◌&&◌, nat_le, nat_lt, ◌==◌, if◌then◌else◌, List, [], ◌∷◌, Option, Some, None, unwrap_or}
use Rattle.std.specs.List.{list_all}
use Rattle.st_emulation.specs.declared.emulation.Emulation.{Emulation}
use Rattle.st_emulation.specs.declared.emulation.Emulation.TheVariants.{Native, Linux}
use Rattle.st_law.specs.declared.input.Mode.{Mode}
use Rattle.st_law.specs.declared.input.Mode.TheVariants.{Enforce}
use Rattle.st_law.specs.declared.input.Options.{Options}
use Rattle.st_command.specs.Words.{Word, has_dash, rounds_in}
use Rattle.st_command.specs.Given.{GivenOption, PolicyFile, ModeIs, IdsAre, WorkersAre, PrintIs, EmulatesLinux, count_of, TakenOptions}
use Rattle.st_command.specs.declared.given.Kind.{Kind}
use Rattle.st_command.specs.declared.given.Kind.TheVariants as kind
use Rattle.st_command.specs.declared.given.Print.{Print}
use Rattle.st_command.specs.declared.given.Print.TheVariants.{Audit}

-- what `step` is asked to do: the names of its files, the options of its run, what is printed of the run, and under which emulation
pub record StepWords : Type 0 where
  pub policies : List Word
  pub script : Word
  pub schedule : Word
  pub options : Options
  pub print : Print
  pub emulation : Emulation

-- what `run` is asked to do: as `step`, but without a schedule
pub record RunWords : Type 0 where
  pub policies : List Word
  pub script : Word
  pub options : Options
  pub print : Print
  pub emulation : Emulation

-- what `replay` is asked to do: as `step`, but with a trace in place of a schedule, and nothing of the run is printed
pub record ReplayWords : Type 0 where
  pub policies : List Word
  pub script : Word
  pub trace : Word
  pub options : Options
  pub emulation : Emulation

-- what `check` is asked to do: the names of its files, the ids of `-c`, and the emulation
pub record CheckWords : Type 0 where
  pub policy : Word
  pub script : Option Word
  pub ids : Option (ℕ × ℕ)
  pub emulation : Emulation

-- ---- what options say

abbrev pub option_policy : GivenOption → Option Word
option_policy (PolicyFile name) = Some name
option_policy _ = None

abbrev pub policies_of : List GivenOption → List Word
policies_of [] = []
policies_of (option ∷ options) = elim (option_policy option) [ Some name ↦ name ∷ policies_of options | None ↦ policies_of options ]

abbrev pub mode_of : List GivenOption → Option Mode
mode_of [] = None
mode_of (ModeIs mode ∷ options) = Some mode
mode_of (_ ∷ options) = mode_of options

abbrev pub ids_of : List GivenOption → Option (ℕ × ℕ)
ids_of [] = None
ids_of (IdsAre uid gid ∷ options) = Some (uid, gid)
ids_of (_ ∷ options) = ids_of options

abbrev pub workers_of : List GivenOption → Option ℕ
workers_of [] = None
workers_of (WorkersAre count ∷ options) = Some count
workers_of (_ ∷ options) = workers_of options

abbrev pub option_print : List GivenOption → Option Print
option_print [] = None
option_print (PrintIs print ∷ options) = Some print
option_print (_ ∷ options) = option_print options

-- the emulation: Linux if an option says so
abbrev pub emulation_of : List GivenOption → Emulation
emulation_of [] = Native
emulation_of (EmulatesLinux ∷ options) = Linux
emulation_of (_ ∷ options) = emulation_of options

-- the options of a run: without a mode it denies what no filter decides, and it has one worker unless an option says otherwise
abbrev pub options_of : List GivenOption → Options
options_of given = record {
  mode = unwrap_or (mode_of given) Enforce;
  inherit = nat_lt 0 (count_of kind.Inherit given);
  aliasing = count_of kind.Unaliased given == 0;
  ids = ids_of given;
  workers = unwrap_or (workers_of given) 1;
}

-- what `step` is asked to do by these options and operands; the audit is printed unless an option says otherwise
abbrev pub step_words : List GivenOption → Word → Word → StepWords
step_words given script schedule = record {
  policies = policies_of given;
  script = script;
  schedule = schedule;
  options = options_of given;
  print = unwrap_or (option_print given) Audit;
  emulation = emulation_of given;
}

-- what `run` is asked to do by these options and this operand
abbrev pub run_words : List GivenOption → Word → RunWords
run_words given script = record {
  policies = policies_of given;
  script = script;
  options = options_of given;
  print = unwrap_or (option_print given) Audit;
  emulation = emulation_of given;
}

-- what `replay` is asked to do by these options and operands
abbrev pub replay_words : List GivenOption → Word → Word → ReplayWords
replay_words given script trace = record {
  policies = policies_of given;
  script = script;
  trace = trace;
  options = options_of given;
  emulation = emulation_of given;
}

-- what `check` is asked to do by these options and operands
abbrev pub check_words : List GivenOption → Word → Option Word → CheckWords
check_words given policy script = record { policy = policy; script = script; ids = ids_of given; emulation = emulation_of given }

-- ---- the words after the command's name

-- the kinds of options that may be given once
abbrev pub single_kinds : List Kind
single_kinds = kind.Mode ∷ kind.Inherit ∷ kind.Unaliased ∷ kind.Ids ∷ kind.Workers ∷ kind.Print ∷ kind.Linux ∷ []

-- whether options may be given together: at most 8 policy files, and each other kind once
abbrev pub may_be_given : List GivenOption → Bool
may_be_given given = nat_le (count_of kind.Policy given) 8 && list_all (λ kind. nat_le (count_of kind given) 1) single_kinds

-- what `step` is asked to do by the words after its options
abbrev pub step_with : List GivenOption → List Word → Option StepWords
step_with given (script ∷ schedule ∷ []) =
    if not (has_dash script) && (not (has_dash schedule) && may_be_given given) then Some (step_words given script schedule) else None
step_with given _ = None

-- what `step` is asked to do by its options and the words after them
abbrev pub step_in : TakenOptions → Option StepWords
step_in taken = step_with taken.given taken.rest

-- whether options may be given together to `replay`, which has no `--print`
abbrev pub may_be_replayed : List GivenOption → Bool
may_be_replayed given = may_be_given given && count_of kind.Print given == 0

-- what `replay` is asked to do by the words after its options
abbrev pub replay_with : List GivenOption → List Word → Option ReplayWords
replay_with given (script ∷ trace ∷ []) =
    if not (has_dash script) && (not (has_dash trace) && may_be_replayed given) then Some (replay_words given script trace) else None
replay_with given _ = None

-- what `replay` is asked to do by its options and the words after them
abbrev pub replay_in : TakenOptions → Option ReplayWords
replay_in taken = replay_with taken.given taken.rest

-- what `run` is asked to do by the words after its options
abbrev pub run_with : List GivenOption → List Word → Option RunWords
run_with given (script ∷ []) = if not (has_dash script) && may_be_given given then Some (run_words given script) else None
run_with given _ = None

-- what `run` is asked to do by its options and the words after them
abbrev pub run_in : TakenOptions → Option RunWords
run_in taken = run_with taken.given taken.rest

-- the rounds of `gen`, which has no option
abbrev pub gen_in : List Word → Option ℕ
gen_in (word ∷ []) = rounds_in word
gen_in _ = None

-- the kinds of options that `check` doesn't have
abbrev pub unchecked_kinds : List Kind
unchecked_kinds = kind.Policy ∷ kind.Mode ∷ kind.Inherit ∷ kind.Unaliased ∷ kind.Workers ∷ kind.Print ∷ []

-- whether options may be given together to `check`, which has `-c` and `--linux`
abbrev pub may_be_checked : List GivenOption → Bool
may_be_checked given = may_be_given given && list_all (λ kind. count_of kind given == 0) unchecked_kinds

-- what `check` is asked to do by the words after its options
abbrev pub check_with : List GivenOption → List Word → Option CheckWords
check_with given (policy ∷ []) = if not (has_dash policy) && may_be_checked given then Some (check_words given policy None) else None
check_with given (policy ∷ script ∷ []) =
    if not (has_dash policy) && (not (has_dash script) && may_be_checked given) then Some (check_words given policy (Some script)) else None
check_with given _ = None

-- what `check` is asked to do by its options and the words after them
abbrev pub check_in : TakenOptions → Option CheckWords
check_in taken = check_with taken.given taken.rest

-- the options that the script of `check` is read with: the defaults, except for the ids
abbrev pub check_options : CheckWords → Options
check_options check = record { mode = Enforce; inherit = false; aliasing = true; ids = check.ids; workers = 1 }
