-- Options as they are given, one after the other.
use Rattle.std.specs.Prelude.{ℕ, ◌+◌, ◌<◌, ◌≤◌, Bool, true, false, if◌then◌else◌, List, [], ◌∷◌, ◌++◌, codes, decimal, ◌^◌, Option, Some, None, option_map}
use Rattle.std.specs.Str.{bytes_eq}
use Rattle.st_law.specs.declared.input.Mode.{Mode}
use Rattle.st_law.specs.declared.input.Mode.TheVariants.{Enforce, Learn, AskText}
use Rattle.st_command.specs.Words.{Word, ids_in, workers_in}
use Rattle.st_command.specs.declared.given.Kind.{Kind}
use Rattle.st_command.specs.declared.given.Kind.TheVariants as kind
use Rattle.st_command.specs.declared.given.Print.{Print}
use Rattle.st_command.specs.declared.given.Print.TheVariants.{Audit, Trace, Schedule, Policy}

-- an option: a policy file, a mode, that policies are inherited, that aliasing is off, ids, a number of workers, what is printed, or that
-- the programs are those of Linux
pub data GivenOption : Type 0 where
  PolicyFile : Word → GivenOption
  ModeIs : Mode → GivenOption
  Inherits : GivenOption
  Unaliased : GivenOption
  IdsAre : ℕ → ℕ → GivenOption
  WorkersAre : ℕ → GivenOption
  PrintIs : Print → GivenOption
  EmulatesLinux : GivenOption

-- ---- how options are spelled

abbrev pub mode_word : Mode → Word
mode_word Enforce = codes "-a"
mode_word Learn = codes "-A"
mode_word AskText = codes "-t"

abbrev pub print_word : Print → Word
print_word Audit = codes "audit"
print_word Trace = codes "trace"
print_word Schedule = codes "schedule"
print_word Policy = codes "policy"

-- the words of an option
abbrev pub option_words : GivenOption → List Word
option_words (PolicyFile name) = codes "-f" ∷ name ∷ []
option_words (ModeIs mode) = mode_word mode ∷ []
option_words Inherits = codes "-i" ∷ []
option_words Unaliased = codes "-u" ∷ []
option_words (IdsAre uid gid) = codes "-c" ∷ (decimal uid ++ (codes ":" ++ decimal gid)) ∷ []
option_words (WorkersAre count) = codes "-w" ∷ decimal count ∷ []
option_words (PrintIs print) = codes "--print" ∷ print_word print ∷ []
option_words EmulatesLinux = codes "--linux" ∷ []

-- the words of options in order
abbrev pub all_spelled : List GivenOption → List Word
all_spelled [] = []
all_spelled (option ∷ options) = option_words option ++ all_spelled options

-- an option's value is within its bounds
abbrev pub IsOptionWithin : GivenOption → Type 0
IsOptionWithin (IdsAre uid gid) = (uid < 2 ^ 32) × (gid < 2 ^ 32)
IsOptionWithin (WorkersAre count) = (1 ≤ count) × (count ≤ 8)
IsOptionWithin _ = Unit {0}

-- the values of all these options are within their bounds
abbrev pub AreWithin : List GivenOption → Type 0
AreWithin [] = Unit {0}
AreWithin (option ∷ options) = IsOptionWithin option × AreWithin options

-- ---- how often options are given

-- whether an option is of a kind
abbrev pub is_option_of : Kind → GivenOption → Bool
is_option_of kind.Policy (PolicyFile name) = true
is_option_of kind.Mode (ModeIs mode) = true
is_option_of kind.Inherit Inherits = true
is_option_of kind.Unaliased Unaliased = true
is_option_of kind.Ids (IdsAre uid gid) = true
is_option_of kind.Workers (WorkersAre count) = true
is_option_of kind.Print (PrintIs print) = true
is_option_of kind.Linux EmulatesLinux = true
is_option_of _ _ = false

-- how many options of a kind there are
abbrev pub count_of : Kind → List GivenOption → ℕ
count_of kind [] = 0
count_of kind (option ∷ options) = (if is_option_of kind option then 1 else 0) + count_of kind options

-- ---- the options at the beginning of words

-- the option that this word is without a value
abbrev pub alone : Word → Option GivenOption
alone word =
    if bytes_eq word (codes "-A") then Some (ModeIs Learn)
    else if bytes_eq word (codes "-a") then Some (ModeIs Enforce)
    else if bytes_eq word (codes "-t") then Some (ModeIs AskText)
    else if bytes_eq word (codes "-i") then Some Inherits
    else if bytes_eq word (codes "-u") then Some Unaliased
    else if bytes_eq word (codes "--linux") then Some EmulatesLinux
    else None

-- what is printed, by the word for it
abbrev pub print_in : Word → Option Print
print_in word =
    if bytes_eq word (codes "audit") then Some Audit
    else if bytes_eq word (codes "trace") then Some Trace
    else if bytes_eq word (codes "schedule") then Some Schedule
    else if bytes_eq word (codes "policy") then Some Policy
    else None

-- the option that this word is with this value
abbrev pub valued : Word → Word → Option GivenOption
valued word value =
    if bytes_eq word (codes "-f") then Some (PolicyFile value)
    else if bytes_eq word (codes "-c") then option_map (λ ids. IdsAre ids.0 ids.1) (ids_in value)
    else if bytes_eq word (codes "-w") then option_map WorkersAre (workers_in value)
    else if bytes_eq word (codes "--print") then option_map PrintIs (print_in value)
    else None

-- the options at the beginning of words, and the words after them
pub record TakenOptions : Type 0 where
  pub given : List GivenOption
  pub rest : List Word

abbrev pub with_option : GivenOption → TakenOptions → TakenOptions
with_option option taken = record { given = option ∷ taken.given; rest = taken.rest }

abbrev pub none_taken : List Word → TakenOptions
none_taken words = record { given = []; rest = words }

-- all options at the beginning of words, one after the other, and the words after them
abbrev pub options_in : List Word → TakenOptions
options_in [] = none_taken []
options_in (word ∷ []) = elim (alone word) [ Some option ↦ with_option option (none_taken []) | None ↦ none_taken (word ∷ []) ]
options_in (word ∷ value ∷ words) =
    elim (alone word) [
      | Some option ↦ with_option option (options_in (value ∷ words))
      | None ↦ elim (valued word value) [
        | Some option ↦ with_option option (options_in words)
        | None ↦ none_taken (word ∷ value ∷ words)
      ]
    ]

-- the option that words begin with, and the words after it
abbrev pub next_option : List Word → Option (GivenOption × List Word)
next_option [] = None
next_option (word ∷ []) = option_map (λ option. (option, [])) (alone word)
next_option (word ∷ value ∷ words) =
    elim (alone word) [
      | Some option ↦ Some (option, value ∷ words)
      | None ↦ option_map (λ option. (option, words)) (valued word value)
    ]
