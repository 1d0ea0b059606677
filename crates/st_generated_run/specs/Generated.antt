-- What is written of a generated run, and why there is none.
use Rattle.std.specs.Prelude.{◌≡◌, ◌⊎◌, ℕ, true, false, List, [], Some, None, Ok, Err}
use Rattle.st_emulation.specs.declared.emulation.Emulation.TheVariants.{Native}
use Rattle.st_filter.specs.declared.set.BinaryPolicy.{BinaryPolicy}
use Rattle.st_grammar.specs.Grammar.{Reads}
use Rattle.st_grammar.specs.Reading.{refusal_in}
use Rattle.st_grammar.specs.declared.env.Env.{Env}
use Rattle.st_trace.specs.declared.entry.Entry.{Entry}
use Rattle.st_law.specs.Machine.{first_state, run}
use Rattle.st_law.specs.Schedules.{most_steps, rest_from}
use Rattle.st_law.specs.declared.input.Input.{Input}
use Rattle.st_law.specs.declared.input.Mode.TheVariants.{Enforce}
use Rattle.st_law.specs.declared.input.Options.{Options}
use Rattle.st_script.specs.Reading.{script_in}
use Rattle.st_script.specs.Startable.{input_with}
use Rattle.st_script.specs.declared.reading.ReadScript.{ReadScript}
use Rattle.st_reading.specs.declared.refusal.Refusal.{Refusal}
use Rattle.st_reading.specs.declared.refusal.Refusal.TheVariants.{Script, Policy, NoMemory}
use Rattle.st_generator.specs.Policy.{generated_policy}
use Rattle.st_generator.specs.Script.{generated_script}
use Rattle.st_audit.specs.Summary.{summary_text}

-- the options of a generated run: what no filter decides is denied, and there is one worker
abbrev pub generated_options : Options
generated_options = record { mode = Enforce; inherit = false; aliasing = true; ids = None; workers = 1 }

-- an input is what a policy and a script mean for a generated run: the script is read with its options, and the policy with the script's
-- environment
pub record IsInputOf (policy text : List ℕ) (i : Input) : Type 0 where
  pub script : ReadScript
  pub policies : List BinaryPolicy
  pub script_is : script_in text generated_options Native ≡ Ok script
  pub policies_are : Reads policy script.env [] policies
  pub input_is : i ≡ input_with policies generated_options script

-- the run of an input in which the first enabled choice is made again and again, until none is enabled
abbrev pub rested_run : Input → List Entry
rested_run i = run i (rest_from (most_steps i) i (first_state i) []).choices

-- a line is the summary of the generated run of so many rounds
pub record IsGeneratedLine (rounds : ℕ) (line : List ℕ) : Type 0 where
  pub input : Input
  pub meant : IsInputOf generated_policy (generated_script rounds) input
  pub line_is : line ≡ summary_text (rested_run input)

-- ---- refusals

-- why a script isn't read: it has a fault, or memory ran out
abbrev pub RefusesScript : List ℕ → Refusal → Type 0
RefusesScript text (Script fault) = script_in text generated_options Native ≡ Err fault
RefusesScript text NoMemory = Unit {0}
RefusesScript text _ = ⊥

-- why a policy isn't read: it has a fault, or memory ran out
abbrev pub RefusesPolicy : List ℕ → Env → Refusal → Type 0
RefusesPolicy policy env (Policy n fault) = (n ≡ 1) × (refusal_in policy env [] ≡ Some fault)
RefusesPolicy policy env NoMemory = Unit {0}
RefusesPolicy policy env _ = ⊥

-- why there is no input: the script isn't read, or the script is read and the policy isn't
abbrev pub RefusesInput : List ℕ → List ℕ → Refusal → Type 0
RefusesInput policy text refusal =
    RefusesScript text refusal ⊎ ((script : ReadScript) × (script_in text generated_options Native ≡ Ok script) × RefusesPolicy policy script.env refusal)
