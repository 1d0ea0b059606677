-- What `gen` means, and how it ends.
use Rattle.std.specs.Prelude.{◌≡◌, ℕ, List, [], Option, Some}
use Rattle.st_outside.specs.Count.{HasRisen}
use Rattle.st_outside.specs.Sink.{Appends, AppendsPrefix}
use Rattle.st_emulation.specs.declared.emulation.Emulation.TheVariants.{Native}
use Rattle.st_filter.specs.declared.set.BinaryPolicy.{BinaryPolicy}
use Rattle.st_audit.specs.Summary.{summary_text}
use Rattle.st_command.specs.Reading.{gen_of_words}
use Rattle.st_command.specs.Words.{Word}
use Rattle.st_generator.specs.Policy.{generated_policy}
use Rattle.st_generator.specs.Script.{generated_script}
use Rattle.st_generated_run.specs.Generated.{IsGeneratedLine, generated_options, rested_run}
use Rattle.st_reading.specs.Meaning.{Meaning, Prints, Refuses, SaysPolicy, SaysScript}
use Rattle.st_reading.specs.declared.refusal.Refusal.TheVariants as refusal
use Rattle.st_script.specs.Reading.{script_in}
use Rattle.st_script.specs.Startable.{input_with}
use Rattle.st_script.specs.declared.reading.ReadScript.{ReadScript}
use Rattle.st_top.specs.declared.status.Status.{Status}
use Rattle.st_top.specs.declared.status.Status.TheVariants.{Done, Policy, Script, WriteFault, NoMemory}

-- the line of a script and policies: the summary of their run at rest
abbrev pub line_of_run : ReadScript → List BinaryPolicy → List ℕ
line_of_run script policies = summary_text (rested_run (input_with policies generated_options script))

-- what `gen` means: the generated script is read, then the generated policy with the script's environment, and the line of their run is
-- printed
abbrev pub MeansGenerated : ℕ → Meaning → Type 0
MeansGenerated rounds outcome =
    SaysScript (script_in (generated_script rounds) generated_options Native)
    (λ script. SaysPolicy generated_policy script.env [] 1 (λ policies. outcome ≡ Prints (line_of_run script policies)) outcome) outcome

-- the line was written, all of it or, if writing failed, a front of it; or a generated text is refused or memory ran out, and nothing was
-- written
abbrev pub EndsGenerated : ℕ → ℕ → ℕ → Option (List ℕ) → Option (List ℕ) → Status → Type 0
EndsGenerated rounds sink sink_after old new Done = (line : List ℕ) × IsGeneratedLine rounds line × Appends old new line
EndsGenerated rounds sink sink_after old new WriteFault = HasRisen sink sink_after × ((line : List ℕ) × IsGeneratedLine rounds line × AppendsPrefix old new line)
EndsGenerated rounds sink sink_after old new (Script fault) = MeansGenerated rounds (Refuses (refusal.Script fault)) × (new ≡ old)
EndsGenerated rounds sink sink_after old new (Policy n fault) = MeansGenerated rounds (Refuses (refusal.Policy n fault)) × (new ≡ old)
EndsGenerated rounds sink sink_after old new NoMemory = new ≡ old
EndsGenerated rounds sink sink_after old new _ = ⊥

-- ---- by the words

-- words spell a `gen` of this meaning, and no name was asked for
pub record WordsMeanGenerated (words : List Word) (m : Meaning) (old new : List Word) : Type 0 where
  pub rounds : ℕ
  pub spelled : gen_of_words words ≡ Some rounds
  pub meant : MeansGenerated rounds m
  pub asked : new ≡ old

-- a line is that of the `gen` that words spell
pub record IsGeneratedBy (words : List Word) (line : List ℕ) : Type 0 where
  pub rounds : ℕ
  pub spelled : gen_of_words words ≡ Some rounds
  pub line_is : IsGeneratedLine rounds line
