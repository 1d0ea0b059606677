use Rattle.std.proofs.Common.{◌≡◌, ◌≢◌, ◌≤◌, ◌<◌, sym, ◌∙◌, subst, refl, ap, inl, inr, [], ◌∷◌, ◌++◌, length, Ok, Err, append_assoc}
use Rattle.std.specs.Prelude.{◌^◌}
use Rattle.st_filter.specs.Policies.{filters_in}
use Rattle.st_filter.specs.declared.set.TheConstants.{MOST_FILTERS}
use Rattle.st_grammar.specs.declared.env.Env.{Env}
use Rattle.st_law.specs.declared.input.Input.{Input}
use Rattle.st_script.specs.Reading.{script_in}
use Rattle.st_script.specs.Startable.{input_as_written, made_native}
use Rattle.st_script.specs.declared.reading.ReadScript.{ReadScript}
use Rattle.st_reading.specs.Files.{ArePolicies, InputEnds, PoliciesRefused}
use Rattle.st_reading.specs.Meaning.{InputWords}
use Rattle.st_reading.proofs.Fetched.{handed_on, are_from, refused_from, asked_more}
use Rattle.st_reading.specs.declared.refusal.Refusal.TheVariants.{NoMemory, ReadFault}
use Rattle.st_reading.proofs.Leads.{has_fits, words_at}
use Rattle.st_reading.proofs.files.read_input.Goals as goal

pub returns-in_err-script-clause-ends : goal.returns-in_err-script-clause-ends
returns-in_err-script-clause-ends g c =
    let words : InputWords = record { policies = words_at c.args.words.policies.now; script = c.args.words.script.now; options = c.args.words.options; emulation = c.args.words.emulation } in
    handed_on (InputEnds (g.F.Files.contents c.args.files.now) words (g.F.Files.faults c.args.files.now) (g.F.Files.faults c.read_script_file.new.files) (g.F.Files.asked c.args.files.now) (g.F.Files.asked c.read_script_file.new.files))
    c.in_err-script.field-0.0 c.from_residual.result c.from_residual.ensures.0 c.from_residual.ensures.1
    (inl (c.in_err-script.ensures.ends, c.in_err-script.ensures.asked))

pub returns-in_err-native-clause-ends : goal.returns-in_err-native-clause-ends
returns-in_err-native-clause-ends g c =
    let contents = g.F.Files.contents c.args.files.now in
    let words : InputWords = record { policies = words_at c.args.words.policies.now; script = c.args.words.script.now; options = c.args.words.options; emulation = c.args.words.emulation } in
    handed_on (InputEnds contents words (g.F.Files.faults c.args.files.now) (g.F.Files.faults c.read_script_file.new.files) (g.F.Files.asked c.args.files.now) (g.F.Files.asked c.read_script_file.new.files))
    NoMemory c.from_residual-in_err-native.result c.from_residual-in_err-native.ensures.0 c.from_residual-in_err-native.ensures.1
    (inl (has_fits (contents words.script) (λ text. script_in text words.options words.emulation ≡ Ok c.in_ok-script.script) c.in_ok-script.ensures.ends, c.in_ok-script.ensures.asked))

pub input_with-requires-clause-filters : goal.input_with-requires-clause-filters
input_with-requires-clause-filters g c = subst (λ (script : ReadScript). filters_in script.blocks ≤ MOST_FILTERS) (sym c.in_ok-native.ensures) c.in_ok-script.ensures.few_filters

pub input_with-requires-clause-few : goal.input_with-requires-clause-few
input_with-requires-clause-few g c = subst (λ (script : ReadScript). length script.blocks < 2 ^ 31) (sym c.in_ok-native.ensures) c.in_ok-script.ensures.few_policies

pub returns-in_err-policies-clause-ends : goal.returns-in_err-policies-clause-ends
returns-in_err-policies-clause-ends g c =
    let contents = g.F.Files.contents c.args.files.now in
    let faults = g.F.Files.faults c.args.files.now in
    let old = g.F.Files.asked c.args.files.now in
    let words : InputWords = record { policies = words_at c.args.words.policies.now; script = c.args.words.script.now; options = c.args.words.options; emulation = c.args.words.emulation } in
    let after = g.F.Files.faults c.read_policy_files.new.files in
    let new = g.F.Files.asked c.read_policy_files.new.files in
    handed_on (InputEnds contents words faults after old new)
    c.in_err-policies.field-0.0 c.from_residual-in_err-policies.result c.from_residual-in_err-policies.ensures.0 c.from_residual-in_err-policies.ensures.1
    (inr (
      c.in_ok-script.script,
      c.in_ok-script.ensures.ends,
      subst (λ (env : Env). PoliciesRefused contents env words.policies faults after (old ++ words.script ∷ []) new c.in_err-policies.field-0.0) (ap (λ (script : ReadScript). script.env) c.in_ok-native.ensures)
          (refused_from contents (g.F.Files.contents c.read_script_file.new.files) c.in_ok-native.native.env words.policies words.policies c.in_ok-script.ensures.contents refl
          faults (g.F.Files.faults c.read_script_file.new.files) after (old ++ words.script ∷ []) (g.F.Files.asked c.read_script_file.new.files) new c.in_err-policies.field-0.0
          (c.in_ok-script.ensures.quiet (λ e. cc)) c.in_ok-script.ensures.asked c.in_err-policies.ensures.ends),
    ))

pub returns-in_err-policies-clause-quiet : goal.returns-in_err-policies-clause-quiet
returns-in_err-policies-clause-quiet g c =
    handed_on (λ r. r ≢ Err ReadFault → g.F.Files.faults c.read_policy_files.new.files ≡ g.F.Files.faults c.args.files.now)
    c.in_err-policies.field-0.0 c.from_residual-in_err-policies.result c.from_residual-in_err-policies.ensures.0 c.from_residual-in_err-policies.ensures.1
    (λ other. c.in_err-policies.ensures.quiet (λ e. other (cc)) ∙ c.in_ok-script.ensures.quiet (λ e. cc))

pub returns-clause-ends : goal.returns-clause-ends
returns-clause-ends g c =
    let contents = g.F.Files.contents c.args.files.now in
    let faults = g.F.Files.faults c.args.files.now in
    let old = g.F.Files.asked c.args.files.now in
    let words : InputWords = record { policies = words_at c.args.words.policies.now; script = c.args.words.script.now; options = c.args.words.options; emulation = c.args.words.emulation } in
    let after = g.F.Files.faults c.read_policy_files.new.files in
    let new = g.F.Files.asked c.read_policy_files.new.files in
    let native_is : c.in_ok-native.native ≡ made_native c.in_ok-script.script = c.in_ok-native.ensures in
    subst (λ (i : Input). InputEnds contents words faults after old new (Ok i)) (sym (c.input_with.ensures ∙ ap (input_as_written c.in_ok-policies.policies words.options) native_is)) (
      record {
        script = c.in_ok-script.script;
        policies = c.in_ok-policies.policies;
        script_is = c.in_ok-script.ensures.ends;
        policies_are =
            subst (λ (env : Env). ArePolicies contents env words.policies [] c.in_ok-policies.policies) (ap (λ (script : ReadScript). script.env) native_is)
            (are_from contents (g.F.Files.contents c.read_script_file.new.files) c.in_ok-native.native.env words.policies words.policies c.in_ok-script.ensures.contents refl c.in_ok-policies.policies c.in_ok-policies.ensures.ends.0);
        input_is = refl;
      },
      asked_more (old ++ words.script ∷ []) (g.F.Files.asked c.read_script_file.new.files) new words.policies words.policies c.in_ok-script.ensures.asked refl c.in_ok-policies.ensures.ends.1 ∙
          append_assoc old (words.script ∷ []) words.policies,
    )
