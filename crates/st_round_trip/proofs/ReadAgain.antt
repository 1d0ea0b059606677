-- The policies that `step` has written of a run that learns are read again.
use Rattle.std.proofs.Common.{◌≡◌, ◌↔◌, ◌≤◌, ◌∙◌, ℕ, List, [], ◌∷◌, Option, Some, None, Ok, refl, reverse, ap, sym, subst}
use Rattle.std.proofs.lemmas.List.Elements.{All-weaker}
use Rattle.std.specs.List.{All}
use Rattle.st_command.specs.Command.{StepWords}
use Rattle.st_command.specs.Reading.{IsWithinLimits}
use Rattle.st_command.specs.Words.{Word}
use Rattle.st_command.specs.declared.command.Command.TheVariants.{Step}
use Rattle.st_emulation.specs.declared.emulation.Emulation.{Emulation}
use Rattle.st_filter.specs.Formula.{FilterValue}
use Rattle.st_filter.specs.Policies.{PoliciesValue, filters_in}
use Rattle.st_filter.specs.declared.filter.Action.{Action}
use Rattle.st_filter.specs.declared.filter.Action.TheVariants.{Permit, Deny, Ask}
use Rattle.st_filter.specs.declared.filter.FilterName.{FilterName}
use Rattle.st_filter.specs.declared.filter.Grant.{Grant}
use Rattle.st_filter.specs.declared.set.BinaryPolicy.{BinaryPolicy}
use Rattle.st_filter.specs.declared.set.TheConstants.{MOST_FILTERS}
use Rattle.st_law.specs.History.{looking_back, session_at}
use Rattle.st_law.specs.Inputs.{IsStartable}
use Rattle.st_law.specs.Lawful.{IsLawfulBack}
use Rattle.st_law.specs.Machine.{run}
use Rattle.st_law.specs.Sessions.{SessionFilter}
use Rattle.st_law.specs.Threads.{History}
use Rattle.st_law.specs.declared.input.Input.{Input}
use Rattle.st_law.specs.declared.input.Mode.TheVariants.{Learn, AskText}
use Rattle.st_law.specs.declared.input.Options.{Options}
use Rattle.st_law.specs.declared.input.ReadSchedule.{ReadSchedule}
use Rattle.st_law.proofs.Laws.{run_lawful}
use Rattle.st_learn.specs.Learnt.{learnt_policies}
use Rattle.st_outside.specs.Files.{FileView, Unknown, Absent, FileBytes, CanHold}
use Rattle.st_grammar.specs.Grammar.{Reads}
use Rattle.st_reread.specs.Readable.{AreTextBytes, HasPlainDollars, HasSmallIds, WasRead, Nothing, After}
use Rattle.st_grammar.specs.declared.env.Env.{Env}
use Rattle.st_reading.specs.Meaning.{Contents, Means, Runs}
use Rattle.st_reading.specs.Runnable.{IsRunnable}
use Rattle.st_reading.proofs.ReadFiles.{AreKept, IsStepRead, input_or, step_read}
use Rattle.st_relearn.specs.Plain.{HasPlainTexts}
use Rattle.st_printing.specs.Canon.{canon}
use Rattle.st_relearn.specs.Relearnt.{AreWritableInForce, HasWritableBlocks, HasWritableReplies, IsWritableKept, learnt_policy_text}
use Rattle.st_relearn.specs.Scripts.{HasPlainScript}
use Rattle.st_relearn.specs.Writable.{AreWritable, IsWritableAction, IsWritableBinary, IsWritableFilter, IsWritableGrant, IsWritablePolicy}
use Rattle.st_script.proofs.ReadTexts.{emulation_is}
use Rattle.st_script.specs.Reading.{script_in}
use Rattle.st_script.specs.Startable.{input_with}
use Rattle.st_script.specs.declared.reading.ReadScript.{ReadScript}
use Rattle.st_trace.specs.declared.entry.Choice.{Choice}
use Rattle.st_round_trip.specs.RoundTrip.{HoldsBytes, HoldBytes, IsReadAgain, IsScriptOf, enforcing}
use Rattle.st_top.specs.Learning.{policies_after}

-- ---- policies that can be written while filters are learnt can be written while they aren't

action_enforced : (env : Env) (a : Action) → IsWritableAction env a → IsWritableAction (enforcing env) a
action_enforced env Permit w = tt
action_enforced env (Deny errno) w = tt
action_enforced env Ask w = refl

grant_enforced : (env : Env) (name : FilterName) (a : Action) (g : Option Grant) → IsWritableGrant env name a g → IsWritableGrant (enforcing env) name a g
grant_enforced env name a None w = tt
grant_enforced env name Permit (Some grant) w = w
grant_enforced env name (Deny errno) (Some grant) w = absurd w.0
grant_enforced env name Ask (Some grant) w = absurd w.0

filter_enforced : (env : Env) (f : FilterValue) → IsWritableFilter env f → IsWritableFilter (enforcing env) f
filter_enforced env f w = record {
  name = w.name;
  expression = w.expression;
  action = action_enforced env f.action w.action;
  grant = grant_enforced env f.name f.action f.grant w.grant;
  predicate = w.predicate;
}

policy_enforced : (env : Env) (p : BinaryPolicy) → IsWritablePolicy env p → IsWritablePolicy (enforcing env) p
policy_enforced env p w = record { binary = w.binary; filters = All-weaker (IsWritableFilter env) (IsWritableFilter (enforcing env)) (filter_enforced env) p.filters w.filters }

enforced_writable : (env : Env) (set : List BinaryPolicy) → AreWritable env set → AreWritable (enforcing env) set
enforced_writable env set w = record { each = All-weaker (IsWritablePolicy env) (IsWritablePolicy (enforcing env)) (policy_enforced env) set w.each; new = w.new; few = w.few }

-- ---- files that are known

pub held_bytes : (h : FileView) (text : List ℕ) → HoldsBytes h → CanHold h text → AreTextBytes text
held_bytes Unknown text bytes there = absurd bytes
held_bytes Absent text bytes there = absurd there
held_bytes (FileBytes content) text bytes there = subst AreTextBytes (sym there) bytes

pub held_once : (h : FileView) (a b : List ℕ) → HoldsBytes h → CanHold h a → CanHold h b → a ≡ b
held_once Unknown a b bytes here there = absurd bytes
held_once Absent a b bytes here there = absurd here
held_once (FileBytes content) a b bytes here there = here ∙ sym there

-- ---- the laws that this proof uses

abbrev pub AreRunnable : Type 0
AreRunnable = (contents : Contents) (step : StepWords) (input : Input) (schedule : ReadSchedule) → Means contents (Step step) (Runs input schedule) → IsRunnable step input

abbrev pub AreExactlyWritable : Type 0
AreExactlyWritable = (env : Env) (set : List BinaryPolicy) → HasPlainDollars env → HasSmallIds env → WasRead env set ↔ AreWritable env set

abbrev pub ScriptsArePlain : Type 0
ScriptsArePlain = (text : List ℕ) (options : Options) (emulation : Emulation) (script : ReadScript) → AreTextBytes text → script_in text options emulation ≡ Ok script → HasPlainScript script

abbrev pub AddsWritable : Type 0
AddsWritable = (env : Env) (input : Input) → IsStartable input → HasPlainTexts input.start → HasWritableReplies env input → (h : History) → IsLawfulBack input h → All (IsWritableKept env) (session_at input h)

abbrev pub ForcedWritable : Type 0
ForcedWritable = (env : Env) (input : Input) → IsStartable input → AreWritable env input.policies.read → HasWritableBlocks env input → (h : History) → IsLawfulBack input h → AreWritableInForce env input.policies (looking_back input h).versions

abbrev pub ChangesWritable : Type 0
ChangesWritable = (env : Env) (input : Input) → IsStartable input → HasPlainTexts input.start → HasWritableBlocks env input → (h : History) → IsLawfulBack input h → All IsWritableBinary (looking_back input h).changed

abbrev pub TextsAreReadAgain : Type 0
TextsAreReadAgain = (env : Env) (policies : PoliciesValue) (versions : List ℕ → ℕ) (changed : List (List ℕ)) (session : List SessionFilter) → AreWritable env policies.read → AreWritableInForce env policies versions → All IsWritableBinary changed →
    All (IsWritableKept env) session → filters_in (learnt_policies policies versions changed session) ≤ MOST_FILTERS → Reads (canon (learnt_policies policies versions changed session) env.emulation) env [] (learnt_policies policies versions changed session)

abbrev pub ReadsOnce : Type 0
ReadsOnce = (text : List ℕ) (env : Env) (old a b : List BinaryPolicy) → Reads text env old a → Reads text env old b → a ≡ b

-- ---- what `step` has read

-- policies of files that consist of bytes were read from texts of bytes
read_kept : (contents : Contents) (names : List Word) → HoldBytes contents names → AreKept WasRead contents names
read_kept contents [] bytes = tt
read_kept contents (name ∷ names) bytes = (λ env text old set there reads was. After text old set (held_bytes (contents name) text bytes.0 there) was reads, read_kept contents names bytes.1)

module _ (contents : Contents) (step : StepWords) (bytes : HoldBytes contents (step.script ∷ step.policies)) where
  pub was_read : (i : Input) (schedule : ReadSchedule) → Means contents (Step step) (Runs i schedule) → IsStepRead WasRead contents step (Runs i schedule)
  was_read i schedule meant = step_read WasRead (λ env. Nothing) contents step (read_kept contents step.policies bytes.1) (Runs i schedule) tt meant

  -- there is only one script
  pub one_script : (script other : ReadScript) → IsScriptOf contents step script → IsScriptOf contents step other → script ≡ other
  one_script script other a b =
      let same : a.text ≡ b.text = held_once (contents step.script) a.text b.text bytes.0 a.there b.there in
      let read : script_in b.text step.options step.emulation ≡ Ok script = subst (λ (text : List ℕ). script_in text step.options step.emulation ≡ Ok script) same a.is in
      let both : Ok script ≡ Ok other = sym read ∙ b.is in
      cc

-- ---- a run that learns

no_replies : (env : Env) (i : Input) → i.options.mode ≡ Learn → HasWritableReplies env i
no_replies env i learns asks = absurd (clash (sym learns ∙ asks)) where
  clash : Learn ≡ AskText → ⊥
  clash f = cc

module _ (runnable : AreRunnable) (exactly : AreExactlyWritable) (plain : ScriptsArePlain) (adds : AddsWritable) (forced : ForcedWritable) (changes : ChangesWritable) (again : TextsAreReadAgain) (once : ReadsOnce) where
  module _ (env : Env) (i : Input) (startable : IsStartable i) (texts : HasPlainTexts i.start) (learns : i.options.mode ≡ Learn) (w : AreWritable env i.policies.read) (choices : List Choice) where
    run_read_again : filters_in (policies_after i choices) ≤ MOST_FILTERS → IsReadAgain (learnt_policy_text i (looking_back i (reverse (run i choices))) env.emulation) env (policies_after i choices)
    run_read_again few =
        let h : History = reverse (run i choices) in
        let lawful : IsLawfulBack i h = run_lawful i startable choices in
        let blocks : HasWritableBlocks env i = λ other. absurd (other learns) in
        let reads : Reads (learnt_policy_text i (looking_back i h) env.emulation) env [] (policies_after i choices) =
        again env i.policies (looking_back i h).versions (looking_back i h).changed (session_at i h) w (forced env i startable w blocks h lawful) (changes env i startable texts blocks h lawful)
        (adds env i startable texts (no_replies env i learns) h lawful) few in
        record { reads = reads; alone = λ other twice. once (learnt_policy_text i (looking_back i h) env.emulation) env [] other (policies_after i choices) twice reads }

  module _ (contents : Contents) (step : StepWords) (i : Input) (schedule : ReadSchedule) (bytes : HoldBytes contents (step.script ∷ step.policies)) (limits : IsWithinLimits (Step step)) (learns : step.options.mode ≡ Learn)
      (meant : Means contents (Step step) (Runs i schedule)) (script : ReadScript) (is_script : IsScriptOf contents step script) (choices : List Choice) (few : filters_in (policies_after i choices) ≤ MOST_FILTERS) where
    pub read_again : IsReadAgain (learnt_policy_text i (looking_back i (reverse (run i choices))) step.emulation) script.env (policies_after i choices)
        × IsReadAgain (learnt_policy_text i (looking_back i (reverse (run i choices))) step.emulation) (enforcing script.env) (policies_after i choices)
    read_again =
        let x = was_read contents step bytes i schedule meant in
        let same : script ≡ x.script = one_script contents step bytes script x.script is_script (record { text = x.script_text; there = x.script_held; is = x.script_is }) in
        let input_is : i ≡ input_with x.policies step.options x.script = ap (input_or i) x.outcome_is in
        let said : HasPlainScript x.script = plain x.script_text step.options step.emulation x.script (held_bytes (contents step.script) x.script_text bytes.0 x.script_held) x.script_is in
        let start : IsStartable i = startable_by (runnable contents step i schedule meant) in
        let texts : HasPlainTexts i.start = subst (λ (other : Input). HasPlainTexts other.start) (sym input_is) said.texts in
        let learning : i.options.mode ≡ Learn = subst (λ (other : Input). other.options.mode ≡ Learn) (sym input_is) learns in
        let w : AreWritable x.script.env x.policies = (exactly x.script.env x.policies said.dollars said.ids).0 x.kept in
        let here : AreWritable script.env i.policies.read = subst (λ (other : ReadScript). AreWritable other.env i.policies.read) (sym same) (subst (λ (other : Input). AreWritable x.script.env other.policies.read) (sym input_is) w) in
        let own : script.env.emulation ≡ step.emulation = emulation_is is_script.text step.options step.emulation script is_script.is in (
          under script.env script.env.emulation own (run_read_again script.env i start texts learning here choices few),
          under (enforcing script.env) script.env.emulation own (run_read_again (enforcing script.env) i start texts learning (enforced_writable script.env i.policies.read here) choices few),
        )
      where
        -- the text for one emulation is that for the same one
        under : (env : Env) (emulation : Emulation) → emulation ≡ step.emulation → IsReadAgain (learnt_policy_text i (looking_back i (reverse (run i choices))) emulation) env (policies_after i choices) →
            IsReadAgain (learnt_policy_text i (looking_back i (reverse (run i choices))) step.emulation) env (policies_after i choices)
        under env emulation same again = subst (λ (e : Emulation). IsReadAgain (learnt_policy_text i (looking_back i (reverse (run i choices))) e) env (policies_after i choices)) same again

        startable_by : IsRunnable step i → IsStartable i
        startable_by r = (r.can_run limits.1 limits.2).startable
