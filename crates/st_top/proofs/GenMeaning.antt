-- What `gen` means, and the end of it.
use Rattle.std.proofs.Common.{◌≡◌, ℕ, inl, inr, Bool, true, false, List, [], Option, Result, Ok, Err, refl, sym, ap, ◌∙◌, subst, arith}
use Rattle.st_emulation.specs.declared.emulation.Emulation.TheVariants.{Native}
use Rattle.st_grammar.specs.declared.fault.PolicyRefusal.{PolicyRefusal}
use Rattle.st_law.specs.declared.input.Input.{Input}
use Rattle.st_audit.specs.Summary.{summary_text}
use Rattle.st_generator.specs.Policy.{generated_policy}
use Rattle.st_generator.specs.Script.{generated_script}
use Rattle.st_generated_run.specs.Generated.{IsGeneratedLine, RefusesInput, generated_options, rested_run}
use Rattle.st_reading.specs.Meaning.{Meaning, Prints, Refuses, Replays, SaysPolicy, SaysScript}
use Rattle.st_reading.specs.declared.refusal.Refusal.{Refusal}
use Rattle.st_reading.specs.declared.refusal.Refusal.TheVariants as refusal
use Rattle.st_reading.proofs.Meanings.{HasOne, IsOne, is_one, is_some_one, policy_one, policy_some, script_one, script_some}
use Rattle.st_script.specs.Reading.{script_in}
use Rattle.st_script.specs.declared.reading.ReadScript.{ReadScript}
use Rattle.st_script_faults.specs.declared.fault.ScriptFault.{ScriptFault}
use Rattle.st_top.specs.Generated.{EndsGenerated, MeansGenerated, line_of_run}
use Rattle.st_top.specs.Outcome.{status_of}

-- what is printed of a script that was read, or why its policy is refused
abbrev SaysRun : ReadScript → Meaning → Type 0
SaysRun script outcome = SaysPolicy generated_policy script.env [] 1 (λ policies. outcome ≡ Prints (line_of_run script policies)) outcome

-- whether a replay is meant
abbrev is_replay : Meaning → Bool
is_replay (Replays i trace) = true
is_replay _ = false

module _ (rounds : ℕ) where
  abbrev read : Result ReadScript ScriptFault
  read = script_in (generated_script rounds) generated_options Native

  -- what is meant, by what the script is read as
  as_said : (m : Meaning) (said : Result ReadScript ScriptFault) → read ≡ said → SaysScript said (λ script. SaysRun script m) m → MeansGenerated rounds m
  as_said m said is x = subst (λ (other : Result ReadScript ScriptFault). SaysScript other (λ script. SaysRun script m) m) (sym is) x

  -- ---- one meaning

  pub one_generated : IsOne (MeansGenerated rounds)
  one_generated =
      script_one read SaysRun
      (λ script. policy_one generated_policy script.env [] 1 (λ policies o. o ≡ Prints (line_of_run script policies)) (λ policies. is_one (Prints (line_of_run script policies))))

  pub some_generated : HasOne (MeansGenerated rounds)
  some_generated =
      script_some read SaysRun
      (λ script. policy_some generated_policy script.env [] 1 (λ policies o. o ≡ Prints (line_of_run script policies)) (omega arith)
      (λ policies few. is_some_one (Prints (line_of_run script policies)) refl))

  -- nothing is replayed
  pub generates_no_replay : (i : Input) (trace : List ℕ) → MeansGenerated rounds (Replays i trace) → ⊥
  generates_no_replay i trace meant = by read meant
    where
      said : (script : ReadScript) → SaysRun script (Replays i trace) → ⊥
      said script (inl p) = let clash : is_replay (Prints (line_of_run script p.0)) ≡ true = ap is_replay (sym p.2) in cc
      said script (inr p) = let clash : is_replay (Refuses (refusal.Policy 1 p.0)) ≡ true = ap is_replay (sym p.2) in cc

      by : (other : Result ReadScript ScriptFault) → SaysScript other (λ script. SaysRun script (Replays i trace)) (Replays i trace) → ⊥
      by (Ok script) x = said script x
      by (Err fault) x = let clash : is_replay (Refuses (refusal.Script fault)) ≡ true = ap is_replay (sym x) in cc

  -- ---- the end

  pub line_meant : (line : List ℕ) → IsGeneratedLine rounds line → MeansGenerated rounds (Prints line)
  line_meant line x =
      let i = x.meant in
      as_said (Prints line) (Ok i.script) i.script_is (inl (i.policies, i.policies_are, ap Prints (x.line_is ∙ ap (λ (j : Input). summary_text (rested_run j)) i.input_is)))

  policy_refused : (script : ReadScript) (n : ℕ) (fault : PolicyRefusal) → n ≡ 1 → SaysPolicy generated_policy script.env [] 1 (λ policies. Refuses (refusal.Policy 1 fault) ≡ Prints (line_of_run script policies)) (Refuses (refusal.Policy 1 fault)) → SaysRun script (Refuses (refusal.Policy n fault))
  policy_refused script n fault first x = subst (λ (k : ℕ). SaysRun script (Refuses (refusal.Policy k fault))) (sym first) x

  -- a refusal ends the call, and nothing is written
  pub refused_end : (sink : ℕ) (old : Option (List ℕ)) (refused : Refusal) → RefusesInput generated_policy (generated_script rounds) refused → EndsGenerated rounds sink sink old old (status_of refused)
  refused_end sink old (refusal.Missing w) (inl x) = absurd x
  refused_end sink old (refusal.Missing w) (inr x) = absurd x.2
  refused_end sink old (refusal.TooLong w) (inl x) = absurd x
  refused_end sink old (refusal.TooLong w) (inr x) = absurd x.2
  refused_end sink old refusal.ReadFault (inl x) = absurd x
  refused_end sink old refusal.ReadFault (inr x) = absurd x.2
  refused_end sink old (refusal.Script fault) (inl x) = (as_said (Refuses (refusal.Script fault)) (Err fault) x refl, refl)
  refused_end sink old (refusal.Script fault) (inr x) = absurd x.2
  refused_end sink old (refusal.Policy n fault) (inl x) = absurd x
  refused_end sink old (refusal.Policy n fault) (inr x) =
      (as_said (Refuses (refusal.Policy n fault)) (Ok x.0) x.1 (policy_refused x.0 n fault x.2.0 (inr (fault, x.2.1, refl))), refl)
  refused_end sink old refusal.NoMemory x = refl
