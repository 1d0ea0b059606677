-- The refusal of a part is the refusal that the whole command means.
use Rattle.std.proofs.Common.{◌≡◌, ℕ, ◌+◌, ◌⊎◌, inl, inr, false, List, [], ◌∷◌, ◌++◌, length, take, Option, Some, None, Result, Ok, Err, refl, ap, sym, ◌∙◌, subst, arith, append_assoc}
use Rattle.st_outside.specs.Count.{HasRisen}
use Rattle.st_emulation.specs.declared.emulation.Emulation.{Emulation}
use Rattle.st_filter.specs.declared.set.BinaryPolicy.{BinaryPolicy}
use Rattle.st_grammar.specs.declared.env.Env.{Env}
use Rattle.st_printing.specs.Canon.{canon}
use Rattle.st_grammar.specs.Reading.{refusal_in}
use Rattle.st_grammar.specs.Grammar as policy
use Rattle.st_law.specs.declared.input.Options.{Options}
use Rattle.st_script.specs.Reading.{script_in}
use Rattle.st_script.specs.declared.reading.ReadScript.{ReadScript}
use Rattle.st_command.specs.Words.{Word}
use Rattle.st_command.specs.Command.{CheckWords, check_options}
use Rattle.st_command.specs.Grammar.{maybe_word}
use Rattle.st_command.specs.declared.command.Command.{Command}
use Rattle.st_command.specs.declared.command.Command.TheVariants as command
use Rattle.st_reading.specs.Meaning.{Contents, Meaning, is_stop, Stops, Refuses, Prints, SaysScript, SaysPolicy, Fetches, MeansPolicies, MeansCanon, MeansCheck, Means, names_to}
use Rattle.st_reading.specs.Files.{FetchRefused, ScriptRefused, PolicyRefused, ArePolicies, ReachesFile, PoliciesRefused, GivesEnv, EnvRefused}
use Rattle.st_reading.specs.Ends.{AreAskedTo, AskedTo, CanStopAt, RefusesFiles, RefusesReading, as_meaning, ending, EndsReading}
use Rattle.st_reading.specs.declared.reading.Reading.{Reading}
use Rattle.st_reading.specs.declared.reading.Reading.TheVariants as reading
use Rattle.st_reading.specs.declared.refusal.Refusal.{Refusal}
use Rattle.st_reading.specs.declared.refusal.Refusal.TheVariants.{Missing, TooLong, Script, Policy, ReadFault, NoMemory}
use Rattle.st_reading.specs.declared.refusal.Which.{Which}
use Rattle.st_reading.specs.declared.refusal.Which.TheVariants as which
use Rattle.st_reading.proofs.Leads.{leads_has, leads_script, leads_policies, take_to, has_fits}
use Rattle.st_reading.proofs.Meanings.{IsOne}

module _ (contents : Contents) (IsMeaning : Meaning → Type 0) (names_up_to : Which → List Word) (faults faults_after : ℕ) (old new : List Word) where
  -- one of the files, which is reached and was the last that was asked for
  module _ (w : Which) (name : Word) (front : List Word) (named : names_up_to w ≡ front ++ name ∷ []) (asked : AreAskedTo names_up_to w old new) where
    stops : IsMeaning (Stops w) → CanStopAt IsMeaning names_up_to old new w
    stops meant = record { meant = meant; asked = asked }

    pub fetch_refused : (R : List ℕ → Meaning → Type 0) → ((o : Meaning) → Fetches (contents name) w (λ text. R text o) o → IsMeaning o) →
        (r : Refusal) → FetchRefused (contents name) w faults faults_after r → RefusesFiles contents IsMeaning names_up_to faults faults_after old new r
    fetch_refused R lead (Missing other) p =
        subst (λ v. IsMeaning (Refuses (Missing v)) × AreAskedTo names_up_to v old new) (sym p.0) (lead (Refuses (Missing w)) (inr (inl (p.1, refl))), asked)
    fetch_refused R lead (TooLong other) p =
        subst (λ v. IsMeaning (Refuses (TooLong v)) × AreAskedTo names_up_to v old new) (sym p.0) (lead (Refuses (TooLong w)) (inr (inr (inl (p.1, refl)))), asked)
    fetch_refused R lead ReadFault p = (p, (w, stops (lead (Stops w) (inl refl))))
    fetch_refused R lead NoMemory p =
        inr (w, stops (lead (Stops w) (inl refl)), record { front = front; name = name; names_are = named; fits = p })
    fetch_refused R lead (Script fault) p = absurd p
    fetch_refused R lead (Policy n fault) p = absurd p

  -- a script file that is refused
  pub script_refused : (name : Word) (options : Options) (emulation : Emulation) (R : ReadScript → Meaning → Type 0) → names_up_to which.Script ≡ name ∷ [] → AreAskedTo names_up_to which.Script old new →
      ((o : Meaning) → Fetches (contents name) which.Script (λ text. SaysScript (script_in text options emulation) (λ script. R script o) o) o → IsMeaning o) →
      (r : Refusal) → ScriptRefused (contents name) options emulation faults faults_after r → RefusesFiles contents IsMeaning names_up_to faults faults_after old new r
  script_refused name options emulation R named asked lead (Script fault) p = (
    lead (Refuses (Script fault)) (leads_has (contents name) which.Script _ (λ text. SaysScript (script_in text options emulation) (λ script. R script (Refuses (Script fault))) (Refuses (Script fault))) (Refuses (Script fault)) p
        (subst (λ s. SaysScript s (λ script. R script (Refuses (Script fault))) (Refuses (Script fault))) (sym p.says) refl)),
    asked,
  )
  script_refused name options emulation R named asked lead (Missing w) p =
      fetch_refused which.Script name [] named asked (λ text o. SaysScript (script_in text options emulation) (λ script. R script o) o) lead (Missing w) p
  script_refused name options emulation R named asked lead (TooLong w) p =
      fetch_refused which.Script name [] named asked (λ text o. SaysScript (script_in text options emulation) (λ script. R script o) o) lead (TooLong w) p
  script_refused name options emulation R named asked lead ReadFault p =
      fetch_refused which.Script name [] named asked (λ text o. SaysScript (script_in text options emulation) (λ script. R script o) o) lead ReadFault p
  script_refused name options emulation R named asked lead NoMemory p =
      fetch_refused which.Script name [] named asked (λ text o. SaysScript (script_in text options emulation) (λ script. R script o) o) lead NoMemory p
  script_refused name options emulation R named asked lead (Policy n fault) p = absurd p

  -- one of several policy files that is refused
  module _ (env : Env) (names first : List Word) (Read : List BinaryPolicy → Meaning → Type 0)
      (lead : (o : Meaning) → MeansPolicies contents env 1 names [] (λ policies. Read policies o) o → IsMeaning o)
      (named : (n : ℕ) → names_up_to (which.Policy n) ≡ first ++ take n names) where
    module _ (n : ℕ) (name : Word) (before : List BinaryPolicy) (comes : ReachesFile contents env names n name before) (asked_are : new ≡ (old ++ first) ++ (comes.front ++ name ∷ [])) where
      abbrev Here : List ℕ → Meaning → Type 0
      Here text o = SaysPolicy text env before n (λ policies. MeansPolicies contents env (n + 1) comes.back policies (λ policies. Read policies o) o) o

      leads_here : (o : Meaning) → Fetches (contents name) (which.Policy n) (λ text. Here text o) o → IsMeaning o
      leads_here o m =
          let number : n ≡ 1 + length comes.front = omega (arith, comes.number) in
          lead o (subst (λ ns. MeansPolicies contents env 1 ns [] (λ policies. Read policies o) o) (sym comes.names_are)
          (leads_policies contents env (λ policies. Read policies o) o comes.front (name ∷ comes.back) 1 [] before comes.read
          (subst (λ k. MeansPolicies contents env k (name ∷ comes.back) before (λ policies. Read policies o) o) number m)))

      named_here : names_up_to (which.Policy n) ≡ (first ++ comes.front) ++ name ∷ []
      named_here =
          named n ∙ ap (λ ns. first ++ take n ns) comes.names_are ∙ ap (λ k. first ++ take k (comes.front ++ name ∷ comes.back)) comes.number ∙
          ap (λ ns. first ++ ns) (take_to comes.front name comes.back) ∙ sym (append_assoc first comes.front (name ∷ []))

      asked_here : AreAskedTo names_up_to (which.Policy n) old new
      asked_here =
          asked_are ∙ append_assoc old first (comes.front ++ name ∷ []) ∙
          ap (λ ns. old ++ ns) (sym (append_assoc first comes.front (name ∷ [])) ∙ sym named_here)

      policy_refused : (r : Refusal) → PolicyRefused (contents name) env before n faults faults_after r → RefusesFiles contents IsMeaning names_up_to faults faults_after old new r
      policy_refused (Policy other fault) p =
          let o : Meaning = Refuses (Policy n fault) in
          subst (λ k. IsMeaning (Refuses (Policy k fault)) × AreAskedTo names_up_to (which.Policy k) old new) (sym p.0)
          (leads_here o (leads_has (contents name) (which.Policy n) (λ text. refusal_in text env before ≡ Some fault) (λ text. Here text o) o p.1 (inr (fault, p.1.says, refl))), asked_here)
      policy_refused (Missing w) p = fetch_refused (which.Policy n) name (first ++ comes.front) named_here asked_here Here leads_here (Missing w) p
      policy_refused (TooLong w) p = fetch_refused (which.Policy n) name (first ++ comes.front) named_here asked_here Here leads_here (TooLong w) p
      policy_refused ReadFault p = fetch_refused (which.Policy n) name (first ++ comes.front) named_here asked_here Here leads_here ReadFault p
      policy_refused NoMemory p = fetch_refused (which.Policy n) name (first ++ comes.front) named_here asked_here Here leads_here NoMemory p
      policy_refused (Script fault) p = absurd p

    pub policies_refused : (r : Refusal) → PoliciesRefused contents env names faults faults_after (old ++ first) new r → RefusesFiles contents IsMeaning names_up_to faults faults_after old new r
    policies_refused r p = policy_refused p.n p.name p.policies p.comes p.asked r p.refused

pub append_nil : (names : List Word) → names ++ [] ≡ names
append_nil [] = refl
append_nil (name ∷ names) = ap (λ ns. name ∷ ns) (append_nil names)

-- ---- `check`

-- the environment that `check` reads its policy with leads to what is meant after it
check_leads : (contents : Contents) (check : CheckWords) (script : Option Word) (env : Env) → GivesEnv contents check script env → (o : Meaning) → MeansCanon contents check.policy env o → MeansCheck contents check script o
check_leads contents check None env gives o m = subst (λ e. MeansCanon contents check.policy e o) gives m
check_leads contents check (Some name) env gives o m =
    leads_script (contents name) (check_options check) check.emulation gives.0 (λ script. MeansCanon contents check.policy script.env o) o gives.1
    (subst (λ e. MeansCanon contents check.policy e o) gives.2 m)

module _ (contents : Contents) (faults faults_after : ℕ) (old new : List Word) where
  check_refused : (other : CheckWords) (script : Option Word) (r : Refusal) → EnvRefused contents (record other { script = script }) script faults faults_after r →
      new ≡ old ++ maybe_word script → RefusesReading contents (command.Check (record other { script = script })) faults faults_after old new r
  check_refused other None r p asked =
      subst (RefusesReading contents (command.Check (record other { script = None })) faults faults_after old new) (sym p) (inl (asked ∙ append_nil old))
  check_refused other (Some name) r p asked =
      let check : CheckWords = record other { script = Some name } in
      script_refused contents (Means contents (command.Check check)) (names_to (command.Check check)) faults faults_after old new name (check_options check) check.emulation (λ script o. MeansCanon contents check.policy script.env o) refl asked (λ o m. m) r p

  pub check_env_refused : (check : CheckWords) (r : Refusal) → EnvRefused contents check check.script faults faults_after r → new ≡ old ++ maybe_word check.script →
      RefusesReading contents (command.Check check) faults faults_after old new r
  check_env_refused check r p asked = check_refused check check.script r p asked

  module _ (check : CheckWords) (env : Env) (gives : GivesEnv contents check check.script env) where
    pub check_policies_refused : (r : Refusal) → PoliciesRefused contents env (check.policy ∷ []) faults faults_after (old ++ maybe_word check.script) new r →
        RefusesReading contents (command.Check check) faults faults_after old new r
    check_policies_refused r p =
        policies_refused contents (Means contents (command.Check check)) (names_to (command.Check check)) faults faults_after old new env (check.policy ∷ []) (maybe_word check.script) (λ policies o. o ≡ Prints (canon policies env.emulation))
        (check_leads contents check check.script env gives) (λ n. refl) r p

    canon_meant : (policies : List BinaryPolicy) → ArePolicies contents env (check.policy ∷ []) [] policies → (o : Meaning) → o ≡ Prints (canon policies env.emulation) → Means contents (command.Check check) o
    canon_meant policies are o m =
        check_leads contents check check.script env gives o (leads_policies contents env (λ ps. o ≡ Prints (canon ps env.emulation)) o (check.policy ∷ []) [] 1 [] policies are m)

    asked_whole : new ≡ (old ++ maybe_word check.script) ++ check.policy ∷ [] → AskedTo (command.Check check) (which.Policy 1) old new
    asked_whole asked = asked ∙ append_assoc old (maybe_word check.script) (check.policy ∷ [])

    pub check_read : (policies : List BinaryPolicy) → ArePolicies contents env (check.policy ∷ []) [] policies → new ≡ (old ++ maybe_word check.script) ++ check.policy ∷ [] →
        (printed : List ℕ) → printed ≡ canon policies env.emulation → EndsReading contents (command.Check check) faults faults_after old new (Ok (reading.Text printed))
    check_read policies are asked printed is = (canon_meant policies are (Prints printed) (ap Prints is), asked_whole asked)

    -- memory runs out for its text
    pub check_wants_memory : (policies : List BinaryPolicy) → ArePolicies contents env (check.policy ∷ []) [] policies → new ≡ (old ++ maybe_word check.script) ++ check.policy ∷ [] →
        RefusesReading contents (command.Check check) faults faults_after old new NoMemory
    check_wants_memory policies are asked = inr (
      which.Policy 1,
      record { meant = check_leads contents check check.script env gives (Stops (which.Policy 1)) (inl refl); asked = asked_whole asked },
      record { front = maybe_word check.script; name = check.policy; names_are = refl; fits = has_fits (contents check.policy) (λ text. policy.Reads text env [] are.0) are.1 },
    )

-- ---- the answer is what the command means

as_no_stop : (read : Reading) → is_stop (as_meaning read) ≡ false
as_no_stop (reading.Run input schedule) = refl
as_no_stop (reading.Replay input text) = refl
as_no_stop (reading.Text text) = refl

-- if a command has one meaning, and no count rose, the answer is that meaning, unless memory runs out
pub answers_meaning : (contents : Contents) (c : Command) (faults faults_after : ℕ) (old new : List Word) (result : Result Reading Refusal) → IsOne (Means contents c) →
    EndsReading contents c faults faults_after old new result → (HasRisen faults faults_after → ⊥) → (o : Meaning) → is_stop o ≡ false → Means contents c o → (result ≡ Err NoMemory) ⊎ (ending result ≡ o)
answers_meaning contents c faults faults_after old new (Ok read) one p quiet o go m = inr (one (as_meaning read) o (as_no_stop read) go p.0 m)
answers_meaning contents c faults faults_after old new (Err (Missing w)) one p quiet o go m = inr (one (Refuses (Missing w)) o refl go p.0 m)
answers_meaning contents c faults faults_after old new (Err (TooLong w)) one p quiet o go m = inr (one (Refuses (TooLong w)) o refl go p.0 m)
answers_meaning contents c faults faults_after old new (Err (Script fault)) one p quiet o go m = inr (one (Refuses (Script fault)) o refl go p.0 m)
answers_meaning contents c faults faults_after old new (Err (Policy n fault)) one p quiet o go m = inr (one (Refuses (Policy n fault)) o refl go p.0 m)
answers_meaning contents c faults faults_after old new (Err ReadFault) one p quiet o go m = absurd (quiet p.0)
answers_meaning contents c faults faults_after old new (Err NoMemory) one p quiet o go m = inl refl
