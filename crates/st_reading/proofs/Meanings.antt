-- A command over known files has exactly one meaning.
use Rattle.std.proofs.Common.{◌≡◌, ℕ, ◌+◌, ◌≤◌, ◌<◌, ◌⊎◌, inl, inr, Bool, true, false, List, [], ◌∷◌, ◌++◌, length, Option, Some, None, is_some, option_map, Result, Ok, Err, refl, sym, ap, ◌∙◌, subst, arith, nat_le, leb-true}
use Rattle.std.proofs.lemmas.Bool.Decides.{nat_tests}
use Rattle.st_outside.specs.Files.{FileView, Unknown, Absent, FileBytes}
use Rattle.st_outside.specs.declared.files.TheConstants.{FILE_LIMIT}
use Rattle.st_filter.specs.declared.set.BinaryPolicy.{BinaryPolicy}
use Rattle.st_filter.specs.declared.set.TheConstants.{MOST_FILTERS}
use Rattle.st_filter.specs.Policies.{filters_in}
use Rattle.st_grammar.specs.declared.env.Env.{Env}
use Rattle.st_grammar.specs.Reading.{refusal_in}
use Rattle.st_grammar.specs.Grammar as policy
use Rattle.st_grammar.specs.declared.fault.PolicyRefusal.{PolicyRefusal}
use Rattle.st_printing.specs.Canon.{canon}
use Rattle.st_grammar.proofs.Complete.{reads-once, reads-faultless, faultless-reads}
use Rattle.st_law.specs.declared.input.Input.{Input}
use Rattle.st_schedule.specs.Schedule.{schedule_in}
use Rattle.st_script_faults.specs.declared.fault.ScriptFault.{ScriptFault}
use Rattle.st_script.specs.Reading.{script_in}
use Rattle.st_script.specs.Startable.{input_with}
use Rattle.st_script.specs.declared.reading.ReadScript.{ReadScript}
use Rattle.st_command.specs.Words.{Word}
use Rattle.st_command.specs.Command.{CheckWords, check_options}
use Rattle.st_command.specs.declared.command.Command.{Command}
use Rattle.st_command.specs.declared.command.Command.TheVariants as command
use Rattle.st_reading.specs.Bare.{bare_env}
use Rattle.st_reading.specs.Meaning.{Contents, InputWords, Meaning, Stops, Refuses, Runs, Replays, Prints, is_stop, ReadsFile, Fetches, SaysScript, SaysPolicy, MeansPolicies, MeansAfterScript, MeansInput, step_input, replay_input, MeansCanon, MeansCheck, Means, names_of, IsFileKnown, AreFilesKnown}
use Rattle.st_reading.specs.declared.refusal.Refusal.TheVariants.{Missing, TooLong, Script, Policy}
use Rattle.st_reading.specs.declared.refusal.Which.{Which}
use Rattle.st_reading.specs.declared.refusal.Which.TheVariants as which

-- ---- at most one meaning

-- a relation that holds of at most one outcome, besides stops
abbrev pub IsOne : (Meaning → Type 0) → Type 0
IsOne R = (a b : Meaning) → is_stop a ≡ false → is_stop b ≡ false → R a → R b → a ≡ b

stopped : (o : Meaning) (w : Which) (P : Type 0) → is_stop o ≡ false → o ≡ Stops w → P
stopped o w P go is = let yes : is_stop o ≡ true = ap is_stop is in cc

too_long : (content text : List ℕ) → text ≡ content → FILE_LIMIT < length content → length text ≤ FILE_LIMIT → ⊥
too_long content text same long short = let e : length text ≡ length content = ap length same in omega arith

reads_one : (h : FileView) (w : Which) (R : List ℕ → Meaning → Type 0) → IsFileKnown h → ((text : List ℕ) → IsOne (R text)) → (a b : Meaning) → is_stop a ≡ false → is_stop b ≡ false → ReadsFile h w (λ text. R text a) a → ReadsFile h w (λ text. R text b) b → a ≡ b
reads_one Unknown w R known one a b u v p q = absurd known
reads_one Absent w R known one a b u v (inl p) (inl q) = p.1 ∙ sym q.1
reads_one Absent w R known one a b u v (inl p) (inr (inl q)) = absurd q.0
reads_one Absent w R known one a b u v (inl p) (inr (inr q)) = absurd q.1
reads_one Absent w R known one a b u v (inr (inl p)) q = absurd p.0
reads_one Absent w R known one a b u v (inr (inr p)) q = absurd p.1
reads_one (FileBytes text) w R known one a b u v (inl p) q = absurd p.0
reads_one (FileBytes text) w R known one a b u v (inr p) (inl q) = absurd q.0
reads_one (FileBytes text) w R known one a b u v (inr (inl p)) (inr (inl q)) = p.1 ∙ sym q.1
reads_one (FileBytes text) w R known one a b u v (inr (inl p)) (inr (inr q)) = absurd (too_long text q.0 q.1 p.0 q.2)
reads_one (FileBytes text) w R known one a b u v (inr (inr p)) (inr (inl q)) = absurd (too_long text p.0 p.1 q.0 p.2)
reads_one (FileBytes text) w R known one a b u v (inr (inr p)) (inr (inr q)) =
    one text a b u v (subst (λ t. R t a) p.1 p.3) (subst (λ t. R t b) q.1 q.3)

-- a known file has one content, so a fetch has one meaning if each content has
pub fetches_one : (h : FileView) (w : Which) (R : List ℕ → Meaning → Type 0) → IsFileKnown h → ((text : List ℕ) → IsOne (R text)) → IsOne (λ o. Fetches h w (λ text. R text o) o)
fetches_one h w R known one a b u v (inl p) q = stopped a w (a ≡ b) u p
fetches_one h w R known one a b u v (inr p) (inl q) = stopped b w (a ≡ b) v q
fetches_one h w R known one a b u v (inr p) (inr q) = reads_one h w R known one a b u v p q

pub script_one : (said : Result ReadScript ScriptFault) (R : ReadScript → Meaning → Type 0) → ((script : ReadScript) → IsOne (R script)) → IsOne (λ o. SaysScript said (λ script. R script o) o)
script_one (Ok script) R one a b u v p q = one script a b u v p q
script_one (Err fault) R one a b u v p q = p ∙ sym q

abbrev fault_or : PolicyRefusal → Option PolicyRefusal → PolicyRefusal
fault_or d None = d
fault_or d (Some h) = h

same_fault : (n : ℕ) (f g : PolicyRefusal) → Some f ≡ Some g → Refuses (Policy n f) ≡ Refuses (Policy n g)
same_fault n f g e = ap (λ (h : PolicyRefusal). Refuses (Policy n h)) (ap (fault_or f) e)

none_known : (found : Option PolicyRefusal) → option_map (λ refusal. refusal.fault) found ≡ None → found ≡ None
none_known None e = refl
none_known (Some refusal) e = absurd (cc)

-- a text that has a reading is not refused
unrefused : (text : List ℕ) (env : Env) (before policies : List BinaryPolicy) → policy.Reads text env before policies → refusal_in text env before ≡ None
unrefused text env before policies reads = none_known (refusal_in text env before) (reads-faultless text env before policies reads)

-- a text has exactly one reading, or a first fault
pub policy_one : (text : List ℕ) (env : Env) (before : List BinaryPolicy) (n : ℕ) (R : List BinaryPolicy → Meaning → Type 0) → ((policies : List BinaryPolicy) → IsOne (R policies)) →
    IsOne (λ o. SaysPolicy text env before n (λ policies. R policies o) o)
policy_one text env before n R one a b u v (inl p) (inl q) =
    one q.0 a b u v (subst (λ ps. R ps a) (reads-once text env before p.0 q.0 p.1 q.1) p.2) q.2
policy_one text env before n R one a b u v (inl p) (inr q) = let e : None ≡ Some q.0 = sym (unrefused text env before p.0 p.1) ∙ q.1 in absurd (cc)
policy_one text env before n R one a b u v (inr p) (inl q) = let e : None ≡ Some p.0 = sym (unrefused text env before q.0 q.1) ∙ p.1 in absurd (cc)
policy_one text env before n R one a b u v (inr p) (inr q) = p.2 ∙ same_fault n p.0 q.0 (sym p.1 ∙ q.1) ∙ sym q.2

pub policies_one : (contents : Contents) (env : Env) (R : List BinaryPolicy → Meaning → Type 0) → ((policies : List BinaryPolicy) → IsOne (R policies)) →
    (names : List Word) → AreFilesKnown contents names → (n : ℕ) (before : List BinaryPolicy) → IsOne (λ o. MeansPolicies contents env n names before (λ policies. R policies o) o)
policies_one contents env R one [] known n before = one before
policies_one contents env R one (name ∷ names) known n before =
    fetches_one (contents name) (which.Policy n) (λ text o. SaysPolicy text env before n (λ policies. MeansPolicies contents env (n + 1) names policies (λ policies. R policies o) o) o) known.0
    (λ text. policy_one text env before n (λ policies o. MeansPolicies contents env (n + 1) names policies (λ policies. R policies o) o)
    (policies_one contents env R one names known.1 (n + 1)))

known_front : (contents : Contents) (front back : List Word) → AreFilesKnown contents (front ++ back) → AreFilesKnown contents front
known_front contents [] back known = tt
known_front contents (name ∷ front) back known = (known.0, known_front contents front back known.1)

known_back : (contents : Contents) (front back : List Word) → AreFilesKnown contents (front ++ back) → AreFilesKnown contents back
known_back contents [] back known = known
known_back contents (name ∷ front) back known = known_back contents front back known.1

pub is_one : (outcome : Meaning) → IsOne (λ o. o ≡ outcome)
is_one outcome a b u v p q = p ∙ sym q

canon_one : (contents : Contents) (name : Word) (env : Env) → IsFileKnown (contents name) → IsOne (MeansCanon contents name env)
canon_one contents name env known =
    policies_one contents env (λ policies o. o ≡ Prints (canon policies env.emulation)) (λ policies. is_one (Prints (canon policies env.emulation))) (name ∷ []) (known, tt) 1 []

-- an input has one meaning if what follows it has
pub input_one : (contents : Contents) (words : InputWords) (R : Input → Meaning → Type 0) → ((input : Input) → IsOne (R input)) → IsFileKnown (contents words.script) → AreFilesKnown contents words.policies →
    IsOne (λ o. MeansInput contents words (λ input. R input o) o)
input_one contents words R one script policies =
    fetches_one (contents words.script) which.Script (λ text o. SaysScript (script_in text words.options words.emulation) (λ script. MeansAfterScript contents words (λ input. R input o) script o) o) script
    (λ text. script_one (script_in text words.options words.emulation) (λ script o. MeansAfterScript contents words (λ input. R input o) script o)
    (λ script. policies_one contents script.env (λ policies o. R (input_with policies words.options script) o)
    (λ policies. one (input_with policies words.options script)) words.policies policies 1 []))

-- and so if a last file follows it, by what its text gives
last_one : (contents : Contents) (words : InputWords) (last : Word) (w : Which) (M : Input → List ℕ → Meaning) → AreFilesKnown contents (words.script ∷ (words.policies ++ last ∷ [])) →
    IsOne (λ o. MeansInput contents words (λ input. Fetches (contents last) w (λ text. o ≡ M input text) o) o)
last_one contents words last w M known =
    let last_known : IsFileKnown (contents last) = (known_back contents words.policies (last ∷ []) known.1).0 in
    input_one contents words (λ input o. Fetches (contents last) w (λ text. o ≡ M input text) o)
    (λ input. fetches_one (contents last) w (λ text o. o ≡ M input text) last_known (λ text. is_one (M input text)))
    known.0 (known_front contents words.policies (last ∷ []) known.1)

check_one : (contents : Contents) (other : CheckWords) (script : Option Word) → let check : CheckWords = record other { script = script } in
    AreFilesKnown contents (names_of (command.Check check)) → IsOne (MeansCheck contents check script)
check_one contents other None known = canon_one contents other.policy (bare_env (is_some other.ids) other.emulation) known.0
check_one contents other (Some name) known =
    let check : CheckWords = record other { script = Some name } in
    fetches_one (contents name) which.Script (λ text o. SaysScript (script_in text (check_options check) check.emulation) (λ script. MeansCanon contents check.policy script.env o) o) known.0
    (λ text. script_one (script_in text (check_options check) check.emulation) (λ script o. MeansCanon contents check.policy script.env o) (λ script. canon_one contents check.policy script.env known.1.0))

pub one_meaning : (contents : Contents) (c : Command) → AreFilesKnown contents (names_of c) → IsOne (Means contents c)
one_meaning contents (command.Step step) known = last_one contents (step_input step) step.schedule which.Schedule (λ input text. Runs input (schedule_in text)) known
one_meaning contents (command.Replay replay) known = last_one contents (replay_input replay) replay.trace which.Trace Replays known
one_meaning contents (command.Check check) known = check_one contents check check.script known

-- ---- at least one meaning

-- a relation that holds of some outcome that is no stop
abbrev pub HasOne : (Meaning → Type 0) → Type 0
HasOne R = (o : Meaning) × (is_stop o ≡ false) × R o

cut_or_whole : (text : List ℕ) (b : Bool) → nat_le (length text) FILE_LIMIT ≡ b → (length text ≤ FILE_LIMIT) ⊎ (FILE_LIMIT < length text)
cut_or_whole text true e = inl (leb-true (length text) FILE_LIMIT e)
cut_or_whole text false e = inr (grind (arith, nat_tests))

pub fetches_some : (h : FileView) (w : Which) (R : List ℕ → Meaning → Type 0) → IsFileKnown h → ((text : List ℕ) → HasOne (R text)) → HasOne (λ o. Fetches h w (λ text. R text o) o)
fetches_some Unknown w R known some = absurd known
fetches_some Absent w R known some = (Refuses (Missing w), refl, inr (inl (tt, refl)))
fetches_some (FileBytes text) w R known some = by (cut_or_whole text (nat_le (length text) FILE_LIMIT) refl)
  where
    by : (length text ≤ FILE_LIMIT) ⊎ (FILE_LIMIT < length text) → HasOne (λ o. Fetches (FileBytes text) w (λ text. R text o) o)
    by (inl whole) = let one = some text in (one.0, one.1, inr (inr (inr (text, refl, whole, one.2))))
    by (inr long) = (Refuses (TooLong w), refl, inr (inr (inl (long, refl))))

pub script_some : (said : Result ReadScript ScriptFault) (R : ReadScript → Meaning → Type 0) → ((script : ReadScript) → HasOne (R script)) → HasOne (λ o. SaysScript said (λ script. R script o) o)
script_some (Ok script) R some = some script
script_some (Err fault) R some = (Refuses (Script fault), refl, refl)

pub policy_some : (text : List ℕ) (env : Env) (before : List BinaryPolicy) (n : ℕ) (R : List BinaryPolicy → Meaning → Type 0) → filters_in before ≤ MOST_FILTERS →
    ((policies : List BinaryPolicy) → filters_in policies ≤ MOST_FILTERS → HasOne (R policies)) → HasOne (λ o. SaysPolicy text env before n (λ policies. R policies o) o)
policy_some text env before n R few some = by (refusal_in text env before) refl
  where
    by : (found : Option PolicyRefusal) → refusal_in text env before ≡ found → HasOne (λ o. SaysPolicy text env before n (λ policies. R policies o) o)
    by (Some fault) e = (Refuses (Policy n fault), refl, inr (fault, e, refl))
    by None e =
        let read = faultless-reads text env before few (ap (option_map (λ refusal. refusal.fault)) e) in
        let one = some read.0 read.1.few in
        (one.0, one.1, inl (read.0, read.1, one.2))

pub policies_some : (contents : Contents) (env : Env) (R : List BinaryPolicy → Meaning → Type 0) → ((policies : List BinaryPolicy) → HasOne (R policies)) →
    (names : List Word) → AreFilesKnown contents names → (n : ℕ) (before : List BinaryPolicy) → filters_in before ≤ MOST_FILTERS → HasOne (λ o. MeansPolicies contents env n names before (λ policies. R policies o) o)
policies_some contents env R some [] known n before few = some before
policies_some contents env R some (name ∷ names) known n before few =
    fetches_some (contents name) (which.Policy n) (λ text o. SaysPolicy text env before n (λ policies. MeansPolicies contents env (n + 1) names policies (λ policies. R policies o) o) o) known.0
    (λ text. policy_some text env before n (λ policies o. MeansPolicies contents env (n + 1) names policies (λ policies. R policies o) o) few
    (λ policies more. policies_some contents env R some names known.1 (n + 1) policies more))

pub is_some_one : (outcome : Meaning) → is_stop outcome ≡ false → HasOne (λ o. o ≡ outcome)
is_some_one outcome go = (outcome, go, refl)

canon_some : (contents : Contents) (name : Word) (env : Env) → IsFileKnown (contents name) → HasOne (MeansCanon contents name env)
canon_some contents name env known =
    policies_some contents env (λ policies o. o ≡ Prints (canon policies env.emulation)) (λ policies. is_some_one (Prints (canon policies env.emulation)) refl) (name ∷ []) (known, tt) 1 [] (omega arith)

-- an input has a meaning if what follows it has
pub input_some : (contents : Contents) (words : InputWords) (R : Input → Meaning → Type 0) → ((input : Input) → HasOne (R input)) → IsFileKnown (contents words.script) → AreFilesKnown contents words.policies →
    HasOne (λ o. MeansInput contents words (λ input. R input o) o)
input_some contents words R some script policies =
    fetches_some (contents words.script) which.Script (λ text o. SaysScript (script_in text words.options words.emulation) (λ script. MeansAfterScript contents words (λ input. R input o) script o) o) script
    (λ text. script_some (script_in text words.options words.emulation) (λ script o. MeansAfterScript contents words (λ input. R input o) script o)
    (λ script. policies_some contents script.env (λ policies o. R (input_with policies words.options script) o)
    (λ policies. some (input_with policies words.options script)) words.policies policies 1 [] (omega arith)))

-- and so if a last file follows it, by what its text gives
last_some : (contents : Contents) (words : InputWords) (last : Word) (w : Which) (M : Input → List ℕ → Meaning) → ((input : Input) (text : List ℕ) → is_stop (M input text) ≡ false) →
    AreFilesKnown contents (words.script ∷ (words.policies ++ last ∷ [])) → HasOne (λ o. MeansInput contents words (λ input. Fetches (contents last) w (λ text. o ≡ M input text) o) o)
last_some contents words last w M go known =
    let last_known : IsFileKnown (contents last) = (known_back contents words.policies (last ∷ []) known.1).0 in
    input_some contents words (λ input o. Fetches (contents last) w (λ text. o ≡ M input text) o)
    (λ input. fetches_some (contents last) w (λ text o. o ≡ M input text) last_known (λ text. is_some_one (M input text) (go input text)))
    known.0 (known_front contents words.policies (last ∷ []) known.1)

check_some : (contents : Contents) (other : CheckWords) (script : Option Word) → let check : CheckWords = record other { script = script } in
    AreFilesKnown contents (names_of (command.Check check)) → HasOne (MeansCheck contents check script)
check_some contents other None known = canon_some contents other.policy (bare_env (is_some other.ids) other.emulation) known.0
check_some contents other (Some name) known =
    let check : CheckWords = record other { script = Some name } in
    fetches_some (contents name) which.Script (λ text o. SaysScript (script_in text (check_options check) check.emulation) (λ script. MeansCanon contents check.policy script.env o) o) known.0
    (λ text. script_some (script_in text (check_options check) check.emulation) (λ script o. MeansCanon contents check.policy script.env o) (λ script. canon_some contents check.policy script.env known.1.0))

pub some_meaning : (contents : Contents) (c : Command) → AreFilesKnown contents (names_of c) → HasOne (Means contents c)
some_meaning contents (command.Step step) known = last_some contents (step_input step) step.schedule which.Schedule (λ input text. Runs input (schedule_in text)) (λ input text. refl) known
some_meaning contents (command.Replay replay) known = last_some contents (replay_input replay) replay.trace which.Trace Replays (λ input text. refl) known
some_meaning contents (command.Check check) known = check_some contents check check.script known
