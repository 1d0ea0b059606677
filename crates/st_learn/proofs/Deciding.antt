-- The policies with the session's filters decide as the filters in force do, followed by the session's.
use Rattle.std.proofs.Common.{◌≡◌, ◌≢◌, ◌+◌, ◌∙◌, ◌++◌, ◌||◌, ◌&&◌, ℕ, suc, Bool, true, false, cond, List, [], ◌∷◌, length, map, filter, refl, ap, sym, arith}
use Rattle.std.proofs.lemmas.Cmp.{nat_list_eq_equiv}
use Rattle.std.proofs.lemmas.List.Elements.{All-head, All-tail}
use Rattle.std.proofs.lemmas.Slice.Eq.{bytes_eq-Decides}
use Rattle.std.specs.List.{All, list_any}
use Rattle.std.specs.Str.{bytes_eq}
use Rattle.st_calls.specs.Rules.{same_rule}
use Rattle.st_calls.specs.declared.judged.Snapshot.{Snapshot}
use Rattle.st_calls.specs.declared.rule.Rule.{Rule}
use Rattle.st_filter.specs.Formula.{FilterValue}
use Rattle.st_filter.specs.Judging.{holds, verdict, verdict_by, verdict_from}
use Rattle.st_filter.specs.Policies.{PoliciesValue, filters_in_force, filters_of, has_policy, in_force, is_for, policy_of, read_filters}
use Rattle.st_filter.specs.declared.filter.Action.{Action}
use Rattle.st_filter.specs.declared.filter.Action.TheVariants as action
use Rattle.st_filter.specs.declared.set.BinaryPolicy.{BinaryPolicy}
use Rattle.st_law.specs.Sessions.{SessionFilter, decision, is_kept_for, session_filters, verdict_or}
use Rattle.st_learn.specs.Learnt.{AreChanged, IsForItsRule, NoneAsksInForce, filters_added, learnt_binaries, learnt_policies, learnt_policy}
use Rattle.st_learn.specs.Sessions.{is_filter_for}
use Rattle.st_learn.proofs.Binaries.{has_same, known_all}

-- no filter asks, and each is for its own rule, one after the other
abbrev NoneAsks : List FilterValue → Type 0
NoneAsks [] = Unit {0}
NoneAsks (f ∷ fs) = (f.action ≢ action.Ask) × NoneAsks fs

abbrev pub AreOwn : List SessionFilter → Type 0
AreOwn [] = Unit {0}
AreOwn (kept ∷ session) = IsForItsRule kept × AreOwn session

each_plain : (fs : List FilterValue) → All (λ f. f.action ≢ action.Ask) fs → NoneAsks fs
each_plain [] plain = tt
each_plain (f ∷ fs) plain = (All-head (λ g. g.action ≢ action.Ask) f fs plain, each_plain fs (All-tail (λ g. g.action ≢ action.Ask) f fs plain))

-- ---- the filters of a policy

-- a policy that doesn't exist has no filters
no_policy : (ps : List BinaryPolicy) (b : List ℕ) → has_policy ps b ≡ false → policy_of ps b ≡ []
no_policy [] b none = refl
no_policy (p ∷ ps) b none = by (bytes_eq p.binary b) none (no_policy ps b) where
  by : (t : Bool) → (t || has_policy ps b) ≡ false → (has_policy ps b ≡ false → policy_of ps b ≡ []) → cond t p.filters (policy_of ps b) ≡ []
  by true none later = cc
  by false none later = later none

-- if a policy's filters are in force at version 0, and it wasn't read, there are none
none_in_force : (policies : PoliciesValue) (versions : List ℕ → ℕ) (b : List ℕ) → versions b ≡ 0 → list_any (bytes_eq b) (map (λ p. p.binary) policies.read) ≡ false → in_force policies b (versions b) ≡ []
none_in_force policies versions b first unread = ap (in_force policies b) first ∙ no_policy policies.read b (has_same policies.read b ∙ unread)

with_learnt : (policies : PoliciesValue) (versions : List ℕ → ℕ) (session : List SessionFilter) (bs : List (List ℕ)) (b : List ℕ)
    → policy_of (map (learnt_policy policies versions session) bs) b ≡ cond (list_any (bytes_eq b) bs) (in_force policies b (versions b) ++ filters_added session b) []
with_learnt policies versions session [] b = refl
with_learnt policies versions session (c ∷ bs) b = by (bytes_eq c b) refl (with_learnt policies versions session bs b) where
  by : (t : Bool) → bytes_eq c b ≡ t → policy_of (map (learnt_policy policies versions session) bs) b ≡ cond (list_any (bytes_eq b) bs) (in_force policies b (versions b) ++ filters_added session b) []
      → cond t (in_force policies c (versions c) ++ filters_added session c) (policy_of (map (learnt_policy policies versions session) bs) b) ≡ cond (bytes_eq b c || list_any (bytes_eq b) bs) (in_force policies b (versions b) ++ filters_added session b) []
  by true same later =
      ap (λ binary. in_force policies binary (versions binary) ++ filters_added session binary) ((bytes_eq-Decides c b).0 same)
      ∙ (λ k. cond ((sym (nat_list_eq_equiv.symm b c ∙ same)) k || list_any (bytes_eq b) bs) (in_force policies b (versions b) ++ filters_added session b) [])
  by false same later = later ∙ (λ k. cond ((sym (nat_list_eq_equiv.symm b c ∙ same)) k || list_any (bytes_eq b) bs) (in_force policies b (versions b) ++ filters_added session b) [])

-- each policy has the filters in force and then the session's
pub policy_learnt : (policies : PoliciesValue) (versions : List ℕ → ℕ) (changed : List (List ℕ)) (session : List SessionFilter) (b : List ℕ) → AreChanged changed versions session
    → policy_of (learnt_policies policies versions changed session) b ≡ in_force policies b (versions b) ++ filters_added session b
policy_learnt policies versions changed session b are =
    with_learnt policies versions session (learnt_binaries policies.read changed) b
    ∙ ap (λ t. cond t (in_force policies b (versions b) ++ filters_added session b) []) (known_all changed (map (λ p. p.binary) policies.read) b)
    ∙ by (list_any (bytes_eq b) (map (λ p. p.binary) policies.read)) (list_any (bytes_eq b) changed) refl refl where
      by : (read some : Bool) → list_any (bytes_eq b) (map (λ p. p.binary) policies.read) ≡ read → list_any (bytes_eq b) changed ≡ some → cond (read || some) (in_force policies b (versions b) ++ filters_added session b) [] ≡ in_force policies b (versions b) ++ filters_added session b
      by true some is more = refl
      by false true is more = refl
      by false false is more = λ k. sym (none_in_force policies versions b (are.versions_stay b more) is) k ++ sym (are.filters_stay b more) k

-- ---- the filters of a rule

rule_append : (rule : Rule) (fs gs : List FilterValue) → filters_of rule (fs ++ gs) ≡ filters_of rule fs ++ filters_of rule gs
rule_append rule [] gs = refl
rule_append rule (f ∷ fs) gs = by (is_for rule f.name) (rule_append rule fs gs) where
  by : (t : Bool) → filters_of rule (fs ++ gs) ≡ filters_of rule fs ++ filters_of rule gs → cond t (f ∷ filters_of rule (fs ++ gs)) (filters_of rule (fs ++ gs)) ≡ cond t (f ∷ filters_of rule fs) (filters_of rule fs) ++ filters_of rule gs
  by true later = ap (λ rest. f ∷ rest) later
  by false later = later

added_by : (t w : Bool) (rule : Rule) (kept : SessionFilter) (xs ys : List SessionFilter) → is_for rule kept.filter.name ≡ w → filters_of rule (map (λ each. each.filter) xs) ≡ map (λ each. each.filter) ys
    → filters_of rule (map (λ each. each.filter) (cond t (kept ∷ xs) xs)) ≡ map (λ each. each.filter) (cond (t && w) (kept ∷ ys) ys)
added_by true true rule kept xs ys is later = λ k. cond (is k) (kept.filter ∷ later k) (later k)
added_by true false rule kept xs ys is later = λ k. cond (is k) (kept.filter ∷ later k) (later k)
added_by false w rule kept xs ys is later = later

rule_added : (session : List SessionFilter) (b : List ℕ) (rule : Rule) → AreOwn session → filters_of rule (filters_added session b) ≡ session_filters session b rule
rule_added [] b rule own = refl
rule_added (kept ∷ session) b rule own =
    added_by (is_filter_for b kept) (same_rule kept.rule rule) rule kept (filter (is_filter_for b) session) (filter (is_kept_for b rule) session) (ap (is_for rule) own.0) (rule_added session b rule own.1)

-- ---- verdicts

-- if no filter asks, the later filters decide what the earlier ones don't
both_decide : (n : ℕ) (fs gs : List FilterValue) (s : Snapshot) → NoneAsks fs → verdict_from n (fs ++ gs) s ≡ verdict_or (verdict_from n fs s) (verdict_from (n + length fs) gs s)
both_decide n [] gs s plain = ap (λ m. verdict_from m gs s) (let same : n ≡ n + 0 = omega arith in same)
both_decide n (f ∷ fs) gs s plain = by (holds f s) (both_decide (suc n) fs gs s plain.1) where
  decided : (a : Action) → a ≢ action.Ask → verdict_by n f.grant s.ids a ≡ verdict_or (verdict_by n f.grant s.ids a) (verdict_from (n + suc (length fs)) gs s)
  decided action.Permit plain = refl
  decided (action.Deny errno) plain = refl
  decided action.Ask plain = absurd (plain refl)

  by : (t : Bool) → verdict_from (suc n) (fs ++ gs) s ≡ verdict_or (verdict_from (suc n) fs s) (verdict_from (suc n + length fs) gs s)
      → cond t (verdict_by n f.grant s.ids f.action) (verdict_from (suc n) (fs ++ gs) s) ≡ verdict_or (cond t (verdict_by n f.grant s.ids f.action) (verdict_from (suc n) fs s)) (verdict_from (n + suc (length fs)) gs s)
  by true later = decided f.action plain.0
  by false later = later ∙ ap (λ m. verdict_or (verdict_from (suc n) fs s) (verdict_from m gs s)) (let same : suc n + length fs ≡ n + suc (length fs) = omega arith in same)

none_of_rule : (rule : Rule) (fs : List FilterValue) → NoneAsks fs → NoneAsks (filters_of rule fs)
none_of_rule rule [] plain = tt
none_of_rule rule (f ∷ fs) plain = by (is_for rule f.name) (none_of_rule rule fs plain.1) where
  by : (t : Bool) → NoneAsks (filters_of rule fs) → NoneAsks (cond t (f ∷ filters_of rule fs) (filters_of rule fs))
  by true rest = (plain.0, rest)
  by false rest = rest

own_rules : (session : List SessionFilter) → All IsForItsRule session → AreOwn session
own_rules [] own = tt
own_rules (kept ∷ session) own = (All-head IsForItsRule kept session own, own_rules session (All-tail IsForItsRule kept session own))

-- therefore the policies decide as the filters in force and the session did
module _ (policies : PoliciesValue) (versions : List ℕ → ℕ) (changed : List (List ℕ)) (session : List SessionFilter) (s : Snapshot) (plain : NoneAsksInForce policies versions) (are : AreChanged changed versions session) where
  abbrev Decides : Type 0
  Decides = verdict (read_filters (learnt_policies policies versions changed session) s.policy s.rule) s ≡ decision (filters_in_force policies s.policy (versions s.policy) s.rule) (session_filters session s.policy s.rule) s

  pub decides_by : AreOwn session → Decides
  decides_by own =
      let filters : List FilterValue = in_force policies s.policy (versions s.policy) in
      let force : List FilterValue = filters_of s.rule filters in
      ap (λ fs. verdict (filters_of s.rule fs) s) (policy_learnt policies versions changed session s.policy are)
      ∙ ap (λ fs. verdict fs s) (rule_append s.rule filters (filters_added session s.policy) ∙ ap (λ fs. force ++ fs) (rule_added session s.policy s.rule own))
      ∙ both_decide 1 force (session_filters session s.policy s.rule) s (none_of_rule s.rule filters (each_plain filters (plain s.policy)))
      ∙ ap (λ n. verdict_or (verdict force s) (verdict_from n (session_filters session s.policy s.rule) s)) (let same : 1 + length force ≡ suc (length force) = omega arith in same)

  pub decides_alike : All IsForItsRule session → Decides
  decides_alike own = decides_by (own_rules session own)
