-- A call that sets ids is made under its process's own ids, if no filter for it has a grant.
use native.Mathlib.Omega.{arith}
use Rattle.std.proofs.Common.{◌≡◌, ℕ, zero, suc, ◌&&◌, Bool, true, false, cond, not, List, [], ◌∷◌, ◌++◌, length, map, reverse, Option, Some, None, refl, sym, ap, subst, ◌∙◌}
use Rattle.std.proofs.lemmas.Bool.{and_parts, true≢false}
use Rattle.std.proofs.lemmas.Option.{same_Some}
use Rattle.std.specs.List.{All, filter}
use Rattle.std.specs.Prelude.{slice_get}
use Rattle.std.specs.Str.{bytes_eq}
use Rattle.st_base.specs.Numbered.{item_at_number}
use Rattle.st_base.specs.declared.ids.Ids.{Ids}
use Rattle.st_calls.specs.Call.{rule_of, sets_ids}
use Rattle.st_calls.specs.Rules.{same_rule}
use Rattle.st_calls.specs.declared.argument.ArgText.{ArgText}
use Rattle.st_calls.specs.declared.call.SysCall.{SysCall}
use Rattle.st_calls.specs.declared.call.SysCall.TheVariants.{SetUid, SetEuid, SetGid, SetEgid}
use Rattle.st_calls.specs.declared.judged.Snapshot.{Snapshot}
use Rattle.st_calls.specs.declared.judged.Verdict.{Verdict}
use Rattle.st_calls.specs.declared.judged.Verdict.TheVariants.{Permit, Refuse, Unmatched}
use Rattle.st_calls.specs.declared.rule.Rule.{Rule}
use Rattle.st_calls.proofs.Rules.{same_rule-Decides}
use Rattle.st_effects.specs.Progress.{Progress, Word, Look, Stuck, Ready}
use Rattle.st_filter.specs.Formula.{FilterValue}
use Rattle.st_filter.specs.Judging.{holds, verdict, verdict_by, verdict_from}
use Rattle.st_filter.specs.Policies.{PoliciesValue, filters_of, filters_of_block, in_force, is_for, names_set_id_call, policy_of, sets_ids_by}
use Rattle.st_filter.specs.declared.filter.Action.{Action}
use Rattle.st_filter.specs.declared.filter.Action.TheVariants as action
use Rattle.st_filter.specs.declared.filter.FilterName.{FilterName}
use Rattle.st_filter.specs.declared.filter.FilterName.TheVariants as name
use Rattle.st_filter.specs.declared.filter.Grant.{Grant}
use Rattle.st_filter.specs.declared.set.BinaryPolicy.{BinaryPolicy}
use Rattle.st_filter.specs.declared.set.Reply.{Reply}
use Rattle.st_trace.specs.declared.entry.CallResult.{CallResult}
use Rattle.st_trace.specs.declared.entry.Change.{Change}
use Rattle.st_trace.specs.declared.entry.Choice.{Choice}
use Rattle.st_trace.specs.declared.entry.Entry.{Entry}
use Rattle.st_trace.specs.declared.entry.Entry.TheVariants.{Learned, Replied}
use Rattle.st_law.specs.declared.input.Input.{Input}
use Rattle.st_law.specs.History.{looking_back}
use Rattle.st_law.specs.Inputs.{IsStartable}
use Rattle.st_law.specs.Lawful.{IsLawful, IsLawfulBack, IsUsed, IsUsedHeld}
use Rattle.st_law.specs.Machine.{history, state_after, state_of_run}
use Rattle.st_law.specs.Messages.{Head}
use Rattle.st_law.specs.Sessions.{SessionFilter, is_kept_for, is_reply_for, learnt_by, replied_by, session_filters, verdict_or}
use Rattle.st_law.specs.State.{State, decision_in, process_in, progress_in, read_at, snapshot_in, snapshot_of_progress, snapshot_with}
use Rattle.st_law.specs.Threads.{History}
use Rattle.st_law.proofs.Laws.{all_at, lawful_history}
use Rattle.st_law.proofs.ShortArguments.{HasRule}
use Rattle.st_law.proofs.ShortLinks.{short_of}
use Rattle.st_law.proofs.Ties.{state-is}
use Rattle.st_reached.specs.Grants.{AllUngranted, IsUngrantedForSetting, RepliesUngranted, SetIdsUngranted}
use Rattle.st_reached.specs.Reached.{SetsOwnIds}

-- ---- what filters without a grant permit

first_of : {X : Type 0} (P : X → Type 0) (x : X) (xs : List X) → All P (x ∷ xs) → P x
first_of P x xs all = all 0 x (omega arith)

rest_of : {X : Type 0} (P : X → Type 0) (x : X) (xs : List X) → All P (x ∷ xs) → All P xs
rest_of P x xs all = λ k d low. all (suc k) d (omega (arith, low))

abbrev permit_ids : Ids → Verdict → Ids
permit_ids other (Permit n ids) = ids
permit_ids other (Refuse n errno) = other
permit_ids other Unmatched = other

-- a filter without a grant permits under the ids of the copies
by_one : (n k : ℕ) (grant : Option Grant) (own ids : Ids) (act : Action) → grant ≡ None → verdict_by n grant own act ≡ Permit k ids → ids ≡ own
by_one n k None own ids action.Permit none e = sym (ap (permit_ids own) e)
by_one n k (Some g) own ids action.Permit none e = cc
by_one n k grant own ids (action.Deny errno) none e = cc
by_one n k grant own ids action.Ask none e = cc

-- a filter that is for a rule that sets ids
for_setting : (rule : Rule) (given : FilterName) → sets_ids_by rule ≡ true → is_for rule given ≡ true → names_set_id_call given ≡ true
for_setting rule (name.Rule other) sets same = ap sets_ids_by ((same_rule-Decides other rule).0 same) ∙ sets
for_setting rule (name.Other other) sets same = absurd (true≢false (sym same))

module _ (s : Snapshot) (rule : Rule) (sets : sets_ids_by rule ≡ true) where
  first_owns : (f : FilterValue) (later : List FilterValue) → f.grant ≡ None → ((n k : ℕ) (ids : Ids) → verdict_from n later s ≡ Permit k ids → ids ≡ s.ids) → (n k : ℕ) (ids : Ids) (b : Bool) → cond b (verdict_by n f.grant s.ids f.action) (verdict_from (suc n) later s) ≡ Permit k ids → ids ≡ s.ids
  first_owns f later none rest n k ids true e = by_one n k f.grant s.ids ids f.action none e
  first_owns f later none rest n k ids false e = rest (suc n) k ids e

  filters_by : (f : FilterValue) (later : List FilterValue) → IsUngrantedForSetting f → ((n k : ℕ) (ids : Ids) → verdict_from n later s ≡ Permit k ids → ids ≡ s.ids) → (b : Bool) → is_for rule f.name ≡ b → (n k : ℕ) (ids : Ids) → verdict_from n (cond b (f ∷ later) later) s ≡ Permit k ids → ids ≡ s.ids
  filters_by f later ungranted rest true is n k ids e = first_owns f later (ungranted (for_setting rule f.name sets is)) rest n k ids (holds f s) e
  filters_by f later ungranted rest false is n k ids e = rest n k ids e

  -- the filters of a rule that sets ids permit under the ids of the copies
  filters_own : (filters : List FilterValue) → All IsUngrantedForSetting filters → (n k : ℕ) (ids : Ids) → verdict_from n (filters_of rule filters) s ≡ Permit k ids → ids ≡ s.ids
  filters_own [] all n k ids e = cc
  filters_own (f ∷ later) all n k ids e = filters_by f (filters_of rule later) (first_of IsUngrantedForSetting f later all) (filters_own later (rest_of IsUngrantedForSetting f later all)) (is_for rule f.name) refl n k ids e

-- one of two lists of filters
either : (b : Bool) (first second : List FilterValue) → All IsUngrantedForSetting first → All IsUngrantedForSetting second → All IsUngrantedForSetting (cond b first second)
either true first second x y = x
either false first second x y = y

-- the filters of a policy
policy_ungranted : (policies : List BinaryPolicy) (binary : List ℕ) → SetIdsUngranted policies → All IsUngrantedForSetting (policy_of policies binary)
policy_ungranted [] binary all = λ k d low. absurd (omega (arith, low))
policy_ungranted (p ∷ policies) binary all = either (bytes_eq p.binary binary) p.filters (policy_of policies binary)
    (first_of (λ (policy : BinaryPolicy). All IsUngrantedForSetting policy.filters) p policies all)
    (policy_ungranted policies binary (rest_of (λ (policy : BinaryPolicy). All IsUngrantedForSetting policy.filters) p policies all))

-- the filters of a policy of the script
block_ungranted : (blocks : List BinaryPolicy) (k : ℕ) (binary : List ℕ) → SetIdsUngranted blocks → (o : Option BinaryPolicy) → slice_get blocks k ≡ o → All IsUngrantedForSetting (filters_of_block o binary)
block_ungranted blocks k binary all None e = λ j d low. absurd (omega (arith, low))
block_ungranted blocks k binary all (Some block) e = either (bytes_eq block.binary binary) block.filters []
    (all_at (λ (policy : BinaryPolicy). All IsUngrantedForSetting policy.filters) blocks k block all e) (λ j d low. absurd (omega (arith, low)))

-- the filters in force for a binary
in_force_ungranted : (policies : PoliciesValue) (binary : List ℕ) (version : ℕ) → AllUngranted policies → All IsUngrantedForSetting (in_force policies binary version)
in_force_ungranted policies binary zero all = policy_ungranted policies.read binary all.0
in_force_ungranted policies binary (suc before) all = block_ungranted policies.blocks before binary all.1 (slice_get policies.blocks before) refl

-- ---- the rule of a call that sets ids

rule_sets : (call : SysCall) (regs : List ℕ) (aliasing : Bool) → sets_ids call ≡ true → sets_ids_by (rule_of call regs aliasing) ≡ true
rule_sets call regs false sets = sets
rule_sets SetUid regs true sets = refl
rule_sets SetEuid regs true sets = refl
rule_sets SetGid regs true sets = refl
rule_sets SetEgid regs true sets = refl
rule_sets _ regs true sets = absurd (true≢false (sym sets))

-- the rule of a number's copies is that of its call and registers
copies_rule : (i : Input) (q : ℕ) (s : Snapshot) (o : Option Head) (p : Progress) → HasRule i o → snapshot_of_progress q o p ≡ Some s → s.rule ≡ rule_of s.call s.regs i.options.aliasing
copies_rule i q s None p rule e = cc
copies_rule i q s (Some head) (Word part place) rule e = cc
copies_rule i q s (Some head) (Look part name) rule e = cc
copies_rule i q s (Some head) (Stuck errno) rule e = cc
copies_rule i q s (Some head) (Ready args) rule e = subst (λ (copies : Snapshot). copies.rule ≡ rule_of copies.call copies.regs i.options.aliasing) (same_Some (snapshot_with q head args) s e) rule

-- ---- the filters of a session

-- a filter of the session has no grant, if it is for a rule that sets ids
abbrev IsOwnFor : SessionFilter → Type 0
IsOwnFor kept = sets_ids_by kept.rule ≡ true → kept.filter.grant ≡ None

abbrev AreOwnFor : List SessionFilter → Type 0
AreOwnFor [] = Unit {0}
AreOwnFor (kept ∷ session) = IsOwnFor kept × AreOwnFor session

own_append : (session more : List SessionFilter) → AreOwnFor session → AreOwnFor more → AreOwnFor (session ++ more)
own_append [] more x y = y
own_append (kept ∷ session) more x y = (x.0, own_append session more x.1 y)

-- a learnt filter has no grant
learnt_own : (o : Option Snapshot) → AreOwnFor (learnt_by o)
learnt_own None = tt
learnt_own (Some s) = (λ sets. refl, tt)

module _ (i : Input) (ungranted : RepliesUngranted i.replies) where
  -- a reply is added to the session for the rule that it names
  replied_own : (n : ℕ) (r : Option Reply) → item_at_number i.replies n ≡ r → (policy : List ℕ) (rule : Rule) (left : Bool) → (is_reply_for policy rule r && left) ≡ true → (o : Option Snapshot) → ((s : Snapshot) → o ≡ Some s → s.rule ≡ rule) → AreOwnFor (replied_by r o)
  replied_own n None e policy rule left for o same = tt
  replied_own n (Some r) e policy rule left for None same = tt
  replied_own zero (Some r) e policy rule left for (Some s) same = cc
  replied_own (suc k) (Some r) e policy rule left for (Some s) same =
      let is : is_for rule r.filter.name ≡ true = (and_parts (bytes_eq r.binary policy) (is_for rule r.filter.name) (and_parts (bytes_eq r.binary policy && is_for rule r.filter.name) left for).0).1 in
      (λ sets. all_at (λ each. IsUngrantedForSetting each.filter) i.replies k r ungranted e (for_setting rule r.filter.name (sym (ap sets_ids_by (same s refl)) ∙ sets) is), tt)

  own_after : (st : State) (e : Entry) → IsLawful i st e → AreOwnFor st.session → AreOwnFor (state_after i st e).session
  own_after st (Learned q n) y own = own_append st.session (learnt_by (snapshot_in st q)) own (learnt_own (snapshot_in st q))
  own_after st (Replied q reply n) y own = own_append st.session (replied_by (item_at_number i.replies reply) (snapshot_in st q)) own
      (replied_own reply (item_at_number i.replies reply) refl y.copies.policy y.copies.rule (not (st.replied reply)) y.there (snapshot_in st q) (λ s e. ap (λ (copies : Snapshot). copies.rule) (same_Some s y.copies (sym e ∙ y.asked.copies))))
  own_after st _ y own = own

  session_own : (h : History) → IsLawfulBack i h → AreOwnFor (looking_back i h).session
  session_own [] lawful = tt
  session_own (e ∷ h) lawful = own_after (looking_back i h) e lawful.0 (session_own h lawful.1)

module _ (s : Snapshot) (policy : List ℕ) (rule : Rule) (sets : sets_ids_by rule ≡ true) where
  kept_by : (kept : SessionFilter) (more : List SessionFilter) → IsOwnFor kept → ((n k : ℕ) (ids : Ids) → verdict_from n (session_filters more policy rule) s ≡ Permit k ids → ids ≡ s.ids) → (b : Bool) → is_kept_for policy rule kept ≡ b
      → (n k : ℕ) (ids : Ids) → verdict_from n (map (λ each. each.filter) (cond b (kept ∷ filter (is_kept_for policy rule) more) (filter (is_kept_for policy rule) more))) s ≡ Permit k ids → ids ≡ s.ids
  kept_by kept more own rest true is n k ids e =
      let same : kept.rule ≡ rule = (same_rule-Decides kept.rule rule).0 (and_parts (bytes_eq kept.policy policy) (same_rule kept.rule rule) is).1 in
      first_owns s rule sets kept.filter (session_filters more policy rule) (own (ap sets_ids_by same ∙ sets)) rest n k ids (holds kept.filter s) e
  kept_by kept more own rest false is n k ids e = rest n k ids e

  -- the session's filters of a rule that sets ids permit under the ids of the copies
  session_permits : (session : List SessionFilter) → AreOwnFor session → (n k : ℕ) (ids : Ids) → verdict_from n (session_filters session policy rule) s ≡ Permit k ids → ids ≡ s.ids
  session_permits [] own n k ids e = cc
  session_permits (kept ∷ more) own n k ids e = kept_by kept more own.0 (session_permits more own.1) (is_kept_for policy rule kept) refl n k ids e

-- the filters that were read decide, or otherwise those of the session
either_permits : (v w : Verdict) (k : ℕ) (ids own : Ids) → (v ≡ Permit k ids → ids ≡ own) → (w ≡ Permit k ids → ids ≡ own) → verdict_or v w ≡ Permit k ids → ids ≡ own
either_permits (Permit n read) w k ids own by_read by_session e = by_read e
either_permits (Refuse n errno) w k ids own by_read by_session e = cc
either_permits Unmatched w k ids own by_read by_session e = by_session e

-- ---- a call is made

module _ (i : Input) (ungranted : AllUngranted i.policies) (st : State) (session : AreOwnFor st.session) where
  -- the decision on copies with a rule that sets ids permits under the ids of the copies
  copies_own : (s : Snapshot) (k : ℕ) (ids : Ids) → sets_ids_by s.rule ≡ true → decision_in i st s ≡ Permit k ids → ids ≡ s.ids
  copies_own s k ids sets e =
      either_permits (verdict (read_at i st s.policy s.rule) s) (verdict_from (suc (length (read_at i st s.policy s.rule))) (session_filters st.session s.policy s.rule) s) k ids s.ids
      (λ is. filters_own s s.rule sets (in_force i.policies s.policy (st.versions s.policy)) (in_force_ungranted i.policies s.policy (st.versions s.policy) ungranted) 1 k ids is)
      (λ is. session_permits s s.policy s.rule sets st.session session (suc (length (read_at i st s.policy s.rule))) k ids is) e

  module _ (rules : (q : ℕ) → HasRule i (st.messages q).head) where
    held_own : (t q : ℕ) (call : SysCall) (regs : List ℕ) (args : List ArgText) (ids : Ids) (result : CallResult) (changes : List Change) → IsUsedHeld i st t q call regs args ids result changes → sets_ids call ≡ true → ids ≡ (process_in st t).ids
    held_own t q call regs args ids result changes y sets =
        let s : Snapshot = y.copies in
        let rule : s.rule ≡ rule_of s.call s.regs i.options.aliasing = copies_rule i q s (st.messages q).head (progress_in st q) (rules q) y.permitted.judged.copies in
        copies_own s y.permitted.filter ids (ap sets_ids_by rule ∙ rule_sets s.call s.regs i.options.aliasing (ap sets_ids y.call_is ∙ sets)) y.permitted.permitted ∙ y.permitted.identity

    used_own : (t : ℕ) (seq : Option ℕ) (call : SysCall) (regs : List ℕ) (args : List ArgText) (ids : Ids) (result : CallResult) (changes : List Change) → IsUsed i st t seq call regs args ids result changes → sets_ids call ≡ true → ids ≡ (process_in st t).ids
    used_own t None call regs args ids result changes y sets = y.identity
    used_own t (Some q) call regs args ids result changes y sets = held_own t q call regs args ids result changes y sets

-- ---- every run

-- a call that sets ids is made under its process's own ids
pub sets_own_ids : (i : Input) → IsStartable i → AllUngranted i.policies → RepliesUngranted i.replies → (choices : List Choice) → SetsOwnIds i (state_of_run i choices)
sets_own_ids i startable ungranted replies choices =
    let h : History = history i (reverse choices) in
    let lawful : IsLawfulBack i h = lawful_history i startable (reverse choices) in
    subst (SetsOwnIds i) (sym (state-is i h)) (record { own = used_own i ungranted (looking_back i h) (session_own i replies h lawful) (short_of i startable h lawful).rules })
