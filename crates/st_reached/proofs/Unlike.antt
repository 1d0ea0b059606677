-- An answer of the operator for one policy and rule leaves the questions of others unchanged.
use Rattle.std.proofs.Common.{◌≡◌, ℕ, Bool, true, false, cond, ◌&&◌, ◌||◌, ◌==◌, List, [], ◌∷◌, ◌++◌, map, length, Option, Some, None, refl, sym, ap, ◌∙◌}
use Rattle.std.proofs.lemmas.Bool.{and_from, and_parts, eqb-true, true≢false}
use Rattle.std.proofs.lemmas.List.{append-nil}
use Rattle.std.proofs.lemmas.Slice.Eq.{bytes_eq-Decides}
use Rattle.std.specs.Prelude.{is_some, not}
use Rattle.std.specs.Str.{bytes_eq}
use Rattle.st_base.specs.Numbered.{item_at_number}
use Rattle.st_calls.proofs.Rules.{same_rule-Decides}
use Rattle.st_calls.specs.Rules.{same_rule}
use Rattle.st_calls.specs.declared.judged.Snapshot.{Snapshot}
use Rattle.st_calls.specs.declared.rule.Rule.{Rule}
use Rattle.st_effects.specs.Progress.{Progress, Word, Look, Stuck, Ready}
use Rattle.st_filter.specs.Formula.{FilterValue}
use Rattle.st_filter.specs.declared.filter.FilterName.{FilterName}
use Rattle.st_filter.specs.declared.filter.FilterName.TheVariants as name
use Rattle.st_filter.specs.Policies.{filters_in_force, is_for}
use Rattle.st_filter.specs.declared.set.Reply.{Reply}
use Rattle.st_law.specs.declared.input.Input.{Input}
use Rattle.st_law.specs.declared.input.Mode.{Mode}
use Rattle.st_law.specs.declared.input.Mode.TheVariants.{Enforce, Learn, AskText}
use Rattle.st_law.specs.Messages.{Head}
use Rattle.st_law.specs.Sessions.{SessionFilter, decision, is_kept_for, is_reply_for, kept_for, least_from, session_filters}
use Rattle.st_law.specs.State.{State, operator_decides, is_open_question, is_reply_left, is_undecided, progress_in, snapshot_in, snapshot_of_progress}
use Rattle.st_law.proofs.Growth.{session_append}
use Rattle.st_reached.specs.Waiting.{are_alike}

-- whether two calls have the same policy and the same rule
abbrev pub are_of_one : Snapshot → Snapshot → Bool
are_of_one s other = bytes_eq s.policy other.policy && same_rule s.rule other.rule

-- ---- copies have the policy and the rule of their message

pub record IsJudgedBy (o : Option Head) (s : Snapshot) : Type 0 where
  pub head : Head
  pub posted : o ≡ Some head
  pub policy : s.policy ≡ head.policy
  pub rule : s.rule ≡ head.rule

abbrev policy_in : List ℕ → Option Snapshot → List ℕ
policy_in other None = other
policy_in other (Some s) = s.policy

abbrev rule_in : Rule → Option Snapshot → Rule
rule_in other None = other
rule_in other (Some s) = s.rule

judged_by : (q : ℕ) (s : Snapshot) (o : Option Head) (pr : Progress) → snapshot_of_progress q o pr ≡ Some s → IsJudgedBy o s
judged_by q s None pr e = cc
judged_by q s (Some head) (Word part place) e = cc
judged_by q s (Some head) (Look part name) e = cc
judged_by q s (Some head) (Stuck errno) e = cc
judged_by q s (Some head) (Ready args) e = record { head = head; posted = refl; policy = sym (ap (policy_in head.policy) e); rule = sym (ap (rule_in head.rule) e) }

pub copies_alike : (st : State) (q p : ℕ) (s other : Snapshot) → snapshot_in st q ≡ Some s → snapshot_in st p ≡ Some other → are_alike (st.messages q).head (st.messages p).head ≡ are_of_one s other
copies_alike st q p s other copies others =
    let x : IsJudgedBy (st.messages q).head s = judged_by q s (st.messages q).head (progress_in st q) copies in
    let y : IsJudgedBy (st.messages p).head other = judged_by p other (st.messages p).head (progress_in st p) others in
    (λ k. are_alike (x.posted k) (y.posted k)) ∙ sym (λ k. bytes_eq (x.policy k) (y.policy k) && same_rule (x.rule k) (y.rule k))

-- ---- the filters of the session

-- a filter for another policy or rule isn't among them
pub others_kept : (session : List SessionFilter) (kept : SessionFilter) (policy : List ℕ) (rule : Rule) → is_kept_for policy rule kept ≡ false → session_filters (session ++ kept ∷ []) policy rule ≡ session_filters session policy rule
others_kept session kept policy rule other =
    session_append session (kept ∷ []) policy rule
    ∙ ap (λ b. session_filters session policy rule ++ map (λ each. each.filter) (cond b (kept ∷ []) [])) other
    ∙ append-nil (session_filters session policy rule)

-- ---- the replies that are left

-- a reply that is for some policy and rule exists
pub reply_there : (policy : List ℕ) (rule : Rule) (o : Option Reply) → is_reply_for policy rule o ≡ true → (reply : Reply) × (o ≡ Some reply)
reply_there policy rule None is = absurd (true≢false (sym is))
reply_there policy rule (Some reply) is = (reply, refl)

-- a reply that is for a policy and a rule is for no other
other_reply : (policy other : List ℕ) (rule its : Rule) (o : Option Reply) → (bytes_eq policy other && same_rule rule its) ≡ false → is_reply_for policy rule o ≡ true → is_reply_for other its o ≡ false
other_reply policy other rule its None apart is = refl
other_reply policy other rule its (Some reply) apart is = by (is_reply_for other its (Some reply)) refl where
  binary_is : (wanted : List ℕ) (r : Rule) → is_reply_for wanted r (Some reply) ≡ true → reply.binary ≡ wanted
  binary_is wanted r e = (bytes_eq-Decides reply.binary wanted).0 (and_parts (bytes_eq reply.binary wanted) (is_for r reply.filter.name) e).0

  rule_by : (a b : Rule) (n : FilterName) → is_for a n ≡ true → is_for b n ≡ true → a ≡ b
  rule_by a b (name.Rule r) x y = sym ((same_rule-Decides r a).0 x) ∙ (same_rule-Decides r b).0 y
  rule_by a b (name.Other text) x y = absurd (true≢false (sym x))

  rule_is : is_reply_for other its (Some reply) ≡ true → rule ≡ its
  rule_is e = rule_by rule its reply.filter.name (and_parts (bytes_eq reply.binary policy) (is_for rule reply.filter.name) is).1 (and_parts (bytes_eq reply.binary other) (is_for its reply.filter.name) e).1

  by : (b : Bool) → is_reply_for other its (Some reply) ≡ b → is_reply_for other its (Some reply) ≡ false
  by false e = e
  by true e = absurd (true≢false (sym (and_from (bytes_eq policy other) (same_rule rule its)
      ((bytes_eq-Decides policy other).1 (sym (binary_is policy rule is) ∙ binary_is other its e)) ((same_rule-Decides rule its).1 (rule_is e))) ∙ apart))

module _ (i : Input) (st : State) (r : ℕ) (other : List ℕ) (its : Rule) (not_for : is_reply_for other its (item_at_number i.replies r) ≡ false) where
  -- the replies left for another policy and rule are still left once this reply is given
  left_by : (n : ℕ) (b : Bool) → (r == n) ≡ b → (is_reply_for other its (item_at_number i.replies n) && not (b || st.replied n)) ≡ is_reply_left i st other its n
  left_by n false e = refl
  left_by n true e =
      let here : is_reply_for other its (item_at_number i.replies n) ≡ false = sym (ap (λ m. is_reply_for other its (item_at_number i.replies m)) (eqb-true r n e)) ∙ not_for in
      ap (λ b. b && false) here ∙ sym (ap (λ b. b && not (st.replied n)) here)

  left_same : (n : ℕ) → (is_reply_for other its (item_at_number i.replies n) && not (r == n || st.replied n)) ≡ is_reply_left i st other its n
  left_same n = left_by n (r == n) refl

  asked_same : (s : Snapshot) → s.policy ≡ other → s.rule ≡ its → (new : State) → new.replied ≡ (λ n. r == n || st.replied n) → (mode : Mode) → operator_decides i new s mode ≡ operator_decides i st s mode
  asked_same s policy rule new replied Enforce = refl
  asked_same s policy rule new replied Learn = refl
  asked_same s policy rule new replied AskText =
      (λ k. is_some (least_from (λ n. is_reply_for (policy k) (rule k) (item_at_number i.replies n) && not (replied k n)) 1 (length i.replies)))
      ∙ (λ k. is_some (least_from (λ n. left_same n k) 1 (length i.replies)))
      ∙ sym (λ k. is_some (least_from (is_reply_left i st (policy k) (rule k)) 1 (length i.replies)))

-- ---- questions

module _ (i : Input) (st : State) (s other : Snapshot) (apart : are_of_one s other ≡ false) where
  -- a call of another policy or rule is a question by the same filters, if the same replies are left for it
  pub open_on : (new : State) (given : FilterValue) → new.session ≡ st.session ++ kept_for given s ∷ [] → new.versions other.policy ≡ st.versions other.policy → operator_decides i new other i.options.mode ≡ operator_decides i st other i.options.mode → is_open_question i new (Some other) ≡ is_open_question i st (Some other)
  open_on new given session version asked =
      let filters : session_filters new.session other.policy other.rule ≡ session_filters st.session other.policy other.rule =
      ap (λ kept. session_filters kept other.policy other.rule) session ∙ others_kept st.session (kept_for given s) other.policy other.rule apart in
      λ k. is_undecided (decision (filters_in_force i.policies other.policy (version k) other.rule) (filters k) other) && asked k

  -- the replies left for it are the same as before the reply was given
  pub asked_on : (new : State) (r : ℕ) → new.replied ≡ (λ n. r == n || st.replied n) → is_reply_for s.policy s.rule (item_at_number i.replies r) ≡ true → (mode : Mode) → operator_decides i new other mode ≡ operator_decides i st other mode
  asked_on new r replied is = asked_same i st r other.policy other.rule (other_reply s.policy other.policy s.rule other.rule (item_at_number i.replies r) apart is) other refl refl new replied
