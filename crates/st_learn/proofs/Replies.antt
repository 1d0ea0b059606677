-- The next reply that is left, and the state after the operator's answer.
use native.Mathlib.Omega.{arith}
use Rattle.std.proofs.Common.{◌≡◌, ◌≢◌, ◌<◌, ◌+◌, ◌∙◌, ℕ, suc, ◌&&◌, ◌||◌, ◌==◌, Bool, true, false, cond, not, get_or, List, [], ◌∷◌, ◌++◌, length, Option, Some, None, inl, inr, refl, ap, sym, subst}
use Rattle.std.proofs.Math.Bool.{and-false, and-true, and_assoc, and_comm}
use Rattle.std.proofs.lemmas.Bool.{and_parts, cases_eq, eq-eqb, ne_eqb}
use Rattle.std.proofs.lemmas.List.Quantifiers.{position-Some}
use Rattle.std.proofs.lemmas.Option.{slice_get-get_or, slice_get_within}
use Rattle.std.proofs.lemmas.Slice.Eq.{bytes_eq-Decides}
use Rattle.std.specs.List.{find, remove}
use Rattle.std.specs.Option.{option_map}
use Rattle.std.specs.Prelude.{is_some, slice_get}
use Rattle.std.specs.Str.{bytes_eq}
use Rattle.st_calls.specs.declared.judged.Snapshot.{Snapshot}
use Rattle.st_calls.specs.declared.rule.Rule.{Rule}
use Rattle.st_base.specs.Numbered.{item_at_number}
use Rattle.st_filter.specs.Policies.{filters_in_force, with_binary}
use Rattle.st_filter.specs.declared.set.BinaryPolicy.{BinaryPolicy}
use Rattle.st_filter.specs.declared.set.Reply.{Reply}
use Rattle.st_trace.specs.declared.entry.Change.{Change}
use Rattle.st_trace.specs.declared.entry.Entry.TheVariants.{Learned, Replied, Reloaded}
use Rattle.st_law.specs.declared.input.Input.{Input}
use Rattle.st_law.specs.declared.input.Mode.{Mode}
use Rattle.st_law.specs.declared.input.Mode.TheVariants.{Enforce, Learn, AskText}
use Rattle.st_law.specs.Machine.{question_entry, reply_entry, state_after}
use Rattle.st_law.specs.Sessions.{SessionFilter, is_reply_for, kept_for, learnt_by, learnt_filter, replied_by, session_filters, with_binaries}
use Rattle.st_law.specs.Versions.{with_binary_of}
use Rattle.st_law.specs.State.{State, filter_count, operator_decides, is_reply_left, next_reply, read_at, snapshot_in}
use Rattle.st_compile.specs.Answers.{AllFilters, AreAnswersUnder, with_appended}
use Rattle.st_compile.specs.Places.{GainsPlace, LosesPlace, PolicyPlaces, policy_places}
use Rattle.st_learn.specs.Answers.{Answers, AreAnswersIn}
use Rattle.st_learn.specs.Operator.{Added, AreRepliesLeft, IsAdded, KeepsAdded, operator_answers, is_for_rule, is_left, is_reply_of, next_reply_left, places_among}
use Rattle.st_learn.specs.Sessions.{version_of}
use Rattle.st_learn.proofs.InForce.{answers_gain, version_now}
use Rattle.st_learn.proofs.OperatorPlaces.{among_is, among_more, among_without, found_at, item_at, least_found, there_at}

-- ---- the next reply

-- the index of a reply is at the position that was found for the next reply
module _ (added : Added) (policy : List ℕ) (rule : Rule) (index : ℕ) (next : next_reply_left added policy rule ≡ Some index) where
  abbrev place : ℕ
  place = get_or (policy_places added.left policy) index 0

  found : (index < length (policy_places added.left policy)) × (is_for_rule rule (slice_get added.replies place) ≡ true)
  found = let is = position-Some (λ at. is_for_rule rule (slice_get added.replies at)) (policy_places added.left policy) index 0 next in (is.0, is.1)

  pub place_there : slice_get (policy_places added.left policy) index ≡ Some place
  place_there = slice_get-get_or (policy_places added.left policy) index 0 found.0

  reply_there : (reply : Reply) × (slice_get added.replies place ≡ Some reply)
  reply_there = by (slice_get added.replies place) refl found.1 where
    by : (o : Option Reply) → slice_get added.replies place ≡ o → is_for_rule rule o ≡ true → (reply : Reply) × (slice_get added.replies place ≡ Some reply)
    by None is for = cc
    by (Some reply) is for = (reply, is)

  pub place_within : place < length added.replies
  place_within = slice_get_within added.replies place reply_there.0 reply_there.1

-- ---- which replies are left

-- a reply that is for one policy is for no other
other_policy : (policy other : List ℕ) (o : Option Reply) → bytes_eq policy other ≡ false → is_reply_of policy o ≡ true → is_reply_of other o ≡ false
other_policy policy other None apart is = refl
other_policy policy other (Some reply) apart is = ap (λ binary. bytes_eq binary other) ((bytes_eq-Decides reply.binary policy).0 is) ∙ apart

module _ (replies : List Reply) (given : ℕ → Bool) (place : ℕ) where
  -- the replies that were given, and the reply at this index
  abbrev given_too : ℕ → Bool
  given_too n = suc place == n || given n

  given_here : (policy : List ℕ) → is_left replies given_too policy place ≡ false
  given_here policy = ap (λ b. is_reply_of policy (slice_get replies place) && not (b || given (suc place))) (eq-eqb (suc place) (suc place) refl) ∙ and-false (is_reply_of policy (slice_get replies place))

  given_elsewhere : (policy : List ℕ) (n : ℕ) → n ≢ place → is_left replies given_too policy n ≡ is_left replies given policy n
  given_elsewhere policy n differs =
      ap (λ b. is_reply_of policy (slice_get replies n) && not (b || given (suc n))) (ne_eqb (suc place) (suc n) (λ same. differs (let e : n ≡ place = omega (arith, same) in e)))

  given_to_other : (policy other : List ℕ) → bytes_eq policy other ≡ false → is_reply_of policy (slice_get replies place) ≡ true → (n : ℕ) → is_left replies given other n ≡ is_left replies given_too other n
  given_to_other policy other apart is n = elim (cases_eq n place) [
    | inl e ↦
        let none : is_reply_of other (slice_get replies n) ≡ false = ap (λ m. is_reply_of other (slice_get replies m)) e ∙ other_policy policy other (slice_get replies place) apart is in
        ap (λ b. b && not (given (suc n))) none ∙ sym (ap (λ b. b && not (given_too (suc n))) none)
    | inr ne ↦ sym (given_elsewhere other n ne)
  ]

  -- the replies left after the reply at an index was given
  pub left_after : (count index : ℕ) (policy : List ℕ) (old new : List PolicyPlaces) → AreRepliesLeft replies given count old → slice_get (policy_places old policy) index ≡ Some place → LosesPlace old policy index new → AreRepliesLeft replies given_too count new
  left_after count index policy old new left there loses other = loses other ∙ by (bytes_eq policy other) refl where
    at : slice_get (places_among (is_left replies given policy) 0 count) index ≡ Some place
    at = sym (ap (λ places. slice_get places index) (left policy)) ∙ there

    taken : remove (policy_places old policy) index ≡ places_among (is_left replies given_too policy) 0 count
    taken = ap (λ places. remove places index) (left policy)
        ∙ among_without (is_left replies given policy) (is_left replies given_too policy) place (given_here policy) (given_elsewhere policy) 0 count index at

    is : is_reply_of policy (slice_get replies place) ≡ true
    is = (and_parts (is_reply_of policy (slice_get replies place)) (not (given (suc place))) (among_is (is_left replies given policy) 0 count index place at).1).0

    by : (b : Bool) → bytes_eq policy other ≡ b → cond b (remove (policy_places old other) index) (policy_places old other) ≡ places_among (is_left replies given_too other) 0 count
    by true e = subst (λ p. remove (policy_places old p) index ≡ places_among (is_left replies given_too p) 0 count) ((bytes_eq-Decides policy other).0 e) taken
    by false e = left other ∙ (λ k. places_among (λ n. given_to_other policy other e is n k) 0 count)

  -- the replies left with one more reply, which wasn't given
  pub left_more : (reply : Reply) (old new : List PolicyPlaces) → AreRepliesLeft replies given place old → slice_get replies place ≡ Some reply → given (suc place) ≡ false → GainsPlace old reply.binary place new → AreRepliesLeft replies given (place + 1) new
  left_more reply old new left there none gains other =
      let same : suc place ≡ place + 1 = omega arith in
      let first : place ≡ 0 + place = omega arith in
      let kind : bytes_eq reply.binary other ≡ is_left replies given other place = sym ((λ k. is_reply_of other (there k) && not (none k)) ∙ and-true (bytes_eq reply.binary other)) in
      gains other
      ∙ (λ k. cond (kind k) (left other k ++ place ∷ []) (left other k))
      ∙ (λ k. cond (is_left replies given other (first k)) (places_among (is_left replies given other) 0 place ++ first k ∷ []) (places_among (is_left replies given other) 0 place))
      ∙ sym (among_more (is_left replies given other) 0 place)
      ∙ (λ k. places_among (is_left replies given other) 0 (same k))

-- ---- what the operator adds

module _ (i : Input) (st : State) (added : Added) (is : IsAdded i st added) where
  both_by : (policy : List ℕ) (rule : Rule) (o : Option Reply) (given : Bool) → (is_reply_for policy rule o && not given) ≡ ((is_reply_of policy o && not given) && is_for_rule rule o)
  both_by policy rule None given = refl
  both_by policy rule (Some reply) given =
      let of = bytes_eq reply.binary policy in
      let for = is_for_rule rule (Some reply) in
      and_assoc of for (not given) ∙ ap (λ b. of && b) (and_comm for (not given)) ∙ sym (and_assoc of (not given) for)

  -- the next reply is that of the law's machine
  pub next_same : (policy : List ℕ) (rule : Rule) → next_reply i st policy rule ≡ option_map suc (item_at (policy_places added.left policy) (next_reply_left added policy rule))
  next_same policy rule =
      least_found (is_reply_left i st policy rule) (is_left i.replies st.replied policy) (λ place. is_for_rule rule (slice_get i.replies place))
      (λ n. both_by policy rule (slice_get i.replies n) (st.replied (suc n))) 0 (length i.replies)
      ∙ (λ k. option_map suc (find (λ place. is_for_rule rule (slice_get (sym is.replies k) place)) (sym (is.left policy) k)))
      ∙ ap (option_map suc) (found_at (λ place. is_for_rule rule (slice_get added.replies place)) (policy_places added.left policy))

  -- whether the operator answers is as in the law's machine
  pub asked_same : (s : Snapshot) (mode : Mode) → operator_decides i st s mode ≡ operator_answers added s mode
  asked_same s Enforce = refl
  asked_same s Learn = refl
  asked_same s AskText =
      ap is_some (next_same s.policy s.rule) ∙ still (item_at (policy_places added.left s.policy) (next_reply_left added s.policy s.rule))
      ∙ there_at (λ place. is_for_rule s.rule (slice_get added.replies place)) (policy_places added.left s.policy) where
        still : (o : Option ℕ) → is_some (option_map suc o) ≡ is_some o
        still None = refl
        still (Some n) = refl

  -- the session's filters are those of the law's machine
  pub filters_same : (policy : List ℕ) (rule : Rule) → session_filters st.session policy rule ≡ session_filters added.filters policy rule
  filters_same policy rule = ap (λ session. session_filters session policy rule) is.session

  -- the filters in force are those at the versions of the session
  force_same : (policy : List ℕ) (rule : Rule) → read_at i st policy rule ≡ filters_in_force i.policies policy (version_of added.reloads policy) rule
  force_same policy rule = ap (λ version. filters_in_force i.policies policy version rule) (is.versions policy)

  module _ (s : Snapshot) (there : snapshot_in st s.seq ≡ Some s) (before after : Answers) (are : AreAnswersIn i st before) (policies : after.policies ≡ before.policies) (new : Added) (number : ℕ)
      (numbered : number ≡ suc (length (filters_in_force before.policies s.policy (version_of added.reloads s.policy) s.rule ++ session_filters added.filters s.policy s.rule))) (changed : new.changed ≡ with_binary added.changed s.policy) (reloads : new.reloads ≡ added.reloads) where
    abbrev Gains : SessionFilter → Type 0
    Gains kept = (filters : AllFilters) → AreAnswersUnder filters before.own → AreAnswersUnder (with_appended filters kept.policy kept.rule kept.filter) after.own

    number_same : suc (filter_count i st s) ≡ number
    number_same =
        (λ k. suc (length (force_same s.policy s.rule k ++ filters_same s.policy s.rule k)))
        ∙ ap (λ ps. suc (length (filters_in_force ps s.policy (version_of added.reloads s.policy) s.rule ++ session_filters added.filters s.policy s.rule))) (sym are.policies) ∙ sym numbered

    -- a filter is learnt
    pub is_learnt : new.filters ≡ added.filters ++ kept_for (learnt_filter s) s ∷ [] → new.replies ≡ added.replies → new.left ≡ added.left → Gains (kept_for (learnt_filter s) s)
        → (question_entry i st s.seq s Learn ≡ Some (Learned s.seq number)) × IsAdded i (state_after i st (Learned s.seq number)) new × AreAnswersIn i (state_after i st (Learned s.seq number)) after
    is_learnt filters replies left own = (
      ap (λ k. Some (Learned s.seq k)) number_same,
      record {
        session = (λ k. is.session k ++ learnt_by (there k)) ∙ sym filters;
        changed = (λ k. with_binaries (is.changed k) (learnt_by (there k))) ∙ sym changed;
        versions = λ binary. is.versions binary ∙ ap (λ rows. version_of rows binary) (sym reloads);
        replies = replies ∙ is.replies;
        left = λ policy. ap (λ rows. policy_places rows policy) left ∙ is.left policy;
      },
      answers_gain i st (state_after i st (Learned s.seq number)) (kept_for (learnt_filter s) s) (λ k. st.session ++ learnt_by (there k)) (λ binary. refl) before after policies own are,
    )

    -- the next reply is given
    pub is_replied : (index place : ℕ) (reply : Reply) → next_reply_left added s.policy s.rule ≡ Some index → slice_get (policy_places added.left s.policy) index ≡ Some place → slice_get added.replies place ≡ Some reply
        → new.filters ≡ added.filters ++ kept_for reply.filter s ∷ [] → new.replies ≡ added.replies → LosesPlace added.left s.policy index new.left → Gains (kept_for reply.filter s)
        → (question_entry i st s.seq s AskText ≡ Some (Replied s.seq (place + 1) number)) × IsAdded i (state_after i st (Replied s.seq (place + 1) number)) new × AreAnswersIn i (state_after i st (Replied s.seq (place + 1) number)) after
    is_replied index place reply next at is_reply filters replies loses own = subst Step one (
      ap (reply_entry i st s.seq s) (next_same s.policy s.rule ∙ ap (λ o. option_map suc (item_at (policy_places added.left s.policy) o)) next ∙ ap (option_map suc) at)
          ∙ ap (λ k. Some (Replied s.seq (suc place) k)) number_same,
      record {
        session = (λ k. is.session k ++ replied_by (given k) (there k)) ∙ sym filters;
        changed = (λ k. with_binaries (is.changed k) (replied_by (given k) (there k))) ∙ sym changed;
        versions = λ binary. is.versions binary ∙ ap (λ rows. version_of rows binary) (sym reloads);
        replies = replies ∙ is.replies;
        left = left_after i.replies st.replied place (length i.replies) index s.policy added.left new.left is.left at loses;
      },
      answers_gain i st (state_after i st (Replied s.seq (suc place) number)) (kept_for reply.filter s) (λ k. st.session ++ replied_by (given k) (there k)) (λ binary. refl) before after policies own are,
    ) where
      Step : ℕ → Type 0
      Step n = (question_entry i st s.seq s AskText ≡ Some (Replied s.seq n number)) × IsAdded i (state_after i st (Replied s.seq n number)) new × AreAnswersIn i (state_after i st (Replied s.seq n number)) after

      one : suc place ≡ place + 1
      one = omega arith

      given : slice_get i.replies place ≡ Some reply
      given = ap (λ all. slice_get all place) (sym is.replies) ∙ is_reply

  -- a policy of the script is put in force
  pub is_reloaded : (t n : ℕ) (changes : List Change) (block : BinaryPolicy) (new : Added) → item_at_number i.policies.blocks n ≡ Some block → new.filters ≡ added.filters → new.changed ≡ with_binary added.changed block.binary
      → ((binary : List ℕ) → version_of new.reloads binary ≡ cond (bytes_eq block.binary binary) n (version_of added.reloads binary)) → new.replies ≡ added.replies → new.left ≡ added.left
      → IsAdded i (state_after i st (Reloaded t n true changes)) new
  is_reloaded t n changes block new there filters changed versions replies left = record {
    session = is.session ∙ sym filters;
    changed = (λ k. with_binary_of (is.changed k) (there k)) ∙ sym changed;
    versions = λ binary. sym (version_now i st t n changes block there binary) ∙ (λ k. cond (bytes_eq block.binary binary) n (is.versions binary k)) ∙ sym (versions binary);
    replies = replies ∙ is.replies;
    left = λ policy. ap (λ rows. policy_places rows policy) left ∙ is.left policy;
  }

-- what was added represents each state that has the same session, the same versions in force and the same replies given
pub added_stands : (i : Input) (st new : State) (added : Added) → new.session ≡ st.session → new.changed ≡ st.changed → ((binary : List ℕ) → new.versions binary ≡ st.versions binary) → new.replied ≡ st.replied → IsAdded i st added → IsAdded i new added
added_stands i st new added session changed versions replied is = record {
  session = session ∙ is.session;
  changed = changed ∙ is.changed;
  versions = λ binary. versions binary ∙ is.versions binary;
  replies = is.replies;
  left = λ policy. is.left policy ∙ (λ k. places_among (is_left i.replies (sym replied k) policy) 0 (length i.replies));
}

-- what is kept but for room represents the same state
pub added_keep : (i : Input) (st : State) (old new : Added) → KeepsAdded old new → IsAdded i st old → IsAdded i st new
added_keep i st old new kept is = record {
  session = is.session ∙ sym kept.filters;
  changed = is.changed ∙ sym kept.changed;
  versions = λ binary. is.versions binary ∙ sym (kept.versions binary);
  replies = kept.replies ∙ is.replies;
  left = λ policy. ap (λ rows. policy_places rows policy) kept.left ∙ is.left policy;
}
