-- What answers calls, from state to state.
use Rattle.std.proofs.Common.{◌≡◌, ◌∙◌, ◌++◌, ℕ, zero, suc, Bool, true, false, cond, List, [], ◌∷◌, map, Some, refl, ap, sym}
use Rattle.std.proofs.lemmas.List.{append-nil, append_assoc}
use Rattle.std.proofs.lemmas.Slice.Eq.{bytes_eq-Decides}
use Rattle.std.specs.Str.{bytes_eq}
use Rattle.st_base.specs.Numbered.{item_at_number}
use Rattle.st_calls.specs.declared.rule.Rule.{Rule}
use Rattle.st_compile.specs.Answers.{AllFilters, AreAnswersUnder, with_appended, with_policy_filters}
use Rattle.st_filter.specs.Fast.{first_answer}
use Rattle.st_filter.specs.Formula.{FilterValue}
use Rattle.st_filter.specs.Policies.{PoliciesValue, filters_in_force, filters_of, filters_of_block, in_force, is_of_binary, read_filters}
use Rattle.st_filter.specs.declared.set.BinaryPolicy.{BinaryPolicy}
use Rattle.st_trace.specs.declared.entry.Change.{Change}
use Rattle.st_trace.specs.declared.entry.Entry.TheVariants.{Reloaded}
use Rattle.st_law.specs.declared.input.Input.{Input}
use Rattle.st_law.specs.Machine.{first_state, state_after}
use Rattle.st_law.specs.Sessions.{SessionFilter, is_kept_for, session_filters}
use Rattle.st_law.specs.State.{State, read_at}
use Rattle.st_law.proofs.Growth.{session_append}
use Rattle.st_learn.specs.Answers.{Answers, AreAnswersIn, KeepsAll, all_filters}

-- before a session has filters or reloads, all filters are those that were read
pub answers_begin : (i : Input) (answers : Answers) → answers.policies ≡ i.policies → AreAnswersUnder (read_filters i.policies.read) answers.own → AreAnswersIn i (first_state i) answers
answers_begin i answers policies own = record { policies = policies; own = λ policy rule. own policy rule ∙ ap first_answer (sym (append-nil (read_at i (first_state i) policy rule))) }

-- while the session and the versions in force stay the same, so do the filters
pub answers_stand : (i : Input) (st new : State) (answers : Answers) → new.session ≡ st.session → ((binary : List ℕ) → new.versions binary ≡ st.versions binary) → AreAnswersIn i st answers → AreAnswersIn i new answers
answers_stand i st new answers same still are = record {
  policies = are.policies;
  own = λ policy rule. are.own policy rule ∙ (λ k. first_answer (filters_in_force i.policies policy (sym (still policy) k) rule ++ session_filters (sym same k) policy rule));
}

pub answers_keep : (i : Input) (st : State) (old new : Answers) → KeepsAll old new → AreAnswersIn i st old → AreAnswersIn i st new
answers_keep i st old new kept are = record { policies = kept.policies ∙ are.policies; own = λ policy rule. kept.own policy rule ∙ are.own policy rule }

-- ---- one more filter of the session

more_by : (b : Bool) (read session : List FilterValue) (kept : SessionFilter)
    → cond b ((read ++ session) ++ kept.filter ∷ []) (read ++ session) ≡ read ++ (session ++ map (λ (each : SessionFilter). each.filter) (cond b (kept ∷ []) []))
more_by true read session kept = append_assoc read session (kept.filter ∷ [])
more_by false read session kept = ap (λ fs. read ++ fs) (sym (append-nil session))

module _ (i : Input) (st new : State) (kept : SessionFilter) (grown : new.session ≡ st.session ++ kept ∷ []) (still : (binary : List ℕ) → new.versions binary ≡ st.versions binary) where
  force_more : (policy : List ℕ) (rule : Rule) → with_appended (all_filters i st) kept.policy kept.rule kept.filter policy rule ≡ all_filters i new policy rule
  force_more policy rule =
      more_by (is_kept_for policy rule kept) (read_at i st policy rule) (session_filters st.session policy rule) kept
      ∙ ap (λ fs. read_at i st policy rule ++ fs) (sym (session_append st.session (kept ∷ []) policy rule))
      ∙ (λ k. filters_in_force i.policies policy (sym (still policy) k) rule ++ session_filters (sym grown k) policy rule)

  pub answers_gain : (before after : Answers) → after.policies ≡ before.policies → ((filters : AllFilters) → AreAnswersUnder filters before.own → AreAnswersUnder (with_appended filters kept.policy kept.rule kept.filter) after.own) → AreAnswersIn i st before → AreAnswersIn i new after
  answers_gain before after policies own are = record {
    policies = policies ∙ are.policies;
    own = λ policy rule. own (all_filters i st) are.own policy rule ∙ ap first_answer (force_more policy rule);
  }

-- ---- a reload

-- a policy of the script is where it is in the same policies
pub same_block : (old new : PoliciesValue) (n : ℕ) (block : BinaryPolicy) → new ≡ old → item_at_number old.blocks n ≡ Some block → item_at_number new.blocks n ≡ Some block
same_block old new n block same there = ap (λ (policies : PoliciesValue). item_at_number policies.blocks n) same ∙ there

-- the filters in force at the version of a policy of the script are that policy's
force_block : (policies : PoliciesValue) (n : ℕ) (block : BinaryPolicy) (binary : List ℕ) → item_at_number policies.blocks n ≡ Some block → bytes_eq block.binary binary ≡ true → in_force policies binary n ≡ block.filters
force_block policies zero block binary there same = cc
force_block policies (suc before) block binary there same = (λ k. filters_of_block (there k) binary) ∙ (λ k. cond (same k) block.filters [])

module _ (i : Input) (st : State) (t n : ℕ) (changes : List Change) (block : BinaryPolicy) (there : item_at_number i.policies.blocks n ≡ Some block) where
  -- the filters of each rule of the binary: the new policy's, and then the session's
  abbrev pub filters_now : Rule → List FilterValue
  filters_now rule = filters_of rule block.filters ++ session_filters st.session block.binary rule

  -- the version of each binary's policy
  pub version_now : (binary : List ℕ) → cond (bytes_eq block.binary binary) n (st.versions binary) ≡ (state_after i st (Reloaded t n true changes)).versions binary
  version_now binary = λ k. cond (is_of_binary (sym there k) binary) n (st.versions binary)

  forced_by : (policy : List ℕ) (rule : Rule) (b : Bool) → bytes_eq block.binary policy ≡ b
      → cond b (filters_now rule) (all_filters i st policy rule) ≡ filters_in_force i.policies policy (cond b n (st.versions policy)) rule ++ session_filters st.session policy rule
  forced_by policy rule true same = λ k. filters_of rule (sym (force_block i.policies n block policy there same) k) ++ session_filters st.session ((bytes_eq-Decides block.binary policy).0 same k) rule
  forced_by policy rule false same = refl

  forced : (policy : List ℕ) (rule : Rule) → with_policy_filters (all_filters i st) block.binary filters_now policy rule ≡ all_filters i (state_after i st (Reloaded t n true changes)) policy rule
  forced policy rule =
      forced_by policy rule (bytes_eq block.binary policy) refl
      ∙ ap (λ version. filters_in_force i.policies policy version rule ++ session_filters st.session policy rule) (version_now policy)

  pub answers_reload : (before after : Answers) → after.policies ≡ before.policies → ((filters : AllFilters) → AreAnswersUnder filters before.own → AreAnswersUnder (with_policy_filters filters block.binary filters_now) after.own) → AreAnswersIn i st before
      → AreAnswersIn i (state_after i st (Reloaded t n true changes)) after
  answers_reload before after policies own are = record {
    policies = policies ∙ are.policies;
    own = λ policy rule. own (all_filters i st) are.own policy rule ∙ ap first_answer (forced policy rule);
  }
