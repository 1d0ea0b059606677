-- The policies with the filters that are in force and those that a session has added.
use Rattle.std.specs.Prelude.{◌≡◌, ◌≢◌, ℕ, List, [], ◌++◌, false, map, filter}
use Rattle.std.specs.List.{All, fold, list_any}
use Rattle.std.specs.Str.{bytes_eq}
use Rattle.st_filter.specs.Formula.{FilterValue}
use Rattle.st_filter.specs.Policies.{PoliciesValue, in_force, with_binary}
use Rattle.st_filter.specs.declared.filter.Action.TheVariants as action
use Rattle.st_filter.specs.declared.filter.FilterName.TheVariants as name
use Rattle.st_filter.specs.declared.set.BinaryPolicy.{BinaryPolicy}
use Rattle.st_law.specs.Sessions.{SessionFilter}
use Rattle.st_law.specs.State.{State}
use Rattle.st_law.specs.declared.input.Input.{Input}
use Rattle.st_learn.specs.Sessions.{is_filter_for}

-- the filters that a session has for a policy, of whatever rule, in order
abbrev pub filters_added : List SessionFilter → List ℕ → List FilterValue
filters_added session policy = map (λ kept. kept.filter) (filter (is_filter_for policy) session)

-- the policy of a binary: its filters in force, and then those that the session has added
abbrev pub learnt_policy : PoliciesValue → (List ℕ → ℕ) → List SessionFilter → List ℕ → BinaryPolicy
learnt_policy policies versions session binary = record { binary = binary; filters = in_force policies binary (versions binary) ++ filters_added session binary }

-- the binaries of the policies that were read, in order, and then those of the others that were changed
abbrev pub learnt_binaries : List BinaryPolicy → List (List ℕ) → List (List ℕ)
learnt_binaries read changed = fold with_binary (map (λ p. p.binary) read) changed

-- all policies with the filters in force and then the session's
abbrev pub learnt_policies : PoliciesValue → (List ℕ → ℕ) → List (List ℕ) → List SessionFilter → List BinaryPolicy
learnt_policies policies versions changed session = map (learnt_policy policies versions session) (learnt_binaries policies.read changed)

-- the same in a state of a run
abbrev pub learnt_in : Input → State → List BinaryPolicy
learnt_in i st = learnt_policies i.policies st.versions st.changed st.session

-- ---- what they decide

-- a filter of a session is for the rule of the call that it was kept for
abbrev pub IsForItsRule : SessionFilter → Type 0
IsForItsRule kept = kept.filter.name ≡ name.Rule kept.rule

-- no filter of these policies asks
abbrev pub NoneAsks : List BinaryPolicy → Type 0
NoneAsks policies = All (λ p. All (λ f. f.action ≢ action.Ask) p.filters) policies

-- no filter that is in force at these versions asks
abbrev pub NoneAsksInForce : PoliciesValue → (List ℕ → ℕ) → Type 0
NoneAsksInForce policies versions = (binary : List ℕ) → All (λ f. f.action ≢ action.Ask) (in_force policies binary (versions binary))

-- a binary that isn't among those that were changed has the policy that was read, and no filters of the session
pub record AreChanged (changed : List (List ℕ)) (versions : List ℕ → ℕ) (session : List SessionFilter) : Type 0 where
  pub versions_stay : (binary : List ℕ) → list_any (bytes_eq binary) changed ≡ false → versions binary ≡ 0
  pub filters_stay : (binary : List ℕ) → list_any (bytes_eq binary) changed ≡ false → filters_added session binary ≡ []

-- the policy of each binary has the same version in force in both states
abbrev pub HaveSameVersions : State → State → Type 0
HaveSameVersions old new = (binary : List ℕ) → new.versions binary ≡ old.versions binary
