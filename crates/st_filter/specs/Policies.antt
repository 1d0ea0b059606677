-- Sets of policies: for each binary a list of filters. Also which of a run's policies is in force for a binary.
use Rattle.std.specs.Prelude.{ℕ, zero, suc, Bool, true, false, List, [], ◌∷◌, ◌++◌, filter, if◌then◌else◌, length, sum_by, Option, Some, None, option_map}
use Rattle.std.specs.List.{list_any}
use Rattle.std.specs.Str.{bytes_eq}
use Rattle.st_base.specs.Numbered.{item_at_number}
use Rattle.st_calls.specs.Call.{sets_ids}
use Rattle.st_calls.specs.declared.rule.Rule.{Rule}
use Rattle.st_calls.specs.declared.rule.Rule.TheVariants.{Call, FsRead, FsWrite}
use Rattle.st_calls.specs.Rules.{same_rule}
use Rattle.st_filter.specs.declared.filter.FilterName.{FilterName}
use Rattle.st_filter.specs.declared.filter.FilterName.TheVariants as name
use Rattle.st_filter.specs.declared.set.BinaryPolicy.{BinaryPolicy}
use Rattle.st_filter.specs.Formula.{FilterValue}

-- the filters of a binary: those of its first policy, or none if it has no policy
abbrev pub policy_of : List BinaryPolicy → List ℕ → List FilterValue
policy_of [] binary = []
policy_of (p ∷ ps) binary = if bytes_eq p.binary binary then p.filters else policy_of ps binary

-- whether a filter of this name is for the rule
abbrev pub is_for : Rule → FilterName → Bool
is_for rule (name.Rule other) = same_rule other rule
is_for rule (name.Other other) = false

-- whether a rule judges calls that set ids
abbrev pub sets_ids_by : Rule → Bool
sets_ids_by (Call call) = sets_ids call
sets_ids_by FsRead = false
sets_ids_by FsWrite = false

-- whether a filter of this name is for calls that set ids, to which no ids may be granted
abbrev pub names_set_id_call : FilterName → Bool
names_set_id_call (name.Rule rule) = sets_ids_by rule
names_set_id_call (name.Other other) = false

-- the filters of a rule, in order
abbrev pub filters_of : Rule → List FilterValue → List FilterValue
filters_of rule filters = filter (λ f. is_for rule f.name) filters

-- the filters that were read for a binary and a rule, in order
abbrev pub read_filters : List BinaryPolicy → List ℕ → Rule → List FilterValue
read_filters policies binary rule = filters_of rule (policy_of policies binary)

-- whether a binary has a policy
abbrev pub has_policy : List BinaryPolicy → List ℕ → Bool
has_policy policies binary = list_any (λ p. bytes_eq p.binary binary) policies

-- how many filters all policies have
abbrev pub filters_in : List BinaryPolicy → ℕ
filters_in policies = sum_by (λ p. length p.filters) policies

-- a policy with one more filter at its end
abbrev pub with_filter : BinaryPolicy → FilterValue → BinaryPolicy
with_filter p f = record { binary = p.binary; filters = p.filters ++ f ∷ [] }

-- the policies after a filter is appended to the last one
abbrev pub add_filter : List BinaryPolicy → FilterValue → List BinaryPolicy
add_filter [] f = []
add_filter (p ∷ []) f = with_filter p f ∷ []
add_filter (p ∷ q ∷ ps) f = p ∷ add_filter (q ∷ ps) f

-- whether there is some policy
abbrev pub is_some_policy : List BinaryPolicy → Bool
is_some_policy [] = false
is_some_policy (p ∷ ps) = true

-- ---- the policies of a run

-- the policies of a run: those that were read, and those of the script, which a reload puts in force
pub record PoliciesValue : Type 0 where
  pub read : List BinaryPolicy
  -- counted from 1
  pub blocks : List BinaryPolicy

-- the filters of a policy of the script, if it is for this binary
abbrev pub filters_of_block : Option BinaryPolicy → List ℕ → List FilterValue
filters_of_block None binary = []
filters_of_block (Some block) binary = if bytes_eq block.binary binary then block.filters else []

-- whether a policy of the script is for this binary
abbrev pub is_of_binary : Option BinaryPolicy → List ℕ → Bool
is_of_binary None binary = false
is_of_binary (Some block) binary = bytes_eq block.binary binary

-- whether the script's policy with this number is for this binary
abbrev pub is_block_of : PoliciesValue → ℕ → List ℕ → Bool
is_block_of policies n binary = is_of_binary (item_at_number policies.blocks n) binary

-- the filters in force for a binary: at version 0 those that were read for it, at version N those of the script's policy N
abbrev pub in_force : PoliciesValue → List ℕ → ℕ → List FilterValue
in_force policies binary zero = policy_of policies.read binary
in_force policies binary (suc before) = filters_of_block (item_at_number policies.blocks (suc before)) binary

-- the filters in force for a binary and a rule, in order
abbrev pub filters_in_force : PoliciesValue → List ℕ → ℕ → Rule → List FilterValue
filters_in_force policies binary version rule = filters_of rule (in_force policies binary version)

-- the binary of the script's policy with this number
abbrev pub binary_of_block : PoliciesValue → ℕ → Option (List ℕ)
binary_of_block policies n = option_map (λ block. block.binary) (item_at_number policies.blocks n)

-- binaries, with this one appended if it isn't among them
abbrev pub with_binary : List (List ℕ) → List ℕ → List (List ℕ)
with_binary binaries binary = if list_any (bytes_eq binary) binaries then binaries else binaries ++ binary ∷ []
