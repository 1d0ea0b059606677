-- Policies with what a run has changed can be written, if they, the policies in force and the session's filters can be written.
use Rattle.std.proofs.Common.{◌≡◌, ◌≤◌, ◌∙◌, ◌++◌, ◌||◌, ℕ, zero, suc, Bool, true, false, cond, List, [], ◌∷◌, map, filter, slice_get, Option, Some, None, refl, ap, sym}
use Rattle.std.proofs.lemmas.Cmp.{nat_list_eq_equiv}
use Rattle.std.proofs.lemmas.List.{map-append}
use Rattle.std.proofs.lemmas.List.Elements.{All-append, All-from_recursion, All-nil, recursion_from_All}
use Rattle.std.specs.List.{All, AllByRecursion, fold, list_any}
use Rattle.std.specs.Str.{bytes_eq}
use Rattle.st_base.specs.Numbered.{item_at_number}
use Rattle.st_filter.specs.Formula.{FilterValue}
use Rattle.st_filter.specs.Policies.{PoliciesValue, filters_in, filters_of_block, has_policy, in_force, policy_of, with_binary}
use Rattle.st_filter.specs.declared.set.BinaryPolicy.{BinaryPolicy}
use Rattle.st_filter.specs.declared.set.TheConstants.{MOST_FILTERS}
use Rattle.st_law.specs.Sessions.{SessionFilter}
use Rattle.st_learn.specs.Learnt.{filters_added, learnt_binaries, learnt_policies, learnt_policy}
use Rattle.st_learn.specs.Sessions.{is_filter_for}
use Rattle.st_grammar.specs.Grammar.{AreNew, Reads}
use Rattle.st_grammar.specs.declared.env.Env.{Env}
use Rattle.st_base.proofs.Each.{each-append}
use Rattle.st_printing.specs.Canon.{canon}
use Rattle.st_relearn.specs.Relearnt.{AreWritableInForce, IsWritableKept}
use Rattle.st_relearn.specs.Writable.{AreWritable, IsWritableBinary, IsWritableFilter, IsWritablePolicy}
use Rattle.st_relearn.proofs.Writing.{written_is_read}
use Rattle.st_reread.proofs.Readings.{AreNew-append}

-- the binaries of policies
abbrev binaries : List BinaryPolicy → List (List ℕ)
binaries ps = map (λ p. p.binary) ps

-- ---- no binary twice

has_append : (ps qs : List BinaryPolicy) (b : List ℕ) → has_policy (ps ++ qs) b ≡ (has_policy ps b || has_policy qs b)
has_append [] qs b = refl
has_append (p ∷ ps) qs b = by (bytes_eq p.binary b) (has_append ps qs b) where
  by : (t : Bool) → has_policy (ps ++ qs) b ≡ (has_policy ps b || has_policy qs b) → (t || has_policy (ps ++ qs) b) ≡ ((t || has_policy ps b) || has_policy qs b)
  by true later = refl
  by false later = later

module _ (policies : PoliciesValue) (versions : List ℕ → ℕ) (session : List SessionFilter) where
  -- the policy of a binary as it is now
  abbrev now : List ℕ → BinaryPolicy
  now = learnt_policy policies versions session

  -- a binary has a policy among those of these binaries exactly if it is one of them
  known : (bs : List (List ℕ)) (b : List ℕ) → has_policy (map now bs) b ≡ list_any (bytes_eq b) bs
  known [] b = refl
  known (c ∷ bs) b = λ k. nat_list_eq_equiv.symm c b k || known bs b k

  -- one more policy, on both sides
  known_more : (before other : List BinaryPolicy) (p : BinaryPolicy) → ((b : List ℕ) → has_policy other b ≡ has_policy before b) → (b : List ℕ) → has_policy (other ++ now p.binary ∷ []) b ≡ has_policy (before ++ p ∷ []) b
  known_more before other p same b =
      has_append other (now p.binary ∷ []) b ∙ ap (λ t. t || has_policy (p ∷ []) b) (same b) ∙ sym (has_append before (p ∷ []) b)

  -- policies of the same binaries are new as well
  new_now : (before other ps : List BinaryPolicy) → ((b : List ℕ) → has_policy other b ≡ has_policy before b) → AreNew before ps → AreNew other (map now (binaries ps))
  new_now before other [] same new = tt
  new_now before other (p ∷ ps) same new =
      (same p.binary ∙ new.0, new_now (before ++ p ∷ []) (other ++ now p.binary ∷ []) ps (known_more before other p same) new.1)

  new_one : (bs : List (List ℕ)) (b : List ℕ) → AreNew [] (map now bs) → AreNew [] (map now (with_binary bs b))
  new_one bs b new = by (list_any (bytes_eq b) bs) refl where
    by : (t : Bool) → list_any (bytes_eq b) bs ≡ t → AreNew [] (map now (cond t bs (bs ++ b ∷ [])))
    by true is = new
    by false is = rw (map-append now bs (b ∷ [])) (AreNew-append [] (map now bs) (now b ∷ []) new (known bs b ∙ is, tt))

  new_all : (changed bs : List (List ℕ)) → AreNew [] (map now bs) → AreNew [] (map now (fold with_binary bs changed))
  new_all [] bs new = new
  new_all (b ∷ changed) bs new = new_all changed (with_binary bs b) (new_one bs b new)

-- ---- the binaries

binaries_writable : (env : Env) (ps : List BinaryPolicy) → AllByRecursion (IsWritablePolicy env) ps → AllByRecursion IsWritableBinary (binaries ps)
binaries_writable env [] each = tt
binaries_writable env (p ∷ ps) each = (each.0.binary, binaries_writable env ps each.1)

pub with_writable : (bs : List (List ℕ)) (b : List ℕ) → IsWritableBinary b → AllByRecursion IsWritableBinary bs → AllByRecursion IsWritableBinary (with_binary bs b)
with_writable bs b writable each = by (list_any (bytes_eq b) bs) where
  by : (t : Bool) → AllByRecursion IsWritableBinary (cond t bs (bs ++ b ∷ []))
  by true = each
  by false = each-append IsWritableBinary bs (b ∷ []) each (writable, tt)

all_writable : (changed bs : List (List ℕ)) → AllByRecursion IsWritableBinary changed → AllByRecursion IsWritableBinary bs → AllByRecursion IsWritableBinary (fold with_binary bs changed)
all_writable [] bs more each = each
all_writable (b ∷ changed) bs more each = all_writable changed (with_binary bs b) more.1 (with_writable bs b more.0 each)

-- ---- each policy

module _ (env : Env) where
  added_writable : (session : List SessionFilter) (binary : List ℕ) → AllByRecursion (IsWritableKept env) session → AllByRecursion (IsWritableFilter env) (filters_added session binary)
  added_writable [] binary kept = tt
  added_writable (k ∷ session) binary kept = by (is_filter_for binary k) (added_writable session binary kept.1) where
    by : (t : Bool) → AllByRecursion (IsWritableFilter env) (filters_added session binary) → AllByRecursion (IsWritableFilter env) (map (λ each. each.filter) (cond t (k ∷ filter (is_filter_for binary) session) (filter (is_filter_for binary) session)))
    by true later = (kept.0.filter, later)
    by false later = later

  module _ (policies : PoliciesValue) (versions : List ℕ → ℕ) (session : List SessionFilter) (forced : AreWritableInForce env policies versions) (kept : AllByRecursion (IsWritableKept env) session) where
    each_writable : (bs : List (List ℕ)) → AllByRecursion IsWritableBinary bs → AllByRecursion (IsWritablePolicy env) (map (learnt_policy policies versions session) bs)
    each_writable [] each = tt
    each_writable (b ∷ bs) each = (
      record {
        binary = each.0;
        filters = All-append (IsWritableFilter env) (in_force policies b (versions b)) (filters_added session b) (forced b) (All-from_recursion (IsWritableFilter env) (filters_added session b) (added_writable session b kept));
      },
      each_writable bs each.1,
    )

  -- ---- all policies

  pub learnt_is_read : (policies : PoliciesValue) (versions : List ℕ → ℕ) (changed : List (List ℕ)) (session : List SessionFilter) → AreWritable env policies.read → AreWritableInForce env policies versions → All IsWritableBinary changed → All (IsWritableKept env) session
      → filters_in (learnt_policies policies versions changed session) ≤ MOST_FILTERS → Reads (canon (learnt_policies policies versions changed session) env.emulation) env [] (learnt_policies policies versions changed session)
  learnt_is_read policies versions changed session w forced more kept few =
      let bs : List (List ℕ) = learnt_binaries policies.read changed in
      let binaries_are : AllByRecursion IsWritableBinary bs =
      all_writable changed (binaries policies.read) (recursion_from_All IsWritableBinary changed more) (binaries_writable env policies.read (recursion_from_All (IsWritablePolicy env) policies.read w.each)) in
      written_is_read env (learnt_policies policies versions changed session) (record {
        each = All-from_recursion (IsWritablePolicy env) (learnt_policies policies versions changed session)
            (each_writable policies versions session forced (recursion_from_All (IsWritableKept env) session kept) bs binaries_are);
        new = new_all policies versions session changed (binaries policies.read) (new_now policies versions session [] [] policies.read (λ b. refl) w.new);
        few = few;
      })

  -- ---- the policies in force

  -- the filters of a policy can be written
  abbrev HasWritableFilters : List FilterValue → Type 0
  HasWritableFilters filters = All (IsWritableFilter env) filters

  either_filters : (b : Bool) (fs gs : List FilterValue) → HasWritableFilters fs → HasWritableFilters gs → HasWritableFilters (cond b fs gs)
  either_filters true fs gs x y = x
  either_filters false fs gs x y = y

  pub read_in_force : (ps : List BinaryPolicy) (binary : List ℕ) → AllByRecursion (IsWritablePolicy env) ps → HasWritableFilters (policy_of ps binary)
  read_in_force [] binary each = All-nil (IsWritableFilter env)
  read_in_force (p ∷ ps) binary each = either_filters (bytes_eq p.binary binary) p.filters (policy_of ps binary) each.0.filters (read_in_force ps binary each.1)

  -- a policy of the script can be written, if there is one
  abbrev pub IsWritableBlock : Option BinaryPolicy → Type 0
  IsWritableBlock None = Unit {0}
  IsWritableBlock (Some block) = IsWritablePolicy env block

  block_at : (blocks : List BinaryPolicy) (place : ℕ) → AllByRecursion (IsWritablePolicy env) blocks → IsWritableBlock (slice_get blocks place)
  block_at [] place all = tt
  block_at (block ∷ blocks) zero all = all.0
  block_at (block ∷ blocks) (suc place) all = block_at blocks place all.1

  pub block_of : (blocks : List BinaryPolicy) (n : ℕ) → All (IsWritablePolicy env) blocks → IsWritableBlock (item_at_number blocks n)
  block_of blocks zero all = tt
  block_of blocks (suc place) all = block_at blocks place (recursion_from_All (IsWritablePolicy env) blocks all)

  pub block_in_force : (o : Option BinaryPolicy) (binary : List ℕ) → IsWritableBlock o → HasWritableFilters (filters_of_block o binary)
  block_in_force None binary block = All-nil (IsWritableFilter env)
  block_in_force (Some block) binary writable = either_filters (bytes_eq block.binary binary) block.filters [] writable.filters (All-nil (IsWritableFilter env))
