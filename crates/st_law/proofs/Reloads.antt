-- The version of a policy is read off the entries, and what a reload needs.
use Rattle.std.proofs.Common.{◌≡◌, ◌↔◌, ℕ, Bool, true, false, cond, not, ◌&&◌, ◌==◌, List, ◌∷◌, ◌++◌, Option, Some, None, option_map, refl, sym, ap, ◌∙◌}
use Rattle.std.proofs.lemmas.Bool.{and_from, and_parts, eq-eqb, eqb-true}
use Rattle.std.proofs.lemmas.Option.{same_Some}
use Rattle.std.proofs.lemmas.Slice.Eq.{bytes_eq-Decides}
use Rattle.st_base.specs.Numbered.{item_at_number}
use Rattle.st_filter.specs.Policies.{PoliciesValue, binary_of_block, is_block_of, is_of_binary}
use Rattle.st_filter.specs.declared.set.BinaryPolicy.{BinaryPolicy}
use Rattle.st_model.specs.Process.{Process}
use Rattle.st_trace.specs.declared.entry.Entry.{Entry}
use Rattle.st_trace.specs.declared.entry.Entry.TheVariants.{Reloaded}
use Rattle.st_law.specs.declared.input.Input.{Input}
use Rattle.st_law.specs.Entries.{GivesVersion, Reloads}
use Rattle.st_law.specs.Messages.{Head}
use Rattle.st_law.specs.Splits.{GivesSome, IsLastOf, NoneTouches}
use Rattle.st_law.specs.State.{is_head_under, may_reload}
use Rattle.st_law.specs.Threads.{History}
use Rattle.st_law.specs.Versions.{version_at}
use Rattle.st_law.proofs.Splitting.{kept_later, last_of}

-- ---- the binary of a policy of the script

named_by : (o : Option BinaryPolicy) (binary : List ℕ) → is_of_binary o binary ≡ true → option_map (λ (block : BinaryPolicy). block.binary) o ≡ Some binary
named_by None binary e = cc
named_by (Some block) binary e = ap Some ((bytes_eq-Decides block.binary binary).0 e)

named_from : (o : Option BinaryPolicy) (binary : List ℕ) → option_map (λ (block : BinaryPolicy). block.binary) o ≡ Some binary → is_of_binary o binary ≡ true
named_from None binary e = cc
named_from (Some block) binary e = (bytes_eq-Decides block.binary binary).1 (same_Some block.binary binary e)

-- a policy of the script is for a binary exactly if that is the binary of its row
pub block_named : (policies : PoliciesValue) (n : ℕ) (binary : List ℕ) → (is_block_of policies n binary ≡ true) ↔ (binary_of_block policies n ≡ Some binary)
block_named policies n binary = (named_by (item_at_number policies.blocks n) binary, named_from (item_at_number policies.blocks n) binary)

-- ---- versions

module _ (i : Input) (binary : List ℕ) where
  reload_by : (done own : Bool) (n before : ℕ) → (done ≡ true → own ≡ true → ⊥) → cond (done && own) n before ≡ before
  reload_by true true n before none = absurd (none refl refl)
  reload_by true false n before none = refl
  reload_by false own n before none = refl

  -- an entry that doesn't reload the policy leaves its version
  version_kept : (e : Entry) (h : History) → (Reloads i binary e h → ⊥) → version_at i (e ∷ h) binary ≡ version_at i h binary
  version_kept (Reloaded t n done changes) h none = reload_by done (is_block_of i.policies n binary) n (version_at i h binary) (λ x y. none (x, (block_named i.policies n binary).0 y))
  version_kept _ h none = refl

  version_step : (e : Entry) (h : History) → (GivesSome (GivesVersion i binary) e h → ⊥) → version_at i (e ∷ h) binary ≡ version_at i h binary
  version_step (Reloaded t n done changes) h none = version_kept (Reloaded t n done changes) h (λ x. none (n, (x.0, x.1, refl)))
  version_step _ h none = refl

  version_give : (e : Entry) (h : History) (v : ℕ) → GivesVersion i binary e h v → version_at i (e ∷ h) binary ≡ v
  version_give (Reloaded t n done changes) h v x =
      ap (λ b. cond b n (version_at i h binary)) (and_from done (is_block_of i.policies n binary) x.0 ((block_named i.policies n binary).1 x.1)) ∙ sym x.2
  version_give _ h v x = absurd x

  pub version : IsLastOf (λ h. version_at i h binary) 0 (GivesVersion i binary)
  version = last_of (λ h. version_at i h binary) 0 (GivesVersion i binary) refl version_step version_give

  -- the version stays while no entry reloads the policy
  pub version_stays : (later earlier : History) → NoneTouches (Reloads i binary) later earlier → version_at i (later ++ earlier) binary ≡ version_at i earlier binary
  version_stays = kept_later (λ h. version_at i h binary) (Reloads i binary) version_kept

-- ---- who may reload

not_so : (b : Bool) → not b ≡ true → b ≡ false
not_so true e = cc
not_so false e = refl

pub may : (process : Process) → (may_reload process ≡ true) ↔ (process.traced ≡ false) × (process.ids.euid ≡ 0)
may process = (there, λ x. and_from (not process.traced) (process.ids.euid == 0) (ap not x.0) (eq-eqb process.ids.euid 0 x.1)) where
  there : may_reload process ≡ true → (process.traced ≡ false) × (process.ids.euid ≡ 0)
  there e = let both = and_parts (not process.traced) (process.ids.euid == 0) e in (not_so process.traced both.0, eqb-true process.ids.euid 0 both.1)

-- which heads are under the policy
pub head_under : (i : Input) (n : ℕ) (head : Head) → (is_head_under i n (Some head) ≡ true) ↔ (binary_of_block i.policies n ≡ Some head.policy)
head_under i n head = block_named i.policies n head.policy
