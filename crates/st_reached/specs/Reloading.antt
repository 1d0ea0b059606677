-- Which messages a reload renews.
use Rattle.std.specs.Prelude.{◌≡◌, ◌<◌, ℕ, suc, ◌+◌, true, List, slice_get, Some}
use Rattle.st_trace.specs.declared.entry.Change.{Change}
use Rattle.st_trace.specs.declared.entry.Change.TheVariants.{Renewed}
use Rattle.st_law.specs.declared.input.Input.{Input}
use Rattle.st_law.specs.History.{looking_back}
use Rattle.st_law.specs.Messages.{Head, head_at, posted_at}
use Rattle.st_law.specs.State.{is_live}
use Rattle.st_law.specs.Threads.{History}

-- a number is live, its message has this head, and it is under the policy of this binary
pub record IsLiveUnder (i : Input) (h : History) (binary : List ℕ) (q : ℕ) (head : Head) : Type 0 where
  pub live : is_live (looking_back i h) q ≡ true
  pub posted : head_at i h q ≡ Some head
  pub policy_is : head.policy ≡ binary

-- these changes renew exactly the live numbers under the policy of this binary, as the next numbers, each once and in the order of the threads
pub record AreRenewedUnder (i : Input) (h : History) (binary : List ℕ) (changes : List Change) : Type 0 where
  pub sound : (k : ℕ) (change : Change) → slice_get changes k ≡ Some change
      → (old : ℕ) × (head : Head) × IsLiveUnder i h binary old head × (change ≡ Renewed old (suc (posted_at h + k)))
  pub complete : (old : ℕ) (head : Head) → IsLiveUnder i h binary old head
      → (k : ℕ) × (slice_get changes k ≡ Some (Renewed old (suc (posted_at h + k))))
  pub in_order : (k old other p q : ℕ) (head next : Head) → slice_get changes k ≡ Some (Renewed old p) → slice_get changes (suc k) ≡ Some (Renewed other q)
      → head_at i h old ≡ Some head → head_at i h other ≡ Some next → head.tid < next.tid
