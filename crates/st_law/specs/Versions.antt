-- The version of each policy that is in force: the number of the script's policy that the last reload put in its place. Also which policies a
-- run has changed.
use Rattle.std.specs.Prelude.{ℕ, ◌&&◌, if◌then◌else◌, List, [], ◌∷◌, Option, Some, None}
use Rattle.st_base.specs.Numbered.{item_at_number}
use Rattle.st_calls.specs.declared.judged.Snapshot.{Snapshot}
use Rattle.st_filter.specs.Policies.{is_block_of, with_binary}
use Rattle.st_filter.specs.declared.set.BinaryPolicy.{BinaryPolicy}
use Rattle.st_trace.specs.declared.entry.Entry.{Entry}
use Rattle.st_trace.specs.declared.entry.Entry.TheVariants.{Learned, Replied, Reloaded}
use Rattle.st_law.specs.declared.input.Input.{Input}
use Rattle.st_law.specs.Sessions.{learnt_by, replied_by, with_binaries}
use Rattle.st_law.specs.Threads.{History}

-- the version in force of a binary's policy after an entry: a reload that is done puts the script's policy in force for its binary
abbrev pub version_after : Input → Entry → List ℕ → ℕ → ℕ
version_after i (Reloaded t n done changes) binary before = if done && is_block_of i.policies n binary then n else before
version_after i _ binary before = before

-- the version in force of a binary's policy; at first it is the policy that was read
abbrev pub version_at : Input → History → List ℕ → ℕ
version_at i [] binary = 0
version_at i (e ∷ h) binary = version_after i e binary (version_at i h binary)

-- binaries, with that of an optional policy of the script appended if it isn't among them
abbrev pub with_binary_of : List (List ℕ) → Option BinaryPolicy → List (List ℕ)
with_binary_of binaries None = binaries
with_binary_of binaries (Some block) = with_binary binaries block.binary

-- the binaries whose policies a run has changed after an entry, by the copies of each number: those with a filter of the session or a reload
-- that is done, in the order of the first entry that gave them one
abbrev pub changed_after : Input → (ℕ → Option Snapshot) → Entry → List (List ℕ) → List (List ℕ)
changed_after i copies (Learned q n) before = with_binaries before (learnt_by (copies q))
changed_after i copies (Replied q reply n) before = with_binaries before (replied_by (item_at_number i.replies reply) (copies q))
changed_after i copies (Reloaded t n done changes) before = if done then with_binary_of before (item_at_number i.policies.blocks n) else before
changed_after i copies _ before = before
