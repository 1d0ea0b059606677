-- Memory after a call, in the spaces that weren't given up, and which spaces were given up.
use native.Mathlib.Omega.{arith}
use Rattle.std.proofs.Common.{◌≡◌, ◌≤◌, ◌<◌, ◌∙◌, ℕ, zero, suc, Bool, true, false, cond, not, ◌&&◌, ◌==◌, List, [], ◌∷◌, length, None, get_or, inl, inr, refl, ap, sym}
use Rattle.std.proofs.lemmas.Bool.{true≢false, cases_lt}
use Rattle.std.specs.Prelude.{is_some, nat_lt}
use Rattle.st_memory.specs.Memory.{Memories, is_space_live, next_space, KeepsSpaces}
use Rattle.st_model.specs.Memory.{bytes_after_put, bytes_after_store, memory_after_store}
use Rattle.st_effects.specs.Changes.{memory_after, memory_after_change}
use Rattle.st_trace.specs.declared.entry.Change.{Change}
use Rattle.st_trace.specs.declared.entry.Change.TheVariants.{Made, Linked, Removed, Renamed, Written, Cut, Moded, Owned, Put, Forked, Execed, SetIds, Cwd, Dying, Renewed, Policy}
use Rattle.st_system.specs.System.{is_given_up}

-- ---- two memories that agree on some spaces, one of them the process's own

module _ (own : ℕ) (P : ℕ → Type 0) (here : P own) where
  -- two memories have the same bytes in these spaces
  abbrev pub Agree : (ℕ → ℕ → ℕ) → (ℕ → ℕ → ℕ) → Type 0
  Agree a b = (s : ℕ) → P s → (n : ℕ) → a s n ≡ b s n

  step : (a b : ℕ → ℕ → ℕ) → Agree a b → (c : Change) → Agree (memory_after_change own a c) (memory_after_change own b c)
  step a b e (Made name obj kind uid gid mode) = e
  step a b e (Linked name obj) = e
  step a b e (Removed name) = e
  step a b e (Renamed old new) = e
  step a b e (Written obj at bytes) = e
  step a b e (Cut obj len) = e
  step a b e (Moded obj mode) = e
  step a b e (Owned obj uid gid) = e
  step a b e (Put space at bytes) = λ s is n k. cond (s == space) (bytes_after_put (λ n. e s is n k) at bytes n) (e s is n k)
  step a b e (Forked pid space tid) = λ s is n k. cond (s == space) (e own here n k) (e s is n k)
  step a b e (Execed binary space) = e
  step a b e (SetIds ids) = e
  step a b e (Cwd name) = e
  step a b e (Dying pid) = e
  step a b e (Renewed old new) = e
  step a b e (Policy binary) = e

  -- they still agree after changes that the process makes
  pub agree : (changes : List Change) (a b : ℕ → ℕ → ℕ) → Agree a b → Agree (memory_after own a changes) (memory_after own b changes)
  agree [] a b e = e
  agree (c ∷ changes) a b e = agree changes (memory_after_change own a c) (memory_after_change own b c) (step a b e c)

  -- they still agree after a store
  pub agree_stored : (place word : ℕ) (a b : ℕ → ℕ → ℕ) → Agree a b → Agree (memory_after_store a own place word) (memory_after_store b own place word)
  agree_stored place word a b e s is n = λ k. cond (s == own) (bytes_after_store (λ n. e s is n k) place word n) (e s is n k)

-- ---- spaces

-- a space that exists wasn't given up
pub live_kept : (memories : Memories) (s : ℕ) → is_space_live memories s ≡ true → is_given_up memories s ≡ false
live_kept memories s live = ap (λ b. nat_lt s (next_space memories) && not b) live ∙ nothing (nat_lt s (next_space memories)) where
  nothing : (b : Bool) → (b && false) ≡ false
  nothing true = refl
  nothing false = refl

beyond : {X : Type 0} (items : List X) (k : ℕ) (default : X) → length items ≤ k → get_or items k default ≡ default
beyond [] k default past = refl
beyond (x ∷ items) zero default past = absurd (omega (arith, past))
beyond (x ∷ items) (suc k) default past = beyond items k default (omega (arith, past))

-- the number of a space that exists was given
pub live_low : (memories : Memories) (s : ℕ) → is_space_live memories s ≡ true → s < next_space memories
live_low memories zero live = omega arith
live_low memories (suc k) live = elim (cases_lt k (length memories)) [
  | inl inside ↦ omega (arith, inside)
  | inr past ↦ absurd (true≢false (sym live ∙ ap is_some (beyond memories k None past)))
]

-- if the same spaces exist, the same spaces were given up
pub same_given_up : (old new : Memories) → KeepsSpaces old new → (s : ℕ) → is_given_up old s ≡ is_given_up new s
same_given_up old new keeps s = λ k. nat_lt s (sym keeps.0 k) && not (sym (keeps.1 s) k)
