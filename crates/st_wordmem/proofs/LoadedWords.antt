-- What a thread can load before and after a store.
use Rattle.std.proofs.Common.{◌≡◌, ◌≢◌, ℕ, suc, ◌<◌, List, length, get_or, set, Option, Some, None, inl, inr, refl, sym, subst}
use Rattle.std.proofs.lemmas.Bool.{cases_eq}
use Rattle.std.proofs.lemmas.Grind.{get_or-set_at}
use Rattle.std.proofs.lemmas.List.{get_or-set_other}
use Rattle.st_trace.specs.declared.start.Start.{Start}
use Rattle.st_law.specs.Loaded.{own_word, process_by_script, IsKnownWord, IsLoaded, IsLoadedAfter, IsNextStore, IsStoredIn}
use Rattle.st_law.proofs.OwnWords.{own_elsewhere, own_here}

module _ (start : Start) (t made place word : ℕ) (next : IsNextStore start t made place word) where
  -- the word is one that a thread of the process stores there
  pub stored : (pid : ℕ) → process_by_script start t ≡ pid → IsStoredIn start pid place word
  stored pid is = record { thread = t; made = made; process_is = is; store = next }

  module _ (words : List ℕ) (inside : place < length words) where
    here : (other : ℕ) → other ≡ place → get_or (set words place word) other 0 ≡ word
    here other same = get_or-set_at words place other word 0 same inside

    elsewhere : (other : ℕ) → other ≢ place → get_or (set words place word) other 0 ≡ get_or words other 0
    elsewhere other apart = get_or-set_other words place other word 0 apart

    -- each word stays 0, or one that a thread of the process stores there
    pub known_after : (pid : ℕ) → process_by_script start t ≡ pid → ((other : ℕ) → IsKnownWord start pid other (get_or words other 0))
        → (other : ℕ) → IsKnownWord start pid other (get_or (set words place word) other 0)
    known_after pid is known other = elim (cases_eq other place) [
      | inl same ↦ subst (IsKnownWord start pid other) (sym (here other same)) (inr (subst (λ p. IsStoredIn start pid p word) (sym same) (stored pid is)))
      | inr apart ↦ subst (IsKnownWord start pid other) (sym (elsewhere other apart)) (known other)
    ]

    -- the thread that stored can load what it stored
    pub loads_own : ((other : ℕ) → IsLoaded start t made other (get_or words other 0)) → (other : ℕ) → IsLoaded start t (suc made) other (get_or (set words place word) other 0)
    loads_own loads other = elim (cases_eq other place) [
      | inl same ↦
          subst (λ p. IsLoaded start t (suc made) p (get_or (set words place word) p 0)) (sym same)
          (subst (λ (z : Option ℕ × ℕ). IsLoadedAfter start t place z.0 z.1) (λ k. (sym (own_here start t made place word next) k, sym (here place refl) k)) (stored (process_by_script start t) refl, λ alone. refl))
      | inr apart ↦
          subst (λ (z : Option ℕ × ℕ). IsLoadedAfter start t other z.0 z.1) (λ k. (sym (own_elsewhere start t made place word next other (λ e. apart (sym e))) k, sym (elsewhere other apart) k)) (loads other)
    ]

    -- another thread of the process can load what was stored
    loaded_new : (u : ℕ) → u ≢ t → process_by_script start t ≡ process_by_script start u → (own : Option ℕ) → IsLoadedAfter start u place own word
    loaded_new u apart same None = inr (stored (process_by_script start u) same)
    loaded_new u apart same (Some own) = (stored (process_by_script start u) same, λ alone. absurd (alone t made word (λ e. apart (sym e)) same next))

    pub loads_others : (u count : ℕ) → u ≢ t → process_by_script start t ≡ process_by_script start u → ((other : ℕ) → IsLoaded start u count other (get_or words other 0))
        → (other : ℕ) → IsLoaded start u count other (get_or (set words place word) other 0)
    loads_others u count apart same loads other = elim (cases_eq other place) [
      | inl is ↦
          subst (λ p. IsLoaded start u count p (get_or (set words place word) p 0)) (sym is)
          (subst (IsLoaded start u count place) (sym (here place refl)) (loaded_new u apart same (own_word start u count place)))
      | inr not ↦ subst (IsLoaded start u count other) (sym (elsewhere other not)) (loads other)
    ]
