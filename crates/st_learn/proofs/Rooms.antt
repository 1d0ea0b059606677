-- A session is one still when room is made, and its versions when one is put in force.
use Rattle.std.proofs.Common.{◌≡◌, ◌<◌, ◌^◌, ◌-◌, ◌∙◌, ◌++◌, ℕ, Bool, true, false, cond, List, [], ◌∷◌, length, refl, ap, sym, subst, arith}
use Rattle.std.proofs.lemmas.List.{length-append}
use Rattle.std.specs.Prelude.{slice_get, unwrap_or}
use Rattle.std.specs.Str.{bytes_eq}
use Rattle.st_law.specs.Sessions.{SessionFilter}
use Rattle.st_compile.specs.Places.{GainsPlace, KeepsPlaces, PolicyPlaces, binaries_of, policy_places}
use Rattle.st_compile.proofs.Indices.{there}
use Rattle.st_learn.specs.Sessions.{AreApart, IsSession, KeepsVersions, last_number, numbers_after, places_asking, places_of, version_of}

module _ (kept kept_now : List SessionFilter) (numbers numbers_now : List ℕ) (policies policies_now texts texts_now reloads reloads_now : List PolicyPlaces) (textless : Bool) where
  pub room_made : IsSession kept numbers policies texts reloads textless → kept_now ≡ kept → numbers_now ≡ numbers → KeepsPlaces policies policies_now → KeepsPlaces texts texts_now → KeepsPlaces reloads reloads_now → AreApart (binaries_of policies_now)
      → IsSession kept_now numbers_now policies_now texts_now reloads_now textless
  room_made is same same_numbers of_policies of_texts of_reloads apart = record {
    policies_are = λ policy. of_policies.places policy ∙ is.policies_are policy ∙ ap (λ session. places_of session policy) (sym same);
    texts_are = λ text. of_texts.places text ∙ is.texts_are text ∙ ap (λ session. places_asking session text) (sym same);
    textless = λ none. ap (λ session. places_asking session []) same ∙ is.textless none;
    numbers_are = same_numbers ∙ is.numbers_are ∙ ap (numbers_after []) (sym same);
    few = subst (λ (session : List SessionFilter). length session < 2 ^ 31) (sym same) is.few;
    versions_few = λ binary. subst (λ version. version < 2 ^ 32) (sym (ap last_number (of_reloads.places binary))) (is.versions_few binary);
    apart = apart;
  }

-- where each policy has the same indices, it has the same version
pub versions_kept : (old new : List PolicyPlaces) → KeepsPlaces old new → KeepsVersions old new
versions_kept old new kept binary = ap last_number (kept.places binary)

-- ---- a version is put in force

last_is : (numbers : List ℕ) (n : ℕ) → last_number (numbers ++ n ∷ []) ≡ n
last_is numbers n =
    let long = length-append numbers (n ∷ []) in
    let last : length (numbers ++ n ∷ []) - 1 ≡ length numbers = omega (arith, long) in
    (λ k. unwrap_or (slice_get (numbers ++ n ∷ []) (last k)) 0) ∙ ap (λ o. unwrap_or o 0) (there numbers n [])

module _ (old new : List PolicyPlaces) (binary : List ℕ) (n : ℕ) (gains : GainsPlace old binary n new) where
  pub version_put : (other : List ℕ) → version_of new other ≡ cond (bytes_eq binary other) n (version_of old other)
  version_put other = ap last_number (gains other) ∙ by (bytes_eq binary other) where
    by : (b : Bool) → last_number (cond b (policy_places old other ++ n ∷ []) (policy_places old other)) ≡ cond b n (version_of old other)
    by true = last_is (policy_places old other) n
    by false = refl

  pub versions_fit : n < 2 ^ 32 → ((other : List ℕ) → version_of old other < 2 ^ 32) → (other : List ℕ) → version_of new other < 2 ^ 32
  versions_fit fits before other = subst (λ version. version < 2 ^ 32) (sym (version_put other)) (by (bytes_eq binary other)) where
    by : (b : Bool) → cond b n (version_of old other) < 2 ^ 32
    by true = fits
    by false = before other
