-- Executing a binary changes no byte of memory but those of the space that is given up, and makes one more space.
use Rattle.std.proofs.Common.{◌≡◌, ◌≢◌, ◌∙◌, refl, sym, ap, subst, ℕ, suc, Bool, true, false, cond, ◌==◌, List, ◌∷◌, Result, Ok, Err, IfOk}
use Rattle.std.proofs.lemmas.Bool.{ne_eqb}
use Rattle.st_memory.specs.Memory.{Memories, byte_in, is_space_live, next_space}
use Rattle.st_effects.specs.Changes.{memory_after}
use Rattle.st_effects.specs.Processes.{policy_changes}
use Rattle.st_trace.specs.declared.entry.Change.{Change}
use Rattle.st_trace.specs.declared.entry.Change.TheVariants.{Execed}
use Rattle.st_exec_objects.specs.Execution.{AreSpacesAfter}
use Rattle.st_request.specs.declared.outcome.Outcome.{Outcome}

no_byte_moves : (own : ℕ) (before : ℕ → ℕ → ℕ) (binary : List ℕ) (number : ℕ) (inherit : Bool) → memory_after own before (Execed binary number ∷ policy_changes inherit binary) ≡ before
no_byte_moves own before binary number true = refl
no_byte_moves own before binary number false = refl

-- after a new space was made, and the process's own given up
pub memory_left : {E : Type 0} (result : Result Outcome E) (own space number : ℕ) (binary : List ℕ) (inherit : Bool) (old mid new : Memories) → space ≡ own
    → ((s b : ℕ) → byte_in new s b ≡ cond (s == space) 0 (byte_in mid s b)) → ((s b : ℕ) → byte_in mid s b ≡ byte_in old s b)
    → IfOk result (λ given. given.changes ≡ Execed binary number ∷ policy_changes inherit binary)
    → IfOk result (λ given. (s b : ℕ) → s ≢ own → byte_in new s b ≡ memory_after own (byte_in old) given.changes s b)
memory_left (Ok given) own space number binary inherit old mid new same gone stays is = λ s b differs.
    gone s b ∙ ap (λ t. cond t 0 (byte_in mid s b)) (ne_eqb s space (λ e. differs (e ∙ same))) ∙ stays s b
    ∙ sym (ap (λ (changes : List Change). memory_after own (byte_in old) changes s b) is ∙ ap (λ (m : ℕ → ℕ → ℕ). m s b) (no_byte_moves own (byte_in old) binary number inherit))
memory_left (Err error) own space number binary inherit old mid new same gone stays is = tt

-- which spaces exist after that
pub spaces_left : {E : Type 0} (result : Result Outcome E) (own space number : ℕ) (binary : List ℕ) (inherit : Bool) (old mid new : Memories) → space ≡ own → number ≡ next_space old
    → ((s : ℕ) → is_space_live new s ≡ cond (s == space) false (is_space_live mid s)) → ((s : ℕ) → is_space_live mid s ≡ cond (s == next_space old) true (is_space_live old s))
    → next_space new ≡ next_space mid → next_space mid ≡ suc (next_space old)
    → IfOk result (λ given. given.changes ≡ Execed binary number ∷ policy_changes inherit binary)
    → IfOk result (λ given. AreSpacesAfter own old given.changes new)
spaces_left (Ok given) own space number binary inherit old mid new same named gone made kept more is = subst (λ (changes : List Change). AreSpacesAfter own old changes new) (sym is) (by inherit) where
  lives : (s : ℕ) → is_space_live new s ≡ cond (s == own) false (cond (s == number) true (is_space_live old s))
  lives s = gone s ∙ ap (λ (m : ℕ). cond (s == m) false (is_space_live mid s)) same ∙ ap (cond (s == own) false) (made s ∙ ap (λ (m : ℕ). cond (s == m) true (is_space_live old s)) (sym named))

  by : (inherit : Bool) → AreSpacesAfter own old (Execed binary number ∷ policy_changes inherit binary) new
  by true = record { none = λ no. absurd (cc); next = kept ∙ more ∙ ap suc (sym named); live = lives }
  by false = record { none = λ no. absurd (cc); next = kept ∙ more ∙ ap suc (sym named); live = lives }
spaces_left (Err error) own space number binary inherit old mid new same named gone made kept more is = tt
