-- What is recorded under a number that was drawn is what is recorded of its last drawing.
use native.Mathlib.Omega.{arith}
use Rattle.std.proofs.Common.{◌≡◌, ◌≤◌, ℕ, suc, Bool, true, false, cond, ◌&&◌, ◌==◌, List, [], ◌∷◌, fold, Option, Some, None, option_map, refl, sym, ap, subst, ◌∙◌}
use Rattle.std.proofs.lemmas.Bool.{eq-eqb, eqb-false, eqb-true, ne_eqb}
use Rattle.st_calls.specs.declared.judged.Snapshot.{Snapshot}
use Rattle.st_calls.specs.declared.judged.Verdict.{Verdict}
use Rattle.st_model.specs.Tree.{is_number}
use Rattle.st_trace.specs.declared.entry.Change.{Change}
use Rattle.st_trace.specs.declared.entry.Change.TheVariants.{Renewed}
use Rattle.st_trace.specs.declared.entry.Entry.TheVariants.{Entered, Answered, Used, Denied, Reloaded}
use Rattle.st_trace.specs.declared.entry.Way.TheVariants.{Held}
use Rattle.st_law.specs.Numbers.{Drawings, counted, drawings_after_change, drawings_at, drawn_back, drawn_changes}
use Rattle.st_law.specs.Threads.{History}
use Rattle.st_audit.specs.FromHistory.{Answer, answer_after_change, answer_as, answer_with, applied_answer}
use Rattle.st_audit.proofs.LastDrawing.{AreCounted, counted_back, one_more}

module _ (n q : ℕ) where
  -- what is recorded under a number, and what is recorded of a drawing
  abbrev Same : Option Answer → Option Answer → Type 0
  Same named drawn = named ≡ option_map (answer_as n) drawn

  removed : (b : Bool) (named drawn : Option Answer) → Same named drawn → Same (cond b None named) (cond b None drawn)
  removed true named drawn same = refl
  removed false named drawn same = same

  -- ---- a drawing is made

  module _ (drawings : Drawings) (x : AreCounted drawings) (named drawn : Option Answer) (before : drawings.drawing_of n ≡ q → Same named drawn) where
    redrawn : (m : ℕ) (b : Bool) → (n == m) ≡ b → cond b (suc drawings.count) (drawings.drawing_of n) ≡ q → Same (cond (m == n) None named) (cond (suc drawings.count == q) None drawn)
    redrawn m true e means =
        ap (λ b. cond b None named) (eq-eqb m n (sym (eqb-true n m e))) ∙ sym (ap (λ b. option_map (answer_as n) (cond b None drawn)) (eq-eqb (suc drawings.count) q means))
    redrawn m false e means = ap (λ b. cond b None named) (ne_eqb m n (λ same. eqb-false n m e (sym same))) ∙ before means
        ∙ sym (ap (λ b. option_map (answer_as n) (cond b None drawn)) (ne_eqb (suc drawings.count) q (λ same. let low = x.low n in omega (arith, low, means, same))))

  -- ---- the changes of an entry

  changed : (drawing_of : ℕ → ℕ) (drawings : Drawings) (changes : List Change) (named drawn : Option Answer) → AreCounted drawings → (drawings.drawing_of n ≡ q → Same named drawn)
      → (fold drawings_after_change drawings changes).drawing_of n ≡ q → Same (fold (answer_after_change n) named changes) (fold (answer_after_change q) drawn (drawn_changes drawing_of drawings.count changes))
  changed drawing_of drawings [] named drawn x before means = before means
  changed drawing_of drawings (Renewed old new ∷ changes) named drawn x before means =
      changed drawing_of (counted drawings new) changes (cond (new == n) None named) (cond (suc drawings.count == q) None drawn) (one_more drawings x new)
      (redrawn drawings x named drawn before new (n == new) refl) means
  changed drawing_of drawings (_ ∷ changes) named drawn x before means = changed drawing_of drawings changes named drawn x before means

  -- ---- an entry

  module _ (drawings : Drawings) (x : AreCounted drawings) (means : drawings.drawing_of n ≡ q) (made : 1 ≤ q) where
    -- an entry has the number exactly if its drawing is the number's last one
    number_same : (m : ℕ) → (m == n) ≡ (drawings.drawing_of m == q)
    number_same m = by (m == n) refl where
      by : (b : Bool) → (m == n) ≡ b → b ≡ (drawings.drawing_of m == q)
      by true e = sym (eq-eqb (drawings.drawing_of m) q (ap drawings.drawing_of (eqb-true m n e) ∙ means))
      by false e = sym (ne_eqb (drawings.drawing_of m) q (λ same. eqb-false m n e (x.apart m n (subst (λ p. 1 ≤ p) (sym same) made) (same ∙ sym means))))

    names_same : (seq : Option ℕ) → is_number n seq ≡ is_number q (option_map drawings.drawing_of seq)
    names_same None = refl
    names_same (Some m) = number_same m

    closed : (seq : Option ℕ) (named drawn : Option Answer) → Same named drawn → Same (cond (is_number n seq) None named) (cond (is_number q (option_map drawings.drawing_of seq)) None drawn)
    closed seq named drawn same = ap (λ b. cond b None named) (names_same seq) ∙ removed (is_number q (option_map drawings.drawing_of seq)) named drawn same

    answered : (s : Snapshot) (v : Verdict) (applied : Bool) (named drawn : Option Answer) → Same named drawn
        → Same (cond ((s.seq == n) && applied) (Some (answer_with s v)) named) (cond ((drawings.drawing_of s.seq == q) && applied) (Some (answer_with (record s { seq = drawings.drawing_of s.seq }) v)) drawn)
    answered s v applied named drawn same = by (s.seq == n) refl applied where
      by : (b : Bool) → (s.seq == n) ≡ b → (applied : Bool)
          → Same (cond ((s.seq == n) && applied) (Some (answer_with s v)) named) (cond ((drawings.drawing_of s.seq == q) && applied) (Some (answer_with (record s { seq = drawings.drawing_of s.seq }) v)) drawn)
      by true e true =
          ap (λ b. cond (b && true) (Some (answer_with s v)) named) e ∙ (λ k. Some (answer_with (record s { seq = eqb-true s.seq n e k }) v))
          ∙ sym (ap (λ b. option_map (answer_as n) (cond (b && true) (Some (answer_with (record s { seq = drawings.drawing_of s.seq }) v)) drawn)) (sym (number_same s.seq) ∙ e))
      by true e false =
          ap (λ b. cond (b && false) (Some (answer_with s v)) named) e ∙ same
          ∙ sym (ap (λ b. option_map (answer_as n) (cond (b && false) (Some (answer_with (record s { seq = drawings.drawing_of s.seq }) v)) drawn)) (sym (number_same s.seq) ∙ e))
      by false e applied =
          ap (λ b. cond (b && applied) (Some (answer_with s v)) named) e ∙ same
          ∙ sym (ap (λ b. option_map (answer_as n) (cond (b && applied) (Some (answer_with (record s { seq = drawings.drawing_of s.seq }) v)) drawn)) (sym (number_same s.seq) ∙ e))

pub last_answer : (h : History) (n q : ℕ) → (drawings_at h).drawing_of n ≡ q → 1 ≤ q → applied_answer h n ≡ option_map (answer_as n) (applied_answer (drawn_back h) q)
last_answer [] n q means made = refl
last_answer (Entered u call regs (Held m) ∷ h) n q means made =
    redrawn n q (drawings_at h) (counted_back h) (applied_answer h n) (applied_answer (drawn_back h) q) (λ meant. last_answer h n q meant made) m (n == m) refl means
last_answer (Answered w s v applied ∷ h) n q means made =
    answered n q (drawings_at h) (counted_back h) means made s v applied (applied_answer h n) (applied_answer (drawn_back h) q) (last_answer h n q means made)
last_answer (Used u seq call regs args ids result changes ∷ h) n q means made =
    changed n q (drawings_at h).drawing_of (drawings_at h) changes (cond (is_number n seq) None (applied_answer h n)) (cond (is_number q (option_map (drawings_at h).drawing_of seq)) None (applied_answer (drawn_back h) q))
    (counted_back h)
    (λ meant. closed n q (drawings_at h) (counted_back h) meant made seq (applied_answer h n) (applied_answer (drawn_back h) q) (last_answer h n q meant made))
    means
last_answer (Denied u seq errno cause ∷ h) n q means made =
    closed n q (drawings_at h) (counted_back h) means made seq (applied_answer h n) (applied_answer (drawn_back h) q) (last_answer h n q means made)
last_answer (Reloaded u policy done changes ∷ h) n q means made =
    changed n q (drawings_at h).drawing_of (drawings_at h) changes (applied_answer h n) (applied_answer (drawn_back h) q) (counted_back h)
    (λ meant. last_answer h n q meant made) means
last_answer (_ ∷ h) n q means made = last_answer h n q means made
