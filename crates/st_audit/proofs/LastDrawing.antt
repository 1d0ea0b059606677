-- Each number that was drawn means its last drawing, and no two numbers mean the same one.
use native.Mathlib.Omega.{arith}
use Rattle.std.proofs.Common.{◌≡◌, ◌≤◌, ◌⊎◌, ℕ, suc, Bool, true, false, cond, ◌&&◌, ◌||◌, ◌==◌, List, [], ◌∷◌, fold, Option, None, refl, sym, ap, ◌∙◌, inl, inr}
use Rattle.std.proofs.lemmas.Bool.{and_parts, eqb-true, eqb-false, ne_eqb}
use Rattle.st_trace.specs.declared.entry.Change.{Change}
use Rattle.st_trace.specs.declared.entry.Change.TheVariants.{Renewed}
use Rattle.st_trace.specs.declared.entry.Entry.TheVariants.{Entered, Answered, Used, Reloaded}
use Rattle.st_trace.specs.declared.entry.Way.TheVariants.{Held}
use Rattle.st_law.specs.Messages.{is_answered_at}
use Rattle.st_law.specs.Numbers.{Drawings, counted, drawings_after_change, drawings_at, drawn_back}
use Rattle.st_law.specs.Threads.{History}
use Rattle.st_audit.specs.FromHistory.{Answer, answer_after_change}

-- the drawings of numbers were counted, and no two numbers that were drawn have the same
pub record AreCounted (drawings : Drawings) : Type 0 where
  pub low : (n : ℕ) → drawings.drawing_of n ≤ drawings.count
  pub apart : (m n : ℕ) → 1 ≤ drawings.drawing_of m → drawings.drawing_of m ≡ drawings.drawing_of n → m ≡ n

-- ---- one more drawing

module _ (drawings : Drawings) (x : AreCounted drawings) (new : ℕ) where
  abbrev drawing_if : Bool → ℕ → ℕ
  drawing_if is_new n = cond is_new (suc drawings.count) (drawings.drawing_of n)

  low_by : (n : ℕ) (b : Bool) → drawing_if b n ≤ suc drawings.count
  low_by n true = omega arith
  low_by n false = let low = x.low n in omega (arith, low)

  apart_by : (m n : ℕ) (b c : Bool) → (m == new) ≡ b → (n == new) ≡ c → 1 ≤ drawing_if b m → drawing_if b m ≡ drawing_if c n → m ≡ n
  apart_by m n true true e f made same = eqb-true m new e ∙ sym (eqb-true n new f)
  apart_by m n true false e f made same = let low = x.low n in absurd (omega (arith, low, same))
  apart_by m n false true e f made same = let low = x.low m in absurd (omega (arith, low, same))
  apart_by m n false false e f made same = x.apart m n made same

  pub one_more : AreCounted (counted drawings new)
  one_more = record { low = λ n. low_by n (n == new); apart = λ m n made same. apart_by m n (m == new) (n == new) refl refl made same }

-- ---- the changes of an entry

changes_counted : (drawings : Drawings) (changes : List Change) → AreCounted drawings → AreCounted (fold drawings_after_change drawings changes)
changes_counted drawings [] x = x
changes_counted drawings (Renewed old new ∷ changes) x = changes_counted (counted drawings new) changes (one_more drawings x new)
changes_counted drawings (_ ∷ changes) x = changes_counted drawings changes x

count_grows : (drawings : Drawings) (changes : List Change) → drawings.count ≤ (fold drawings_after_change drawings changes).count
count_grows drawings [] = omega arith
count_grows drawings (Renewed old new ∷ changes) = let more = count_grows (counted drawings new) changes in omega (arith, more)
count_grows drawings (_ ∷ changes) = count_grows drawings changes

module _ (n : ℕ) where
  -- changes leave the drawing of a number, and what is recorded under it
  abbrev pub AreLeft : Drawings → List Change → Type 0
  AreLeft drawings changes = ((fold drawings_after_change drawings changes).drawing_of n ≡ drawings.drawing_of n) × ((before : Option Answer) → fold (answer_after_change n) before changes ≡ before)

  -- or they draw the number again
  abbrev pub IsRedrawn : Drawings → List Change → Type 0
  IsRedrawn drawings changes = suc drawings.count ≤ (fold drawings_after_change drawings changes).drawing_of n

  pub redrawn_or_left : (drawings : Drawings) (changes : List Change) → IsRedrawn drawings changes ⊎ AreLeft drawings changes
  redrawn_or_left drawings [] = inr (refl, λ before. refl)
  redrawn_or_left drawings (Renewed old new ∷ changes) = by (n == new) refl (redrawn_or_left (counted drawings new) changes) where
    by : (b : Bool) → (n == new) ≡ b → IsRedrawn (counted drawings new) changes ⊎ AreLeft (counted drawings new) changes → IsRedrawn drawings (Renewed old new ∷ changes) ⊎ AreLeft drawings (Renewed old new ∷ changes)
    by b e (inl high) = inl (omega (arith, high))
    by true e (inr left) =
        let same : (fold drawings_after_change (counted drawings new) changes).drawing_of n ≡ suc drawings.count = left.0 ∙ ap (λ b. cond b (suc drawings.count) (drawings.drawing_of n)) e in
        inl (omega (arith, same))
    by false e (inr left) = inr (
      left.0 ∙ ap (λ b. cond b (suc drawings.count) (drawings.drawing_of n)) e,
      λ before. ap (λ b. fold (answer_after_change n) (cond b None before) changes) (ne_eqb new n (λ same. eqb-false n new e (sym same))) ∙ left.1 before,
    )
  redrawn_or_left drawings (_ ∷ changes) = redrawn_or_left drawings changes

-- ---- a history

pub counted_back : (h : History) → AreCounted (drawings_at h)
counted_back [] = record { low = λ n. omega arith; apart = λ m n made same. absurd (omega (arith, made)) }
counted_back (Entered t call regs (Held n) ∷ h) = one_more (drawings_at h) (counted_back h) n
counted_back (Used t seq call regs args ids result changes ∷ h) = changes_counted (drawings_at h) changes (counted_back h)
counted_back (Reloaded t policy done changes ∷ h) = changes_counted (drawings_at h) changes (counted_back h)
counted_back (_ ∷ h) = counted_back h

-- only drawings that were counted are answered
pub answered_low : (h : History) (q : ℕ) → is_answered_at (drawn_back h) q ≡ true → q ≤ (drawings_at h).count
answered_low [] q answered = absurd cc
answered_low (Answered w s v applied ∷ h) q answered = by (((drawings_at h).drawing_of s.seq == q) && applied) refl answered (answered_low h q) where
  by : (b : Bool) → (((drawings_at h).drawing_of s.seq == q) && applied) ≡ b → (b || is_answered_at (drawn_back h) q) ≡ true → (is_answered_at (drawn_back h) q ≡ true → q ≤ (drawings_at h).count) → q ≤ (drawings_at h).count
  by true e here older =
      let same : (drawings_at h).drawing_of s.seq ≡ q = eqb-true ((drawings_at h).drawing_of s.seq) q (and_parts ((drawings_at h).drawing_of s.seq == q) applied e).0 in
      let low = (counted_back h).low s.seq in omega (arith, low, same)
  by false e before older = older before
answered_low (Entered t call regs (Held n) ∷ h) q answered = let low = answered_low h q answered in omega (arith, low)
answered_low (Used t seq call regs args ids result changes ∷ h) q answered =
    let low = answered_low h q answered in let more = count_grows (drawings_at h) changes in omega (arith, low, more)
answered_low (Reloaded t policy done changes ∷ h) q answered =
    let low = answered_low h q answered in let more = count_grows (drawings_at h) changes in omega (arith, low, more)
answered_low (_ ∷ h) q answered = answered_low h q answered
