-- The words copied and the lookups' answers for each number stay within bounds.
use native.Mathlib.Omega.{arith}
use Rattle.std.proofs.Common.{◌≡◌, ◌≤◌, ◌<◌, ℕ, Bool, true, false, cond, ◌&&◌, ◌==◌, [], ◌∷◌, ◌++◌, length, Option, Some, None, refl, sym, subst, length-append}
use Rattle.std.proofs.lemmas.Bool.{eqb-true}
use Rattle.st_names.specs.Name.{Components}
use Rattle.st_names.specs.declared.seen.SeenText.{SeenText}
use Rattle.st_model.proofs.Endings.{AreWithin, AreWithin-push, link_parts}
use Rattle.st_effects.specs.Progress.{Word, Look}
use Rattle.st_trace.specs.declared.entry.Entry.{Entry}
use Rattle.st_trace.specs.declared.entry.Entry.TheVariants.{Stored, Entered, Claimed, Copied, Looked, Faulted, Answered, Used, Denied, Ended, Replied, Learned, Reloaded}
use Rattle.st_law.specs.declared.input.Input.{Input}
use Rattle.st_law.specs.History.{looking_back}
use Rattle.st_law.specs.Inputs.{IsStartable}
use Rattle.st_law.specs.Lawful.{IsLawful, IsLawfulBack}
use Rattle.st_law.specs.Machine.{state_after}
use Rattle.st_law.specs.Messages.{Head}
use Rattle.st_law.specs.State.{State, progress_of_head, progress_in, request_of_head}
use Rattle.st_law.specs.Threads.{History}
use Rattle.st_law.proofs.ProgressBounds.{IsFew, progress_few}
use Rattle.st_law.proofs.ShortLinks.{links_short, looked_short}
use Rattle.st_law.proofs.ShortTrees.{HasShortLinks}

pub record Copies (st : State) : Type 0 where
  pub words : (q j : ℕ) → length ((st.messages q).words j) ≤ 193
  pub lookups : (q j : ℕ) → length ((st.messages q).lookups j) ≤ 4608
  pub within : (q j : ℕ) → AreWithin 128 ((st.messages q).lookups j)

module _ (st : State) (x : Copies st) where
  head_few : (q : ℕ) (o : Option Head) → IsFew (st.messages q).words (st.messages q).lookups (progress_of_head o (st.messages q).words (st.messages q).lookups)
  head_few q None = tt
  head_few q (Some head) = progress_few (request_of_head head) (st.messages q).words (st.messages q).lookups (x.within q)

  -- a number needs a word or a look only while it has taken few
  pub few_taken : (q : ℕ) → IsFew (st.messages q).words (st.messages q).lookups (progress_in st q)
  few_taken q = head_few q (st.messages q).head

  pub few_words_due : (q part place : ℕ) → progress_in st q ≡ Word part place → (part < 2) × (length ((st.messages q).words part) ≤ 192)
  few_words_due q part place e = subst (IsFew (st.messages q).words (st.messages q).lookups) e (few_taken q)

  pub few_looks_due : (q part : ℕ) (name : Components) → progress_in st q ≡ Look part name → (part < 2) × (length ((st.messages q).lookups part) < 4608)
  few_looks_due q part name e = subst (IsFew (st.messages q).words (st.messages q).lookups) e (few_taken q)

  word_more : (q part word p j : ℕ) → length ((st.messages q).words part) ≤ 192 → (a b : Bool) → (q == p) ≡ a → (part == j) ≡ b → length (cond (a && b) ((st.messages p).words j ++ word ∷ []) ((st.messages p).words j)) ≤ 193
  word_more q part word p j few true true e f =
      let here : length ((st.messages p).words j) ≤ 192 = subst (λ n. length ((st.messages n).words j) ≤ 192) (eqb-true q p e) (subst (λ n. length ((st.messages q).words n) ≤ 192) (eqb-true part j f) few) in
      let more = length-append ((st.messages p).words j) (word ∷ []) in
      omega (arith, here, more)
  word_more q part word p j few true false e f = x.words p j
  word_more q part word p j few false b e f = x.words p j

  look_more : (q part : ℕ) (seen : SeenText) (p j : ℕ) → length ((st.messages q).lookups part) < 4608 → (a b : Bool) → (q == p) ≡ a → (part == j) ≡ b → length (cond (a && b) ((st.messages p).lookups j ++ seen ∷ []) ((st.messages p).lookups j)) ≤ 4608
  look_more q part seen p j few true true e f =
      let here : length ((st.messages p).lookups j) < 4608 = subst (λ n. length ((st.messages n).lookups j) < 4608) (eqb-true q p e) (subst (λ n. length ((st.messages q).lookups n) < 4608) (eqb-true part j f) few) in
      let more = length-append ((st.messages p).lookups j) (seen ∷ []) in
      omega (arith, here, more)
  look_more q part seen p j few true false e f = x.lookups p j
  look_more q part seen p j few false b e f = x.lookups p j

  within_more : (seen : SeenText) (p j : ℕ) → link_parts seen ≤ 128 → (b : Bool) → AreWithin 128 (cond b ((st.messages p).lookups j ++ seen ∷ []) ((st.messages p).lookups j))
  within_more seen p j short true = AreWithin-push 128 ((st.messages p).lookups j) seen (x.within p j) short
  within_more seen p j short false = x.within p j

  -- the bounds are kept by each lawful entry, while the tree's links are short
  pub copies_later : (i : Input) → HasShortLinks st.tree → (e : Entry) → IsLawful i st e → Copies (state_after i st e)
  copies_later i short (Copied q part place word) y = let few = few_words_due q part place y.due in
      record { words = λ p j. word_more q part word p j few.1 (q == p) (part == j) refl refl; lookups = x.lookups; within = x.within }
  copies_later i short (Looked q part name seen) y = let few = few_looks_due q part name y.due in record {
    words = x.words;
    lookups = λ p j. look_more q part seen p j few.1 (q == p) (part == j) refl refl;
    within = λ p j. within_more seen p j (subst (λ s. link_parts s ≤ 128) (sym y.seen_is) (looked_short st.tree name short)) (q == p && part == j);
  }
  copies_later i short (Stored u place word) y = record { words = x.words; lookups = x.lookups; within = x.within }
  copies_later i short (Entered u call regs way) y = record { words = x.words; lookups = x.lookups; within = x.within }
  copies_later i short (Claimed w q) y = record { words = x.words; lookups = x.lookups; within = x.within }
  copies_later i short (Faulted q errno) y = record { words = x.words; lookups = x.lookups; within = x.within }
  copies_later i short (Answered w s v applied) y = record { words = x.words; lookups = x.lookups; within = x.within }
  copies_later i short (Used u seq call regs args ids result changes) y = record { words = x.words; lookups = x.lookups; within = x.within }
  copies_later i short (Reloaded u n done changes) y = record { words = x.words; lookups = x.lookups; within = x.within }
  copies_later i short (Denied u seq errno cause) y = record { words = x.words; lookups = x.lookups; within = x.within }
  copies_later i short (Ended u) y = record { words = x.words; lookups = x.lookups; within = x.within }
  copies_later i short (Learned q n) y = record { words = x.words; lookups = x.lookups; within = x.within }
  copies_later i short (Replied q reply n) y = record { words = x.words; lookups = x.lookups; within = x.within }

-- the bounds hold after every lawful history
pub copies_of : (i : Input) → IsStartable i → (h : History) → IsLawfulBack i h → Copies (looking_back i h)
copies_of i startable [] lawful = record { words = λ q j. omega arith; lookups = λ q j. omega arith; within = λ q j. tt }
copies_of i startable (e ∷ h) lawful = copies_later (looking_back i h) (copies_of i startable h lawful.1) i (links_short i startable h lawful.1) e lawful.0
