-- Marks of threads, while the threads of a kind are woken one after the other.
use native.Mathlib.Omega.{arith}
use Rattle.std.proofs.Common.{◌≡◌, ◌≤◌, ◌<◌, ◌+◌, ◌∙◌, ◌==◌, ℕ, suc, Bool, true, false, List, length, Option, None, inl, inr, refl, ap, sym}
use Rattle.std.proofs.lemmas.Bool.{cases_eq, eqb-false, leb-false, leb-true, ne_eqb, true≢false}
use Rattle.std.proofs.lemmas.Option.{slice_get_past}
use Rattle.std.specs.Prelude.{nat_le}
use Rattle.st_decide.specs.Holding.{message_held, message_of, held_drawing}
use Rattle.st_decide.specs.Machine.{Running}
use Rattle.st_threads.specs.Thread.{ThreadRow}
use Rattle.st_waking.specs.Waking.{is_asleep}

-- of the threads before `tid`, those of the kind are awake, and the others are unchanged
pub record IsWokenTo (is : ℕ → Bool) (tid : ℕ) (old now : List Bool) : Type 0 where
  pub count : length now ≡ length old
  pub before : (place : ℕ) → is_asleep now place ≡ true → is_asleep old place ≡ true
  pub woken : (place : ℕ) → suc place < tid → is_asleep now place ≡ true → is (suc place) ≡ false
  pub others : (place : ℕ) → is_asleep old place ≡ true → is (suc place) ≡ false → is_asleep now place ≡ true

module _ (is : ℕ → Bool) (tid : ℕ) (old now : List Bool) (so_far : IsWokenTo is tid old now) where
  -- a thread that isn't of the kind is unchanged
  pub passed : is tid ≡ false → IsWokenTo is (tid + 1) old now
  passed other = record {
    count = so_far.count;
    before = so_far.before;
    woken = λ place below asleep. elim (cases_eq (suc place) tid) [
      | inl same ↦ ap is same ∙ other
      | inr ne ↦ so_far.woken place (omega (arith, below, ne)) asleep
    ];
    others = so_far.others;
  }

  -- a thread of the kind is marked as awake
  pub marked : is tid ≡ true → (new : List Bool) → length new ≡ length now → ((place : ℕ) → is_asleep new place ≡ true → is_asleep now place ≡ true) → ((place : ℕ) → is_asleep new place ≡ true → (suc place == tid) ≡ false)
      → ((place : ℕ) → is_asleep now place ≡ true → (suc place == tid) ≡ false → is_asleep new place ≡ true) → IsWokenTo is (tid + 1) old new
  marked one new count before awake others = record {
    count = count ∙ so_far.count;
    before = λ place asleep. so_far.before place (before place asleep);
    woken = λ place below asleep. let ne = eqb-false (suc place) tid (awake place asleep) in so_far.woken place (omega (arith, below, ne)) (before place asleep);
    others = λ place asleep other. others place (so_far.others place asleep other) (ne_eqb (suc place) tid (λ same. true≢false (sym one ∙ sym (ap is same) ∙ other)));
  }

  -- if no thread of the kind comes later, all of them are woken
  pub all_woken : (count : ℕ) → count < tid → ((place : ℕ) → count ≤ place → is (suc place) ≡ false) → (place : ℕ) → is_asleep now place ≡ true → is (suc place) ≡ false
  all_woken count over none place asleep = by (nat_le count place) refl where
    by : (b : Bool) → nat_le count place ≡ b → is (suc place) ≡ false
    by true beyond = none place (leb-true count place beyond)
    by false within = so_far.woken place (let low = leb-false count place within in omega (arith, low, over)) asleep

-- a number greater than those of all threads is no thread's
pub nothing_held : (m : Running) (place : ℕ) → length m.threads ≤ place → message_held m (suc place) ≡ None
nothing_held m place beyond = ap (λ (o : Option ThreadRow). message_of m (held_drawing o)) (slice_get_past m.threads place beyond)
