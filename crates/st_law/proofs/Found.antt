-- Which processes and which held calls a call sees.
use native.Mathlib.Omega.{arith}
use Rattle.std.proofs.Common.{◌≡◌, ◌≢◌, ◌≤◌, ◌<◌, ◌⊎◌, ◌↔◌, ℕ, zero, suc, ◌+◌, nat_lt, Bool, true, false, cond, not, ◌&&◌, ◌||◌, ◌==◌, List, [], ◌∷◌, ◌++◌, slice_get, Option, Some, None, is_some, refl, sym, ap, subst, ◌∙◌, inl, inr}
use Rattle.std.proofs.lemmas.Bool.{and_from, and_parts, eqb-false, eqb-true, eq-eqb, ltb-true, lt-ltb, true≢false}
use Rattle.std.proofs.lemmas.Option.{same_Some}
use Rattle.st_effects.specs.System.{HeldCall}
use Rattle.st_trace.specs.declared.entry.Way.{Way}
use Rattle.st_trace.specs.declared.entry.Way.TheVariants.{Fast, Barred, Held, Untraced}
use Rattle.st_law.specs.declared.input.Input.{Input}
use Rattle.st_law.specs.Laws.{IsOneOf, IsProcessLive, AreHeldCalls}
use Rattle.st_law.specs.Sessions.{least_from}
use Rattle.st_law.specs.State.{State, thread_count, is_some_thread, is_thread_of, is_running_in, is_live_process, held_by_way, held_by_pending, held_from}
use Rattle.st_law.specs.Threads.{PendingCall}
use Rattle.st_law.proofs.HeldCalls.{IsHolder, held_of, own_of}
use Rattle.st_law.proofs.Least.{least}

-- ---- some thread

module _ (i : Input) (is : ℕ → Bool) where
  -- some thread has the property, or none has
  abbrev SomeOrNone : Option ℕ → Type 0
  SomeOrNone o = ((is_some o ≡ true) × ((t : ℕ) × IsOneOf i t × (is t ≡ true))) ⊎ ((is_some o ≡ false) × ((t : ℕ) → IsOneOf i t → is t ≡ false))

  some_or_none : SomeOrNone (least_from is 1 (thread_count i))
  some_or_none = least SomeOrNone is 1 (thread_count i)
      (λ q x. inl (refl, (q, (x.low, let high = x.high in omega (arith, high)), x.holds)))
      (λ none. inr (refl, λ t one. none t one.0 (let high = one.1 in omega (arith, high))))

-- ---- processes

module _ (i : Input) (st : State) (p : ℕ) where
  abbrev Running : Type 0
  Running = ((t : ℕ) → IsOneOf i t → (st.threads t).owner ≢ p) ⊎ ((t : ℕ) × IsOneOf i t × ((st.threads t).owner ≡ p) × ((st.threads t).ended ≡ false))

  not_so : (b : Bool) → not b ≡ true → b ≡ false
  not_so true e = cc
  not_so false e = refl

  running_by : (a b : Bool) → (not a || b) ≡ true → ((a ≡ true) × ((t : ℕ) × IsOneOf i t × (is_thread_of st p t ≡ true))) ⊎ ((a ≡ false) × ((t : ℕ) → IsOneOf i t → is_thread_of st p t ≡ false))
      → ((b ≡ true) × ((t : ℕ) × IsOneOf i t × (is_running_in st p t ≡ true))) ⊎ ((b ≡ false) × ((t : ℕ) → IsOneOf i t → is_running_in st p t ≡ false)) → Running
  running_by a b e (inr none) other = inl (λ t one same. true≢false (sym (eq-eqb (st.threads t).owner p same) ∙ none.1 t one))
  running_by a b e (inl some) (inl runs) =
      let both = and_parts ((st.threads runs.1.0).owner == p) (not (st.threads runs.1.0).ended) runs.1.2 in
      inr (runs.1.0, runs.1.1, eqb-true (st.threads runs.1.0).owner p both.0, not_so (st.threads runs.1.0).ended both.1)
  running_by a b e (inl some) (inr ends) = absurd (clash a b e some.0 ends.0) where
    clash : (a b : Bool) → (not a || b) ≡ true → a ≡ true → b ≡ false → ⊥
    clash a b f g h = cc

  runs_by : (a b : Bool) → ((a ≡ true) × ((t : ℕ) × IsOneOf i t × (is_thread_of st p t ≡ true))) ⊎ ((a ≡ false) × ((t : ℕ) → IsOneOf i t → is_thread_of st p t ≡ false))
      → ((b ≡ true) × ((t : ℕ) × IsOneOf i t × (is_running_in st p t ≡ true))) ⊎ ((b ≡ false) × ((t : ℕ) → IsOneOf i t → is_running_in st p t ≡ false)) → Running → (not a || b) ≡ true
  runs_by a b (inr none) other run = ap (λ c. not c || b) none.0
  runs_by a b (inl some) (inl runs) run = by a (not a || b) runs.0 where
    by : (a c : Bool) → b ≡ true → (not a || b) ≡ true
    by true c e = e
    by false c e = refl
  runs_by a b (inl some) (inr ends) (inl none) = absurd (none some.1.0 some.1.1 (eqb-true (st.threads some.1.0).owner p some.1.2))
  runs_by a b (inl some) (inr ends) (inr run) =
      absurd (true≢false (sym (and_from ((st.threads run.0).owner == p) (not (st.threads run.0).ended) (eq-eqb (st.threads run.0).owner p run.2) (ap not run.3)) ∙ ends.1 run.0 run.1))

  pub live : (is_live_process i st p ≡ true) ↔ IsProcessLive i st p
  live = (there, lives) where
    there : is_live_process i st p ≡ true → IsProcessLive i st p
    there e =
        let x = and_parts (nat_lt 0 p && nat_lt p st.next_process) (not (is_some_thread i (is_thread_of st p)) || is_some_thread i (is_running_in st p)) e in
        let y = and_parts (nat_lt 0 p) (nat_lt p st.next_process) x.0 in
        record {
          low = ltb-true 0 p y.0;
          given = ltb-true p st.next_process y.1;
          running = running_by (is_some_thread i (is_thread_of st p)) (is_some_thread i (is_running_in st p)) x.1 (some_or_none i (is_thread_of st p)) (some_or_none i (is_running_in st p));
        }

    lives : IsProcessLive i st p → is_live_process i st p ≡ true
    lives x = and_from (nat_lt 0 p && nat_lt p st.next_process) (not (is_some_thread i (is_thread_of st p)) || is_some_thread i (is_running_in st p))
        (and_from (nat_lt 0 p) (nat_lt p st.next_process) (lt-ltb 0 p x.low) (lt-ltb p st.next_process x.given))
        (runs_by (is_some_thread i (is_thread_of st p)) (is_some_thread i (is_running_in st p)) (some_or_none i (is_thread_of st p)) (some_or_none i (is_running_in st p)) x.running)

-- ---- held calls

module _ (st : State) (b : ℕ) where
  -- the held calls of threads from a on and below b, in their order
  abbrev Rises : ℕ → List HeldCall → Type 0
  Rises a [] = Unit {0}
  Rises a (held ∷ more) = (a ≤ held.tid) × (held.tid < b) × IsHolder st held.tid × (held ≡ held_of st held.tid) × Rises (suc held.tid) more

  rises_on : (a c : ℕ) (helds : List HeldCall) → a ≤ c → Rises c helds → Rises a helds
  rises_on a c [] low x = tt
  rises_on a c (held ∷ more) low x = (let high = x.0 in omega (arith, low, high), x.1, x.2, x.3, x.4)

  -- the call of one thread before those of later threads
  by_dying : (a : ℕ) (entered : PendingCall) (first : ℕ) (later : List HeldCall) → (st.threads a).pending ≡ Some entered → entered.way ≡ Held first → a < b → (c : Bool) → (st.threads a).dying ≡ c → Rises (suc a) later
      → Rises a (cond c [] (held_of st a ∷ []) ++ later)
  by_dying a entered first later pending way high true e x = rises_on a (suc a) later (omega arith) x
  by_dying a entered first later pending way high false e x =
      (omega arith, high, record { entered = entered; pending = pending; first = first; way = way; undying = e }, refl, x)

  by_way : (a : ℕ) (entered : PendingCall) (later : List HeldCall) → (st.threads a).pending ≡ Some entered → a < b → (way : Way) → entered.way ≡ way → Rises (suc a) later → Rises a (held_by_way st a way ++ later)
  by_way a entered later pending high Fast e x = rises_on a (suc a) later (omega arith) x
  by_way a entered later pending high (Barred n) e x = rises_on a (suc a) later (omega arith) x
  by_way a entered later pending high Untraced e x = rises_on a (suc a) later (omega arith) x
  by_way a entered later pending high (Held first) e x = by_dying a entered first later pending e high (st.threads a).dying refl x

  by_pending : (a : ℕ) (later : List HeldCall) → a < b → (o : Option PendingCall) → (st.threads a).pending ≡ o → Rises (suc a) later → Rises a (held_by_pending st a o ++ later)
  by_pending a later high None e x = rises_on a (suc a) later (omega arith) x
  by_pending a later high (Some entered) e x = by_way a entered later e high entered.way refl x

  rises : (a count : ℕ) → a + count ≤ b → Rises a (held_from st a count)
  rises a zero high = tt
  rises a (suc count) high = by_pending a (held_from st (suc a) count) (omega (arith, high)) (st.threads a).pending refl (rises (suc a) count (omega (arith, high)))

  -- an item of such calls is that of a thread, and the one after it is a later thread's
  item_of : (a k : ℕ) (helds : List HeldCall) (held : HeldCall) → Rises a helds → slice_get helds k ≡ Some held → (a ≤ held.tid) × (held.tid < b) × IsHolder st held.tid × (held ≡ held_of st held.tid)
  item_of a zero [] held x e = cc
  item_of a (suc k) [] held x e = cc
  item_of a zero (first ∷ more) held x e =
      subst (λ h. (a ≤ h.tid) × (h.tid < b) × IsHolder st h.tid × (h ≡ held_of st h.tid)) (same_Some first held e) (x.0, x.1, x.2, x.3)
  item_of a (suc k) (first ∷ more) held x e =
      let y = item_of (suc first.tid) k more held x.4 e in (let low = x.0 in let high = y.0 in omega (arith, low, high), y.1, y.2, y.3)

  next_of : (a k : ℕ) (helds : List HeldCall) (held next : HeldCall) → Rises a helds → slice_get helds k ≡ Some held → slice_get helds (suc k) ≡ Some next → held.tid < next.tid
  next_of a zero [] held next x e f = cc
  next_of a (suc k) [] held next x e f = cc
  next_of a zero (first ∷ more) held next x e f =
      let y = item_of (suc first.tid) 0 more next x.4 f in let low = y.0 in let same = ap (λ h. h.tid) (same_Some first held e) in omega (arith, low, same)
  next_of a (suc k) (first ∷ more) held next x e f = next_of (suc first.tid) k more held next x.4 e f

-- ---- each held call is among them

module _ (st : State) where
  abbrev IsIn : ℕ → List HeldCall → Type 0
  IsIn t helds = (k : ℕ) × (slice_get helds k ≡ Some (held_of st t))

  following : (t : ℕ) (front helds : List HeldCall) → IsIn t helds → IsIn t (front ++ helds)
  following t [] helds x = x
  following t (first ∷ front) helds x = let y : IsIn t (front ++ helds) = following t front helds x in (suc y.0, y.1)

  is_in : (t a count : ℕ) → IsHolder st t → a ≤ t → t < a + count → IsIn t (held_from st a count)
  is_in t a zero x low high = absurd (omega (arith, low, high))
  is_in t a (suc count) x low high = by (a == t) refl (λ differ. is_in t (suc a) count x (omega (arith, low, differ)) (omega (arith, high))) where
    by : (b : Bool) → (a == t) ≡ b → (a ≢ t → IsIn t (held_from st (suc a) count)) → IsIn t (held_by_pending st a (st.threads a).pending ++ held_from st (suc a) count)
    by true e later = subst (λ n. IsIn t (held_by_pending st n (st.threads n).pending ++ held_from st (suc a) count)) (sym (eqb-true a t e))
        (subst (λ front. IsIn t (front ++ held_from st (suc a) count)) (sym (own_of st t x)) (0, refl))
    by false e later = following t (held_by_pending st a (st.threads a).pending) (held_from st (suc a) count) (later (eqb-false a t e))

pub held : (i : Input) (st : State) → AreHeldCalls i st (held_from st 1 (thread_count i))
held i st =
    let all = rises st (suc (thread_count i)) 1 (thread_count i) (omega arith) in record {
      sound = λ k held e. let x = item_of st (suc (thread_count i)) 1 k (held_from st 1 (thread_count i)) held all e in (
        record {
          one = (x.0, let high = x.1 in omega (arith, high));
          first = x.2.first;
          entered = x.2.entered;
          pending = x.2.pending;
          way = x.2.way;
          undying = x.2.undying;
        },
        x.3,
      );
      complete = λ t x. let y = is_in st t 1 (thread_count i) (record { entered = x.entered; pending = x.pending; first = x.first; way = x.way; undying = x.undying }) x.one.0
          (let high = x.one.1 in omega (arith, high)) in (y.0, held_of st t, y.1, refl);
      in_order = λ k held next e f. next_of st (suc (thread_count i)) 1 k (held_from st 1 (thread_count i)) held next all e f;
    }
