-- The held calls that a call sees are those of the threads that hold one and aren't dying.
use native.Mathlib.Omega.{arith}
use Rattle.std.proofs.Common.{◌≡◌, ◌≢◌, ◌≤◌, ◌<◌, ℕ, suc, zero, ◌+◌, Bool, true, false, cond, ◌==◌, List, [], ◌∷◌, ◌++◌, length, Option, Some, None, refl, sym, ap, subst, ◌∙◌, length-append}
use Rattle.std.proofs.lemmas.Bool.{eqb-true, eqb-false}
use Rattle.std.proofs.lemmas.List.{append_assoc}
use Rattle.st_effects.specs.System.{HeldCall}
use Rattle.st_trace.specs.declared.entry.Way.{Way}
use Rattle.st_trace.specs.declared.entry.Way.TheVariants.{Fast, Barred, Held, Untraced}
use Rattle.st_law.specs.State.{State, held_by_way, held_by_pending, held_from}
use Rattle.st_law.specs.Threads.{PendingCall}
use Rattle.st_law.proofs.Renewals.{EachHeld}

-- a thread that isn't dying holds a call
pub record IsHolder (st : State) (t : ℕ) : Type 0 where
  pub entered : PendingCall
  pub pending : (st.threads t).pending ≡ Some entered
  pub first : ℕ
  pub way : entered.way ≡ Held first
  pub undying : (st.threads t).dying ≡ false

-- the held call of a thread
abbrev pub held_of : State → ℕ → HeldCall
held_of st t = record { tid = t; pid = (st.threads t).owner; number = (st.threads t).number }

-- a held call is that of a thread that holds it
pub record IsItem (st : State) (held : HeldCall) : Type 0 where
  pub holder : IsHolder st held.tid
  pub is : held ≡ held_of st held.tid

pub each_append : (P : HeldCall → Type 0) (xs ys : List HeldCall) → EachHeld P xs → EachHeld P ys → EachHeld P (xs ++ ys)
each_append P [] ys x y = y
each_append P (held ∷ xs) ys x y = (x.0, each_append P xs ys x.1 y)

module _ (st : State) where
  -- a held call of this thread
  abbrev IsItemOf : ℕ → HeldCall → Type 0
  IsItemOf t held = IsItem st held × (held.tid ≡ t)

  by_dying : (t : ℕ) (entered : PendingCall) → (st.threads t).pending ≡ Some entered → (first : ℕ) → entered.way ≡ Held first → (b : Bool) → (st.threads t).dying ≡ b → EachHeld (IsItemOf t) (cond b [] (held_of st t ∷ []))
  by_dying t entered pending first way true e = tt
  by_dying t entered pending first way false e =
      ((record { holder = record { entered = entered; pending = pending; first = first; way = way; undying = e }; is = refl }, refl), tt)

  by_way : (t : ℕ) (entered : PendingCall) → (st.threads t).pending ≡ Some entered → (way : Way) → entered.way ≡ way → EachHeld (IsItemOf t) (held_by_way st t way)
  by_way t entered pending Fast e = tt
  by_way t entered pending (Barred n) e = tt
  by_way t entered pending Untraced e = tt
  by_way t entered pending (Held first) e = by_dying t entered pending first e (st.threads t).dying refl

  by_pending : (t : ℕ) (o : Option PendingCall) → (st.threads t).pending ≡ o → EachHeld (IsItemOf t) (held_by_pending st t o)
  by_pending t None e = tt
  by_pending t (Some entered) e = by_way t entered e entered.way refl

  item_of : (t : ℕ) (helds : List HeldCall) → EachHeld (IsItemOf t) helds → EachHeld (IsItem st) helds
  item_of t [] x = tt
  item_of t (held ∷ more) x = (x.0.0, item_of t more x.1)

  -- each held call is that of a thread that holds it
  pub items : (a count : ℕ) → EachHeld (IsItem st) (held_from st a count)
  items a zero = tt
  items a (suc count) = each_append (IsItem st) (held_by_pending st a (st.threads a).pending) (held_from st (suc a) count)
      (item_of a (held_by_pending st a (st.threads a).pending) (by_pending a (st.threads a).pending refl)) (items (suc a) count)

  -- a held call of another thread
  abbrev pub IsItemBut : ℕ → HeldCall → Type 0
  IsItemBut t held = IsItem st held × (held.tid ≢ t)

  -- the call of a thread among held calls, where all before it are other threads'
  pub record IsAmong (t : ℕ) (helds : List HeldCall) : Type 0 where
    pub front : List HeldCall
    pub more : List HeldCall
    pub is : helds ≡ front ++ held_of st t ∷ more
    pub others : EachHeld (IsItemBut t) front
    pub rest : EachHeld (IsItem st) more

  but_of : (a t : ℕ) → a ≢ t → (helds : List HeldCall) → EachHeld (IsItemOf a) helds → EachHeld (IsItemBut t) helds
  but_of a t differ [] x = tt
  but_of a t differ (held ∷ more) x = ((x.0.0, λ same. differ (sym x.0.1 ∙ same)), but_of a t differ more x.1)

  pub own_of : (t : ℕ) → IsHolder st t → held_by_pending st t (st.threads t).pending ≡ held_of st t ∷ []
  own_of t x = (λ k. held_by_pending st t (x.pending k)) ∙ (λ k. held_by_way st t (x.way k)) ∙ (λ k. cond (x.undying k) [] (held_of st t ∷ []))

  among_at : (t a count : ℕ) → IsHolder st t → (b : Bool) → (a == t) ≡ b → (a ≢ t → IsAmong t (held_from st (suc a) count)) → IsAmong t (held_from st a (suc count))
  among_at t a count x true e rest = let same : a ≡ t = eqb-true a t e in record {
    front = [];
    more = held_from st (suc a) count;
    is = subst (λ n. held_by_pending st n (st.threads n).pending ++ held_from st (suc a) count ≡ held_of st t ∷ held_from st (suc a) count) (sym same)
        (ap (λ helds. helds ++ held_from st (suc a) count) (own_of t x));
    others = tt;
    rest = items (suc a) count;
  }
  among_at t a count x false e rest =
      let y : IsAmong t (held_from st (suc a) count) = rest (eqb-false a t e) in record {
        front = held_by_pending st a (st.threads a).pending ++ y.front;
        more = y.more;
        is = ap (λ helds. held_by_pending st a (st.threads a).pending ++ helds) y.is ∙ sym (append_assoc (held_by_pending st a (st.threads a).pending) y.front (held_of st t ∷ y.more));
        others = each_append (IsItemBut t) (held_by_pending st a (st.threads a).pending) y.front
            (but_of a t (eqb-false a t e) (held_by_pending st a (st.threads a).pending) (by_pending a (st.threads a).pending refl)) y.others;
        rest = y.rest;
      }

  -- the call of a thread that holds one is among those of the `count` threads from a on, if the thread is
  pub among : (t a count : ℕ) → IsHolder st t → a ≤ t → t < a + count → IsAmong t (held_from st a count)
  among t a zero x low high = absurd (omega (arith, low, high))
  among t a (suc count) x low high = among_at t a count x (a == t) refl (λ differ. among t (suc a) count x (omega (arith, low, differ)) (omega (arith, high)))

  -- ---- at most one held call for each thread

  few_by_dying : (t : ℕ) (b : Bool) → length (cond b [] (held_of st t ∷ [])) ≤ 1
  few_by_dying t true = omega arith
  few_by_dying t false = omega arith

  few_by_way : (t : ℕ) (way : Way) → length (held_by_way st t way) ≤ 1
  few_by_way t Fast = omega arith
  few_by_way t (Barred n) = omega arith
  few_by_way t Untraced = omega arith
  few_by_way t (Held first) = few_by_dying t (st.threads t).dying

  few_by_pending : (t : ℕ) (o : Option PendingCall) → length (held_by_pending st t o) ≤ 1
  few_by_pending t None = omega arith
  few_by_pending t (Some entered) = few_by_way t entered.way

  pub few_held : (a count : ℕ) → length (held_from st a count) ≤ count
  few_held a zero = omega arith
  few_held a (suc count) =
      let here = few_by_pending a (st.threads a).pending in
      let rest = few_held (suc a) count in
      let both = length-append (held_by_pending st a (st.threads a).pending) (held_from st (suc a) count) in
      omega (arith, here, rest, both)
