-- A number that a renewal draws belongs to the thread whose number it renews.
use native.Mathlib.Omega.{arith}
use Rattle.std.proofs.Common.{◌≡◌, ◌≢◌, ◌≤◌, ◌⊎◌, ℕ, zero, suc, ◌+◌, Bool, true, false, cond, ◌||◌, ◌==◌, List, [], ◌∷◌, ◌++◌, Option, Some, None, option_map, refl, sym, ap, ◌∙◌, inl, inr}
use Rattle.std.proofs.lemmas.Bool.{eq-eqb, eqb-true, ne_eqb, or_right, true≢false}
use Rattle.std.proofs.lemmas.List.Folds.{fold_stays}
use Rattle.std.specs.List.{fold}
use Rattle.st_effects.specs.Changes.{seq_after}
use Rattle.st_effects.specs.Processes.{renewals_by}
use Rattle.st_effects.specs.System.{HeldCall}
use Rattle.st_trace.specs.declared.entry.Change.{Change}
use Rattle.st_trace.specs.declared.entry.Change.TheVariants.{Renewed}
use Rattle.st_trace.specs.declared.entry.Way.{Way}
use Rattle.st_trace.specs.declared.entry.Way.TheVariants.{Fast, Barred, Held, Untraced}
use Rattle.st_law.specs.declared.input.Input.{Input}
use Rattle.st_law.specs.Messages.{Head, head_after_change, is_renewed_by}
use Rattle.st_law.specs.State.{State, held_by_way, held_by_pending, held_from}
use Rattle.st_law.specs.Threads.{PendingCall}
use Rattle.st_law.proofs.Carried.{numbers_differ}
use Rattle.st_law.proofs.HeldCalls.{IsItem, each_append, held_of, items}
use Rattle.st_law.proofs.Invariant.{Invariant}
use Rattle.st_law.proofs.HeldRenewals.{open_of}
use Rattle.st_law.proofs.Renewals.{EachHeld, each_held, IsLow, head_below, lower, one_more, others_above, seq_other}

-- ---- a number that isn't renewed stays its thread's

pub renewed_stays : (q : ℕ) (c : Change) → is_renewed_by q true c ≡ true
renewed_stays q (Renewed old new) = or_right (old == q) true refl
renewed_stays q _ = refl

-- one more renewal, by whether it is of this number
seq_by : (n new : ℕ) (before : Bool) (changes : List Change) (b : Bool) → fold (is_renewed_by n) (b || before) changes ≡ false → (fold (is_renewed_by n) before changes ≡ false → seq_after n changes ≡ n) → seq_after (cond b new n) changes ≡ n
seq_by n new before changes true e later = absurd (true≢false (sym (fold_stays (is_renewed_by n) true (renewed_stays n) changes) ∙ e))
seq_by n new before changes false e later = later e

pub seq_kept : (n : ℕ) (before : Bool) (changes : List Change) → fold (is_renewed_by n) before changes ≡ false → seq_after n changes ≡ n
seq_kept n before [] e = refl
seq_kept n before (Renewed old new ∷ changes) e = seq_by n new before changes (old == n) e (seq_kept n before changes)
seq_kept n before (_ ∷ changes) e = seq_kept n before changes e

-- ---- held calls have different numbers

-- the thread of a held call is t or a later one
abbrev pub IsAfter : ℕ → HeldCall → Type 0
IsAfter t held = t ≤ held.tid

-- held calls in the order of their threads
abbrev pub Rising : List HeldCall → Type 0
Rising [] = Unit {0}
Rising (held ∷ more) = EachHeld (IsAfter (suc held.tid)) more × Rising more

-- held calls with different numbers
abbrev pub Apart : List HeldCall → Type 0
Apart [] = Unit {0}
Apart (held ∷ more) = EachHeld (λ other. held.number ≢ other.number) more × Apart more

module _ (st : State) where
  after_by : (a : ℕ) (b : Bool) → EachHeld (IsAfter a) (cond b [] (held_of st a ∷ []))
  after_by a true = tt
  after_by a false = (omega arith, tt)

  after_way : (a : ℕ) (way : Way) → EachHeld (IsAfter a) (held_by_way st a way)
  after_way a Fast = tt
  after_way a (Barred n) = tt
  after_way a Untraced = tt
  after_way a (Held first) = after_by a (st.threads a).dying

  after_pending : (a : ℕ) (o : Option PendingCall) → EachHeld (IsAfter a) (held_by_pending st a o)
  after_pending a None = tt
  after_pending a (Some entered) = after_way a entered.way

  following : (a count : ℕ) → EachHeld (IsAfter a) (held_from st a count)
  following a zero = tt
  following a (suc count) = each_append (IsAfter a) (held_by_pending st a (st.threads a).pending) (held_from st (suc a) count)
      (after_pending a (st.threads a).pending) (each_held (IsAfter (suc a)) (IsAfter a) (λ held low. omega (arith, low)) (held_from st (suc a) count) (following (suc a) count))

  rising_by : (a : ℕ) (later : List HeldCall) → EachHeld (IsAfter (suc a)) later → Rising later → (b : Bool) → Rising (cond b [] (held_of st a ∷ []) ++ later)
  rising_by a later x rising true = rising
  rising_by a later x rising false = (x, rising)

  rising_way : (a : ℕ) (later : List HeldCall) → EachHeld (IsAfter (suc a)) later → Rising later → (way : Way) → Rising (held_by_way st a way ++ later)
  rising_way a later x rising Fast = rising
  rising_way a later x rising (Barred n) = rising
  rising_way a later x rising Untraced = rising
  rising_way a later x rising (Held first) = rising_by a later x rising (st.threads a).dying

  rising_pending : (a : ℕ) (later : List HeldCall) → EachHeld (IsAfter (suc a)) later → Rising later → (o : Option PendingCall) → Rising (held_by_pending st a o ++ later)
  rising_pending a later x rising None = rising
  rising_pending a later x rising (Some entered) = rising_way a later x rising entered.way

  pub rising : (a count : ℕ) → Rising (held_from st a count)
  rising a zero = tt
  rising a (suc count) = rising_pending a (held_from st (suc a) count) (following (suc a) count) (rising (suc a) count) (st.threads a).pending

abbrev number_of : HeldCall → ℕ
number_of held = held.number

module _ (i : Input) (st : State) (inv : Invariant i st) where
  differ : (held other : HeldCall) → IsItem st held → IsItem st other → held.tid ≢ other.tid → held.number ≢ other.number
  differ held other x y apart same =
      numbers_differ st held.tid other.tid x.holder.entered.call y.holder.entered.call x.holder.entered.regs y.holder.entered.regs
      (open_of i st inv held.tid x.holder) (open_of i st inv other.tid y.holder) apart (sym (ap number_of x.is) ∙ same ∙ ap number_of y.is)

  others : (held : HeldCall) (more : List HeldCall) → IsItem st held → EachHeld (IsItem st) more → EachHeld (IsAfter (suc held.tid)) more → EachHeld (λ other. held.number ≢ other.number) more
  others held [] x all later = tt
  others held (other ∷ more) x all later =
      (differ held other x all.0 (λ same. let low = later.0 in omega (arith, low, same)), others held more x all.1 later.1)

  apart_by : (helds : List HeldCall) → EachHeld (IsItem st) helds → Rising helds → Apart helds
  apart_by [] all up = tt
  apart_by (held ∷ more) all up = (others held more all.0 all.1 up.0, apart_by more all.1 up.1)

  pub apart : (a count : ℕ) → Apart (held_from st a count)
  apart a count = apart_by (held_from st a count) (items st a count) (rising st a count)

-- ---- which held call a new number is for

pub each_both : (P Q : HeldCall → Type 0) (helds : List HeldCall) → EachHeld P helds → EachHeld Q helds → EachHeld (λ held. P held × Q held) helds
each_both P Q [] x y = tt
each_both P Q (held ∷ more) x y = ((x.0, y.0), each_both P Q more x.1 y.1)

module _ (is : HeldCall → Bool) (heads : ℕ → Option Head) (renewing : Head → Head) (q : ℕ) where
  -- these renewals give number q to a held call with this property, with its head renewed
  pub record IsDrawn (P : HeldCall → Type 0) (before : Option Head) (changes : List Change) : Type 0 where
    pub held : HeldCall
    pub item : P held
    pub renewable : is held ≡ true
    pub number : seq_after held.number changes ≡ q
    pub head : fold (head_after_change heads renewing q) before changes ≡ option_map renewing (heads held.number)

  -- the head of number q is unchanged, or one of the held calls is given the number
  abbrev pub SameOrDrawn : (HeldCall → Type 0) → Option Head → List Change → Type 0
  SameOrDrawn P before changes = (fold (head_after_change heads renewing q) before changes ≡ before) ⊎ IsDrawn P before changes

  drawn_here : (P : HeldCall → Type 0) (before : Option Head) (next : ℕ) (held : HeldCall) (more : List HeldCall) → P held → is held ≡ true → EachHeld (IsLow next) more → next ≡ q → IsDrawn P before (Renewed held.number next ∷ renewals_by is (next + 1) more)
  drawn_here P before next held more item is_so low same = record {
    held = held;
    item = item;
    renewable = is_so;
    number = ap (λ b. seq_after (cond b next held.number) (renewals_by is (next + 1) more)) (eq-eqb held.number held.number refl)
        ∙ seq_other is next (next + 1) more (others_above is next next more (omega arith) low) ∙ same;
    head = ap (λ b. fold (head_after_change heads renewing q) (cond b (option_map renewing (heads held.number)) before) (renewals_by is (next + 1) more)) (eq-eqb next q same)
        ∙ head_below is heads renewing q (option_map renewing (heads held.number)) (next + 1) more (omega (arith, same));
  }

  -- one of the later held calls is given the number, and the first another number
  drawn_later : (P : HeldCall → Type 0) (before : Option Head) (next : ℕ) (held : HeldCall) (changes : List Change) → (next == q) ≡ false → SameOrDrawn (λ other. P other × held.number ≢ other.number) before changes → SameOrDrawn P before (Renewed held.number next ∷ changes)
  drawn_later P before next held changes away (inl same) =
      inl (ap (λ b. fold (head_after_change heads renewing q) (cond b (option_map renewing (heads held.number)) before) changes) away ∙ same)
  drawn_later P before next held changes away (inr x) = inr (record {
    held = x.held;
    item = x.item.0;
    renewable = x.renewable;
    number = ap (λ b. seq_after (cond b next x.held.number) changes) (ne_eqb held.number x.held.number x.item.1) ∙ x.number;
    head = ap (λ b. fold (head_after_change heads renewing q) (cond b (option_map renewing (heads held.number)) before) changes) away ∙ x.head;
  })

  pub drawn : (P : HeldCall → Type 0) (before : Option Head) (next : ℕ) (helds : List HeldCall) → EachHeld P helds → Apart helds → EachHeld (IsLow next) helds → SameOrDrawn P before (renewals_by is next helds)
  drawn P before next [] items apart low = inl refl
  drawn P before next (held ∷ more) items apart low = one_more is (SameOrDrawn P before) next held more
      (λ is_so. by is_so (drawn (λ other. P other × held.number ≢ other.number) before (next + 1) more (each_both P (λ other. held.number ≢ other.number) more items.1 apart.0) apart.1 (lower next more low.1)) (next == q) refl)
      (λ not_so. drawn P before next more items.1 apart.1 low.1) where
        by : is held ≡ true → SameOrDrawn (λ other. P other × held.number ≢ other.number) before (renewals_by is (next + 1) more) → (b : Bool) → (next == q) ≡ b → SameOrDrawn P before (Renewed held.number next ∷ renewals_by is (next + 1) more)
        by is_so later true same = inr (drawn_here P before next held more items.0 is_so low.1 (eqb-true next q same))
        by is_so later false away = drawn_later P before next held (renewals_by is (next + 1) more) away later
