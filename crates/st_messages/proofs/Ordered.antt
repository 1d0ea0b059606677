-- Messages in the order of their numbers: between which numbers they are, and which waiting message is first.
use Rattle.std.proofs.Common.{zero, suc, get_or, length, ◌≡◌, ◌≢◌, ℕ, ◌<◌, ◌≤◌, Bool, true, false, ◌==◌, List, [], ◌∷◌, ◌++◌, Option, Some, None, inl, inr, refl, ap, sym, ◌∙◌, subst, arith}
use Rattle.std.proofs.lemmas.Bool.{cases_Bool, cases_eq, eq-eqb, ne_eqb, true≢false}
use Rattle.std.proofs.lemmas.Option.{none-some, same_Some}
use Rattle.std.specs.List.{find}
use Rattle.std.specs.Option.{option_map}
use Rattle.st_messages.specs.declared.message.MsgState.{MsgState}
use Rattle.st_messages.specs.declared.message.MsgState.TheVariants.{Waiting, Claimed, Answered, Faulted}
use Rattle.st_messages.specs.declared.message.Message.{Message}
use Rattle.st_messages.specs.Messages.{AreBetween, is_unclaimed, is_waiting_state, message_in, waiting_message, with_state_in, without_drawing}

-- ---- the order stays

pub between-weaken : (live : List Message) (low from to : ℕ) → low ≤ from → AreBetween from live to → AreBetween low live to
between-weaken [] low from to le are = omega (arith, are)
between-weaken (m ∷ live) low from to le are = (omega (arith, are.0), are.1)

pub between-moved : (live : List Message) (drawing : ℕ) (state : MsgState) (from to : ℕ) → AreBetween from live to → AreBetween from (with_state_in live drawing state) to
between-moved [] drawing state from to are = are
between-moved (m ∷ live) drawing state from to are = elim (cases_eq m.drawing drawing) [
  | inl e ↦ rw (eq-eqb m.drawing drawing e) are
  | inr ne ↦ rw (ne_eqb m.drawing drawing ne) (are.0, between-moved live drawing state (suc m.drawing) to are.1)
]

pub between-without : (live : List Message) (drawing from to : ℕ) → AreBetween from live to → AreBetween from (without_drawing live drawing) to
between-without [] drawing from to are = are
between-without (m ∷ live) drawing from to are = elim (cases_eq m.drawing drawing) [
  | inl e ↦ rw (eq-eqb m.drawing drawing e) (between-without live drawing from to (between-weaken live from (suc m.drawing) to (omega (arith, are.0)) are.1))
  | inr ne ↦ rw (ne_eqb m.drawing drawing ne) (are.0, between-without live drawing (suc m.drawing) to are.1)
]

pub between-posted : (live : List Message) (seq tid from to : ℕ) → AreBetween from live to → AreBetween from (live ++ waiting_message to seq tid ∷ []) (suc to)
between-posted [] seq tid from to are = (are, omega arith)
between-posted (m ∷ live) seq tid from to are = (are.0, between-posted live seq tid (suc m.drawing) to are.1)

-- ---- which numbers are found

pub none_before : (live : List Message) (from to drawing : ℕ) → AreBetween from live to → drawing < from → message_in live drawing ≡ None
none_before [] from to drawing are below = refl
none_before (m ∷ live) from to drawing are below =
    let apart : (m.drawing == drawing) ≡ false = ne_eqb m.drawing drawing (λ e. omega (arith, e, are.0)) in
    rw apart (none_before live (suc m.drawing) to drawing are.1 (omega (arith, are.0)))

pub upper : (live : List Message) (from to : ℕ) → AreBetween from live to → from ≤ to
upper [] from to are = are
upper (m ∷ live) from to are = omega (arith, are.0, upper live (suc m.drawing) to are.1)

pub none_later : (live : List Message) (from to drawing : ℕ) → AreBetween from live to → to ≤ drawing → message_in live drawing ≡ None
none_later [] from to drawing are above = refl
none_later (m ∷ live) from to drawing are above =
    let apart : (m.drawing == drawing) ≡ false = ne_eqb m.drawing drawing (λ e. omega (arith, e, upper live (suc m.drawing) to are.1)) in
    rw apart (none_later live (suc m.drawing) to drawing are.1 above)

-- a number that is found is below the next one
pub found_below : (live : List Message) (from to drawing : ℕ) (m : Message) → AreBetween from live to → message_in live drawing ≡ Some m → drawing < to
found_below [] from to drawing m are is = absurd (none-some m is)
found_below (x ∷ live) from to drawing m are is = elim (cases_eq x.drawing drawing) [
  | inl e ↦ omega (arith, e, upper live (suc x.drawing) to are.1)
  | inr ne ↦ found_below live (suc x.drawing) to drawing m are.1 (rw (ne_eqb x.drawing drawing ne) at is)
]

-- a message that is found by a test is found under its drawing
pub found_itself : (test : Message → Bool) (live : List Message) (from to : ℕ) (m : Message) → AreBetween from live to → find test live ≡ Some m → (from ≤ m.drawing) × (test m ≡ true) × (message_in live m.drawing ≡ Some m)
found_itself test [] from to m are is = absurd (none-some m is)
found_itself test (x ∷ live) from to m are is = elim (cases_Bool (test x)) [
  | inl passes ↦ (
      let same : x ≡ m = same_Some x m (rw passes at is) in
      subst (λ (y : Message). (from ≤ y.drawing) × (test y ≡ true) × (message_in (x ∷ live) y.drawing ≡ Some y)) same (are.0, passes, rw (eq-eqb x.drawing x.drawing refl) refl)
      )
  | inr fails ↦ (
      let more = found_itself test live (suc x.drawing) to m are.1 (rw fails at is) in
      (omega (arith, are.0, more.0), more.1, rw (ne_eqb x.drawing m.drawing (λ e. omega (arith, e, more.0))) more.2)
      )
]

-- ---- the index of a number

no_less_at : (live : List Message) (from to i : ℕ) (d : Message) → AreBetween from live to → i < length live → from ≤ (get_or live i d).drawing
no_less_at [] from to i d are inside = absurd (omega (arith, inside))
no_less_at (m ∷ live) from to zero d are inside = are.0
no_less_at (m ∷ live) from to (suc i) d are inside = omega (arith, are.0, no_less_at live (suc m.drawing) to i d are.1 (omega (arith, inside)))

-- earlier messages have smaller numbers
pub drawings_go_up : (live : List Message) (from to i k : ℕ) (d : Message) → AreBetween from live to → i < length live → k < i → (get_or live k d).drawing < (get_or live i d).drawing
drawings_go_up [] from to i k d are inside below = absurd (omega (arith, inside))
drawings_go_up (m ∷ live) from to zero k d are inside below = absurd (omega (arith, below))
drawings_go_up (m ∷ live) from to (suc i) zero d are inside below = no_less_at live (suc m.drawing) to i d are.1 (omega (arith, inside))
drawings_go_up (m ∷ live) from to (suc i) (suc k) d are inside below = drawings_go_up live (suc m.drawing) to i k d are.1 (omega (arith, inside)) (omega (arith, below))

-- ---- which waiting message is first

-- the state of a waiting message
waits : (state : MsgState) → is_waiting_state state ≡ true → state ≡ Waiting
waits Waiting is = refl
waits (Claimed worker) is = absurd cc
waits (Answered verdict) is = absurd cc
waits (Faulted errno) is = absurd cc

abbrev pub state_in : List Message → ℕ → Option MsgState
state_in live drawing = option_map (λ (message : Message). message.state) (message_in live drawing)

-- a number that is found is not below the first
found_above : (live : List Message) (from to drawing : ℕ) (state : MsgState) → AreBetween from live to → state_in live drawing ≡ Some state → from ≤ drawing
found_above [] from to drawing state are is = absurd (none-some state is)
found_above (m ∷ live) from to drawing state are is = elim (cases_eq m.drawing drawing) [
  | inl e ↦ omega (arith, e, are.0)
  | inr ne ↦ omega (arith, are.0, found_above live (suc m.drawing) to drawing state are.1 (rw (ne_eqb m.drawing drawing ne) at is))
]

none_waits-by : (m : Message) (live : List Message) (drawing : ℕ) (w b : Bool) → is_unclaimed m ≡ w → (m.drawing == drawing) ≡ b → find is_unclaimed (m ∷ live) ≡ None → state_in (m ∷ live) drawing ≡ Some Waiting
    → (find is_unclaimed live ≡ None → state_in live drawing ≡ Some Waiting → ⊥) → ⊥
none_waits-by m live drawing true b w_is b_is none is more = none-some m (sym none ∙ rw w_is refl)
none_waits-by m live drawing false true w_is b_is none is more =
    let state : m.state ≡ Waiting = same_Some m.state Waiting (rw b_is at is) in
    true≢false (sym (ap is_waiting_state state) ∙ w_is)
none_waits-by m live drawing false false w_is b_is none is more = more (rw w_is at none) (rw b_is at is)

pub none_waits : (live : List Message) (drawing : ℕ) → find is_unclaimed live ≡ None → state_in live drawing ≢ Some Waiting
none_waits [] drawing none is = none-some Waiting is
none_waits (m ∷ live) drawing none is = none_waits-by m live drawing (is_unclaimed m) (m.drawing == drawing) refl refl none is (none_waits live drawing)

-- a message is waiting under its number, and no smaller number is
pub record IsFirst (live : List Message) (first : Message) : Type 0 where
  pub found : message_in live first.drawing ≡ Some first
  pub waits : first.state ≡ Waiting
  pub least : (other : ℕ) → state_in live other ≡ Some Waiting → first.drawing ≤ other

first_waits-by : (m : Message) (live : List Message) (from to : ℕ) (first : Message) (w : Bool) → is_unclaimed m ≡ w → AreBetween from (m ∷ live) to → find is_unclaimed (m ∷ live) ≡ Some first
    → (find is_unclaimed live ≡ Some first → (suc m.drawing ≤ first.drawing) × IsFirst live first) → (from ≤ first.drawing) × IsFirst (m ∷ live) first
first_waits-by m live from to first true w_is are is more =
    let same : m ≡ first = same_Some m first (rw w_is at is) in
    subst (λ (f : Message). (from ≤ f.drawing) × IsFirst (m ∷ live) f) same (
      are.0,
      record {
        found = rw (eq-eqb m.drawing m.drawing refl) refl;
        waits = waits m.state w_is;
        least = λ other waits. elim (cases_eq m.drawing other) [
          | inl e ↦ omega (arith, e)
          | inr ne ↦ omega (arith, found_above live (suc m.drawing) to other Waiting are.1 (rw (ne_eqb m.drawing other ne) at waits))
        ];
      },
    )
first_waits-by m live from to first false w_is are is more =
    let following = more (rw w_is at is) in (
      omega (arith, are.0, following.0),
      record {
        found = rw (ne_eqb m.drawing first.drawing (λ e. omega (arith, e, following.0))) following.1.found;
        waits = following.1.waits;
        least = λ other other_waits. elim (cases_eq m.drawing other) [
          | inl e ↦ absurd (true≢false (sym (ap is_waiting_state (same_Some m.state Waiting (rw (eq-eqb m.drawing other e) at other_waits))) ∙ w_is))
          | inr ne ↦ following.1.least other (rw (ne_eqb m.drawing other ne) at other_waits)
        ];
      },
    )

-- the first waiting message has the least waiting number
pub first_waits : (live : List Message) (from to : ℕ) (first : Message) → AreBetween from live to → find is_unclaimed live ≡ Some first → (from ≤ first.drawing) × IsFirst live first
first_waits [] from to first are is = absurd (none-some first is)
first_waits (m ∷ live) from to first are is = first_waits-by m live from to first (is_unclaimed m) refl are is (first_waits live (suc m.drawing) to first are.1)
