-- A renewal of the held calls of some kind: which of the calls keep their numbers, and which get new ones.
use native.Mathlib.Omega.{arith}
use Rattle.std.proofs.Common.{◌≡◌, ◌≢◌, ◌≤◌, ℕ, suc, Bool, true, false, ◌==◌, List, Option, refl, sym, ap, subst, ◌∙◌}
use Rattle.std.proofs.lemmas.Bool.{eqb-true, eqb-false}
use Rattle.st_calls.specs.declared.call.SysCall.{SysCall}
use Rattle.st_effects.specs.Processes.{renewals_by}
use Rattle.st_effects.specs.System.{HeldCall}
use Rattle.st_law.specs.declared.input.Input.{Input}
use Rattle.st_law.specs.Inputs.{IsThread}
use Rattle.st_law.specs.Messages.{Head}
use Rattle.st_law.specs.State.{State, thread_count, held_from}
use Rattle.st_law.proofs.Carried.{numbers_differ}
use Rattle.st_law.proofs.HeldCalls.{IsHolder, held_of, IsItem, items, IsItemBut, IsAmong, among}
use Rattle.st_law.proofs.Invariant.{IsOpen, IsFine, Fine, IfPending, Invariant}
use Rattle.st_law.proofs.Renewals.{EachHeld, each_held, IsOther, IsLow, others_above, IsRenewal, renewal_of}

-- the call that a thread holds is open
pub open_of : (i : Input) (st : State) → Invariant i st → (t : ℕ) (x : IsHolder st t) → IsOpen st t x.entered.call x.entered.regs
open_of i st inv t x =
    let fine : Fine st t x.entered = subst (IfPending (Fine st t)) x.pending (inv.fine t) in
    subst (IsFine st t x.entered.call x.entered.regs) x.way (fine.fine x.undying)

abbrev number_of : HeldCall → ℕ
number_of held = held.number

module _ (i : Input) (st : State) (inv : Invariant i st) (is : HeldCall → Bool) where
  abbrev pub helds : List HeldCall
  helds = held_from st 1 (thread_count i)

  abbrev pub next : ℕ
  next = suc st.posted

  item_low : (held : HeldCall) → IsItem st held → IsLow next held
  item_low held x = let low = (open_of i st inv held.tid x.holder).low in let same = ap number_of x.is in omega (arith, low, same)

  all_low : (some : List HeldCall) → EachHeld (IsItem st) some → EachHeld (IsLow next) some
  all_low some x = each_held (IsItem st) (IsLow next) item_low some x

  -- a number that wasn't posted is none of theirs
  pub fresh_other : (q : ℕ) → next ≤ q → EachHeld (IsOther is q) helds
  fresh_other q high = others_above is next q helds high (all_low helds (items st 1 (thread_count i)))

  -- a held call of another thread doesn't have this thread's number
  item_other : (t : ℕ) (c : SysCall) (r : List ℕ) → IsOpen st t c r → (held : HeldCall) → IsItemBut st t held → IsOther is (st.threads t).number held
  item_other t c r x held y is_so same =
      numbers_differ st held.tid t y.0.holder.entered.call c y.0.holder.entered.regs r (open_of i st inv held.tid y.0.holder) x y.1 (sym (ap number_of y.0.is) ∙ same)

  item_by : (t : ℕ) (c : SysCall) (r : List ℕ) → IsOpen st t c r → is (held_of st t) ≡ false → (held : HeldCall) → IsItem st held → (b : Bool) → (held.tid == t) ≡ b → IsOther is (st.threads t).number held
  item_by t c r x not_so held y true e = λ is_so same.
      let own : is held ≡ false = ap is (y.is ∙ ap (held_of st) (eqb-true held.tid t e)) ∙ not_so in cc
  item_by t c r x not_so held y false e = item_other t c r x held (y, eqb-false held.tid t e)

  -- no renewed call has the number of a thread whose call isn't renewed
  pub kept_other : (t : ℕ) (c : SysCall) (r : List ℕ) → IsOpen st t c r → is (held_of st t) ≡ false → EachHeld (IsOther is (st.threads t).number) helds
  kept_other t c r x not_so = each_held (IsItem st) (IsOther is (st.threads t).number) (λ held y. item_by t c r x not_so held y (held.tid == t) refl) helds (items st 1 (thread_count i))

  module _ (heads : ℕ → Option Head) (renewed : Head → Head) where
    renewal_among : (t : ℕ) → is (held_of st t) ≡ true → (c : SysCall) (r : List ℕ) → IsOpen st t c r → IsAmong st t helds → IsRenewal is heads renewed (st.threads t).number st.posted next (renewals_by is next helds)
    renewal_among t is_so c r x y = subst (λ some. IsRenewal is heads renewed (st.threads t).number st.posted next (renewals_by is next some)) (sym y.is)
        (renewal_of is heads renewed (st.threads t).number st.posted next y.front (held_of st t) y.more refl refl is_so
        (each_held (IsItemBut st t) (IsOther is (st.threads t).number) (item_other t c r x) y.front y.others)
        (each_held (IsItemBut st t) (IsLow next) (λ held z. item_low held z.0) y.front y.others)
        (all_low y.more y.rest))

    -- a thread whose call is renewed gets a new number, with the renewed head
    pub renewal : (t : ℕ) → (st.threads t).owner ≢ 0 → IsHolder st t → is (held_of st t) ≡ true → (c : SysCall) (r : List ℕ) → IsOpen st t c r → IsRenewal is heads renewed (st.threads t).number st.posted next (renewals_by is next helds)
    renewal t owned holder is_so c r x = let there : IsThread i t = inv.started t owned in
        renewal_among t is_so c r x (among st t 1 (thread_count i) holder there.0 (let high = there.1 in omega (arith, high)))
