-- The renewals of a reload: they make the next drawings in order, of live ones, and there is a free number for each.
use Rattle.std.proofs.Common.{◌≡◌, ◌⊎◌, ℕ, suc, ◌+◌, Bool, true, false, not, ◌||◌, ◌==◌, List, [], refl, sym, ap, subst, inl, inr}
use Rattle.std.proofs.lemmas.Bool.{or_right}
use Rattle.st_effects.specs.Processes.{renewals_by}
use Rattle.st_effects.specs.System.{HeldCall}
use Rattle.st_trace.specs.declared.entry.Change.{Change}
use Rattle.st_trace.specs.declared.entry.Entry.{Entry}
use Rattle.st_trace.specs.declared.entry.Entry.TheVariants.{Reloaded}
use Rattle.st_law.specs.declared.input.Input.{Input}
use Rattle.st_law.specs.Lawful.{IsReloaded, IsServed}
use Rattle.st_law.specs.Machine.{state_after}
use Rattle.st_law.specs.Numbers.{Numbers, in_use_now, is_in_use, is_kept}
use Rattle.st_law.specs.State.{State, held_from, is_held_under, is_live, reload_changes, thread_count}
use Rattle.st_law.proofs.HeldCalls.{IsItem, items}
use Rattle.st_law.proofs.Renewals.{each_held}
use Rattle.st_reached.proofs.Circle.{Among}
use Rattle.st_reached.proofs.Drawn.{apart}
use Rattle.st_reached.proofs.InUse.{live_listed, thread_drawings, turn_same, used_by, worker_drawings}
use Rattle.st_reached.proofs.Matched.{EachOld, Fits, Follows}
use Rattle.st_reached.proofs.Reached.{Reached}
use Rattle.st_reached.proofs.UsedNumbers.{each_old, item_live, not_renewed, old_by, open_live, renewals_fit, renewals_follow, renewals_old, seated_now}

module _ (i : Input) (st : State) (reached : Reached i st) (u n : ℕ) (done : Bool) (changes : List Change) (y : IsReloaded i st u n done changes) where
  abbrev is : HeldCall → Bool
  is = is_held_under i st n

  abbrev helds : List HeldCall
  helds = held_from st 1 (thread_count i)

  -- a property of the changes holds if it holds of none, and of the renewals of the held calls
  by_done : (P : List Change → Type 0) → P [] → P (renewals_by is (suc st.posted) helds) → P changes
  by_done P none renewing = subst P (sym y.changes_are) (by done) where
    by : (b : Bool) → P (reload_changes i st n b)
    by true = renewing
    by false = none

  pub reloaded_follows : Follows st.posted changes
  reloaded_follows = by_done (Follows st.posted) tt (renewals_follow is st.posted (suc st.posted) helds refl)

  -- what is renewed is live
  pub reloaded_old : EachOld (λ old. is_live st old ≡ true) changes
  reloaded_old = by_done (EachOld (λ old. is_live st old ≡ true)) tt
      (renewals_old is (λ old. is_live st old ≡ true) (suc st.posted) helds
      (each_held (IsItem st) (λ held. is_live st held.number ≡ true) (item_live i st reached) helds (items st 1 (thread_count i))))

  module _ (circle : ℕ) (numbers : Numbers) where
    abbrev most : ℕ
    most = thread_count i + i.options.workers

    -- at most one drawing for each thread and worker is in use at each renewal
    pub reloaded_fits : Fits circle (is_kept i st) most (in_use_now i st numbers) changes
    reloaded_fits = by_done (Fits circle (is_kept i st) most (in_use_now i st numbers)) tt
        (renewals_fit is circle most (is_kept i st) (worker_drawings i st) (suc st.posted) helds (in_use_now i st numbers) (thread_drawings i st) (seated_now i st reached circle numbers)
        (each_held (IsItem st) (λ held. Among held.number (thread_drawings i st)) (λ held x. live_listed i st reached held.number (item_live i st reached held x)) helds (items st 1 (thread_count i)))
        (apart i st reached.whole.calls 1 (thread_count i)))

  -- ---- what is in use after the reload, and was renewed by it, is kept

  abbrev made : Entry
  made = Reloaded u n done changes

  abbrev Stays : ℕ → Type 0
  Stays q = EachOld (λ old. (not (q == old) || is_kept i st q) ≡ true) changes

  live_stays : (q : ℕ) → is_live (state_after i st made) q ≡ true → Stays q
  live_stays q live =
      let closed = open_live ((state_after i st made).messages q).head ((state_after i st made).messages q).closed (λ t. ((state_after i st made).threads t).dying) live in
      old_by (λ old. (q == old) ≡ false) (λ old. (not (q == old) || is_kept i st q) ≡ true) (λ old differ. ap (λ b. not b || is_kept i st q) differ) changes
      (not_renewed q (st.messages q).closed changes closed)

  pub reloaded_stays : (q : ℕ) → is_in_use i (state_after i st made) q ≡ true → Stays q
  reloaded_stays q used = by (used_by i (state_after i st made) q used) where
    by : (is_live (state_after i st made) q ≡ true) ⊎ IsServed i (state_after i st made) q → Stays q
    by (inl live) = live_stays q live
    by (inr x) = parts (turn_same i st reached q made y refl refl refl x) where
      parts : (is_live (state_after i st made) q ≡ true) ⊎ (is_kept i st q ≡ true) → Stays q
      parts (inl live) = live_stays q live
      parts (inr kept) = each_old (λ old. (not (q == old) || is_kept i st q) ≡ true) (λ old. or_right (not (q == old)) (is_kept i st q) kept) changes
