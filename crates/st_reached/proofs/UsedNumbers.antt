-- The renewals of a lawful call: they make the next drawings in order, of live ones, and there is a free number for each.
use native.Mathlib.Omega.{arith}
use Rattle.std.proofs.Common.{◌≡◌, ◌≤◌, ◌≢◌, ◌⊎◌, ℕ, suc, ◌+◌, Bool, true, false, cond, not, ◌||◌, ◌==◌, List, [], ◌∷◌, ◌++◌, length, map, fold, Option, Some, None, refl, sym, ap, subst, ◌∙◌, inl, inr, length-append}
use Rattle.std.proofs.lemmas.Bool.{and_parts, eq-eqb, eqb-true, eqb-false, ne_eqb, or_parts, or_right, true≢false}
use Rattle.std.proofs.lemmas.List.Folds.{fold_stays}
use Rattle.st_base.specs.declared.ids.Ids.{Ids}
use Rattle.st_calls.specs.declared.argument.ArgText.{ArgText}
use Rattle.st_calls.specs.declared.call.SysCall.{SysCall}
use Rattle.st_effects.specs.Processes.{is_other_of, renewals, renewals_by}
use Rattle.st_effects.specs.System.{HeldCall}
use Rattle.st_model.specs.Tree.{is_number}
use Rattle.st_trace.specs.declared.entry.CallResult.{CallResult}
use Rattle.st_trace.specs.declared.entry.Change.{Change}
use Rattle.st_trace.specs.declared.entry.Change.TheVariants.{Renewed, SetIds}
use Rattle.st_trace.specs.declared.entry.Entry.{Entry}
use Rattle.st_trace.specs.declared.entry.Entry.TheVariants.{Used}
use Rattle.st_law.specs.declared.input.Input.{Input}
use Rattle.st_law.specs.Lawful.{IsServed, IsUsed}
use Rattle.st_law.specs.Machine.{state_after}
use Rattle.st_law.specs.Messages.{Head, is_renewed_by}
use Rattle.st_law.specs.Numbers.{Numbers, in_use_now, is_in_use, is_kept, numbers_after_change}
use Rattle.st_law.specs.State.{State, held_from, is_live, is_live_by, request_of, system_of, thread_count}
use Rattle.st_law.proofs.HeldCalls.{IsItem, items}
use Rattle.st_law.proofs.QuietChanges.{IsNoRenewal}
use Rattle.st_law.proofs.Renewals.{EachHeld, each_held, one_more}
use Rattle.st_law.proofs.Shapes.{Each, Shape, quiet, forked, execed, renewed}
use Rattle.st_law.proofs.UsedShapes.{used_shape}
use Rattle.st_reached.proofs.Circle.{Among, Covers, among_left, among_map, among_right, length_mapped}
use Rattle.st_reached.proofs.Drawn.{Apart, apart, each_both, renewed_stays}
use Rattle.st_reached.proofs.InUse.{drawings_few, kept_served, live_listed, served_listed, thread_drawings, turn_same, used_by, used_listed, worker_drawings}
use Rattle.st_reached.proofs.Life.{exec_calm, quiet_calm}
use Rattle.st_reached.proofs.Matched.{EachOld, Fits, Follows}
use Rattle.st_reached.proofs.Owning.{held_lives}
use Rattle.st_reached.proofs.Reached.{Reached}

-- ---- changes that renew nothing

calm_follows : (last : ℕ) (changes : List Change) → Each IsNoRenewal changes → Follows last changes
calm_follows last [] calm = tt
calm_follows last (Renewed old new ∷ changes) calm = absurd calm.0
calm_follows last (_ ∷ changes) calm = calm_follows last changes calm.1

calm_old : (P : ℕ → Type 0) (changes : List Change) → Each IsNoRenewal changes → EachOld P changes
calm_old P [] calm = tt
calm_old P (Renewed old new ∷ changes) calm = absurd calm.0
calm_old P (_ ∷ changes) calm = calm_old P changes calm.1

calm_fits : (circle : ℕ) (kept : ℕ → Bool) (most : ℕ) (numbers : Numbers) (changes : List Change) → Each IsNoRenewal changes → Fits circle kept most numbers changes
calm_fits circle kept most numbers [] calm = tt
calm_fits circle kept most numbers (Renewed old new ∷ changes) calm = absurd calm.0
calm_fits circle kept most numbers (_ ∷ changes) calm = calm_fits circle kept most numbers changes calm.1

pub each_old : (P : ℕ → Type 0) → ((old : ℕ) → P old) → (changes : List Change) → EachOld P changes
each_old P all [] = tt
each_old P all (Renewed old new ∷ changes) = (all old, each_old P all changes)
each_old P all (_ ∷ changes) = each_old P all changes

pub old_by : (P Q : ℕ → Type 0) → ((old : ℕ) → P old → Q old) → (changes : List Change) → EachOld P changes → EachOld Q changes
old_by P Q f [] x = tt
old_by P Q f (Renewed old new ∷ changes) x = (f old x.0, old_by P Q f changes x.1)
old_by P Q f (_ ∷ changes) x = old_by P Q f changes x

-- ---- a number is left for each renewal

module _ (circle most : ℕ) (kept : ℕ → Bool) (workers : List ℕ) where
  -- each drawing in use is that of a thread or of a worker, and these are fewer than the circle has numbers
  pub record Seated (numbers : Numbers) (threads : List ℕ) : Type 0 where
    pub seats : (q : ℕ) → numbers.in_use q ≡ true → Among q threads ⊎ Among q workers
    pub keepers : (q : ℕ) → kept q ≡ true → Among q workers
    pub few : length threads + length workers ≤ most

  seats_cover : (numbers : Numbers) (threads : List ℕ) → Seated numbers threads → Covers numbers most (threads ++ workers)
  seats_cover numbers threads x = record {
    covers = λ q used. by q (x.seats q used);
    few = let both = length-append threads workers in let few = x.few in omega (arith, both, few);
  } where
    by : (q : ℕ) → Among q threads ⊎ Among q workers → Among q (threads ++ workers)
    by q (inl y) = among_left q threads workers y
    by q (inr y) = among_right q threads workers y

  -- the thread of a drawing that is renewed has the new one
  module _ (numbers : Numbers) (threads : List ℕ) (x : Seated numbers threads) (old new : ℕ) (there : Among old threads) where
    swapped : ℕ → ℕ
    swapped q = cond (q == old) new q

    abbrev then : List ℕ
    then = map swapped threads

    other_stays : (q : ℕ) → q ≢ old → Among q threads → Among q then
    unfolding swapped
    other_stays q differ y = subst (λ n. Among n then) (ap (λ b. cond b new q) (ne_eqb q old differ)) (among_map swapped q threads y)

    new_there : Among new then
    unfolding swapped
    new_there = subst (λ n. Among n then) (ap (λ b. cond b new old) (eq-eqb old old refl)) (among_map swapped old threads there)

    seat_by : (q : ℕ) (b c : Bool) → (q == new) ≡ b → (q == old) ≡ c → (b || numbers.in_use q) ≡ true → (not c || kept q) ≡ true → Among q then ⊎ Among q workers
    seat_by q true c e f used stays = inl (subst (λ n. Among n then) (sym (eqb-true q new e)) new_there)
    seat_by q false true e f used stays = inr (x.keepers q stays)
    seat_by q false false e f used stays = by (x.seats q used) where
      by : Among q threads ⊎ Among q workers → Among q then ⊎ Among q workers
      by (inl y) = inl (other_stays q (eqb-false q old f) y)
      by (inr y) = inr y

    seated_then : Seated (numbers_after_change circle kept numbers (Renewed old new)) then
    seated_then = record {
      seats = λ q used. let parts = and_parts (q == new || numbers.in_use q) (not (q == old) || kept q) used in seat_by q (q == new) (q == old) refl refl parts.0 parts.1;
      keepers = x.keepers;
      few = let same = length_mapped swapped threads in let few = x.few in omega (arith, same, few);
    }

-- ---- renewals

module _ (is : HeldCall → Bool) where
  pub renewals_follow : (last next : ℕ) (helds : List HeldCall) → next ≡ suc last → Follows last (renewals_by is next helds)
  renewals_follow last next [] e = tt
  renewals_follow last next (held ∷ more) e = one_more is (Follows last) next held more
      (λ is_so. (e, renewals_follow next (next + 1) more (omega arith))) (λ not_so. renewals_follow last next more e)

  pub renewals_old : (P : ℕ → Type 0) (next : ℕ) (helds : List HeldCall) → EachHeld (λ held. P held.number) helds → EachOld P (renewals_by is next helds)
  renewals_old P next [] each = tt
  renewals_old P next (held ∷ more) each = one_more is (EachOld P) next held more
      (λ is_so. (each.0, renewals_old P (next + 1) more each.1)) (λ not_so. renewals_old P next more each.1)

  module _ (circle most : ℕ) (kept : ℕ → Bool) (workers : List ℕ) where
    pub renewals_fit : (next : ℕ) (helds : List HeldCall) (numbers : Numbers) (threads : List ℕ) → Seated circle most kept workers numbers threads → EachHeld (λ held. Among held.number threads) helds → Apart helds → Fits circle kept most numbers (renewals_by is next helds)
    renewals_fit next [] numbers threads x there apart = tt
    renewals_fit next (held ∷ more) numbers threads x there apart = one_more is (Fits circle kept most numbers) next held more
        (λ is_so. (
          (threads ++ workers, seats_cover circle most kept workers numbers threads x),
          renewals_fit (next + 1) more (numbers_after_change circle kept numbers (Renewed held.number next)) (then circle most kept workers numbers threads x held.number next there.0)
              (seated_then circle most kept workers numbers threads x held.number next there.0)
              (each_held (λ other. Among other.number threads × held.number ≢ other.number) (λ other. Among other.number (then circle most kept workers numbers threads x held.number next there.0))
              (λ other y. other_stays circle most kept workers numbers threads x held.number next there.0 other.number (λ same. y.1 (sym same)) y.0) more
              (each_both (λ other. Among other.number threads) (λ other. held.number ≢ other.number) more there.1 apart.0)) apart.1,
        ))
        (λ not_so. renewals_fit next more numbers threads x there.1 apart.1)

-- ---- the drawings that are in use in a state

module _ (i : Input) (st : State) (reached : Reached i st) (circle : ℕ) (numbers : Numbers) where
  pub seated_now : Seated circle (thread_count i + i.options.workers) (is_kept i st) (worker_drawings i st) (in_use_now i st numbers) (thread_drawings i st)
  seated_now = record {
    seats = λ q used. used_listed i st reached q used;
    keepers = λ q kept. served_listed i st reached q (kept_served i st q kept);
    few = let all = drawings_few i st in let both = length-append (thread_drawings i st) (worker_drawings i st) in omega (arith, all, both);
  }

  -- at most one drawing for each thread and worker is in use in a state
  pub now_covered : Covers (in_use_now i st numbers) (thread_count i + i.options.workers) (thread_drawings i st ++ worker_drawings i st)
  now_covered = seats_cover circle (thread_count i + i.options.workers) (is_kept i st) (worker_drawings i st) (in_use_now i st numbers) (thread_drawings i st) seated_now

-- the number of a held call is live
pub item_live : (i : Input) (st : State) → Reached i st → (held : HeldCall) → IsItem st held → is_live st held.number ≡ true
item_live i st reached held x = subst (λ n. is_live st n ≡ true) (sym (ap (λ (each : HeldCall). each.number) x.is)) (held_lives i st reached.whole.calls held.tid x.holder)

-- ---- what isn't renewed

-- a drawing that isn't renewed by changes is none of those that they renew
pub not_renewed : (q : ℕ) (before : Bool) (cs : List Change) → fold (is_renewed_by q) before cs ≡ false → EachOld (λ old. (q == old) ≡ false) cs
not_renewed q before [] e = tt
not_renewed q before (Renewed old new ∷ cs) e = (
  ne_eqb q old (λ same. true≢false (sym (fold_stays (is_renewed_by q) true (renewed_stays q) cs)
      ∙ ap (λ b. fold (is_renewed_by q) (b || before) cs) (sym (eq-eqb old q (sym same))) ∙ e)),
  not_renewed q (old == q || before) cs e,
)
not_renewed q before (_ ∷ cs) e = not_renewed q before cs e

-- a live drawing is open
pub open_live : (o : Option Head) (closed : Bool) (dying : ℕ → Bool) → is_live_by o closed dying ≡ true → closed ≡ false
open_live None closed dying e = cc
open_live (Some head) true dying e = cc
open_live (Some head) false dying e = refl

-- ---- a lawful call

module _ (i : Input) (st : State) (reached : Reached i st) (u : ℕ) (seq : Option ℕ) (call : SysCall) (regs : List ℕ) (args : List ArgText) (ids : Ids) (result : CallResult) (changes : List Change) (y : IsUsed i st u seq call regs args ids result changes) where
  abbrev m : ℕ
  m = (st.threads u).owner

  abbrev helds : List HeldCall
  helds = held_from st 1 (thread_count i)

  -- a property of the changes holds if it holds of changes that renew nothing, and of the renewals of the held calls
  by_shape : (P : List Change → Type 0) → ((cs : List Change) → Each IsNoRenewal cs → P cs) → ((set : Ids) → P (SetIds set ∷ renewals m u (suc st.posted) helds)) → P changes
  by_shape P calm renewing = by (used_shape i st u call regs args ids result changes seq y) where
    by : Shape (system_of i st) (request_of i st u regs args ids) call changes → P changes
    by (quiet x) = calm changes (quiet_calm changes x)
    by (forked is e) = calm changes (subst (Each IsNoRenewal) (sym e) (tt, tt))
    by (execed binary e) = calm changes (subst (Each IsNoRenewal) (sym e) (exec_calm binary st.next_space i.options.inherit))
    by (renewed set sets e) = subst P (sym e) (renewing set)

  pub used_follows : Follows st.posted changes
  used_follows = by_shape (Follows st.posted) (calm_follows st.posted) (λ set. renewals_follow (is_other_of m u) st.posted (suc st.posted) helds refl)

  -- what is renewed is live
  pub used_old : EachOld (λ old. is_live st old ≡ true) changes
  used_old = by_shape (EachOld (λ old. is_live st old ≡ true)) (calm_old (λ old. is_live st old ≡ true))
      (λ set. renewals_old (is_other_of m u) (λ old. is_live st old ≡ true) (suc st.posted) helds
      (each_held (IsItem st) (λ held. is_live st held.number ≡ true) (item_live i st reached) helds (items st 1 (thread_count i))))

  module _ (circle : ℕ) (numbers : Numbers) where
    abbrev most : ℕ
    most = thread_count i + i.options.workers

    -- at most one drawing for each thread and worker is in use at each renewal
    pub used_fits : Fits circle (is_kept i st) most (in_use_now i st numbers) changes
    used_fits = by_shape (Fits circle (is_kept i st) most (in_use_now i st numbers)) (calm_fits circle (is_kept i st) most (in_use_now i st numbers))
        (λ set. renewals_fit (is_other_of m u) circle most (is_kept i st) (worker_drawings i st) (suc st.posted) helds (in_use_now i st numbers) (thread_drawings i st) (seated_now i st reached circle numbers)
        (each_held (IsItem st) (λ held. Among held.number (thread_drawings i st)) (λ held x. live_listed i st reached held.number (item_live i st reached held x)) helds (items st 1 (thread_count i)))
        (apart i st reached.whole.calls 1 (thread_count i)))

  -- ---- what is in use after the call, and was renewed by it, is kept

  abbrev made : Entry
  made = Used u seq call regs args ids result changes

  abbrev Stays : ℕ → Type 0
  Stays q = EachOld (λ old. (not (q == old) || is_kept i st q) ≡ true) changes

  live_stays : (q : ℕ) → is_live (state_after i st made) q ≡ true → Stays q
  live_stays q live =
      let closed = open_live ((state_after i st made).messages q).head ((state_after i st made).messages q).closed (λ t. ((state_after i st made).threads t).dying) live in
      old_by (λ old. (q == old) ≡ false) (λ old. (not (q == old) || is_kept i st q) ≡ true) (λ old differ. ap (λ b. not b || is_kept i st q) differ) changes
      (not_renewed q (st.messages q).closed changes (or_parts (is_number q seq) (fold (is_renewed_by q) (st.messages q).closed changes) closed).1)

  pub used_stays : (q : ℕ) → is_in_use i (state_after i st made) q ≡ true → Stays q
  used_stays q used = by (used_by i (state_after i st made) q used) where
    by : (is_live (state_after i st made) q ≡ true) ⊎ IsServed i (state_after i st made) q → Stays q
    by (inl live) = live_stays q live
    by (inr x) = parts (turn_same i st reached q made y refl refl refl x) where
      parts : (is_live (state_after i st made) q ≡ true) ⊎ (is_kept i st q ≡ true) → Stays q
      parts (inl live) = live_stays q live
      parts (inr kept) = each_old (λ old. (not (q == old) || is_kept i st q) ≡ true) (λ old. or_right (not (q == old)) (is_kept i st q) kept) changes
