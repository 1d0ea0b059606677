-- The caller's own call while the other held calls of its process are renewed: it is live all the while, and ends afterwards.
use native.Mathlib.Omega.{arith}
use Rattle.std.proofs.Common.{◌≡◌, ◌<◌, ◌-◌, ◌∙◌, ℕ, suc, ◌==◌, Bool, true, false, cond, get_or, set, List, [], ◌∷◌, Option, Some, None, refl, ap, sym}
use Rattle.std.proofs.lemmas.Bool.{eqb-true, ne_eqb, true≢false}
use Rattle.std.specs.Prelude.{IfSome}
use Rattle.st_law.specs.State.{State}
use Rattle.st_reached.specs.Reached.{life_after_change, life_after_changes}
use Rattle.st_trace.specs.declared.entry.Change.TheVariants.{Renewed}
use Rattle.st_threads.specs.Ending.{life_without_number}
use Rattle.st_threads.specs.Renewing.{AreLiveAndDistinct, AreOthers, renewals_from}
use Rattle.st_threads.specs.Thread.{ThreadRow}
use Rattle.st_threads.specs.declared.renewing.RenewedCall.{RenewedCall}
use Rattle.st_workers.proofs.Turns.{read_is}
use Rattle.st_steps.specs.Making.{IsClosed}

-- calls that are live by one test are live by another
pub more_live : (a b : ℕ → Bool) → ((q : ℕ) → a q ≡ true → b q ≡ true) → (calls : List RenewedCall) → AreLiveAndDistinct a calls → AreLiveAndDistinct b calls
more_live a b more [] live = tt
more_live a b more (call ∷ calls) live = (more call.drawing live.0, live.1, more_live a b more calls live.2)

-- a drawing that isn't live is none of these calls'
pub none_of_live : (alive : ℕ → Bool) (q : ℕ) → alive q ≡ false → (calls : List RenewedCall) → AreLiveAndDistinct alive calls → AreOthers q calls
none_of_live alive q dead [] live = tt
none_of_live alive q dead (call ∷ calls) live = (λ e. true≢false (sym live.0 ∙ ap alive e ∙ dead), none_of_live alive q dead calls live.2)

neither : (b : Bool) → cond b false false ≡ false
neither true = refl
neither false = refl

module _ (st : State) (m q : ℕ) where
  -- a drawing that isn't renewed is live as before
  pub lives_on : (calls : List RenewedCall) (next : ℕ) (alive : ℕ → Bool) → q < next → AreOthers q calls → life_after_changes st m alive (renewals_from next calls) q ≡ alive q
  lives_on [] next alive low others = refl
  lives_on (call ∷ calls) next alive low others =
      lives_on calls (suc next) (life_after_change st m alive (Renewed call.drawing next)) (omega (arith, low)) others.1
      ∙ ap (λ (b : Bool). cond b true (cond (q == call.drawing) false (alive q))) (ne_eqb q next (λ e. omega (arith, e, low)))
      ∙ ap (λ (b : Bool). cond b false (alive q)) (ne_eqb q call.drawing (λ e. others.0 (sym e)))

  one_end : (p next : ℕ) (alive : ℕ → Bool) (other : ℕ) → q < next → life_without_number (life_after_change st m alive (Renewed p next)) (Some q) other ≡ life_after_change st m (life_without_number alive (Some q)) (Renewed p next) other
  one_end p next alive other low = by (q == other) refl where
    by : (b : Bool) → (q == other) ≡ b → cond b false (cond (other == next) true (cond (other == p) false (alive other))) ≡ cond (other == next) true (cond (other == p) false (cond b false (alive other)))
    by false e = refl
    by true e =
        let same = eqb-true q other e in
        sym (ap (λ (b : Bool). cond b true (cond (other == p) false false)) (ne_eqb other next (λ f. omega (arith, same, f, low))) ∙ neither (other == p))

  ends_later : (calls : List RenewedCall) (next : ℕ) (alive : ℕ → Bool) → q < next → life_without_number (life_after_changes st m alive (renewals_from next calls)) (Some q) ≡ life_after_changes st m (life_without_number alive (Some q)) (renewals_from next calls)
  ends_later [] next alive low = refl
  ends_later (call ∷ calls) next alive low =
      ends_later calls (suc next) (life_after_change st m alive (Renewed call.drawing next)) (omega (arith, low))
      ∙ ap (λ (life : ℕ → Bool). life_after_changes st m life (renewals_from (suc next) calls)) (λ k other. one_end call.drawing next alive other low k)

-- it is the same whether the caller's call ends before the renewals or after them
pub ends_after : (st : State) (m : ℕ) (drawing : Option ℕ) (calls : List RenewedCall) (next : ℕ) (alive : ℕ → Bool) → IfSome drawing (λ q. q < next)
    → life_without_number (life_after_changes st m alive (renewals_from next calls)) drawing ≡ life_after_changes st m (life_without_number alive drawing) (renewals_from next calls)
ends_after st m None calls next alive low = refl
ends_after st m (Some q) calls next alive low = ends_later st m q calls next alive low

-- the threads once the call of one of them is closed
pub closed_is : (rows : List ThreadRow) (t : ℕ) (read shut : ThreadRow) (now closed : List ThreadRow) → IsClosed rows t closed → read ≡ get_or rows (t - 1) read → shut ≡ record read { pending = None } → now ≡ set rows (t - 1) shut → now ≡ closed
closed_is rows t read shut now closed x here shuts put = put ∙ ap (set rows (t - 1)) (shuts ∙ ap (λ (r : ThreadRow). record r { pending = None }) (read_is rows t x.0 read x.1 here)) ∙ sym x.2
