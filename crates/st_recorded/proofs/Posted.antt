-- The tickets for the drawings of a run.
use native.Mathlib.Omega.{arith}
use Rattle.std.proofs.Common.{◌≡◌, ◌∙◌, ◌≤◌, ◌<◌, true≢false, ◌-◌, ◌+◌, ℕ, zero, suc, true, false, cond, Bool, List, [], ◌∷◌, ◌++◌, Option, Some, None, ap, length, refl, subst, sym, inl, inr}
use Rattle.std.proofs.lemmas.Bool.{cases_lt}
use Rattle.std.proofs.lemmas.List.{append_assoc, length-append}
use Rattle.std.specs.Prelude.{◌⊎◌, slice_get, unwrap_or}
use Rattle.st_base.specs.Numbered.{item_at_number}
use Rattle.st_messages.specs.declared.ticket.Ticket.{Ticket}
use Rattle.st_messages.specs.Tickets.{ticket_of}
use Rattle.st_law.specs.State.{is_live}
use Rattle.st_law.specs.Inputs.{IsStartable}
use Rattle.st_trace.specs.declared.entry.Choice.{Choice}
use Rattle.st_kernel.specs.Kernel.{RunSoFar, number_now, state_in, with_choice}
use Rattle.st_noted.specs.Steps.{MayHaveMade}
use Rattle.st_noted.proofs.Draws.{step_draws}
use Rattle.st_recorded.specs.Tickets.{ticket_number, tickets_after, AreTicketsOf, IsTicketOf}
use Rattle.st_recorded.proofs.KeptDrawings.{KeepsDrawing, drawing_kept}

-- so many drawings have so many tickets
length_after : (so_far : RunSoFar) (last n : ℕ) → length (tickets_after so_far last n) ≡ n
length_after so_far last zero = refl
length_after so_far last (suc n) =
    let more = length-append (tickets_after so_far last n) (ticket_of (last + suc n) (ticket_number so_far (last + suc n)) ∷ []) in
    let before = length_after so_far last n in
    omega (arith, more, before)

-- they are followed by the one for the next drawing
one_more_ticket : (so_far : RunSoFar) (first tickets : List Ticket) → length first ≤ length tickets → tickets ≡ first ++ tickets_after so_far (length first) (length tickets - length first)
    → tickets ++ ticket_of (length tickets + 1) (ticket_number so_far (length tickets + 1)) ∷ [] ≡ first ++ tickets_after so_far (length first) (suc (length tickets) - length first)
one_more_ticket so_far first tickets from are =
    let n : ℕ = length tickets - length first in
    let place : length first + suc n ≡ length tickets + 1 = omega (arith, from) in
    let more : suc n ≡ suc (length tickets) - length first = omega (arith, from) in
    let next : Ticket = ticket_of (length first + suc n) (ticket_number so_far (length first + suc n)) in
    ap (λ (p : ℕ). tickets ++ ticket_of p (ticket_number so_far p) ∷ []) (sym place)
    ∙ ap (λ (before : List Ticket). before ++ next ∷ []) are
    ∙ append_assoc first (tickets_after so_far (length first) n) (next ∷ [])
    ∙ ap (λ (k : ℕ). first ++ tickets_after so_far (length first) k) more

-- one more ticket was posted
pub posted_one_more : (so_far : RunSoFar) (first before after : List Ticket) (n : ℕ) → length first ≤ length before → before ≡ first ++ tickets_after so_far (length first) (length before - length first)
    → n ≡ ticket_number so_far (length before + 1) → after ≡ before ++ ticket_of (length before + 1) n ∷ []
    → (length after ≡ suc (length before)) × (after ≡ first ++ tickets_after so_far (length first) (length after - length first))
posted_one_more so_far first before after n from are next longer = (
  count,
  longer ∙ ap (λ (m : ℕ). before ++ ticket_of (length before + 1) m ∷ []) next ∙ one_more_ticket so_far first before from are
      ∙ ap (λ (k : ℕ). first ++ tickets_after so_far (length first) (k - length first)) (sym count),
) where
  count : length after ≡ suc (length before)
  count = ap length longer ∙ length-append before (ticket_of (length before + 1) n ∷ []) ∙ omega arith

-- ---- which ticket a drawing has

left : {X : Type 0} (xs ys : List X) (k : ℕ) → k < length xs → slice_get (xs ++ ys) k ≡ slice_get xs k
left [] ys k low = absurd (omega (arith, low))
left (x ∷ xs) ys zero low = refl
left (x ∷ xs) ys (suc k) low = left xs ys k (omega (arith, low))

right : {X : Type 0} (xs : List X) (y : X) → slice_get (xs ++ y ∷ []) (length xs) ≡ Some y
right [] y = refl
right (x ∷ xs) y = right xs y

-- the items of a list stay when others are appended
at_left : {X : Type 0} (xs ys : List X) (q : ℕ) → q ≤ length xs → item_at_number (xs ++ ys) q ≡ item_at_number xs q
at_left xs ys zero low = refl
at_left xs ys (suc k) low = left xs ys k (omega (arith, low))

-- a drawing that was made since the last ticket has its ticket
at_after : (so_far : RunSoFar) (first : List Ticket) (n q : ℕ) → length first < q → q ≤ length first + n → item_at_number (first ++ tickets_after so_far (length first) n) q ≡ Some (ticket_of q (ticket_number so_far q))
at_after so_far first zero q low high = absurd (omega (arith, low, high))
at_after so_far first (suc n) q low high =
    ap (λ (tickets : List Ticket). item_at_number tickets q) (sym (append_assoc first (tickets_after so_far (length first) n) (next ∷ []))) ∙ by (at_after so_far first n q low) (cases_lt (length first + n) q) where
      next : Ticket
      next = ticket_of (length first + suc n) (ticket_number so_far (length first + suc n))

      before : List Ticket
      before = first ++ tickets_after so_far (length first) n

      count : length before ≡ length first + n
      count = length-append first (tickets_after so_far (length first) n) ∙ ap (λ (k : ℕ). length first + k) (length_after so_far (length first) n)

      by : (q ≤ length first + n → item_at_number before q ≡ Some (ticket_of q (ticket_number so_far q))) → (length first + n < q) ⊎ (q ≤ length first + n)
          → item_at_number (before ++ next ∷ []) q ≡ Some (ticket_of q (ticket_number so_far q))
      by earlier_has (inl last) =
          let is : q ≡ length first + suc n = omega (arith, last, high) in
          let place : q ≡ suc (length before) = omega (arith, is, count) in
          ap (item_at_number (before ++ next ∷ [])) place ∙ right before next ∙ ap (λ (p : ℕ). Some (ticket_of p (ticket_number so_far p))) (sym is)
      by earlier_has (inr earlier) = at_left before (next ∷ []) q (omega (arith, count, earlier)) ∙ earlier_has earlier

-- the ticket that is posted for a drawing is its ticket
posted_now : (so_far : RunSoFar) (q : ℕ) (ticket : Option Ticket) → ticket ≡ Some (ticket_of q (ticket_number so_far q)) → IsTicketOf so_far q ticket
posted_now so_far q ticket is = by (is_live (state_in so_far) q) refl where
  number_if : Bool → ℕ
  number_if b = unwrap_or (cond b (Some (number_now so_far q)) None) 0

  by : (b : Bool) → is_live (state_in so_far) q ≡ b → IsTicketOf so_far q ticket
  by true live = inl (is ∙ ap (λ (b : Bool). Some (ticket_of q (number_if b))) live)
  by false dead = inr (dead, is ∙ ap (λ (b : Bool). Some (ticket_of q (number_if b))) dead)

-- a drawing that isn't live stays so
dead_still : (old new : RunSoFar) (q : ℕ) → KeepsDrawing old new q → is_live (state_in old) q ≡ false → is_live (state_in new) q ≡ false
dead_still old new q kept dead = by (is_live (state_in new) q) refl where
  by : (b : Bool) → is_live (state_in new) q ≡ b → is_live (state_in new) q ≡ false
  by true live = absurd (true≢false (sym (kept.1 live) ∙ dead))
  by false is = is

-- the ticket of a drawing is still its ticket when a choice is made
ticket_still : (old new : RunSoFar) (q : ℕ) → KeepsDrawing old new q → (ticket : Option Ticket) → IsTicketOf old q ticket → IsTicketOf new q ticket
ticket_still old new q kept ticket (inl is) = inl (is ∙ ap (λ (n : ℕ). Some (ticket_of q n)) (sym kept.0))
ticket_still old new q kept ticket (inr (dead, is)) = inr (dead_still old new q kept dead, is)

-- the tickets of a run, if those that were posted before are of their drawings
tickets_stand : (so_far : RunSoFar) (before after : List Ticket) → length before ≤ (state_in so_far).posted
    → ((q : ℕ) → 1 ≤ q → q ≤ length before → IsTicketOf so_far q (item_at_number before q))
    → after ≡ before ++ tickets_after so_far (length before) ((state_in so_far).posted - length before) → AreTicketsOf so_far after
tickets_stand so_far before after low old are = record {
  count =
      ap length are ∙ length-append before (tickets_after so_far (length before) new) ∙ ap (λ (k : ℕ). length before + k) (length_after so_far (length before) new)
      ∙ omega (arith, low);
  numbers = λ q from to. subst (λ (tickets : List Ticket). IsTicketOf so_far q (item_at_number tickets q)) (sym are) (by q from to (cases_lt (length before) q));
} where
  new : ℕ
  new = (state_in so_far).posted - length before

  by : (q : ℕ) → 1 ≤ q → q ≤ (state_in so_far).posted → (length before < q) ⊎ (q ≤ length before) → IsTicketOf so_far q (item_at_number (before ++ tickets_after so_far (length before) new) q)
  by q from to (inl more) = posted_now so_far q (item_at_number (before ++ tickets_after so_far (length before) new) q) (at_after so_far before new q more (omega (arith, low, to)))
  by q from to (inr less) = subst (IsTicketOf so_far q) (sym (at_left before (tickets_after so_far (length before) new) q less)) (old q from less)

-- the tickets of a run of which none was posted before
pub tickets_at_first : (so_far : RunSoFar) (before after : List Ticket) → before ≡ []
    → after ≡ before ++ tickets_after so_far (length before) ((state_in so_far).posted - length before) → AreTicketsOf so_far after
tickets_at_first so_far before after none are =
    let count : length before ≡ 0 = ap length none in
    tickets_stand so_far before after (omega (arith, count)) (λ q from low. absurd (omega (arith, from, low, count))) are

-- the tickets of a run after one more step
pub tickets_after_step : (old new : RunSoFar) (c : Choice) → MayHaveMade old c new → IsStartable new.input → (before after : List Ticket) → AreTicketsOf old before
    → after ≡ before ++ tickets_after new (length before) ((state_in new).posted - length before) → AreTicketsOf new after
tickets_after_step old new c step startable before after tickets are =
    let count = tickets.count in
    let more = step_draws old new c step in
    tickets_stand new before after (omega (arith, count, more)) (kept step) are where
      made_before : (q : ℕ) → q ≤ length before → q ≤ (state_in old).posted
      made_before q low = let count = tickets.count in omega (arith, count, low)

      kept : MayHaveMade old c new → (q : ℕ) → 1 ≤ q → q ≤ length before → IsTicketOf new q (item_at_number before q)
      kept (inl same) q from low = subst (λ (so_far : RunSoFar). IsTicketOf so_far q (item_at_number before q)) (sym same) (tickets.numbers q from (made_before q low))
      kept (inr made) q from low =
          subst (λ (so_far : RunSoFar). IsTicketOf so_far q (item_at_number before q)) (sym made)
          (ticket_still old (with_choice old c) q
          (drawing_kept old.input (subst (λ (so_far : RunSoFar). IsStartable so_far.input) made startable) old.choices c q (made_before q low))
          (item_at_number before q) (tickets.numbers q from (made_before q low)))
