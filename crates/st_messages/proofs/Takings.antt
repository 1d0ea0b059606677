-- Takings, the list of each pass, and the places of the tickets.
use Rattle.std.proofs.Common.{◌≡◌, ◌≢◌, ℕ, zero, suc, ◌+◌, List, [], ◌∷◌, ◌++◌, map, length, Some, inl, inr, refl, ap, ◌∙◌, arith}
use Rattle.std.proofs.lemmas.Bool.{cases_eq, eq-eqb, ne_eqb}
use Rattle.std.proofs.lemmas.List.{append-nil, map-append}
use Rattle.std.proofs.lemmas.List.Elements.{filter-append}
use Rattle.std.proofs.lemmas.Option.{none-some, same_Some, slice_get-map}
use Rattle.std.specs.Option.{option_map}
use Rattle.std.specs.Prelude.{slice_get}
use Rattle.st_messages.specs.declared.ticket.Ticket.{Ticket}
use Rattle.st_messages.specs.Tickets.{is_by, taken_by, ticket_in, AreNumbered, Taking}
use Rattle.st_messages.proofs.Elements.{at_front, at_front_or_last, at_seam}

abbrev pub taking_of : ℕ → Ticket → Taking
taking_of taker ticket = record { taker = taker; ticket = ticket }

-- ---- one more taking

pub taken-own : (takings : List Taking) (taker : ℕ) (ticket : Ticket) → taken_by taker (takings ++ taking_of taker ticket ∷ []) ≡ taken_by taker takings ++ ticket ∷ []
taken-own takings taker ticket =
    ap (map ticket_in) (filter-append (is_by taker) takings (taking_of taker ticket ∷ [])) ∙ rw (eq-eqb taker taker refl) (map-append ticket_in _ _)

pub taken-other : (takings : List Taking) (taker : ℕ) (ticket : Ticket) (other : ℕ) → taker ≢ other → taken_by other (takings ++ taking_of taker ticket ∷ []) ≡ taken_by other takings
taken-other takings taker ticket other apart =
    ap (map ticket_in) (filter-append (is_by other) takings (taking_of taker ticket ∷ [])) ∙ rw (ne_eqb taker other apart) (ap (map ticket_in) (append-nil _))

-- ---- the list of a pass, and the takings

pub ticket_at : (takings : List Taking) (i : ℕ) (taking : Taking) → slice_get takings i ≡ Some taking → slice_get (map ticket_in takings) i ≡ Some taking.ticket
ticket_at takings i taking e = slice_get-map ticket_in takings i ∙ ap (option_map ticket_in) e

-- each ticket was taken by some pass
pub taker_at : (takings : List Taking) (i : ℕ) (ticket : Ticket) → slice_get (map ticket_in takings) i ≡ Some ticket → (taker : ℕ) × (slice_get takings i ≡ Some (taking_of taker ticket))
taker_at [] i ticket e = absurd (none-some ticket e)
taker_at (t ∷ takings) zero ticket e = let same = same_Some t.ticket ticket e in (t.taker, λ k. Some (taking_of t.taker (same k)))
taker_at (t ∷ takings) (suc i) ticket e = taker_at takings i ticket e

-- it stands in the list of that pass
pub listed : (takings : List Taking) (i taker : ℕ) (ticket : Ticket) → slice_get takings i ≡ Some (taking_of taker ticket) → (k : ℕ) × (slice_get (taken_by taker takings) k ≡ Some ticket)
listed [] i taker ticket e = absurd (none-some (taking_of taker ticket) e)
listed (t ∷ takings) zero taker ticket e =
    let same : t ≡ taking_of taker ticket = same_Some t (taking_of taker ticket) e in
    rw (eq-eqb t.taker taker (ap (λ (x : Taking). x.taker) same)) (0, ap (λ (x : Taking). Some x.ticket) same)
listed (t ∷ takings) (suc i) taker ticket e =
    let more = listed takings i taker ticket e in
    elim (cases_eq t.taker taker) [
      | inl same ↦ rw (eq-eqb t.taker taker same) (suc more.0, more.1)
      | inr apart ↦ rw (ne_eqb t.taker taker apart) more
    ]

-- what stands in the list of a pass was taken by it
pub taking_at : (takings : List Taking) (taker k : ℕ) (ticket : Ticket) → slice_get (taken_by taker takings) k ≡ Some ticket → (i : ℕ) × (slice_get takings i ≡ Some (taking_of taker ticket))
taking_at [] taker k ticket e = absurd (none-some ticket e)
taking_at (t ∷ takings) taker zero ticket e = elim (cases_eq t.taker taker) [
  | inl same ↦ let here = same_Some t.ticket ticket (rw (eq-eqb t.taker taker same) at e) in (0, λ i. Some (taking_of (same i) (here i)))
  | inr apart ↦ let r = taking_at takings taker zero ticket (rw (ne_eqb t.taker taker apart) at e) in (suc r.0, r.1)
]
taking_at (t ∷ takings) taker (suc k) ticket e = elim (cases_eq t.taker taker) [
  | inl same ↦ let r = taking_at takings taker k ticket (rw (eq-eqb t.taker taker same) at e) in (suc r.0, r.1)
  | inr apart ↦ let r = taking_at takings taker (suc k) ticket (rw (ne_eqb t.taker taker apart) at e) in (suc r.0, r.1)
]

-- ---- places

pub numbered_more : (tickets : List Ticket) (x : Ticket) → AreNumbered tickets → x.place ≡ length tickets + 1 → AreNumbered (tickets ++ x ∷ [])
numbered_more tickets x numbered place index ticket e = elim (at_front_or_last tickets x ticket index e) [
  | inl front ↦ numbered index ticket front
  | inr h ↦ omega (arith, place, h.0, ap (λ (t : Ticket). t.place) h.1)
]

module _ (posted queue : List Ticket) (takings : List Taking) (numbered : AreNumbered posted) (in_order : posted ≡ map ticket_in takings ++ queue) where
  -- the ticket of a taking has its place
  pub place_of_taking : (i : ℕ) (taking : Taking) → slice_get takings i ≡ Some taking → taking.ticket.place ≡ i + 1
  place_of_taking i taking e =
      numbered i taking.ticket (ap (λ (l : List Ticket). slice_get l i) in_order ∙ at_front (map ticket_in takings) queue i taking.ticket (ticket_at takings i taking e))

-- the first ticket of the queue has the next place
pub place_of_first : (posted queue : List Ticket) (takings : List Taking) (x : Ticket) → AreNumbered posted → posted ≡ map ticket_in takings ++ x ∷ queue → x.place ≡ length (map ticket_in takings) + 1
place_of_first posted queue takings x numbered in_order =
    let i = length (map ticket_in takings) in numbered i x (ap (λ (l : List Ticket). slice_get l i) in_order ∙ at_seam (map ticket_in takings) x queue)
