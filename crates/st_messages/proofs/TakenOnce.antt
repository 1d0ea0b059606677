-- Under the rule of the queue the tickets that were taken are the first that were posted, each taken once.
use Rattle.std.proofs.Common.{◌≡◌, ◌≢◌, ℕ, ◌+◌, List, [], map, length, take, drop, get_or, Some, inl, inr, ⊎_elim, refl, sym, ap, ◌∙◌, subst, arith}
use Rattle.std.proofs.lemmas.List.Kept.{AllPairs-filter}
use Rattle.std.proofs.lemmas.Option.{none-some, same_Some, slice_get-get_or}
use Rattle.std.proofs.Math.Seq.{drop-append_seam, take-append_seam}
use Rattle.std.specs.List.{filter, AllPairs, Contains}
use Rattle.std.specs.Prelude.{slice_get}
use mathlib.Core.Option.{some}
use lib.ListN.{get_elem?}
use Rattle.st_messages.specs.declared.ticket.Ticket.{Ticket}
use Rattle.st_messages.specs.declared.ticket.TicketList.{TicketList}
use Rattle.st_messages.specs.Tickets.{is_by, taken_by, taken_list, ticket_in, AreTickets, HasTaken, IsBefore, Taking, TicketsAreTakenOnce}
use Rattle.st_messages.proofs.Elements.{at_contained, contains_at, some_or_past, AllPairs-map}
use Rattle.st_messages.proofs.Takings.{listed, place_of_taking, taker_at, taking_at, taking_of, ticket_at}
use Rattle.st_messages.proofs.TicketSteps.{posted_is, taken_is}

module _ (queue : List Ticket) (lists : List TicketList) (h : AreTickets queue lists) where
  place_is : (i : ℕ) (taking : Taking) → slice_get h.takings i ≡ Some taking → taking.ticket.place ≡ i + 1
  place_is = place_of_taking h.posted queue h.takings h.numbered h.in_order

  list_is : (pass : ℕ) (tickets : List Ticket) → get_elem? lists pass ≡ some (taken_list tickets) → tickets ≡ taken_by pass h.takings
  list_is pass tickets at = ap (λ (l : TicketList). l.tickets) (taken_is queue lists h pass (taken_list tickets) at refl).1

  first_is : take (length (map ticket_in h.takings)) h.posted ≡ map ticket_in h.takings
  first_is = ap (take (length (map ticket_in h.takings))) h.in_order ∙ take-append_seam (map ticket_in h.takings) queue

  -- what a pass has taken is among the takings
  taking_is : (pass : ℕ) (ticket : Ticket) → HasTaken lists pass ticket → (i : ℕ) × (slice_get h.takings i ≡ Some (taking_of pass ticket))
  taking_is pass ticket has =
      let at = at_contained (taken_by pass h.takings) ticket (subst (λ (l : List Ticket). Contains l ticket) (list_is pass has.0 has.1) has.2) in
      taking_at h.takings pass at.0 ticket at.1

  -- each taking is by a taker
  has_taken : (i taker : ℕ) (ticket : Ticket) → slice_get h.takings i ≡ Some (taking_of taker ticket) → HasTaken lists taker ticket
  has_taken i taker ticket e =
      let at = listed h.takings i taker ticket e in
      let some_taken : taken_by taker h.takings ≢ [] = λ none. none-some ticket (ap (λ (l : List Ticket). slice_get l at.0) (sym none) ∙ at.1) in
      let there : (list : TicketList) × (get_elem? lists taker ≡ some list) = ⊎_elim (λ found. found) (λ past. absurd (some_taken (h.no_others taker (inr past)))) (some_or_past lists taker) in (
        taken_by taker h.takings,
        there.1 ∙ ap some (h.are_takers taker there.0 (λ same. some_taken (h.no_others taker (inl same))) there.1),
        contains_at (taken_by taker h.takings) at.0 ticket at.1,
      )

  one_taker : (i taker : ℕ) (ticket : Ticket) → slice_get h.takings i ≡ Some (taking_of taker ticket) → (other : ℕ) → HasTaken lists other ticket → other ≡ taker
  one_taker i taker ticket e other has =
      let theirs = taking_is other ticket has in
      let same : theirs.0 ≡ i = omega (arith, place_is theirs.0 (taking_of other ticket) theirs.1, place_is i (taking_of taker ticket) e) in
      ap (λ (t : Taking). t.taker) (same_Some (taking_of other ticket) (taking_of taker ticket) (sym theirs.1 ∙ ap (λ k. slice_get h.takings k) same ∙ e))

  in_place_order : (pass : ℕ) → AllPairs IsBefore (taken_by pass h.takings)
  in_place_order pass =
      AllPairs-map IsBefore ticket_in (filter (is_by pass) h.takings)
      (AllPairs-filter (λ (a b : Taking). IsBefore a.ticket b.ticket) (is_by pass) h.takings
      (λ i j d below inside.
      omega (
        arith,
        below,
        place_is i (get_or h.takings i d) (slice_get-get_or h.takings i d (omega (arith, below, inside))),
        place_is j (get_or h.takings j d) (slice_get-get_or h.takings j d inside),
      )))

pub taken_once : TicketsAreTakenOnce
taken_once queue lists h = record {
  poster = h.poster;
  posted = h.posted;
  count = length (map ticket_in h.takings);
  is_poster = h.is_poster;
  one_poster = λ pass tickets at. (posted_is queue lists h pass _ at refl).0;
  numbered = h.numbered;
  queued = sym (ap (drop (length (map ticket_in h.takings))) h.in_order ∙ drop-append_seam (map ticket_in h.takings) queue);
  taken = λ ticket has.
      let at = at_contained (map ticket_in h.takings) ticket (subst (λ (l : List Ticket). Contains l ticket) (first_is queue lists h) has) in
      let by = taker_at h.takings at.0 ticket at.1 in
      (by.0, has_taken queue lists h at.0 by.0 ticket by.1, one_taker queue lists h at.0 by.0 ticket by.1);
  no_others = λ pass ticket has.
      let at = taking_is queue lists h pass ticket has in
      subst (λ (l : List Ticket). Contains l ticket) (sym (first_is queue lists h)) (contains_at (map ticket_in h.takings) at.0 ticket (ticket_at h.takings at.0 (taking_of pass ticket) at.1));
  in_order = λ pass tickets at. subst (AllPairs IsBefore) (sym (list_is queue lists h pass tickets at)) (in_place_order queue lists h pass);
}
