-- Each step of a queue of tickets keeps its rule.
use Rattle.std.proofs.Common.{◌≡◌, ◌≢◌, ◌⊎◌, ℕ, zero, suc, ◌+◌, ◌≤◌, true, false, List, [], ◌∷◌, ◌++◌, map, length, set, get_or, inl, inr, ⊎_elim, refl, sym, ap, ◌∙◌, subst, append_assoc, arith}
use Rattle.std.proofs.lemmas.Bool.{cases_eq, true≢false}
use Rattle.std.proofs.lemmas.List.{length-append, length-map, length-set, map-append}
use Rattle.std.proofs.lemmas.List.Elements.{All-filter, All-map}
use Rattle.std.proofs.lemmas.Option.{none-some, slice_get-get_or}
use Rattle.std.specs.List.{filter, All}
use mathlib.Core.Option.{some, some-injective, some-ne-none}
use lib.ListN.{get_elem?}
use Rattle.crossbeam_queue.specs.Fifo.{Forks, Learns, Pops, Pushes}
use Rattle.crossbeam_queue.proofs.Lists.{at_longer, at_set, set_again, set_else, set_here}
use Rattle.st_messages.specs.declared.ticket.Ticket.{Ticket}
use Rattle.st_messages.specs.declared.ticket.TicketList.{TicketList}
use Rattle.st_messages.specs.Tickets.{is_by, posted_list, taken_by, taken_list, ticket_in, AreNumbered, AreTickets, HadQueue, HasAtMost, IsBefore, IsPosted, IsTaken, Taking}
use Rattle.st_messages.proofs.Elements.{some_front_or_last, some_within}
use Rattle.st_messages.proofs.Takings.{numbered_more, place_of_first, place_of_taking, taken-other, taken-own, taking_of}

-- ---- whose a list is

pub posted_is : (queue : List Ticket) (lists : List TicketList) (h : AreTickets queue lists) (pass : ℕ) (v : TicketList) → get_elem? lists pass ≡ some v → v.posts ≡ true → (pass ≡ h.poster) × (v ≡ posted_list h.posted)
posted_is queue lists h pass v at may = elim (cases_eq pass h.poster) [
  | inl same ↦ (same, some-injective v (posted_list h.posted) (sym at ∙ ap (λ k. get_elem? lists k) same ∙ h.is_poster))
  | inr apart ↦ absurd (true≢false (sym may ∙ ap (λ (l : TicketList). l.posts) (h.are_takers pass v apart at)))
]

pub taken_is : (queue : List Ticket) (lists : List TicketList) (h : AreTickets queue lists) (pass : ℕ) (v : TicketList) → get_elem? lists pass ≡ some v → v.posts ≡ false → (pass ≢ h.poster) × (v ≡ taken_list (taken_by pass h.takings))
taken_is queue lists h pass v at may =
    let list_is : pass ≡ h.poster → posted_list h.posted ≡ v = λ same. some-injective (posted_list h.posted) v (sym h.is_poster ∙ ap (λ k. get_elem? lists k) (sym same) ∙ at) in
    let apart : pass ≢ h.poster = λ same. true≢false (ap (λ (l : TicketList). l.posts) (list_is same) ∙ may) in
    (apart, h.are_takers pass v apart at)

-- ---- the steps

no_second : (list other : TicketList) (pass : ℕ) → pass ≢ 0 → get_elem? (list ∷ []) pass ≡ some other → ⊥
no_second list other zero apart e = apart refl
no_second list other (suc pass) apart e = some-ne-none other (sym e)

pub begins : AreTickets [] (posted_list [] ∷ [])
begins = record {
  poster = 0;
  posted = [];
  takings = [];
  numbered = λ index ticket e. absurd (none-some ticket e);
  in_order = refl;
  is_poster = refl;
  are_takers = λ pass list apart e. absurd (no_second (posted_list []) list pass apart e);
  no_others = λ pass out. refl;
}

pub pushes : (n pass : ℕ) (v : TicketList) (x : Ticket) → v.posts ≡ true → x.place ≡ length v.tickets + 1 → Pushes AreTickets n pass v x (IsPosted v x)
pushes n pass v x may place queue lists room h at =
    let mine = posted_is queue lists h pass v at may in
    let all : v.tickets ≡ h.posted = ap (λ (l : TicketList). l.tickets) mine.1 in
    let w : TicketList = posted_list (v.tickets ++ x ∷ []) in (
      w,
      record {
        poster = h.poster;
        posted = v.tickets ++ x ∷ [];
        takings = h.takings;
        numbered = numbered_more v.tickets x (subst AreNumbered (sym all) h.numbered) place;
        in_order = ap (λ l. l ++ x ∷ []) (all ∙ h.in_order) ∙ append_assoc (map ticket_in h.takings) queue (x ∷ []);
        is_poster = ap (λ k. get_elem? (set lists pass w) k) (sym mine.0) ∙ set_here lists pass w (some_within lists pass v at);
        are_takers = λ j list apart e. ⊎_elim (λ same. absurd (apart (same.0 ∙ mine.0))) (λ other. h.are_takers j list apart other.1) (at_set lists pass j w list e);
        no_others = λ j out. h.no_others j (⊎_elim (λ same. inl same) (λ past. inr (subst (λ n. n ≤ j) (length-set lists pass w) past)) out);
      },
      refl,
    )

before_first : (queue : List Ticket) (lists : List TicketList) (x : Ticket) (h : AreTickets (x ∷ queue) lists) (pass : ℕ) → All (λ earlier. IsBefore earlier x) (taken_by pass h.takings)
before_first queue lists x h pass =
    let last = place_of_first h.posted queue h.takings x h.numbered h.in_order in
    All-map (λ earlier. IsBefore earlier x) ticket_in (filter (is_by pass) h.takings)
    (All-filter (is_by pass) (λ (taking : Taking). IsBefore taking.ticket x) h.takings
    (λ k d inside.
    let place = place_of_taking h.posted (x ∷ queue) h.takings h.numbered h.in_order k (get_or h.takings k d) (slice_get-get_or h.takings k d inside) in
    omega (arith, last, place, length-map h.takings ticket_in, inside)))

pub pops : (pass : ℕ) (v : TicketList) → v.posts ≡ false → Pops AreTickets pass v (IsTaken v)
pops pass v may x queue lists h at =
    let mine = taken_is (x ∷ queue) lists h pass v at may in
    let all : v.tickets ≡ taken_by pass h.takings = ap (λ (l : TicketList). l.tickets) mine.1 in
    let takings : List Taking = h.takings ++ taking_of pass x ∷ [] in
    let w : TicketList = taken_list (v.tickets ++ x ∷ []) in
    let w_is : w ≡ taken_list (taken_by pass takings) = ap taken_list (ap (λ l. l ++ x ∷ []) all ∙ sym (taken-own h.takings pass x)) in
    let before : (j : ℕ) → (j ≡ h.poster) ⊎ (length (set lists pass w) ≤ j) → (j ≡ h.poster) ⊎ (length lists ≤ j) = λ j out. ⊎_elim (λ same. inl same) (λ past. inr (subst (λ n. n ≤ j) (length-set lists pass w) past)) out in
    let apart : (j : ℕ) → (j ≡ h.poster) ⊎ (length lists ≤ j) → pass ≢ j = λ j out same. ⊎_elim (λ is. mine.0 (same ∙ is)) (λ past. absurd (omega (arith, same, past, some_within lists pass v at))) out in (
      w,
      record {
        poster = h.poster;
        posted = h.posted;
        takings = takings;
        numbered = h.numbered;
        in_order = h.in_order ∙ sym (ap (λ l. l ++ queue) (map-append ticket_in h.takings (taking_of pass x ∷ [])) ∙ append_assoc (map ticket_in h.takings) (x ∷ []) queue);
        is_poster = set_else lists pass h.poster w (λ e. mine.0 (sym e)) ∙ h.is_poster;
        are_takers = λ j list other e.
            ⊎_elim
            (λ (own : (j ≡ pass) × (w ≡ list)). sym own.1 ∙ w_is ∙ ap (λ k. taken_list (taken_by k takings)) (sym own.0))
            (λ (was : (j ≢ pass) × (get_elem? lists j ≡ some list)). h.are_takers j list other was.1 ∙ ap taken_list (sym (taken-other h.takings pass x j (λ e. was.0 (sym e)))))
            (at_set lists pass j w list e);
        no_others = λ j out. taken-other h.takings pass x j (apart j (before j out)) ∙ h.no_others j (before j out);
      },
      (
        refl,
        subst (All (λ earlier. IsBefore earlier x)) (sym all) (before_first queue lists x h pass),
        (queue, (lists, pass, h, at)),
      ),
    )

-- one more taker, which took nothing
admits : (queue : List Ticket) (lists : List TicketList) → AreTickets queue lists → AreTickets queue (lists ++ taken_list [] ∷ [])
admits queue lists h = record {
  poster = h.poster;
  posted = h.posted;
  takings = h.takings;
  numbered = h.numbered;
  in_order = h.in_order;
  is_poster = at_longer lists (taken_list [] ∷ []) h.poster (posted_list h.posted) h.is_poster;
  are_takers = λ j list apart e.
      ⊎_elim
      (λ was. h.are_takers j list apart was)
      (λ (new : (length lists ≤ j) × (taken_list [] ≡ list)). sym new.1 ∙ ap taken_list (sym (h.no_others j (inr new.0))))
      (some_front_or_last lists (taken_list []) list j e);
  no_others = λ j out. h.no_others j (⊎_elim (λ same. inl same) (λ past. inr (omega (arith, past, length-append lists (taken_list [] ∷ [])))) out);
}

pub forks : (pass : ℕ) (v : TicketList) → Forks AreTickets pass v v (taken_list [])
forks pass v queue lists h at = subst (λ (l : List TicketList). AreTickets queue (l ++ taken_list [] ∷ [])) (sym (set_again lists pass v at)) (admits queue lists h)

-- ---- what passes learn

pub at_most_posted : (pass : ℕ) (v : TicketList) → v.posts ≡ true → Learns AreTickets pass v (HasAtMost v)
at_most_posted pass v may queue lists h at =
    omega (arith, ap (λ (l : TicketList). length l.tickets) (posted_is queue lists h pass v at may).1, ap length h.in_order, length-append (map ticket_in h.takings) queue)

pub had_queue : (pass : ℕ) (v : TicketList) → Learns AreTickets pass v (HadQueue v)
had_queue pass v queue lists h at = (lists, pass, h, at)
