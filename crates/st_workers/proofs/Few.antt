-- Few numbers are in use: one for each thread that holds a call, and one for each worker that is ready.
use Rattle.std.proofs.Common.{◌≡◌, ◌≢◌, ℕ, zero, suc, ◌≤◌, Bool, true, false, cond, ◌==◌, List, [], ◌∷◌, length, map, Option, Some, None, inl, inr, refl, ap, sym, ◌∙◌, subst, arith}
use Rattle.std.proofs.lemmas.Bool.{cases_eq, eq-eqb, eqb-true, ne_eqb, or_left, or_right}
use Rattle.std.proofs.lemmas.List.{length-map}
use Rattle.std.proofs.lemmas.List.FromFn.{length-range_with_len}
use Rattle.std.proofs.lemmas.Option.{none-some, same_Some}
use Rattle.std.specs.List.{find, list_any, range_with_len}
use Rattle.std.specs.Option.{option_map}
use Rattle.std.specs.Prelude.{is_some, slice_get}
use Rattle.st_base.specs.Numbered.{item_at_number}
use Rattle.st_messages.specs.declared.kept.KeptNumber.{KeptNumber}
use Rattle.st_messages.specs.declared.message.Message.{Message}
use Rattle.st_messages.specs.Messages.{count_in_use, is_message_of, message_in, most_in_use, thread_of_drawing, AreBetween, AreKeptOnce, HeldCalls}
use Rattle.st_messages.proofs.Ordered.{found_itself}
use Rattle.st_workers.specs.Numbers.{AreFew, AreNumbered, IsReadyWith}
use Rattle.st_workers.specs.UnderWay.{UnderWay}
use Rattle.st_workers.specs.declared.turn.Turn.{Turn}
use Rattle.st_workers.specs.declared.turn.Turn.TheVariants.{Idle, Ready, Working}
use Rattle.st_workers.proofs.Counts.{among_range, no_more_than, AreApart}

-- ---- the live messages

abbrev thread_in : List Message → ℕ → Option ℕ
thread_in live q = option_map (λ (message : Message). message.tid) (message_in live q)

-- a message that is found after the first one is found among all
module _ (m : Message) (live : List Message) (from to : ℕ) (are : AreBetween from (m ∷ live) to) where
  later_apart : (q tid : ℕ) → thread_in live q ≡ Some tid → (m.drawing == q) ≡ false
  later_apart q tid is = by (message_in live q) refl is where
    by : (o : Option Message) → message_in live q ≡ o → option_map (λ (message : Message). message.tid) o ≡ Some tid → (m.drawing == q) ≡ false
    by None o_is e = absurd (none-some tid e)
    by (Some x) o_is e =
        let its = found_itself (is_message_of q) live (suc m.drawing) to x are.1 o_is in
        let number : x.drawing ≡ q = eqb-true x.drawing q its.1 in
        ne_eqb m.drawing q (λ same. omega (arith, same, number, its.0))

  later_thread : (q tid : ℕ) → thread_in live q ≡ Some tid → thread_in (m ∷ live) q ≡ Some tid
  later_thread q tid is = rw (later_apart q tid is) is

  first_thread : thread_in (m ∷ live) m.drawing ≡ Some m.tid
  first_thread = rw (eq-eqb m.drawing m.drawing refl) refl

-- if each thread has one live message at most, no two live messages are of one thread
threads_apart : (live : List Message) (from to : ℕ) → AreBetween from live to → ((a b tid : ℕ) → thread_in live a ≡ Some tid → thread_in live b ≡ Some tid → a ≡ b) → AreApart (λ (m : Message). m.tid) live
threads_apart [] from to are own = tt
threads_apart (m ∷ live) from to are own = (
  by (find (λ (x : Message). x.tid == m.tid) live) refl,
  threads_apart live (suc m.drawing) to are.1 (λ a b tid a_is b_is. own a b tid (later_thread m live from to are a tid a_is) (later_thread m live from to are b tid b_is)),
) where
  by : (o : Option Message) → find (λ (x : Message). x.tid == m.tid) live ≡ o → o ≡ None
  by None o_is = refl
  by (Some x) o_is =
      let its = found_itself (λ (y : Message). y.tid == m.tid) live (suc m.drawing) to x are.1 o_is in
      let tid : x.tid ≡ m.tid = eqb-true x.tid m.tid its.1 in
      let there : thread_in live x.drawing ≡ Some m.tid = ap (option_map (λ (message : Message). message.tid)) its.2 ∙ ap Some tid in
      let same : x.drawing ≡ m.drawing = own x.drawing m.drawing m.tid (later_thread m live from to are x.drawing m.tid there) (first_thread m live from to are) in
      absurd (omega (arith, same, its.0))

-- there are at most 64 live messages
few_live : (calls : HeldCalls) → AreBetween 1 calls.live calls.next → ((a b tid : ℕ) → thread_of_drawing calls a ≡ Some tid → thread_of_drawing calls b ≡ Some tid → a ≡ b) → AreFew calls → length calls.live ≤ 64
few_live calls ordered own few =
    let less = no_more_than (λ (m : Message). m.tid) calls.live (range_with_len 1 64) (threads_apart calls.live 1 calls.next ordered own) (λ tid m found.
    let its = found_itself (λ (x : Message). x.tid == tid) calls.live 1 calls.next m ordered found in
    let range = few.threads m.drawing tid (ap (option_map (λ (message : Message). message.tid)) its.2 ∙ ap Some (eqb-true m.tid tid its.1)) in
    among_range 64 1 tid range.0 (omega (arith, range.1))) in
    omega (arith, less, length-range_with_len 1 64)

-- ---- the numbers that are kept

-- the drawing of a turn to answer; 0 of any other
abbrev drawing_of_turn : Turn → ℕ
drawing_of_turn Idle = 0
drawing_of_turn (Working q) = 0
drawing_of_turn (Ready q copies) = q

turn_listed : (turns : List Turn) (k q : ℕ) (t : Turn) → slice_get turns k ≡ Some t → drawing_of_turn t ≡ q → list_any (λ x. q == x) (map drawing_of_turn turns) ≡ true
turn_listed [] k q t is its = absurd (none-some t is)
turn_listed (x ∷ turns) zero q t is its = or_left (q == drawing_of_turn x) (list_any (λ y. q == y) (map drawing_of_turn turns)) (eq-eqb q (drawing_of_turn x) (sym (ap drawing_of_turn (same_Some x t is) ∙ its)))
turn_listed (x ∷ turns) (suc k) q t is its = or_right (q == drawing_of_turn x) (list_any (λ y. q == y) (map drawing_of_turn turns)) (turn_listed turns k q t is its)

item_listed : (turns : List Turn) (w q : ℕ) (t : Turn) → item_at_number turns w ≡ Some t → drawing_of_turn t ≡ q → list_any (λ x. q == x) (map drawing_of_turn turns) ≡ true
item_listed turns zero q t is its = absurd (none-some t is)
item_listed turns (suc k) q t is its = turn_listed turns k q t is its

kept_apart : (kept : List KeptNumber) → AreKeptOnce kept → AreApart (λ (k : KeptNumber). k.drawing) kept
kept_apart [] once = tt
kept_apart (k ∷ kept) once = (once.0, kept_apart kept once.1)

-- no more numbers are kept than there are workers
few_kept : (kept : UnderWay) → AreNumbered kept → length kept.calls.kept ≤ length kept.turns
few_kept kept numbered =
    let less = no_more_than (λ (k : KeptNumber). k.drawing) kept.calls.kept (map drawing_of_turn kept.turns) (kept_apart kept.calls.kept numbered.calls.once) (λ q k found.
    let ready : IsReadyWith kept q = numbered.ready q (ap (λ (o : Option KeptNumber). is_some o) found) in
    item_listed kept.turns ready.0 q (Ready q ready.1) ready.2 refl) in
    omega (arith, less, length-map kept.turns drawing_of_turn)

-- at most 72 numbers are in use
pub few_in_use : (kept : UnderWay) → AreNumbered kept → length kept.turns ≡ kept.calls.workers → AreFew kept.calls → count_in_use kept.calls ≤ most_in_use
few_in_use kept numbered count few =
    let live = few_live kept.calls numbered.calls.ordered numbered.calls.threads few in
    let ready = few_kept kept numbered in
    let workers = few.workers in
    omega (arith, live, ready, count, workers)

-- a call that is posted again is of the same thread
pub few_renewed : (old new : HeldCalls) (p : ℕ) → new.workers ≡ old.workers → ((q : ℕ) → q ≢ old.next → thread_of_drawing new q ≡ cond (q == p) None (thread_of_drawing old q)) → thread_of_drawing new old.next ≡ thread_of_drawing old p → AreFew old → AreFew new
few_renewed old new p workers others own few = record {
  threads = λ q tid is. elim (cases_eq q old.next) [
    | inl e ↦ few.threads p tid (sym own ∙ ap (thread_of_drawing new) (sym e) ∙ is)
    | inr ne ↦ by (q == p) q tid (sym (others q ne) ∙ is)
  ];
  workers = subst (λ n. n ≤ 8) (sym workers) few.workers;
} where
  by : (b : Bool) (q tid : ℕ) → cond b None (thread_of_drawing old q) ≡ Some tid → (1 ≤ tid) × (tid ≤ 64)
  by true q tid is = absurd (none-some tid is)
  by false q tid is = few.threads q tid is
