-- How many numbers are in use at most: live ones are of different threads, kept ones of different drawings.
use Rattle.std.proofs.Common.{zero, suc, ◌≡◌, ◌≢◌, ℕ, ◌+◌, ◌<◌, ◌≤◌, true, List, [], ◌∷◌, length, get_or, Some, refl, ap, sym, ◌∙◌, arith}
use Rattle.std.proofs.lemmas.Bool.{eq-eqb, true≢false}
use Rattle.std.proofs.lemmas.List.{get_or_default}
use Rattle.std.proofs.lemmas.List.Folds.{list_any_at}
use Rattle.std.specs.Option.{option_map}
use Rattle.std.specs.Prelude.{is_some}
use Rattle.st_messages.specs.Circle.{is_among}
use Rattle.st_messages.specs.declared.kept.KeptNumber.{KeptNumber}
use Rattle.st_messages.specs.declared.message.Message.{Message}
use Rattle.st_messages.specs.Messages.{HeldCalls, count_in_use, is_kept, is_kept_of, kept_in, thread_of_drawing, waiting_message, AreKeptOnce, AreValidCalls}
use Rattle.st_messages.proofs.CircleSearch.{covered}
use Rattle.st_messages.proofs.Lookups.{found_there}
use Rattle.st_messages.proofs.Ordered.{drawings_go_up}
use Rattle.st_messages.proofs.Seqs.{some_any}

module _ (calls : HeldCalls) (whole : AreValidCalls calls) (tids : List ℕ) (has : (drawing tid : ℕ) → thread_of_drawing calls drawing ≡ Some tid → is_among tids tid ≡ true) where
  abbrev message_at : ℕ → Message
  message_at k = get_or calls.live k (waiting_message 0 0 0)

  thread_at : (k : ℕ) → k < length calls.live → thread_of_drawing calls (message_at k).drawing ≡ Some (message_at k).tid
  thread_at k inside =
      ap (option_map (λ (message : Message). message.tid)) (found_there calls.live 1 calls.next k (message_at k) whole.ordered inside (get_or_default calls.live k (waiting_message 0 0 0) (message_at k) inside))

  live_count : length calls.live ≤ length tids
  live_count =
      covered (λ k. (message_at k).tid) (length calls.live) tids
      (λ i k less inside same.
      let one = whole.threads (message_at i).drawing (message_at k).drawing (message_at k).tid (thread_at i (omega (arith, less, inside)) ∙ ap Some same) (thread_at k inside) in
      omega (arith, one, drawings_go_up calls.live 1 calls.next k i (waiting_message 0 0 0) whole.ordered inside less)
      )
      (λ k inside. has (message_at k).drawing (message_at k).tid (thread_at k inside))

abbrev none : KeptNumber
none = record { drawing = 0; seq = 0 }

-- a number is found under the drawing of any of them
kept_at : (kept : List KeptNumber) (k : ℕ) → k < length kept → is_some (kept_in kept (get_or kept k none).drawing) ≡ true
kept_at kept k inside =
    some_any (is_kept_of (get_or kept k none).drawing) kept ∙ list_any_at (is_kept_of (get_or kept k none).drawing) kept k none inside (eq-eqb (get_or kept k none).drawing (get_or kept k none).drawing refl)

once_apart : (kept : List KeptNumber) (i k : ℕ) → AreKeptOnce kept → i < k → k < length kept → (get_or kept i none).drawing ≢ (get_or kept k none).drawing
once_apart [] i k once less inside same = omega (arith, inside)
once_apart (x ∷ kept) i zero once less inside same = omega (arith, less)
once_apart (x ∷ kept) zero (suc k) once less inside same =
    true≢false (sym (ap (λ q. is_some (kept_in kept q)) same ∙ kept_at kept k (omega (arith, inside))) ∙ ap is_some once.0)
once_apart (x ∷ kept) (suc i) (suc k) once less inside same = once_apart kept i k once.1 (omega (arith, less)) (omega (arith, inside)) same

module _ (calls : HeldCalls) (whole : AreValidCalls calls) (drawings : List ℕ) (has : (drawing : ℕ) → is_kept calls drawing ≡ true → is_among drawings drawing ≡ true) where
  kept_count : length calls.kept ≤ length drawings
  kept_count =
      covered (λ k. (get_or calls.kept k none).drawing) (length calls.kept) drawings (λ i k less inside. once_apart calls.kept i k whole.once less inside)
      (λ k inside. has (get_or calls.kept k none).drawing (kept_at calls.kept k inside))

-- no more numbers are in use than there are threads with live messages and drawings whose numbers are kept, by any lists of these
pub count_at_most : (calls : HeldCalls) → AreValidCalls calls → (tids drawings : List ℕ) → ((drawing tid : ℕ) → thread_of_drawing calls drawing ≡ Some tid → is_among tids tid ≡ true)
    → ((drawing : ℕ) → is_kept calls drawing ≡ true → is_among drawings drawing ≡ true) → count_in_use calls ≤ length tids + length drawings
count_at_most calls whole tids drawings threads kept = omega (arith, live_count calls whole tids threads, kept_count calls whole drawings kept)
