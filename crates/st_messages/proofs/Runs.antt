-- What runs of calls on messages preserve.
use Rattle.std.proofs.Common.{◌≡◌, ◌≢◌, ℕ, ◌<◌, Bool, Option, Some, None, inl, inr, refl, ap, sym, ◌∙◌, arith}
use Rattle.std.proofs.lemmas.Bool.{cases_eq, eq-eqb, ne_eqb}
use Rattle.std.proofs.lemmas.Option.{same_Some}
use Rattle.std.specs.Option.{option_map}
use Rattle.st_messages.specs.declared.message.MsgState.TheVariants.{Waiting, Claimed}
use Rattle.st_messages.specs.declared.message.Message.{Message}
use Rattle.st_messages.specs.Laws.{ClaimsGoUp, DeadDrawingsStay, KeptAreStale, LeadsTo, Stays, Posts, Moves, Renews, Cancels, LetsGo, RenewedAreStale}
use Rattle.st_messages.specs.Messages.{HeldCalls, is_claimed_state, message_of_drawing, next_seq, calls_after_cancel, calls_after_renew_of, HasEnded}
use Rattle.st_messages.proofs.Whole.{ended-cancelled, ended-moved, ended-posted, has_ended, states_moved, waiting_live}

ended-renewed : (calls : HeldCalls) (other : ℕ) (keeps : Bool) (o : Option Message) (drawing : ℕ) → HasEnded calls drawing → HasEnded (calls_after_renew_of calls other keeps o) drawing
ended-renewed calls other keeps None drawing ended = ended
ended-renewed calls other keeps (Some message) drawing ended = ended-posted (calls_after_cancel calls other keeps) message.tid (next_seq calls) drawing (ended-cancelled calls other keeps drawing ended)

stays_ended : (drawing : ℕ) (old new : HeldCalls) → HasEnded old drawing → LeadsTo old new → HasEnded new drawing
stays_ended drawing old new ended Stays = ended
stays_ended drawing old new ended (Posts {calls = calls} tid before) = ended-posted calls tid (next_seq calls) drawing (stays_ended drawing old calls ended before)
stays_ended drawing old new ended (Moves {calls = calls} other state before) = ended-moved calls other state drawing (stays_ended drawing old calls ended before)
stays_ended drawing old new ended (Renews {calls = calls} other keeps before) = ended-renewed calls other keeps (message_of_drawing calls other) drawing (stays_ended drawing old calls ended before)
stays_ended drawing old new ended (Cancels {calls = calls} other keeps before) = ended-cancelled calls other keeps drawing (stays_ended drawing old calls ended before)
stays_ended drawing old new ended (LetsGo {calls = calls} other before) = stays_ended drawing old calls ended before

no_message : (o : Option Message) → option_map (λ (message : Message). message.state) o ≡ None → o ≡ None
no_message None is = refl
no_message (Some m) is = cc

pub dead_drawings_stay : DeadDrawingsStay
dead_drawings_stay old new drawing given none leads =
    ap (option_map (λ (message : Message). message.state)) (stays_ended drawing old new (given, no_message (message_of_drawing old drawing) none) leads).1

renewed_stale : (calls : HeldCalls) (drawing : ℕ) (keeps : Bool) (o : Option Message) → message_of_drawing calls drawing ≡ o → drawing < calls.next → message_of_drawing (calls_after_renew_of calls drawing keeps o) drawing ≡ None
renewed_stale calls drawing keeps None is given = is
renewed_stale calls drawing keeps (Some message) is given = (ended-posted (calls_after_cancel calls drawing keeps) message.tid (next_seq calls) drawing (has_ended calls drawing keeps given)).1

pub renewed_are_stale : RenewedAreStale
renewed_are_stale calls drawing keeps given = ap (λ (o : Option Message). is_claimed_state (option_map (λ (message : Message). message.state) o)) (renewed_stale calls drawing keeps (message_of_drawing calls drawing) refl given)

pub kept_are_stale : KeptAreStale
kept_are_stale calls drawing whole kept = ap (λ (o : Option Message). is_claimed_state (option_map (λ (message : Message). message.state) o)) (whole.ended drawing kept).1

apart : (worker : ℕ) → Claimed worker ≢ Waiting
apart worker is = cc

pub claims_go_up : ClaimsGoUp
claims_go_up calls first second worker least next =
    let states = states_moved calls first (Claimed worker) (waiting_live calls first least.waiting) second in
    elim (cases_eq second first) [
      | inl e ↦ absurd (apart worker (same_Some (Claimed worker) Waiting (sym (states ∙ rw (eq-eqb second first e) refl) ∙ next.waiting)))
      | inr ne ↦ omega (arith, ne, least.least second (sym (states ∙ rw (ne_eqb second first ne) refl) ∙ next.waiting))
    ]
