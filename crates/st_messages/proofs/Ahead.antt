-- The numbers that are known to be free stay so after each call.
use Rattle.std.proofs.Common.{◌≡◌, ℕ, ◌<◌, ◌≤◌, Bool, true, Some, inl, inr, ap, sym, subst, arith}
use Rattle.st_messages.specs.Circle.{AreFreeAhead}
use Rattle.st_messages.specs.declared.message.Message.{Message}
use Rattle.st_messages.specs.declared.message.MsgState.{MsgState}
use Rattle.st_messages.specs.Messages.{HeldCalls, calls_after_cancel, calls_after_let_go, calls_after_post_as, calls_after_renew, calls_after_renew_of, is_kept, message_of_drawing, next_seq, seq_of, seqs_in_use, with_state, AreValidCalls}
use Rattle.st_messages.proofs.CircleSearch.{at, not_back}
use Rattle.st_messages.proofs.OwnValues.{had_with, had_without}
use Rattle.st_messages.proofs.Seqs.{seqs_in-moved, seqs_let_go, seqs_posted, stays_free}
use Rattle.st_messages.proofs.Whole.{had_seq, whole-cancelled, whole-let_go}

-- so many numbers after the last one of calls are free
abbrev pub AreAhead : ℕ → HeldCalls → Type 0
AreAhead ahead calls = AreFreeAhead calls.greatest (seqs_in_use calls) calls.last ahead

-- what is free ahead stays so, if each drawing that has such a number now had it
ahead_stays : (old new : HeldCalls) (last ahead : ℕ) → AreValidCalls new → ((drawing steps : ℕ) → steps < ahead → seq_of new drawing ≡ Some (at old.greatest last steps) → seq_of old drawing ≡ Some (at old.greatest last steps))
    → AreFreeAhead old.greatest (seqs_in_use old) last ahead → AreFreeAhead old.greatest (seqs_in_use new) last ahead
ahead_stays old new last ahead whole had free = record {
  some = free.some;
  free = λ steps below. stays_free old new (at old.greatest last steps) whole (λ drawing. had drawing steps below) (free.free steps below);
}

module _ (calls : HeldCalls) (ahead : ℕ) where
  pub ahead_moved : (drawing : ℕ) (state : MsgState) → AreAhead ahead calls → AreAhead ahead (with_state calls drawing state)
  ahead_moved drawing state free = subst (λ used. AreFreeAhead calls.greatest used calls.last ahead) (sym (seqs_in-moved calls.live calls.kept drawing state)) free

  pub ahead_cancelled : (drawing : ℕ) (keeps : Bool) (m : Message) (last : ℕ) → AreValidCalls calls → message_of_drawing calls drawing ≡ Some m
      → AreFreeAhead calls.greatest (seqs_in_use calls) last ahead → AreFreeAhead calls.greatest (seqs_in_use (calls_after_cancel calls drawing keeps)) last ahead
  ahead_cancelled drawing keeps m last whole is =
      ahead_stays calls (calls_after_cancel calls drawing keeps) last ahead (whole-cancelled calls drawing keeps m whole is) (λ other steps below. had_seq calls drawing keeps m whole is other (at calls.greatest last steps))

  pub ahead_let_go : (drawing : ℕ) → AreValidCalls calls → is_kept calls drawing ≡ true → AreAhead ahead calls → AreAhead ahead (calls_after_let_go calls drawing)
  ahead_let_go drawing whole kept =
      ahead_stays calls (calls_after_let_go calls drawing) calls.last ahead (whole-let_go calls drawing whole kept)
      (λ other steps below has. (had_without drawing other (at calls.greatest calls.last steps) _ _ (seqs_let_go calls drawing whole kept other) has).1)

  pub ahead_posted : (tid seq : ℕ) → AreValidCalls calls → AreValidCalls (calls_after_post_as calls tid seq) → seq ≤ calls.greatest → AreFreeAhead calls.greatest (seqs_in_use calls) seq ahead → AreAhead ahead (calls_after_post_as calls tid seq)
  ahead_posted tid seq whole whole_new within free =
      ahead_stays calls (calls_after_post_as calls tid seq) seq ahead whole_new (λ other steps below has. elim (had_with calls.next other seq (at calls.greatest seq steps) _ _ (seqs_posted calls tid seq whole other) has) [
        | inl fresh ↦ absurd (not_back calls.greatest seq steps within (omega (arith, below, free.some)) (sym fresh.1))
        | inr old ↦ old
      ]) free

pub ahead_renewed : (calls : HeldCalls) (ahead drawing : ℕ) (keeps : Bool) (m : Message) → AreValidCalls calls → AreValidCalls (calls_after_renew calls drawing keeps) → message_of_drawing calls drawing ≡ Some m → next_seq calls ≤ calls.greatest
    → AreFreeAhead calls.greatest (seqs_in_use calls) (next_seq calls) ahead → AreAhead ahead (calls_after_renew calls drawing keeps)
ahead_renewed calls ahead drawing keeps m whole whole_new is within free =
    let renewed = ap (calls_after_renew_of calls drawing keeps) is in
    subst (AreAhead ahead) (sym renewed) (
    ahead_posted (calls_after_cancel calls drawing keeps) ahead m.tid (next_seq calls) (whole-cancelled calls drawing keeps m whole is) (subst AreValidCalls renewed whole_new) within
    (ahead_cancelled calls ahead drawing keeps m (next_seq calls) whole is free)
    )
