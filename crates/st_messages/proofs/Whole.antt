-- How far each number has come after a call changed one, and that the invariants of held calls are preserved.
use Rattle.std.proofs.Common.{◌≡◌, ◌≢◌, ℕ, ◌<◌, ◌≤◌, Bool, true, false, cond, not, ◌==◌, [], ◌∷◌, ◌++◌, length, Option, Some, None, inl, inr, refl, ap, sym, ◌∙◌, subst, arith, length-append}
use Rattle.std.proofs.lemmas.Bool.{cases_eq, eq-eqb, ne_eqb, true≢false}
use Rattle.std.proofs.lemmas.List.Sums.{count_by-le-length, length-filter}
use Rattle.std.proofs.lemmas.Option.{none-some, same_Some}
use Rattle.std.specs.List.{find}
use Rattle.std.specs.Option.{option_map}
use Rattle.std.specs.Prelude.{is_some}
use Rattle.st_messages.specs.declared.message.MsgState.{MsgState}
use Rattle.st_messages.specs.declared.message.MsgState.TheVariants.{Waiting, Claimed}
use Rattle.st_messages.specs.declared.message.Message.{Message}
use Rattle.st_messages.specs.Messages.{HeldCalls, count_in_use, is_in_use, is_kept, is_kept_of, is_live_drawing, is_message_of, kept_in, kept_of_message, message_in, message_of_drawing, message_state, most_in_use, next_seq, seq_of, seqs_in_use, thread_of_drawing, waiting_message, with_state, calls_after_cancel, calls_after_let_go, calls_after_post_as, calls_after_renew, calls_after_renew_of, is_unclaimed, AreKeptOnce, ChangesState, HasEnded, HasNoDrawing, IsInCircle, IsLeastWaiting, IsWaiting, AreValidCalls, HasWorker, RenewsSeq, RenewsState, ChangesKept}
use Rattle.st_messages.proofs.CircleSearch.{filter_shorter, first_is_free}
use Rattle.st_messages.proofs.Lookups.{found_moved, found_other, found_posted, found_without, kept_without, moved}
use Rattle.st_messages.proofs.Ordered.{between-moved, between-posted, between-without, first_waits, found_below, none_later}
use Rattle.st_messages.proofs.OwnValues.{had_with, had_without, own-same, own-with, own-without}
use Rattle.st_messages.proofs.Seqs.{field_moved, kept_now, left_there, length_kept, length_moved, length_seqs, live_not_kept, number, once-kept, once-without, seq_in_use, seqs_cancelled, seqs_let_go, seqs_moved, seqs_posted, some_any, kept_cancelled}

under_cond : {A B : Type 0} (f : A → B) (b : Bool) (x y : A) → f (cond b x y) ≡ cond b (f x) (f y)
under_cond f true x y = refl
under_cond f false x y = refl

abbrev state_of : Option Message → Option MsgState
state_of o = option_map (λ (message : Message). message.state) o

abbrev thread_of : Option Message → Option ℕ
thread_of o = option_map (λ (message : Message). message.tid) o

state_moved : (o : Option Message) (state : MsgState) → is_some o ≡ true → state_of (option_map (moved state) o) ≡ Some state
state_moved None state is = absurd (true≢false (sym is))
state_moved (Some m) state is = refl

pub live_message : (calls : HeldCalls) (drawing : ℕ) → is_live_drawing calls drawing ≡ true → (m : Message) × (message_of_drawing calls drawing ≡ Some m)
live_message calls drawing live = by (message_of_drawing calls drawing) refl where
  by : (o : Option Message) → message_of_drawing calls drawing ≡ o → (m : Message) × (message_of_drawing calls drawing ≡ Some m)
  by None o_is = absurd (true≢false (sym live ∙ ap is_some o_is))
  by (Some m) o_is = (m, o_is)

-- ---- a drawing that has ended stays so

both_none : {X : Type 0} (b : Bool) (o : Option X) → o ≡ None → cond b None o ≡ None
both_none true o is = refl
both_none false o is = is

pub ended-moved : (calls : HeldCalls) (other : ℕ) (state : MsgState) (drawing : ℕ) → HasEnded calls drawing → HasEnded (with_state calls other state) drawing
ended-moved calls other state drawing ended = (
  ended.0,
  found_moved calls.live other drawing state ∙ elim (cases_eq drawing other) [
    | inl e ↦ rw (eq-eqb drawing other e) (ap (λ o. option_map (moved state) (message_in calls.live o)) (sym e) ∙ ap (option_map (moved state)) ended.1)
    | inr ne ↦ rw (ne_eqb drawing other ne) ended.1
  ],
)

pub ended-cancelled : (calls : HeldCalls) (other : ℕ) (keeps : Bool) (drawing : ℕ) → HasEnded calls drawing → HasEnded (calls_after_cancel calls other keeps) drawing
ended-cancelled calls other keeps drawing ended = (ended.0, found_without calls.live other drawing ∙ both_none (drawing == other) (message_of_drawing calls drawing) ended.1)

pub ended-posted : (calls : HeldCalls) (tid seq drawing : ℕ) → HasEnded calls drawing → HasEnded (calls_after_post_as calls tid seq) drawing
ended-posted calls tid seq drawing ended = (omega (arith, ended.0), found_other calls.live calls.next seq tid drawing (λ e. omega (arith, e, ended.0)) ∙ ended.1)

-- a drawing that is cancelled has ended
pub has_ended : (calls : HeldCalls) (drawing : ℕ) (keeps : Bool) → drawing < calls.next → HasEnded (calls_after_cancel calls drawing keeps) drawing
has_ended calls drawing keeps given = (given, found_without calls.live drawing drawing ∙ rw (eq-eqb drawing drawing refl) refl)

-- ---- a message has another state

module _ (calls : HeldCalls) (drawing : ℕ) (state : MsgState) where
  pub states_moved : is_live_drawing calls drawing ≡ true → ChangesState calls drawing (Some state) (with_state calls drawing state)
  states_moved live other =
      ap state_of (found_moved calls.live drawing other state) ∙ under_cond state_of (other == drawing) _ _ ∙ ap (λ (s : Option MsgState). cond (other == drawing) s (message_state calls other)) (state_moved (message_of_drawing calls drawing) state live)

  pub threads_moved : (other : ℕ) → thread_of_drawing (with_state calls drawing state) other ≡ thread_of_drawing calls other
  threads_moved other = field_moved (λ (message : Message). message.tid) (λ m state. refl) calls.live drawing other state

  pub whole-moved : AreValidCalls calls → is_live_drawing calls drawing ≡ true → ((worker : ℕ) → state ≡ Claimed worker → HasWorker calls worker) → AreValidCalls (with_state calls drawing state)
  whole-moved whole live worker_is = record {
    ordered = between-moved calls.live drawing state 1 calls.next whole.ordered;
    threads = own-same (thread_of_drawing calls) (thread_of_drawing (with_state calls drawing state)) threads_moved whole.threads;
    workers = λ other worker is. elim (cases_eq other drawing) [
      | inl e ↦ worker_is worker (same_Some state (Claimed worker) (sym (states_moved live other ∙ rw (eq-eqb other drawing e) refl) ∙ is))
      | inr ne ↦ whole.workers other worker (sym (states_moved live other ∙ rw (ne_eqb other drawing ne) refl) ∙ is)
    ];
    seqs = own-same (seq_of calls) (seq_of (with_state calls drawing state)) (seqs_moved calls drawing state) whole.seqs;
    circle = λ other seq is. whole.circle other seq (sym (seqs_moved calls drawing state other) ∙ is);
    last = whole.last;
    once = whole.once;
    ended = λ other kept. ended-moved calls drawing state other (whole.ended other kept);
    few = omega (arith, whole.few, length_moved calls.live drawing state);
    many = whole.many;
  }

-- ---- a message is removed

module _ (calls : HeldCalls) (drawing : ℕ) (keeps : Bool) where
  abbrev left : HeldCalls
  left = calls_after_cancel calls drawing keeps

  pub states_cancelled : ChangesState calls drawing None left
  states_cancelled other = ap state_of (found_without calls.live drawing other) ∙ under_cond state_of (other == drawing) None (message_of_drawing calls other)

  pub threads_cancelled : (other : ℕ) → thread_of_drawing left other ≡ cond (other == drawing) None (thread_of_drawing calls other)
  threads_cancelled other = ap thread_of (found_without calls.live drawing other) ∙ under_cond thread_of (other == drawing) None (message_of_drawing calls other)

  -- the thread has no number left
  pub cancelled_none : (tid : ℕ) → AreValidCalls calls → thread_of_drawing calls drawing ≡ Some tid → HasNoDrawing left tid
  cancelled_none tid whole is other other_is =
      let had = had_without drawing other tid _ _ (threads_cancelled other) other_is in
      had.0 (whole.threads other drawing tid had.1 is)

module _ (calls : HeldCalls) (drawing : ℕ) (keeps : Bool) (m : Message) (whole : AreValidCalls calls) (is : message_of_drawing calls drawing ≡ Some m) where
  abbrev left_of : HeldCalls
  left_of = calls_after_cancel calls drawing keeps

  -- what has a number afterwards had it before
  pub had_seq : (other seq : ℕ) → seq_of left_of other ≡ Some seq → seq_of calls other ≡ Some seq
  had_seq other seq has = elim (cases_eq other drawing) [
    | inl e ↦ by keeps refl e
    | inr ne ↦ sym (seqs_cancelled calls drawing keeps m whole is other ∙ rw (ne_eqb other drawing ne) refl) ∙ has
  ] where
    by : (b : Bool) → keeps ≡ b → other ≡ drawing → seq_of calls other ≡ Some seq
    by false b_is e = absurd (none-some seq (sym (seqs_cancelled calls drawing keeps m whole is other ∙ rw (eq-eqb other drawing e, b_is) refl) ∙ has))
    by true b_is e = ap (seq_of calls) e ∙ sym (seqs_cancelled calls drawing keeps m whole is other ∙ rw (eq-eqb other drawing e, b_is) refl) ∙ has

  -- what is kept afterwards was kept before, or is of the drawing that has ended
  kept_had : (other : ℕ) → is_some (kept_in (kept_now calls drawing keeps m whole is) other) ≡ true → HasEnded left_of other
  kept_had other some = elim (cases_eq other drawing) [
    | inl e ↦ subst (HasEnded left_of) (sym e) (has_ended calls drawing keeps (found_below calls.live 1 calls.next drawing m whole.ordered is))
    | inr ne ↦ ended-cancelled calls drawing keeps other (whole.ended other (sym (ap is_some (left_there calls drawing keeps m whole is other ne)) ∙ some))
  ]

  -- no more numbers are in use than before
  pub no_more : count_in_use left_of ≤ count_in_use calls
  no_more =
      let fewer = filter_shorter (is_message_of drawing) calls.live (sym (some_any (is_message_of drawing) calls.live) ∙ ap is_some is) in
      let kept = ap (λ o. length (calls.kept ++ kept_of_message keeps o)) is ∙ length-append calls.kept (kept_of_message keeps (Some m)) in
      omega (arith, fewer, kept, length_kept keeps m)

  pub whole-cancelled : AreValidCalls left_of
  whole-cancelled = record {
    ordered = between-without calls.live drawing 1 calls.next whole.ordered;
    threads = own-without (thread_of_drawing calls) (thread_of_drawing left_of) drawing (threads_cancelled calls drawing keeps) whole.threads;
    workers = λ other worker has. whole.workers other worker (had_without drawing other (Claimed worker) _ _ (states_cancelled calls drawing keeps other) has).1;
    seqs = λ a b seq a_is b_is. whole.seqs a b seq (had_seq a seq a_is) (had_seq b seq b_is);
    circle = λ other seq has. whole.circle other seq (had_seq other seq has);
    last = whole.last;
    once = subst (λ o. AreKeptOnce (calls.kept ++ kept_of_message keeps o)) (sym is) (once-kept calls.kept keeps m (ap (kept_in calls.kept) (number calls drawing keeps m whole is) ∙ live_not_kept calls drawing m whole is) whole.once);
    ended = λ other some. kept_had other (subst (λ o. is_some (kept_in (calls.kept ++ kept_of_message keeps o) other) ≡ true) is some);
    few = omega (arith, whole.few, no_more);
    many = whole.many;
  }

-- ---- a message is appended

pub next_none : (calls : HeldCalls) → AreValidCalls calls → message_of_drawing calls calls.next ≡ None
next_none calls whole = none_later calls.live 1 calls.next calls.next whole.ordered (omega arith)

-- the number that is drawn next is one of the circle, and no drawing has it
pub next_free : (calls : HeldCalls) → AreValidCalls calls → count_in_use calls ≤ most_in_use → IsInCircle calls (next_seq calls) × (is_in_use calls (next_seq calls) ≡ false)
next_free calls whole few =
    let free = first_is_free calls.greatest calls.last whole.last (seqs_in_use calls) (omega (arith, length_seqs calls.live calls.kept, few, whole.many)) in
    ((free.0, free.1), free.2)

pub next_is_nobodys : (calls : HeldCalls) → AreValidCalls calls → count_in_use calls ≤ most_in_use → (other : ℕ) → seq_of calls other ≢ Some (next_seq calls)
next_is_nobodys calls whole few other is = true≢false (sym (seq_in_use calls other (next_seq calls) is) ∙ (next_free calls whole few).1)

module _ (calls : HeldCalls) (tid seq : ℕ) (whole : AreValidCalls calls) where
  abbrev with_it : HeldCalls
  with_it = calls_after_post_as calls tid seq

  pub states_posted : ChangesState calls calls.next (Some Waiting) with_it
  states_posted other = ap state_of (found_posted calls.live calls.next seq tid other (next_none calls whole)) ∙ under_cond state_of (other == calls.next) (Some (waiting_message calls.next seq tid)) (message_of_drawing calls other)

  pub threads_posted : (other : ℕ) → thread_of_drawing with_it other ≡ cond (other == calls.next) (Some tid) (thread_of_drawing calls other)
  threads_posted other = ap thread_of (found_posted calls.live calls.next seq tid other (next_none calls whole)) ∙ under_cond thread_of (other == calls.next) (Some (waiting_message calls.next seq tid)) (message_of_drawing calls other)

  pub whole-posted : HasNoDrawing calls tid → IsInCircle calls seq → ((other : ℕ) → seq_of calls other ≢ Some seq) → count_in_use calls ≤ most_in_use → AreValidCalls with_it
  whole-posted none circle free few = record {
    ordered = between-posted calls.live seq tid 1 calls.next whole.ordered;
    threads = own-with (thread_of_drawing calls) (thread_of_drawing with_it) calls.next tid threads_posted none whole.threads;
    workers = λ other worker is. elim (cases_eq other calls.next) [
      | inl e ↦ absurd (apart worker (same_Some Waiting (Claimed worker) (sym (states_posted other ∙ rw (eq-eqb other calls.next e) refl) ∙ is)))
      | inr ne ↦ whole.workers other worker (sym (states_posted other ∙ rw (ne_eqb other calls.next ne) refl) ∙ is)
    ];
    seqs = own-with (seq_of calls) (seq_of with_it) calls.next seq (seqs_posted calls tid seq whole) free whole.seqs;
    circle = λ other n is. elim (had_with calls.next other seq n _ _ (seqs_posted calls tid seq whole other) is) [
      | inl new ↦ subst (IsInCircle calls) new.1 circle
      | inr old ↦ whole.circle other n old
    ];
    last = circle.1;
    once = whole.once;
    ended = λ other kept. ended-posted calls tid seq other (whole.ended other kept);
    few = omega (arith, few, length-append calls.live (waiting_message calls.next seq tid ∷ []));
    many = whole.many;
  } where
    apart : (worker : ℕ) → Waiting ≡ Claimed worker → ⊥
    apart worker is = cc

-- ---- a message is removed, and its call is posted again

module _ (calls : HeldCalls) (drawing : ℕ) (keeps : Bool) (whole : AreValidCalls calls) (few : count_in_use calls ≤ most_in_use) (message : Message) (is : message_of_drawing calls drawing ≡ Some message) where
  abbrev ended_of : HeldCalls
  ended_of = calls_after_cancel calls drawing keeps

  whole_ended : AreValidCalls ended_of
  whole_ended = whole-cancelled calls drawing keeps message whole is

  renewed : calls_after_renew calls drawing keeps ≡ calls_after_post_as ended_of message.tid (next_seq calls)
  renewed = ap (calls_after_renew_of calls drawing keeps) is

  pub whole-renewed : AreValidCalls (calls_after_renew calls drawing keeps)
  whole-renewed =
      subst AreValidCalls (sym renewed) (
      whole-posted ended_of message.tid (next_seq calls) whole_ended (cancelled_none calls drawing keeps message.tid whole (ap thread_of is)) (next_free calls whole few).0
      (λ other has. next_is_nobodys calls whole few other (had_seq calls drawing keeps message whole is other (next_seq calls) has))
      (omega (arith, few, no_more calls drawing keeps message whole is))
      )

  pub states_renewed : RenewsState calls drawing calls.next (calls_after_renew calls drawing keeps)
  states_renewed other =
      ap (λ (new : HeldCalls). message_state new other) renewed
      ∙ states_posted ended_of message.tid (next_seq calls) whole_ended other
      ∙ ap (λ (s : Option MsgState). cond (other == calls.next) (Some Waiting) s) (states_cancelled calls drawing keeps other)

  pub seqs_renewed : RenewsSeq calls drawing keeps (calls_after_renew calls drawing keeps)
  seqs_renewed other =
      ap (λ (new : HeldCalls). seq_of new other) renewed
      ∙ seqs_posted ended_of message.tid (next_seq calls) whole_ended other
      ∙ ap (λ (s : Option ℕ). cond (other == calls.next) (Some (next_seq calls)) s) (seqs_cancelled calls drawing keeps message whole is other)

  pub kept_renewed : ChangesKept calls drawing keeps (calls_after_renew calls drawing keeps)
  kept_renewed other = ap (λ (new : HeldCalls). is_kept new other) renewed ∙ kept_cancelled calls drawing keeps message whole is other

  pub thread_renewed : thread_of_drawing (calls_after_renew calls drawing keeps) calls.next ≡ thread_of_drawing calls drawing
  thread_renewed =
      ap (λ (new : HeldCalls). thread_of_drawing new calls.next) renewed
      ∙ threads_posted ended_of message.tid (next_seq calls) whole_ended calls.next
      ∙ rw (eq-eqb calls.next calls.next refl) (sym (ap thread_of is))

-- ---- a number is let go

module _ (calls : HeldCalls) (drawing : ℕ) (whole : AreValidCalls calls) (kept : is_kept calls drawing ≡ true) where
  abbrev let_go : HeldCalls
  let_go = calls_after_let_go calls drawing

  kept_before : (other : ℕ) → is_kept let_go other ≡ true → is_kept calls other ≡ true
  kept_before other some = elim (cases_eq other drawing) [
    | inl e ↦ ap (is_kept calls) e ∙ kept
    | inr ne ↦ sym (ap is_some (kept_without calls.kept drawing other ∙ rw (ne_eqb other drawing ne) refl)) ∙ some
  ]

  pub whole-let_go : AreValidCalls let_go
  whole-let_go = record {
    ordered = whole.ordered;
    threads = whole.threads;
    workers = whole.workers;
    seqs = own-without (seq_of calls) (seq_of let_go) drawing (seqs_let_go calls drawing whole kept) whole.seqs;
    circle = λ other seq is. whole.circle other seq (had_without drawing other seq _ _ (seqs_let_go calls drawing whole kept other) is).1;
    last = whole.last;
    once = once-without calls.kept drawing whole.once;
    ended = λ other some. whole.ended other (kept_before other some);
    few = omega (arith, whole.few, length-filter (λ number. not (is_kept_of drawing number)) calls.kept, count_by-le-length (λ number. not (is_kept_of drawing number)) calls.kept);
    many = whole.many;
  }

-- ---- the message that is claimed

pub least_waiting : (calls : HeldCalls) (first : Message) → AreValidCalls calls → find is_unclaimed calls.live ≡ Some first → IsLeastWaiting calls first.drawing
least_waiting calls first whole is =
    let least = (first_waits calls.live 1 calls.next first whole.ordered is).1 in
    record { waiting = ap state_of least.found ∙ ap Some least.waits; least = least.least }

pub waiting_live : (calls : HeldCalls) (drawing : ℕ) → IsWaiting calls drawing → is_live_drawing calls drawing ≡ true
waiting_live calls drawing is = by (message_of_drawing calls drawing) is where
  by : (o : Option Message) → state_of o ≡ Some Waiting → is_some o ≡ true
  by None is = absurd (none-some Waiting is)
  by (Some m) is = refl
