-- The held calls have the law's numbers after each call.
use Rattle.std.proofs.Common.{◌≡◌, ◌↔◌, ℕ, zero, suc, ◌≤◌, ◌==◌, ◌&&◌, ◌||◌, not, Bool, true, false, cond, Option, Some, None, refl, ap, sym, ◌∙◌, arith}
use Rattle.std.proofs.Math.Bool.{and-false, and-true}
use Rattle.std.proofs.lemmas.Bool.{eq-eqb, eqb-true, ne_eqb, true≢false}
use Rattle.std.proofs.lemmas.Option.{none-some, same_Some}
use Rattle.std.specs.Prelude.{is_some}
use Rattle.st_messages.specs.Circle.{first_free}
use Rattle.st_messages.specs.declared.message.Message.{Message}
use Rattle.st_messages.specs.declared.message.MsgState.{MsgState}
use Rattle.st_messages.specs.Messages.{calls_after_cancel, calls_after_let_go, calls_after_post, calls_after_post_as, calls_after_renew, calls_after_renew_of, count_in_use, is_in_use, is_kept, message_of_drawing, most_in_use, next_seq, seq_left, seq_of, seqs_in_use, with_state, AreValidCalls, HeldCalls}
use Rattle.st_messages.proofs.Ordered.{found_below}
use Rattle.st_messages.proofs.Seqs.{in_use_has_drawing, seq_in_use, seqs_cancelled, seqs_let_go, seqs_moved, seqs_posted}
use Rattle.st_messages.proofs.Whole.{had_seq, seqs_renewed}
use Rattle.st_law.specs.Numbers.{drawn_as, largest_number, number_drawn, without_replaced, Numbers}
use Rattle.st_reached.proofs.Circle.{drawn_is}
use Rattle.st_workers.specs.Numbers.{CarriesNumbers, HasNumbers}
use Rattle.st_workers.proofs.Numbered.{live_or_kept}

-- whatever has a value or none
pub the_value : (o : Option ℕ) → is_some o ≡ true → (n : ℕ) × (o ≡ Some n)
the_value None some = absurd (true≢false (sym some))
the_value (Some n) some = (n, refl)

-- ---- the number that is drawn next

-- a drawing that has a number was made
pub below_next : (calls : HeldCalls) → AreValidCalls calls → (q : ℕ) → is_some (seq_of calls q) ≡ true → suc q ≤ calls.next
below_next calls valid q some = by (message_of_drawing calls q) refl where
  by : (o : Option Message) → message_of_drawing calls q ≡ o → suc q ≤ calls.next
  by (Some m) o_is = found_below calls.live 1 calls.next q m valid.ordered o_is
  by None o_is =
      let kept : is_kept calls q ≡ true = sym (live_or_kept calls q ∙ ap (λ (o : Option Message). is_some o || is_kept calls q) o_is) ∙ some in
      (valid.ended q kept).0

module _ (numbers : Numbers) (calls : HeldCalls) (has : HasNumbers numbers calls) (valid : AreValidCalls calls) where
  -- a drawing that is in use was made
  made : (q : ℕ) → numbers.in_use q ≡ true → (1 ≤ q) × (q ≤ numbers.last)
  made q used =
      let below = below_next calls valid q (has.in_use q ∙ used) in
      let next = has.next in
      (least q used, omega (arith, below, next))
    where
      least : (q : ℕ) → numbers.in_use q ≡ true → 1 ≤ q
      least zero used = absurd (true≢false (sym used ∙ has.zero))
      least (suc k) used = omega arith

  -- a number is in use exactly if a drawing in use has it
  same_taken : (n : ℕ) → (is_in_use calls n ≡ true) ↔ ((q : ℕ) × (numbers.in_use q ≡ true) × (numbers.number_of q ≡ n))
  same_taken n = (
    λ used. (let its = in_use_has_drawing calls n valid used in (its.0, sym (has.in_use its.0) ∙ ap (λ (o : Option ℕ). is_some o) its.2, has.seqs its.0 n its.2)),
    λ its. (let seq = the_value (seq_of calls its.0) (has.in_use its.0 ∙ its.1) in seq_in_use calls its.0 n (seq.1 ∙ ap Some (sym (has.seqs its.0 seq.0 seq.1) ∙ its.2))),
  )

  -- the next number here is the law's
  pub draws_next : number_drawn largest_number numbers ≡ next_seq calls
  draws_next =
      drawn_is numbers largest_number (is_in_use calls) made same_taken
      ∙ (λ k. first_free (sym has.greatest k) (seqs_in_use calls) (sym has.last k))

-- ---- after each call

module _ (calls : HeldCalls) (valid : AreValidCalls calls) where
  pub numbers_moved : (drawing : ℕ) (state : MsgState) → CarriesNumbers (λ numbers. numbers) calls (with_state calls drawing state)
  numbers_moved drawing state numbers has = record {
    greatest = has.greatest;
    next = has.next;
    last = has.last;
    seqs = λ q seq is. has.seqs q seq (sym (seqs_moved calls drawing state q) ∙ is);
    in_use = λ q. ap (λ (o : Option ℕ). is_some o) (seqs_moved calls drawing state q) ∙ has.in_use q;
    zero = has.zero;
  }

  pub numbers_posted : (tid : ℕ) → CarriesNumbers (drawn_as largest_number calls.next) calls (calls_after_post calls tid)
  numbers_posted tid numbers has = record {
    greatest = has.greatest;
    next = refl;
    last = sym (ap (λ (b : Bool). cond b (number_drawn largest_number numbers) (numbers.number_of calls.next)) (eq-eqb calls.next calls.next refl) ∙ draws_next numbers calls has valid);
    seqs = λ q seq is. seqs_by q seq (q == calls.next) (sym (seqs_posted calls tid (next_seq calls) valid q) ∙ is);
    in_use = λ q. ap (λ (o : Option ℕ). is_some o) (seqs_posted calls tid (next_seq calls) valid q) ∙ used_by q (q == calls.next);
    zero = ap (λ (b : Bool). b || numbers.in_use 0) (ne_eqb 0 calls.next (let next = has.next in λ e. omega (arith, e, next))) ∙ has.zero;
  } where
    seqs_by : (q seq : ℕ) (b : Bool) → cond b (Some (next_seq calls)) (seq_of calls q) ≡ Some seq → cond b (number_drawn largest_number numbers) (numbers.number_of q) ≡ seq
    seqs_by q seq true is = draws_next numbers calls has valid ∙ same_Some (next_seq calls) seq is
    seqs_by q seq false is = has.seqs q seq is

    used_by : (q : ℕ) (b : Bool) → is_some (cond b (Some (next_seq calls)) (seq_of calls q)) ≡ (b || numbers.in_use q)
    used_by q true = refl
    used_by q false = has.in_use q

  -- a drawing of this message isn't in use any more, unless it is kept
  module _ (drawing : ℕ) (keeps : Bool) (ready : ℕ → Bool) (keeps_is : keeps ≡ ready drawing) (m : Message) (is : message_of_drawing calls drawing ≡ Some m) (numbers : Numbers) (has : HasNumbers numbers calls) where
    left_by : (q : ℕ) (b k : Bool) → (q == drawing) ≡ b → keeps ≡ k → is_some (cond b (cond k (seq_of calls drawing) None) (seq_of calls q)) ≡ (numbers.in_use q && (not b || ready q))
    left_by q false k b_is k_is = has.in_use q ∙ sym (and-true (numbers.in_use q))
    left_by q true true b_is k_is =
        let same : q ≡ drawing = eqb-true q drawing b_is in
        let kept : ready q ≡ true = ap ready same ∙ sym keeps_is ∙ k_is in
        ap (λ (p : ℕ). is_some (seq_of calls p)) (sym same) ∙ has.in_use q ∙ sym (ap (λ (b : Bool). numbers.in_use q && b) kept ∙ and-true (numbers.in_use q))
    left_by q true false b_is k_is =
        let same : q ≡ drawing = eqb-true q drawing b_is in
        let kept : ready q ≡ false = ap ready same ∙ sym keeps_is ∙ k_is in
        sym (ap (λ (b : Bool). numbers.in_use q && b) kept ∙ and-false (numbers.in_use q))

    pub numbers_cancelled : HasNumbers (without_replaced ready drawing numbers) (calls_after_cancel calls drawing keeps)
    numbers_cancelled = record {
      greatest = has.greatest;
      next = has.next;
      last = has.last;
      seqs = λ q seq e. has.seqs q seq (had_seq calls drawing keeps m valid is q seq e);
      in_use = λ q. ap (λ (o : Option ℕ). is_some o) (seqs_cancelled calls drawing keeps m valid is q) ∙ left_by q (q == drawing) keeps refl refl;
      zero = ap (λ (b : Bool). b && (not (0 == drawing) || ready 0)) has.zero;
    }

    pub numbers_renewed : count_in_use calls ≤ most_in_use → HasNumbers (without_replaced ready drawing (drawn_as largest_number calls.next numbers)) (calls_after_renew calls drawing keeps)
    numbers_renewed few = record {
      greatest = ap (λ (c : HeldCalls). c.greatest) renewed ∙ has.greatest;
      next = ap (λ (c : HeldCalls). c.next) renewed;
      last = ap (λ (c : HeldCalls). c.last) renewed ∙ sym (ap (λ (b : Bool). cond b (number_drawn largest_number numbers) (numbers.number_of calls.next)) (eq-eqb calls.next calls.next refl) ∙ draws_next numbers calls has valid);
      seqs = λ q seq e. seqs_by q seq (q == calls.next) (q == drawing) refl keeps (sym (seqs_renewed calls drawing keeps valid few m is q) ∙ e);
      in_use = λ q. ap (λ (o : Option ℕ). is_some o) (seqs_renewed calls drawing keeps valid few m is q) ∙ used_by q (q == calls.next) refl;
      zero = ap (λ (b : Bool). (b || numbers.in_use 0) && (not (0 == drawing) || ready 0)) (ne_eqb 0 calls.next (let next = has.next in λ e. omega (arith, e, next))) ∙ ap (λ (b : Bool). b && (not (0 == drawing) || ready 0)) has.zero;
    } where
      renewed : calls_after_renew calls drawing keeps ≡ calls_after_post_as (calls_after_cancel calls drawing keeps) m.tid (next_seq calls)
      renewed = ap (calls_after_renew_of calls drawing keeps) is

      low : suc drawing ≤ calls.next
      low = found_below calls.live 1 calls.next drawing m valid.ordered is

      seqs_by : (q seq : ℕ) (a b : Bool) → (q == drawing) ≡ b → (k : Bool) → cond a (Some (next_seq calls)) (cond b (cond k (seq_of calls drawing) None) (seq_of calls q)) ≡ Some seq → cond a (number_drawn largest_number numbers) (numbers.number_of q) ≡ seq
      seqs_by q seq true b b_is k e = draws_next numbers calls has valid ∙ same_Some (next_seq calls) seq e
      seqs_by q seq false false b_is k e = has.seqs q seq e
      seqs_by q seq false true b_is true e = ap numbers.number_of (eqb-true q drawing b_is) ∙ has.seqs drawing seq e
      seqs_by q seq false true b_is false e = absurd (none-some seq e)

      used_by : (q : ℕ) (a : Bool) → (q == calls.next) ≡ a → is_some (cond a (Some (next_seq calls)) (cond (q == drawing) (seq_left calls drawing keeps) (seq_of calls q))) ≡ ((a || numbers.in_use q) && (not (q == drawing) || ready q))
      used_by q true a_is = let same = eqb-true q calls.next a_is in sym (ap (λ (b : Bool). not b || ready q) (ne_eqb q drawing (λ e. omega (arith, e, same, low))))
      used_by q false a_is = left_by q (q == drawing) keeps refl refl

  pub numbers_let_go : (drawing : ℕ) → is_kept calls drawing ≡ true → (ready : ℕ → Bool) → ready drawing ≡ false → CarriesNumbers (without_replaced ready drawing) calls (calls_after_let_go calls drawing)
  numbers_let_go drawing kept ready gone numbers has = record {
    greatest = has.greatest;
    next = has.next;
    last = has.last;
    seqs = λ q seq e. seqs_by q seq (q == drawing) (sym (seqs_let_go calls drawing valid kept q) ∙ e);
    in_use = λ q. ap (λ (o : Option ℕ). is_some o) (seqs_let_go calls drawing valid kept q) ∙ used_by q (q == drawing) refl;
    zero = ap (λ (b : Bool). b && (not (0 == drawing) || ready 0)) has.zero;
  } where
    seqs_by : (q seq : ℕ) (b : Bool) → cond b None (seq_of calls q) ≡ Some seq → numbers.number_of q ≡ seq
    seqs_by q seq true e = absurd (none-some seq e)
    seqs_by q seq false e = has.seqs q seq e

    used_by : (q : ℕ) (b : Bool) → (q == drawing) ≡ b → is_some (cond b None (seq_of calls q)) ≡ (numbers.in_use q && (not b || ready q))
    used_by q true b_is = sym (ap (λ (b : Bool). numbers.in_use q && b) (ap ready (eqb-true q drawing b_is) ∙ gone) ∙ and-false (numbers.in_use q))
    used_by q false b_is = has.in_use q ∙ sym (and-true (numbers.in_use q))

-- a drawing that is kept stays in use
pub numbers_still : (calls : HeldCalls) (drawing : ℕ) (ready : ℕ → Bool) → ready drawing ≡ true → CarriesNumbers (without_replaced ready drawing) calls calls
numbers_still calls drawing ready kept numbers has = record {
  greatest = has.greatest;
  next = has.next;
  last = has.last;
  seqs = has.seqs;
  in_use = λ q. has.in_use q ∙ used_by q (q == drawing) refl;
  zero = ap (λ (b : Bool). b && (not (0 == drawing) || ready 0)) has.zero;
} where
  used_by : (q : ℕ) (b : Bool) → (q == drawing) ≡ b → numbers.in_use q ≡ (numbers.in_use q && (not b || ready q))
  used_by q true b_is = sym (ap (λ (b : Bool). numbers.in_use q && b) (ap ready (eqb-true q drawing b_is) ∙ kept) ∙ and-true (numbers.in_use q))
  used_by q false b_is = sym (and-true (numbers.in_use q))
