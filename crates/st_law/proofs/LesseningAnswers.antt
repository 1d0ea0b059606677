-- Each lawful entry of the operator, and so every lawful entry, lowers the steps left by at least one.
use native.Mathlib.Omega.{arith}
use Rattle.std.proofs.Common.{◌≡◌, ◌⊎◌, ◌≤◌, ◌<◌, ℕ, zero, suc, ◌+◌, Bool, true, false, not, ◌&&◌, ◌||◌, ◌==◌, List, [], ◌++◌, length, Option, Some, None, refl, sym, ap, ◌∙◌, inl, inr}
use Rattle.std.specs.Prelude.{is_some}
use Rattle.std.proofs.lemmas.Bool.{eq-eqb, and_parts, or_left, cases_lt}
use Rattle.std.proofs.lemmas.Option.{slice_get_within}
use Rattle.st_base.specs.Numbered.{item_at_number}
use Rattle.st_calls.specs.declared.rule.Rule.{Rule}
use Rattle.st_filter.specs.declared.set.Reply.{Reply}
use Rattle.st_trace.specs.declared.entry.Entry.{Entry}
use Rattle.st_trace.specs.declared.entry.Entry.TheVariants.{Stored, Entered, Claimed, Copied, Looked, Faulted, Answered, Used, Denied, Ended, Replied, Learned, Reloaded}
use Rattle.st_law.specs.declared.input.Input.{Input}
use Rattle.st_law.specs.Lawful.{IsReplied, IsLearned, IsLawful}
use Rattle.st_law.specs.Machine.{state_after}
use Rattle.st_law.specs.Schedules.{served_number}
use Rattle.st_law.specs.Sessions.{SessionFilter, learnt_by, replied_by, is_reply_for, least_from}
use Rattle.st_law.specs.State.{State, thread_count, is_live, is_open_question, is_question, is_undecided, snapshot_in, decision_in}
use Rattle.st_law.proofs.Copies.{Copies, few_words_due, few_looks_due}
use Rattle.st_law.proofs.Learning.{IsPlain, question_undecided, learned_permits}
use Rattle.st_law.proofs.Lessening.{Lessens, copies_stay, stored_less, after_entered, after_reloaded, after_used, after_denied, ended_less, unlearnt}
use Rattle.st_law.proofs.LesseningWork.{number_low, IsStepOn, step_on, step_less, step_taken, same_session, claimed_step, copied_step, looked_step, faulted_step, answered_step}
use Rattle.st_model.specs.Tree.{is_number}
use Rattle.st_law.proofs.Lowering.{KeepsVersions, unmoved_low, turn_gone, messages_more}
use Rattle.st_law.proofs.Moves.{Moves, moves}
use Rattle.st_law.proofs.Potential.{step_unless, learnable, message_most, taken, is_turn, may_be_learnt, remaining, message_cost, reply_cost, replies_cost}
use Rattle.st_law.proofs.Sums.{total_drop}
use Rattle.st_law.proofs.Turns.{live_low, unlike}
use Rattle.st_law.proofs.TurnsKept.{answered_claimed}
use Rattle.st_law.proofs.Whole.{Whole, live_head}

module _ (i : Input) (st : State) (whole : Whole i st) (copies : Copies st) where
  abbrev Less : Entry → Type 0
  Less e = Lessens i st whole copies e

  -- ---- what is learnt

  question_parts : (q : ℕ) → is_question i st q ≡ true → (is_live st q ≡ true) × ((st.messages q).answered ≡ true)
  question_parts q e = and_parts (is_live st q) (st.messages q).answered (and_parts (is_live st q && (st.messages q).answered) (is_open_question i st (snapshot_in st q)) e).0

  learned_step : IsPlain st.session → (q n : ℕ) → IsLearned i st q n → IsStepOn i st whole copies (Learned q n) q
  learned_step plain q n y =
      let parts : (is_live st q ≡ true) × ((st.messages q).answered ≡ true) = question_parts q y.asked.question in
      let head = live_head st q parts.0 in
      let claimed : (st.messages q).claimed ≡ true = answered_claimed i st whole.calls whole.turns q parts.1 in
      let nobody : is_turn i st q ≡ false = turn_gone i st q (λ w e. unlike (st.messages q).answered parts.1 (whole.turns.unanswered w q e)) in
      let before : message_cost i st q ≡ step_unless false =
      (λ k. remaining (claimed k) (nobody k) (taken (st.messages q)) (may_be_learnt i st (y.asked.copies k)))
      ∙ ap (λ mode. learnable mode (is_undecided (decision_in i st y.copies))) y.mode
      ∙ ap (λ v. step_unless (not (is_undecided v))) (question_undecided i st q y.copies y.asked.question y.asked.copies) in
      let following : message_cost i (state_after i st (Learned q n)) q ≡ step_unless true =
      (λ k. remaining (claimed k) (nobody k) (taken (st.messages q)) (may_be_learnt i (state_after i st (Learned q n)) (y.asked.copies k)))
      ∙ ap (λ mode. learnable mode (is_undecided (decision_in i (state_after i st (Learned q n)) y.copies))) y.mode
      ∙ ap (λ v. step_unless (not (is_undecided v))) (learned_permits i st plain q n y) in
      step_on i st whole copies (Learned q n) q (learnt_by (snapshot_in st q)) refl (λ learns policy. refl) (omega arith) (omega arith) refl
      (number_low i st whole copies q head.0 head.1) (live_low i st whole.calls q parts.0) (omega (arith, before, following))
      (λ p differ. record { claimed = refl; taken_is = refl; turn = λ e. e; copies = refl })

  -- ---- replies

  reply_there : (policy : List ℕ) (rule : Rule) (n : ℕ) (o : Option Reply) → item_at_number i.replies n ≡ o → is_reply_for policy rule o ≡ true → (1 ≤ n) × (n ≤ length i.replies)
  reply_there policy rule n None e x = cc
  reply_there policy rule zero (Some reply) e x = cc
  reply_there policy rule (suc k) (Some reply) e x = let inside = slice_get_within i.replies k reply e in (omega arith, omega (arith, inside))

  not_given : (b : Bool) → not b ≡ true → b ≡ false
  not_given true e = cc
  not_given false e = refl

  replied_less : (q reply n : ℕ) → IsReplied i st q reply n → Less (Replied q reply n)
  replied_less q reply n y =
      let parts : (is_reply_for y.copies.policy y.copies.rule (item_at_number i.replies reply) ≡ true) × (not (st.replied reply) ≡ true) =
      and_parts (is_reply_for y.copies.policy y.copies.rule (item_at_number i.replies reply)) (not (st.replied reply)) y.there in
      let range = reply_there y.copies.policy y.copies.rule reply (item_at_number i.replies reply) refl parts.0 in
      let low = range.0 in
      let high = range.1 in
      let before : step_unless (st.replied reply) ≡ step_unless false = ap step_unless (not_given (st.replied reply) parts.1) in
      let following : step_unless (reply == reply || st.replied reply) ≡ step_unless true = ap step_unless (or_left (reply == reply) (st.replied reply) (eq-eqb reply reply refl)) in
      let replies : replies_cost i (state_after i st (Replied q reply n)) + 1 ≤ replies_cost i st =
      total_drop (reply_cost (state_after i st (Replied q reply n))) (reply_cost st) 1 (length i.replies) reply 1 (λ m from to. given m (reply == m)) low (omega (arith, high)) (omega (arith, before, following)) in
      let messages = messages_more i st copies (state_after i st (Replied q reply n)) (replied_by (item_at_number i.replies reply) (snapshot_in st q)) refl (λ learns policy. refl) 0 (let e : st.posted ≡ st.posted + 0 = omega arith in e)
      (λ p from to. record { claimed = refl; taken_is = refl; turn = λ e. e; copies = refl }) in
      omega (arith, replies, messages) where
        given : (m : ℕ) (b : Bool) → step_unless (b || st.replied m) ≤ step_unless (st.replied m)
        given m true = omega arith
        given m false = omega arith

  -- ---- every entry

  -- after a lawful entry at least one step less is left
  pub lessens : thread_count i ≤ 64 → IsPlain st.session → (e : Entry) → IsLawful i st e → Less e
  lessens few plain (Stored u place word) y = stored_less i st whole copies u place word y
  lessens few plain (Entered u call regs way) y = after_entered i st whole copies u call regs way y
  lessens few plain (Claimed w q) y = step_less i st whole copies (Claimed w q) q (claimed_step i st whole copies w q y)
  lessens few plain (Copied q part place word) y = step_less i st whole copies (Copied q part place word) q (copied_step i st whole copies y.served.number q y.served.at part place word (few_words_due st copies q part place y.due))
  lessens few plain (Looked q part name seen) y = step_less i st whole copies (Looked q part name seen) q (looked_step i st whole copies y.served.number q y.served.at part name seen (few_looks_due st copies q part name y.due))
  lessens few plain (Faulted q errno) y = step_less i st whole copies (Faulted q errno) q (faulted_step i st whole copies y.served.number q y.served.at errno)
  lessens few plain (Answered w s v applied) y = step_less i st whole copies (Answered w s v applied) s.seq (answered_step i st whole copies w s v applied y)
  lessens few plain (Used u seq call regs args ids result changes) y = after_used i st whole copies few u seq call regs args ids result changes y
  lessens few plain (Reloaded u n done changes) y = after_reloaded i st whole copies few u n done changes y (moves i st whole.calls (Reloaded u n done changes) y)
  lessens few plain (Denied u seq errno cause) y = after_denied i st whole copies u seq errno cause y
  lessens few plain (Ended u) y = ended_less i st whole copies u y
  lessens few plain (Learned q n) y = step_less i st whole copies (Learned q n) q (learned_step plain q n y)
  lessens few plain (Replied q reply n) y = replied_less q reply n y

  -- ---- the steps of one number

  -- the steps left for a number, with the step that an entry is for it, are at most those left before
  module _ (p : ℕ) where
    abbrev Takes : Entry → Type 0
    Takes e = message_cost i (state_after i st e) p + step_unless (not (is_number p (served_number e))) ≤ message_cost i st p

    -- a posted message has the cost that it had, and one that wasn't posted has that of a new one
    posted_takes : (new : State) → Moves st new → (more : List SessionFilter) → new.session ≡ st.session ++ more → KeepsVersions i st new → new.turns ≡ st.turns → ((new.messages p).claimed ≡ (st.messages p).claimed) → ((new.messages p).words ≡ (st.messages p).words) → ((new.messages p).lookups ≡ (st.messages p).lookups) → message_cost i new p ≤ message_cost i st p
    posted_takes new moved more grown versions turns claimed words lookups = by (cases_lt st.posted p) where
      by : (st.posted < p) ⊎ (p ≤ st.posted) → message_cost i new p ≤ message_cost i st p
      by (inl high) =
          let most = message_most i new p in
          let all : message_cost i st p ≡ 9605 = ap (λ c. remaining c (is_turn i st p) (taken (st.messages p)) (may_be_learnt i st (snapshot_in st p))) (unclaimed (st.messages p).claimed refl) in
          omega (arith, most, all) where
            unclaimed : (b : Bool) → (st.messages p).claimed ≡ b → (st.messages p).claimed ≡ false
            unclaimed true e = let low = whole.turns.low p e in absurd (omega (arith, low, high))
            unclaimed false e = e
      by (inr low) = unmoved_low i st copies new more grown versions p (record {
        claimed = claimed;
        taken_is = (λ k. length (words k 0) + length (words k 1) + length (lookups k 0) + length (lookups k 1));
        turn = λ e. sym (ap (λ f. is_some (least_from (λ w. is_number p (f w)) 1 i.options.workers)) turns) ∙ e;
        copies = copies_stay i st whole copies new moved p low words lookups;
      })

    moved_takes : (e : Entry) → served_number e ≡ None → message_cost i (state_after i st e) p ≤ message_cost i st p → Takes e
    moved_takes e none low = let same : step_unless (not (is_number p (served_number e))) ≡ step_unless (not false) = ap (λ o. step_unless (not (is_number p o))) none in omega (arith, low, same)

    -- each lawful entry takes the step that it is for a number
    pub takes : IsPlain st.session → (e : Entry) → IsLawful i st e → Takes e
    takes plain (Claimed w q) y = step_taken i st whole copies (Claimed w q) q p (claimed_step i st whole copies w q y)
    takes plain (Copied q part place word) y = step_taken i st whole copies (Copied q part place word) q p (copied_step i st whole copies y.served.number q y.served.at part place word (few_words_due st copies q part place y.due))
    takes plain (Looked q part name seen) y = step_taken i st whole copies (Looked q part name seen) q p (looked_step i st whole copies y.served.number q y.served.at part name seen (few_looks_due st copies q part name y.due))
    takes plain (Faulted q errno) y = step_taken i st whole copies (Faulted q errno) q p (faulted_step i st whole copies y.served.number q y.served.at errno)
    takes plain (Answered w s v applied) y = step_taken i st whole copies (Answered w s v applied) s.seq p (answered_step i st whole copies w s v applied y)
    takes plain (Learned q n) y = step_taken i st whole copies (Learned q n) q p (learned_step plain q n y)
    takes plain (Stored u place word) y = moved_takes (Stored u place word) refl (posted_takes (state_after i st (Stored u place word)) (moves i st whole.calls (Stored u place word) y) [] (same_session i st whole copies) (λ learns policy. refl) refl refl refl refl)
    takes plain (Entered u call regs way) y = moved_takes (Entered u call regs way) refl (posted_takes (state_after i st (Entered u call regs way)) (moves i st whole.calls (Entered u call regs way) y) [] (same_session i st whole copies) (λ learns policy. refl) refl refl refl refl)
    takes plain (Used u seq call regs args ids result changes) y = moved_takes (Used u seq call regs args ids result changes) refl (posted_takes (state_after i st (Used u seq call regs args ids result changes)) (moves i st whole.calls (Used u seq call regs args ids result changes) y) [] (same_session i st whole copies) (λ learns policy. refl) refl refl refl refl)
    takes plain (Reloaded u n done changes) y = moved_takes (Reloaded u n done changes) refl
        (posted_takes (state_after i st (Reloaded u n done changes)) (moves i st whole.calls (Reloaded u n done changes) y) [] (same_session i st whole copies) (unlearnt i st whole copies u n done changes y) refl refl refl refl)
    takes plain (Denied u seq errno cause) y = moved_takes (Denied u seq errno cause) refl (posted_takes (state_after i st (Denied u seq errno cause)) (moves i st whole.calls (Denied u seq errno cause) y) [] (same_session i st whole copies) (λ learns policy. refl) refl refl refl refl)
    takes plain (Ended u) y = moved_takes (Ended u) refl (posted_takes (state_after i st (Ended u)) (moves i st whole.calls (Ended u) y) [] (same_session i st whole copies) (λ learns policy. refl) refl refl refl refl)
    takes plain (Replied q reply n) y = moved_takes (Replied q reply n) refl (posted_takes (state_after i st (Replied q reply n)) (moves i st whole.calls (Replied q reply n) y) (replied_by (item_at_number i.replies reply) (snapshot_in st q)) refl (λ learns policy. refl) refl refl refl refl)
