-- A lawful entry of the operator is the one that the operator's step adds.
use native.Mathlib.Omega.{arith}
use Rattle.std.proofs.Common.{◌≡◌, ◌≤◌, ◌<◌, ℕ, zero, suc, ◌+◌, true, ◌&&◌, List, length, Option, Some, None, refl, sym, ap, ◌∙◌}
use Rattle.std.specs.Prelude.{slice_get}
use Rattle.std.proofs.lemmas.Bool.{and_parts}
use Rattle.std.proofs.lemmas.Option.{slice_get_within}
use Rattle.st_calls.specs.declared.judged.Snapshot.{Snapshot}
use Rattle.st_calls.specs.declared.rule.Rule.{Rule}
use Rattle.st_filter.specs.declared.set.Reply.{Reply}
use Rattle.st_trace.specs.declared.entry.Entry.TheVariants.{Learned, Replied}
use Rattle.st_law.specs.declared.input.Input.{Input}
use Rattle.st_law.specs.declared.input.Mode.{Mode}
use Rattle.st_law.specs.declared.input.Mode.TheVariants.{Learn, AskText}
use Rattle.st_law.specs.Lawful.{IsAsked, IsLearned, IsReplied}
use Rattle.st_law.specs.Machine.{least_question, reply_entry, question_entry, asked_entry, operator_entry}
use Rattle.st_law.specs.Sessions.{is_reply_for}
use Rattle.st_law.specs.State.{State, is_live, is_open_question, is_question, is_reply_left, snapshot_in}
use Rattle.st_law.proofs.Least.{least_is}
use Rattle.st_law.proofs.Turns.{live_low}
use Rattle.st_law.proofs.Whole.{Whole, live_number}

module _ (i : Input) (st : State) where
  -- a reply that is left is one of the replies
  module _ (policy : List ℕ) (rule : Rule) where
    reply_high : (n : ℕ) (o : Option Reply) → slice_get i.replies n ≡ o → is_reply_for policy rule o ≡ true → n < length i.replies
    reply_high n None e x = cc
    reply_high n (Some reply) e x = slice_get_within i.replies n reply e

    reply_range : (n : ℕ) → is_reply_left i st policy rule n ≡ true → (1 ≤ n) × (n < 1 + length i.replies)
    reply_range zero e = cc
    reply_range (suc n) e = let high = reply_high n (slice_get i.replies n) refl ((and_parts (is_reply_for policy rule (slice_get i.replies n)) _ e).0) in (omega arith, omega (arith, high))

  module _ (whole : Whole i st) where
    question_live : (q : ℕ) → is_question i st q ≡ true → is_live st q ≡ true
    question_live q e = (and_parts (is_live st q) (st.messages q).answered ((and_parts (is_live st q && (st.messages q).answered) (is_open_question i st (snapshot_in st q)) e).0)).0

    asked_recorded : (q n : ℕ) (s : Snapshot) → IsAsked i st q n s → (mode : Mode) → i.options.mode ≡ mode → operator_entry i st (least_question i st) ≡ question_entry i st q s mode
    asked_recorded q n s x mode e =
        ap (operator_entry i st) (least_is (is_question i st) 1 st.posted q (record {
          holds = x.question;
          low = live_number st whole.posted q (question_live q x.question);
          high = let low = live_low i st whole.calls q (question_live q x.question) in omega (arith, low);
          least = x.least;
        })) ∙ ap (asked_entry i st q) x.copies ∙ ap (question_entry i st q s) e

    pub learned_recorded : (q n : ℕ) → IsLearned i st q n → operator_entry i st (least_question i st) ≡ Some (Learned q n)
    learned_recorded q n x = asked_recorded q n x.copies x.asked Learn x.mode ∙ ap (λ given. Some (Learned q given)) (sym x.asked.number)

    pub replied_recorded : (q reply n : ℕ) → IsReplied i st q reply n → operator_entry i st (least_question i st) ≡ Some (Replied q reply n)
    replied_recorded q reply n x =
        let range : (1 ≤ reply) × (reply < 1 + length i.replies) = reply_range x.copies.policy x.copies.rule reply x.there in
        asked_recorded q n x.copies x.asked AskText x.mode
        ∙ ap (reply_entry i st q x.copies) (least_is (is_reply_left i st x.copies.policy x.copies.rule) 1 (length i.replies) reply (record { holds = x.there; low = range.0; high = range.1; least = x.first }))
        ∙ ap (λ given. Some (Replied q reply given)) (sym x.asked.number)
