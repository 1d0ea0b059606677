-- The machine after the operator's answer.
use Rattle.std.proofs.Common.{◌≡◌, ◌∙◌, ◌++◌, ◌==◌, ℕ, suc, Bool, cond, List, Option, Some, None, refl, ap, sym, subst}
use Rattle.std.proofs.lemmas.Bool.{eq-eqb}
use Rattle.std.proofs.lemmas.Option.{none-some, same_Some}
use Rattle.std.specs.Prelude.{if◌then◌else◌}
use Rattle.st_base.specs.Numbered.{item_at_number}
use Rattle.st_effects.specs.Progress.{Look, Progress, Ready, Stuck, Word}
use Rattle.st_filter.specs.declared.set.Reply.{Reply}
use Rattle.st_messages.specs.Messages.{seq_of}
use Rattle.st_calls.specs.declared.judged.Snapshot.{Snapshot}
use Rattle.st_trace.specs.declared.entry.Choice.TheVariants.{Operator}
use Rattle.st_trace.specs.declared.entry.Entry.{Entry}
use Rattle.st_trace.specs.declared.entry.Entry.TheVariants.{Learned, Replied}
use Rattle.st_law.specs.declared.input.Input.{Input}
use Rattle.st_law.specs.declared.input.Mode.{Mode}
use Rattle.st_law.specs.declared.input.Mode.TheVariants.{Enforce, Learn, AskText}
use Rattle.st_law.specs.Machine.{entry_of, question_entry, reply_entry, state_after}
use Rattle.st_law.specs.Messages.{Head}
use Rattle.st_law.specs.Numbers.{renumbered}
use Rattle.st_law.specs.Sessions.{learnt_by, replied_by, with_binaries}
use Rattle.st_law.specs.State.{filter_count, next_reply, progress_of_message, snapshot_in, snapshot_of_message, snapshot_of_progress, snapshot_with, State}
use Rattle.st_learn.specs.Answers.{Answers, AreAnswersIn, KeepsAll}
use Rattle.st_learn.specs.Operator.{Added, IsAdded, IsAnsweredBy, KeepsAdded}
use Rattle.st_learn.proofs.InForce.{answers_keep, answers_stand}
use Rattle.st_learn.proofs.Replies.{added_keep, added_stands}
use Rattle.st_decide.specs.Machine.{Refines, RefinesSomeState, IsDrawnStep, Running, SameState}
use Rattle.st_decide.specs.Questions.{IsLeastFound}
use Rattle.st_decide.proofs.Reached.{reached_more}
use Rattle.st_steps.proofs.Served.{same_system}
use Rattle.st_decide.proofs.Asked.{entry_here}
use Rattle.st_steps.proofs.EntryNumbers.{learned_has, replied_has}
use Rattle.st_workers.specs.Numbers.{CarriesEntry, IsNumbered}
use Rattle.st_workers.specs.Refinement.{drawn_copies}
use Rattle.st_workers.specs.UnderWay.{UnderWay}

-- an entry is the operator's
abbrev IsOperators : Entry → Type 0
IsOperators (Learned q n) = Unit {0}
IsOperators (Replied q reply n) = Unit {0}
IsOperators _ = ⊥

operators : (i : Input) (st : State) (q : ℕ) (s : Snapshot) (e : Entry) (mode : Mode) → question_entry i st q s mode ≡ Some e → IsOperators e
operators i st q s e Enforce is = cc
operators i st q s e Learn is = subst IsOperators (same_Some _ e is) tt
operators i st q s e AskText is = by (next_reply i st s.policy s.rule) is where
  by : (o : Option ℕ) → reply_entry i st q s o ≡ Some e → IsOperators e
  by None x = cc
  by (Some reply) x = subst IsOperators (same_Some _ e x) tt

-- the machine that runs, with what the operator has added, and with what answers calls
abbrev pub with_operator : Running → Added → Answers → Running
with_operator m operator answers = record { input = m.input; system = m.system; workers = m.workers; threads = m.threads; answers = answers; operator = operator }

-- out of memory: calls are answered as before, and what the operator has added is kept
pub kept_in_vain : (m : Running) (operator : Added) (answers : Answers) → KeepsAdded m.operator operator → KeepsAll m.answers answers → SameState m (with_operator m operator answers)
kept_in_vain m operator answers same kept st is = (stood, refl) where
  stood : Refines (with_operator m operator answers) st
  stood = record {
    reached = is.reached;
    bounded = is.bounded;
    ungranted = is.ungranted;
    replies = is.replies;
    system = is.system;
    workers = is.workers;
    threads = is.threads;
    count = is.count;
    answers = answers_keep m.input st m.answers answers kept is.answers;
    operator = added_keep m.input st m.operator operator same is.operator;
  }

-- the same, if the operator has added nothing
pub asked_in_vain : (m : Running) (answers : Answers) → KeepsAll m.answers answers → SameState m (with_operator m m.operator answers)
asked_in_vain m answers kept = kept_in_vain m m.operator answers (record { filters = refl; changed = refl; versions = λ binary. refl; replies = refl; left = refl }) kept

module _ (m : Running) (st : State) (is : Refines m st) (new : Added) (answers : Answers) where
  on_by : (e : Entry) → IsOperators e → entry_of m.input st Operator ≡ Some e → IsAdded m.input (state_after m.input st e) new → AreAnswersIn m.input (state_after m.input st e) answers → Refines (with_operator m new answers) (state_after m.input st e)
  on_by (Learned q n) kind adds added are = record {
    reached = reached_more m.input st is.reached Operator (Learned q n) adds;
    bounded = is.bounded;
    ungranted = is.ungranted;
    replies = is.replies;
    system = same_system m.input st (state_after m.input st (Learned q n)) m.system refl refl refl refl refl refl (λ t. refl) (λ t. refl) is.system;
    workers = is.workers;
    threads = is.threads;
    count = is.count;
    answers = are;
    operator = added;
  }
  on_by (Replied q reply n) kind adds added are = record {
    reached = reached_more m.input st is.reached Operator (Replied q reply n) adds;
    bounded = is.bounded;
    ungranted = is.ungranted;
    replies = is.replies;
    system = same_system m.input st (state_after m.input st (Replied q reply n)) m.system refl refl refl refl refl refl (λ t. refl) (λ t. refl) is.system;
    workers = is.workers;
    threads = is.threads;
    count = is.count;
    answers = are;
    operator = added;
  }
  on_by _ kind adds added are = absurd kind

-- an entry of the operator draws no number
none_drawn : (workers : UnderWay) (e : Entry) → IsOperators e → CarriesEntry e workers workers
none_drawn workers (Learned q n) kind = λ ready are numbers has. (numbers.in_use, has)
none_drawn workers (Replied q reply n) kind = λ ready are numbers has. (numbers.in_use, has)
none_drawn workers _ kind = absurd kind

-- ---- the operator answers by copies that have the number of their drawing

-- an entry with a drawing in place of its number
abbrev pub at_drawing : ℕ → Entry → Entry
at_drawing q e = renumbered (λ n. q) (λ n. q) (λ changes. changes) e

-- a state in which the message of a drawing is that of a number, too
abbrev pub as_numbered : State → ℕ → ℕ → State
as_numbered st q n = record st { messages = λ p. if p == n then st.messages q else st.messages p }

-- what an entry tells that the operator adds where copies have their number, of the entry that it adds where they have their drawing
pub record IsOfDrawing (i : Input) (st : State) (q : ℕ) (s : Snapshot) (mode : Mode) (workers : UnderWay) (given : Entry) : Type 0 where
  pub entry : question_entry i st q (drawn_copies q s) mode ≡ Some (at_drawing q given)
  pub session : (state_after i st (at_drawing q given)).session ≡ (state_after i (as_numbered st q s.seq) given).session
  pub changed : (state_after i st (at_drawing q given)).changed ≡ (state_after i (as_numbered st q s.seq) given).changed
  pub versions : (binary : List ℕ) → (state_after i st (at_drawing q given)).versions binary ≡ (state_after i (as_numbered st q s.seq) given).versions binary
  pub replied : (state_after i st (at_drawing q given)).replied ≡ (state_after i (as_numbered st q s.seq) given).replied
  pub numbered : IsNumbered (at_drawing q given) given workers

module _ (i : Input) (st : State) (q : ℕ) (s : Snapshot) (sealed : snapshot_in st q ≡ Some (drawn_copies q s)) where
  by_progress : (o : Option Head) (p : Progress) → snapshot_of_progress q o p ≡ Some (drawn_copies q s) → snapshot_of_progress s.seq o p ≡ Some s
  by_progress (Some head) (Ready args) e = ap (λ (u : Snapshot). Some (record u { seq = s.seq })) (same_Some (snapshot_with q head args) (drawn_copies q s) e)
  by_progress (Some head) (Word part place) e = absurd (none-some (drawn_copies q s) e)
  by_progress (Some head) (Look part name) e = absurd (none-some (drawn_copies q s) e)
  by_progress (Some head) (Stuck errno) e = absurd (none-some (drawn_copies q s) e)
  by_progress None p e = absurd (none-some (drawn_copies q s) e)

  -- there the copies of the number are these
  pub numbered_copies : snapshot_in (as_numbered st q s.seq) s.seq ≡ Some s
  numbered_copies =
      ap (λ (b : Bool). snapshot_of_message s.seq (cond b (st.messages q) (st.messages s.seq))) (eq-eqb s.seq s.seq refl)
      ∙ by_progress (st.messages q).head (progress_of_message (st.messages q)) sealed

  module _ (workers : UnderWay) (has : seq_of workers.calls q ≡ Some s.seq) where
    learned_is : (n : ℕ) → n ≡ suc (filter_count i st (drawn_copies q s)) → IsOfDrawing i st q s Learn workers (Learned s.seq n)
    learned_is n is = record {
      entry = ap (λ (k : ℕ). Some (Learned q k)) (sym is);
      session = ap (λ (o : Option Snapshot). st.session ++ learnt_by o) sealed ∙ sym (ap (λ (o : Option Snapshot). st.session ++ learnt_by o) numbered_copies);
      changed = ap (λ (o : Option Snapshot). with_binaries st.changed (learnt_by o)) sealed ∙ sym (ap (λ (o : Option Snapshot). with_binaries st.changed (learnt_by o)) numbered_copies);
      versions = λ binary. refl;
      replied = refl;
      numbered = learned_has workers q s.seq has n;
    }

    replied_is : (reply n : ℕ) → next_reply i st s.policy s.rule ≡ Some reply → n ≡ suc (filter_count i st (drawn_copies q s)) → IsOfDrawing i st q s AskText workers (Replied s.seq reply n)
    replied_is reply n next is = record {
      entry = ap (reply_entry i st q (drawn_copies q s)) next ∙ ap (λ (k : ℕ). Some (Replied q reply k)) (sym is);
      session = ap (λ (o : Option Snapshot). st.session ++ replied_by (item_at_number i.replies reply) o) sealed
          ∙ same_reply (item_at_number i.replies reply) ∙ sym (ap (λ (o : Option Snapshot). st.session ++ replied_by (item_at_number i.replies reply) o) numbered_copies);
      changed = ap (λ (o : Option Snapshot). with_binaries st.changed (replied_by (item_at_number i.replies reply) o)) sealed
          ∙ same_changed (item_at_number i.replies reply) ∙ sym (ap (λ (o : Option Snapshot). with_binaries st.changed (replied_by (item_at_number i.replies reply) o)) numbered_copies);
      versions = λ binary. refl;
      replied = refl;
      numbered = replied_has workers q s.seq has reply n;
    } where
      same_reply : (o : Option Reply) → st.session ++ replied_by o (Some (drawn_copies q s)) ≡ st.session ++ replied_by o (Some s)
      same_reply None = refl
      same_reply (Some reply) = refl

      same_changed : (o : Option Reply) → with_binaries st.changed (replied_by o (Some (drawn_copies q s))) ≡ with_binaries st.changed (replied_by o (Some s))
      same_changed None = refl
      same_changed (Some reply) = refl

    by_reply : (o : Option ℕ) → next_reply i st s.policy s.rule ≡ o → (given : Entry) → reply_entry i (as_numbered st q s.seq) s.seq s o ≡ Some given → IsOfDrawing i st q s AskText workers given
    by_reply None next given e = absurd (none-some given e)
    by_reply (Some reply) next given e = subst (IsOfDrawing i st q s AskText workers) (same_Some _ given e) (replied_is reply (suc (filter_count i st s)) next refl)

    pub its_entry : (mode : Mode) (given : Entry) → question_entry i (as_numbered st q s.seq) s.seq s mode ≡ Some given → IsOfDrawing i st q s mode workers given
    its_entry Enforce given e = absurd (none-some given e)
    its_entry Learn given e = subst (IsOfDrawing i st q s Learn workers) (same_Some _ given e) (learned_is (suc (filter_count i st s)) refl)
    its_entry AskText given e = by_reply (next_reply i st s.policy s.rule) refl given e

-- the operator has answered the question of a drawing
module _ (m : Running) (new : Added) (answers : Answers) (q : ℕ) (copies : Snapshot) (given : Entry) (found : IsLeastFound m (Some q)) (sealed : (st : State) → Refines m st → snapshot_in st q ≡ Some (drawn_copies q copies)) (has : seq_of m.workers.calls q ≡ Some copies.seq)
    (law : IsAnsweredBy m.input m.input.options.mode copies m.operator m.answers given new answers) where
  module _ (st : State) (is : Refines m st) where
    abbrev numbered_state : State
    numbered_state = as_numbered st q copies.seq

    step : (question_entry m.input numbered_state copies.seq copies m.input.options.mode ≡ Some given) × IsAdded m.input (state_after m.input numbered_state given) new × AreAnswersIn m.input (state_after m.input numbered_state given) answers
    step = law numbered_state (added_stands m.input st numbered_state m.operator refl refl (λ b. refl) refl is.operator) (answers_stand m.input st numbered_state m.answers refl (λ b. refl) is.answers) (numbered_copies m.input st q copies (sealed st is))

    its : IsOfDrawing m.input st q copies m.input.options.mode m.workers given
    its = its_entry m.input st q copies (sealed st is) m.workers has m.input.options.mode given step.0

    one : (entry_of m.input st Operator ≡ Some (at_drawing q given)) × Refines (with_operator m new answers) (state_after m.input st (at_drawing q given)) × CarriesEntry (at_drawing q given) m.workers m.workers
    one =
        let question = found.1 st is in
        let adds : entry_of m.input st Operator ≡ Some (at_drawing q given) = entry_here m st is q (drawn_copies q copies) question.0 question.1 (sealed st is) ∙ its.entry in
        let operates : IsOperators (at_drawing q given) = operators m.input st q (drawn_copies q copies) (at_drawing q given) m.input.options.mode its.entry in (
          adds,
          on_by m st is new answers (at_drawing q given) operates adds
              (added_stands m.input (state_after m.input numbered_state given) (state_after m.input st (at_drawing q given)) new its.session its.changed its.versions its.replied step.1)
              (answers_stand m.input (state_after m.input numbered_state given) (state_after m.input st (at_drawing q given)) answers its.session its.versions step.2),
          none_drawn m.workers (at_drawing q given) operates,
        )

  pub answered_on : IsDrawnStep m Operator (at_drawing q given) (with_operator m new answers)
  answered_on st is = one st is

  pub answered_numbers : RefinesSomeState m → IsNumbered (at_drawing q given) given m.workers
  answered_numbers run = (its run.state run.is).numbered
