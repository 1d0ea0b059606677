-- What later entries don't change: the copies of an answered number, and a decision. Lists of filters grow only at their end.
use Rattle.std.proofs.Common.{◌≡◌, ◌≢◌, ℕ, suc, Bool, true, false, cond, ◌&&◌, ◌||◌, ◌==◌, List, [], ◌∷◌, ◌++◌, length, Some, refl, sym, ap, subst, ◌∙◌}
use Rattle.std.proofs.lemmas.Option.{same_Some}
use Rattle.std.proofs.lemmas.Bool.{eq-eqb, ne_eqb, or_right}
use Rattle.std.proofs.lemmas.List.{append_assoc, append-nil}
use Rattle.st_base.specs.Numbered.{item_at_number}
use Rattle.st_base.specs.declared.errno.Errno.{Errno}
use Rattle.st_base.specs.declared.ids.Ids.{Ids}
use Rattle.st_calls.specs.declared.judged.Snapshot.{Snapshot}
use Rattle.st_calls.specs.declared.judged.Verdict.{Verdict}
use Rattle.st_calls.specs.declared.judged.Verdict.TheVariants.{Permit, Refuse, Unmatched}
use Rattle.st_filter.specs.Formula.{FilterValue}
use Rattle.st_filter.specs.Judging.{holds, verdict, verdict_by, verdict_from}
use Rattle.st_trace.specs.declared.entry.Entry.{Entry}
use Rattle.st_trace.specs.declared.entry.Entry.TheVariants.{Stored, Entered, Claimed, Copied, Looked, Faulted, Answered, Used, Denied, Ended, Replied, Learned, Reloaded}
use Rattle.st_law.specs.declared.input.Input.{Input}
use Rattle.st_law.specs.History.{looking_back, message_at, session_at}
use Rattle.st_law.specs.Inputs.{IsStartable}
use Rattle.st_calls.specs.declared.argument.ArgText.{ArgText}
use Rattle.st_calls.specs.declared.call.SysCall.{SysCall}
use Rattle.st_trace.specs.declared.entry.CallResult.{CallResult}
use Rattle.st_trace.specs.declared.entry.Cause.TheVariants.{Filter}
use Rattle.st_trace.specs.declared.entry.Change.{Change}
use Rattle.st_law.specs.Laws.{IsUsedAsAnswered}
use Rattle.st_law.specs.Lawful.{IsRunning, IsHeld, IsUsedHeld, IsDeniedHeld, IsLawful, IsLawfulBack}
use Rattle.st_law.specs.Machine.{state_after}
use Rattle.st_law.specs.Sessions.{SessionFilter, session_filters, learnt_by, replied_by, verdict_or, decision}
use Rattle.st_filter.specs.Judged.{verdict_under}
use Rattle.st_filter.specs.Policies.{filters_in_force}
use Rattle.st_law.specs.State.{State, read_at, progress_of_head, snapshot_of_progress, snapshot_in, snapshot_of_message, decision_in}
use Rattle.st_law.specs.Entries.{Reloads}
use Rattle.st_law.specs.Splits.{NoneTouches}
use Rattle.st_law.specs.Threads.{History}
use Rattle.st_trace.specs.declared.entry.Way.TheVariants.{Held}
use Rattle.st_law.proofs.Invariant.{IsOpen, IfPending, Fine}
use Rattle.st_law.proofs.Reloads.{version_stays}
use Rattle.st_law.proofs.ThreadSteps.{IsCopyOf, copies_of}
use Rattle.st_law.proofs.Growth.{session_append}
use Rattle.st_law.proofs.Moves.{Moves, moves}
use Rattle.st_law.proofs.Turns.{turn_of, unlike}
use Rattle.st_law.proofs.TurnsKept.{answered_claimed}
use Rattle.st_law.proofs.Whole.{Whole, whole_of}

-- ---- copies

module _ (i : Input) (st : State) (whole : Whole i st) (q : ℕ) (answered : (st.messages q).answered ≡ true) where
  -- the number of a turn isn't the answered number
  other : (w p : ℕ) → st.turns w ≡ Some p → p ≢ q
  other w p turn same = unlike (st.messages q).answered answered (subst (λ n. (st.messages n).answered ≡ false) same (whole.turns.unanswered w p turn))

  headed : (new : State) → Moves st new → (new.messages q).words ≡ (st.messages q).words → (new.messages q).lookups ≡ (st.messages q).lookups → snapshot_in new q ≡ snapshot_in st q
  headed new moved words lookups =
      let head = moved.heads q (whole.turns.low q (answered_claimed i st whole.calls whole.turns q answered)) in
      λ k. snapshot_of_progress q (head k) (progress_of_head (head k) (words k) (lookups k))

  -- the copies of an answered number are kept by each lawful entry
  pub copies_after : (e : Entry) → IsLawful i st e → snapshot_in (state_after i st e) q ≡ snapshot_in st q
  copies_after (Copied p part place word) y =
      let differ : p ≢ q = other y.served.number p (turn_of st (st.turns y.served.number) p y.served.at) in
      headed (state_after i st (Copied p part place word)) (moves i st whole.calls (Copied p part place word) y)
      (λ k j. cond (ne_eqb p q differ k && part == j) ((st.messages q).words j ++ word ∷ []) ((st.messages q).words j)) refl
  copies_after (Looked p part name seen) y =
      let differ : p ≢ q = other y.served.number p (turn_of st (st.turns y.served.number) p y.served.at) in
      headed (state_after i st (Looked p part name seen)) (moves i st whole.calls (Looked p part name seen) y)
      refl (λ k j. cond (ne_eqb p q differ k && part == j) ((st.messages q).lookups j ++ seen ∷ []) ((st.messages q).lookups j))
  copies_after (Stored u place word) y = headed (state_after i st (Stored u place word)) (moves i st whole.calls (Stored u place word) y) refl refl
  copies_after (Entered u call regs way) y = headed (state_after i st (Entered u call regs way)) (moves i st whole.calls (Entered u call regs way) y) refl refl
  copies_after (Claimed w p) y = headed (state_after i st (Claimed w p)) (moves i st whole.calls (Claimed w p) y) refl refl
  copies_after (Faulted p errno) y = headed (state_after i st (Faulted p errno)) (moves i st whole.calls (Faulted p errno) y) refl refl
  copies_after (Answered w s v applied) y = headed (state_after i st (Answered w s v applied)) (moves i st whole.calls (Answered w s v applied) y) refl refl
  copies_after (Used u seq call regs args ids result changes) y = headed (state_after i st (Used u seq call regs args ids result changes)) (moves i st whole.calls (Used u seq call regs args ids result changes) y) refl refl
  copies_after (Reloaded u n done changes) y = headed (state_after i st (Reloaded u n done changes)) (moves i st whole.calls (Reloaded u n done changes) y) refl refl
  copies_after (Denied u seq errno cause) y = headed (state_after i st (Denied u seq errno cause)) (moves i st whole.calls (Denied u seq errno cause) y) refl refl
  copies_after (Ended u) y = headed (state_after i st (Ended u)) (moves i st whole.calls (Ended u) y) refl refl
  copies_after (Learned p n) y = headed (state_after i st (Learned p n)) (moves i st whole.calls (Learned p n) y) refl refl
  copies_after (Replied p reply n) y = headed (state_after i st (Replied p reply n)) (moves i st whole.calls (Replied p reply n) y) refl refl

  -- the number stays answered
  pub answered_after_entry : (e : Entry) → ((state_after i st e).messages q).answered ≡ true
  answered_after_entry (Answered w s v applied) = or_right (s.seq == q && applied) (st.messages q).answered answered
  answered_after_entry (Stored u place word) = answered
  answered_after_entry (Entered u call regs way) = answered
  answered_after_entry (Claimed w p) = answered
  answered_after_entry (Faulted p errno) = answered
  answered_after_entry (Used u seq call regs args ids result changes) = answered
  answered_after_entry (Reloaded u n done changes) = answered
  answered_after_entry (Denied u seq errno cause) = answered
  answered_after_entry (Ended u) = answered
  answered_after_entry (Learned p n) = answered
  answered_after_entry (Replied p reply n) = answered
  answered_after_entry (Copied p part place word) = answered
  answered_after_entry (Looked p part name seen) = answered

-- the copies that an answer was for stay its number's copies in every later state
pub record Stands (i : Input) (h : History) (s : Snapshot) : Type 0 where
  pub answered : ((looking_back i h).messages s.seq).answered ≡ true
  pub copies : snapshot_in (looking_back i h) s.seq ≡ Some s

pub answer_stands : (i : Input) → IsStartable i → (later earlier : History) (w : ℕ) (s : Snapshot) (v : Verdict) → IsLawfulBack i (later ++ Answered w s v true ∷ earlier) → Stands i (later ++ Answered w s v true ∷ earlier) s
answer_stands i startable [] earlier w s v lawful = record { answered = ap (λ b. (b && true) || ((looking_back i earlier).messages s.seq).answered) (eq-eqb s.seq s.seq refl); copies = lawful.0.copies }
answer_stands i startable (e ∷ later) earlier w s v lawful =
    let x : Stands i (later ++ Answered w s v true ∷ earlier) s = answer_stands i startable later earlier w s v lawful.1 in
    let whole : Whole i (looking_back i (later ++ Answered w s v true ∷ earlier)) = whole_of i startable (later ++ Answered w s v true ∷ earlier) lawful.1 in record {
      answered = answered_after_entry i (looking_back i (later ++ Answered w s v true ∷ earlier)) whole s.seq x.answered e;
      copies = copies_after i (looking_back i (later ++ Answered w s v true ∷ earlier)) whole s.seq x.answered e lawful.0 ∙ x.copies;
    }

-- ---- decisions

-- if the filters that were read decide, they decide whatever the session has
pub read_decides : (read session : List FilterValue) (s : Snapshot) (v : Verdict) → verdict read s ≡ v → v ≢ Unmatched → decision read session s ≡ v
read_decides read session s (Permit n ids) e some = ap (λ w. verdict_or w (verdict_from (suc (length read)) session s)) e
read_decides read session s (Refuse n errno) e some = ap (λ w. verdict_or w (verdict_from (suc (length read)) session s)) e
read_decides read session s Unmatched e some = absurd (some refl)

from_append : (n : ℕ) (fs gs : List FilterValue) (s : Snapshot) → verdict_from n fs s ≢ Unmatched → verdict_from n (fs ++ gs) s ≡ verdict_from n fs s
from_append n [] gs s some = absurd (some refl)
from_append n (f ∷ fs) gs s some = by (holds f s) some (from_append (suc n) fs gs s) where
  by : (b : Bool) → cond b (verdict_by n f.grant s.ids f.action) (verdict_from (suc n) fs s) ≢ Unmatched → (verdict_from (suc n) fs s ≢ Unmatched → verdict_from (suc n) (fs ++ gs) s ≡ verdict_from (suc n) fs s) → cond b (verdict_by n f.grant s.ids f.action) (verdict_from (suc n) (fs ++ gs) s) ≡ cond b (verdict_by n f.grant s.ids f.action) (verdict_from (suc n) fs s)
  by true some rest = refl
  by false some rest = rest some

or_append : (v first more : Verdict) → (first ≢ Unmatched → more ≡ first) → verdict_or v first ≢ Unmatched → verdict_or v more ≡ verdict_or v first
or_append (Permit n ids) first more same some = refl
or_append (Refuse n errno) first more same some = refl
or_append Unmatched first more same some = same some

-- a decision is kept when the session grows at its end
pub decision_append : (read fs gs : List FilterValue) (s : Snapshot) → decision read fs s ≢ Unmatched → decision read (fs ++ gs) s ≡ decision read fs s
decision_append read fs gs s some = or_append (verdict read s) (verdict_from (suc (length read)) fs s) (verdict_from (suc (length read)) (fs ++ gs) s) (from_append (suc (length read)) fs gs s) some

-- ---- the session grows only at its end

-- the session after later entries is the session with more filters appended
abbrev Grows : Input → History → History → Type 0
Grows i later earlier = (more : List SessionFilter) × (session_at i (later ++ earlier) ≡ session_at i earlier ++ more)

grown : (i : Input) (later earlier : History) (extra : List SessionFilter) → Grows i later earlier → (new : List SessionFilter) → new ≡ session_at i (later ++ earlier) ++ extra → (more : List SessionFilter) × (new ≡ session_at i earlier ++ more)
grown i later earlier extra x new e = (x.0 ++ extra, e ∙ ap (λ session. session ++ extra) x.1 ∙ append_assoc (session_at i earlier) x.0 extra)

pub session_grows : (i : Input) (later earlier : History) → Grows i later earlier
session_grows i [] earlier = ([], sym (append-nil (session_at i earlier)))
session_grows i (Learned q n ∷ later) earlier = grown i later earlier (learnt_by (snapshot_of_message q (message_at i (later ++ earlier) q))) (session_grows i later earlier) _ refl
session_grows i (Replied q reply n ∷ later) earlier = grown i later earlier (replied_by (item_at_number i.replies reply) (snapshot_of_message q (message_at i (later ++ earlier) q))) (session_grows i later earlier) _ refl
session_grows i (Stored u place word ∷ later) earlier = session_grows i later earlier
session_grows i (Entered u call regs way ∷ later) earlier = session_grows i later earlier
session_grows i (Claimed w p ∷ later) earlier = session_grows i later earlier
session_grows i (Copied p part place word ∷ later) earlier = session_grows i later earlier
session_grows i (Looked p part name seen ∷ later) earlier = session_grows i later earlier
session_grows i (Faulted p errno ∷ later) earlier = session_grows i later earlier
session_grows i (Answered w s v applied ∷ later) earlier = session_grows i later earlier
session_grows i (Used u seq call regs args ids result changes ∷ later) earlier = session_grows i later earlier
session_grows i (Reloaded u n done changes ∷ later) earlier = session_grows i later earlier
session_grows i (Denied u seq errno cause ∷ later) earlier = session_grows i later earlier
session_grows i (Ended u ∷ later) earlier = session_grows i later earlier

-- a decision is kept by all later entries, while the policy isn't reloaded
pub decision_stands : (i : Input) (later earlier : History) (s : Snapshot) → NoneTouches (Reloads i s.policy) later earlier → decision_in i (looking_back i earlier) s ≢ Unmatched → decision_in i (looking_back i (later ++ earlier)) s ≡ decision_in i (looking_back i earlier) s
decision_stands i later earlier s none some = let x : Grows i later earlier = session_grows i later earlier in
    let read : List FilterValue = read_at i (looking_back i earlier) s.policy s.rule in
    ap (λ version. decision (filters_in_force i.policies s.policy version s.rule) (session_filters (session_at i (later ++ earlier)) s.policy s.rule) s) (version_stays i s.policy later earlier none)
    ∙ ap (λ session. decision read (session_filters session s.policy s.rule) s) x.1
    ∙ ap (λ fs. decision read fs s) (session_append (session_at i earlier) x.0 s.policy s.rule)
    ∙ decision_append read (session_filters (session_at i earlier) s.policy s.rule) (session_filters x.0 s.policy s.rule) s some

-- ---- a call is made as it was answered

module _ (i : Input) (startable : IsStartable i) (later earlier : History) (w : ℕ) (s : Snapshot) (v : Verdict) where
  abbrev following : History
  following = later ++ Answered w s v true ∷ earlier

  answer_verdict : (later : History) → IsLawfulBack i (later ++ Answered w s v true ∷ earlier) → v ≡ verdict_under i.policies s
  answer_verdict [] lawful = lawful.0.verdict_is
  answer_verdict (e ∷ later) lawful = answer_verdict later lawful.1

  -- the copies that are decided on are those that the answer was for, and the decision is the answer's verdict if that decides
  pub same_copies : IsLawfulBack i following → (u : Snapshot) → snapshot_in (looking_back i following) s.seq ≡ Some u → u ≡ s
  same_copies lawful u e = same_Some u s (sym e ∙ (answer_stands i startable later earlier w s v lawful).copies)

  pub same_decision : IsLawfulBack i following → s.version ≡ (looking_back i following).versions s.policy → v ≢ Unmatched → decision_in i (looking_back i following) s ≡ v
  same_decision lawful version some = read_decides (read_at i (looking_back i following) s.policy s.rule) (session_filters (session_at i following) s.policy s.rule) s v
      (ap (λ n. verdict (filters_in_force i.policies s.policy n s.rule) s) (sym version) ∙ sym (answer_verdict later lawful)) some

  -- the copies of a thread's held number have the version of their policy that is in force
  version_now : IsLawfulBack i following → (t : ℕ) (call : SysCall) (regs : List ℕ) → IsRunning (looking_back i following) t → IsHeld (looking_back i following) t s.seq call regs → (u : Snapshot) → snapshot_in (looking_back i following) s.seq ≡ Some u → u.version ≡ (looking_back i following).versions u.policy
  version_now lawful t call regs running held u e =
      let st : State = looking_back i following in
      let fine : Fine st t (record { call = call; regs = regs; way = Held held.first; child = held.entered.0 }) = subst (IfPending (Fine st t)) held.entered.1 ((whole_of i startable following lawful).calls.fine t) in
      let own : IsOpen st t call regs = fine.fine running.undying in
      let copy : IsCopyOf own.head u = copies_of st s.seq own.head (ap (λ n. (st.messages n).head) (sym held.number) ∙ own.posted) u e in
      copy.version ∙ own.own.version_is ∙ ap st.versions (sym copy.policy)

  pub used_as_answered : (t : ℕ) (call : SysCall) (regs : List ℕ) (args : List ArgText) (ids : Ids) (result : CallResult) (changes : List Change) → IsLawfulBack i (Used t (Some s.seq) call regs args ids result changes ∷ following) → IsUsedAsAnswered s v call regs args ids
  used_as_answered t call regs args ids result changes lawful =
      let y : IsUsedHeld i (looking_back i following) t s.seq call regs args ids result changes = lawful.0 in
      let same : y.copies ≡ s = same_copies lawful.1 y.copies y.permitted.judged.copies in record {
        call_is = sym (ap (λ u. u.call) same) ∙ y.call_is;
        regs_are = sym (ap (λ u. u.regs) same) ∙ y.regs_are;
        args_are = y.args_are ∙ ap (λ u. u.parts) same;
        ids_are = λ some. (y.permitted.filter, sym (same_decision lawful.1 (subst (λ u. u.version ≡ (looking_back i following).versions u.policy) same y.permitted.version) some) ∙ sym (ap (decision_in i (looking_back i following)) same) ∙ y.permitted.permitted);
      }

  -- a filter that is the cause of the denial is the one that the answer named
  pub denied_as_answered : (t : ℕ) (errno : Errno) (n : ℕ) → IsLawfulBack i (Denied t (Some s.seq) errno (Filter n) ∷ following) → v ≢ Unmatched → v ≡ Refuse n errno
  denied_as_answered t errno n lawful some =
      let y : IsDeniedHeld i (looking_back i following) t s.seq errno (Filter n) = lawful.0 in
      let same : y.cause_is.0 ≡ s = same_copies lawful.1 y.cause_is.0 y.cause_is.1.copies in
      let version : s.version ≡ (looking_back i following).versions s.policy =
      subst (λ u. u.version ≡ (looking_back i following).versions u.policy) same (version_now lawful.1 t y.call y.regs y.running y.held y.cause_is.0 y.cause_is.1.copies) in
      sym (same_decision lawful.1 version some) ∙ sym (ap (decision_in i (looking_back i following)) same) ∙ y.cause_is.2
