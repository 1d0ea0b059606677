-- What the entries of a history record of held calls, by their numbers, is what looking back says of the drawings of these numbers, if the drawings
-- are lawful.
use native.Mathlib.Omega.{arith}
use Rattle.std.proofs.Common.{◌≡◌, ◌≤◌, ◌⊎◌, ℕ, suc, Bool, true, false, cond, ◌==◌, ◌&&◌, ◌||◌, inl, inr, List, [], ◌∷◌, ◌++◌, Option, Some, None, option_map, reverse, refl, sym, ap, subst, ◌∙◌}
use Rattle.std.proofs.lemmas.Bool.{and_parts, eq-eqb, eqb-false, eqb-true, ne_eqb, or_parts, true≢false}
use Rattle.std.proofs.lemmas.List.{reverse-reverse}
use Rattle.std.specs.List.{fold}
use Rattle.st_base.specs.declared.errno.Errno.{Errno}
use Rattle.st_base.specs.declared.ids.Ids.{Ids}
use Rattle.st_calls.specs.declared.argument.ArgText.{ArgText}
use Rattle.st_calls.specs.declared.call.SysCall.{SysCall}
use Rattle.st_calls.specs.declared.judged.Snapshot.{Snapshot}
use Rattle.st_calls.specs.declared.judged.Verdict.{Verdict}
use Rattle.st_emulation.specs.declared.emulation.Emulation.{Emulation}
use Rattle.st_filter.specs.Formula.{FilterValue}
use Rattle.st_filter.specs.Judging.{verdict}
use Rattle.st_model.specs.Tree.{is_number}
use Rattle.st_trace.specs.declared.entry.CallResult.{CallResult}
use Rattle.st_trace.specs.declared.entry.CallResult.TheVariants.{Failed}
use Rattle.st_trace.specs.declared.entry.Cause.{Cause}
use Rattle.st_trace.specs.declared.entry.Cause.TheVariants.{Filter, NoFilter, Fault, Link}
use Rattle.st_trace.specs.declared.entry.Change.{Change}
use Rattle.st_trace.specs.declared.entry.Entry.{Entry}
use Rattle.st_trace.specs.declared.entry.Entry.TheVariants.{Stored, Entered, Claimed, Copied, Looked, Faulted, Answered, Used, Denied, Ended, Replied, Learned, Reloaded}
use Rattle.st_trace.specs.declared.entry.Way.TheVariants.{Fast, Barred, Held, Untraced}
use Rattle.st_law.specs.declared.input.Input.{Input}
use Rattle.st_law.specs.History.{looking_back, session_at}
use Rattle.st_law.specs.Inputs.{IsStartable}
use Rattle.st_law.specs.Lawful.{IsDeniedHeld, IsJudged, IsLawful, IsLawfulBack, IsUsedHeld, Lawful}
use Rattle.st_law.specs.Meaning.{AreCopies}
use Rattle.st_law.specs.Messages.{Head, is_answered_at, is_closed_at, is_renewed_by}
use Rattle.st_law.specs.Numbers.{drawings_after_change, drawings_at, drawn, drawn_back, drawn_changes, drawn_entry}
use Rattle.st_law.specs.Sessions.{SessionFilter, decision, session_filters}
use Rattle.st_filter.specs.Policies.{filters_in_force}
use Rattle.st_law.specs.State.{State, decision_in, is_live, is_live_by, read_at, snapshot_in}
use Rattle.st_law.specs.Threads.{History}
use Rattle.st_law.proofs.Asked.{copies}
use Rattle.st_law.proofs.MessageHistory.{closed_stays}
use Rattle.st_law.proofs.Standing.{Stands, answer_stands}
use Rattle.st_law.proofs.Whole.{live_number}
use Rattle.st_reached.specs.Reached.{IsHolding}
use Rattle.st_reached.proofs.Owning.{own_head}
use Rattle.st_reached.proofs.Reached.{Reached, reached_back}
use Rattle.st_audit.specs.AuditText.{audit_by_number, audit_back, call_line, denied_line, ending_text, audit_line}
use Rattle.st_audit.specs.How.{Decided, decided_by, decided_in, decided_on, deciding_number, how_denied, how_used, is_logged, parts_of, seq_of_decision}
use Rattle.st_audit.specs.FromHistory.{applied_answer, answer_with, audit_from_history, decided_after, decided_from_history, filters_for_copies, text_from_history, line_from_history}
use Rattle.st_audit.proofs.Deciding.{decided_alike}
use Rattle.st_audit.proofs.LastDrawing.{AreLeft, IsRedrawn, answered_low, counted_back, redrawn_or_left}
use Rattle.st_audit.proofs.Unnumbered.{same_decided, same_entered, same_owner, same_row}

-- ---- answers

-- if the last drawing of a number was answered and its call is open, some entry is the newest applied answer to the number
record Found (h : History) (n q : ℕ) : Type 0 where
  later : History
  worker : ℕ
  written : Snapshot
  verdict : Verdict
  earlier : History
  split : drawn_back h ≡ later ++ Answered worker (record written { seq = q }) verdict true ∷ earlier
  newest : applied_answer h n ≡ Some (answer_with written verdict)

following : (e : Entry) (h : History) (n q : ℕ) (x : Found h n q) → applied_answer (e ∷ h) n ≡ applied_answer h n → Found (e ∷ h) n q
following e h n q x same = record {
  later = drawn_entry (drawings_at h) e ∷ x.later;
  worker = x.worker;
  written = x.written;
  verdict = x.verdict;
  earlier = x.earlier;
  split = ap (λ rest. drawn_entry (drawings_at h) e ∷ rest) x.split;
  newest = same ∙ x.newest;
}

-- if a call is open after an entry, it was open before the entry
was_open : (q : ℕ) (e : Entry) (h : History) → is_closed_at (e ∷ h) q ≡ false → is_closed_at h q ≡ false
was_open q e h unclosed = by (is_closed_at h q) refl where
  by : (b : Bool) → is_closed_at h q ≡ b → is_closed_at h q ≡ false
  by false is = is
  by true is = absurd (true≢false (sym (closed_stays q e h is) ∙ unclosed))

module _ (h : History) (n q : ℕ) (means : (drawings_at h).drawing_of n ≡ q) where
  -- an entry that has another drawing has another number
  other_number : (m : ℕ) → ((drawings_at h).drawing_of m == q) ≡ false → (m == n) ≡ false
  other_number m other = ne_eqb m n (λ same. eqb-false ((drawings_at h).drawing_of m) q other (ap (drawings_at h).drawing_of same ∙ means))

  -- another call is made or denied
  another : (seq : Option ℕ) → is_number q (option_map (drawings_at h).drawing_of seq) ≡ false → is_number n seq ≡ false
  another None other = refl
  another (Some m) other = other_number m other

  kept_open : (seq : Option ℕ) (closed : Bool) → (is_number q (option_map (drawings_at h).drawing_of seq) || closed) ≡ false → cond (is_number n seq) None (applied_answer h n) ≡ applied_answer h n
  kept_open seq closed unclosed = ap (λ b. cond b None (applied_answer h n)) (another seq (or_parts (is_number q (option_map (drawings_at h).drawing_of seq)) closed unclosed).0)

  -- an answer to the drawing is one to its number
  module _ (made : 1 ≤ q) (w : ℕ) (s : Snapshot) (v : Verdict) (applied : Bool) where
    abbrev is_here : Bool
    is_here = ((drawings_at h).drawing_of s.seq == q) && applied

    not_here : (b : Bool) → (s.seq == n) ≡ b → is_here ≡ false → (b && applied) ≡ false
    not_here false e none = refl
    not_here true e none = sym (ap (λ c. c && applied) (eq-eqb ((drawings_at h).drawing_of s.seq) q (ap (drawings_at h).drawing_of (eqb-true s.seq n e) ∙ means))) ∙ none

    answered_here : (is_answered_at (drawn_back h) q ≡ true → Found h n q) → (b : Bool) → is_here ≡ b → ((b || is_answered_at (drawn_back h) q) ≡ true) → Found (Answered w s v applied ∷ h) n q
    answered_here older true e answered =
        let both = and_parts ((drawings_at h).drawing_of s.seq == q) applied e in
        let same : (drawings_at h).drawing_of s.seq ≡ q = eqb-true ((drawings_at h).drawing_of s.seq) q both.0 in
        let number : s.seq ≡ n = (counted_back h).apart s.seq n (subst (λ p. 1 ≤ p) (sym same) made) (same ∙ sym means) in record {
          later = [];
          worker = w;
          written = s;
          verdict = v;
          earlier = drawn_back h;
          split = λ k. Answered w (record s { seq = same k }) v (both.1 k) ∷ drawn_back h;
          newest = λ k. cond (eq-eqb s.seq n number k && both.1 k) (Some (answer_with s v)) (applied_answer h n);
        }
    answered_here older false e answered = following (Answered w s v applied) h n q (older answered)
        (ap (λ c. cond c (Some (answer_with s v)) (applied_answer h n)) (not_here (s.seq == n) refl e))

-- a number that is drawn now means another drawing than those that were answered
module _ (h : History) (n q : ℕ) (answered : is_answered_at (drawn_back h) q ≡ true) where
  drawn_anew : suc (drawings_at h).count ≤ q → ⊥
  drawn_anew high = let low = answered_low h q answered in omega (arith, high, low)

  entered_over : (u : ℕ) (call : SysCall) (regs : List ℕ) (m : ℕ) → ((drawings_at h).drawing_of n ≡ q → Found h n q) → (b : Bool) → (n == m) ≡ b
      → cond b (suc (drawings_at h).count) ((drawings_at h).drawing_of n) ≡ q → Found (Entered u call regs (Held m) ∷ h) n q
  entered_over u call regs m older true e means = absurd (drawn_anew (omega (arith, means)))
  entered_over u call regs m older false e means = following (Entered u call regs (Held m)) h n q (older means)
      (ap (λ b. cond b None (applied_answer h n)) (ne_eqb m n (λ same. eqb-false n m e (sym same))))

  used_over : (u : ℕ) (seq : Option ℕ) (call : SysCall) (regs : List ℕ) (args : List ArgText) (ids : Ids) (result : CallResult) (changes : List Change) → ((drawings_at h).drawing_of n ≡ q → Found h n q)
      → is_closed_at (drawn_back (Used u seq call regs args ids result changes ∷ h)) q ≡ false → (fold drawings_after_change (drawings_at h) changes).drawing_of n ≡ q
      → IsRedrawn n (drawings_at h) changes ⊎ AreLeft n (drawings_at h) changes → Found (Used u seq call regs args ids result changes ∷ h) n q
  used_over u seq call regs args ids result changes older unclosed means (inl high) = absurd (drawn_anew (omega (arith, high, means)))
  used_over u seq call regs args ids result changes older unclosed means (inr left) =
      let meant : (drawings_at h).drawing_of n ≡ q = sym left.0 ∙ means in
      following (Used u seq call regs args ids result changes) h n q (older meant)
      (left.1 (cond (is_number n seq) None (applied_answer h n))
      ∙ kept_open h n q meant seq (fold (is_renewed_by q) (is_closed_at (drawn_back h) q) (drawn_changes (drawings_at h).drawing_of (drawings_at h).count changes)) unclosed)

  reloaded_over : (u policy : ℕ) (done : Bool) (changes : List Change) → ((drawings_at h).drawing_of n ≡ q → Found h n q) → (fold drawings_after_change (drawings_at h) changes).drawing_of n ≡ q
      → IsRedrawn n (drawings_at h) changes ⊎ AreLeft n (drawings_at h) changes → Found (Reloaded u policy done changes ∷ h) n q
  reloaded_over u policy done changes older means (inl high) = absurd (drawn_anew (omega (arith, high, means)))
  reloaded_over u policy done changes older means (inr left) =
      following (Reloaded u policy done changes) h n q (older (sym left.0 ∙ means)) (left.1 (applied_answer h n))

found : (h : History) (n q : ℕ) → (drawings_at h).drawing_of n ≡ q → 1 ≤ q → is_answered_at (drawn_back h) q ≡ true → is_closed_at (drawn_back h) q ≡ false → Found h n q
found [] n q means made answered unclosed = absurd (cc)
found (Answered w s v applied ∷ h) n q means made answered unclosed =
    answered_here h n q means made w s v applied (λ older. found h n q means made older unclosed) (((drawings_at h).drawing_of s.seq == q) && applied) refl answered
found (Entered u call regs (Held m) ∷ h) n q means made answered unclosed =
    entered_over h n q answered u call regs m (λ meant. found h n q meant made answered unclosed) (n == m) refl means
found (Used u seq call regs args ids result changes ∷ h) n q means made answered unclosed =
    used_over h n q answered u seq call regs args ids result changes
    (λ meant. found h n q meant made answered (was_open q (drawn_entry (drawings_at h) (Used u seq call regs args ids result changes)) (drawn_back h) unclosed))
    unclosed means (redrawn_or_left n (drawings_at h) changes)
found (Denied u seq errno cause ∷ h) n q means made answered unclosed =
    following (Denied u seq errno cause) h n q
    (found h n q means made answered (was_open q (drawn_entry (drawings_at h) (Denied u seq errno cause)) (drawn_back h) unclosed))
    (kept_open h n q means seq (is_closed_at (drawn_back h) q) unclosed)
found (Reloaded u policy done changes ∷ h) n q means made answered unclosed =
    reloaded_over h n q answered u policy done changes
    (λ meant. found h n q meant made answered (was_open q (drawn_entry (drawings_at h) (Reloaded u policy done changes)) (drawn_back h) unclosed))
    means (redrawn_or_left n (drawings_at h) changes)
found (Entered u call regs Fast ∷ h) n q means made answered unclosed = following (Entered u call regs Fast) h n q (found h n q means made answered unclosed) refl
found (Entered u call regs (Barred m) ∷ h) n q means made answered unclosed = following (Entered u call regs (Barred m)) h n q (found h n q means made answered unclosed) refl
found (Entered u call regs Untraced ∷ h) n q means made answered unclosed = following (Entered u call regs Untraced) h n q (found h n q means made answered unclosed) refl
found (Stored u place word ∷ h) n q means made answered unclosed = following (Stored u place word) h n q (found h n q means made answered unclosed) refl
found (Claimed w m ∷ h) n q means made answered unclosed = following (Claimed w m) h n q (found h n q means made answered unclosed) refl
found (Copied m part place word ∷ h) n q means made answered unclosed = following (Copied m part place word) h n q (found h n q means made answered unclosed) refl
found (Looked m part name seen ∷ h) n q means made answered unclosed = following (Looked m part name seen) h n q (found h n q means made answered unclosed) refl
found (Faulted m errno ∷ h) n q means made answered unclosed = following (Faulted m errno) h n q (found h n q means made answered unclosed) refl
found (Ended u ∷ h) n q means made answered unclosed = following (Ended u) h n q (found h n q means made answered unclosed) refl
found (Replied m reply k ∷ h) n q means made answered unclosed = following (Replied m reply k) h n q (found h n q means made answered unclosed) refl
found (Learned m k ∷ h) n q means made answered unclosed = following (Learned m k) h n q (found h n q means made answered unclosed) refl

-- the call of a live drawing is open
open_by : (head : Option Head) (closed : Bool) (dying : ℕ → Bool) → is_live_by head closed dying ≡ true → closed ≡ false
open_by None closed dying live = cc
open_by (Some head) false dying live = refl
open_by (Some head) true dying live = cc

verdict_of_answer : (i : Input) (later earlier : History) (w : ℕ) (s : Snapshot) (v : Verdict) → IsLawfulBack i (later ++ Answered w s v true ∷ earlier) → v ≡ verdict (filters_for_copies i.policies s) s
verdict_of_answer i [] earlier w s v lawful = lawful.0.verdict_is
verdict_of_answer i (e ∷ later) earlier w s v lawful = verdict_of_answer i later earlier w s v lawful.1

-- if the last drawing of a number is live and was answered, it has the copies of the newest answer to the number, whose verdict is that of the
-- filters in force
record IsRecordedOf (i : Input) (h : History) (n q : ℕ) : Type 0 where
  written : Snapshot
  given : Verdict
  newest : applied_answer h n ≡ Some (answer_with written given)
  there : snapshot_in (looking_back i (drawn_back h)) q ≡ Some (record written { seq = q })
  says : given ≡ verdict (filters_for_copies i.policies written) (record written { seq = q })
  version : written.version ≡ (looking_back i (drawn_back h)).versions written.policy

module _ (i : Input) (startable : IsStartable i) where
  is_open : (u : History) (q : ℕ) → is_live (looking_back i u) q ≡ true → is_closed_at u q ≡ false
  is_open u q live = let st : State = looking_back i u in open_by (st.messages q).head (st.messages q).closed (λ t. (st.threads t).dying) live

  -- live copies have the version of their policy that is in force
  version_now : (st : State) → Reached i st → (q : ℕ) (s : Snapshot) → is_live st q ≡ true → snapshot_in st q ≡ Some s → s.version ≡ st.versions s.policy
  version_now st reached q s live there =
      let copy : AreCopies st q s = (copies st q s).0 there in
      let x : IsHolding st copy.head.tid q = reached.owned.own q copy.head live copy.posted in
      copy.version_is ∙ (own_head st reached.owned i reached.whole.calls q copy.head live copy.posted x.entered x.pending).version_is ∙ ap st.versions (sym copy.policy_is)

  printed : (h : History) (n q : ℕ) → (drawings_at h).drawing_of n ≡ q → IsLawfulBack i (drawn_back h) → is_answered_at (drawn_back h) q ≡ true → is_live (looking_back i (drawn_back h)) q ≡ true → IsRecordedOf i h n q
  printed h n q means lawful answered live =
      let st : State = looking_back i (drawn_back h) in
      let reached : Reached i st = reached_back i startable (drawn_back h) lawful in
      let made : 1 ≤ q = live_number st reached.whole.posted q live in
      let x : Found h n q = found h n q means made answered (is_open (drawn_back h) q live) in
      let own : Snapshot = record x.written { seq = q } in
      let same : IsLawfulBack i (x.later ++ Answered x.worker own x.verdict true ∷ x.earlier) = subst (IsLawfulBack i) x.split lawful in
      let stands : Stands i (x.later ++ Answered x.worker own x.verdict true ∷ x.earlier) own = answer_stands i startable x.later x.earlier x.worker own x.verdict same in
      let there : snapshot_in st q ≡ Some own = ap (λ u. snapshot_in (looking_back i u) q) x.split ∙ stands.copies in
      record {
        written = x.written;
        given = x.verdict;
        newest = x.newest;
        there = there;
        says = verdict_of_answer i x.later x.earlier x.worker own x.verdict same;
        version = version_now st reached q own live there;
      }

  -- ---- what decides

  -- what the entries say of the call of a number, and what the law says of that of a drawing
  abbrev by_entries : History → ℕ → Option Decided
  by_entries h n = decided_from_history i.policies (session_at i (drawn_back h)) (applied_answer h n)

  abbrev by_law : History → ℕ → Option Decided
  by_law h q = decided_in i (looking_back i (drawn_back h)) q

  decided_same : (h : History) (n q : ℕ) → (drawings_at h).drawing_of n ≡ q → IsLawfulBack i (drawn_back h) → is_answered_at (drawn_back h) q ≡ true → is_live (looking_back i (drawn_back h)) q ≡ true → by_entries h n ≡ by_law h q
  decided_same h n q means lawful answered live =
      let x : IsRecordedOf i h n q = printed h n q means lawful answered live in
      let session : List SessionFilter = session_at i (drawn_back h) in
      let own : Snapshot = record x.written { seq = q } in
      ap (decided_from_history i.policies session) x.newest
      ∙ ap Some (sym (same_decided i.policies session x.written q x.given))
      ∙ (λ k. Some (decided_after i.policies session own (x.says k)))
      ∙ ap Some (decided_alike i.policies session own)
      ∙ (λ k. let those : List FilterValue = filters_in_force i.policies own.policy (x.version k) own.rule in
      Some (decided_by those session own (deciding_number (decision those (session_filters session own.policy own.rule) own))))
      ∙ sym (ap (option_map (λ s. decided_by (read_at i (looking_back i (drawn_back h)) s.policy s.rule) session s (deciding_number (decision_in i (looking_back i (drawn_back h)) s)))) x.there)

  -- ---- lines

  module _ (emulation : Emulation) (h : History) where
    abbrev drawing_of : ℕ → ℕ
    drawing_of = (drawings_at h).drawing_of

    -- the line of an entry of numbers, and that of the entry of their drawings
    abbrev SameLine : Entry → Type 0
    SameLine e = line_from_history i h e emulation ≡ audit_line i (drawn_back h) (drawn_entry (drawings_at h) e) emulation

    used_fast : (u : ℕ) (call : SysCall) (regs : List ℕ) (args : List ArgText) (ids : Ids) (result : CallResult) (changes : List Change) → SameLine (Used u None call regs args ids result changes)
    used_fast u call regs args ids result changes =
        λ k. call_line i (λ p. sym (same_row i h p) k) (sym (same_owner i h u) k) u call regs (ending_text [] (how_used None None ids) result false emulation) emulation

    used_held : (u n : ℕ) (call : SysCall) (regs : List ℕ) (args : List ArgText) (ids : Ids) (result : CallResult) (changes : List Change) → by_entries h n ≡ by_law h (drawing_of n) → SameLine (Used u (Some n) call regs args ids result changes)
    used_held u n call regs args ids result changes e =
        λ k. call_line i (λ p. sym (same_row i h p) k) (sym (same_owner i h u) k) u call regs (ending_text args (how_used (Some n) (e k) ids) result (is_logged (e k)) emulation) emulation

    how_same : (seq : Option ℕ) (cause : Cause) → how_denied seq cause ≡ how_denied (option_map drawing_of seq) cause
    how_same None cause = refl
    how_same (Some n) (Filter m) = refl
    how_same (Some n) NoFilter = refl
    how_same (Some n) Fault = refl
    how_same (Some n) (Link name) = refl

    denied_same : (u : ℕ) (seq : Option ℕ) (errno : Errno) (cause : Cause)
        → decided_on (by_entries h) (seq_of_decision seq cause) ≡ decided_on (by_law h) (seq_of_decision (option_map drawing_of seq) cause) → SameLine (Denied u seq errno cause)
    denied_same u seq errno cause e =
        λ k. denied_line i (λ p. sym (same_row i h p) k) (sym (same_owner i h u) k) u (sym (same_entered i h u) k) (ending_text (parts_of (e k)) (how_same seq cause k) (Failed errno) (is_logged (e k)) emulation) emulation

    barred_same : (cause : Cause) → decided_on (by_entries h) (seq_of_decision None cause) ≡ decided_on (by_law h) (seq_of_decision None cause)
    barred_same (Filter n) = refl
    barred_same NoFilter = refl
    barred_same Fault = refl
    barred_same (Link name) = refl

    module _ (lawful : IsLawfulBack i (drawn_back h)) where
      judged_same : (n : ℕ) (s : Snapshot) → IsJudged (looking_back i (drawn_back h)) (drawing_of n) s → is_live (looking_back i (drawn_back h)) (drawing_of n) ≡ true → by_entries h n ≡ by_law h (drawing_of n)
      judged_same n s judged live = decided_same h n (drawing_of n) refl lawful judged.answered live

      cause_same : (u n : ℕ) (errno : Errno) (cause : Cause) → IsDeniedHeld i (looking_back i (drawn_back h)) u (drawing_of n) errno cause
          → decided_on (by_entries h) (seq_of_decision (Some n) cause) ≡ decided_on (by_law h) (seq_of_decision (Some (drawing_of n)) cause)
      cause_same u n errno (Filter m) y = judged_same n y.cause_is.0 y.cause_is.1 y.held.live
      cause_same u n errno NoFilter y = judged_same n y.cause_is.0 y.cause_is.1 y.held.live
      cause_same u n errno Fault y = refl
      cause_same u n errno (Link name) y = judged_same n y.cause_is.0 y.cause_is.2.judged y.held.live

      line_same : (e : Entry) → IsLawful i (looking_back i (drawn_back h)) (drawn_entry (drawings_at h) e) → SameLine e
      line_same (Used u None call regs args ids result changes) y = used_fast u call regs args ids result changes
      line_same (Used u (Some n) call regs args ids result changes) y =
          let held : IsUsedHeld i (looking_back i (drawn_back h)) u (drawing_of n) call regs args ids result (drawn_changes drawing_of (drawings_at h).count changes) = y in
          used_held u n call regs args ids result changes (judged_same n held.copies held.permitted.judged held.held.live)
      line_same (Denied u None errno cause) y = denied_same u None errno cause (barred_same cause)
      line_same (Denied u (Some n) errno cause) y = denied_same u (Some n) errno cause (cause_same u n errno cause y)
      line_same (Stored u place word) y = refl
      line_same (Entered u call regs way) y = refl
      line_same (Claimed w n) y = refl
      line_same (Copied n part place word) y = refl
      line_same (Looked n part name seen) y = refl
      line_same (Faulted n errno) y = refl
      line_same (Answered w s v applied) y = refl
      line_same (Ended u) y = refl
      line_same (Replied n reply k) y = refl
      line_same (Learned n k) y = refl
      line_same (Reloaded u n done changes) y = refl

  audit_back_same : (emulation : Emulation) (h : History) → IsLawfulBack i (drawn_back h) → text_from_history i h emulation ≡ audit_back i (drawn_back h) emulation
  audit_back_same emulation [] lawful = refl
  audit_back_same emulation (e ∷ h) lawful = λ k. audit_back_same emulation h lawful.1 k ++ line_same emulation h lawful.1 e lawful.0 k

  -- what is recorded of a trace of numbers is the audit of its drawings
  pub audit_same : (emulation : Emulation) (trace : List Entry) → Lawful i (drawn trace) → audit_from_history i trace emulation ≡ audit_by_number i trace emulation
  audit_same emulation trace lawful = let same : reverse (drawn trace) ≡ drawn_back (reverse trace) = reverse-reverse (drawn_back (reverse trace)) in
      audit_back_same emulation (reverse trace) (subst (IsLawfulBack i) same lawful) ∙ ap (λ h. audit_back i h emulation) (sym same)
