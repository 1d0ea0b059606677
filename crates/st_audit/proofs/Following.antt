-- The ledger follows the entries.
use Rattle.std.proofs.Common.{◌≡◌, ◌⊎◌, inl, inr, ℕ, Bool, false, List, [], ◌∷◌, ◌++◌, Option, reverse, refl, ap, sym, subst, ◌∙◌}
use Rattle.std.specs.BTreeMap.{BTreeMap}
use Rattle.std.proofs.lemmas.List.{append-nil, reverse-append, reverse-reverse}
use Rattle.st_base.specs.declared.ids.Ids.{Ids}
use Rattle.st_calls.specs.declared.argument.ArgText.{ArgText}
use Rattle.st_calls.specs.declared.call.SysCall.{SysCall}
use Rattle.st_effects.specs.Changes.{owner_after}
use Rattle.st_emulation.specs.declared.emulation.Emulation.{Emulation}
use Rattle.st_filter.specs.Policies.{PoliciesValue}
use Rattle.st_law.specs.declared.input.Input.{Input}
use Rattle.st_law.specs.History.{session_at}
use Rattle.st_law.specs.Numbers.{drawn, drawn_back}
use Rattle.st_law.specs.Processes.{process_at}
use Rattle.st_law.specs.Sessions.{SessionFilter}
use Rattle.st_law.specs.Threads.{History, changes_of, left_at, owner_at, pending_at, thread_of}
use Rattle.st_trace.specs.declared.entry.CallResult.{CallResult}
use Rattle.st_trace.specs.declared.entry.Change.{Change}
use Rattle.st_trace.specs.declared.entry.Entry.{Entry}
use Rattle.st_trace.specs.declared.entry.Entry.TheVariants.{Stored, Entered, Claimed, Copied, Looked, Faulted, Answered, Used, Denied, Ended, Replied, Learned, Reloaded}
use Rattle.st_audit.specs.AuditText.{call_line, ending_text, line_by}
use Rattle.st_audit.specs.How.{Decided, args_used, decided_on, how_used, is_logged}
use Rattle.st_audit.specs.Ledger.{IsLedger, recorded_answer, entered_after, entered_in, kept_line, owner_in, row_in}
use Rattle.st_audit.specs.Rows.{Row, entered_at, row_after, row_at}
use Rattle.st_audit.specs.FromHistory.{answer_after, applied_answer, audit_from_history, decided_from_history, concerns_call, text_from_history, line_from_history}
use Rattle.st_audit.specs.declared.entered.EnteredCall.{EnteredCall}
use Rattle.st_audit.specs.declared.how.How.{How}
use Rattle.st_audit.specs.declared.ledger.Ledger.{Ledger}
use Rattle.st_audit.proofs.Rows.{entered_changed, row_of_changed}

-- how an entry changes the ledger, part by part
pub record Follows (i : Input) (old new : Ledger) (e : Entry) : Type 0 where
  pub owners : (t : ℕ) → owner_in i new.owners t ≡ owner_after t (owner_in i old.owners t) (changes_of e)
  pub rows : (p : ℕ) → row_in i new.rows p ≡ row_after (row_in i old.rows (owner_in i old.owners (thread_of e))) (owner_in i old.owners (thread_of e)) p (row_in i old.rows p) (changes_of e)
  pub entered : (t : ℕ) → entered_in new.entered t ≡ entered_after e t (entered_in old.entered t)
  pub answers : (n : ℕ) → recorded_answer new.answers n ≡ answer_after e n (recorded_answer old.answers n)

pub followed : (i : Input) (old new : Ledger) (e : Entry) (h : History) → Follows i old new e → IsLedger i old h → IsLedger i new (e ∷ h)
followed i old new e h f is = record {
  owners = λ t. f.owners t ∙ ap (λ m. owner_after t m (changes_of e)) (is.owners t);
  rows = λ p. f.rows p
      ∙ ap (λ m. row_after (row_in i old.rows m) m p (row_in i old.rows p) (changes_of e)) (is.owners (thread_of e))
      ∙ (λ k. row_after (is.rows (owner_at i h (thread_of e)) k) (owner_at i h (thread_of e)) p (is.rows p k) (changes_of e))
      ∙ sym (row_of_changed (process_at i h) (owner_at i h (thread_of e)) p (changes_of e));
  entered = λ t. f.entered t ∙ ap (entered_after e t) (is.entered t) ∙ sym (entered_changed e t (left_at i h t) (pending_at i h t));
  answers = λ n. f.answers n ∙ ap (answer_after e n) (is.answers n);
}

-- an entry that prints adds nothing to the session
printing_adds_nothing : (i : Input) (emulation : Emulation) (h : History) (e : Entry) (owners : ℕ → ℕ) (rows : ℕ → Row) (entered : ℕ → Option EnteredCall) (decided : List SessionFilter → ℕ → Option Decided)
    → line_by i owners rows entered (decided (session_at i (drawn_back (e ∷ h)))) e emulation ≡ line_by i owners rows entered (decided (session_at i (drawn_back h))) e emulation
printing_adds_nothing i emulation h (Learned n k) owners rows entered decided = refl
printing_adds_nothing i emulation h (Replied n reply k) owners rows entered decided = refl
printing_adds_nothing i emulation h _ owners rows entered decided = refl

-- what an entry prints by the policies of the run, by the session after the entry and by a ledger is what it prints by the entries before it
pub line_printed : (i : Input) (emulation : Emulation) (policies : PoliciesValue) (session : List SessionFilter) (ledger : Ledger) (h : History) (e : Entry) → policies ≡ i.policies → session ≡ session_at i (drawn_back (e ∷ h)) → IsLedger i ledger h
    → kept_line i policies session ledger e emulation ≡ line_from_history i h e emulation
line_printed i emulation policies session ledger h e read same is =
    (λ k. line_by i (λ t. is.owners t k) (λ p. is.rows p k) (λ t. is.entered t k) (λ n. decided_from_history (read k) (same k) (is.answers n k)) e emulation)
    ∙ printing_adds_nothing i emulation h e (owner_at i h) (row_at i h) (entered_at i h) (λ session n. decided_from_history i.policies session (applied_answer h n))

-- the thread and the changes of an entry that has some
pub made_by : (e : Entry) (t : ℕ) (changes : List Change)
    → ((seq : Option ℕ) × (call : SysCall) × (regs : List ℕ) × (args : List ArgText) × (ids : Ids) × (result : CallResult) × (e ≡ Used t seq call regs args ids result changes)) ⊎ ((policy : ℕ) × (done : Bool) × (e ≡ Reloaded t policy done changes))
    → (thread_of e ≡ t) × (changes_of e ≡ changes)
made_by e t changes (inl x) = (ap thread_of x.6, ap changes_of x.6)
made_by e t changes (inr x) = (ap thread_of x.2, ap changes_of x.2)

-- the rows after the changes of an entry
pub rows_noted : (i : Input) (owners : BTreeMap ℕ ℕ) (old new : BTreeMap ℕ Row) (e : Entry) (t pid : ℕ) (changes : List Change) → thread_of e ≡ t → changes_of e ≡ changes → pid ≡ owner_in i owners t
    → ((p : ℕ) → row_in i new p ≡ row_after (row_in i old pid) pid p (row_in i old p) changes)
    → (p : ℕ) → row_in i new p ≡ row_after (row_in i old (owner_in i owners (thread_of e))) (owner_in i owners (thread_of e)) p (row_in i old p) (changes_of e)
rows_noted i owners old new e t pid changes thread all same noted p =
    let m : pid ≡ owner_in i owners (thread_of e) = same ∙ ap (owner_in i owners) (sym thread) in
    noted p ∙ ap (λ n. row_after (row_in i old n) n p (row_in i old p) changes) m
    ∙ ap (row_after (row_in i old (owner_in i owners (thread_of e))) (owner_in i owners (thread_of e)) p (row_in i old p)) (sym all)

-- ---- steps in between

module _ (i : Input) (ledger : Ledger) where
  -- a step in between leaves the ledger as it is
  pub kept_still : (h : History) (e : Entry) → concerns_call e ≡ false → IsLedger i ledger h → IsLedger i ledger (e ∷ h)
  kept_still h (Stored t place word) none is = record { owners = is.owners; rows = is.rows; entered = is.entered; answers = is.answers }
  kept_still h (Claimed w q) none is = record { owners = is.owners; rows = is.rows; entered = is.entered; answers = is.answers }
  kept_still h (Copied q part place word) none is = record { owners = is.owners; rows = is.rows; entered = is.entered; answers = is.answers }
  kept_still h (Looked q part name seen) none is = record { owners = is.owners; rows = is.rows; entered = is.entered; answers = is.answers }
  kept_still h (Faulted q errno) none is = record { owners = is.owners; rows = is.rows; entered = is.entered; answers = is.answers }
  kept_still h (Ended t) none is = record { owners = is.owners; rows = is.rows; entered = is.entered; answers = is.answers }
  kept_still h (Entered t call regs way) none is = cc
  kept_still h (Answered w s verdict applied) none is = cc
  kept_still h (Replied q reply n) none is = cc
  kept_still h (Learned q n) none is = cc
  kept_still h (Used t seq call regs args ids result changes) none is = cc
  kept_still h (Denied t seq errno cause) none is = cc
  kept_still h (Reloaded t n done changes) none is = cc

module _ (i : Input) (emulation : Emulation) (policies : PoliciesValue) (session : List SessionFilter) (ledger : Ledger) where
  -- a step in between prints nothing
  prints_nothing : (e : Entry) → concerns_call e ≡ false → kept_line i policies session ledger e emulation ≡ []
  prints_nothing (Stored t place word) none = refl
  prints_nothing (Claimed w q) none = refl
  prints_nothing (Copied q part place word) none = refl
  prints_nothing (Looked q part name seen) none = refl
  prints_nothing (Faulted q errno) none = refl
  prints_nothing (Ended t) none = refl
  prints_nothing (Entered t call regs way) none = cc
  prints_nothing (Answered w s verdict applied) none = cc
  prints_nothing (Replied q reply n) none = cc
  prints_nothing (Learned q n) none = cc
  prints_nothing (Used t seq call regs args ids result changes) none = cc
  prints_nothing (Denied t seq errno cause) none = cc
  prints_nothing (Reloaded t n done changes) none = cc

  pub printed_still : (e : Entry) (text : List ℕ) → concerns_call e ≡ false → text ≡ text ++ kept_line i policies session ledger e emulation
  printed_still e text none = sym (append-nil text) ∙ ap (λ line. text ++ line) (sym (prints_nothing e none))

-- ---- one more entry

module _ (i : Input) (trace : List Entry) (e : Entry) where
  newest_first : reverse (trace ++ e ∷ []) ≡ e ∷ reverse trace
  newest_first = reverse-append trace (e ∷ [])

  newest_drawn : reverse (drawn (trace ++ e ∷ [])) ≡ drawn_back (e ∷ reverse trace)
  newest_drawn = reverse-reverse (drawn_back (reverse (trace ++ e ∷ []))) ∙ ap drawn_back newest_first

  pub kept_more : (old new : Ledger) → IsLedger i old (reverse trace) → ((h : History) → IsLedger i old h → IsLedger i new (e ∷ h)) → IsLedger i new (reverse (trace ++ e ∷ []))
  kept_more old new kept noted = subst (IsLedger i new) (sym newest_first) (noted (reverse trace) kept)

  pub audit_more : (emulation : Emulation) (policies : PoliciesValue) (session : List SessionFilter) (ledger : Ledger) (text new : List ℕ) → policies ≡ i.policies → session ≡ session_at i (reverse (drawn (trace ++ e ∷ []))) → text ≡ audit_from_history i trace emulation
      → IsLedger i ledger (reverse trace) → new ≡ text ++ kept_line i policies session ledger e emulation → new ≡ audit_from_history i (trace ++ e ∷ []) emulation
  audit_more emulation policies session ledger text new read same written kept more =
      more ∙ ap (λ line. text ++ line) (line_printed i emulation policies session ledger (reverse trace) e read (same ∙ ap (session_at i) newest_drawn) kept)
      ∙ ap (λ front. front ++ line_from_history i (reverse trace) e emulation) written ∙ sym (ap (λ h. text_from_history i h emulation) newest_first)

-- what a call that was made prints, by what is known of it
pub used_line : (emulation : Emulation) (i : Input) (policies : PoliciesValue) (session : List SessionFilter) (ledger : Ledger) (e : Entry) (t : ℕ) (seq : Option ℕ) (call : SysCall) (regs : List ℕ) (args : List ArgText) (ids : Ids) (result : CallResult) (changes : List Change)
    (text new : List ℕ) (slice printed : List ArgText) (how : How) (log : Bool) (decided : Option Decided)
    → e ≡ Used t seq call regs args ids result changes
    → decided ≡ decided_on (λ n. decided_from_history policies session (recorded_answer ledger.answers n)) seq
    → slice ≡ args → printed ≡ args_used seq slice → how ≡ how_used seq decided ids → log ≡ is_logged decided
    → new ≡ text ++ call_line i (row_in i ledger.rows) (owner_in i ledger.owners t) t call regs (ending_text printed how result log emulation) emulation
    → new ≡ text ++ kept_line i policies session ledger e emulation
used_line emulation i policies session ledger e t seq call regs args ids result changes text new slice printed how log decided is same all those went marked last =
    last
    ∙ (λ k. text ++ call_line i (row_in i ledger.rows) (owner_in i ledger.owners t) t call regs
    (ending_text ((those ∙ ap (args_used seq) all) k) ((went ∙ ap (λ d. how_used seq d ids) same) k) result ((marked ∙ ap is_logged same) k) emulation) emulation)
    ∙ sym (ap (λ each. text ++ kept_line i policies session ledger each emulation) is)
