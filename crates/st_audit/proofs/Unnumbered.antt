-- What looking back says of threads and processes is the same of a history of numbers and of its drawings: it doesn't depend on the numbers of
-- messages.
use Rattle.std.proofs.Common.{◌≡◌, ℕ, suc, cond, List, [], ◌∷◌, fold, length, Option, refl, sym, ap, ◌∙◌}
use Rattle.st_calls.specs.declared.judged.Snapshot.{Snapshot}
use Rattle.st_calls.specs.declared.judged.Verdict.{Verdict}
use Rattle.st_calls.specs.declared.judged.Verdict.TheVariants.{Permit, Refuse, Unmatched}
use Rattle.st_effects.specs.Changes.{owner_after, owner_after_change, process_after, process_after_change}
use Rattle.st_filter.specs.Formula.{FilterValue}
use Rattle.st_filter.specs.Judging.{holds, verdict_by, verdict_from}
use Rattle.st_filter.specs.Policies.{PoliciesValue}
use Rattle.st_model.specs.Process.{Process}
use Rattle.st_trace.specs.declared.entry.Change.{Change}
use Rattle.st_trace.specs.declared.entry.Change.TheVariants.{Renewed}
use Rattle.st_trace.specs.declared.entry.Entry.{Entry}
use Rattle.st_trace.specs.declared.entry.Entry.TheVariants.{Stored, Used, Reloaded}
use Rattle.st_law.specs.declared.input.Input.{Input}
use Rattle.st_law.specs.Numbers.{Drawings, drawings_at, drawn_back, drawn_changes, drawn_entry}
use Rattle.st_law.specs.Processes.{process_at}
use Rattle.st_law.specs.Sessions.{SessionFilter, session_filters}
use Rattle.st_law.specs.Threads.{History, changes_of, left_at, owner_at, pending_at, thread_of}
use Rattle.st_audit.specs.declared.entered.EnteredCall.{EnteredCall}
use Rattle.st_audit.specs.FromHistory.{decided_after, filters_for_copies}
use Rattle.st_audit.specs.How.{decided_by, deciding_number}
use Rattle.st_audit.specs.Ledger.{entered_after}
use Rattle.st_audit.specs.Rows.{entered_at, printed_row, row_at}
use Rattle.st_audit.proofs.Rows.{entered_changed}

-- ---- an entry

module _ (drawing_of : ℕ → ℕ) where
  owner_by_changes : (t owner count : ℕ) (changes : List Change) → owner_after t owner (drawn_changes drawing_of count changes) ≡ owner_after t owner changes
  owner_by_changes t owner count [] = refl
  owner_by_changes t owner count (Renewed old new ∷ changes) = owner_by_changes t owner (suc count) changes
  owner_by_changes t owner count (change ∷ changes) = owner_by_changes t (owner_after_change t owner change) count changes

  process_by_changes : (processes : ℕ → Process) (m p : ℕ) (before : Process) (count : ℕ) (changes : List Change)
      → fold (process_after_change processes m p) before (drawn_changes drawing_of count changes) ≡ fold (process_after_change processes m p) before changes
  process_by_changes processes m p before count [] = refl
  process_by_changes processes m p before count (Renewed old new ∷ changes) = process_by_changes processes m p before (suc count) changes
  process_by_changes processes m p before count (change ∷ changes) = process_by_changes processes m p (process_after_change processes m p before change) count changes

module _ (drawings : Drawings) where
  changes_drawn : (e : Entry) → changes_of (drawn_entry drawings e) ≡ drawn_changes drawings.drawing_of drawings.count (changes_of e)
  changes_drawn (Used t seq call regs args ids result changes) = refl
  changes_drawn (Reloaded t policy done changes) = refl
  changes_drawn (Stored t place word) = refl
  changes_drawn _ = refl

  thread_drawn : (e : Entry) → thread_of (drawn_entry drawings e) ≡ thread_of e
  thread_drawn (Used t seq call regs args ids result changes) = refl
  thread_drawn (Reloaded t policy done changes) = refl
  thread_drawn (Stored t place word) = refl
  thread_drawn _ = refl

  entered_drawn : (e : Entry) (t : ℕ) (before : Option EnteredCall) → entered_after (drawn_entry drawings e) t before ≡ entered_after e t before
  entered_drawn (Used u seq call regs args ids result changes) t before = refl
  entered_drawn (Reloaded u policy done changes) t before = refl
  entered_drawn (Stored u place word) t before = refl
  entered_drawn _ t before = refl

-- ---- a history

module _ (i : Input) where
  pub same_owner : (h : History) (t : ℕ) → owner_at i (drawn_back h) t ≡ owner_at i h t
  same_owner [] t = refl
  same_owner (e ∷ h) t = let drawings : Drawings = drawings_at h in
      ap (owner_after t (owner_at i (drawn_back h) t)) (changes_drawn drawings e)
      ∙ owner_by_changes drawings.drawing_of t (owner_at i (drawn_back h) t) drawings.count (changes_of e)
      ∙ ap (λ owner. owner_after t owner (changes_of e)) (same_owner h t)

  same_process : (h : History) (p : ℕ) → process_at i (drawn_back h) p ≡ process_at i h p
  same_process [] p = refl
  same_process (e ∷ h) p = let drawings : Drawings = drawings_at h in
      (λ k. process_after (process_at i (drawn_back h)) (owner_at i (drawn_back h) (thread_drawn drawings e k)) p (changes_drawn drawings e k))
      ∙ process_by_changes drawings.drawing_of (process_at i (drawn_back h)) (owner_at i (drawn_back h) (thread_of e)) p (process_at i (drawn_back h) p) drawings.count (changes_of e)
      ∙ (λ k. process_after (λ q. same_process h q k) (same_owner h (thread_of e) k) p (changes_of e))

  pub same_row : (h : History) (p : ℕ) → row_at i (drawn_back h) p ≡ row_at i h p
  same_row h p = ap printed_row (same_process h p)

  pub same_entered : (h : History) (t : ℕ) → entered_at i (drawn_back h) t ≡ entered_at i h t
  same_entered [] t = refl
  same_entered (e ∷ h) t =
      entered_changed (drawn_entry (drawings_at h) e) t (left_at i (drawn_back h) t) (pending_at i (drawn_back h) t)
      ∙ entered_drawn (drawings_at h) e t (entered_at i (drawn_back h) t)
      ∙ ap (entered_after e t) (same_entered h t)
      ∙ sym (entered_changed e t (left_at i h t) (pending_at i h t))

-- ---- what decides

-- filters don't look at the number of a message
verdict_same : (n : ℕ) (fs : List FilterValue) (s : Snapshot) (q : ℕ) → verdict_from n fs (record s { seq = q }) ≡ verdict_from n fs s
verdict_same n [] s q = refl
verdict_same n (f ∷ fs) s q = ap (λ v. cond (holds f s) (verdict_by n f.grant s.ids f.action) v) (verdict_same (suc n) fs s q)

pub same_decided : (policies : PoliciesValue) (session : List SessionFilter) (s : Snapshot) (q : ℕ) (v : Verdict) → decided_after policies session (record s { seq = q }) v ≡ decided_after policies session s v
same_decided policies session s q (Permit n ids) = refl
same_decided policies session s q (Refuse n errno) = refl
same_decided policies session s q Unmatched =
    ap (λ v. decided_by (filters_for_copies policies s) session s (deciding_number v)) (verdict_same (suc (length (filters_for_copies policies s))) (session_filters session s.policy s.rule) s q)
