-- In a lawful history the directories of processes are normal, and so are those of held calls, and the names of each entry.
use Rattle.std.proofs.Common.{zero, suc, ◌≡◌, ℕ, ◌==◌, Bool, true, false, cond, List, [], ◌∷◌, Option, Some, None, subst}
use Rattle.std.specs.List.{AllByRecursion, fold, slice_get}
use Rattle.std.specs.Option.{option_map}
use Rattle.std.specs.Prelude.{IfSome}
use Rattle.st_base.specs.declared.errno.Errno.{Errno}
use Rattle.st_calls.specs.Argument.{args_of}
use Rattle.st_calls.specs.Call.{rule_of}
use Rattle.st_effects.specs.Changes.{process_after, process_after_change}
use Rattle.st_effects.specs.Progress.{Look}
use Rattle.st_law.specs.History.{looking_back}
use Rattle.st_law.specs.Lawful.{IsDenied, IsLawful, IsLawfulBack}
use Rattle.st_law.specs.Messages.{Head, head_after_change, head_at}
use Rattle.st_law.specs.Processes.{first_process, process_at, process_of_row}
use Rattle.st_law.specs.State.{progress_in, progress_of_head}
use Rattle.st_law.specs.Threads.{History, changes_of, owner_at, thread_of}
use Rattle.st_law.specs.declared.input.Input.{Input}
use Rattle.st_model.specs.Process.{Process}
use Rattle.st_names.specs.Name.{Components}
use Rattle.st_names.specs.declared.seen.SeenText.{SeenText}
use Rattle.st_trace.specs.declared.entry.Cause.{Cause}
use Rattle.st_trace.specs.declared.entry.Cause.TheVariants as cause
use Rattle.st_trace.specs.declared.entry.Change.{Change}
use Rattle.st_trace.specs.declared.entry.Change.TheVariants.{Forked, Execed, SetIds, Cwd, Policy, Renewed}
use Rattle.st_trace.specs.declared.entry.Entry.{Entry}
use Rattle.st_trace.specs.declared.entry.Entry.TheVariants.{Entered, Looked, Used, Denied, Reloaded}
use Rattle.st_trace.specs.declared.entry.Way.TheVariants.{Fast, Barred, Held, Untraced}
use Rattle.st_trace.specs.declared.start.ProcessRow.{ProcessRow}
use Rattle.st_written.specs.Normal.{AreNormalChanges, HasNormalDirectories, IsNormal, IsNormalCause, IsNormalChange, IsNormalEntry}
use Rattle.st_written.proofs.NormalChanges.{lawful_changes}
use Rattle.st_written.proofs.NormalWalks.{LooksWell, link_well, progress_well}

-- ---- processes

one_by : (b : Bool) (one other : Process) → IsNormal one.cwd → IsNormal other.cwd → IsNormal (cond b one other).cwd
one_by true one other a b = a
one_by false one other a b = b

process_changed : (processes : ℕ → Process) (m p : ℕ) (before : Process) (change : Change) → IsNormal (processes m).cwd → IsNormal before.cwd → IsNormalChange change →
    IsNormal (process_after_change processes m p before change).cwd
process_changed processes m p before (Forked pid space tid) own normal change = one_by (pid == p) (record (processes m) { space = space }) before own normal
process_changed processes m p before (Execed binary space) own normal change = one_by (m == p) (record before { space = space }) before normal normal
process_changed processes m p before (SetIds ids) own normal change = one_by (m == p) (record before { ids = ids }) before normal normal
process_changed processes m p before (Cwd name) own normal change = one_by (m == p) (record before { cwd = name }) before change normal
process_changed processes m p before (Policy binary) own normal change = one_by (m == p) (record before { policy = binary }) before normal normal
process_changed processes m p before _ own normal change = normal

process_kept : (processes : ℕ → Process) (m p : ℕ) (before : Process) (changes : List Change) → IsNormal (processes m).cwd → IsNormal before.cwd → AreNormalChanges changes →
    IsNormal (fold (process_after_change processes m p) before changes).cwd
process_kept processes m p before [] own normal are = normal
process_kept processes m p before (change ∷ changes) own normal are =
    process_kept processes m p (process_after_change processes m p before change) changes own (process_changed processes m p before change own normal are.0) are.1

row_normal : (rows : List ProcessRow) (k : ℕ) → AllByRecursion (λ (row : ProcessRow). IsNormal row.cwd) rows → IfSome (slice_get rows k) (λ row. IsNormal row.cwd)
row_normal [] k are = tt
row_normal (row ∷ rows) zero are = are.0
row_normal (row ∷ rows) (suc k) are = row_normal rows k are.1

row_by : (i : Input) (p : ℕ) (o : Option ProcessRow) → IfSome o (λ row. IsNormal row.cwd) → IsNormal (process_of_row i p o).cwd
row_by i p None normal = tt
row_by i p (Some row) normal = normal

first_normal : (i : Input) (p : ℕ) → HasNormalDirectories i → IsNormal (first_process i p).cwd
first_normal i zero are = tt
first_normal i (suc k) are = row_by i (suc k) (slice_get i.start.processes k) (row_normal i.start.processes k are)

-- the changes of each entry are normal
abbrev HasNormalChanges : History → Type 0
HasNormalChanges h = AllByRecursion (λ e. AreNormalChanges (changes_of e)) h

process_normal : (i : Input) (h : History) (p : ℕ) → HasNormalDirectories i → HasNormalChanges h → IsNormal (process_at i h p).cwd
process_normal i [] p first are = first_normal i p first
process_normal i (e ∷ h) p first are =
    process_kept (process_at i h) (owner_at i h (thread_of e)) p (process_at i h p) (changes_of e) (process_normal i h (owner_at i h (thread_of e)) first are.1) (process_normal i h p first are.1) are.0

-- ---- held calls

abbrev HasNormalHead : Option Head → Type 0
HasNormalHead o = IfSome o (λ head. IsNormal head.cwd)

head_by : (b : Bool) (one other : Option Head) → HasNormalHead one → HasNormalHead other → HasNormalHead (cond b one other)
head_by true one other a b = a
head_by false one other a b = b

renewed_by : (renewed : Head → Head) (o : Option Head) → ((head : Head) → IsNormal (renewed head).cwd) → HasNormalHead (option_map renewed o)
renewed_by renewed None normal = tt
renewed_by renewed (Some head) normal = normal head

head_changed : (heads : ℕ → Option Head) (renewed : Head → Head) (q : ℕ) (before : Option Head) (change : Change) → ((head : Head) → IsNormal (renewed head).cwd) → HasNormalHead before →
    HasNormalHead (head_after_change heads renewed q before change)
head_changed heads renewed q before (Renewed old new) now normal = head_by (new == q) (option_map renewed (heads old)) before (renewed_by renewed (heads old) now) normal
head_changed heads renewed q before _ now normal = normal

head_kept : (heads : ℕ → Option Head) (renewed : Head → Head) (q : ℕ) (before : Option Head) (changes : List Change) → ((head : Head) → IsNormal (renewed head).cwd) → HasNormalHead before →
    HasNormalHead (fold (head_after_change heads renewed q) before changes)
head_kept heads renewed q before [] now normal = normal
head_kept heads renewed q before (change ∷ changes) now normal =
    head_kept heads renewed q (head_after_change heads renewed q before change) changes now (head_changed heads renewed q before change now normal)

not_link : (name : Components) (n : ℕ) → cause.Link name ≡ cause.Filter n → ⊥
not_link name n e = cc

module _ (i : Input) (first : HasNormalDirectories i) where
  after_normal : (h : History) (t : ℕ) (changes : List Change) (p : ℕ) → HasNormalChanges h → AreNormalChanges changes → IsNormal (process_after (process_at i h) (owner_at i h t) p changes).cwd
  after_normal h t changes p are now =
      process_kept (process_at i h) (owner_at i h t) p (process_at i h p) changes (process_normal i h (owner_at i h t) first are) (process_normal i h p first are) now

  head_normal : (h : History) (q : ℕ) → HasNormalChanges h → HasNormalHead (head_at i h q)
  head_normal [] q are = tt
  head_normal (Entered t call regs (Held p) ∷ h) q are =
      head_by (p == q) _ (head_at i h q) (process_normal i h (owner_at i h t) first are.1) (head_normal h q are.1)
  head_normal (Entered t call regs Fast ∷ h) q are = head_normal h q are.1
  head_normal (Entered t call regs (Barred n) ∷ h) q are = head_normal h q are.1
  head_normal (Entered t call regs Untraced ∷ h) q are = head_normal h q are.1
  head_normal (Used t seq call regs args ids result changes ∷ h) q are =
      head_kept (head_at i h) _ q (head_at i h q) changes (λ head. after_normal h t changes head.pid are.1 are.0) (head_normal h q are.1)
  head_normal (Reloaded t n done changes ∷ h) q are =
      head_kept (head_at i h) _ q (head_at i h q) changes (λ head. after_normal h t changes head.pid are.1 are.0) (head_normal h q are.1)
  head_normal (_ ∷ h) q are = head_normal h q are.1

  -- ---- entries

  progress_by : (o : Option Head) (words : ℕ → List ℕ) (lookups : ℕ → List SeenText) → HasNormalHead o → LooksWell (progress_of_head o words lookups)
  progress_by None words lookups normal = tt
  progress_by (Some head) words lookups normal = progress_well 0 (args_of head.rule) _ words lookups normal

  looked : (h : History) (q part : ℕ) (name : Components) → HasNormalChanges h → progress_in (looking_back i h) q ≡ Look part name → IsNormal name
  looked h q part name are is = subst LooksWell is (progress_by (head_at i h q) _ _ (head_normal h q are))

  denied : (h : History) (t : ℕ) (seq : Option ℕ) (errno : Errno) (name : Components) → IsDenied i (looking_back i h) t seq errno (cause.Link name) → IsNormal name
  denied h t (Some q) errno name law =
      let why = law.cause_is in
      subst (λ o. IfSome o IsNormal) why.3 (link_well (looking_back i h).tree law.call law.regs (args_of (rule_of law.call law.regs i.options.aliasing)) why.0.parts)
  denied h t None errno name law = absurd (not_link name 1 law.cause_is)

  caused : (h : History) (t : ℕ) (seq : Option ℕ) (errno : Errno) (why : Cause) → IsDenied i (looking_back i h) t seq errno why → IsNormalCause why
  caused h t seq errno (cause.Link name) law = denied h t seq errno name law
  caused h t seq errno _ law = tt

  entry_normal : (h : History) (e : Entry) → HasNormalChanges h → IsLawful i (looking_back i h) e → IsNormalEntry e
  entry_normal h (Looked q part name seen) are law = looked h q part name are law.due
  entry_normal h (Used t seq call regs args ids result changes) are law = lawful_changes i (looking_back i h) (Used t seq call regs args ids result changes) law
  entry_normal h (Denied t seq errno why) are law = caused h t seq errno why law
  entry_normal h (Reloaded t n done changes) are law = lawful_changes i (looking_back i h) (Reloaded t n done changes) law
  entry_normal h _ are law = tt

  changes_back : (h : History) → IsLawfulBack i h → HasNormalChanges h
  changes_back [] law = tt
  changes_back (e ∷ h) law = (lawful_changes i (looking_back i h) e law.0, changes_back h law.1)

  pub lawful_normal : (h : History) → IsLawfulBack i h → AllByRecursion IsNormalEntry h
  lawful_normal [] law = tt
  lawful_normal (e ∷ h) law = (entry_normal h e (changes_back h law.1) law.0, lawful_normal h law.1)
