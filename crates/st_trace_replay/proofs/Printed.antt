-- What is printed of a lawful trace of numbers is the text of a lawful trace.
use Rattle.std.proofs.Common.{ℕ, List, [], ◌∷◌, map, reverse, sym, subst}
use Rattle.std.proofs.lemmas.List.{reverse-reverse}
use Rattle.std.specs.List.{AllByRecursion}
use Rattle.st_law.specs.Numbers.{IsLawfulByNumber, drawn, largest_number, numbered_back, numbered_change, numbered_entry, numbers_at}
use Rattle.st_law.specs.Threads.{History}
use Rattle.st_law.specs.declared.input.Input.{Input}
use Rattle.st_written.specs.Normal.{AreNormalChanges, HasNormalDirectories, HaveTypes, IsNormalChange, IsNormalEntry}
use Rattle.st_written.proofs.LawfulEntries.{all_reversed, typed}
use Rattle.st_written.proofs.NormalStates.{lawful_normal}
use Rattle.st_readtrace.proofs.Reading.{trace_closed}
use Rattle.st_report.specs.TraceText.{trace_text}
use Rattle.st_trace.specs.declared.entry.Change.{Change}
use Rattle.st_trace.specs.declared.entry.Change.TheVariants.{Made, Linked, Removed, Renamed, Written, Cut, Moded, Owned, Put, Forked, Execed, SetIds, Cwd, Dying, Policy, Renewed}
use Rattle.st_trace.specs.declared.entry.Entry.{Entry}
use Rattle.st_trace.specs.declared.entry.Entry.TheVariants.{Stored, Entered, Claimed, Copied, Looked, Faulted, Answered, Used, Denied, Replied, Learned, Ended, Reloaded}
use Rattle.st_trace_replay.specs.Replayed.{IsLawfulText}

-- numbers leave names and new files as they are
change_normal : (number_of : ℕ → ℕ) (change : Change) → IsNormalChange change → IsNormalChange (numbered_change number_of change)
change_normal number_of (Made name obj new uid gid mode) is = is
change_normal number_of (Linked name obj) is = is
change_normal number_of (Removed name) is = is
change_normal number_of (Renamed old new) is = is
change_normal number_of (Written obj at bytes) is = is
change_normal number_of (Cut obj len) is = is
change_normal number_of (Moded obj mode) is = is
change_normal number_of (Owned obj uid gid) is = is
change_normal number_of (Put space at bytes) is = is
change_normal number_of (Forked pid space tid) is = is
change_normal number_of (Execed binary space) is = is
change_normal number_of (SetIds ids) is = is
change_normal number_of (Cwd name) is = is
change_normal number_of (Dying pid) is = is
change_normal number_of (Policy binary) is = is
change_normal number_of (Renewed old new) is = tt

changes_normal : (number_of : ℕ → ℕ) (changes : List Change) → AreNormalChanges changes → AreNormalChanges (map (numbered_change number_of) changes)
changes_normal number_of [] are = tt
changes_normal number_of (change ∷ changes) are = (change_normal number_of change are.0, changes_normal number_of changes are.1)

entry_normal : (number_of : ℕ → ℕ) (entry : Entry) → IsNormalEntry entry → IsNormalEntry (numbered_entry number_of entry)
entry_normal number_of (Stored tid place word) is = is
entry_normal number_of (Entered tid call regs way) is = tt
entry_normal number_of (Claimed worker seq) is = tt
entry_normal number_of (Copied seq part place word) is = tt
entry_normal number_of (Looked seq part name saw) is = is
entry_normal number_of (Faulted seq errno) is = tt
entry_normal number_of (Answered worker copies verdict applied) is = tt
entry_normal number_of (Used tid seq call regs args ids result changes) is = changes_normal number_of changes is
entry_normal number_of (Denied tid seq errno why) is = is
entry_normal number_of (Replied seq reply filter) is = tt
entry_normal number_of (Learned seq filter) is = tt
entry_normal number_of (Ended tid) is = is
entry_normal number_of (Reloaded tid policy done changes) is = changes_normal number_of changes is

history_normal : (i : Input) (h : History) → AllByRecursion IsNormalEntry h → AllByRecursion IsNormalEntry (numbered_back largest_number i h)
history_normal i [] all = tt
history_normal i (e ∷ h) all = (entry_normal (numbers_at largest_number i (e ∷ h)).number_of e all.0, history_normal i h all.1)

trace_normal : (i : Input) → HasNormalDirectories i → (trace : List Entry) → IsLawfulByNumber i trace → AllByRecursion IsNormalEntry trace
trace_normal i first trace is =
    let h : History = reverse (drawn trace) in
    let back : AllByRecursion IsNormalEntry (numbered_back largest_number i h) = history_normal i h (lawful_normal i first h is.lawful) in
    subst (AllByRecursion IsNormalEntry) is.numbers_are
    (all_reversed IsNormalEntry (reverse (numbered_back largest_number i h)) (subst (AllByRecursion IsNormalEntry) (sym (reverse-reverse (numbered_back largest_number i h))) back))

pub printed_lawful : (i : Input) → HasNormalDirectories i → (trace : List Entry) → IsLawfulByNumber i trace → HaveTypes trace → IsLawfulText i (trace_text trace)
printed_lawful i first trace is types = record {
  trace = trace;
  entries = typed trace (trace_normal i first trace is) types;
  text_is = trace_closed trace;
  lawful = is;
}
