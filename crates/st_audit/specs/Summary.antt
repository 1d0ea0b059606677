-- The summary of a run: a line of counts.
use Rattle.std.specs.Prelude.{ℕ, ◌+◌, Bool, true, false, cond, List, ◌++◌, length, codes, decimal}
use Rattle.std.specs.List.{count_by}
use Rattle.st_trace.specs.declared.entry.CallResult.TheVariants.{Failed}
use Rattle.st_trace.specs.declared.entry.Entry.{Entry}
use Rattle.st_trace.specs.declared.entry.Entry.TheVariants.{Entered, Used, Denied}
use Rattle.st_audit.specs.declared.summary.Summary.{Summary}

-- ---- what is counted

-- a call is entered
abbrev pub is_call_entered : Entry → Bool
is_call_entered (Entered t call regs way) = true
is_call_entered _ = false

-- a call is made
abbrev pub is_call_used : Entry → Bool
is_call_used (Used t seq call regs args ids result changes) = true
is_call_used _ = false

-- a call is made, and its result is an error
abbrev pub is_call_failed : Entry → Bool
is_call_failed (Used t seq call regs args ids (Failed errno) changes) = true
is_call_failed _ = false

-- a call is denied
abbrev pub is_call_denied : Entry → Bool
is_call_denied (Denied t seq errno cause) = true
is_call_denied _ = false

-- the counts of a trace
abbrev pub summary_of : List Entry → Summary
summary_of trace = record {
  calls = count_by is_call_entered trace;
  used = count_by is_call_used trace;
  failed = count_by is_call_failed trace;
  denied = count_by is_call_denied trace;
  entries = length trace;
}

-- the counts with one more entry
abbrev pub summary_with : Summary → Entry → Summary
summary_with summary e = record {
  calls = summary.calls + cond (is_call_entered e) 1 0;
  used = summary.used + cond (is_call_used e) 1 0;
  failed = summary.failed + cond (is_call_failed e) 1 0;
  denied = summary.denied + cond (is_call_denied e) 1 0;
  entries = summary.entries + 1;
}

-- ---- what is printed

-- a word and a count
abbrev pub count_field : List ℕ → ℕ → List ℕ
count_field word count = word ++ codes " " ++ decimal count

-- the calls, and how they ended
abbrev pub calls_text : Summary → List ℕ
calls_text summary =
    count_field (codes "calls") summary.calls ++ count_field (codes " used") summary.used ++
    count_field (codes " failed") summary.failed ++ count_field (codes " denied") summary.denied

-- the line of a summary
abbrev pub summary_line : Summary → List ℕ
summary_line summary = calls_text summary ++ count_field (codes " entries") summary.entries ++ codes "\n"

-- the summary of a trace
abbrev pub summary_text : List Entry → List ℕ
summary_text trace = summary_line (summary_of trace)
