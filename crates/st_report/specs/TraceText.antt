-- What is printed of a trace: a line for each entry.
use Rattle.std.specs.Prelude.{ℕ, ◌==◌, if◌then◌else◌, Bool, true, false, List, [], ◌∷◌, ◌++◌, codes, decimal, Option, Some, None}
use Rattle.std.specs.List.{flat_map}
use Rattle.st_base.specs.Errno.{name_of_error}
use Rattle.st_calls.specs.Argument.{name_of_label}
use Rattle.st_calls.specs.Call.{name_of_call, name_of_rule}
use Rattle.st_calls.specs.declared.argument.ArgText.{ArgText}
use Rattle.st_calls.specs.declared.call.SysCall.{SysCall}
use Rattle.st_calls.specs.declared.judged.Snapshot.{Snapshot}
use Rattle.st_calls.specs.declared.judged.Verdict.{Verdict}
use Rattle.st_calls.specs.declared.judged.Verdict.TheVariants.{Permit, Refuse, Unmatched}
use Rattle.st_calls.specs.Emulation.{emulation_prefix}
use Rattle.st_names.specs.declared.seen.SeenText.{SeenText}
use Rattle.st_names.specs.declared.seen.SeenText.TheVariants as seen
use Rattle.st_trace.specs.declared.entry.CallResult.{CallResult}
use Rattle.st_trace.specs.declared.entry.CallResult.TheVariants.{Value, Failed}
use Rattle.st_trace.specs.declared.entry.Cause.{Cause}
use Rattle.st_trace.specs.declared.entry.Cause.TheVariants as cause
use Rattle.st_trace.specs.declared.entry.Entry.{Entry}
use Rattle.st_trace.specs.declared.entry.Entry.TheVariants.{Stored, Entered, Claimed, Copied, Looked, Faulted, Answered, Replied, Learned, Used, Denied, Ended, Reloaded}
use Rattle.st_trace.specs.declared.entry.Way.{Way}
use Rattle.st_trace.specs.declared.entry.Way.TheVariants.{Fast, Barred, Held, Untraced}
use Rattle.st_report.specs.Fields.{word_field, number_fields, text_field, name_field, ids_fields}
use Rattle.st_report.specs.ChangeText.{changes_fields}

-- ---- the parts of lines

-- a call with its registers
abbrev pub call_fields : SysCall → List ℕ → List ℕ
call_fields call regs = word_field (name_of_call call) ++ number_fields regs

-- how an entered call goes on
abbrev pub way_fields : Way → List ℕ
way_fields Fast = codes " fast"
way_fields (Barred n) = codes " barred" ++ number_fields (n ∷ [])
way_fields (Held q) = codes " held" ++ number_fields (q ∷ [])
way_fields Untraced = codes " untraced"

-- what a look saw
abbrev pub seen_fields : SeenText → List ℕ
seen_fields seen.Missing = codes " missing"
seen_fields seen.NotDir = codes " notdir"
seen_fields seen.Dir = codes " dir"
seen_fields seen.File = codes " file"
seen_fields (seen.Link target) = codes " link" ++ text_field target

-- an argument
abbrev pub arg_fields : ArgText → List ℕ
arg_fields arg = codes " arg" ++ word_field (name_of_label arg.label) ++ number_fields (arg.index ∷ []) ++ text_field arg.text

-- the arguments of a call, in order
abbrev pub args_fields : List ArgText → List ℕ
args_fields args = flat_map arg_fields args

-- what the filters that were read say
abbrev pub verdict_fields : Verdict → List ℕ
verdict_fields (Permit n ids) = codes " permit" ++ number_fields (n ∷ []) ++ ids_fields ids
verdict_fields (Refuse n errno) = codes " refuse" ++ number_fields (n ∷ []) ++ word_field (name_of_error errno)
verdict_fields Unmatched = codes " unmatched"

-- whether an answer was applied
abbrev pub applied_field : Bool → List ℕ
applied_field true = codes " applied"
applied_field false = codes " stale"

-- the number of a held call; `-` for another call
abbrev pub seq_field : Option ℕ → List ℕ
seq_field None = codes " -"
seq_field (Some q) = number_fields (q ∷ [])

-- the result of a call: a number, or an error
abbrev pub result_text : CallResult → List ℕ
result_text (Value n) = decimal n
result_text (Failed errno) = name_of_error errno

-- why a call is denied
abbrev pub cause_fields : Cause → List ℕ
cause_fields (cause.Filter n) = codes " filter" ++ number_fields (n ∷ [])
cause_fields cause.NoFilter = codes " nofilter"
cause_fields cause.Fault = codes " fault"
cause_fields (cause.Link name) = codes " link" ++ name_field name

-- the version of a policy; it is omitted for the policy that was read
abbrev pub version_field : ℕ → List ℕ
version_field version = if version == 0 then [] else codes " version" ++ number_fields (version ∷ [])

-- who makes the held call, and the policy that judges it
abbrev pub judged_fields : Snapshot → List ℕ
judged_fields s = codes " pid" ++ number_fields (s.pid ∷ []) ++ ids_fields s.ids ++ codes " policy" ++ text_field s.policy ++ version_field s.version

-- the held call, by the copies of its arguments
abbrev pub asked_fields : Snapshot → List ℕ
asked_fields s = codes " rule " ++ emulation_prefix ++ name_of_rule s.rule ++ call_fields s.call s.regs ++ args_fields s.parts

-- whether a reload was done
abbrev pub done_field : Bool → List ℕ
done_field true = codes " done"
done_field false = codes " refused"

-- ---- lines

-- an entry: its word, and its fields
abbrev pub entry_text : Entry → List ℕ
entry_text (Stored t place word) = codes "stored" ++ number_fields (t ∷ place ∷ word ∷ [])
entry_text (Entered t call regs way) = codes "entered" ++ number_fields (t ∷ []) ++ call_fields call regs ++ way_fields way
entry_text (Claimed w q) = codes "claimed" ++ number_fields (w ∷ q ∷ [])
entry_text (Copied q part place word) = codes "copied" ++ number_fields (q ∷ part ∷ place ∷ word ∷ [])
entry_text (Looked q part name seen) = codes "looked" ++ number_fields (q ∷ part ∷ []) ++ name_field name ++ seen_fields seen
entry_text (Faulted q errno) = codes "faulted" ++ number_fields (q ∷ []) ++ word_field (name_of_error errno)
entry_text (Answered w s verdict applied) =
    codes "answered" ++ number_fields (w ∷ s.seq ∷ []) ++ judged_fields s ++ asked_fields s ++ verdict_fields verdict ++ applied_field applied
entry_text (Replied q reply n) = codes "replied" ++ number_fields (q ∷ reply ∷ n ∷ [])
entry_text (Learned q n) = codes "learned" ++ number_fields (q ∷ n ∷ [])
entry_text (Used t seq call regs args ids result changes) =
    codes "used" ++ number_fields (t ∷ []) ++ seq_field seq ++ call_fields call regs ++ ids_fields ids ++ args_fields args ++ codes " = " ++ result_text result ++ changes_fields changes
entry_text (Denied t seq errno cause) = codes "denied" ++ number_fields (t ∷ []) ++ seq_field seq ++ word_field (name_of_error errno) ++ cause_fields cause
entry_text (Ended t) = codes "ended" ++ number_fields (t ∷ [])
entry_text (Reloaded t n done changes) = codes "reloaded" ++ number_fields (t ∷ n ∷ []) ++ done_field done ++ changes_fields changes

-- an entry by which a thread enters a call, makes it, or is denied it
abbrev pub IsOfCall : Entry → Type 0
IsOfCall (Entered t call regs way) = Unit {0}
IsOfCall (Used t seq call regs args ids result changes) = Unit {0}
IsOfCall (Denied t seq errno cause) = Unit {0}
IsOfCall _ = ⊥

-- an entry that a worker adds
abbrev pub IsOfWorker : Entry → Type 0
IsOfWorker (Claimed w q) = Unit {0}
IsOfWorker (Copied q part place word) = Unit {0}
IsOfWorker (Looked q part name seen) = Unit {0}
IsOfWorker (Faulted q errno) = Unit {0}
IsOfWorker (Answered w s verdict applied) = Unit {0}
IsOfWorker _ = ⊥

-- an entry's line
abbrev pub entry_line : Entry → List ℕ
entry_line e = entry_text e ++ codes "\n"

-- the text of a trace: the lines of its entries, in order
abbrev pub trace_text : List Entry → List ℕ
trace_text trace = flat_map entry_line trace
