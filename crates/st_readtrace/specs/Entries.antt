-- The lines of a trace, as they are read: the entry that a line seems to be, and whether it is printed as this line.
use Rattle.std.specs.Prelude.{ℕ, if◌then◌else◌, Bool, nat_eq, List, codes, Option, Some, None}
use Rattle.std.specs.List.{starts_with}
use Rattle.std.specs.Str.{bytes_eq}
use Rattle.st_calls.specs.Call.{call_named}
use Rattle.st_calls.specs.declared.judged.Snapshot.{Snapshot}
use Rattle.st_calls.specs.declared.judged.Verdict.{Verdict}
use Rattle.st_calls.specs.declared.judged.Verdict.TheVariants.{Permit, Refuse, Unmatched}
use Rattle.st_names.specs.declared.seen.SeenText.{SeenText}
use Rattle.st_names.specs.declared.seen.SeenText.TheVariants as seen
use Rattle.st_report.specs.TraceText.{entry_text}
use Rattle.st_trace.specs.declared.entry.Cause.{Cause}
use Rattle.st_trace.specs.declared.entry.Cause.TheVariants as cause
use Rattle.st_trace.specs.declared.entry.Entry.{Entry}
use Rattle.st_trace.specs.declared.entry.Entry.TheVariants.{Stored, Entered, Claimed, Copied, Looked, Faulted, Answered, Replied, Learned, Used, Denied, Ended, Reloaded}
use Rattle.st_trace.specs.declared.entry.Way.{Way}
use Rattle.st_trace.specs.declared.entry.Way.TheVariants.{Fast, Barred, Held, Untraced}
use Rattle.st_fields.specs.Reads.{◌>>=◌}
use Rattle.st_fields.specs.Words.{error_of_name, number_of_16, number_of_32, number_of_64, result_of_word, rule_after_prefix, seq_of_word, split_word}
use Rattle.st_fields.specs.Fields.{word_at, spelled_at, text_at, name_at, ids_at, regs_at, args_at}
use Rattle.st_readtrace.specs.Changes.{changes_at}

-- ---- the parts of lines

-- how an entered call goes on, by its word
unfoldable pub way_by : List ℕ → List ℕ → Option (Way × List ℕ)
way_by word rest =
    if bytes_eq word (codes "fast") then Some (Fast, rest)
    else if bytes_eq word (codes "barred") then (do
      n ← spelled_at number_of_32 rest
      Some (Barred n.0, n.1))
    else if bytes_eq word (codes "held") then (do
      seq ← spelled_at number_of_16 rest
      Some (Held seq.0, seq.1))
    else if bytes_eq word (codes "untraced") then Some (Untraced, rest)
    else None

unfoldable pub way_at : List ℕ → Option (Way × List ℕ)
way_at bytes = do
  word ← word_at bytes
  way_by word.0 word.1

-- what a look saw, by its word
unfoldable pub seen_by : List ℕ → List ℕ → Option (SeenText × List ℕ)
seen_by word rest =
    if bytes_eq word (codes "missing") then Some (seen.Missing, rest)
    else if bytes_eq word (codes "notdir") then Some (seen.NotDir, rest)
    else if bytes_eq word (codes "dir") then Some (seen.Dir, rest)
    else if bytes_eq word (codes "file") then Some (seen.File, rest)
    else if bytes_eq word (codes "link") then (do
      target ← text_at rest
      Some (seen.Link target.0, target.1))
    else None

unfoldable pub seen_at : List ℕ → Option (SeenText × List ℕ)
seen_at bytes = do
  word ← word_at bytes
  seen_by word.0 word.1

-- what the filters say, by its word
unfoldable pub verdict_by : List ℕ → List ℕ → Option (Verdict × List ℕ)
verdict_by word rest =
    if bytes_eq word (codes "permit") then (do
      n ← spelled_at number_of_32 rest
      named ← word_at n.1
      ids ← ids_at named.1
      Some (Permit n.0 ids.0, ids.1))
    else if bytes_eq word (codes "refuse") then (do
      n ← spelled_at number_of_32 rest
      errno ← spelled_at error_of_name n.1
      Some (Refuse n.0 errno.0, errno.1))
    else if bytes_eq word (codes "unmatched") then Some (Unmatched, rest)
    else None

unfoldable pub verdict_at : List ℕ → Option (Verdict × List ℕ)
verdict_at bytes = do
  word ← word_at bytes
  verdict_by word.0 word.1

-- why a call is denied, by its word
unfoldable pub cause_by : List ℕ → List ℕ → Option (Cause × List ℕ)
cause_by word rest =
    if bytes_eq word (codes "filter") then (do
      n ← spelled_at number_of_32 rest
      Some (cause.Filter n.0, n.1))
    else if bytes_eq word (codes "nofilter") then Some (cause.NoFilter, rest)
    else if bytes_eq word (codes "fault") then Some (cause.Fault, rest)
    else if bytes_eq word (codes "link") then (do
      name ← name_at rest
      Some (cause.Link name.0, name.1))
    else None

unfoldable pub cause_at : List ℕ → Option (Cause × List ℕ)
cause_at bytes = do
  word ← word_at bytes
  cause_by word.0 word.1

-- the version of a policy, if one is given
unfoldable pub version_at : List ℕ → Option (ℕ × List ℕ)
version_at bytes =
    if starts_with nat_eq bytes (codes " version ") then (do
      word ← word_at bytes
      spelled_at number_of_32 word.1)
    else Some (0, bytes)

-- the held call with the copies of its arguments
unfoldable pub snapshot_at : List ℕ → Option (Snapshot × List ℕ)
snapshot_at bytes = do
  seq ← spelled_at number_of_16 bytes
  pid_word ← word_at seq.1
  pid ← spelled_at number_of_32 pid_word.1
  ids_word ← word_at pid.1
  ids ← ids_at ids_word.1
  policy_word ← word_at ids.1
  policy ← text_at policy_word.1
  version ← version_at policy.1
  rule_word ← word_at version.1
  rule ← spelled_at rule_after_prefix rule_word.1
  call ← spelled_at call_named rule.1
  regs ← regs_at call.1
  parts ← args_at regs.1
  Some (record { seq = seq.0; pid = pid.0; ids = ids.0; policy = policy.0; version = version.0; rule = rule.0; call = call.0; regs = regs.0; parts = parts.0 }, parts.1)

-- whether a word is the wanted one
unfoldable pub flag_at : List ℕ → List ℕ → Option (Bool × List ℕ)
flag_at wanted bytes = do
  word ← word_at bytes
  Some (bytes_eq word.0 wanted, word.1)

-- ---- what threads do, after the line's first word

unfoldable pub stored_at : List ℕ → Option Entry
stored_at bytes = do
  tid ← spelled_at number_of_32 bytes
  place ← spelled_at number_of_32 tid.1
  word ← spelled_at number_of_64 place.1
  Some (Stored tid.0 place.0 word.0)

unfoldable pub entered_at : List ℕ → Option Entry
entered_at bytes = do
  tid ← spelled_at number_of_32 bytes
  call ← spelled_at call_named tid.1
  regs ← regs_at call.1
  way ← way_at regs.1
  Some (Entered tid.0 call.0 regs.0 way.0)

unfoldable pub used_at : List ℕ → Option Entry
used_at bytes = do
  tid ← spelled_at number_of_32 bytes
  seq ← spelled_at seq_of_word tid.1
  call ← spelled_at call_named seq.1
  regs ← regs_at call.1
  ids_word ← word_at regs.1
  ids ← ids_at ids_word.1
  args ← args_at ids.1
  equal ← word_at args.1
  result ← spelled_at result_of_word equal.1
  changes ← changes_at result.1
  Some (Used tid.0 seq.0 call.0 regs.0 args.0 ids.0 result.0 changes)

unfoldable pub denied_at : List ℕ → Option Entry
denied_at bytes = do
  tid ← spelled_at number_of_32 bytes
  seq ← spelled_at seq_of_word tid.1
  errno ← spelled_at error_of_name seq.1
  why ← cause_at errno.1
  Some (Denied tid.0 seq.0 errno.0 why.0)

unfoldable pub ended_at : List ℕ → Option Entry
ended_at bytes = do
  tid ← spelled_at number_of_32 bytes
  Some (Ended tid.0)

unfoldable pub reloaded_at : List ℕ → Option Entry
reloaded_at bytes = do
  tid ← spelled_at number_of_32 bytes
  policy ← spelled_at number_of_32 tid.1
  done ← flag_at (codes "done") policy.1
  changes ← changes_at done.1
  Some (Reloaded tid.0 policy.0 done.0 changes)

-- ---- what workers and the operator do

unfoldable pub claimed_at : List ℕ → Option Entry
claimed_at bytes = do
  worker ← spelled_at number_of_32 bytes
  seq ← spelled_at number_of_16 worker.1
  Some (Claimed worker.0 seq.0)

unfoldable pub copied_at : List ℕ → Option Entry
copied_at bytes = do
  seq ← spelled_at number_of_16 bytes
  part ← spelled_at number_of_32 seq.1
  place ← spelled_at number_of_32 part.1
  word ← spelled_at number_of_64 place.1
  Some (Copied seq.0 part.0 place.0 word.0)

unfoldable pub looked_at : List ℕ → Option Entry
looked_at bytes = do
  seq ← spelled_at number_of_16 bytes
  part ← spelled_at number_of_32 seq.1
  name ← name_at part.1
  saw ← seen_at name.1
  Some (Looked seq.0 part.0 name.0 saw.0)

unfoldable pub faulted_at : List ℕ → Option Entry
faulted_at bytes = do
  seq ← spelled_at number_of_16 bytes
  errno ← spelled_at error_of_name seq.1
  Some (Faulted seq.0 errno.0)

unfoldable pub answered_at : List ℕ → Option Entry
answered_at bytes = do
  worker ← spelled_at number_of_32 bytes
  snapshot ← snapshot_at worker.1
  verdict ← verdict_at snapshot.1
  applied ← flag_at (codes "applied") verdict.1
  Some (Answered worker.0 snapshot.0 verdict.0 applied.0)

unfoldable pub replied_at : List ℕ → Option Entry
replied_at bytes = do
  seq ← spelled_at number_of_16 bytes
  reply ← spelled_at number_of_32 seq.1
  n ← spelled_at number_of_32 reply.1
  Some (Replied seq.0 reply.0 n.0)

unfoldable pub learned_at : List ℕ → Option Entry
learned_at bytes = do
  seq ← spelled_at number_of_16 bytes
  n ← spelled_at number_of_32 seq.1
  Some (Learned seq.0 n.0)

-- ---- an entry by the line's first word

unfoldable pub operator_entry : List ℕ → List ℕ → Option Entry
operator_entry word rest =
    if bytes_eq word (codes "replied") then replied_at rest
    else if bytes_eq word (codes "learned") then learned_at rest
    else None

unfoldable pub worker_entry : List ℕ → List ℕ → Option Entry
worker_entry word rest =
    if bytes_eq word (codes "claimed") then claimed_at rest
    else if bytes_eq word (codes "copied") then copied_at rest
    else if bytes_eq word (codes "looked") then looked_at rest
    else if bytes_eq word (codes "faulted") then faulted_at rest
    else if bytes_eq word (codes "answered") then answered_at rest
    else operator_entry word rest

unfoldable pub entry_by : List ℕ → List ℕ → Option Entry
entry_by word rest =
    if bytes_eq word (codes "stored") then stored_at rest
    else if bytes_eq word (codes "entered") then entered_at rest
    else if bytes_eq word (codes "used") then used_at rest
    else if bytes_eq word (codes "denied") then denied_at rest
    else if bytes_eq word (codes "ended") then ended_at rest
    else if bytes_eq word (codes "reloaded") then reloaded_at rest
    else worker_entry word rest

-- the entry that a line seems to be
abbrev pub entry_at : List ℕ → Option Entry
entry_at line = entry_by (split_word line).0 (split_word line).1

-- an entry, if it is printed as this line
abbrev pub printed_as : List ℕ → Entry → Option Entry
printed_as line entry = if bytes_eq (entry_text entry) line then Some entry else None

-- the entry that a line is, if it is one
unfoldable pub entry_of_line : List ℕ → Option Entry
entry_of_line line = do
  entry ← entry_at line
  printed_as line entry
