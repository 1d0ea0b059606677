-- How a printed trace is replayed, line by line.
use Rattle.std.specs.Prelude.{◌≡◌, ◌≢◌, ◌+◌, [], ◌++◌, List, ℕ, length}
use Rattle.st_law.specs.declared.input.Input.{Input}
use Rattle.st_readtrace.specs.Lines.{Unread, closed}
use Rattle.st_written.specs.Written.{AreEntries, IsEntry}
use Rattle.st_replay.specs.Told.{IsLawfulSoFar, TraceSoFar, with_entry}
use Rattle.st_report.specs.TraceText.{entry_line, trace_text}
use Rattle.st_trace.specs.declared.entry.Entry.{Entry}
use Rattle.st_trace_replay.specs.Replayed.{GoesOnUnlawfully}
use Rattle.st_trace_replay.specs.declared.text.NextLine.{NextLine}
use Rattle.st_trace_replay.specs.declared.text.NextLine.TheVariants.{Lawful, Unlawful, End}

-- the next line is that of an entry that is lawful after the trace so far, or its number is that of a line which isn't, or there is none
abbrev pub IsNextLine : NextLine → Unread → Unread → TraceSoFar → TraceSoFar → Type 0
IsNextLine Lawful unread later so_far longer =
    (entry : Entry) × IsEntry entry × (unread.text ≡ entry_line entry ++ later.text) × (later.lines ≡ unread.lines + 1) × (longer ≡ with_entry so_far entry) × IsLawfulSoFar (with_entry so_far entry)
IsNextLine (Unlawful line) unread later so_far longer = (line ≡ unread.lines + 1) × (unread.text ≢ []) × GoesOnUnlawfully so_far.input so_far.trace unread.text
IsNextLine End unread later so_far longer = unread.text ≡ []

-- the next line is that of the entry that the machine added, or its number is that of a line which isn't, or there is none
abbrev pub IsCompared : NextLine → Unread → Unread → Entry → Type 0
IsCompared Lawful unread later added = IsEntry added × (unread.text ≡ entry_line added ++ later.text) × (later.lines ≡ unread.lines + 1)
IsCompared (Unlawful line) unread later added = (line ≡ unread.lines + 1) × (unread.text ≢ []) × ((after : List ℕ) → IsEntry added → unread.text ≢ entry_line added ++ after)
IsCompared End unread later added = unread.text ≡ []

-- a text was replayed up to here: its lines before are those of the trace so far, which is lawful
pub record IsReplayedTo (i : Input) (text : List ℕ) (unread : Unread) (so_far : TraceSoFar) : Type 0 where
  pub input_is : so_far.input ≡ i
  pub entries : AreEntries so_far.trace
  pub text_is : closed text ≡ trace_text so_far.trace ++ unread.text
  pub lines_are : unread.lines ≡ length so_far.trace
  pub lawful : IsLawfulSoFar so_far
