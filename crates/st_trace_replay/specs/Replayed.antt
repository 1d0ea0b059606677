-- Printed traces against the law: a text is that of a lawful trace, or has a first line up to which it can't be one.
use Rattle.std.specs.Prelude.{ℕ, ◌≡◌, ◌≢◌, ◌+◌, List, [], ◌∷◌, ◌++◌, length, Option, Some, None}
use Rattle.st_law.specs.Numbers.{IsLawfulByNumber}
use Rattle.st_law.specs.declared.input.Input.{Input}
use Rattle.st_readtrace.specs.Lines.{closed}
use Rattle.st_written.specs.Written.{AreEntries, IsEntry}
use Rattle.st_report.specs.TraceText.{entry_line, trace_text}
use Rattle.st_trace.specs.declared.entry.Entry.{Entry}

-- a text is that of a lawful trace, by the numbers of its messages; its last line may lack its newline
pub record IsLawfulText (i : Input) (text : List ℕ) : Type 0 where
  pub trace : List Entry
  pub entries : AreEntries trace
  pub text_is : closed text ≡ trace_text trace
  pub lawful : IsLawfulByNumber i trace

-- no entry whose line a text begins with is lawful after these entries
abbrev pub GoesOnUnlawfully : Input → List Entry → List ℕ → Type 0
GoesOnUnlawfully i front rest = (entry : Entry) (after : List ℕ) → IsEntry entry → rest ≡ entry_line entry ++ after → IsLawfulByNumber i (front ++ entry ∷ []) → ⊥

-- the lines before this one, counted from 1, are those of a lawful trace, and this line is no entry's, or its entry isn't lawful after them
pub record BreaksAt (i : Input) (text : List ℕ) (line : ℕ) : Type 0 where
  pub front : List Entry
  pub rest : List ℕ
  pub entries : AreEntries front
  pub text_is : closed text ≡ trace_text front ++ rest
  pub lawful : IsLawfulByNumber i front
  pub line_is : line ≡ length front + 1
  pub some : rest ≢ []
  pub breaks : GoesOnUnlawfully i front rest

-- a text is lawful, or breaks at this line
abbrev pub IsReplayed : Input → List ℕ → Option ℕ → Type 0
IsReplayed i text None = IsLawfulText i text
IsReplayed i text (Some line) = BreaksAt i text line
