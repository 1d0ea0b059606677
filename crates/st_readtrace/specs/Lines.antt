-- The grammar of traces: each line is that of an entry. The last line of a text may lack its newline.
use Rattle.std.specs.Prelude.{ℕ, ◌≡◌, ◌≢◌, ◌+◌, ◌==◌, if◌then◌else◌, true, List, [], ◌∷◌, ◌++◌, length, take, drop, Option, Some, None, MatchOption, Result, Ok, Err}
use Rattle.std.specs.List.{list_all, prefix_len}
use Rattle.st_lex.specs.Quoted.{newline}
use Rattle.st_lex.specs.Tokens.{is_no_newline}
use Rattle.st_report.specs.TraceText.{entry_line, trace_text}
use Rattle.st_trace.specs.declared.entry.Entry.{Entry}
use Rattle.st_fields.specs.declared.fault.LineFault.{LineFault}
use Rattle.st_fields.specs.declared.fault.LineFault.TheVariants.{NotInGrammar, NoMemory}
use Rattle.st_readtrace.specs.declared.trace.ReadTrace.{ReadTrace}
use Rattle.st_written.specs.Written.{AreEntries, IsEntry}

-- the bytes before the first newline
abbrev pub first_line : List ℕ → List ℕ
first_line text = take (prefix_len is_no_newline text) text

-- the bytes after the first newline
abbrev pub after_first_line : List ℕ → List ℕ
after_first_line text = drop (prefix_len is_no_newline text + 1) text

-- a text whose last line has its newline
abbrev pub closed : List ℕ → List ℕ
closed [] = []
closed (b ∷ []) = if b == newline then b ∷ [] else b ∷ newline ∷ []
closed (b ∷ c ∷ text) = b ∷ closed (c ∷ text)

-- the text doesn't begin with the line of an entry
abbrev pub BeginsBadly : List ℕ → Type 0
BeginsBadly text = (entry : Entry) (rest : List ℕ) → IsEntry entry → text ≢ entry_line entry ++ rest

-- the line with which a text begins is that of this entry, or that of no entry
abbrev pub IsFirstLine : Result Entry LineFault → List ℕ → Type 0
IsFirstLine (Ok entry) text = IsEntry entry × (closed text ≡ entry_line entry ++ closed (after_first_line text))
IsFirstLine (Err NotInGrammar) text = BeginsBadly (closed text)
IsFirstLine (Err NoMemory) text = Unit {0}

-- the text of a trace that remains to be read, each line with its newline, and how many lines were read
pub record Unread : Type 0 where
  pub text : List ℕ
  pub lines : ℕ

-- the line with which a text begins, without its newline, or none at the end
abbrev pub IsLineOf : Option (List ℕ) → List ℕ → Type 0
IsLineOf None text = text ≡ []
IsLineOf (Some line) text = (list_all is_no_newline line ≡ true) × (text ≡ line ++ newline ∷ after_first_line text)

-- the next line is that of this entry, no line remains, or the next line is that of no entry. After a fault the line is still the next
abbrev pub IsNextEntry : Result (Option Entry) LineFault → Unread → Unread → Type 0
IsNextEntry (Ok (Some entry)) old new =
    IsEntry entry × (old.text ≡ entry_line entry ++ new.text) × (new.lines ≡ old.lines + 1)
IsNextEntry (Ok None) old new = (old.text ≡ []) × (new ≡ old)
IsNextEntry (Err NotInGrammar) old new = (old.text ≢ []) × BeginsBadly old.text × (new ≡ old)
IsNextEntry (Err NoMemory) old new = new ≡ old

-- the text is the lines of these entries, and after them the bad line, if there is one: it is the first that is no entry's
abbrev pub IsReadAs : List ℕ → ReadTrace → Type 0
IsReadAs text read =
    AreEntries read.entries × (rest : List ℕ) × (closed text ≡ trace_text read.entries ++ rest)
    × MatchOption read.bad (rest ≡ []) (λ line. (line ≡ length read.entries + 1) × (rest ≢ []) × BeginsBadly rest)
