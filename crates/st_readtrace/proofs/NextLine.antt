-- The line with which a text begins, as it is read.
use Rattle.std.proofs.Common.{◌≡◌, ◌≢◌, ℕ, ◌+◌, ◌<◌, List, [], ◌∷◌, ◌++◌, length, drop, Option, Some, None, Result, Ok, Err, refl, ap, sym, ◌∙◌, arith, subst}
use Rattle.std.proofs.lemmas.List.{length-append}
use Rattle.std.specs.List.{prefix_len}
use Rattle.std.specs.Prelude.{IsErr, IsErrAnd}
use Rattle.st_lex.specs.Tokens.{is_no_newline}
use Rattle.st_report.specs.TraceText.{entry_line, trace_text}
use Rattle.st_trace.specs.declared.entry.Entry.{Entry}
use Rattle.st_fields.specs.declared.fault.LineFault.{LineFault}
use Rattle.st_fields.specs.declared.fault.LineFault.TheVariants.{NotInGrammar, NoMemory}
use Rattle.st_readtrace.specs.Entries.{entry_of_line}
use Rattle.st_readtrace.specs.Lines.{IsFirstLine, IsNextEntry, IsReadAs, Unread, closed, first_line}
use Rattle.st_fields.specs.Reads.{Gives}
use Rattle.st_written.specs.Written.{AreEntries, IsText}
use Rattle.st_readtrace.proofs.Closings.{closed-some}
use Rattle.st_readtrace.proofs.Reading.{begins_badly, first_line_text, line_fits, next_is, trace_more, two_bytes}

-- what the first line is read as
pub is_first : (text : List ℕ) (result : Result Entry LineFault) → IsText text → text ≢ [] → Gives result (entry_of_line (first_line text)) → IsFirstLine result text
is_first text (Ok entry) is some read = (line_fits (first_line text) entry (first_line_text text is) read, next_is text entry some read)
is_first text (Err NotInGrammar) is some read = begins_badly text some read
is_first text (Err NoMemory) is some read = tt

-- after a fault the line is still the next
pub still_next : (fault : LineFault) (text : List ℕ) (lines : ℕ) → text ≢ [] → IsFirstLine (Err fault) text →
    IsNextEntry (Err fault) (record { text = closed text; lines = lines }) (record { text = closed text; lines = lines })
still_next NotInGrammar text lines some badly = (closed-some text some, badly, refl)
still_next NoMemory text lines some none = refl

pub not_taken : (fault : LineFault) (r : Result (Option Entry) LineFault) (text : List ℕ) (lines : ℕ) (old : Unread) → IsErr r → IsErrAnd r (λ e. e ≡ fault) → text ≢ [] → IsFirstLine (Err fault) text →
    record { text = closed text; lines = lines } ≡ old → IsNextEntry r old (record { text = closed text; lines = lines })
not_taken fault (Ok x) text lines old failed same some badly is = absurd (cc)
not_taken fault (Err e) text lines old failed same some badly is =
    subst (λ (f : LineFault). IsNextEntry (Err f) old (record { text = closed text; lines = lines })) (sym same)
    (subst (λ (unread : Unread). IsNextEntry (Err fault) unread (record { text = closed text; lines = lines })) is (still_next fault text lines some badly))

-- a line that is an entry's is taken
pub taken : (text after : List ℕ) (lines len : ℕ) (entry : Entry) → IsFirstLine (Ok entry) text → len ≡ prefix_len is_no_newline text → after ≡ drop (len + 1) text →
    IsNextEntry (Ok (Some entry)) (record { text = closed text; lines = lines }) (record { text = closed after; lines = lines + 1 })
taken text after lines len entry first len_is after_is =
    let rest : after ≡ drop (prefix_len is_no_newline text + 1) text = after_is ∙ ap (λ (n : ℕ). drop (n + 1) text) len_is in
    (first.0, subst (λ (bytes : List ℕ). closed text ≡ entry_line entry ++ closed bytes) (sym rest) first.1, refl)

-- ---- the trace so far

pub one_more : (text : List ℕ) (entries : List Entry) (entry : Entry) (old new : Unread) → closed text ≡ trace_text entries ++ old.text → IsNextEntry (Ok (Some entry)) old new →
    closed text ≡ trace_text (entries ++ entry ∷ []) ++ new.text
one_more text entries entry old new e next = e ∙ ap (λ (rest : List ℕ). trace_text entries ++ rest) next.1 ∙ trace_more entries entry new.text

pub shorter : (entry : Entry) (old new : Unread) → IsNextEntry (Ok (Some entry)) old new → length new.text < length old.text
shorter entry old new next =
    let sum : length old.text ≡ length (entry_line entry) + length new.text = ap length next.1 ∙ length-append (entry_line entry) new.text in
    omega (arith, sum, two_bytes entry)

pub all_read : (text : List ℕ) (entries : List Entry) (old new : Unread) → AreEntries entries → closed text ≡ trace_text entries ++ old.text → IsNextEntry (Ok None) old new →
    IsReadAs text (record { entries = entries; bad = None })
all_read text entries old new are e next = (are, old.text, e, next.0)

pub bad_read : (text : List ℕ) (entries : List Entry) (line : ℕ) (old new : Unread) → AreEntries entries → closed text ≡ trace_text entries ++ old.text → old.lines ≡ length entries → line ≡ new.lines + 1 →
    IsNextEntry (Err NotInGrammar) old new → IsReadAs text (record { entries = entries; bad = Some line })
bad_read text entries line old new are e count line_is next =
    (are, old.text, e, (line_is ∙ ap (λ (unread : Unread). unread.lines + 1) next.2 ∙ ap (λ (n : ℕ). n + 1) count, next.0, next.1))
