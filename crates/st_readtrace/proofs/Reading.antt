-- What lines are read as: an entry whose line this is, or none if it is no entry's line.
use Rattle.std.proofs.Common.{suc, ◌≡◌, ◌≢◌, ℕ, ◌+◌, ◌*◌, ◌==◌, ◌<◌, ◌≤◌, ◌^◌, Bool, true, false, cond, List, [], ◌∷◌, ◌++◌, length, get_or, Option, Some, None, refl, ap, sym, ◌∙◌, append_assoc, arith, subst}
use Rattle.std.proofs.lemmas.Grind.{flat_map-append}
use Rattle.std.proofs.lemmas.List.{append-nil, length-append}
use Rattle.std.proofs.lemmas.Option.{option_and_then_some}
use Rattle.std.proofs.lemmas.Slice.Eq.{bytes_eq-Decides}
use Rattle.std.specs.List.{prefix_len}
use Rattle.std.specs.Prelude.{IfSome, MatchOption}
use Rattle.std.specs.Str.{bytes_eq}
use Rattle.st_base.proofs.Each.{each-append}
use Rattle.st_lex.specs.Quoted.{newline}
use Rattle.st_lex.specs.Tokens.{is_no_newline}
use Rattle.st_report.specs.TraceText.{entry_line, entry_text, trace_text}
use Rattle.st_trace.specs.declared.entry.Entry.{Entry}
use Rattle.st_trace.specs.declared.entry.Entry.TheVariants.{Stored}
use Rattle.st_readtrace.specs.Entries.{entry_at, entry_of_line, printed_as}
use Rattle.st_readtrace.specs.Lines.{BeginsBadly, IsReadAs, after_first_line, closed, first_line}
use Rattle.st_written.specs.Written.{AreEntries, IsEntry, IsText}
use Rattle.st_readtrace.specs.declared.trace.ReadTrace.{ReadTrace}
use Rattle.st_readtrace.proofs.Closings.{closed-cut, closed-whole, first-plain, one_cut}
use Rattle.st_readtrace.proofs.Entering.{seems_again}
use Rattle.st_fields.proofs.Fits.{take_text}
use Rattle.st_readtrace.proofs.FittingEntries.{seems_fit}
use Rattle.st_readtrace.proofs.OneLine.{entry_is_line}

-- ---- one line

kept : (b : Bool) (seems entry : Entry) → cond b (Some seems) None ≡ Some entry → (b ≡ true) × (seems ≡ entry)
kept true seems entry e = (refl, cc)
kept false seems entry e = absurd (cc)

-- a line that is an entry is what is printed of it
pub found : (line : List ℕ) (entry : Entry) → entry_of_line line ≡ Some entry → (entry_at line ≡ Some entry) × (entry_text entry ≡ line)
unfolding entry_of_line
found line entry e =
    option_and_then_some (printed_as line) (entry_at line) entry e (λ seems read is.
    let k : (bytes_eq (entry_text seems) line ≡ true) × (seems ≡ entry) = kept (bytes_eq (entry_text seems) line) seems entry is in
    (read ∙ ap (λ (x : Entry). Some x) k.1, ap entry_text (sym k.1) ∙ (bytes_eq-Decides (entry_text seems) line).0 k.0))

-- what is printed of an entry is that entry's line
pub line_again : (entry : Entry) → IsEntry entry → entry_of_line (entry_text entry) ≡ Some entry
unfolding entry_of_line
line_again entry is =
    let same : bytes_eq (entry_text entry) (entry_text entry) ≡ true = (bytes_eq-Decides (entry_text entry) (entry_text entry)).1 refl in
    rw (seems_again entry is, same) refl

pub one_line : (one other : Entry) → IsEntry one → IsEntry other → entry_text one ≡ entry_text other → one ≡ other
one_line one other is same e =
    let both : Option Entry = entry_of_line (entry_text other) in
    let first : both ≡ Some one = ap entry_of_line (sym e) ∙ line_again one is in
    let second : both ≡ Some other = line_again other same in
    cc

-- bytes are below 256
pub bytes_text : (bytes : List ℕ) → ((i : ℕ) → get_or bytes i 0 < 256) → IsText bytes
bytes_text [] below = tt
bytes_text (b ∷ bytes) below = (below 0, bytes_text bytes (λ i. below (suc i)))

-- a line of bytes that is an entry fits its types
pub line_fits : (line : List ℕ) (entry : Entry) → IsText line → entry_of_line line ≡ Some entry → IsEntry entry
line_fits line entry text read = subst (λ (o : Option Entry). IfSome o IsEntry) (found line entry read).0 (seems_fit line text)

-- ---- the next line

pub line_and_rest : (entry : Entry) (rest : List ℕ) → entry_line entry ++ rest ≡ entry_text entry ++ newline ∷ rest
line_and_rest entry rest = append_assoc (entry_text entry) (newline ∷ []) rest

pub next_is : (text : List ℕ) (entry : Entry) → text ≢ [] → entry_of_line (first_line text) ≡ Some entry → closed text ≡ entry_line entry ++ closed (after_first_line text)
next_is text entry some read =
    closed-cut text some ∙ ap (λ (line : List ℕ). line ++ newline ∷ closed (after_first_line text)) (sym (found (first_line text) entry read).1) ∙ sym (line_and_rest entry (closed (after_first_line text)))

pub first_line_text : (text : List ℕ) → IsText text → IsText (first_line text)
first_line_text text is = take_text (prefix_len is_no_newline text) text is

pub begins_badly : (text : List ℕ) → text ≢ [] → entry_of_line (first_line text) ≡ None → BeginsBadly (closed text)
begins_badly text some read = λ entry rest is e.
    let cut = one_cut (first_line text) (entry_text entry) (closed (after_first_line text)) rest (first-plain text) (entry_is_line entry is) (sym (closed-cut text some) ∙ e ∙ line_and_rest entry rest) in
    let same : entry_of_line (first_line text) ≡ Some entry = ap entry_of_line cut.0 ∙ line_again entry is in
    cc

-- ---- whole traces

pub trace_closed : (trace : List Entry) → closed (trace_text trace) ≡ trace_text trace
trace_closed [] = refl
trace_closed (entry ∷ trace) =
    ap closed (line_and_rest entry (trace_text trace)) ∙ closed-whole (entry_text entry) (trace_text trace) (trace_closed trace) ∙ sym (line_and_rest entry (trace_text trace))

pub some_text : (entry : Entry) → 1 ≤ length (entry_text entry)
some_text (Stored tid place word) = omega arith
some_text _ = omega arith

pub two_bytes : (entry : Entry) → 2 ≤ length (entry_line entry)
two_bytes entry = omega (arith, some_text entry, length-append (entry_text entry) (newline ∷ []))

pub no_trace : (entry : Entry) (rest : List ℕ) → entry_line entry ++ rest ≢ []
no_trace entry rest e =
    let n : length (entry_line entry ++ rest) ≡ 0 = ap length e in
    omega (arith, n, two_bytes entry, length-append (entry_line entry) rest)

pub trace_more : (entries : List Entry) (entry : Entry) (rest : List ℕ) → trace_text entries ++ (entry_line entry ++ rest) ≡ trace_text (entries ++ entry ∷ []) ++ rest
trace_more entries entry rest =
    sym (append_assoc (trace_text entries) (entry_line entry) rest)
    ∙ ap (λ (text : List ℕ). text ++ rest) (ap (λ (line : List ℕ). trace_text entries ++ line) (sym (append-nil (entry_line entry))) ∙ sym (flat_map-append entry_line entries (entry ∷ [])))

pub entries_more : (entries : List Entry) (entry : Entry) → AreEntries entries → IsEntry entry → AreEntries (entries ++ entry ∷ [])
entries_more entries entry are is = each-append IsEntry entries (entry ∷ []) are (is, tt)

-- of a trace whose text begins with that of these entries, these are the first
aligned : (trace entries : List Entry) (rest : List ℕ) → AreEntries trace → AreEntries entries → trace_text trace ≡ trace_text entries ++ rest →
    (more : List Entry) × (trace ≡ entries ++ more) × AreEntries more × (rest ≡ trace_text more)
aligned trace [] rest are all e = (trace, refl, are, sym e)
aligned [] (entry ∷ entries) rest are all e = absurd (no_trace entry (trace_text entries ++ rest) (sym (append_assoc (entry_line entry) (trace_text entries) rest) ∙ sym e))
aligned (first ∷ trace) (entry ∷ entries) rest are all e =
    let cut = one_cut (entry_text first) (entry_text entry) (trace_text trace) (trace_text entries ++ rest) (entry_is_line first are.0) (entry_is_line entry all.0)
    (sym (line_and_rest first (trace_text trace)) ∙ e ∙ append_assoc (entry_line entry) (trace_text entries) rest ∙ line_and_rest entry (trace_text entries ++ rest)) in
    let same : first ≡ entry = one_line first entry are.0 all.0 cut.0 in
    let more = aligned trace entries rest are.1 all.1 cut.1 in
    (more.0, ap (λ (x : Entry). x ∷ trace) same ∙ ap (λ (xs : List Entry). entry ∷ xs) more.1, more.2, more.3)

nothing_more : (trace entries more : List Entry) (rest : List ℕ) → trace ≡ entries ++ more → rest ≡ trace_text more → rest ≡ [] → entries ≡ trace
nothing_more trace entries [] rest is text none = sym (is ∙ append-nil entries)
nothing_more trace entries (entry ∷ more) rest is text none = absurd (no_trace entry (trace_text more) (sym text ∙ none))

not_bad : (more : List Entry) (rest : List ℕ) → AreEntries more → rest ≡ trace_text more → rest ≢ [] → BeginsBadly rest → ⊥
not_bad [] rest are text some badly = some text
not_bad (entry ∷ more) rest are text some badly = badly entry (trace_text more) are.0 text

read_by : (trace entries : List Entry) (bad : Option ℕ) (rest : List ℕ) → AreEntries trace → AreEntries entries → trace_text trace ≡ trace_text entries ++ rest →
    MatchOption bad (rest ≡ []) (λ line. (line ≡ length entries + 1) × (rest ≢ []) × BeginsBadly rest) →
    (entries ≡ trace) × (bad ≡ None)
read_by trace entries None rest are all e ends =
    let a = aligned trace entries rest are all e in
    (nothing_more trace entries a.0 rest a.1 a.3 ends, refl)
read_by trace entries (Some line) rest are all e ends =
    let a = aligned trace entries rest are all e in
    absurd (not_bad a.0 rest a.2 a.3 ends.1 ends.2)

pub read_again : (trace : List Entry) (read : ReadTrace) → AreEntries trace → IsReadAs (trace_text trace) read → read ≡ record { entries = trace; bad = None }
read_again trace read are is =
    let r = read_by trace read.entries read.bad is.1 are is.0 (sym (trace_closed trace) ∙ is.2) is.3 in
    rw (r.0, r.1) refl

pub closed-length : (text : List ℕ) → length (closed text) ≤ length text + 1
closed-length [] = omega arith
closed-length (b ∷ []) = closed_by (b == newline) where
  closed_by : (is : Bool) → length (cond is (b ∷ []) (b ∷ newline ∷ [])) ≤ 2
  closed_by true = omega arith
  closed_by false = omega arith
closed-length (b ∷ c ∷ text) = omega (arith, closed-length (c ∷ text))

few_lines : (entries : List Entry) → 2 * length entries ≤ length (trace_text entries)
few_lines [] = omega arith
few_lines (entry ∷ entries) = omega (arith, few_lines entries, two_bytes entry, length-append (entry_line entry) (trace_text entries))

-- lines are numbered in 32 bits
pub small_line : (text : List ℕ) (entries : List Entry) (rest : List ℕ) → length text < 2 ^ 32 → closed text ≡ trace_text entries ++ rest → rest ≢ [] → length entries + 1 < 2 ^ 32
small_line text entries [] small e some = absurd (some refl)
small_line text entries (b ∷ rest) small e some =
    let n : length (closed text) ≡ length (trace_text entries) + length (b ∷ rest) = ap length e ∙ length-append (trace_text entries) (b ∷ rest) in
    omega (arith, n, small, closed-length text, few_lines entries)
