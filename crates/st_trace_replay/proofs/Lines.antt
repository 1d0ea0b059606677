-- What the next line of a printed trace is, and how far it leads.
use Rattle.std.proofs.Common.{◌≡◌, ◌≢◌, ℕ, ◌+◌, ◌*◌, ◌<◌, ◌≤◌, ◌^◌, ◌==◌, Bool, true, false, if◌then◌else◌, List, [], ◌∷◌, ◌++◌, length, Some, None, Ok, Err, refl, ap, sym, ◌∙◌, arith, subst}
use Rattle.std.proofs.lemmas.List.{append-nil, length-append}
use Rattle.std.proofs.lemmas.Option.{same_Some}
use Rattle.st_lex.specs.Quoted.{newline}
use Rattle.st_law.specs.declared.input.Input.{Input}
use Rattle.st_law.specs.Numbers.{IsLawfulByNumber}
use Rattle.st_fields.specs.declared.fault.LineFault.TheVariants.{NotInGrammar}
use Rattle.st_readtrace.specs.Lines.{BeginsBadly, IsLineOf, IsNextEntry, Unread, after_first_line, closed}
use Rattle.st_written.specs.Written.{AreEntries, IsEntry}
use Rattle.st_readtrace.proofs.Closings.{one_cut}
use Rattle.st_readtrace.proofs.OneLine.{entry_is_line}
use Rattle.st_readtrace.proofs.Reading.{entries_more, line_and_rest, no_trace, one_line, trace_more, two_bytes}
use Rattle.st_replay.specs.declared.mover.Mover.{Mover}
use Rattle.st_replay.specs.Told.{IsLawfulSoFar, IsOnly, TraceSoFar, entry_moved, mover_of, with_added, with_entry}
use Rattle.st_report.specs.TraceText.{entry_line, entry_text, trace_text}
use Rattle.st_trace.specs.declared.entry.Entry.{Entry}
use Rattle.st_trace_replay.specs.Replayed.{GoesOnUnlawfully, IsReplayed}
use Rattle.st_trace_replay.specs.Movers.{mover_of_line}
use Rattle.st_trace_replay.specs.Steps.{IsCompared, IsNextLine, IsReplayedTo}
use Rattle.st_trace_replay.specs.declared.text.NextLine.{NextLine}
use Rattle.st_trace_replay.specs.declared.text.NextLine.TheVariants.{Lawful, Unlawful, End}
use Rattle.st_trace_replay.proofs.Moving.{mover_again}

-- ---- the next line

-- no other entry has the same line
pub same_first : (entry other : Entry) (after rest : List ℕ) → IsEntry entry → IsEntry other → entry_line entry ++ after ≡ entry_line other ++ rest → other ≡ entry
same_first entry other after rest is so e =
    let cut = one_cut (entry_text entry) (entry_text other) after rest (entry_is_line entry is) (entry_is_line other so) (sym (line_and_rest entry after) ∙ e ∙ line_and_rest other rest) in
    sym (one_line entry other is so cut.0)

-- an entry that isn't lawful is a line with which the text goes on unlawfully
pub goes_on_unlawfully : (so_far : TraceSoFar) (text after : List ℕ) (entry : Entry) → IsEntry entry → text ≡ entry_line entry ++ after → (IsLawfulSoFar (with_entry so_far entry) → ⊥) → GoesOnUnlawfully so_far.input so_far.trace text
goes_on_unlawfully so_far text after entry is text_is unlawful other rest so e lawful =
    let same : other ≡ entry = same_first entry other after rest is so (sym text_is ∙ e) in
    unlawful (subst (λ (x : Entry). IsLawfulSoFar (with_entry so_far x)) same lawful)

-- and so is a line that is no entry's
pub goes_on_badly : (so_far : TraceSoFar) (text : List ℕ) → BeginsBadly text → GoesOnUnlawfully so_far.input so_far.trace text
goes_on_badly so_far text badly other rest so e lawful = badly other rest so e

-- ---- the trace so far

pub replayed_to_start : (i : Input) (text : List ℕ) (unread : Unread) (so_far : TraceSoFar) → unread ≡ record { text = closed text; lines = 0 } → so_far.input ≡ i → so_far.trace ≡ [] → IsReplayedTo i text unread so_far
replayed_to_start i text unread so_far unread_is input_is none = record {
  input_is = input_is;
  entries = subst AreEntries (sym none) tt;
  text_is =
      subst (λ (trace : List Entry). closed text ≡ trace_text trace ++ unread.text) (sym none) (sym (ap (λ (u : Unread). u.text) unread_is));
  lines_are = ap (λ (u : Unread). u.lines) unread_is ∙ sym (ap (λ (trace : List Entry). length trace) none);
  lawful = subst (λ (trace : List Entry). IsLawfulByNumber so_far.input trace) (sym none) (record { numbers_are = refl; lawful = tt });
}

one_more : (trace : List Entry) (entry : Entry) → length (trace ++ entry ∷ []) ≡ length trace + 1
one_more trace entry = length-append trace (entry ∷ [])

pub replayed_further : (i : Input) (text : List ℕ) (unread later : Unread) (so_far longer : TraceSoFar) → IsReplayedTo i text unread so_far → IsNextLine Lawful unread later so_far longer → IsReplayedTo i text later longer
replayed_further i text unread later so_far longer to next =
    subst (IsReplayedTo i text later) (sym next.4) (record {
      input_is = to.input_is;
      entries = entries_more so_far.trace next.0 to.entries next.1;
      text_is = to.text_is ∙ ap (λ (rest : List ℕ). trace_text so_far.trace ++ rest) next.2 ∙ trace_more so_far.trace next.0 later.text;
      lines_are = next.3 ∙ ap (λ (n : ℕ). n + 1) to.lines_are ∙ sym (one_more so_far.trace next.0);
      lawful = next.5;
    })

-- each line has two bytes
trace_size : (trace : List Entry) → 2 * length trace ≤ length (trace_text trace)
trace_size [] = omega arith
trace_size (entry ∷ trace) =
    omega (arith, trace_size trace, two_bytes entry, length-append (entry_line entry) (trace_text trace))

one_size : (b : ℕ) → length (closed (b ∷ [])) ≤ 2
one_size b = by (b == newline)
  where
    by : (is : Bool) → length (if is then b ∷ [] else b ∷ newline ∷ []) ≤ 2
    by true = omega arith
    by false = omega arith

closed_size : (text : List ℕ) → length (closed text) ≤ length text + 1
closed_size [] = omega arith
closed_size (b ∷ []) = one_size b
closed_size (b ∷ c ∷ text) = omega (arith, closed_size (c ∷ text))

-- so the number of the next line has 32 bits
pub few_lines : (i : Input) (text : List ℕ) (unread : Unread) (so_far : TraceSoFar) → IsReplayedTo i text unread so_far → length text < 2 ^ 32 → unread.lines + 1 < 2 ^ 32
few_lines i text unread so_far to short =
    let size : length (closed text) ≡ length (trace_text so_far.trace) + length unread.text = ap (λ (bytes : List ℕ). length bytes) to.text_is ∙ length-append (trace_text so_far.trace) unread.text in
    omega (arith, short, size, closed_size text, trace_size so_far.trace, to.lines_are)

-- ---- the end

pub lawful_whole : (i : Input) (text : List ℕ) (unread : Unread) (so_far : TraceSoFar) → IsReplayedTo i text unread so_far → unread.text ≡ [] → IsReplayed i text None
lawful_whole i text unread so_far to none = record {
  trace = so_far.trace;
  entries = to.entries;
  text_is = to.text_is ∙ ap (λ (rest : List ℕ). trace_text so_far.trace ++ rest) none ∙ append-nil (trace_text so_far.trace);
  lawful = subst (λ (input : Input). IsLawfulByNumber input so_far.trace) to.input_is to.lawful;
}

pub broken_at : (i : Input) (text : List ℕ) (unread later : Unread) (so_far longer : TraceSoFar) (line : ℕ) → IsReplayedTo i text unread so_far → IsNextLine (Unlawful line) unread later so_far longer → IsReplayed i text (Some line)
broken_at i text unread later so_far longer line to next = record {
  front = so_far.trace;
  rest = unread.text;
  entries = to.entries;
  text_is = to.text_is;
  lawful = subst (λ (input : Input). IsLawfulByNumber input so_far.trace) to.input_is to.lawful;
  line_is = next.0 ∙ ap (λ (n : ℕ). n + 1) to.lines_are;
  some = next.1;
  breaks = subst (λ (input : Input). GoesOnUnlawfully input so_far.trace unread.text) to.input_is next.2;
}

-- ---- a line that is compared

-- a line with which a text begins is the one of the entry with whose line the text begins
line_of_entry : (text line : List ℕ) (entry : Entry) (after : List ℕ) → IsLineOf (Some line) text → IsEntry entry → text ≡ entry_line entry ++ after → line ≡ entry_text entry
line_of_entry text line entry after next is text_is =
    (one_cut line (entry_text entry) (after_first_line text) after next.0 (entry_is_line entry is) (sym next.1 ∙ text_is ∙ line_and_rest entry after)).0

pub some_text : (text line : List ℕ) → IsLineOf (Some line) text → text ≢ []
some_text text line next none =
    let e : 0 ≡ length (line ++ newline ∷ after_first_line text) = sym (ap (λ (bytes : List ℕ). length bytes) none) ∙ ap (λ (bytes : List ℕ). length bytes) next.1 in
    omega (arith, e, length-append line (newline ∷ after_first_line text))

-- the next line is the one that was printed of the entry that the machine added
pub printed_line : (unread later : Unread) (line printed : List ℕ) (added : Entry) → IsLineOf (Some line) unread.text → IsEntry added → printed ≡ entry_text added → printed ≡ line →
    later ≡ record { text = after_first_line unread.text; lines = unread.lines + 1 } → IsCompared Lawful unread later added
printed_line unread later line printed added next is printed_is same later_is = (
  is,
  next.1 ∙ ap (λ (bytes : List ℕ). bytes ++ newline ∷ after_first_line unread.text) (sym same ∙ printed_is) ∙ sym (line_and_rest added (after_first_line unread.text))
      ∙ ap (λ (u : Unread). entry_line added ++ u.text) (sym later_is),
  ap (λ (u : Unread). u.lines) later_is,
)

-- or another one
pub other_line : (unread later : Unread) (line printed : List ℕ) (added : Entry) (n : ℕ) → IsLineOf (Some line) unread.text → printed ≡ entry_text added → (printed ≡ line → ⊥) → n ≡ unread.lines + 1 →
    IsCompared (Unlawful n) unread later added
other_line unread later line printed added n next printed_is other n_is = (
  n_is,
  some_text unread.text line next,
  λ after is e. other (printed_is ∙ sym (line_of_entry unread.text line added after next is e)),
)

-- the next line is that of the entry that the machine added
pub same_entry : (unread later : Unread) (entry added : Entry) → IsNextEntry (Ok (Some entry)) unread later → entry ≡ added → IsCompared Lawful unread later added
same_entry unread later entry added next same = subst (λ (x : Entry). IsEntry x × (unread.text ≡ entry_line x ++ later.text) × (later.lines ≡ unread.lines + 1)) same next

-- or that of another one
pub other_entry : (unread later : Unread) (entry added : Entry) (n : ℕ) → IsNextEntry (Ok (Some entry)) unread later → (entry ≡ added → ⊥) → n ≡ later.lines → IsCompared (Unlawful n) unread later added
other_entry unread later entry added n next other n_is = (
  n_is ∙ next.2,
  λ e. no_trace entry later.text (sym next.1 ∙ e),
  λ after is e. other (sym (same_first entry added later.text after next.0 is (sym next.1 ∙ e))),
)

-- or that of none
pub no_entry : (unread later : Unread) (added : Entry) (n : ℕ) → IsNextEntry (Err NotInGrammar) unread later → n ≡ later.lines + 1 → IsCompared (Unlawful n) unread later added
no_entry unread later added n next n_is = (n_is ∙ ap (λ (u : Unread). u.lines + 1) next.2, next.0, λ after is e. next.1 added after is e)

-- a line that tells no mover is no entry's
pub no_mover : (unread later : Unread) (so_far longer : TraceSoFar) (line : List ℕ) (n : ℕ) → IsLineOf (Some line) unread.text → mover_of_line line ≡ None → n ≡ unread.lines + 1 → IsNextLine (Unlawful n) unread later so_far longer
no_mover unread later so_far longer line n next none n_is = (
  n_is,
  some_text unread.text line next,
  λ entry after is e lawful.
      let told : mover_of_line line ≡ Some (mover_of entry) = ap mover_of_line (line_of_entry unread.text line entry after next is e) ∙ mover_again entry is in
      let clash : None ≡ Some (mover_of entry) = sym none ∙ told in cc,
)

module _ (unread later : Unread) (so_far longer : TraceSoFar) (line : List ℕ) (mover : Mover) (next : IsLineOf (Some line) unread.text) (told : mover_of_line line ≡ Some mover) (only : IsOnly so_far mover (entry_moved so_far mover)) where
  -- an entry with whose line the text begins, and that is lawful, is the one that the machine adds
  is_moved : (entry : Entry) (after : List ℕ) → IsEntry entry → unread.text ≡ entry_line entry ++ after → IsLawfulSoFar (with_entry so_far entry) → entry_moved so_far mover ≡ Some entry
  is_moved entry after is e lawful =
      let same : Some (mover_of entry) ≡ Some mover = sym (mover_again entry is) ∙ ap mover_of_line (sym (line_of_entry unread.text line entry after next is e)) ∙ told in
      only entry (same_Some (mover_of entry) mover same) lawful

  -- no line is lawful if the mover can't move
  pub not_enabled : (n : ℕ) → entry_moved so_far mover ≡ None → n ≡ unread.lines + 1 → IsNextLine (Unlawful n) unread later so_far longer
  not_enabled n none n_is = (
    n_is,
    some_text unread.text line next,
    λ entry after is e lawful. let clash : None ≡ Some entry = sym none ∙ is_moved entry after is e lawful in cc,
  )

  -- a line that was compared with the one of the machine's entry
  pub compared : (found : NextLine) (added : Entry) → entry_moved so_far mover ≡ Some added → longer ≡ with_added so_far (entry_moved so_far mover) → IsLawfulSoFar longer → IsCompared found unread later added →
      IsNextLine found unread later so_far longer
  compared Lawful added moved on lawful is =
      let grown : longer ≡ with_entry so_far added = on ∙ ap (with_added so_far) moved in
      (added, is.0, is.1, is.2, grown, subst IsLawfulSoFar grown lawful)
  compared (Unlawful n) added moved on lawful is = (
    is.0,
    is.1,
    λ entry after written e allowed.
        let same : added ≡ entry = same_Some added entry (sym moved ∙ is_moved entry after written e allowed) in
        is.2 after (subst IsEntry (sym same) written) (e ∙ ap (λ (x : Entry). entry_line x ++ after) (sym same)),
  )
  compared End added moved on lawful is = is
