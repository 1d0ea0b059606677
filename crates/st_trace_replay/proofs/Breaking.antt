-- Each text of bytes is lawful, or breaks at some line.
use Rattle.std.proofs.Common.{◌≡◌, ◌≢◌, inl, inr, ℕ, zero, suc, ◌+◌, ◌≤◌, List, [], ◌∷◌, ◌++◌, length, Option, Some, None, refl, ap, ◌∙◌, arith}
use Rattle.std.proofs.lemmas.List.{append-nil, length-drop}
use Rattle.std.specs.List.{prefix_len}
use Rattle.st_law.specs.Inputs.{IsStartable}
use Rattle.st_law.specs.Numbers.{IsLawfulByNumber}
use Rattle.st_law.specs.declared.input.Input.{Input}
use Rattle.st_lex.specs.Tokens.{is_no_newline}
use Rattle.st_readtrace.specs.Entries.{entry_of_line}
use Rattle.st_readtrace.specs.Lines.{after_first_line, closed, first_line}
use Rattle.st_written.specs.Written.{AreEntries, IsEntry, IsText}
use Rattle.st_readtrace.proofs.Closings.{closed-some}
use Rattle.st_fields.proofs.Fits.{drop_text}
use Rattle.st_readtrace.proofs.Reading.{begins_badly, entries_more, first_line_text, line_fits, next_is, trace_more}
use Rattle.st_replay.specs.Told.{TraceSoFar, entry_told}
use Rattle.st_replay.proofs.Lawful.{entry_law}
use Rattle.st_report.specs.TraceText.{entry_line, trace_text}
use Rattle.st_trace.specs.declared.entry.Entry.{Entry}
use Rattle.st_trace_replay.specs.Replayed.{GoesOnUnlawfully, IsReplayed}
use Rattle.st_trace_replay.proofs.Decided.{Same, same_entry}
use Rattle.st_trace_replay.proofs.Lines.{goes_on_badly, goes_on_unlawfully}

abbrev SomeReplayed : Input → List ℕ → Type 0
SomeReplayed i text = (line : Option ℕ) × IsReplayed i text line

module _ (i : Input) (startable : IsStartable i) (text : List ℕ) where
  -- the text was read to here: this rest of it remains, after these entries
  record IsRead (front : List Entry) (rest : List ℕ) : Type 0 where
    entries : AreEntries front
    bytes : IsText rest
    text_is : closed text ≡ trace_text front ++ closed rest
    lawful : IsLawfulByNumber i front

  broken : (front : List Entry) (rest : List ℕ) → IsRead front rest → rest ≢ [] → GoesOnUnlawfully i front (closed rest) → SomeReplayed i text
  broken front rest read some breaks =
      (Some (length front + 1), record { front = front; rest = closed rest; entries = read.entries; text_is = read.text_is; lawful = read.lawful; line_is = refl; some = closed-some rest some; breaks = breaks })

  shorter : (b : ℕ) (rest : List ℕ) (fuel : ℕ) → length (b ∷ rest) ≤ suc fuel → length (after_first_line (b ∷ rest)) ≤ fuel
  shorter b rest fuel short = omega (arith, short, length-drop (prefix_len is_no_newline (b ∷ rest) + 1) (b ∷ rest))

  -- the next line breaks the trace, or the reading goes on after it
  step : (front : List Entry) (b : ℕ) (rest : List ℕ) → IsRead front (b ∷ rest) → ((entry : Entry) → IsRead (front ++ entry ∷ []) (after_first_line (b ∷ rest)) → SomeReplayed i text) → SomeReplayed i text
  step front b rest read further = by (entry_of_line (first_line (b ∷ rest))) refl
    where
      so_far : TraceSoFar
      so_far = record { input = i; trace = front }

      some : b ∷ rest ≢ []
      some e = cc

      after : List ℕ
      after = after_first_line (b ∷ rest)

      of_entry : (entry : Entry) → IsEntry entry → closed (b ∷ rest) ≡ entry_line entry ++ closed after → Same (entry_told so_far entry) (Some entry) → SomeReplayed i text
      of_entry entry is goes (inl told) =
          further entry (record {
            entries = entries_more front entry read.entries is;
            bytes = drop_text (prefix_len is_no_newline (b ∷ rest) + 1) (b ∷ rest) read.bytes;
            text_is = read.text_is ∙ ap (λ (more : List ℕ). trace_text front ++ more) goes ∙ trace_more front entry (closed after);
            lawful = (entry_law so_far startable read.lawful entry).1 told;
          })
      of_entry entry is goes (inr differs) =
          broken front (b ∷ rest) read some (goes_on_unlawfully so_far (closed (b ∷ rest)) (closed after) entry is goes (λ lawful. differs ((entry_law so_far startable read.lawful entry).0 lawful)))

      by : (found : Option Entry) → entry_of_line (first_line (b ∷ rest)) ≡ found → SomeReplayed i text
      by None none = broken front (b ∷ rest) read some (goes_on_badly so_far (closed (b ∷ rest)) (begins_badly (b ∷ rest) some none))
      by (Some entry) found =
          of_entry entry (line_fits (first_line (b ∷ rest)) entry (first_line_text (b ∷ rest) read.bytes) found) (next_is (b ∷ rest) entry some found) (same_entry (entry_told so_far entry) (Some entry))

  go : (fuel : ℕ) (front : List Entry) (rest : List ℕ) → length rest ≤ fuel → IsRead front rest → SomeReplayed i text
  go fuel front [] short read = (None, record { trace = front; entries = read.entries; text_is = read.text_is ∙ append-nil (trace_text front); lawful = read.lawful })
  go zero front (b ∷ rest) short read = absurd (omega (arith, short))
  go (suc fuel) front (b ∷ rest) short read = step front b rest read (λ entry more. go fuel (front ++ entry ∷ []) (after_first_line (b ∷ rest)) (shorter b rest fuel short) more)

pub some_replayed : (i : Input) → IsStartable i → (text : List ℕ) → IsText text → SomeReplayed i text
some_replayed i startable text bytes =
    go i startable text (length text) [] text (omega arith) (record { entries = tt; bytes = bytes; text_is = refl; lawful = record { numbers_are = refl; lawful = tt } })
