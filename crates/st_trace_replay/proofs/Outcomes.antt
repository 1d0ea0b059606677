-- A text is lawful, or breaks at exactly one line.
use Rattle.std.proofs.Common.{◌≡◌, ◌⊎◌, inl, inr, ℕ, ◌+◌, List, [], ◌∷◌, ◌++◌, length, reverse, Option, Some, None, refl, ap, sym, ◌∙◌, append_assoc, subst}
use Rattle.std.proofs.lemmas.List.{append-nil, reverse-append, reverse-reverse}
use Rattle.st_law.specs.Lawful.{IsLawfulBack}
use Rattle.st_law.specs.Numbers.{IsLawfulByNumber, drawn_back, largest_number, numbered_back}
use Rattle.st_law.specs.Threads.{History}
use Rattle.st_law.specs.declared.input.Input.{Input}
use Rattle.st_written.specs.Written.{AreEntries, IsEntry}
use Rattle.st_readtrace.proofs.Closings.{one_cut}
use Rattle.st_readtrace.proofs.OneLine.{entry_is_line}
use Rattle.st_readtrace.proofs.Reading.{line_and_rest, no_trace, one_line}
use Rattle.st_report.specs.TraceText.{entry_line, entry_text, trace_text}
use Rattle.st_trace.specs.declared.entry.Entry.{Entry}
use Rattle.st_trace_replay.specs.Replayed.{BreaksAt, GoesOnUnlawfully, IsLawfulText, IsReplayed}

-- ---- the front of a lawful trace is lawful

abbrev rest_of : History → History
rest_of [] = []
rest_of (e ∷ h) = h

-- numbers that are those of their drawings are so before each entry
numbers_before : (i : Input) (later h : History) → numbered_back largest_number i (drawn_back (later ++ h)) ≡ later ++ h → numbered_back largest_number i (drawn_back h) ≡ h
numbers_before i [] h are = are
numbers_before i (e ∷ later) h are = numbers_before i later h (ap rest_of are)

lawful_before : (i : Input) (later h : History) → IsLawfulBack i (drawn_back (later ++ h)) → IsLawfulBack i (drawn_back h)
lawful_before i [] h lawful = lawful
lawful_before i (e ∷ later) h lawful = lawful_before i later h lawful.1

-- a trace that is lawful by number, as a history
record IsLawfulNumbered (i : Input) (h : History) : Type 0 where
  numbers_are : numbered_back largest_number i (drawn_back h) ≡ h
  lawful : IsLawfulBack i (drawn_back h)

as_history : (i : Input) (trace : List Entry) → IsLawfulByNumber i trace → IsLawfulNumbered i (reverse trace)
as_history i trace is = record {
  numbers_are =
      ap (λ (h : History). numbered_back largest_number i h) (sym (reverse-reverse (drawn_back (reverse trace))))
      ∙ sym (reverse-reverse (numbered_back largest_number i (reverse (reverse (drawn_back (reverse trace)))))) ∙ ap (λ (t : List Entry). reverse t) is.numbers_are;
  lawful = subst (IsLawfulBack i) (reverse-reverse (drawn_back (reverse trace))) is.lawful;
}

as_trace : (i : Input) (trace : List Entry) → IsLawfulNumbered i (reverse trace) → IsLawfulByNumber i trace
as_trace i trace is = record {
  numbers_are =
      ap (λ (h : History). reverse (numbered_back largest_number i h)) (reverse-reverse (drawn_back (reverse trace))) ∙ ap (λ (t : List Entry). reverse t) is.numbers_are ∙ reverse-reverse trace;
  lawful = subst (IsLawfulBack i) (sym (reverse-reverse (drawn_back (reverse trace)))) is.lawful;
}

pub lawful_front : (i : Input) (front rest : List Entry) → IsLawfulByNumber i (front ++ rest) → IsLawfulByNumber i front
lawful_front i front rest is =
    let all : IsLawfulNumbered i (reverse rest ++ reverse front) = subst (IsLawfulNumbered i) (reverse-append front rest) (as_history i (front ++ rest) is) in
    as_trace i front (record { numbers_are = numbers_before i (reverse rest) (reverse front) all.numbers_are; lawful = lawful_before i (reverse rest) (reverse front) all.lawful })

pub lawful_so_far : (i : Input) (front : List Entry) (entry : Entry) (more : List Entry) → IsLawfulByNumber i (front ++ entry ∷ more) → IsLawfulByNumber i (front ++ entry ∷ [])
lawful_so_far i front entry more is = lawful_front i (front ++ entry ∷ []) more (subst (IsLawfulByNumber i) (sym (append_assoc front (entry ∷ []) more)) is)

-- ---- two readings of one text

-- one reading goes on where another ends, with this entry
record GoesOn (short long : List Entry) (rest : List ℕ) : Type 0 where
  entry : Entry
  more : List Entry
  after : List ℕ
  is : IsEntry entry
  long_is : long ≡ short ++ entry ∷ more
  rest_is : rest ≡ entry_line entry ++ after

longer : (e : Entry) (short long : List Entry) (rest : List ℕ) → GoesOn short long rest → GoesOn (e ∷ short) (e ∷ long) rest
longer e short long rest goes = record { entry = goes.entry; more = goes.more; after = goes.after; is = goes.is; long_is = ap (λ (entries : List Entry). e ∷ entries) goes.long_is; rest_is = goes.rest_is }

-- two readings are the same, or one goes on where the other ends
abbrev Compare : List Entry → List Entry → List ℕ → List ℕ → Type 0
Compare a b x y = ((a ≡ b) × (x ≡ y)) ⊎ (GoesOn a b x ⊎ GoesOn b a y)

compare_more : (e : Entry) (a b : List Entry) (x y : List ℕ) → Compare a b x y → Compare (e ∷ a) (e ∷ b) x y
compare_more e a b x y (inl same) = inl (ap (λ (entries : List Entry). e ∷ entries) same.0, same.1)
compare_more e a b x y (inr (inl goes)) = inr (inl (longer e a b x goes))
compare_more e a b x y (inr (inr goes)) = inr (inr (longer e b a y goes))

compare : (a b : List Entry) (x y : List ℕ) → AreEntries a → AreEntries b → trace_text a ++ x ≡ trace_text b ++ y → Compare a b x y
compare [] [] x y p q e = inl (refl, e)
compare [] (f ∷ b) x y p q e = inr (inl (record { entry = f; more = b; after = trace_text b ++ y; is = q.0; long_is = refl; rest_is = e ∙ append_assoc (entry_line f) (trace_text b) y }))
compare (f ∷ a) [] x y p q e = inr (inr (record { entry = f; more = a; after = trace_text a ++ x; is = p.0; long_is = refl; rest_is = sym e ∙ append_assoc (entry_line f) (trace_text a) x }))
compare (f ∷ a) (g ∷ b) x y p q e =
    let cut = one_cut (entry_text f) (entry_text g) (trace_text a ++ x) (trace_text b ++ y) (entry_is_line f p.0) (entry_is_line g q.0)
    (sym (line_and_rest f (trace_text a ++ x)) ∙ sym (append_assoc (entry_line f) (trace_text a) x) ∙ e ∙ append_assoc (entry_line g) (trace_text b) y ∙ line_and_rest g (trace_text b ++ y)) in
    let same : f ≡ g = one_line f g p.0 q.0 cut.0 in
    subst (λ (h : Entry). Compare (f ∷ a) (h ∷ b) x y) same (compare_more f a b x y (compare a b x y p.1 q.1 cut.1))

-- ---- one line

-- a break excludes that a lawful reading goes on
unbroken : (i : Input) (front long : List Entry) (rest : List ℕ) → GoesOnUnlawfully i front rest → GoesOn front long rest → IsLawfulByNumber i long → ⊥
unbroken i front long rest breaks goes lawful =
    breaks goes.entry goes.after goes.is goes.rest_is (lawful_so_far i front goes.entry goes.more (subst (IsLawfulByNumber i) goes.long_is lawful))

lawful_or_broken : (i : Input) (text : List ℕ) (line : ℕ) → IsLawfulText i text → BreaksAt i text line → ⊥
lawful_or_broken i text line whole broken = by (compare whole.trace broken.front [] broken.rest whole.entries broken.entries (append-nil (trace_text whole.trace) ∙ sym whole.text_is ∙ broken.text_is))
  where
    by : Compare whole.trace broken.front [] broken.rest → ⊥
    by (inl same) = broken.some (sym same.1)
    by (inr (inl goes)) = no_trace goes.entry goes.after (sym goes.rest_is)
    by (inr (inr goes)) = unbroken i broken.front whole.trace broken.rest broken.breaks goes whole.lawful

one_break : (i : Input) (text : List ℕ) (line other : ℕ) → BreaksAt i text line → BreaksAt i text other → line ≡ other
one_break i text line other p q = by (compare p.front q.front p.rest q.rest p.entries q.entries (sym p.text_is ∙ q.text_is))
  where
    by : Compare p.front q.front p.rest q.rest → line ≡ other
    by (inl same) = p.line_is ∙ ap (λ (entries : List Entry). length entries + 1) same.0 ∙ sym q.line_is
    by (inr (inl goes)) = absurd (unbroken i p.front q.front p.rest p.breaks goes q.lawful)
    by (inr (inr goes)) = absurd (unbroken i q.front p.front q.rest q.breaks goes p.lawful)

pub one_replayed : (i : Input) (text : List ℕ) (a b : Option ℕ) → IsReplayed i text a → IsReplayed i text b → a ≡ b
one_replayed i text None None p q = refl
one_replayed i text None (Some line) p q = absurd (lawful_or_broken i text line p q)
one_replayed i text (Some line) None p q = absurd (lawful_or_broken i text line q p)
one_replayed i text (Some line) (Some other) p q = ap (λ (n : ℕ). Some n) (one_break i text line other p q)
