-- A trace is lawful entry by entry: each entry is the one that the machine adds for the choice that it tells.
use Rattle.std.proofs.Common.{◌≡◌, ◌↔◌, List, [], ◌∷◌, ◌++◌, reverse, Option, Some, None, refl, sym, ap, subst, ◌∙◌, append_assoc, append-nil}
use Rattle.std.proofs.lemmas.List.{reverse-append, same_from_push}
use Rattle.std.proofs.lemmas.Option.{same_Some}
use Rattle.std.specs.Option.{option_map}
use Rattle.st_trace.specs.declared.entry.Choice.{Choice}
use Rattle.st_trace.specs.declared.entry.Entry.{Entry}
use Rattle.st_law.specs.declared.input.Input.{Input}
use Rattle.st_law.specs.History.{looking_back}
use Rattle.st_law.specs.Inputs.{IsStartable}
use Rattle.st_law.specs.Lawful.{IsLawful, IsLawfulBack, Lawful}
use Rattle.st_law.specs.Machine.{entry_of}
use Rattle.st_law.specs.Numbers.{IsLawfulByNumber, drawings_at, drawn, drawn_back, drawn_entry, largest_number, numbered, numbered_back}
use Rattle.st_law.specs.Recorded.{choice_of}
use Rattle.st_law.specs.Threads.{History}
use Rattle.st_law.proofs.Recorded.{law_of_entry}
use Rattle.st_reached.proofs.NumbersBack.{roomy, trace_back}
use Rattle.st_reached.proofs.Reached.{lawful_entry, reached_back}
use Rattle.st_replay.specs.Told.{IsLawfulSoFar, TraceSoFar, choice_told, entry_made, entry_told, history_told, numbered_after, with_entry}
use Rattle.st_replay.proofs.Numbered.{choice_same}

-- ---- one more entry

drawn_more : (trace : List Entry) (e : Entry) → drawn (trace ++ e ∷ []) ≡ drawn trace ++ drawn_entry (drawings_at (reverse trace)) e ∷ []
drawn_more trace e = ap (λ h. reverse (drawn_back h)) (reverse-append trace (e ∷ [])) ∙ reverse-append (drawn_entry (drawings_at (reverse trace)) e ∷ []) (drawn_back (reverse trace))

numbered_more : (i : Input) (trace : List Entry) (d : Entry) → numbered i (trace ++ d ∷ []) ≡ numbered i trace ++ numbered_after i (reverse trace) d ∷ []
numbered_more i trace d = ap (λ h. reverse (numbered_back largest_number i h)) (reverse-append trace (d ∷ [])) ∙ reverse-append (numbered_after i (reverse trace) d ∷ []) (numbered_back largest_number i (reverse trace))

-- what a function of an optional entry gives comes from an entry
pub mapped_from : (f : Entry → Entry) (o : Option Entry) (e : Entry) → option_map f o ≡ Some e → (d : Entry) × (o ≡ Some d) × (f d ≡ e)
mapped_from f None e same = cc
mapped_from f (Some d) e same = (d, refl, same_Some (f d) e same)

module _ (i : Input) (startable : IsStartable i) where
  -- the numbers of a lawful trace of drawings are lawful
  numbered_lawful : (drawings : List Entry) → Lawful i drawings → IsLawfulByNumber i (numbered i drawings)
  numbered_lawful drawings lawful =
      let same : drawn (numbered i drawings) ≡ drawings = trace_back largest_number i startable (roomy i startable) drawings lawful in record {
        numbers_are = ap (numbered i) same;
        lawful = subst (Lawful i) (sym same) lawful;
      }

  module _ (trace : List Entry) (e : Entry) where
    abbrev so_far : TraceSoFar
    so_far = record { input = i; trace = trace }

    abbrev h : History
    h = history_told so_far

    abbrev d : Entry
    d = drawn_entry (drawings_at (reverse trace)) e

    -- the drawings of a lawful trace with one more entry are lawful
    module _ (x : IsLawfulByNumber i (trace ++ e ∷ [])) where
      lawful_drawings : IsLawfulBack i (d ∷ h)
      lawful_drawings = subst (IsLawfulBack i) (reverse-append (drawn trace) (d ∷ [])) (subst (Lawful i) (drawn_more trace e) x.lawful)

      same_numbers : (numbered i (drawn trace) ≡ trace) × (numbered_after i h d ≡ e)
      same_numbers = same_from_push (numbered i (drawn trace)) trace (numbered_after i h d) e
          (sym (numbered_more i (drawn trace) d) ∙ ap (numbered i) (sym (drawn_more trace e)) ∙ x.numbers_are)

      -- all but its last entry is lawful
      pub lawful_before : IsLawfulByNumber i trace
      lawful_before = record { numbers_are = same_numbers.0; lawful = lawful_drawings.1 }

      -- the machine adds the last entry for the choice that it tells
      pub lawful_adds : entry_told so_far e ≡ Some e
      lawful_adds =
          let told : choice_told so_far e ≡ choice_of i (looking_back i h) d =
          ap (choice_told so_far) (sym same_numbers.1) ∙ choice_same i startable h lawful_drawings.1 d lawful_drawings.0 in
          let adds : entry_of i (looking_back i h) (choice_told so_far e) ≡ Some d =
          ap (entry_of i (looking_back i h)) told ∙ (law_of_entry i startable h lawful_drawings.1 d).0 lawful_drawings.0 in
          ap (option_map (numbered_after i h)) adds ∙ ap Some same_numbers.1

    -- an entry that the machine adds after a lawful trace is lawful
    pub adds_lawful : (c : Choice) → IsLawfulByNumber i trace → entry_made so_far c ≡ Some e → IsLawfulByNumber i (trace ++ e ∷ [])
    adds_lawful c x adds =
        let found = mapped_from (numbered_after i h) (entry_of i (looking_back i h) c) e adds in
        let step : IsLawful i (looking_back i h) found.0 = lawful_entry i (looking_back i h) (reached_back i startable h x.lawful) c found.0 found.1 in
        let more : Lawful i (drawn trace ++ found.0 ∷ []) = subst (IsLawfulBack i) (sym (reverse-append (drawn trace) (found.0 ∷ []))) (step, x.lawful) in
        let is : numbered i (drawn trace ++ found.0 ∷ []) ≡ trace ++ e ∷ [] = numbered_more i (drawn trace) found.0 ∙ (λ k. x.numbers_are k ++ found.2 k ∷ []) in
        subst (IsLawfulByNumber i) is (numbered_lawful (drawn trace ++ found.0 ∷ []) more)

  -- ---- every entry

  pub prefix_lawful : (front rest : List Entry) → IsLawfulByNumber i (front ++ rest) → IsLawfulByNumber i front
  prefix_lawful front [] x = subst (IsLawfulByNumber i) (append-nil front) x
  prefix_lawful front (e ∷ rest) x = lawful_before front e (prefix_lawful (front ++ e ∷ []) rest (subst (IsLawfulByNumber i) (sym (append_assoc front (e ∷ []) rest)) x))

  -- what the machine adds after each beginning of a trace for the choice that the next entry tells is this entry
  abbrev pub EachAdded : List Entry → Type 0
  EachAdded trace = (front rest : List Entry) (e : Entry) → trace ≡ front ++ e ∷ rest → entry_told (record { input = i; trace = front }) e ≡ Some e

  lawful_each : (trace : List Entry) → IsLawfulByNumber i trace → EachAdded trace
  lawful_each trace x front rest e is =
      lawful_adds front e (prefix_lawful (front ++ e ∷ []) rest (subst (IsLawfulByNumber i) (is ∙ sym (append_assoc front (e ∷ []) rest)) x))

  each_on : (front rest : List Entry) → IsLawfulByNumber i front → EachAdded (front ++ rest) → IsLawfulByNumber i (front ++ rest)
  each_on front [] x each = subst (IsLawfulByNumber i) (sym (append-nil front)) x
  each_on front (e ∷ rest) x each =
      let one : IsLawfulByNumber i (front ++ e ∷ []) = adds_lawful front e (choice_told (record { input = i; trace = front }) e) x (each front rest e refl) in
      subst (IsLawfulByNumber i) (append_assoc front (e ∷ []) rest) (each_on (front ++ e ∷ []) rest one (subst EachAdded (sym (append_assoc front (e ∷ []) rest)) each))

  -- a trace is lawful exactly if the machine adds each of its entries
  pub trace_law : (trace : List Entry) → IsLawfulByNumber i trace ↔ EachAdded trace
  trace_law trace = (lawful_each trace, each_on [] trace (numbered_lawful [] tt))

-- an entry after a lawful trace is lawful exactly if the machine adds it for the choice that it tells
pub entry_law : (so_far : TraceSoFar) → IsStartable so_far.input → IsLawfulSoFar so_far → (e : Entry) → IsLawfulSoFar (with_entry so_far e) ↔ (entry_told so_far e ≡ Some e)
entry_law so_far startable x e = (lawful_adds so_far.input startable so_far.trace e, adds_lawful so_far.input startable so_far.trace e (choice_told so_far e) x)
