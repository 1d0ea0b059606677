-- What more entries add to an audit comes after it.
use Rattle.std.proofs.Common.{◌≡◌, List, [], ◌∷◌, ◌++◌, reverse, refl, sym, ap, subst, ◌∙◌}
use Rattle.std.proofs.lemmas.List.{append-nil, append_assoc, reverse-append, reverse-reverse}
use Rattle.st_emulation.specs.declared.emulation.Emulation.{Emulation}
use Rattle.st_trace.specs.declared.entry.Entry.{Entry}
use Rattle.st_law.specs.declared.input.Input.{Input}
use Rattle.st_law.specs.Numbers.{drawings_at, drawn, drawn_back, drawn_entry}
use Rattle.st_law.specs.Threads.{History}
use Rattle.st_audit.specs.AuditText.{BeginsWith, audit, audit_back, audit_by_number, audit_line}

one_line_more : (i : Input) (e : Entry) (newer older : History) (emulation : Emulation) → BeginsWith (audit_back i (newer ++ older) emulation) (audit_back i older emulation) → BeginsWith (audit_back i (e ∷ (newer ++ older)) emulation) (audit_back i older emulation)
one_line_more i e newer older emulation (following, is) = (
  following ++ audit_line i (newer ++ older) e emulation,
  ap (λ text. text ++ audit_line i (newer ++ older) e emulation) is ∙ append_assoc (audit_back i older emulation) following (audit_line i (newer ++ older) e emulation),
)

after_older : (i : Input) (newer older : History) (emulation : Emulation) → BeginsWith (audit_back i (newer ++ older) emulation) (audit_back i older emulation)
after_older i [] older emulation = ([], sym (append-nil (audit_back i older emulation)))
after_older i (e ∷ newer) older emulation = one_line_more i e newer older emulation (after_older i newer older emulation)

pub grows : (i : Input) (trace more : List Entry) (emulation : Emulation) → BeginsWith (audit i (trace ++ more) emulation) (audit i trace emulation)
grows i trace more emulation = rw (reverse-append trace more) (after_older i (reverse more) (reverse trace) emulation)

-- ---- numbers

-- the drawings of more entries come after those of the older ones
drawn_over : (newer older : History) → (front : History) × (drawn_back (newer ++ older) ≡ front ++ drawn_back older)
drawn_over [] older = ([], refl)
drawn_over (e ∷ newer) older = let rest = drawn_over newer older in
    (drawn_entry (drawings_at (newer ++ older)) e ∷ rest.0, ap (λ h. drawn_entry (drawings_at (newer ++ older)) e ∷ h) rest.1)

pub grows_by_number : (i : Input) (trace more : List Entry) (emulation : Emulation) → BeginsWith (audit_by_number i (trace ++ more) emulation) (audit_by_number i trace emulation)
grows_by_number i trace more emulation = let rest = drawn_over (reverse more) (reverse trace) in
    let shorter : reverse (drawn trace) ≡ drawn_back (reverse trace) = reverse-reverse (drawn_back (reverse trace)) in
    let longer : reverse (drawn (trace ++ more)) ≡ rest.0 ++ drawn_back (reverse trace) =
    reverse-reverse (drawn_back (reverse (trace ++ more))) ∙ ap drawn_back (reverse-append trace more) ∙ rest.1 in
    subst (λ h. BeginsWith (audit_back i h emulation) (audit_by_number i trace emulation)) (sym longer)
    (subst (λ h. BeginsWith (audit_back i (rest.0 ++ drawn_back (reverse trace)) emulation) (audit_back i h emulation)) (sym shorter) (after_older i rest.0 (drawn_back (reverse trace)) emulation))
