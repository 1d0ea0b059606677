use Rattle.std.proofs.Common.{[], ◌∷◌, reverse, ap, ◌∙◌}
use Rattle.std.proofs.lemmas.List.{reverse-append}
use Rattle.st_law.specs.Numbers.{drawings_at, drawn_back, drawn_entry, numbered_back, numbered_entry, numbers_at}
use Rattle.st_law.proofs.law.numbers_are_given_entry_by_entry.Goals as goal

pub returns-clause-numbered : goal.returns-clause-numbered
returns-clause-numbered c = λ circle input trace e.
    ap (λ h. reverse (numbered_back circle input h)) (reverse-append trace (e ∷ []))
    ∙ reverse-append (numbered_entry (numbers_at circle input (e ∷ reverse trace)).number_of e ∷ []) (numbered_back circle input (reverse trace))

pub returns-clause-drawn : goal.returns-clause-drawn
returns-clause-drawn c = λ trace e.
    ap (λ h. reverse (drawn_back h)) (reverse-append trace (e ∷ [])) ∙ reverse-append (drawn_entry (drawings_at (reverse trace)) e ∷ []) (drawn_back (reverse trace))
