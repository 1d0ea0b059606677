-- Quoted names, which are read again.
use Rattle.std.proofs.Common.{◌≡◌, ℕ, ◌<◌, List, [], ◌∷◌, ◌++◌, Some, refl, ap, ◌∙◌, arith}
use Rattle.std.proofs.lemmas.List.{append-nil}
use Rattle.std.specs.List.{filter, flat_map}
use Rattle.st_base.proofs.Each.{each-append}
use Rattle.st_names.specs.Name.{Components, components_of, is_component, printed_name, split_at_slashes, with_slash}
use Rattle.st_names.proofs.Spelled.{parts-append, parts_plain}
use Rattle.st_report.specs.Fields.{name_field}
use Rattle.st_fields.specs.Fields.{name_at}
use Rattle.st_written.specs.Written.{IsName, IsText}
use Rattle.st_fields.proofs.Quoting.{text_again}

-- the parts of what follows the first slash
parts_again : (part : List ℕ) (name : Components) → IsName (part ∷ name) → split_at_slashes (part ++ flat_map with_slash name) ≡ part ∷ name
parts_again part [] is = ap split_at_slashes (append-nil part) ∙ parts_plain part is.0.1
parts_again part (next ∷ name) is =
    parts-append part (next ++ flat_map with_slash name)
    ∙ ap (λ (left : Components). left ++ split_at_slashes (next ++ flat_map with_slash name)) (parts_plain part is.0.1)
    ∙ ap (λ (right : Components). part ∷ right) (parts_again next name is.1)

all_kept : (name : Components) → IsName name → filter is_component name ≡ name
all_kept [] is = refl
all_kept (part ∷ name) is = rw is.0.0 (ap (λ (parts : Components). part ∷ parts) (all_kept name is.1))

components_again : (name : Components) → IsName name → components_of (printed_name name) ≡ name
components_again [] is = refl
components_again (part ∷ name) is = ap (filter is_component) (ap (λ (parts : Components). [] ∷ parts) (parts_again part name is)) ∙ all_kept (part ∷ name) is

slashed_text : (name : Components) → IsName name → IsText (flat_map with_slash name)
slashed_text [] is = tt
slashed_text (part ∷ name) is = (omega arith, each-append (λ b. b < 256) part (flat_map with_slash name) is.0.2 (slashed_text name is.1))

printed_text : (name : Components) → IsName name → IsText (printed_name name)
printed_text [] is = (omega arith, tt)
printed_text (part ∷ name) is = slashed_text (part ∷ name) is

-- a name is read again, whatever follows
pub name_again : (name : Components) (rest : List ℕ) → IsName name → name_at (name_field name ++ rest) ≡ Some (name, rest)
unfolding name_at
name_again name rest is = rw (text_again (printed_name name) rest (printed_text name is), components_again name is) refl
