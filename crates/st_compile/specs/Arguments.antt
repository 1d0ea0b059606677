-- The arguments of a call at their places: those of its rule, in order.
use Rattle.std.specs.Prelude.{◌≡◌, ◌&&◌, ◌==◌, not, ℕ, Bool, true, false, List, [], ◌∷◌}
use Rattle.std.specs.List.{list_any}
use Rattle.std.specs.Str.{bytes_eq}
use Rattle.st_calls.specs.Argument.{args_of, name_of_label}
use Rattle.st_calls.specs.declared.argument.ArgSpec.{ArgSpec}
use Rattle.st_calls.specs.declared.argument.ArgText.{ArgText}
use Rattle.st_calls.specs.declared.judged.Snapshot.{Snapshot}
use Rattle.st_filter.specs.declared.filter.FilterName.{FilterName}
use Rattle.st_filter.specs.declared.filter.FilterName.TheVariants as name
use Rattle.st_filter.specs.Formula.{FilterValue}

-- the arguments that are judged under what a filter is for, in order; none outside the model
abbrev pub args_of_name : FilterName → List ArgSpec
args_of_name (name.Rule rule) = args_of rule
args_of_name (name.Other other) = []

-- whether a rule's argument has a label of this name and this index
abbrev pub is_called : List ℕ → ℕ → ArgSpec → Bool
is_called label index spec = bytes_eq (name_of_label spec.label) label && spec.index == index

-- whether no two arguments of a rule have one label and index
abbrev pub are_distinct : List ArgSpec → Bool
are_distinct [] = true
are_distinct (spec ∷ specs) = not (list_any (is_called (name_of_label spec.label) spec.index) specs) && are_distinct specs

-- whether an argument of a call has the label and the index of a rule's argument
abbrev pub is_at_place : ArgSpec → ArgText → Bool
is_at_place spec arg = bytes_eq (name_of_label arg.label) (name_of_label spec.label) && arg.index == spec.index

-- whether a call's arguments are those of a rule, in order
abbrev pub are_at_places : List ArgSpec → List ArgText → Bool
are_at_places [] [] = true
are_at_places [] (arg ∷ args) = false
are_at_places (spec ∷ specs) [] = false
are_at_places (spec ∷ specs) (arg ∷ args) = is_at_place spec arg && are_at_places specs args

-- where the caller says so, a call's arguments are those of what a filter is for, in order
abbrev pub AreAtPlaces : Bool → Snapshot → FilterValue → Type 0
AreAtPlaces said s f = said ≡ true → are_at_places (args_of_name f.name) s.parts ≡ true
