-- Names as lists of components, and the texts that spell names.
use Rattle.std.specs.Prelude.{◌≡◌, ◌≤◌, ◌<◌, ℕ, ◌+◌, ◌-◌, Bool, true, false, ◌==◌, ◌&&◌, not, nat_lt, List, [], ◌∷◌, length, slice_index_or, take, drop, codes, All, Option, None, Some}
use Rattle.std.specs.List.{filter, flat_map, list_any, slice_split}
use Rattle.std.specs.Str.{bytes_eq}
use Rattle.st_names.specs.declared.limits.TheConstants.{LONGEST_NAME, LONGEST_PART}

-- a name: its components from the root, or the components that continue some other name
abbrev pub Components : Type 0
Components = List (List ℕ)

-- the byte `/`
abbrev pub slash : ℕ
slash = 47

-- whether a byte is a slash
abbrev pub is_slash : ℕ → Bool
is_slash byte = byte == slash

-- the parts between the slashes
abbrev pub split_at_slashes : List ℕ → Components
split_at_slashes text = slice_split (λ byte. byte == slash) text

-- the parts between the slashes of the remaining text; none if no text remains
abbrev pub parts_left : Option (List ℕ) → Components
parts_left None = []
parts_left (Some text) = split_at_slashes text

-- the parts after the slashes
abbrev pub parts_after : List ℕ → Components
parts_after text = drop 1 (split_at_slashes text)

-- whether a text has a slash; no component of a name has one
abbrev pub has_slash : List ℕ → Bool
has_slash text = list_any is_slash text

-- the texts can be a name's components: none of them has a slash
abbrev pub AreParts : Components → Type 0
AreParts texts = All (λ text. has_slash text ≡ false) texts

-- whether a part is a component: it is neither empty nor `.`
abbrev pub is_component : List ℕ → Bool
is_component part = nat_lt 0 (length part) && not (bytes_eq part (codes "."))

-- the components of a text, `..` included
abbrev pub components_of : List ℕ → Components
components_of text = filter is_component (split_at_slashes text)

-- whether a part of the text is longer than a component may be
abbrev pub has_long_part : List ℕ → Bool
has_long_part text = list_any (λ part. nat_lt LONGEST_PART (length part)) (split_at_slashes text)

-- a component after a slash
abbrev pub with_slash : List ℕ → List ℕ
with_slash part = slash ∷ part

-- the text spells a name as each of its components after a slash; for the root it is empty
abbrev pub IsNameText : List ℕ → Type 0
IsNameText text = flat_map with_slash (parts_after text) ≡ text

-- how an absolute name is printed: `/` for the root, otherwise each component after a slash
abbrev pub printed_name : Components → List ℕ
printed_name [] = codes "/"
printed_name (part ∷ rest) = flat_map with_slash (part ∷ rest)

-- a name isn't too long
abbrev pub IsShort : Components → Type 0
IsShort name = length (printed_name name) ≤ LONGEST_NAME

-- a name without its last component; the root stays the root
abbrev pub parent : Components → Components
parent name = take (length name - 1) name

-- the last component of a name other than the root's
abbrev pub last_part : Components → List ℕ
last_part name = slice_index_or name (length name - 1) []

-- the last slash of a name's text separates the text of its parent from the last component
pub record IsLastSlash (text : List ℕ) (at : ℕ) : Type 0 where
  pub front : parts_after (take at text) ≡ parent (parts_after text)
  pub spelled : IsNameText (take at text)
  pub last : 0 < length (parts_after text) → drop (at + 1) text ≡ last_part (parts_after text)

-- whether a name is the root's
abbrev pub is_root : Components → Bool
is_root [] = true
is_root (part ∷ rest) = false
