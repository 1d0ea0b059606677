-- The items of a pattern, and how its bytes spell them.
use Rattle.std.specs.Prelude.{suc, zero, ℕ, ◌+◌, Bool, true, false, ◌==◌, ◌&&◌, ◌||◌, nat_le, if◌then◌else◌, List, [], ◌∷◌, take, drop, Option, None, Some}

-- the byte `/`
abbrev pub slash : ℕ
slash = 47

-- the byte `*`
abbrev pub star : ℕ
star = 42

-- the byte `?`
abbrev pub question_mark : ℕ
question_mark = 63

-- the byte `\`
abbrev pub backslash : ℕ
backslash = 92

-- the byte `-`
abbrev pub dash : ℕ
dash = 45

-- the byte `[`
abbrev pub open_bracket : ℕ
open_bracket = 91

-- the byte `]`
abbrev pub close_bracket : ℕ
close_bracket = 93

-- whether a byte is `!` or `^`, which negates a class if it is the class's first byte
abbrev pub is_negation : ℕ → Bool
is_negation b = (b == 33) || (b == 94)

-- one part of a pattern, as it is matched
pub data Item : Type 0 where
  -- `*`: any run of bytes without a slash
  Star : Item
  -- `?`: any byte but a slash
  Any : Item
  -- exactly this byte
  Exactly : ℕ → Item
  -- a class: any byte but a slash that the bytes between the brackets list
  Within : List ℕ → Item
  -- a negated class: any byte but a slash that the bytes between the brackets don't list
  Without : List ℕ → Item

-- ---- classes

-- a byte of a class, and whether it is bare, that is without a backslash before it
pub record Member : Type 0 where
  pub byte : ℕ
  pub bare : Bool

-- the members of a class; a backslash escapes the next byte, and at the end of the class it is a member itself
abbrev pub members : List ℕ → List Member
members [] = []
members (b ∷ []) = record { byte = b; bare = true } ∷ []
members (b ∷ c ∷ rest) =
    if b == backslash then record { byte = c; bare = false } ∷ members rest
    else record { byte = b; bare = true } ∷ members (c ∷ rest)

-- the number of bytes that spell the first member of a class that isn't empty
abbrev pub member_len : List ℕ → ℕ
member_len [] = 1
member_len (b ∷ []) = 1
member_len (b ∷ c ∷ rest) = if b == backslash then 2 else 1

-- whether a byte is in the range from one byte to another, both included
abbrev pub in_range : ℕ → ℕ → ℕ → Bool
in_range low high c = nat_le low c && nat_le c high

-- whether the members list a byte; from the left, a member followed by a bare dash and another member is a range, any other is itself
abbrev pub has_byte : List Member → ℕ → Bool
has_byte [] c = false
has_byte (a ∷ []) c = a.byte == c
has_byte (a ∷ b ∷ []) c = (a.byte == c) || (b.byte == c)
has_byte (a ∷ b ∷ d ∷ rest) c =
    if b.bare && (b.byte == dash) then in_range a.byte d.byte c || has_byte rest c
    else (a.byte == c) || has_byte (b ∷ d ∷ rest) c

-- whether a class lists a byte
abbrev pub is_listed : List ℕ → ℕ → Bool
is_listed class c = has_byte (members class) c

-- a count, if there is one, increased by some bytes
abbrev pub farther_by : ℕ → Option ℕ → Option ℕ
farther_by k None = None
farther_by k (Some n) = Some (k + n)

-- the number of bytes before the first closing bracket that no backslash escapes
abbrev pub to_bracket : List ℕ → Option ℕ
to_bracket [] = None
to_bracket (b ∷ []) = if b == close_bracket then Some 0 else None
to_bracket (b ∷ c ∷ rest) =
    if b == close_bracket then Some 0
    else (if b == backslash then farther_by 2 (to_bracket rest) else farther_by 1 (to_bracket (c ∷ rest)))

-- the number of bytes that a class has before its closing bracket; a closing bracket that is its first byte belongs to the class
abbrev pub class_len : List ℕ → Option ℕ
class_len [] = None
class_len (b ∷ rest) = if b == close_bracket then farther_by 1 (to_bracket rest) else to_bracket (b ∷ rest)

-- ---- the first item of a pattern

-- an item, and the number of bytes of the pattern that spell it after its first byte
pub record SizedItem : Type 0 where
  pub item : Item
  pub following : ℕ

-- a byte that matches itself
abbrev pub byte_item : ℕ → SizedItem
byte_item b = record { item = Exactly b; following = 0 }

-- whether a class begins with the sign that negates it
abbrev pub is_negated : List ℕ → Bool
is_negated [] = false
is_negated (b ∷ rest) = is_negation b

-- the item of an opening bracket and the class after it, by the number of bytes of the class; an unclosed bracket matches itself
abbrev pub class_item : List ℕ → Option ℕ → SizedItem
class_item class None = byte_item open_bracket
class_item class (Some n) = record { item = Within (take n class); following = n + 1 }

-- the item of an opening bracket, a sign that negates, and the class after them, by the number of bytes of the class
abbrev pub negated_item : List ℕ → Option ℕ → SizedItem
negated_item class None = byte_item open_bracket
negated_item class (Some n) = record { item = Without (take n class); following = n + 2 }

-- the item of an opening bracket, by the bytes after it
abbrev pub bracket_item : List ℕ → SizedItem
bracket_item rest =
    if is_negated rest then negated_item (drop 1 rest) (class_len (drop 1 rest)) else class_item rest (class_len rest)

-- the item of a backslash, by the bytes after it
abbrev pub backslash_item : List ℕ → SizedItem
backslash_item [] = byte_item backslash
backslash_item (b ∷ rest) = record { item = Exactly b; following = 1 }

-- the first item, by the pattern's first byte and the bytes after it
abbrev pub first_item : ℕ → List ℕ → SizedItem
first_item b rest =
    if b == star then record { item = Star; following = 0 }
    else (if b == question_mark then record { item = Any; following = 0 }
    else (if b == backslash then backslash_item rest
    else (if b == open_bracket then bracket_item rest
    else byte_item b)))

-- the items from the left, after the first `skip` bytes that still belong to an item
abbrev pub items_after : ℕ → List ℕ → List Item
items_after skip [] = []
items_after (suc skip) (b ∷ rest) = items_after skip rest
items_after zero (b ∷ rest) = (first_item b rest).item ∷ items_after (first_item b rest).following rest

-- the items of a pattern, from the left
abbrev pub items : List ℕ → List Item
items pattern = items_after 0 pattern
