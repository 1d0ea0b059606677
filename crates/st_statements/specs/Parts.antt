-- What single tokens of a script spell, without bounds on their length.
use Rattle.std.specs.Prelude.{ℕ, ◌+◌, ◌-◌, Bool, ◌&&◌, ◌||◌, not, if◌then◌else◌, nat_le, nat_lt, nat_eq, List, [], ◌∷◌, length, take, drop, codes, Option, Some, None, option_and_then, unwrap_or, slice_get}
use Rattle.std.specs.List.{list_all, starts_with}
use Rattle.std.specs.Str.{bytes_eq}
use Rattle.st_lex.specs.declared.token.Token.{Token}
use Rattle.st_lex.specs.Text.{text_of_token, is_word, is_quoted}
use Rattle.st_lex.specs.Unquote.{unquoted_plain}
use Rattle.st_names.specs.Name.{split_at_slashes, has_long_part}
use Rattle.st_names.specs.declared.limits.TheConstants.{LONGEST_NAME}

-- the text of a Word
abbrev pub word_at : List ℕ → Token → Option (List ℕ)
word_at text token = if is_word token.kind then Some (text_of_token text token) else None

-- the content of a quoted text, in which `$HOME` and the like are not replaced
abbrev pub quoted_at : List ℕ → Token → Option (List ℕ)
quoted_at text token = if is_quoted token.kind then Some (unquoted_plain (text_of_token text token)) else None

-- a part of a name in normal form: neither empty nor `.` nor `..`
abbrev pub is_plain_part : List ℕ → Bool
is_plain_part part = nat_le 1 (length part) && (not (bytes_eq part (codes ".")) && not (bytes_eq part (codes "..")))

-- whether a name is absolute and in normal form: `/`, or parts after slashes
abbrev pub is_normal : List ℕ → Bool
is_normal name =
    starts_with nat_eq name (codes "/") && (nat_le (length name) 1 || list_all is_plain_part (split_at_slashes (drop 1 name)))

-- whether a name, or a part of it, has too many bytes
abbrev pub is_long : List ℕ → Bool
is_long name = nat_lt LONGEST_NAME (length name) || has_long_part name

-- a text, if it is a name in normal form
abbrev pub if_normal : List ℕ → Option (List ℕ)
if_normal name = if is_normal name then Some name else None

-- a quoted name in normal form
abbrev pub path_at : List ℕ → Token → Option (List ℕ)
path_at text token = option_and_then if_normal (quoted_at text token)

-- a name, unless it is the root's
abbrev pub unless_root : List ℕ → Option (List ℕ)
unless_root name = if nat_lt 1 (length name) then Some name else None

-- a quoted name in normal form other than the root's
abbrev pub place_at : List ℕ → Token → Option (List ℕ)
place_at text token = option_and_then unless_root (path_at text token)

-- the last of some tokens, given the first and the tokens after it
abbrev pub last_of : Token → List Token → Token
last_of token tokens = unwrap_or (slice_get tokens (length tokens - 1)) token

-- the offset after the last of some tokens
abbrev pub last_end : Token → List Token → ℕ
last_end token tokens = (last_of token tokens).at + (last_of token tokens).len

-- the bytes of a text from one offset to another
abbrev pub between : List ℕ → ℕ → ℕ → List ℕ
between text start end = take (end - start) (drop start text)

-- the bytes of a text from the first to the last of some tokens
abbrev pub text_of_tokens : List ℕ → List Token → List ℕ
text_of_tokens text [] = []
text_of_tokens text (token ∷ tokens) = between text token.at (last_end token tokens)
