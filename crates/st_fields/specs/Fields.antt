-- The fields that lines consist of, as they are read: each gives a value and the bytes after it. What is read leniently here is compared with
-- what is printed of it.
use Rattle.std.specs.Prelude.{ℕ, zero, suc, ◌+◌, nat_eq, if◌then◌else◌, List, [], ◌∷◌, length, take, drop, codes, Option, Some, option_map}
use Rattle.std.specs.List.{starts_with}
use Rattle.st_base.specs.declared.ids.Ids.{Ids}
use Rattle.st_calls.specs.Argument.{label_named}
use Rattle.st_calls.specs.declared.argument.ArgText.{ArgText}
use Rattle.st_lex.specs.Quoted.{closing_len, quote_mark}
use Rattle.st_lex.specs.Unquote.{unquoted_plain}
use Rattle.st_names.specs.Name.{Components, components_of}
use Rattle.st_fields.specs.Reads.{◌>>=◌}
use Rattle.st_fields.specs.Words.{after_byte, blank, number_of_32, number_of_64, split_word}

-- a word after a blank
unfoldable pub word_at : List ℕ → Option (List ℕ × List ℕ)
word_at bytes = option_map split_word (after_byte blank bytes)

-- a word that spells a value
unfoldable pub spelled_at : {X : Type 0} → (List ℕ → Option X) → List ℕ → Option (X × List ℕ)
spelled_at spelled bytes = do
  word ← word_at bytes
  value ← spelled word.0
  Some (value, word.1)

-- a quoted text
unfoldable pub text_at : List ℕ → Option (List ℕ × List ℕ)
text_at bytes = do
  text ← after_byte blank bytes
  inner ← after_byte quote_mark text
  len ← closing_len inner
  Some (unquoted_plain (take (len + 1) text), drop (len + 1) text)

-- a quoted name
unfoldable pub name_at : List ℕ → Option (Components × List ℕ)
name_at bytes = do
  text ← text_at bytes
  Some (components_of text.0, text.1)

-- real and effective user, real and effective group
unfoldable pub ids_at : List ℕ → Option (Ids × List ℕ)
ids_at bytes = do
  ruid ← spelled_at number_of_32 bytes
  euid ← spelled_at number_of_32 ruid.1
  rgid ← spelled_at number_of_32 euid.1
  egid ← spelled_at number_of_32 rgid.1
  Some (record { ruid = ruid.0; euid = euid.0; rgid = rgid.0; egid = egid.0 }, egid.1)

-- so many numbers of 64 bits
abbrev pub numbers_at : ℕ → List ℕ → Option (List ℕ × List ℕ)
numbers_at zero bytes = Some ([], bytes)
numbers_at (suc n) bytes = do
  first ← spelled_at number_of_64 bytes
  others ← numbers_at n first.1
  Some (first.0 ∷ others.0, others.1)

-- the six registers
unfoldable pub regs_at : List ℕ → Option (List ℕ × List ℕ)
regs_at bytes = numbers_at 6 bytes

-- an argument, after its word
unfoldable pub arg_at : List ℕ → Option (ArgText × List ℕ)
arg_at bytes = do
  word ← word_at bytes
  label ← spelled_at label_named word.1
  index ← spelled_at number_of_32 label.1
  text ← text_at index.1
  Some (record { label = label.0; index = index.0; text = text.0 }, text.1)

-- arguments, as long as one more begins, and at most so many
unfoldable pub args_from : ℕ → List ℕ → Option (List ArgText × List ℕ)
args_from zero bytes = Some ([], bytes)
args_from (suc most) bytes =
    if starts_with nat_eq bytes (codes " arg ") then (do
      arg ← arg_at bytes
      others ← args_from most arg.1
      Some (arg.0 ∷ others.0, others.1))
    else Some ([], bytes)

-- arguments; each has a byte at least
abbrev pub args_at : List ℕ → Option (List ArgText × List ℕ)
args_at bytes = args_from (length bytes) bytes
