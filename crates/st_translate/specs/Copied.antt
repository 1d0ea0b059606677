-- A part of a call in memory, as far as it was copied.
use Rattle.std.specs.Prelude.{ℕ, Bool, true, false, List, [], ◌∷◌, ◌++◌, Option, Some, None}
use Rattle.st_base.specs.declared.errno.Errno.{Errno}
use Rattle.st_calls.specs.declared.argument.PartKind.{PartKind}
use Rattle.st_calls.specs.declared.argument.PartKind.TheVariants as kind
use Rattle.st_model.specs.Spelling.{Spelled, Text, Fault, More, spell}

-- whether an argument of this kind is in memory, at the address in its register; otherwise the register has its value
abbrev pub lies_in_memory : PartKind → Bool
lies_in_memory kind.Name = true
lies_in_memory kind.Plain = true
lies_in_memory kind.Addr = true
lies_in_memory kind.Argv = true
lies_in_memory kind.Decimal = false
lies_in_memory kind.Octal = false
lies_in_memory kind.Domain = false
lies_in_memory kind.SockType = false

-- the kind of the part, the byte where it begins, and the words that were copied
pub record Copied : Type 0 where
  pub kind : PartKind
  pub at : ℕ
  pub words : List ℕ

-- what the words spell
abbrev pub spelled_words : Copied → Spelled
spelled_words copied = spell copied.kind copied.at copied.words

-- the same part with one more word
abbrev pub with_word : Copied → ℕ → Copied
with_word copied word = record { kind = copied.kind; at = copied.at; words = copied.words ++ word ∷ [] }

-- the index of the word that is copied next, if any
abbrev pub asked_word : Spelled → Option ℕ
asked_word (Text text) = None
asked_word (Fault errno) = None
asked_word (More place) = Some place

-- the fault of words, if they have one
abbrev pub copy_fault : Spelled → Option Errno
copy_fault (Text text) = None
copy_fault (Fault errno) = Some errno
copy_fault (More place) = None

-- the words are complete
abbrev pub HasAllWords : Spelled → Type 0
HasAllWords (Text text) = Unit {0}
HasAllWords (Fault errno) = ⊥
HasAllWords (More place) = ⊥
