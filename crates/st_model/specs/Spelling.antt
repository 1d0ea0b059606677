-- How an argument is spelled by the words that were copied for it.
use Rattle.std.specs.Prelude.{ℕ, ◌+◌, ◌/◌, ◌%◌, ◌*◌, ◌==◌, ◌||◌, not, nat_lt, nat_le, if◌then◌else◌, Bool, List, [], ◌∷◌, ◌++◌, length, take, drop, flat_map, position, slice_index, codes, decimal, false, zero, suc, Option, Some, None}
use Rattle.std.specs.List.{concat, join_with_byte, list_any, take_while}
use Rattle.std.specs.Fmt.{radix_digits}
use Rattle.std.specs.Int.{w64, to_le_bytes}
use Rattle.st_base.specs.declared.errno.Errno.{Errno}
use Rattle.st_base.specs.declared.errno.Errno.TheVariants.{E2BIG, EFAULT, EINVAL, ENAMETOOLONG}
use Rattle.st_calls.specs.declared.argument.PartKind.{PartKind}
use Rattle.st_model.specs.declared.limits.TheConstants.{SPACE_WORDS, LONGEST_TEXT, ARGV_PARTS, ARGV_BYTES}
use Rattle.st_names.specs.declared.limits.TheConstants.{LONGEST_NAME}
use Rattle.st_calls.specs.declared.argument.PartKind.TheVariants as kind

-- what copied words spell: a text, a fault, or the word index to be copied next
pub data Spelled : Type 0 where
  -- the argument is this text
  Text : List ℕ → Spelled
  Fault : Errno → Spelled
  -- the word at this index is copied next
  More : ℕ → Spelled

-- the bytes of the words, from byte `at` of memory on, which is in the first word
abbrev pub bytes_of_words : ℕ → List ℕ → List ℕ
bytes_of_words at words = drop (at % 8) (flat_map (to_le_bytes w64) words)

-- the word at this index is next, or a fault if memory has no such word
abbrev pub next_word : ℕ → Spelled
next_word place = if nat_le SPACE_WORDS place then Fault EFAULT else More place

-- a text whose end isn't copied yet: it is already too long, or the next word is needed
abbrev pub next_word_of_text : ℕ → ℕ → ℕ → Spelled
next_word_of_text longest place count = if nat_lt longest count then Fault ENAMETOOLONG else next_word place

-- what the bytes of a text spell, by the offset of the first zero byte, if there is one
abbrev pub text_before_zero : ℕ → List ℕ → ℕ → Option ℕ → Spelled
text_before_zero longest bytes place (Some end) = Text (take end bytes)
text_before_zero longest bytes place None = next_word_of_text longest place (length bytes)

-- whether a byte is zero
abbrev pub is_zero : ℕ → Bool
is_zero byte = byte == 0

-- a text from byte `at` on, of which these words are copied: it ends before its first zero byte, and has at most `longest` bytes
abbrev pub spell_text : ℕ → ℕ → List ℕ → Spelled
spell_text longest at words =
    let bytes = bytes_of_words at words in
    text_before_zero longest bytes (at / 8 + length words) (position is_zero (take (longest + 1) bytes))

-- a name whose end isn't copied yet: it is already too long, or the next word is needed
abbrev pub next_word_of_name : ℕ → ℕ → Spelled
next_word_of_name place count = next_word_of_text LONGEST_NAME place count

-- what the bytes of a name spell, by the offset of the first zero byte, if there is one
abbrev pub zero_ended_text : List ℕ → ℕ → Option ℕ → Spelled
zero_ended_text bytes place end = text_before_zero LONGEST_NAME bytes place end

-- a name from byte `at` on, of which these words are copied
abbrev pub spell_name : ℕ → List ℕ → Spelled
spell_name at words = spell_text LONGEST_NAME at words

-- the text of a socket address, which is one word: a length, which is ignored, the family, the port with its high byte first,
-- and the four bytes of the internet address
abbrev pub address_text : List ℕ → List ℕ
address_text bytes =
    codes "inet-[" ++ decimal (slice_index bytes 4) ++ codes "." ++ decimal (slice_index bytes 5) ++ codes "." ++
    decimal (slice_index bytes 6) ++ codes "." ++ decimal (slice_index bytes 7) ++ codes "]:" ++
    decimal (256 * slice_index bytes 2 + slice_index bytes 3)

-- the family of internet addresses
abbrev pub internet : ℕ
internet = 2

-- the socket address at byte `at`, of which these words are copied
abbrev pub spell_address : ℕ → List ℕ → Spelled
spell_address at [] = if not (at % 8 == 0) then Fault EFAULT else next_word (at / 8)
spell_address at (word ∷ words) =
    if not (at % 8 == 0) || nat_le SPACE_WORDS (at / 8) then Fault EFAULT
    else if not (slice_index (to_le_bytes w64 word) 1 == internet) then Fault EINVAL
    else Text (address_text (to_le_bytes w64 word))

-- the byte of a blank, which separates the texts of an argument vector
abbrev pub blank : ℕ
blank = 32

-- what the next word of an argument vector is
pub data ArgvPart : Type 0 where
  -- the next pointer
  Pointer : ArgvPart
  -- a word of the part at this pointer, of which this many words and these bytes were read
  Part : ℕ → ℕ → List ℕ → ArgvPart

-- the number of bytes of a part's next word that are before the part: only its first word can have some
abbrev pub bytes_before_part : ℕ → ℕ → ℕ
bytes_before_part pointer zero = pointer % 8
bytes_before_part pointer (suc words) = 0

-- The rest of an argument vector whose pointers begin at this word index, after these parts: a pointer, the words of its text up to
-- its first zero byte, the next pointer, and so on up to a zero pointer. The seventeenth part and the 1,025th byte are too many.
abbrev pub spell_parts : ℕ → List (List ℕ) → ArgvPart → List ℕ → Spelled
spell_parts place parts Pointer [] = next_word (place + length parts)
spell_parts place parts (Part pointer count taken) [] = next_word (pointer / 8 + count)
spell_parts place parts Pointer (word ∷ words) =
    if word == 0 then Text (join_with_byte blank parts)
    else if nat_le ARGV_PARTS (length parts) then Fault E2BIG
    else spell_parts place parts (Part word 0 []) words
spell_parts place parts (Part pointer count taken) (word ∷ words) =
    let bytes = drop (bytes_before_part pointer count) (to_le_bytes w64 word) in
    let part = taken ++ take_while (λ byte. not (is_zero byte)) bytes in
    if nat_lt ARGV_BYTES (length (concat parts) + length part) then Fault E2BIG
    else if list_any is_zero bytes then spell_parts place (parts ++ part ∷ []) Pointer words
    else spell_parts place parts (Part pointer (count + 1) part) words

-- an argument vector from byte `at` on, of which these words are copied
abbrev pub spell_argv : ℕ → List ℕ → Spelled
spell_argv at words = if not (at % 8 == 0) then Fault EFAULT else spell_parts (at / 8) [] Pointer words

-- the domain of a socket, as policies write it
abbrev pub domain_text : ℕ → List ℕ
domain_text n = if n == 1 then codes "AF_UNIX" else if n == 2 then codes "AF_INET" else decimal n

-- the type of a socket, as policies write it
abbrev pub type_text : ℕ → List ℕ
type_text n = if n == 1 then codes "SOCK_STREAM" else if n == 2 then codes "SOCK_DGRAM" else decimal n

-- a mode as policies write it: its low nine bits in octal digits, without leading zeros
abbrev pub mode_text : ℕ → List ℕ
mode_text n = radix_digits 8 false (n % 512)

-- An argument of this kind, by its register and the words that were copied for it. Names, texts, socket addresses and argument
-- vectors are in memory, from the byte whose offset is in the register on. A number is in the register.
abbrev pub spell : PartKind → ℕ → List ℕ → Spelled
spell kind.Name at words = spell_name at words
spell kind.Plain at words = spell_text LONGEST_TEXT at words
spell kind.Addr at words = spell_address at words
spell kind.Argv at words = spell_argv at words
spell kind.Decimal n words = Text (decimal n)
spell kind.Octal n words = Text (mode_text n)
spell kind.Domain n words = Text (domain_text n)
spell kind.SockType n words = Text (type_text n)
