-- How far a part was copied, and what its words have spelled so far.
use Rattle.std.specs.Prelude.{ℕ, ◌≡◌, ◌+◌, ◌/◌, ◌%◌, ◌<◌, ◌≤◌, ◌==◌, ◌||◌, if◌then◌else◌, true, List, [], ◌∷◌, ◌++◌, length, take, IsSome}
use Rattle.std.specs.List.{concat, join_with_byte, prefix_len}
use Rattle.std.specs.Int.{w64, to_le_bytes}
use Rattle.st_calls.specs.declared.argument.PartKind.{PartKind}
use Rattle.st_calls.specs.declared.argument.PartKind.TheVariants as part_kind
use Rattle.st_model.specs.Spelling as spelling
use Rattle.st_model.specs.Spelling.{Spelled, address_text, blank, bytes_before_part, bytes_of_words, spell, spell_parts, spell_text}
use Rattle.st_model.specs.declared.limits.TheConstants.{SPACE_WORDS, ARGV_PARTS, ARGV_BYTES}
use Rattle.st_names.specs.declared.limits.TheConstants.{LONGEST_NAME}
use Rattle.st_translate.specs.Bytes.{is_letter, letters_at}
use Rattle.st_translate.specs.Copied.{asked_word, lies_in_memory}
use Rattle.st_translate.specs.declared.stage.TheConstants.{NAME_ROOM, NAME_WORDS, VECTOR_ROOM, VECTOR_WORDS}
use Rattle.st_translate.specs.declared.stage.Vector.{Vector}
use Rattle.st_translate.specs.declared.stage.Stage.{Stage}
use Rattle.st_translate.specs.declared.stage.Stage.TheVariants.{Text, Address, Pointer, Part, Fault, Done}

-- what is spelled at a stage with this text
abbrev pub spelled_at : Stage → List ℕ → Spelled
spelled_at (Text next read longest) text = spelling.More (next / 8)
spelled_at (Address next) text = spelling.More (next / 8)
spelled_at (Pointer vector) text = spelling.More (vector.pointer / 8)
spelled_at (Part next vector) text = spelling.More (next / 8)
spelled_at (Fault errno) text = spelling.Fault errno
spelled_at Done text = spelling.Text text

-- what a word adds to the text at a stage
abbrev pub text_added : Stage → ℕ → List ℕ
text_added (Text next read longest) word = letters_at next word
text_added (Address next) word = address_text (to_le_bytes w64 word)
text_added (Pointer vector) word = if word == 0 || vector.parts == 0 then [] else blank ∷ []
text_added (Part next vector) word = letters_at next word
text_added (Fault errno) word = []
text_added Done word = []

-- how many bytes a word adds at most
abbrev pub most_added : Stage → ℕ
most_added (Text next read longest) = 8
most_added (Address next) = 28
most_added (Pointer vector) = 1
most_added (Part next vector) = 8
most_added (Fault errno) = 0
most_added Done = 0

-- the most words that a part of a kind takes
abbrev pub most_words : PartKind → ℕ
most_words part_kind.Argv = VECTOR_WORDS
most_words kind = NAME_WORDS

-- the capacity that its text fits in, with what one more word may add to it
abbrev pub most_text : PartKind → ℕ
most_text part_kind.Argv = VECTOR_ROOM
most_text kind = NAME_ROOM

-- what was read is within the limits
abbrev pub IsStageWithin : Stage → Type 0
IsStageWithin (Text next read longest) = (read ≤ longest) × (longest ≤ LONGEST_NAME)
IsStageWithin (Address next) = Unit {0}
IsStageWithin (Pointer vector) = (vector.parts ≤ ARGV_PARTS) × (vector.bytes ≤ ARGV_BYTES)
IsStageWithin (Part next vector) = (vector.parts < ARGV_PARTS) × (vector.pointer / 8 ≤ SPACE_WORDS) × (vector.bytes ≤ ARGV_BYTES)
IsStageWithin (Fault errno) = Unit {0}
IsStageWithin Done = Unit {0}

-- another word is needed, and it is in memory
abbrev pub NeedsNextWord : Stage → Type 0
NeedsNextWord (Text next read longest) = (next / 8 < SPACE_WORDS) × IsStageWithin (Text next read longest)
NeedsNextWord (Address next) = next / 8 < SPACE_WORDS
NeedsNextWord (Pointer vector) = (vector.pointer / 8 < SPACE_WORDS) × IsStageWithin (Pointer vector)
NeedsNextWord (Part next vector) = (next / 8 < SPACE_WORDS) × IsStageWithin (Part next vector)
NeedsNextWord (Fault errno) = ⊥
NeedsNextWord Done = ⊥

-- words have spelled a prefix of a text, up to this byte of memory, and no byte of the prefix is zero
pub record ReadsText (kind : PartKind) (at : ℕ) (words text : List ℕ) (next read longest : ℕ) : Type 0 where
  pub is_text : (all : List ℕ) → spell kind at all ≡ spell_text longest at all
  pub bytes : (rest : List ℕ) → bytes_of_words at (words ++ rest) ≡ text ++ bytes_of_words next rest
  pub place : next / 8 ≡ at / 8 + length words
  pub letters : prefix_len is_letter text ≡ length text
  pub count : read ≡ length text

-- no word of an address has been read
pub record ReadsAddress (kind : PartKind) (at : ℕ) (words text : List ℕ) (next : ℕ) : Type 0 where
  pub is_address : kind ≡ part_kind.Addr
  pub place : next ≡ at
  pub aligned : at % 8 ≡ 0
  pub no_words : words ≡ []
  pub no_text : text ≡ []

-- words have spelled parts of an argument vector, and its next pointer follows
pub record ReadsPointer (kind : PartKind) (at : ℕ) (words text : List ℕ) (vector : Vector) : Type 0 where
  pub is_vector : kind ≡ part_kind.Argv
  pub parts : List (List ℕ)
  pub onward : (rest : List ℕ) → spell kind at (words ++ rest) ≡ spell_parts (at / 8) parts spelling.Pointer rest
  pub place : vector.pointer / 8 ≡ at / 8 + length parts
  pub joined : text ≡ join_with_byte blank parts
  pub count : vector.parts ≡ length parts
  pub bytes : vector.bytes ≡ length (concat parts)

-- words have spelled parts of an argument vector and a prefix of one more, up to this byte of memory
pub record ReadsPart (kind : PartKind) (at : ℕ) (words text : List ℕ) (next : ℕ) (vector : Vector) : Type 0 where
  pub is_vector : kind ≡ part_kind.Argv
  pub parts : List (List ℕ)
  pub pointer : ℕ
  pub count_of_words : ℕ
  pub part : List ℕ
  pub onward : (rest : List ℕ) → spell kind at (words ++ rest) ≡ spell_parts (at / 8) parts (spelling.Part pointer count_of_words part) rest
  pub here : next / 8 ≡ pointer / 8 + count_of_words
  pub offset : next % 8 ≡ bytes_before_part pointer count_of_words
  pub place : vector.pointer / 8 ≡ at / 8 + length parts + 1
  pub joined : text ≡ join_with_byte blank (parts ++ part ∷ [])
  pub count : vector.parts ≡ length parts
  pub bytes : vector.bytes ≡ length (concat parts) + length part

-- what words of a part have spelled at a stage, with this text
abbrev pub ReadsWords : PartKind → ℕ → List ℕ → List ℕ → Stage → Type 0
ReadsWords kind at words text (Text next read longest) = ReadsText kind at words text next read longest
ReadsWords kind at words text (Address next) = ReadsAddress kind at words text next
ReadsWords kind at words text (Pointer vector) = ReadsPointer kind at words text vector
ReadsWords kind at words text (Part next vector) = ReadsPart kind at words text next vector
ReadsWords kind at words text (Fault errno) = spell kind at words ≡ spelling.Fault errno
ReadsWords kind at words text Done = spell kind at words ≡ spelling.Text text

-- the same, and if another word is needed, it is in memory
abbrev pub Reaches : PartKind → ℕ → List ℕ → List ℕ → Stage → Type 0
Reaches kind at words text (Text next read longest) = NeedsNextWord (Text next read longest) × ReadsWords kind at words text (Text next read longest)
Reaches kind at words text (Address next) = NeedsNextWord (Address next) × ReadsWords kind at words text (Address next)
Reaches kind at words text (Pointer vector) = NeedsNextWord (Pointer vector) × ReadsWords kind at words text (Pointer vector)
Reaches kind at words text (Part next vector) = NeedsNextWord (Part next vector) × ReadsWords kind at words text (Part next vector)
Reaches kind at words text (Fault errno) = ReadsWords kind at words text (Fault errno)
Reaches kind at words text Done = ReadsWords kind at words text Done

-- each word was asked for by the words before it
abbrev pub AreAsked : PartKind → ℕ → List ℕ → Type 0
AreAsked kind at words = (count : ℕ) → count < length words → IsSome (asked_word (spell kind at (take count words)))

-- the invariant of copying a part: its text so far, its stage, and capacity for every word and byte
pub record IsCopyStage (kind : PartKind) (at : ℕ) (words text : List ℕ) (stage : Stage) (room text_room : ℕ) : Type 0 where
  pub lies : lies_in_memory kind ≡ true
  pub asked : AreAsked kind at words
  pub reached : Reaches kind at words text stage
  pub has_room : most_words kind ≤ room
  pub has_text_room : most_text kind ≤ text_room
