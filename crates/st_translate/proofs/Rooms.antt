-- Each part fits into the capacity for its words and its text.
use native.Mathlib.Omega.{arith}
use Rattle.std.proofs.Common.{◌≡◌, ◌<◌, ◌≤◌, ◌+◌, ◌/◌, ℕ, List, [], ◌∷◌, ◌++◌, length, ap, sym, ◌∙◌, length-append}
use Rattle.std.proofs.lemmas.List.Folds.{concat-append}
use Rattle.std.specs.List.{concat, join_with_byte}
use Rattle.st_calls.specs.declared.argument.PartKind.{PartKind}
use Rattle.st_calls.specs.declared.argument.PartKind.TheVariants as part_kind
use Rattle.st_model.specs.Spelling.{blank}
use Rattle.st_model.proofs.Spelled.{few_words_of_text}
use Rattle.st_model.proofs.Words.{few_words_of}
use Rattle.st_translate.specs.Stage.{NeedsNextWord, Reaches, most_added, most_text, most_words}
use Rattle.st_translate.specs.declared.stage.TheConstants.{NAME_ROOM, NAME_WORDS}
use Rattle.st_translate.specs.declared.stage.Stage.{Stage}
use Rattle.st_translate.specs.declared.stage.Stage.TheVariants.{Text, Address, Pointer, Part, Fault, Done}
use Rattle.st_translate.proofs.Stages.{spells}

-- joined texts have at most one byte more each
length-joined : (byte : ℕ) (parts : List (List ℕ)) → length (join_with_byte byte parts) ≤ length (concat parts) + length parts
length-joined byte [] = omega arith
length-joined byte (part ∷ []) = let all = length-append part [] in omega (arith, all)
length-joined byte (part ∷ next ∷ parts) =
    let rest = length-joined byte (next ∷ parts) in
    let joined = length-append part (byte ∷ join_with_byte byte (next ∷ parts)) in
    let all = length-append part (concat (next ∷ parts)) in
    omega (arith, rest, joined, all)

length-concat : (parts : List (List ℕ)) (part : List ℕ) → length (concat (parts ++ part ∷ [])) ≡ length (concat parts) + length part
length-concat parts part =
    let e = ap length (concat-append parts (part ∷ [])) in
    let f = length-append (concat parts) (concat (part ∷ [])) in
    let g = length-append part [] in
    omega (arith, e, f, g)

-- each kind of part may have at least as many words as a name
enough_words : (kind : PartKind) → NAME_WORDS ≤ most_words kind
enough_words part_kind.Argv = omega arith
enough_words kind = omega arith

enough_text : (kind : PartKind) → NAME_ROOM ≤ most_text kind
enough_text part_kind.Argv = omega arith
enough_text kind = omega arith

-- if a word is asked for, there is capacity for what it adds to the text
pub letters_fit : (kind : PartKind) (at : ℕ) (words text : List ℕ) (stage : Stage) → Reaches kind at words text stage → NeedsNextWord stage → length text + most_added stage ≤ most_text kind
letters_fit kind at words text (Text next read longest) r asks =
    let room = enough_text kind in
    let count = r.1.count in let short = r.0.1.0 in let bound = r.0.1.1 in omega (arith, room, count, short, bound)
letters_fit kind at words text (Address next) r asks = let room = enough_text kind in let none = ap length r.1.no_text in omega (arith, room, none)
letters_fit kind at words text (Pointer vector) r asks =
    let room = ap most_text r.1.is_vector in
    let text_is = ap length r.1.joined in
    let joined = length-joined blank r.1.parts in
    let count = r.1.count in let bytes = r.1.bytes in let few = r.0.1.0 in let short = r.0.1.1 in
    omega (arith, room, text_is, joined, count, bytes, few, short)
letters_fit kind at words text (Part next vector) r asks =
    let room = ap most_text r.1.is_vector in
    let text_is = ap length r.1.joined in
    let joined = length-joined blank (r.1.parts ++ r.1.part ∷ []) in
    let all = length-concat r.1.parts r.1.part in
    let many = length-append r.1.parts (r.1.part ∷ []) in
    let count = r.1.count in let bytes = r.1.bytes in let few = r.0.1.0 in let short = r.0.1.2 in
    omega (arith, room, text_is, joined, all, many, count, bytes, few, short)
letters_fit kind at words text (Fault errno) r asks = absurd asks
letters_fit kind at words text Done r asks = absurd asks

-- there is capacity for the word too
pub word_fits : (kind : PartKind) (at : ℕ) (words text : List ℕ) (stage : Stage) → Reaches kind at words text stage → NeedsNextWord stage → length words < most_words kind
word_fits kind at words text (Text next read longest) r asks =
    let room = enough_words kind in
    let few = few_words_of_text longest at (next / 8) words (sym (r.1.is_text words) ∙ spells kind at words text (Text next read longest) r) in
    let bound = r.0.1.1 in omega (arith, room, few, bound)
word_fits kind at words text (Address next) r asks = let room = enough_words kind in let none = ap length r.1.no_words in omega (arith, room, none)
word_fits kind at words text (Pointer vector) r asks =
    let room = ap most_words r.1.is_vector in
    let few = few_words_of kind at words (vector.pointer / 8) (spells kind at words text (Pointer vector) r) in
    omega (arith, room, few)
word_fits kind at words text (Part next vector) r asks =
    let room = ap most_words r.1.is_vector in
    let few = few_words_of kind at words (next / 8) (spells kind at words text (Part next vector) r) in
    omega (arith, room, few)
word_fits kind at words text (Fault errno) r asks = absurd asks
word_fits kind at words text Done r asks = absurd asks
