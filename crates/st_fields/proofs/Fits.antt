-- The values that fields are read as fit their types.
use Rattle.std.proofs.Common.{zero, suc, ◌≡◌, ℕ, ◌+◌, ◌-◌, ◌*◌, ◌<◌, ◌≤◌, ◌^◌, Bool, true, false, ◌==◌, ◌&&◌, cond, nat_eq, nat_le, List, [], ◌∷◌, length, take, drop, codes, Option, Some, None, option_map, refl, ap, sym, arith, subst, take-append-drop}
use Rattle.std.proofs.lemmas.Bool.{leb-true, ltb-true}
use Rattle.std.proofs.lemmas.List.Elements.{filter_passes, recursion_from_All}
use Rattle.std.specs.Char.{digit_value, is_digit}
use Rattle.std.specs.List.{AllByRecursion, filter, onto_first, prefix_len, starts_with}
use Rattle.std.specs.Option.{option_and_then}
use Rattle.std.specs.Prelude.{IfSome}
use Rattle.std.specs.Str.Parse.{digits_value}
use Rattle.st_base.proofs.Each.{each-append, each-parts}
use Rattle.st_base.specs.Number.{is_numeral, numeral_up_to}
use Rattle.st_calls.specs.Argument.{label_named}
use Rattle.st_calls.specs.declared.argument.ArgText.{ArgText}
use Rattle.st_lex.specs.Quoted.{closing_len, quote_mark}
use Rattle.st_lex.specs.Text.{inside}
use Rattle.st_lex.specs.Unquote.{byte_escape, byte_of_hex, escape, escape_or_backslash, plain_front, unquoted_from, unquoted_plain}
use Rattle.st_names.specs.Name.{Components, components_of, has_slash, is_component, slash, split_at_slashes}
use Rattle.st_names.proofs.Spelled.{plain-components}
use Rattle.st_trace.specs.declared.entry.CallResult.{CallResult}
use Rattle.st_trace.specs.declared.entry.CallResult.TheVariants.{Failed}
use Rattle.st_fields.specs.Words.{after_byte, blank, bytes_of_digits, bytes_of_word, error_of_name, is_inner, number_of_16, number_of_32, number_of_64, octal_number, result_by, result_of_word, seq_of_word, split_word}
use Rattle.st_fields.specs.Fields.{arg_at, args_at, args_from, ids_at, name_at, numbers_at, regs_at, spelled_at, text_at, word_at}
use Rattle.st_written.specs.Written.{AreArgs, AreIds, AreRegs, Has16, Has32, Has64, IsArg, IsName, IsResult, IsSeq, IsText}

-- ---- what is read step by step

-- what is read has this property, and bytes follow it
abbrev pub Fits : {X : Type 0} → (X → Type 0) → Option (X × List ℕ) → Type 0
Fits P read = IfSome read (λ x. P x.0 × IsText x.1)

-- any value
abbrev pub Any : {X : Type 0} → X → Type 0
Any x = Unit {0}

pub and_then : {A B : Type 0} (f : A → Option B) (o : Option A) (P : A → Type 0) (Q : B → Type 0) → IfSome o P → ((a : A) → P a → IfSome (f a) Q) → IfSome (option_and_then f o) Q
and_then f None P Q first more = tt
and_then f (Some a) P Q first more = more a first

-- ---- parts of texts

pub take_text : (n : ℕ) (bytes : List ℕ) → IsText bytes → IsText (take n bytes)
take_text n bytes text = (each-parts (λ b. b < 256) (take n bytes) (drop n bytes) (subst IsText (sym (take-append-drop n bytes)) text)).0

pub drop_text : (n : ℕ) (bytes : List ℕ) → IsText bytes → IsText (drop n bytes)
drop_text n bytes text = (each-parts (λ b. b < 256) (take n bytes) (drop n bytes) (subst IsText (sym (take-append-drop n bytes)) text)).1

pub split_text : (bytes : List ℕ) → IsText bytes → IsText (split_word bytes).1
split_text bytes text = drop_text (prefix_len is_inner bytes) bytes text

after_by : (b : Bool) (bytes : List ℕ) → IsText bytes → IfSome (cond b (Some bytes) None) IsText
after_by true bytes text = text
after_by false bytes text = tt

pub after_fits : (byte : ℕ) (bytes : List ℕ) → IsText bytes → IfSome (after_byte byte bytes) IsText
after_fits byte [] text = tt
after_fits byte (b ∷ bytes) text = after_by (b == byte) bytes text.1

word_by : (o : Option (List ℕ)) → IfSome o IsText → Fits IsText (option_map split_word o)
word_by None text = tt
word_by (Some bytes) text = (take_text (prefix_len is_inner bytes) bytes text, drop_text (prefix_len is_inner bytes) bytes text)

pub word_fits : (bytes : List ℕ) → IsText bytes → Fits IsText (word_at bytes)
unfolding word_at
word_fits bytes text = word_by (after_byte blank bytes) (after_fits blank bytes text)

pub spelled_fits : {X : Type 0} (spelled : List ℕ → Option X) (P : X → Type 0) → ((word : List ℕ) → IsText word → IfSome (spelled word) P) → (bytes : List ℕ) → IsText bytes → Fits P (spelled_at spelled bytes)
unfolding spelled_at
spelled_fits spelled P fits bytes text =
    and_then _ (word_at bytes) (λ x. IsText x.0 × IsText x.1) _ (word_fits bytes text) (λ word w.
    and_then _ (spelled word.0) P _ (fits word.0 w.0) (λ value is. (is, w.1)))

any_fits : {X : Type 0} (o : Option X) → IfSome o Any
any_fits None = tt
any_fits (Some x) = tt

pub any_spelled : {X : Type 0} (spelled : List ℕ → Option X) (bytes : List ℕ) → IsText bytes → Fits Any (spelled_at spelled bytes)
any_spelled spelled bytes text = spelled_fits spelled Any (λ word w. any_fits (spelled word)) bytes text

-- ---- numbers

numeral_by : (a b : Bool) (n most : ℕ) → (b ≡ true → n ≤ most) → IfSome (cond (a && b) (Some n) None) (λ x. x ≤ most)
numeral_by true true n most small = small refl
numeral_by true false n most small = tt
numeral_by false b n most small = tt

numeral_fits : (most radix : ℕ) (word : List ℕ) → IfSome (numeral_up_to most radix word) (λ n. n ≤ most)
numeral_fits most radix word = numeral_by (is_numeral radix word) (nat_le (digits_value radix word) most) (digits_value radix word) most (leb-true (digits_value radix word) most)

small_by : (most limit : ℕ) (o : Option ℕ) → most < limit → IfSome o (λ n. n ≤ most) → IfSome o (λ n. n < limit)
small_by most limit None high small = tt
small_by most limit (Some n) high small = omega (arith, small)

word_16 : (word : List ℕ) → IfSome (number_of_16 word) Has16
word_16 word = small_by (2 ^ 16 - 1) (2 ^ 16) (number_of_16 word) (omega arith) (numeral_fits (2 ^ 16 - 1) 10 word)

word_64 : (word : List ℕ) → IfSome (number_of_64 word) Has64
word_64 word = small_by (2 ^ 64 - 1) (2 ^ 64) (number_of_64 word) (omega arith) (numeral_fits (2 ^ 64 - 1) 10 word)

pub fits_16 : (bytes : List ℕ) → IsText bytes → Fits Has16 (spelled_at number_of_16 bytes)
fits_16 bytes text = spelled_fits number_of_16 Has16 (λ word w. word_16 word) bytes text

pub fits_32 : (bytes : List ℕ) → IsText bytes → Fits Has32 (spelled_at number_of_32 bytes)
fits_32 bytes text = spelled_fits number_of_32 Has32 (λ word w. small_by (2 ^ 32 - 1) (2 ^ 32) (number_of_32 word) (omega arith) (numeral_fits (2 ^ 32 - 1) 10 word)) bytes text

pub fits_64 : (bytes : List ℕ) → IsText bytes → Fits Has64 (spelled_at number_of_64 bytes)
fits_64 bytes text = spelled_fits number_of_64 Has64 (λ word w. word_64 word) bytes text

pub mode_fits : (bytes : List ℕ) → IsText bytes → Fits Has32 (spelled_at octal_number bytes)
mode_fits bytes text = spelled_fits octal_number Has32 (λ word w. small_by (2 ^ 32 - 1) (2 ^ 32) (octal_number word) (omega arith) (numeral_fits (2 ^ 32 - 1) 8 word)) bytes text

held_by : (b : Bool) (o : Option ℕ) → IfSome o Has16 → IfSome (cond b (Some None) (option_map Some o)) IsSeq
held_by true o small = tt
held_by false None small = tt
held_by false (Some n) small = small

pub seq_fits : (bytes : List ℕ) → IsText bytes → Fits IsSeq (spelled_at seq_of_word bytes)
seq_fits bytes text = spelled_fits seq_of_word IsSeq (λ word w. held_by _ (number_of_16 word) (word_16 word)) bytes text

failed_by : {X : Type 0} (f : X → CallResult) (o : Option X) → ((x : X) → IsResult (f x)) → IfSome (option_map f o) IsResult
failed_by f None is = tt
failed_by f (Some x) is = is x

outcome_by : (word : List ℕ) (o : Option ℕ) → IfSome o Has64 → IfSome (result_by word o) IsResult
outcome_by word (Some n) small = small
outcome_by word None small = failed_by Failed (error_of_name word) (λ errno. tt)

pub result_fits : (bytes : List ℕ) → IsText bytes → Fits IsResult (spelled_at result_of_word bytes)
result_fits bytes text = spelled_fits result_of_word IsResult (λ word w. outcome_by word (number_of_64 word) (word_64 word)) bytes text

-- ---- hexadecimal digits

byte_by : (a b : Bool) (m n : ℕ) → (a ≡ true → m < 16) → (b ≡ true → n < 16) → IfSome (cond (a && b) (Some (m * 16 + n)) None) (λ x. x < 256)
byte_by true true m n high low = let h : m < 16 = high refl in let l : n < 16 = low refl in omega (arith, h, l)
byte_by true false m n high low = tt
byte_by false b m n high low = tt

byte_fits : (high low : ℕ) → IfSome (byte_of_hex high low) (λ b. b < 256)
byte_fits high low = byte_by (is_digit high 16) (is_digit low 16) (digit_value high) (digit_value low) (ltb-true (digit_value high) 16) (ltb-true (digit_value low) 16)

digits_fit : (digits : List ℕ) → IfSome (bytes_of_digits digits) IsText
digits_fit [] = tt
digits_fit (high ∷ []) = tt
digits_fit (high ∷ low ∷ digits) =
    and_then _ (byte_of_hex high low) (λ b. b < 256) _ (byte_fits high low) (λ b is.
    and_then _ (bytes_of_digits digits) IsText _ (digits_fit digits) (λ bytes are. (is, are)))

bytes_by : (b : Bool) (o : Option (List ℕ)) → IfSome o IsText → IfSome (cond b (Some []) o) IsText
bytes_by true o text = tt
bytes_by false o text = text

pub bytes_fit : (bytes : List ℕ) → IsText bytes → Fits IsText (spelled_at bytes_of_word bytes)
bytes_fit bytes text = spelled_fits bytes_of_word IsText (λ word w. bytes_by _ (bytes_of_digits word) (digits_fit word)) bytes text

-- ---- quoted texts

escape_by : (o : Option ℕ) → IfSome o (λ b. b < 256) → IsText (escape_or_backslash o).text
escape_by None small = (omega arith, tt)
escape_by (Some b) small = (small, tt)

hex_escape : (bytes : List ℕ) → IsText (byte_escape bytes).text
hex_escape [] = (omega arith, tt)
hex_escape (high ∷ []) = (omega arith, tt)
hex_escape (high ∷ low ∷ rest) = escape_by (byte_of_hex high low) (byte_fits high low)

marked_by : (a b : Bool) (c : ℕ) (bytes : List ℕ) → c < 256 → IsText (cond a (record { text = c ∷ []; len = 2 }) (cond b (byte_escape bytes) (escape_or_backslash None))).text
marked_by true b c bytes small = (small, tt)
marked_by false true c bytes small = hex_escape bytes
marked_by false false c bytes small = (omega arith, tt)

escape_text : (bytes : List ℕ) → IsText bytes → IsText (escape bytes).text
escape_text [] text = (omega arith, tt)
escape_text (c ∷ bytes) text = marked_by _ _ c bytes text.0

front_by : (a : Bool) (b : ℕ) (bytes : List ℕ) → b < 256 → IsText bytes → IsText (cond a (escape bytes) (record { text = b ∷ []; len = 1 })).text
front_by true b bytes small text = escape_text bytes text
front_by false b bytes small text = (small, tt)

unquoted_fits : (skip : ℕ) (bytes : List ℕ) → IsText bytes → IsText (unquoted_from [] skip bytes)
unquoted_fits skip [] text = tt
unquoted_fits (suc skip) (b ∷ bytes) text = unquoted_fits skip bytes text.1
unquoted_fits zero (b ∷ bytes) text =
    each-append (λ x. x < 256) (plain_front (b ∷ bytes)).text (unquoted_from [] ((plain_front (b ∷ bytes)).len - 1) bytes) (front_by _ b bytes text.0 text.1) (unquoted_fits ((plain_front (b ∷ bytes)).len - 1) bytes text.1)

plain_fits : (source : List ℕ) → IsText source → IsText (unquoted_plain source)
plain_fits source text = unquoted_fits 0 (inside source) (take_text _ (drop 1 source) (drop_text 1 source text))

pub text_fits : (bytes : List ℕ) → IsText bytes → Fits IsText (text_at bytes)
unfolding text_at
text_fits bytes text =
    and_then _ (after_byte blank bytes) IsText _ (after_fits blank bytes text) (λ quoted q.
    and_then _ (after_byte quote_mark quoted) IsText _ (after_fits quote_mark quoted q) (λ inner i.
    and_then _ (closing_len inner) Any _ (any_fits (closing_len inner)) (λ len l.
    (plain_fits (take (len + 1) quoted) (take_text (len + 1) quoted q), drop_text (len + 1) quoted q))))

-- ---- names

split_by : (b : Bool) (x : ℕ) (parts : Components) → x < 256 → AllByRecursion IsText parts → AllByRecursion IsText (cond b ([] ∷ parts) (onto_first x parts))
split_by true x parts small texts = (tt, texts)
split_by false x [] small texts = ((small, tt), tt)
split_by false x (part ∷ parts) small texts = ((small, texts.0), texts.1)

split_fits : (text : List ℕ) → IsText text → AllByRecursion IsText (split_at_slashes text)
split_fits [] is = (tt, tt)
split_fits (x ∷ text) is = split_by (x == slash) x (split_at_slashes text) is.0 (split_fits text is.1)

kept_by : (b : Bool) (part : List ℕ) (parts : Components) → IsText part → AllByRecursion IsText parts → AllByRecursion IsText (cond b (part ∷ parts) parts)
kept_by true part parts is are = (is, are)
kept_by false part parts is are = are

kept_fits : (parts : Components) → AllByRecursion IsText parts → AllByRecursion IsText (filter is_component parts)
kept_fits [] are = tt
kept_fits (part ∷ parts) are = kept_by (is_component part) part (filter is_component parts) are.0 (kept_fits parts are.1)

name_parts : (name : Components) → AllByRecursion (λ part. is_component part ≡ true) name → AllByRecursion (λ part. has_slash part ≡ false) name → AllByRecursion IsText name → IsName name
name_parts [] some plain texts = tt
name_parts (part ∷ name) some plain texts = ((some.0, plain.0, texts.0), name_parts name some.1 plain.1 texts.1)

components_fit : (text : List ℕ) → IsText text → IsName (components_of text)
components_fit text is =
    name_parts (components_of text) (recursion_from_All (λ part. is_component part ≡ true) (components_of text) (filter_passes is_component (split_at_slashes text)))
    (recursion_from_All (λ part. has_slash part ≡ false) (components_of text) (plain-components text)) (kept_fits (split_at_slashes text) (split_fits text is))

pub name_fits : (bytes : List ℕ) → IsText bytes → Fits IsName (name_at bytes)
unfolding name_at
name_fits bytes text =
    and_then _ (text_at bytes) (λ x. IsText x.0 × IsText x.1) _ (text_fits bytes text) (λ found f. (components_fit found.0 f.0, f.1))

-- ---- ids, registers and arguments

pub ids_fit : (bytes : List ℕ) → IsText bytes → Fits AreIds (ids_at bytes)
unfolding ids_at
ids_fit bytes text =
    and_then _ (spelled_at number_of_32 bytes) (λ x. Has32 x.0 × IsText x.1) _ (fits_32 bytes text) (λ ruid a.
    and_then _ (spelled_at number_of_32 ruid.1) (λ x. Has32 x.0 × IsText x.1) _ (fits_32 ruid.1 a.1) (λ euid b.
    and_then _ (spelled_at number_of_32 euid.1) (λ x. Has32 x.0 × IsText x.1) _ (fits_32 euid.1 b.1) (λ rgid c.
    and_then _ (spelled_at number_of_32 rgid.1) (λ x. Has32 x.0 × IsText x.1) _ (fits_32 rgid.1 c.1) (λ egid d. ((a.0, b.0, c.0, d.0), d.1)))))

abbrev pub AreNumbers : ℕ → List ℕ → Type 0
AreNumbers n numbers = (length numbers ≡ n) × AllByRecursion Has64 numbers

numbers_fit : (n : ℕ) (bytes : List ℕ) → IsText bytes → Fits (AreNumbers n) (numbers_at n bytes)
numbers_fit zero bytes text = ((refl, tt), text)
numbers_fit (suc n) bytes text =
    and_then _ (spelled_at number_of_64 bytes) (λ x. Has64 x.0 × IsText x.1) _ (fits_64 bytes text) (λ first a.
    and_then _ (numbers_at n first.1) (λ x. AreNumbers n x.0 × IsText x.1) _ (numbers_fit n first.1 a.1) (λ others b. ((ap suc b.0.0, (a.0, b.0.1)), b.1)))

pub regs_fit : (bytes : List ℕ) → IsText bytes → Fits AreRegs (regs_at bytes)
unfolding regs_at
regs_fit bytes text = numbers_fit 6 bytes text

arg_fits : (bytes : List ℕ) → IsText bytes → Fits IsArg (arg_at bytes)
unfolding arg_at
arg_fits bytes text =
    and_then _ (word_at bytes) (λ x. IsText x.0 × IsText x.1) _ (word_fits bytes text) (λ word a.
    and_then _ (spelled_at label_named word.1) (λ x. Any x.0 × IsText x.1) _ (any_spelled label_named word.1 a.1) (λ label b.
    and_then _ (spelled_at number_of_32 label.1) (λ x. Has32 x.0 × IsText x.1) _ (fits_32 label.1 b.1) (λ index c.
    and_then _ (text_at index.1) (λ x. IsText x.0 × IsText x.1) _ (text_fits index.1 c.1) (λ found d. ((c.0, d.0), d.1)))))

args_by : (b : Bool) (o : Option (List ArgText × List ℕ)) (bytes : List ℕ) → Fits AreArgs o → IsText bytes → Fits AreArgs (cond b o (Some ([], bytes)))
args_by true o bytes fits text = fits
args_by false o bytes fits text = (tt, text)

args_from_fit : (most : ℕ) (bytes : List ℕ) → IsText bytes → Fits AreArgs (args_from most bytes)
unfolding args_from
args_from_fit zero bytes text = (tt, text)
args_from_fit (suc most) bytes text =
    args_by (starts_with nat_eq bytes (codes " arg ")) _ bytes
    (and_then _ (arg_at bytes) (λ x. IsArg x.0 × IsText x.1) _ (arg_fits bytes text) (λ arg a.
    and_then _ (args_from most arg.1) (λ x. AreArgs x.0 × IsText x.1) _ (args_from_fit most arg.1 a.1) (λ others b. ((a.0, b.0), b.1)))) text

pub args_fit : (bytes : List ℕ) → IsText bytes → Fits AreArgs (args_at bytes)
args_fit bytes text = args_from_fit (length bytes) bytes text
