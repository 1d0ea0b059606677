-- Numbers and names as single words, which are read again.
use Rattle.std.proofs.Common.{◌≡◌, ℕ, ◌-◌, ◌^◌, ◌<◌, ◌≤◌, true, false, List, [], ◌∷◌, ◌++◌, length, codes, decimal, Option, Some, None, refl, ap, sym, ◌∙◌, append_assoc, arith, nat_eq}
use Rattle.std.proofs.lemmas.Bool.{and_from}
use Rattle.std.proofs.lemmas.Bool.Decides.{nat_tests}
use Rattle.std.proofs.lemmas.Fmt.{decimal_is_IsNumeral, digits_is_IsNumeral}
use Rattle.std.proofs.lemmas.Str.Parse.{digit_from_value}
use Rattle.std.specs.Fmt.{digits, radix_digits}
use Rattle.std.specs.Int.{IsInRange}
use Rattle.std.specs.List.{list_all}
use Rattle.std.specs.Str.{bytes_eq}
use Rattle.std.specs.Str.Parse.{AllDigits, IsNumeral, digits_value}
use Rattle.st_base.proofs.Digits.{numeral_up_to-some}
use Rattle.st_base.specs.Errno.{name_of_error}
use Rattle.st_base.specs.Number.{numeral_up_to}
use Rattle.st_base.specs.declared.errno.Errno.{Errno}
use Rattle.st_base.specs.declared.errno.Errno.TheVariants.{EPERM}
use Rattle.st_calls.specs.Argument.{label_named, name_of_label}
use Rattle.st_calls.specs.Call.{call_named, name_of_call, name_of_rule}
use Rattle.st_calls.specs.Emulation.{emulation_prefix}
use Rattle.st_calls.specs.declared.argument.Label.{Label}
use Rattle.st_calls.specs.declared.argument.Label.TheVariants.{Filename}
use Rattle.st_calls.specs.declared.call.SysCall.{SysCall}
use Rattle.st_calls.specs.declared.call.SysCall.TheVariants.{Open}
use Rattle.st_calls.specs.declared.rule.Rule.{Rule}
use Rattle.st_calls.specs.declared.rule.Rule.TheVariants.{Call, FsRead, FsWrite}
use Rattle.st_report.specs.Fields.{mode_field, number_field, number_fields, word_field}
use Rattle.st_report.specs.TraceText.{result_text, seq_field}
use Rattle.st_trace.specs.declared.entry.CallResult.{CallResult}
use Rattle.st_trace.specs.declared.entry.CallResult.TheVariants.{Value, Failed}
use Rattle.st_fields.specs.Words.{is_inner, number_of_16, number_of_32, number_of_64, octal_number, error_of_name, rule_after_prefix, seq_of_word, result_of_word}
use Rattle.st_fields.specs.Fields.{spelled_at}
use Rattle.st_written.specs.Written.{Has16, Has32, Has64, IsResult, IsSeq}
use Rattle.st_fields.proofs.Fronts.{Stops, spelled_again}

-- a word spells a value, and can be read as a word
pub record Spells {X : Type 0} (spelled : List ℕ → Option X) (word : List ℕ) (value : X) : Type 0 where
  pub is : spelled word ≡ Some value
  pub inner : list_all is_inner word ≡ true

pub again : {X : Type 0} (spelled : List ℕ → Option X) (word : List ℕ) (value : X) (rest : List ℕ) → Spells spelled word value → Stops is_inner rest → spelled_at spelled (word_field word ++ rest) ≡ Some (value, rest)
again spelled word value rest s stops = spelled_again spelled word value rest s.is s.inner stops

-- ---- numbers

digit_inner : (d : ℕ) → IsInRange 48 57 d → is_inner d ≡ true
digit_inner d range = grind (arith, nat_tests)

digits_inner : (radix : ℕ) (ds : List ℕ) → radix ≤ 10 → AllDigits radix ds → list_all is_inner ds ≡ true
digits_inner radix [] small all = refl
digits_inner radix (d ∷ ds) small all =
    and_from (is_inner d) (list_all is_inner ds) (digit_inner d (digit_from_value d (omega (arith, all.0)))) (digits_inner radix ds small all.1)

numeral_spells : (most radix n : ℕ) (ds : List ℕ) → radix ≤ 10 → IsNumeral radix ds × (digits_value radix ds ≡ n) → n ≤ most → Spells (numeral_up_to most radix) ds n
numeral_spells most radix n ds small d fits = record {
  is = sym (numeral_up_to-some most radix n ds d.0.0 d.0.1 (sym d.1) fits);
  inner = digits_inner radix ds small d.0.1;
}

pub number_spells : (most n : ℕ) → n < 2 ^ 64 → n ≤ most → Spells (numeral_up_to most 10) (decimal n) n
number_spells most n small fits = numeral_spells most 10 n (decimal n) (omega arith) (decimal_is_IsNumeral n small) fits

pub again_16 : (n : ℕ) (rest : List ℕ) → Has16 n → Stops is_inner rest → spelled_at number_of_16 (number_field n ++ rest) ≡ Some (n, rest)
again_16 n rest small stops = again number_of_16 (decimal n) n rest (number_spells (2 ^ 16 - 1) n (omega (arith, small)) (omega (arith, small))) stops

pub again_32 : (n : ℕ) (rest : List ℕ) → Has32 n → Stops is_inner rest → spelled_at number_of_32 (number_field n ++ rest) ≡ Some (n, rest)
again_32 n rest small stops = again number_of_32 (decimal n) n rest (number_spells (2 ^ 32 - 1) n (omega (arith, small)) (omega (arith, small))) stops

pub again_64 : (n : ℕ) (rest : List ℕ) → Has64 n → Stops is_inner rest → spelled_at number_of_64 (number_field n ++ rest) ≡ Some (n, rest)
again_64 n rest small stops = again number_of_64 (decimal n) n rest (number_spells (2 ^ 64 - 1) n small (omega (arith, small))) stops

octal_spells : (n : ℕ) → Has32 n → Spells octal_number (radix_digits 8 false n) n
octal_spells n small = numeral_spells (2 ^ 32 - 1) 8 n (digits 8 false n) (omega arith) (digits_is_IsNumeral 8 false (omega arith) (omega arith) n (omega (arith, small))) (omega (arith, small))

pub mode_again : (n : ℕ) (rest : List ℕ) → Has32 n → Stops is_inner rest → spelled_at octal_number (mode_field n ++ rest) ≡ Some (n, rest)
mode_again n rest small stops = again octal_number (radix_digits 8 false n) n rest (octal_spells n small) stops

-- ---- names

pub call_spells : (call : SysCall) → Spells call_named (name_of_call call) call
call_spells Open = record { is = refl; inner = refl }
call_spells _ = record { is = refl; inner = refl }

pub label_spells : (label : Label) → Spells label_named (name_of_label label) label
label_spells Filename = record { is = refl; inner = refl }
label_spells _ = record { is = refl; inner = refl }

pub error_spells : (errno : Errno) → Spells error_of_name (name_of_error errno) errno
error_spells EPERM = record { is = refl; inner = refl }
error_spells _ = record { is = refl; inner = refl }

call_rule : (call : SysCall) → Spells rule_after_prefix (emulation_prefix ++ name_of_call call) (Call call)
call_rule Open = record { is = refl; inner = refl }
call_rule _ = record { is = refl; inner = refl }

pub rule_spells : (rule : Rule) → Spells rule_after_prefix (emulation_prefix ++ name_of_rule rule) rule
rule_spells (Call call) = call_rule call
rule_spells FsRead = record { is = refl; inner = refl }
rule_spells FsWrite = record { is = refl; inner = refl }

-- ---- numbers of held calls, and results

one_number : (n : ℕ) (rest : List ℕ) → number_fields (n ∷ []) ++ rest ≡ number_field n ++ rest
one_number n rest = append_assoc (number_field n) [] rest

-- digits are no `-`
no_dash : (ds : List ℕ) → AllDigits 10 ds → 0 < length ds → bytes_eq ds (codes "-") ≡ false
no_dash [] all some = absurd (omega arith)
no_dash (d ∷ ds) all some =
    let range : IsInRange 48 57 d = digit_from_value d all.0 in
    let e : nat_eq d 45 ≡ false = grind (arith, nat_tests) in
    rw e refl

held_spells : (n : ℕ) → Has16 n → Spells seq_of_word (decimal n) (Some n)
held_spells n small =
    let s = number_spells (2 ^ 16 - 1) n (omega (arith, small)) (omega (arith, small)) in
    let d = decimal_is_IsNumeral n (omega (arith, small)) in
    record { is = rw (no_dash (decimal n) d.0.1 d.0.0, s.is) refl; inner = s.inner }

pub seq_again : (seq : Option ℕ) (rest : List ℕ) → IsSeq seq → Stops is_inner rest → spelled_at seq_of_word (seq_field seq ++ rest) ≡ Some (seq, rest)
seq_again None rest small stops = spelled_again seq_of_word (codes "-") None rest refl refl stops
seq_again (Some n) rest small stops =
    ap (λ (bytes : List ℕ). spelled_at seq_of_word bytes) (one_number n rest) ∙ again seq_of_word (decimal n) (Some n) rest (held_spells n small) stops

value_spells : (n : ℕ) → Has64 n → Spells result_of_word (decimal n) (Value n)
value_spells n small =
    let s = number_spells (2 ^ 64 - 1) n small (omega (arith, small)) in
    record { is = rw s.is refl; inner = s.inner }

failed_spells : (errno : Errno) → Spells result_of_word (name_of_error errno) (Failed errno)
failed_spells EPERM = record { is = refl; inner = refl }
failed_spells _ = record { is = refl; inner = refl }

pub result_spells : (result : CallResult) → IsResult result → Spells result_of_word (result_text result) result
result_spells (Value n) small = value_spells n small
result_spells (Failed errno) small = failed_spells errno
