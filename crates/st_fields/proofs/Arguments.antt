-- Ids, registers and arguments, which are read again.
use Rattle.std.proofs.Common.{zero, suc, ◌≡◌, ℕ, ◌+◌, ◌≤◌, false, List, [], ◌∷◌, ◌++◌, length, codes, Some, refl, ap, sym, ◌∙◌, append_assoc, arith, nat_eq}
use Rattle.std.proofs.lemmas.List.{length-append}
use Rattle.std.specs.List.{AllByRecursion, starts_with}
use Rattle.st_base.specs.declared.ids.Ids.{Ids}
use Rattle.st_calls.specs.Argument.{label_named, name_of_label}
use Rattle.st_calls.specs.declared.argument.ArgText.{ArgText}
use Rattle.st_report.specs.Fields.{four_ids, number_field, number_fields, text_field, word_field}
use Rattle.st_report.specs.TraceText.{arg_fields, args_fields}
use Rattle.st_fields.specs.Words.{is_inner}
use Rattle.st_fields.specs.Fields.{arg_at, args_at, args_from, ids_at, numbers_at, regs_at}
use Rattle.st_written.specs.Written.{AreArgs, AreIds, AreRegs, Has64, IsArg}
use Rattle.st_fields.proofs.Fronts.{Stops, word_again}
use Rattle.st_fields.proofs.Regrouped.{regroup_4}
use Rattle.st_fields.proofs.Spellings.{again, again_32, again_64, label_spells}
use Rattle.st_fields.proofs.Quoting.{text_again}

-- ---- numbers in a row

pub fields_1 : (a : ℕ) (rest : List ℕ) → number_fields (a ∷ []) ++ rest ≡ number_field a ++ rest
fields_1 a rest = append_assoc (number_field a) [] rest

pub fields-cons : (a : ℕ) (numbers rest : List ℕ) → number_fields (a ∷ numbers) ++ rest ≡ number_field a ++ (number_fields numbers ++ rest)
fields-cons a numbers rest = append_assoc (number_field a) (number_fields numbers) rest

pub fields_2 : (a b : ℕ) (rest : List ℕ) → number_fields (a ∷ b ∷ []) ++ rest ≡ number_field a ++ (number_field b ++ rest)
fields_2 a b rest = fields-cons a (b ∷ []) rest ∙ ap (λ (xs : List ℕ). number_field a ++ xs) (fields_1 b rest)

pub fields_3 : (a b c : ℕ) (rest : List ℕ) → number_fields (a ∷ b ∷ c ∷ []) ++ rest ≡ number_field a ++ (number_field b ++ (number_field c ++ rest))
fields_3 a b c rest = fields-cons a (b ∷ c ∷ []) rest ∙ ap (λ (xs : List ℕ). number_field a ++ xs) (fields_2 b c rest)

pub fields_4 : (a b c d : ℕ) (rest : List ℕ) → number_fields (a ∷ b ∷ c ∷ d ∷ []) ++ rest ≡ number_field a ++ (number_field b ++ (number_field c ++ (number_field d ++ rest)))
fields_4 a b c d rest = fields-cons a (b ∷ c ∷ d ∷ []) rest ∙ ap (λ (xs : List ℕ). number_field a ++ xs) (fields_3 b c d rest)

pub ids_again : (ids : Ids) (rest : List ℕ) → AreIds ids → Stops is_inner rest → ids_at (four_ids ids ++ rest) ≡ Some (ids, rest)
unfolding ids_at
ids_again ids rest small stops =
    ap ids_at (fields_4 ids.ruid ids.euid ids.rgid ids.egid rest)
    ∙ rw (
      again_32 ids.ruid (number_field ids.euid ++ (number_field ids.rgid ++ (number_field ids.egid ++ rest))) small.0 refl,
      again_32 ids.euid (number_field ids.rgid ++ (number_field ids.egid ++ rest)) small.1 refl,
      again_32 ids.rgid (number_field ids.egid ++ rest) small.2 refl,
      again_32 ids.egid rest small.3 stops,
    ) refl

pub numbers_stop : (numbers rest : List ℕ) → Stops is_inner rest → Stops is_inner (number_fields numbers ++ rest)
numbers_stop [] rest stops = stops
numbers_stop (a ∷ numbers) rest stops = refl

numbers_again : (numbers rest : List ℕ) → AllByRecursion Has64 numbers → Stops is_inner rest → numbers_at (length numbers) (number_fields numbers ++ rest) ≡ Some (numbers, rest)
numbers_again [] rest small stops = refl
numbers_again (a ∷ numbers) rest small stops =
    ap (numbers_at (suc (length numbers))) (fields-cons a numbers rest)
    ∙ rw (again_64 a (number_fields numbers ++ rest) small.0 (numbers_stop numbers rest stops), numbers_again numbers rest small.1 stops) refl

pub regs_again : (regs rest : List ℕ) → AreRegs regs → Stops is_inner rest → regs_at (number_fields regs ++ rest) ≡ Some (regs, rest)
unfolding regs_at
regs_again regs rest small stops = ap (λ (n : ℕ). numbers_at n (number_fields regs ++ rest)) (sym small.0) ∙ numbers_again regs rest small.1 stops

pub args_stop : (args : List ArgText) (rest : List ℕ) → Stops is_inner rest → Stops is_inner (args_fields args ++ rest)
args_stop [] rest stops = stops
args_stop (arg ∷ args) rest stops = refl

-- ---- arguments

arg_regrouped : (arg : ArgText) (rest : List ℕ) → arg_fields arg ++ rest ≡ codes " arg" ++ (word_field (name_of_label arg.label) ++ (number_field arg.index ++ (text_field arg.text ++ rest)))
arg_regrouped arg rest =
    let label : List ℕ = word_field (name_of_label arg.label) in
    ap (λ (xs : List ℕ). codes " arg" ++ xs) (regroup_4 label (number_fields (arg.index ∷ [])) (text_field arg.text) rest ∙ ap (λ (xs : List ℕ). label ++ xs) (fields_1 arg.index (text_field arg.text ++ rest)))

arg_again : (arg : ArgText) (rest : List ℕ) → IsArg arg → arg_at (arg_fields arg ++ rest) ≡ Some (arg, rest)
unfolding arg_at
arg_again arg rest is =
    let more : List ℕ = number_field arg.index ++ (text_field arg.text ++ rest) in
    ap arg_at (arg_regrouped arg rest)
    ∙ rw (
      word_again (codes "arg") (word_field (name_of_label arg.label) ++ more) refl refl,
      again label_named (name_of_label arg.label) arg.label more (label_spells arg.label) refl,
      again_32 arg.index (text_field arg.text ++ rest) is.0 refl,
      text_again arg.text rest is.1,
    ) refl

pub last_args : (most : ℕ) (rest : List ℕ) → starts_with nat_eq rest (codes " arg ") ≡ false → args_from most rest ≡ Some ([], rest)
unfolding args_from
last_args zero rest apart = refl
last_args (suc most) rest apart = rw apart refl

args_again_up_to : (most : ℕ) (args : List ArgText) (rest : List ℕ) → length args ≤ most → AreArgs args → starts_with nat_eq rest (codes " arg ") ≡ false → args_from most (args_fields args ++ rest) ≡ Some (args, rest)
unfolding args_from
args_again_up_to most [] rest few are apart = last_args most rest apart
args_again_up_to zero (arg ∷ args) rest few are apart = absurd (omega arith)
args_again_up_to (suc most) (arg ∷ args) rest few are apart =
    ap (args_from (suc most)) (append_assoc (arg_fields arg) (args_fields args) rest)
    ∙ rw (arg_again arg (args_fields args ++ rest) are.0, args_again_up_to most args rest (omega arith) are.1 apart) refl

few_args : (args : List ArgText) (rest : List ℕ) → length args ≤ length (args_fields args ++ rest)
few_args [] rest = omega arith
few_args (arg ∷ args) rest =
    let more : length args ≤ length (args_fields args ++ rest) = few_args args rest in
    let sum : length (args_fields (arg ∷ args) ++ rest) ≡ length (arg_fields arg) + length (args_fields args ++ rest) = ap length (append_assoc (arg_fields arg) (args_fields args) rest) ∙ length-append (arg_fields arg) (args_fields args ++ rest) in
    omega (arith, sum, more)

-- arguments are read again, if no argument follows
pub args_again : (args : List ArgText) (rest : List ℕ) → AreArgs args → starts_with nat_eq rest (codes " arg ") ≡ false → args_at (args_fields args ++ rest) ≡ Some (args, rest)
args_again args rest are apart = args_again_up_to (length (args_fields args ++ rest)) args rest (few_args args rest) are apart
