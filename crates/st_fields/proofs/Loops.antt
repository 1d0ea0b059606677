-- Arguments and digits that are read one after the other: what was read so far, and what is read of the rest.
use Rattle.std.proofs.Common.{suc, ◌≡◌, ◌≢◌, ℕ, ◌+◌, ◌-◌, ◌<◌, ◌≤◌, Bool, true, false, List, [], ◌∷◌, ◌++◌, length, take, drop, get_or, codes, Option, Some, None, option_map, Result, Ok, Err, refl, ap, sym, subst, ◌∙◌, append_assoc, arith, nat_eq}
use Rattle.std.proofs.lemmas.List.{append-nil, take_all}
use Rattle.std.specs.List.{starts_with}
use Rattle.std.specs.Prelude.{◌↔◌, IsErr, IsErrAnd, IsTrue}
use Rattle.st_calls.specs.declared.argument.ArgText.{ArgText}
use Rattle.st_lex.specs.Unquote.{byte_of_hex}
use Rattle.st_fields.specs.declared.fault.LineFault.{LineFault}
use Rattle.st_fields.specs.declared.fault.LineFault.TheVariants.{NotInGrammar, NoMemory}
use Rattle.st_fields.specs.Reads.{◌>>=◌, Fails, Gives, Reads}
use Rattle.st_fields.specs.Words.{bytes_of_digits}
use Rattle.st_fields.specs.Fields.{arg_at, args_from}
use Rattle.st_fields.proofs.Arguments.{last_args}

-- ---- tests and faults that are passed on

pub not_empty : (is : Bool) (bytes : List ℕ) → (IsTrue is ↔ (bytes ≡ [])) → is ≡ false → bytes ≢ []
not_empty is bytes both isnt = λ e. let yes : is ≡ true = both.1 e in cc

pub read_fails : {X : Type 0} (fault : LineFault) (r : Result X LineFault) (read : Option (X × List ℕ)) (rest : List ℕ) → IsErr r → IsErrAnd r (λ e. e ≡ fault) → Fails fault read → Reads r read rest
read_fails fault (Ok x) read rest failed same fails = cc
read_fails fault (Err e) read rest failed same fails = subst (λ (f : LineFault). Fails f read) (sym same) fails

pub gives_none : {X : Type 0} (fault : LineFault) (r : Result X LineFault) (read : Option X) → IsErr r → IsErrAnd r (λ e. e ≡ fault) → Fails fault read → Gives r read
gives_none fault (Ok x) read failed same fails = cc
gives_none fault (Err e) read failed same fails = subst (λ (f : LineFault). Fails f read) (sym same) fails

-- ---- arguments

-- arguments that were read before those that are still read
abbrev pub with_args : List ArgText → Option (List ArgText × List ℕ) → Option (List ArgText × List ℕ)
with_args front read = read >>= λ x. Some (front ++ x.0, x.1)

args_regrouped : (front : List ArgText) (arg : ArgText) (read : Option (List ArgText × List ℕ)) → with_args front (read >>= λ x. Some (arg ∷ x.0, x.1)) ≡ with_args (front ++ arg ∷ []) read
args_regrouped front arg (Some x) = ap (λ (args : List ArgText). Some (args, x.1)) (sym (append_assoc front (arg ∷ []) x.0))
args_regrouped front arg None = refl

pub args-go_on : (front : List ArgText) (most i : ℕ) (bytes : List ℕ) (arg : ArgText) (after : List ℕ) (total : Option (List ArgText × List ℕ)) → i < most → starts_with nat_eq bytes (codes " arg ") ≡ true →
    arg_at bytes ≡ Some (arg, after) → with_args front (args_from (most - i) bytes) ≡ total → with_args (front ++ arg ∷ []) (args_from (most - (i + 1)) after) ≡ total
unfolding args_from
args-go_on front most i bytes arg after total within begins read so_far =
    let k : most - i ≡ suc (most - (i + 1)) = omega arith in
    let one : with_args front (args_from (most - i) bytes) ≡ with_args (front ++ arg ∷ []) (args_from (most - (i + 1)) after) = rw (k, begins, read) (args_regrouped front arg (args_from (most - (i + 1)) after)) in
    sym one ∙ so_far

pub args-fail : (front : List ArgText) (most i : ℕ) (bytes : List ℕ) (total : Option (List ArgText × List ℕ)) → i < most → starts_with nat_eq bytes (codes " arg ") ≡ true →
    arg_at bytes ≡ None → with_args front (args_from (most - i) bytes) ≡ total → total ≡ None
unfolding args_from
args-fail front most i bytes total within begins read so_far =
    let k : most - i ≡ suc (most - (i + 1)) = omega arith in
    let none : with_args front (args_from (most - i) bytes) ≡ None = rw (k, begins, read) refl in
    sym so_far ∙ none

pub args-fault : (fault : LineFault) (front : List ArgText) (most i : ℕ) (bytes : List ℕ) (total : Option (List ArgText × List ℕ)) → i < most → starts_with nat_eq bytes (codes " arg ") ≡ true →
    Fails fault (arg_at bytes) → with_args front (args_from (most - i) bytes) ≡ total → Fails fault total
args-fault NotInGrammar front most i bytes total within begins read so_far = args-fail front most i bytes total within begins read so_far
args-fault NoMemory front most i bytes total within begins read so_far = tt

pub args-end : (front : List ArgText) (k : ℕ) (bytes : List ℕ) (total : Option (List ArgText × List ℕ)) → starts_with nat_eq bytes (codes " arg ") ≡ false → with_args front (args_from k bytes) ≡ total → total ≡ Some (front, bytes)
args-end front k bytes total apart so_far =
    sym so_far ∙ ap (with_args front) (last_args k bytes apart) ∙ ap (λ (args : List ArgText). Some (args, bytes)) (append-nil front)

pub args-done : (front : List ArgText) (most i : ℕ) (bytes : List ℕ) (total : Option (List ArgText × List ℕ)) → most ≤ i → with_args front (args_from (most - i) bytes) ≡ total → total ≡ Some (front, bytes)
unfolding args_from
args-done front most i bytes total past so_far =
    let k : most - i ≡ 0 = omega arith in
    let none : with_args front (args_from (most - i) bytes) ≡ Some (front, bytes) = rw k (ap (λ (args : List ArgText). Some (args, bytes)) (append-nil front)) in
    sym so_far ∙ none

-- ---- items

-- items that were read before those that are still read
abbrev pub with_front : {X : Type 0} → List X → Option (List X) → Option (List X)
with_front front read = option_map (λ others. front ++ others) read

pub regrouped : {X : Type 0} (front : List X) (item : X) (read : Option (List X)) → with_front front (read >>= λ others. Some (item ∷ others)) ≡ with_front (front ++ item ∷ []) read
regrouped front item (Some others) = ap (λ items. Some items) (sym (append_assoc front (item ∷ []) others))
regrouped front item None = refl

-- ---- digits

pub digits-go_on : (front : List ℕ) (high low byte : ℕ) (rest : List ℕ) (total : Option (List ℕ)) → byte_of_hex high low ≡ Some byte → with_front front (bytes_of_digits (high ∷ low ∷ rest)) ≡ total → with_front (front ++ byte ∷ []) (bytes_of_digits rest) ≡ total
digits-go_on front high low byte rest total is so_far =
    let one : with_front front (bytes_of_digits (high ∷ low ∷ rest)) ≡ with_front (front ++ byte ∷ []) (bytes_of_digits rest) = rw is (regrouped front byte (bytes_of_digits rest)) in
    sym one ∙ so_far

-- the same, as the loop has it
pub digits-taken : (front rest : List ℕ) (n byte : ℕ) (more : List ℕ) (total : Option (List ℕ)) → 2 ≤ length rest → n ≡ length rest - 2 → byte_of_hex (get_or rest 0 0) (get_or rest 1 0) ≡ Some byte → more ≡ front ++ byte ∷ [] →
    with_front front (bytes_of_digits rest) ≡ total → with_front more (bytes_of_digits (take n (drop 2 rest))) ≡ total
digits-taken front [] n byte more total two len is grown so_far = absurd (omega arith)
digits-taken front (high ∷ []) n byte more total two len is grown so_far = absurd (omega arith)
digits-taken front (high ∷ low ∷ rest) n byte more total two len is grown so_far =
    let all : take n rest ≡ rest = take_all n rest (omega (arith, len)) in
    let step : with_front (front ++ byte ∷ []) (bytes_of_digits rest) ≡ total = digits-go_on front high low byte rest total is so_far in
    subst (λ (bytes : List ℕ). with_front more (bytes_of_digits bytes) ≡ total) (sym all) (subst (λ (bytes : List ℕ). with_front bytes (bytes_of_digits rest) ≡ total) (sym grown) step)

pub digits-fail : (front : List ℕ) (high low : ℕ) (rest : List ℕ) (total : Option (List ℕ)) → byte_of_hex high low ≡ None → with_front front (bytes_of_digits (high ∷ low ∷ rest)) ≡ total → total ≡ None
digits-fail front high low rest total is so_far =
    let none : with_front front (bytes_of_digits (high ∷ low ∷ rest)) ≡ None = rw is refl in
    sym so_far ∙ none

pub digits-end : (front rest : List ℕ) (total : Option (List ℕ)) → rest ≡ [] → with_front front (bytes_of_digits rest) ≡ total → total ≡ Some front
digits-end front rest total none so_far =
    sym so_far ∙ ap (λ (xs : List ℕ). with_front front (bytes_of_digits xs)) none ∙ ap (λ (bytes : List ℕ). Some bytes) (append-nil front)

pub digits-odd : (front rest : List ℕ) (total : Option (List ℕ)) → length rest ≡ 1 → with_front front (bytes_of_digits rest) ≡ total → total ≡ None
digits-odd front [] total one so_far = absurd (omega arith)
digits-odd front (b ∷ []) total one so_far = sym so_far
digits-odd front (b ∷ c ∷ rest) total one so_far = absurd (omega arith)
