-- How files that were read lead to the meaning of the files after them.
use Rattle.std.proofs.Common.{◌≡◌, ℕ, ◌+◌, ◌≤◌, ◌<◌, inl, inr, List, [], ◌∷◌, ◌++◌, length, get_or, take, drop, map, Ok, refl, ap, sym, ◌∙◌, subst, arith, append_assoc}
use Rattle.std.proofs.lemmas.List.{take_more, map-append, length-map, take-append-drop, length-take-le}
use Rattle.std.specs.Borrow.{Bor}
use Rattle.std.proofs.Math.Seq.{take-append-add}
use Rattle.st_outside.specs.Files.{FileView, Unknown, Absent, FileBytes, CanHold, CanFit}
use Rattle.st_outside.specs.declared.files.TheConstants.{FILE_LIMIT}
use Rattle.st_emulation.specs.declared.emulation.Emulation.{Emulation}
use Rattle.st_filter.specs.declared.set.BinaryPolicy.{BinaryPolicy}
use Rattle.st_grammar.specs.declared.env.Env.{Env}
use Rattle.st_law.specs.declared.input.Options.{Options}
use Rattle.st_script.specs.Reading.{script_in}
use Rattle.st_script.specs.declared.reading.ReadScript.{ReadScript}
use Rattle.st_command.specs.Words.{Word}
use Rattle.st_reading.specs.Meaning.{Contents, Meaning, SaysScript, SaysPolicy, Fetches, MeansPolicies}
use Rattle.st_reading.specs.Files.{Has, IsScript, IsPolicy, ArePolicies, ReachesFile}
use Rattle.st_reading.specs.declared.refusal.Which.{Which}
use Rattle.st_reading.specs.declared.refusal.Which.TheVariants as which

-- a property of a text that a name has is a property of what is read at that name
pub leads_has : (contents : FileView) (w : Which) (P : List ℕ → Type 0) (R : List ℕ → Type 0) (o : Meaning) → (has : Has contents P) → R has.text → Fetches contents w R o
leads_has contents w P R o has r = inr (inr (inr (has.text, has.content, has.within, r)))

-- a file that was read can be fetched
pub held_fits : (contents : FileView) (text : List ℕ) → CanHold contents text → length text ≤ FILE_LIMIT → CanFit contents
held_fits Unknown text content within = tt
held_fits Absent text content within = absurd content
held_fits (FileBytes bytes) text content within = let e : length text ≡ length bytes = ap length content in omega arith

pub has_fits : (contents : FileView) (P : List ℕ → Type 0) → Has contents P → CanFit contents
has_fits contents P has = held_fits contents has.text has.content has.within

-- a script that is read leads to what is meant after it
pub leads_script : (contents : FileView) (options : Options) (emulation : Emulation) (script : ReadScript) (R : ReadScript → Type 0) (o : Meaning) → IsScript contents options emulation script → R script → Fetches contents which.Script (λ text. SaysScript (script_in text options emulation) R o) o
leads_script contents options emulation script R o is r =
    leads_has contents which.Script (λ text. script_in text options emulation ≡ Ok script) (λ text. SaysScript (script_in text options emulation) R o) o is (subst (λ s. SaysScript s R o) (sym is.says) r)

-- policy files that are read lead to what is meant after them
pub leads_policies : (contents : Contents) (env : Env) (R : List BinaryPolicy → Type 0) (o : Meaning) (front rest : List Word) (n : ℕ) (before policies : List BinaryPolicy) →
    ArePolicies contents env front before policies → MeansPolicies contents env (n + length front) rest policies R o → MeansPolicies contents env n (front ++ rest) before R o
leads_policies contents env R o [] rest n before policies is m =
    let zero_more : n + 0 ≡ n = omega arith in
    subst (λ ps. MeansPolicies contents env n rest ps R o) is (subst (λ k. MeansPolicies contents env k rest policies R o) zero_more m)
leads_policies contents env R o (name ∷ front) rest n before policies is m =
    let one_more : n + length (name ∷ front) ≡ (n + 1) + length front = omega arith in
    leads_has (contents name) (which.Policy n) _ (λ text. SaysPolicy text env before n (λ more. MeansPolicies contents env (n + 1) (front ++ rest) more R o) o) o is.1
    (inl (is.0, is.1.says, leads_policies contents env R o front rest (n + 1) is.0 policies is.2 (subst (λ k. MeansPolicies contents env k rest policies R o) one_more m)))

-- one more policy file
pub one_policy_more : (contents : Contents) (env : Env) (front : List Word) (name : Word) (before policies more : List BinaryPolicy) →
    ArePolicies contents env front before policies → IsPolicy (contents name) env policies more → ArePolicies contents env (front ++ name ∷ []) before more
one_policy_more contents env [] name before policies more is one = (more, subst (λ ps. IsPolicy (contents name) env ps more) is one, refl)
one_policy_more contents env (first ∷ front) name before policies more is one = (is.0, is.1, one_policy_more contents env front name is.0 policies more is.2 one)

-- the names up to this name
pub take_to : (front : List Word) (name : Word) (back : List Word) → take (length front + 1) (front ++ name ∷ back) ≡ front ++ name ∷ []
take_to front name back = take-append-add front (name ∷ back) 1

-- ---- names that the program has by reference

-- the words of references
abbrev pub words_at : List (Bor Word) → List Word
words_at names = map (λ name. name.now) names

-- one more word
pub words_more : (names : List (Bor Word)) (i : ℕ) (name : Bor Word) → i < length names → name ≡ get_or names i name → words_at (take (i + 1) names) ≡ words_at (take i names) ++ name.now ∷ []
words_more names i name inside is =
    ap words_at (take_more names i name inside) ∙ ap (λ last. words_at (take i names ++ last ∷ [])) (sym is) ∙ map-append (λ (n : Bor Word). n.now) (take i names) (name ∷ [])

-- a word, and the words before and after it
pub words_split : (names : List (Bor Word)) (i : ℕ) (name : Bor Word) → i < length names → name ≡ get_or names i name → words_at names ≡ words_at (take i names) ++ name.now ∷ words_at (drop (i + 1) names)
words_split names i name inside is =
    ap words_at (sym (take-append-drop (i + 1) names)) ∙ map-append (λ (n : Bor Word). n.now) (take (i + 1) names) (drop (i + 1) names) ∙
    ap (λ front. front ++ words_at (drop (i + 1) names)) (words_more names i name inside is) ∙
    append_assoc (words_at (take i names)) (name.now ∷ []) (words_at (drop (i + 1) names))

-- the number of a policy file: the count of words before it, and one
pub number_of_file : (names : List (Bor Word)) (i : ℕ) → i < length names → i + 1 ≡ length (words_at (take i names)) + 1
number_of_file names i inside = omega (arith, length-map (take i names) (λ (n : Bor Word). n.now), length-take-le i names (omega arith))

-- the policy file that is reached after this many
abbrev pub comes_at : (contents : Contents) (env : Env) (names : List (Bor Word)) (i : ℕ) (name : Bor Word) (policies : List BinaryPolicy) → i < length names → name ≡ get_or names i name →
    ArePolicies contents env (words_at (take i names)) [] policies → ReachesFile contents env (words_at names) (i + 1) name.now policies
comes_at contents env names i name policies inside is read = record {
  front = words_at (take i names);
  back = words_at (drop (i + 1) names);
  names_are = words_split names i name inside is;
  number = number_of_file names i inside;
  read = read;
}
