-- Absolute names as bytes: the directory of a name, and the length of its printed form.
use Rattle.std.proofs.Common.{◌≡◌, ℕ, zero, suc, ◌+◌, ◌≤◌, ◌<◌, ◌==◌, Bool, true, false, if◌then◌else◌, List, [], ◌∷◌, length, drop, refl, sym, ap, ◌∙◌, subst, arith, length-append}
use Rattle.std.proofs.Math.Seq.{drop-length}
use Rattle.std.proofs.lemmas.Bool.{and_parts, eqb-true}
use Rattle.std.proofs.lemmas.Bool.Decides.{Decides-eqb}
use Rattle.std.proofs.lemmas.Slice.Eq.{starts_is}
use Rattle.std.specs.List.{filter, flat_map, starts_with}
use Rattle.std.specs.Prelude.{codes, nat_eq, slice_index}
use Rattle.st_names.proofs.Spelled.{has_slash_drop, is_last_slash, slashed-parts, spelled_after}
use Rattle.st_names.specs.Name.{Components, IsLastSlash, components_of, has_slash, is_component, parent, parts_after, printed_name, slash, split_at_slashes, with_slash}
use Rattle.st_script_names.specs.Names.{directory_of, last_slash}
use Rattle.st_statements.specs.Parts.{is_normal}
use Rattle.st_script.specs.Reading.{object_name}

-- a text begins with a slash
abbrev pub IsSlashed : List ℕ → Type 0
IsSlashed text = text ≡ slash ∷ drop 1 text

-- a name in normal form begins with a slash
pub normal_slashed : (name : List ℕ) → is_normal name ≡ true → IsSlashed name
normal_slashed name e = (starts_is Decides-eqb name (codes "/") (starts_with nat_eq name (codes "/")) refl).0 (and_parts _ _ e).0

-- the parts of a name, one by one
pub slashed_parts : (text : List ℕ) → IsSlashed text → parts_after text ≡ object_name text
slashed_parts text is = ap parts_after is

-- the parts between its slashes determine a name
pub same_text : (a b : List ℕ) → IsSlashed a → IsSlashed b → object_name a ≡ object_name b → a ≡ b
same_text a b is other same = is ∙ sym (slashed-parts (drop 1 a)) ∙ ap (flat_map with_slash) same ∙ slashed-parts (drop 1 b) ∙ sym other

-- ---- the directory of a name

last_by : (rest : List ℕ) (n : ℕ) (b : Bool) → (slice_index (slash ∷ rest) n == slash) ≡ b → n < length (slash ∷ rest) → has_slash (drop (n + 1) (slash ∷ rest)) ≡ false →
    (has_slash (drop n (slash ∷ rest)) ≡ false → IsLastSlash (slash ∷ rest) (last_slash (slash ∷ rest) n)) → IsLastSlash (slash ∷ rest) (if b then n else last_slash (slash ∷ rest) n)
last_by rest n true is within plain before = is_last_slash (slash ∷ rest) n (spelled_after rest) within (eqb-true (slice_index (slash ∷ rest) n) slash is) plain
last_by rest n false is within plain before =
    before (has_slash_drop (slash ∷ rest) n within (λ e. let none : (slash == slash) ≡ false = subst (λ x. (x == slash) ≡ false) e is in cc) plain)

last_is : (rest : List ℕ) (n : ℕ) → n ≤ length (slash ∷ rest) → has_slash (drop n (slash ∷ rest)) ≡ false → IsLastSlash (slash ∷ rest) (last_slash (slash ∷ rest) n)
last_is rest zero within plain = absurd (cc)
last_is rest (suc n) within plain =
    let one : suc n ≡ n + 1 = omega arith in
    last_by rest n (slice_index (slash ∷ rest) n == slash) refl (omega (arith, within)) (subst (λ m. has_slash (drop m (slash ∷ rest)) ≡ false) one plain) (last_is rest n (omega (arith, within)))

last_slashed : (rest : List ℕ) → parts_after (directory_of (slash ∷ rest)) ≡ parent (split_at_slashes rest)
last_slashed rest = (last_is rest (length (slash ∷ rest)) (omega arith) (ap has_slash (drop-length (slash ∷ rest)))).front

-- the path of its directory has the parts of its parent
pub directory_parts : (path : List ℕ) → IsSlashed path → parts_after (directory_of path) ≡ parent (object_name path)
directory_parts path is = ap (λ p. parts_after (directory_of p)) is ∙ last_slashed (drop 1 path)

-- ---- the length of a name

kept_by : (part : List ℕ) (parts : Components) (b : Bool) → length (flat_map with_slash (filter is_component parts)) ≤ length (flat_map with_slash parts) →
    length (flat_map with_slash (if b then part ∷ filter is_component parts else filter is_component parts)) ≤ length (flat_map with_slash (part ∷ parts))
kept_by part parts true few = let all = length-append (with_slash part) (flat_map with_slash parts) in let kept = length-append (with_slash part) (flat_map with_slash (filter is_component parts)) in omega (arith, all, kept, few)
kept_by part parts false few = let all = length-append (with_slash part) (flat_map with_slash parts) in omega (arith, all, few)

kept_short : (parts : Components) → length (flat_map with_slash (filter is_component parts)) ≤ length (flat_map with_slash parts)
kept_short [] = omega arith
kept_short (part ∷ parts) = kept_by part parts (is_component part) (kept_short parts)

printed_by : (name : Components) (n : ℕ) → 1 ≤ n → length (flat_map with_slash name) ≤ n → length (printed_name name) ≤ n
printed_by [] n some few = some
printed_by (part ∷ name) n some few = few

short_by : (rest : List ℕ) → length (printed_name (components_of (slash ∷ rest))) ≤ length (slash ∷ rest)
short_by rest =
    let spelled = ap length (slashed-parts rest) in
    let few = kept_short (split_at_slashes rest) in
    printed_by (components_of (slash ∷ rest)) (length (slash ∷ rest)) (omega arith) (omega (arith, spelled, few))

-- the printed form of a name is no longer than the name
pub printed_short : (text : List ℕ) → IsSlashed text → length (printed_name (components_of text)) ≤ length text
printed_short text is = subst (λ t. length (printed_name (components_of t)) ≤ length t) (sym is) (short_by (drop 1 text))
