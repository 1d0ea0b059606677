-- Words that are no keywords.
use Rattle.std.proofs.Common.{◌≡◌, ℕ, ◌+◌, Bool, true, false, ◌||◌, List, [], ◌∷◌, ◌++◌, Option, None, Some, if◌then◌else◌, codes, sum_by, refl, ap, ◌∙◌, arith}
use Rattle.std.specs.Str.{bytes_eq}
use Rattle.std.specs.List.{list_any}
use Rattle.std.proofs.lemmas.Slice.Eq.{bytes_eq-Decides}
use Rattle.std.proofs.lemmas.Bool.{false_from_ne_true, or_parts, not-true}
use Rattle.std.proofs.lemmas.List.Sums.{sum_by-append}
use Rattle.st_emulation.specs.declared.emulation.Emulation.{Emulation}
use Rattle.st_emulation.specs.declared.emulation.Emulation.TheVariants.{Linux, Native}
use Rattle.st_grammar.proofs.Common.{filter_name, index_in, is_join, is_label, Op, op_named, Symbol, Word}
use Rattle.st_grammar.specs.Words.{reserved_words}

pub same-word : (a b : List ℕ) → bytes_eq a b ≡ true → a ≡ b
same-word a b e = (bytes_eq-Decides a b).0 e

pub same-bytes : (w : List ℕ) → bytes_eq w w ≡ true
same-bytes w = (bytes_eq-Decides w w).1 refl

-- a word that has a meaning which the keyword doesn't have is not the keyword
pub not-keyword : {A : Type 0} (f : List ℕ → Option A) (w k : List ℕ) (x : A) → f k ≡ None → f w ≡ Some x → bytes_eq w k ≡ false
not-keyword f w k x n e = false_from_ne_true (bytes_eq w k) (λ h. let same : f w ≡ f k = ap f (same-word w k h) in absurd (cc))

-- `Policy` isn't the name of a filter
pub policy-no-name : (emulation : Emulation) → filter_name (codes "Policy") emulation ≡ None
policy-no-name Native = refl
policy-no-name Linux = refl

pub record IsOther (w : List ℕ) : Type 0 where
  pub no_not : bytes_eq w (codes "not") ≡ false
  pub no_true : bytes_eq w (codes "true") ≡ false
  pub no_and : bytes_eq w (codes "and") ≡ false
  pub no_or : bytes_eq w (codes "or") ≡ false
  pub no_then : bytes_eq w (codes "then") ≡ false
  pub no_permit : bytes_eq w (codes "permit") ≡ false
  pub no_deny : bytes_eq w (codes "deny") ≡ false
  pub no_ask : bytes_eq w (codes "ask") ≡ false

-- a label is not a reserved word
pub label-other : (w : List ℕ) → is_label w ≡ true → IsOther w
label-other w e =
    let none : list_any (bytes_eq w) reserved_words ≡ false = not-true (list_any (bytes_eq w) reserved_words) e in
    let a = or_parts (bytes_eq w (codes "not")) _ none in
    let b = or_parts (bytes_eq w (codes "true")) _ a.1 in
    let c = or_parts (bytes_eq w (codes "and")) _ b.1 in
    let d = or_parts (bytes_eq w (codes "or")) _ c.1 in
    let e = or_parts (bytes_eq w (codes "then")) _ d.1 in
    let f = or_parts (bytes_eq w (codes "permit")) _ e.1 in
    let g = or_parts (bytes_eq w (codes "deny")) _ f.1 in
    let h = or_parts (bytes_eq w (codes "ask")) _ g.1 in
    record { no_not = a.0; no_true = b.0; no_and = c.0; no_or = d.0; no_then = e.0; no_permit = f.0; no_deny = g.0; no_ask = h.0 }

-- ---- joins

abbrev joins_by : Bool → Bool → Bool → ℕ
joins_by a b c = if a || (b || c) then 1 else 0

joins-none : (w : List ℕ) → bytes_eq w (codes "not") ≡ false → bytes_eq w (codes "and") ≡ false → bytes_eq w (codes "or") ≡ false → is_join (Word w) ≡ 0
joins-none w a b c =
    ap (λ (x : Bool). joins_by x (bytes_eq w (codes "and")) (bytes_eq w (codes "or"))) a
    ∙ ap (λ (x : Bool). joins_by false x (bytes_eq w (codes "or"))) b
    ∙ ap (λ (x : Bool). joins_by false false x) c

pub joins-label : (w : List ℕ) → is_label w ≡ true → is_join (Word w) ≡ 0
joins-label w e = let o : IsOther w = label-other w e in joins-none w o.no_not o.no_and o.no_or

pub joins-op : (w : List ℕ) (o : Op) → op_named w ≡ Some o → is_join (Word w) ≡ 0
joins-op w o e = joins-none w (not-keyword op_named w (codes "not") o refl e) (not-keyword op_named w (codes "and") o refl e) (not-keyword op_named w (codes "or") o refl e)

pub joins-index : (w : List ℕ) (n : ℕ) → index_in w ≡ Some n → is_join (Word w) ≡ 0
joins-index w n e = joins-none w (not-keyword index_in w (codes "not") n refl e) (not-keyword index_in w (codes "and") n refl e) (not-keyword index_in w (codes "or") n refl e)

pub joins-append : (ts us : List Symbol) → sum_by is_join (ts ++ us) ≡ sum_by is_join ts + sum_by is_join us
joins-append ts us = sum_by-append is_join ts us

pub joins-first : (s : Symbol) (ts : List Symbol) → sum_by is_join (s ∷ ts) ≡ is_join s + sum_by is_join ts
joins-first s ts = let one : sum_by is_join (s ∷ []) ≡ is_join s = omega arith in sum_by-append is_join (s ∷ []) ts ∙ ap (λ (n : ℕ). n + sum_by is_join ts) one
