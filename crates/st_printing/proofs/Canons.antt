-- The canonical text of one more policy.
use Rattle.std.proofs.Common.{suc, zero, ◌≡◌, ℕ, ◌+◌, List, [], ◌∷◌, ◌++◌, take, Option, Some, None, option_map, slice_get, ap, sym, ◌∙◌, arith}
use Rattle.std.proofs.lemmas.List.{append_assoc, append-nil}
use Rattle.st_emulation.specs.declared.emulation.Emulation.{Emulation}
use Rattle.st_lex.specs.Pieces.{print}
use Rattle.st_lex.proofs.Pieces.{print-append}
use Rattle.st_filter.specs.declared.set.BinaryPolicy.{BinaryPolicy}
use Rattle.st_filter.specs.Formula.{FilterValue}
use Rattle.st_printing.specs.Canon.{canon, policy_pieces, set_pieces, header_pieces, row_pieces, rows_pieces}

module _ (emulation : Emulation) where
  -- how a policy with this binary and these filters is printed
  abbrev pub printed : List ℕ → List FilterValue → List ℕ
  printed binary filters = print (row_pieces (header_pieces binary emulation)) ++ print (rows_pieces filters emulation)

  printed_policy : (p : BinaryPolicy) → print (policy_pieces p emulation) ≡ printed p.binary p.filters
  printed_policy p = print-append (row_pieces (header_pieces p.binary emulation)) (rows_pieces p.filters emulation)

  canon_more : (p : BinaryPolicy) (ps : List BinaryPolicy) → canon (p ∷ ps) emulation ≡ printed p.binary p.filters ++ canon ps emulation
  canon_more p ps = print-append (policy_pieces p emulation) (set_pieces ps emulation) ∙ ap (λ (t : List ℕ). t ++ canon ps emulation) (printed_policy p)

  first_printed : (q : BinaryPolicy) (binary : List ℕ) (filters : List FilterValue) →
      Some q.binary ≡ Some binary → Some q.filters ≡ Some filters → canon (q ∷ []) emulation ≡ printed binary filters
  first_printed q binary filters b f =
      canon_more q [] ∙ append-nil (printed q.binary q.filters)
      ∙ λ k. printed (value_of [] (b k)) (value_of [] (f k))
    where
      value_of : {X : Type 0} → X → Option X → X
      value_of d None = d
      value_of d (Some x) = x

  -- the policy at an index is printed after those before it
  pub one_printed : (ps : List BinaryPolicy) (i : ℕ) (binary : List ℕ) (filters : List FilterValue) →
      option_map (λ (p : BinaryPolicy). p.binary) (slice_get ps i) ≡ Some binary →
      option_map (λ (p : BinaryPolicy). p.filters) (slice_get ps i) ≡ Some filters →
      canon (take (suc i) ps) emulation ≡ canon (take i ps) emulation ++ printed binary filters
  one_printed [] i binary filters b f = absurd (cc)
  one_printed (q ∷ qs) zero binary filters b f = first_printed q binary filters b f
  one_printed (q ∷ qs) (suc i) binary filters b f =
      canon_more q (take (suc i) qs)
      ∙ ap (λ (t : List ℕ). printed q.binary q.filters ++ t) (one_printed qs i binary filters b f)
      ∙ sym (append_assoc (printed q.binary q.filters) (canon (take i qs) emulation) (printed binary filters))
      ∙ ap (λ (t : List ℕ). t ++ printed binary filters) (sym (canon_more q (take i qs)))

  pub one_more_printed : (ps : List BinaryPolicy) (i : ℕ) (binary : List ℕ) (filters : List FilterValue) (o x y : List ℕ) →
      option_map (λ (p : BinaryPolicy). p.binary) (slice_get ps i) ≡ Some binary →
      option_map (λ (p : BinaryPolicy). p.filters) (slice_get ps i) ≡ Some filters →
      o ≡ canon (take i ps) emulation → x ≡ o ++ print (row_pieces (header_pieces binary emulation)) → y ≡ x ++ print (rows_pieces filters emulation) →
      y ≡ canon (take (i + 1) ps) emulation
  one_more_printed ps i binary filters o x y b f before header rows =
      rows ∙ ap (λ (t : List ℕ). t ++ print (rows_pieces filters emulation)) header
      ∙ append_assoc o (print (row_pieces (header_pieces binary emulation))) (print (rows_pieces filters emulation))
      ∙ ap (λ (t : List ℕ). t ++ printed binary filters) before
      ∙ sym (one_printed ps i binary filters b f)
      ∙ (let more : suc i ≡ i + 1 = omega arith in ap (λ (n : ℕ). canon (take n ps) emulation) more)
