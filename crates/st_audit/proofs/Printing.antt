-- The policies with the filters in force and the session's, printed one after the other.
use Rattle.std.proofs.Common.{◌≡◌, ◌<◌, ◌+◌, ◌∙◌, ◌++◌, ◌||◌, ℕ, suc, Bool, true, false, cond, List, [], ◌∷◌, length, map, take, Some, option_map, slice_get, ap, sym, drop, get_or, arith}
use Rattle.std.proofs.Math.Seq.{drop-cons}
use Rattle.std.proofs.lemmas.List.{append-nil, append_assoc, map-append}
use Rattle.std.proofs.lemmas.List.Sums.{fold-append}
use Rattle.std.proofs.lemmas.Option.{slice_get-map}
use Rattle.std.proofs.lemmas.Grind.{flat_map-append}
use Rattle.std.specs.List.{list_any}
use Rattle.std.specs.Str.{bytes_eq}
use Rattle.st_emulation.specs.declared.emulation.Emulation.{Emulation}
use Rattle.st_filter.specs.Formula.{FilterValue}
use Rattle.st_filter.specs.Policies.{PoliciesValue, has_policy, in_force, with_binary}
use Rattle.st_filter.specs.declared.set.BinaryPolicy.{BinaryPolicy}
use Rattle.st_law.specs.Sessions.{SessionFilter}
use Rattle.st_lex.specs.Pieces.{Sign, print}
use Rattle.st_lex.specs.declared.token.TokenKind.TheVariants as kind
use Rattle.st_lex.proofs.Pieces.{print-append}
use Rattle.st_printing.specs.Canon.{canon, canon_filter, filter_pieces, header_pieces, policy_pieces, row_pieces, rows_pieces, set_pieces}
use Rattle.st_learn.specs.Learnt.{filters_added, learnt_binaries, learnt_policy}
use Rattle.st_audit.specs.LearntText.{empty_policy, learnt_so_far, rows_text}
use Rattle.st_learn.proofs.Binaries.{has_same, known_all, taken}
use Rattle.st_learn.proofs.Filters.{filters_at, is_any, with_kind}

module _ (emulation : Emulation) where
  rows-append : (fs gs : List FilterValue) → rows_text (fs ++ gs) emulation ≡ rows_text fs emulation ++ rows_text gs emulation
  rows-append fs gs =
      ap print (flat_map-append (λ f. row_pieces (filter_pieces f emulation)) fs gs)
      ∙ print-append (rows_pieces fs emulation) (rows_pieces gs emulation)

  canon-append : (ps qs : List BinaryPolicy) → canon (ps ++ qs) emulation ≡ canon ps emulation ++ canon qs emulation
  canon-append ps qs = ap print (flat_map-append (λ p. policy_pieces p emulation) ps qs) ∙ print-append (set_pieces ps emulation) (set_pieces qs emulation)

  -- a policy is its header and its filters
  one_policy : (p : BinaryPolicy) → canon (p ∷ []) emulation ≡ canon (empty_policy p.binary ∷ []) emulation ++ rows_text p.filters emulation
  one_policy p =
      ap print (append-nil (policy_pieces p emulation)) ∙ print-append (row_pieces (header_pieces p.binary emulation)) (rows_pieces p.filters emulation)
      ∙ ap (λ ps. print ps ++ rows_text p.filters emulation) (sym (append-nil (row_pieces (header_pieces p.binary emulation) ++ []) ∙ append-nil (row_pieces (header_pieces p.binary emulation))))

  -- the policy of a binary: its header, its filters in force and the session's
  module _ (policies : PoliciesValue) (versions : List ℕ → ℕ) (session : List SessionFilter) where
    abbrev pub one : List ℕ → BinaryPolicy
    one binary = learnt_policy policies versions session binary

    pub one_learnt : (binary : List ℕ) (filters : List FilterValue) (out header force added : List ℕ) → header ≡ out ++ canon (empty_policy binary ∷ []) emulation → filters ≡ in_force policies binary (versions binary) → force ≡ header ++ rows_text filters emulation
        → added ≡ force ++ rows_text (filters_added session binary) emulation → added ≡ out ++ canon (one binary ∷ []) emulation
    one_learnt binary filters out header force added h f r a =
        a ∙ ap (λ t. t ++ rows_text (filters_added session binary) emulation) (r ∙ (λ k. h k ++ rows_text (f k) emulation))
        ∙ append_assoc (out ++ canon (empty_policy binary ∷ []) emulation) (rows_text (in_force policies binary (versions binary)) emulation) (rows_text (filters_added session binary) emulation)
        ∙ append_assoc out (canon (empty_policy binary ∷ []) emulation) (rows_text (in_force policies binary (versions binary)) emulation ++ rows_text (filters_added session binary) emulation)
        ∙ ap (λ t. out ++ (canon (empty_policy binary ∷ []) emulation ++ t)) (sym (rows-append (in_force policies binary (versions binary)) (filters_added session binary)))
        ∙ ap (λ t. out ++ t) (sym (one_policy (one binary)))

    -- one more policy
    one_more : (bs : List (List ℕ)) (b : List ℕ) → canon (map one (bs ++ b ∷ [])) emulation ≡ canon (map one bs) emulation ++ canon (one b ∷ []) emulation
    one_more bs b = ap (λ ps. canon ps emulation) (map-append one bs (b ∷ [])) ∙ canon-append (map one bs) (one b ∷ [])

    -- one more policy that was read
    pub read_next : (read : List BinaryPolicy) (i : ℕ) (binary : List ℕ) (first out new : List ℕ) → option_map (λ (p : BinaryPolicy). p.binary) (slice_get read i) ≡ Some binary
        → out ≡ first ++ canon (map one (take i (map (λ p. p.binary) read))) emulation → new ≡ out ++ canon (one binary ∷ []) emulation → new ≡ first ++ canon (map one (take (i + 1) (map (λ p. p.binary) read))) emulation
    read_next read i binary first out new at so_far more =
        let bs : List (List ℕ) = map (λ (p : BinaryPolicy). p.binary) read in
        more ∙ ap (λ t. t ++ canon (one binary ∷ []) emulation) so_far
        ∙ append_assoc first (canon (map one (take i bs)) emulation) (canon (one binary ∷ []) emulation)
        ∙ ap (λ t. first ++ t) (sym (one_more (take i bs) binary) ∙ ap (λ qs. canon (map one qs) emulation) (sym (taken bs i binary (slice_get-map (λ (p : BinaryPolicy). p.binary) read i ∙ at))))

    -- one more policy that was changed: it follows unless it was read
    module _ (changed : List (List ℕ)) (n : ℕ) (binary : List ℕ) (at : slice_get changed n ≡ Some binary) where
      more : learnt_binaries policies.read (take (n + 1) changed) ≡ with_binary (learnt_binaries policies.read (take n changed)) binary
      more = ap (learnt_binaries policies.read) (taken changed n binary at) ∙ fold-append with_binary (map (λ p. p.binary) policies.read) (take n changed) (binary ∷ [])

      by_known : (b : Bool) → (list_any (bytes_eq binary) (map (λ p. p.binary) policies.read) || list_any (bytes_eq binary) (take n changed)) ≡ b
          → learnt_binaries policies.read (take (n + 1) changed) ≡ cond b (learnt_binaries policies.read (take n changed)) (learnt_binaries policies.read (take n changed) ++ binary ∷ [])
      by_known b known =
          more ∙ ap (λ c. cond c (learnt_binaries policies.read (take n changed)) (learnt_binaries policies.read (take n changed) ++ binary ∷ []))
          (known_all (take n changed) (map (λ p. p.binary) policies.read) binary ∙ known)

      pub there_already : (out : List ℕ) → has_policy policies.read binary ≡ true → out ≡ learnt_so_far policies versions changed session n emulation → out ≡ learnt_so_far policies versions changed session (n + 1) emulation
      there_already out has so_far =
          so_far ∙ ap (λ bs. canon (map one bs) emulation) (sym (by_known true (ap (λ b. b || list_any (bytes_eq binary) (take n changed)) (sym (has_same policies.read binary) ∙ has))))

      pub begins : (out new : List ℕ) → has_policy policies.read binary ≡ false → list_any (bytes_eq binary) (take n changed) ≡ false → out ≡ learnt_so_far policies versions changed session n emulation → new ≡ out ++ canon (one binary ∷ []) emulation
          → new ≡ learnt_so_far policies versions changed session (n + 1) emulation
      begins out new has first so_far written =
          written ∙ ap (λ t. t ++ canon (one binary ∷ []) emulation) so_far
          ∙ sym (one_more (learnt_binaries policies.read (take n changed)) binary)
          ∙ ap (λ bs. canon (map one bs) emulation) (sym (by_known false (λ k. (sym (has_same policies.read binary) ∙ has) k || first k)))

  -- ---- rows

  -- a filter and a newline
  pub one_row : (f : FilterValue) (out row new : List ℕ) → row ≡ out ++ canon_filter f emulation → new ≡ row ++ 10 ∷ [] → new ≡ out ++ rows_text (f ∷ []) emulation
  one_row f out row new r e =
      e ∙ ap (λ t. t ++ 10 ∷ []) r ∙ append_assoc out (canon_filter f emulation) (10 ∷ [])
      ∙ ap (λ t. out ++ t) (sym (ap print (append-nil (row_pieces (filter_pieces f emulation))) ∙ print-append (filter_pieces f emulation) (Sign kind.Line ∷ [])))

  -- ---- the rows of the session's filters of a policy

  -- one more row of the session's filters
  pub row_next : (session : List SessionFilter) (items : List ℕ) (i d : ℕ) (kept : SessionFilter) (f : FilterValue) (out new all : List ℕ) → i < length items → slice_get session (get_or items i d) ≡ Some kept → f ≡ kept.filter → new ≡ out ++ rows_text (f ∷ []) emulation
      → out ++ rows_text (filters_at session is_any (drop i items)) emulation ≡ all → new ++ rows_text (filters_at session is_any (drop (i + 1) items)) emulation ≡ all
  row_next session items i d kept f out new all lt at is written so_far =
      let next : suc i ≡ i + 1 = omega arith in
      let rest : List FilterValue = filters_at session is_any (drop (i + 1) items) in
      let left : filters_at session is_any (drop i items) ≡ f ∷ rest =
      ap (filters_at session is_any) (drop-cons items i d lt ∙ ap (λ n. get_or items i d ∷ drop n items) next) ∙ ap (λ o. with_kind is_any o rest) at ∙ ap (λ (g : FilterValue). g ∷ rest) (sym is) in
      ap (λ t. t ++ rows_text rest emulation) written ∙ append_assoc out (rows_text (f ∷ []) emulation) (rows_text rest emulation) ∙ ap (λ t. out ++ t) (sym (rows-append (f ∷ []) rest)) ∙ ap (λ fs. out ++ rows_text fs emulation) (sym left) ∙ so_far
