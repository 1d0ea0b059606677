-- The spaces after one is made, copied, given up or written, by what changed in the rows and in the table of pages.
use Rattle.std.proofs.Common.{zero, suc, ◌≡◌, ℕ, ◌+◌, ◌-◌, ◌/◌, ◌%◌, ◌<◌, ◌≤◌, inl, inr, Bool, true, false, cond, ◌==◌, List, [], ◌∷◌, ◌++◌, map, length, set, take, Option, Some, None, Result, Ok, Err, refl, ap, sym, subst, ◌∙◌, arith}
use Rattle.std.specs.Prelude.{OnErr, is_some, slice_get}
use Rattle.std.specs.Option.{option_map}
use Rattle.std.proofs.lemmas.Bool.{cases_eq, eq-eqb, ne_eqb}
use Rattle.std.proofs.lemmas.List.{length-append, length-map, length-set, length-take, map-append, map-set, take-append-le, take-map, take_all}
use Rattle.std.proofs.lemmas.List.Sums.{sum_by_more, sum_by_push}
use Rattle.slab.specs.Slab.{Slab}
use Rattle.st_base.specs.Numbered.{item_at_number_or, with_item_at_number}
use Rattle.st_memory.specs.Memory.{byte_in, byte_of, is_space_live, next_space, pages_of_space, spaces_after_copy, spaces_after_give_up, ChangesLive, IsPageShared, IsSpaceAdded, Memories, NumberedPage}
use Rattle.st_memory.specs.Pages.{memories_of, numbered, numbers_of, occurrences, row_of, uses, words_of, ArePagesAdded, ArePagesReleased, IsFreshRow, IsRow, IsTable, Rows, SamePages}
use Rattle.st_memory.specs.declared.page.TheConstants.{PAGE_BYTES}
use Rattle.st_memory.specs.declared.table.CountedPage.{CountedPage}
use Rattle.st_memory.specs.declared.table.TheConstants.{SPACE_PAGES}
use Rattle.st_memory.proofs.Bytes.{byte_of-zeros}
use Rattle.st_memory.proofs.Numbers.{at_number-cut, at_number-push, at_number-set, byte_in-cut, byte_in-gone, byte_in-past, byte_in-push, live_within}
use Rattle.st_memory.proofs.Rows.{row-by, byte-view, entry-same, number-view, occurs, pages-view, shared-counts, uses-at, uses-split, view-same, words_at}

-- what is so whatever the result is so after an error
pub on-err : {T E P : Type 0} (r : Result T E) → P → OnErr r P
on-err (Ok x) holds = tt
on-err (Err e) holds = holds

-- ---- the same pages

module _ (rows : Rows) (old new : Slab CountedPage) (now : Memories) (table : IsTable rows old) (view : memories_of rows (words_of old) ≡ now) (same : SamePages old new) where
  pub table-same : IsTable rows new
  table-same = record { counts = λ n. same.counts n ∙ table.counts n; rows_are = table.rows_are; counted = same.counted table.counted }

  pub view-unchanged : memories_of rows (words_of new) ≡ now
  view-unchanged = view-same rows (words_of old) (words_of new) (λ n used. let a = same.counts n in let b = table.counts n in same.words n (omega arith) (omega arith)) ∙ view

-- ---- one more space

module _ (rows next : Rows) (old new : Slab CountedPage) (row : List ℕ) (now : Memories) (table : IsTable rows old) (view : memories_of rows (words_of old) ≡ now) (is : next ≡ rows ++ Some row ∷ []) (added : ArePagesAdded old row new) where
  pushed-uses : (n : ℕ) → uses next n ≡ uses rows n + occurrences n row
  pushed-uses n = ap (λ (r : Rows). uses r n) is ∙ sum_by_push (λ o. occurrences n (numbers_of o)) rows (Some row)

  pub pushed-table : length row ≡ SPACE_PAGES → ((n : ℕ) → occurrences n row ≤ 1) → IsTable next new
  pushed-table size once = record {
    counts = λ n. let a = added.counts n in let b = table.counts n in let c = pushed-uses n in omega arith;
    rows_are = λ s. subst IsRow (sym (ap (λ (r : Rows). item_at_number_or None r s) is ∙ at_number-push None rows (Some row) s)) (row-by (s == suc (length rows)) (Some row) (item_at_number_or None rows s) (size, once) (table.rows_are s));
    counted = added.counted table.counted;
  }

  pub pushed-view : memories_of next (words_of new) ≡ now ++ Some (map (numbered (words_of new)) row) ∷ []
  pushed-view =
      let front : memories_of rows (words_of new) ≡ now = view-same rows (words_of old) (words_of new) (λ n used. let a = added.counts n in let b = table.counts n in added.words n (omega arith) (omega arith)) ∙ view in
      ap (λ (r : Rows). memories_of r (words_of new)) is
      ∙ map-append (option_map (map (numbered (words_of new)))) rows (Some row ∷ [])
      ∙ ap (λ (m : Memories). m ++ Some (map (numbered (words_of new)) row) ∷ []) front

  pub pushed-added : length row ≡ SPACE_PAGES → IsSpaceAdded now (memories_of next (words_of new))
  pushed-added size = record { pages = map (numbered (words_of new)) row; size = length-map row (numbered (words_of new)) ∙ size; is = pushed-view }

  pub pushed-next : next_space (memories_of next (words_of new)) ≡ suc (next_space now)
  pushed-next = ap next_space pushed-view ∙ ap suc (length-append now (Some (map (numbered (words_of new)) row) ∷ []) ∙ omega arith)

  pub pushed-live : ChangesLive now (next_space now) true (memories_of next (words_of new))
  pushed-live = λ s. ap (λ (m : Memories). is_space_live m s) pushed-view ∙ ap is_some (at_number-push None now (Some (map (numbered (words_of new)) row)) s) ∙ by (s == next_space now) (pages_of_space now s) where
    by : (b : Bool) (o : Option (List NumberedPage)) → is_some (cond b (Some (map (numbered (words_of new)) row)) o) ≡ cond b true (is_some o)
    by true o = refl
    by false o = refl

  pub sizes : next_space now ≡ suc (length rows)
  sizes = ap next_space (sym view) ∙ ap suc (length-map rows (option_map (map (numbered (words_of old)))))

  last-row : (s : ℕ) → s ≡ next_space now → row_of next s ≡ row
  last-row s e = ap numbers_of (ap (λ (r : Rows). item_at_number_or None r s) is ∙ at_number-push None rows (Some row) s ∙ ap (λ (b : Bool). cond b (Some row) (item_at_number_or None rows s)) (eq-eqb s (suc (length rows)) (e ∙ sizes)))

  -- pages of zeros
  module _ (fresh : IsFreshRow old row new) where
    pub made-zeros : (s b : ℕ) → s ≡ next_space now → byte_in (memories_of next (words_of new)) s b ≡ 0
    made-zeros s b e = byte-view next (words_of new) s b ∙ ap (λ (r : List ℕ). byte_of (words_at (words_of new) (slice_get r (b / PAGE_BYTES))) (b % PAGE_BYTES)) (last-row s e) ∙ by (slice_get row (b / PAGE_BYTES)) refl where
      by : (o : Option ℕ) → slice_get row (b / PAGE_BYTES) ≡ o → byte_of (words_at (words_of new) o) (b % PAGE_BYTES) ≡ 0
      by None found = byte_of-zeros 0 (b % PAGE_BYTES)
      by (Some n) found = ap (λ (ws : List ℕ). byte_of ws (b % PAGE_BYTES)) (fresh.words n (occurs row (b / PAGE_BYTES) n found)) ∙ byte_of-zeros 512 (b % PAGE_BYTES)

    pub made-others : (s b : ℕ) → byte_in (memories_of next (words_of new)) s b ≡ byte_in now s b
    made-others s b = elim (cases_eq s (next_space now)) [
      | inl e ↦ made-zeros s b e ∙ sym (byte_in-past now s b e)
      | inr ne ↦ ap (λ (m : Memories). byte_in m s b) pushed-view ∙ byte_in-push now (Some (map (numbered (words_of new)) row)) s b ∙ rw (ne_eqb s (next_space now) ne) refl
    ]

    pub made-alone : (s index : ℕ) → s ≡ next_space now → IsPageShared (memories_of next (words_of new)) s index → ⊥
    made-alone s index e x =
        let mine : slice_get (row_of next s) index ≡ Some x.number = sym (number-view next (words_of new) s index) ∙ x.mine in
        let many = shared-counts next (words_of new) s index x.number mine x in
        let here : 0 < occurrences x.number row = occurs row index x.number (ap (λ (r : List ℕ). slice_get r index) (sym (last-row s e)) ∙ mine) in
        omega (arith, many, pushed-uses x.number, fresh.once x.number, fresh.fresh x.number here, table.counts x.number)

  -- the pages of another space
  module _ (from : ℕ) (found : item_at_number_or None rows from ≡ Some row) where
    pub copied-view : memories_of next (words_of new) ≡ spaces_after_copy now from
    copied-view =
        let used : (n : ℕ) → 0 < occurrences n (numbers_of (Some row)) → words_of new n ≡ words_of old n =
        λ n some. let u : occurrences n row ≤ uses rows n = subst (λ (o : Option (List ℕ)). occurrences n (numbers_of o) ≤ uses rows n) found (uses-at rows from n) in
        let a = added.counts n in let b = table.counts n in added.words n (omega arith) (omega arith) in
        pushed-view
        ∙ ap (λ (o : Option (List NumberedPage)). now ++ o ∷ []) (entry-same (words_of old) (words_of new) (Some row) used ∙ ap (option_map (map (numbered (words_of old)))) (sym found) ∙ sym (pages-view rows (words_of old) from) ∙ ap (λ (m : Memories). pages_of_space m from) view)

    pub copied-bytes : (s b : ℕ) → byte_in (memories_of next (words_of new)) s b ≡ cond (s == next_space now) (byte_in now from b) (byte_in now s b)
    copied-bytes s b = ap (λ (m : Memories). byte_in m s b) copied-view ∙ byte_in-push now (pages_of_space now from) s b

-- ---- one space less

module _ (rows next : Rows) (old new : Slab CountedPage) (row : List ℕ) (table : IsTable rows old) (left : (n : ℕ) → uses next n + occurrences n row ≡ uses rows n) (rows_are : (s : ℕ) → IsRow (item_at_number_or None next s)) (released : ArePagesReleased old row new) where
  pub left-table : IsTable next new
  left-table = record {
    counts = λ n. let a = released.counts n in let b = table.counts n in let c = left n in omega arith;
    rows_are = rows_are;
    counted = released.counted table.counted;
  }

  pub left-view : memories_of next (words_of new) ≡ memories_of next (words_of old)
  left-view = view-same next (words_of old) (words_of new) (λ n used. let a = released.counts n in let b = table.counts n in let c = left n in released.words n (omega arith) (omega arith))

module _ (rows : Rows) (old new : Slab CountedPage) (row : List ℕ) (now : Memories) (space : ℕ) (table : IsTable rows old) (view : memories_of rows (words_of old) ≡ now) (found : item_at_number_or None rows space ≡ Some row) (released : ArePagesReleased old row new) where
  inside : (1 ≤ space) × (space ≤ length rows)
  inside = live_within rows space (ap is_some found)

  as_many : length now ≡ length rows
  as_many = ap length (sym view) ∙ length-map rows (option_map (map (numbered (words_of old))))

  gone-uses : (n : ℕ) → uses (set rows (space - 1) None) n + occurrences n row ≡ uses rows n
  gone-uses n = ap (λ (o : Option (List ℕ)). uses (set rows (space - 1) None) n + occurrences n (numbers_of o)) (sym found) ∙ uses-split rows space n None inside.0 inside.1 ∙ omega arith

  gone-rows : (s : ℕ) → IsRow (item_at_number_or None (set rows (space - 1) None) s)
  gone-rows s = subst IsRow (sym (at_number-set None rows space None s inside.0 inside.1)) (row-by (s == space) None (item_at_number_or None rows s) tt (table.rows_are s))

  pub gone-table : IsTable (set rows (space - 1) None) new
  gone-table = left-table rows (set rows (space - 1) None) old new row table gone-uses gone-rows released

  pub gone-set : memories_of (set rows (space - 1) None) (words_of new) ≡ set now (space - 1) None
  gone-set = left-view rows (set rows (space - 1) None) old new row table gone-uses gone-rows released ∙ map-set (option_map (map (numbered (words_of old)))) rows (space - 1) None ∙ ap (λ (m : Memories). set m (space - 1) None) view

  pub gone-view : memories_of (set rows (space - 1) None) (words_of new) ≡ spaces_after_give_up now space
  gone-view = gone-set ∙ by space inside.0 where
    by : (s : ℕ) → 1 ≤ s → set now (s - 1) None ≡ with_item_at_number now s None
    by zero low = absurd (omega arith)
    by (suc k) low = let same : suc k - 1 ≡ k = omega arith in rw same refl

  pub gone-next : next_space (memories_of (set rows (space - 1) None) (words_of new)) ≡ next_space now
  gone-next = ap next_space gone-set ∙ ap suc (length-set now (space - 1) None)

  pub gone-live : ChangesLive now space false (memories_of (set rows (space - 1) None) (words_of new))
  gone-live = λ s. ap (λ (m : Memories). is_space_live m s) gone-set ∙ ap is_some (at_number-set None now space None s inside.0 (omega (arith, inside.1, as_many))) ∙ by (s == space) (pages_of_space now s) where
    by : (b : Bool) (o : Option (List NumberedPage)) → is_some (cond b None o) ≡ cond b false (is_some o)
    by true o = refl
    by false o = refl

  pub gone-bytes : (s b : ℕ) → byte_in (memories_of (set rows (space - 1) None) (words_of new)) s b ≡ cond (s == space) 0 (byte_in now s b)
  gone-bytes s b = ap (λ (m : Memories). byte_in m s b) gone-set ∙ byte_in-gone now space s b inside.0 (omega (arith, inside.1, as_many))

  -- the space is the last one
  module _ (last : suc space ≡ next_space now) where
    is_last : space ≡ length rows
    is_last = omega (arith, last, as_many)

    cut-uses : (n : ℕ) → uses (take (space - 1) rows) n + occurrences n row ≡ uses rows n
    cut-uses n = by rows space is_last found where
      by : (rows : Rows) (space : ℕ) → space ≡ length rows → item_at_number_or None rows space ≡ Some row → uses (take (space - 1) rows) n + occurrences n row ≡ uses rows n
      by rows zero size there = absurd (cc)
      by rows (suc k) size there =
          let same : suc k - 1 ≡ k = omega arith in
          rw same (
          ap (λ (o : Option (List ℕ)). uses (take k rows) n + occurrences n (numbers_of o)) (sym there)
          ∙ sym (sum_by_more (λ o. occurrences n (numbers_of o)) rows k None (omega arith))
          ∙ ap (λ (r : Rows). uses r n) (take_all (k + 1) rows (omega arith)))

    cut-rows : (s : ℕ) → IsRow (item_at_number_or None (take (space - 1) rows) s)
    cut-rows s = subst IsRow (sym (at_number-cut None rows space s inside.0 is_last)) (row-by (s == space) None (item_at_number_or None rows s) tt (table.rows_are s))

    pub cut-table : IsTable (take (space - 1) rows) new
    cut-table = left-table rows (take (space - 1) rows) old new row table cut-uses cut-rows released

    pub cut-view : memories_of (take (space - 1) rows) (words_of new) ≡ take (space - 1) now
    cut-view = left-view rows (take (space - 1) rows) old new row table cut-uses cut-rows released ∙ sym (take-map (option_map (map (numbered (words_of old)))) (space - 1) rows) ∙ ap (take (space - 1)) view

    pub cut-undoes : (before : Memories) (pages : List NumberedPage) → now ≡ before ++ Some pages ∷ [] → memories_of (take (space - 1) rows) (words_of new) ≡ before
    cut-undoes before pages shape =
        let count : space - 1 ≡ length before = omega (arith, last, ap length shape, length-append before (Some pages ∷ [])) in
        cut-view ∙ (λ i. take (count i) (shape i)) ∙ (take-append-le (length before) before (Some pages ∷ []) (omega arith) ∙ take_all (length before) before (omega arith))

    pub cut-next : next_space (memories_of (take (space - 1) rows) (words_of new)) ≡ space
    cut-next = ap next_space cut-view ∙ omega (arith, inside.0, last, length-take (space - 1) now)

    pub cut-live : ChangesLive now space false (memories_of (take (space - 1) rows) (words_of new))
    cut-live = λ s. ap (λ (m : Memories). is_space_live m s) cut-view ∙ ap is_some (at_number-cut None now space s inside.0 (omega (arith, last))) ∙ by (s == space) (pages_of_space now s) where
      by : (b : Bool) (o : Option (List NumberedPage)) → is_some (cond b None o) ≡ cond b false (is_some o)
      by true o = refl
      by false o = refl

    pub cut-bytes : (s b : ℕ) → byte_in (memories_of (take (space - 1) rows) (words_of new)) s b ≡ cond (s == space) 0 (byte_in now s b)
    cut-bytes s b = ap (λ (m : Memories). byte_in m s b) cut-view ∙ byte_in-cut now space s b inside.0 (omega (arith, last))
