-- How often numbers occur in a row, and how the table of pages changes step by step.
use Rattle.std.proofs.Common.{◌≡◌, ℕ, ◌+◌, ◌<◌, ◌≤◌, ◌⊎◌, inl, inr, List, [], ◌∷◌, ◌++◌, length, get_or, set, take, refl, ap, sym, subst, ◌∙◌, arith}
use Rattle.std.specs.Prelude.{All, Any, IsSome, Some}
use Rattle.std.proofs.lemmas.Bool.{cases_eq, cases_lt, eq-eqb, ne_eqb}
use Rattle.std.proofs.lemmas.List.{get_or-set_other, get_or-set_same, get_or_append_left, get_or_push, length-set, length_push, take_more_set}
use Rattle.std.proofs.lemmas.List.Elements.{All-get_or, All-push}
use Rattle.std.proofs.lemmas.List.Quantifiers.{Any-push}
use Rattle.std.proofs.lemmas.List.Sums.{get_or-le-sum_by, sum_by-set, sum_by_more, sum_by_push}
use Rattle.slab.specs.Slab.{Slab, get, with_value}
use Rattle.slab.proofs.SlabLemmas.{Updates-with_value}
use Rattle.st_memory.specs.Memory.{zeros}
use Rattle.st_memory.specs.Pages.{count_of, count_of_entry, occurrences, one_if_same, words_of, words_of_entry, AreAlone, AreCopies, ArePagesAdded, ArePagesReleased, IsCopy, IsFreshRow, IsOneShared, IsOwned, IsReplaced, IsRestAlone, KeepsWords}
use Rattle.st_memory.specs.declared.table.CountedPage.{CountedPage}

-- an element before others, and among one more
any-before : {X : Type 0} (P : X → Type 0) (xs : List X) (y : X) → Any P xs → Any P (xs ++ y ∷ [])
any-before P xs y some = (some.0, some.1, omega (arith, some.2, length_push xs y), get_or_append_left xs (y ∷ []) some.1 some.0 some.2 ∙ some.3, some.4)

any-last : {X : Type 0} (P : X → Type 0) (xs : List X) (y : X) → Any P (xs ++ y ∷ []) → Any P xs ⊎ P y
any-last P xs y some = elim (cases_lt some.0 (length xs)) [
  | inl low ↦ inl (some.0, some.1, low, sym (get_or_append_left xs (y ∷ []) some.1 some.0 low) ∙ some.3, some.4)
  | inr high ↦ inr (let at : some.0 ≡ length xs = omega (arith, some.2, length_push xs y, high) in subst P (sym some.3 ∙ get_or_push xs y some.1 some.0 (sym at)) some.4)
]

pub one-yes : (n number : ℕ) → n ≡ number → one_if_same n number ≡ 1
one-yes n number same = rw (eq-eqb n number same) refl

one-no : (n number : ℕ) → (n ≡ number → ⊥) → one_if_same n number ≡ 0
one-no n number differs = rw (ne_eqb n number differs) refl

-- a number of a list occurs in it
pub occurs-at : (numbers : List ℕ) (i : ℕ) → i < length numbers → 0 < occurrences (get_or numbers i 0) numbers
occurs-at numbers i inside = let a = get_or-le-sum_by (λ n. one_if_same n (get_or numbers i 0)) numbers i 0 inside in let b = one-yes (get_or numbers i 0) (get_or numbers i 0) refl in omega arith

-- the last of these
pub All-last : {X : Type 0} (P : X → Type 0) (xs : List X) (y : X) → All P (xs ++ y ∷ []) → P y
All-last P xs y all = subst P (get_or_push xs y y (length xs) refl) (all (length xs) y (omega (arith, length_push xs y)))

-- an entry of the table after it is written
pub entry-written : (pages : Slab CountedPage) (number : ℕ) (before after : CountedPage) → get pages number ≡ Some before → get (with_value pages number after) number ≡ Some after
entry-written pages number before after found = (Updates-with_value pages number after (subst IsSome (sym found) refl)).changed

-- one more number of a list
occurrences-more : (numbers : List ℕ) (i number : ℕ) → i < length numbers → occurrences number (take (i + 1) numbers) ≡ occurrences number (take i numbers) + one_if_same (get_or numbers i 0) number
occurrences-more numbers i number inside = sum_by_more (λ n. one_if_same n number) numbers i 0 inside

-- pages that have one space more each, and one more page
pub added-more : (old mid new : Slab CountedPage) (numbers : List ℕ) (i : ℕ) → i < length numbers → ArePagesAdded old (take i numbers) mid → ArePagesAdded mid (get_or numbers i 0 ∷ []) new
    → ArePagesAdded old (take (i + 1) numbers) new
added-more old mid new numbers i inside so_far step = record {
  counts = λ n. let a = step.counts n in let b = so_far.counts n in let c = occurrences-more numbers i n inside in omega arith;
  words = λ n was is. let b = so_far.counts n in step.words n (omega arith) is ∙ so_far.words n was (omega arith);
  counted = λ all. step.counted (so_far.counted all);
}

-- pages that have one space less each, and one more page
pub released-more : (old mid new : Slab CountedPage) (numbers : List ℕ) (i : ℕ) → i < length numbers → ArePagesReleased old (take i numbers) mid → ArePagesReleased mid (get_or numbers i 0 ∷ []) new
    → ArePagesReleased old (take (i + 1) numbers) new
released-more old mid new numbers i inside so_far step = record {
  counts = λ n. let a = step.counts n in let b = so_far.counts n in let c = occurrences-more numbers i n inside in omega arith;
  words = λ n was is. let a = step.counts n in step.words n (omega arith) is ∙ so_far.words n was (omega arith);
  counted = λ all. step.counted (so_far.counted all);
}

-- pages of zeros, and one more
pub fresh-more : (old mid new : Slab CountedPage) (row : List ℕ) (index number : ℕ) → index < length row → IsFreshRow old (take index row) mid → count_of mid number ≡ 0 → ArePagesAdded mid (number ∷ []) new
    → words_of new number ≡ zeros → IsFreshRow old (take (index + 1) (set row index number)) new
fresh-more old mid new row index number inside so_far none step words =
    let front : List ℕ = take index row in
    let shape : take (index + 1) (set row index number) ≡ front ++ number ∷ [] = take_more_set row index number inside in
    let more : (n : ℕ) → occurrences n (front ++ number ∷ []) ≡ occurrences n front + one_if_same number n = λ n. sum_by_push (λ m. one_if_same m n) front number in
    let start : (n : ℕ) → count_of mid n ≡ count_of old n + occurrences n front = so_far.added.counts in
    subst (λ (xs : List ℕ). IsFreshRow old xs new) (sym shape) (record {
      added = record {
        counts = λ n. let a = step.counts n in let b = start n in let c = more n in omega arith;
        words = λ n was is. let b = start n in step.words n (omega arith) is ∙ so_far.added.words n was (omega arith);
        counted = λ all. step.counted (so_far.added.counted all);
      };
      fresh = λ n some. elim (cases_eq number n) [
        | inl e ↦ let b = start number in let c : count_of old number ≡ 0 = omega arith in ap (count_of old) (sym e) ∙ c
        | inr ne ↦ so_far.fresh n (let c = more n in let d = one-no number n ne in omega arith)
      ];
      once = λ n. elim (cases_eq number n) [
        | inl e ↦
            let b = start number in
            let d : occurrences n front ≡ 0 = ap (λ (k : ℕ). occurrences k front) (sym e) ∙ omega arith in
            let c = more n in
            let o = one-yes number n e in
            omega arith
        | inr ne ↦ let c = more n in let d = one-no number n ne in let s = so_far.once n in omega arith
      ];
      words = λ n some. elim (cases_eq number n) [
        | inl e ↦ ap (words_of new) (sym e) ∙ words
        | inr ne ↦
            let c = more n in
            let d = one-no number n ne in
            let b = start n in
            let a = step.counts n in
            step.words n (omega arith) (omega arith) ∙ so_far.words n (omega arith)
      ];
    })

-- the pages at indices so far are copied if they are shared: one more copy
pub copied-more : (pages : Slab CountedPage) (row : List ℕ) (first end index : ℕ) (copies new : List (ℕ × List ℕ)) (page : List ℕ) (counted : CountedPage) → new ≡ copies ++ (index, page) ∷ [] → first ≤ index → index < end
    → get pages (get_or row index 0) ≡ Some counted → 1 < counted.count → page ≡ counted.page → AreCopies pages row first end copies → IsRestAlone pages row first index copies
    → AreCopies pages row first end new × IsRestAlone pages row first (index + 1) new
copied-more pages row first end index copies new page counted is low high found shared same so_far rest =
    let copy : IsCopy pages row first end (index, page) = record {
      low = low;
      high = high;
      shared = subst (λ (n : ℕ). 1 < n) (sym (ap count_of_entry found)) shared;
      words = same ∙ sym (ap words_of_entry found);
    } in
    subst (λ (cs : List (ℕ × List ℕ)). AreCopies pages row first end cs × IsRestAlone pages row first (index + 1) cs) (sym is) (
      All-push (IsCopy pages row first end) copies (index, page) so_far copy,
      λ i from below. elim (cases_eq i index) [
        | inl e ↦ inr (Any-push (λ (c : ℕ × List ℕ). c.0 ≡ i) copies (index, page) (sym e))
        | inr ne ↦ elim (rest i from (omega arith)) [
          | inl few ↦ inl few
          | inr some ↦ inr (any-before (λ (c : ℕ × List ℕ). c.0 ≡ i) copies (index, page) some)
        ]
      ],
    )

-- no page is shared at one more index
pub alone-more : (pages : Slab CountedPage) (row : List ℕ) (first index : ℕ) (copies : List (ℕ × List ℕ)) (counted : CountedPage) → get pages (get_or row index 0) ≡ Some counted → counted.count ≤ 1
    → IsRestAlone pages row first index copies → IsRestAlone pages row first (index + 1) copies
alone-more pages row first index copies counted found few rest i from below = elim (cases_eq i index) [
  | inl e ↦ inl (subst (λ (k : ℕ). count_of pages (get_or row k 0) ≤ 1) (sym e) (subst (λ (n : ℕ). n ≤ 1) (sym (ap count_of_entry found)) few))
  | inr ne ↦ rest i from (omega arith)
]

-- a page is added, and the page at an index of a row is released
pub replaced-step : (old mid new : Slab CountedPage) (row : List ℕ) (index number : ℕ) (page : List ℕ) → 0 < count_of old (get_or row index 0) → count_of old number ≡ 0 → ArePagesAdded old (number ∷ []) mid
    → words_of mid number ≡ page → ArePagesReleased mid (get_or row index 0 ∷ []) new → IsReplaced old row index page number new (set row index number)
replaced-step old mid new row index number page there none added words released = record {
  is = refl;
  fresh = none;
  counts = λ n. let a = added.counts n in let b = released.counts n in omega arith;
  counted = λ all. released.counted (added.counted all);
  kept = λ n was will. let a = added.counts n in released.words n (omega arith) will ∙ added.words n was (omega arith);
  words_are =
      let other : one_if_same (get_or row index 0) number ≡ 0 = one-no (get_or row index 0) number (λ e. let z : count_of old (get_or row index 0) ≡ 0 = ap (count_of old) e ∙ none in absurd (omega arith)) in
      let same : one_if_same number number ≡ 1 = one-yes number number refl in
      let a = added.counts number in
      let b = released.counts number in
      released.words number (omega arith) (omega arith) ∙ words;
}

-- the page at an index of such a row is there
pub owned-there : (old mid : Slab CountedPage) (row : List ℕ) (first end : ℕ) (copies : List (ℕ × List ℕ)) (owned : List ℕ) (index : ℕ) → ((n : ℕ) → occurrences n row ≤ count_of old n) → IsOwned old row first end copies mid owned
    → index < length owned → 0 < count_of mid (get_or owned index 0)
owned-there old mid row first end copies owned index there so_far inside =
    let n : ℕ = get_or owned index 0 in
    let a = so_far.counts n in
    let b = there n in
    let c = occurs-at owned index inside in
    omega arith

-- where there are copies, a page is shared
pub one-shared : (pages : Slab CountedPage) (row : List ℕ) (first end : ℕ) (copies : List (ℕ × List ℕ)) → 0 < length copies → AreCopies pages row first end copies → IsOneShared pages row first end
one-shared pages row first end copies some all =
    let copy : IsCopy pages row first end (get_or copies 0 (0, [])) = All-get_or (IsCopy pages row first end) copies 0 (0, []) some all in
    ((get_or copies 0 (0, [])).0, copy.low, copy.high, copy.shared)

-- the copy of a page is put in place of the page
pub owned-more : (old mid new : Slab CountedPage) (row : List ℕ) (first end index number : ℕ) (page owned replaced : List ℕ) (before copies : List (ℕ × List ℕ)) → end ≤ length row
    → ((n : ℕ) → occurrences n row ≤ count_of old n) → ((n : ℕ) → occurrences n row ≤ 1) → before ≡ copies ++ (index, page) ∷ [] → AreCopies old row first end before
    → IsOwned old row first end before mid owned → IsReplaced mid owned index page number new replaced → IsOwned old row first end copies new replaced
owned-more old mid new row first end index number page owned replaced before copies inside there once is copied so_far step =
    let copy : IsCopy old row first end (index, page) = All-last (IsCopy old row first end) copies (index, page) (subst (AreCopies old row first end) is copied) in
    let low : index < length owned = let a = copy.high in let b = so_far.size in omega arith in
    let size : length replaced ≡ length row = ap length step.is ∙ length-set owned index number ∙ so_far.size in
    let at_index : get_or replaced index 0 ≡ number = ap (λ (xs : List ℕ). get_or xs index 0) step.is ∙ get_or-set_same owned index number 0 low in
    let elsewhere : (i : ℕ) → (i ≡ index → ⊥) → get_or replaced i 0 ≡ get_or owned i 0 = λ i differs. ap (λ (xs : List ℕ). get_or xs i 0) step.is ∙ get_or-set_other owned index i number 0 differs in
    let moved : (n : ℕ) → occurrences n replaced + one_if_same (get_or owned index 0) n ≡ occurrences n owned + one_if_same number n =
    λ n. ap (λ (xs : List ℕ). occurrences n xs + one_if_same (get_or owned index 0) n) step.is ∙ sum_by-set (λ m. one_if_same m n) owned index number 0 low in
    let counts : (n : ℕ) → count_of new n + occurrences n row ≡ count_of old n + occurrences n replaced =
    λ n. let a = step.counts n in let b = so_far.counts n in let c = moved n in omega arith in
    let had : (n : ℕ) → occurrences n owned ≤ count_of mid n = λ n. let b = so_far.counts n in let c = there n in omega arith in
    let has : (n : ℕ) → occurrences n replaced ≤ count_of new n = λ n. let b = counts n in let c = there n in omega arith in
    let held : (i : ℕ) → i < length row → 0 < count_of mid (get_or owned i 0) = λ i l. let a = had (get_or owned i 0) in let b = occurs-at owned i (let s = so_far.size in omega arith) in omega arith in
    let holds : (i : ℕ) → i < length row → 0 < count_of new (get_or replaced i 0) = λ i l. let a = has (get_or replaced i 0) in let b = occurs-at replaced i (omega arith) in omega arith in
    let stays : (n : ℕ) → 0 < count_of old n → 0 < count_of new n = λ n was. elim (cases_eq (get_or owned index 0) n) [
      | inl e ↦ elim (so_far.fresh index (omega arith)) [
        | inl same ↦
            let many : 1 < count_of old n = subst (λ (m : ℕ). 1 < count_of old m) (sym same ∙ e) copy.shared in
            let a = counts n in
            let b = once n in
            omega arith
        | inr none ↦ let zero_count : count_of old n ≡ 0 = ap (count_of old) (sym e) ∙ none in absurd (omega arith)
      ]
      | inr ne ↦ let a = step.counts n in let b = one-no (get_or owned index 0) n ne in let c = so_far.stays n was in omega arith
    ] in
    let unknown : count_of old number ≡ 0 = elim (cases_lt 0 (count_of old number)) [
      | inl some ↦ let a = so_far.stays number some in let b = step.fresh in absurd (omega arith)
      | inr none ↦ omega arith
    ] in
    let kept : KeepsWords old new = λ n was will. step.kept n (so_far.stays n was) will ∙ so_far.kept n was (so_far.stays n was) in
    record {
      size = size;
      counts = counts;
      counted = λ all. step.counted (so_far.counted all);
      stays = stays;
      kept = kept;
      words = λ i l. elim (cases_eq i index) [
        | inl e ↦ ap (λ (k : ℕ). words_of new (get_or replaced k 0)) e ∙ ap (words_of new) at_index ∙ step.words_are ∙ copy.words ∙ ap (λ (k : ℕ). words_of old (get_or row k 0)) (sym e)
        | inr ne ↦ ap (words_of new) (elsewhere i ne)
            ∙ step.kept (get_or owned i 0) (held i l) (subst (λ (m : ℕ). 0 < count_of new m) (elsewhere i ne) (holds i l))
            ∙ so_far.words i l
      ];
      once = λ n. elim (cases_eq number n) [
        | inl e ↦
            let none : count_of mid n ≡ 0 = ap (count_of mid) (sym e) ∙ step.fresh in
            let a = had n in
            let b = moved n in
            let c = one-yes number n e in
            omega arith
        | inr ne ↦ let a = so_far.once n in let b = moved n in let c = one-no number n ne in omega arith
      ];
      fresh = λ i l. elim (cases_eq i index) [
        | inl e ↦ inr (ap (λ (k : ℕ). count_of old (get_or replaced k 0)) e ∙ ap (count_of old) at_index ∙ unknown)
        | inr ne ↦ elim (so_far.fresh i l) [
          | inl same ↦ inl (elsewhere i ne ∙ same)
          | inr none ↦ inr (ap (count_of old) (elsewhere i ne) ∙ none)
        ]
      ];
      unwritten = λ i never. elim (cases_eq i index) [
        | inl e ↦ absurd (never (subst (λ (k : ℕ). first ≤ k) (sym e) copy.low) (subst (λ (k : ℕ). k < end) (sym e) copy.high) (subst (λ (k : ℕ). 1 < count_of old (get_or row k 0)) (sym e) copy.shared))
        | inr ne ↦ elsewhere i ne ∙ so_far.unwritten i never
      ];
      alone = λ i from below. elim (cases_eq i index) [
        | inl e ↦ inl (subst (λ (k : ℕ). count_of new (get_or replaced k 0) ≤ 1) (sym e) (subst (λ (m : ℕ). count_of new m ≤ 1) (sym at_index) (let a = step.counts number in let b = step.fresh in let c = one-yes number number refl in omega arith)))
        | inr ne ↦ elim (so_far.alone i from below) [
          | inl few ↦ inl (subst (λ (m : ℕ). count_of new m ≤ 1) (sym (elsewhere i ne)) (
              let n : ℕ = get_or owned i 0 in
              let h = held i (omega arith) in
              let other : one_if_same number n ≡ 0 = one-no number n (λ e. let z : count_of mid n ≡ 0 = ap (count_of mid) (sym e) ∙ step.fresh in absurd (omega arith)) in
              let a = step.counts n in
              omega arith))
          | inr some ↦ elim (any-last (λ (c : ℕ × List ℕ). c.0 ≡ i) copies (index, page) (subst (Any (λ (c : ℕ × List ℕ). c.0 ≡ i)) is some)) [
            | inl left ↦ inr left
            | inr same ↦ absurd (ne (sym same))
          ]
        ]
      ];
    }

-- no page is shared at one more index of these
pub alone-next : (pages : Slab CountedPage) (row : List ℕ) (first index : ℕ) (counted : CountedPage) → get pages (get_or row index 0) ≡ Some counted → counted.count ≤ 1 → AreAlone pages row first index → AreAlone pages row first (index + 1)
alone-next pages row first index counted found few rest i from below = elim (cases_eq i index) [
  | inl e ↦ subst (λ (k : ℕ). count_of pages (get_or row k 0) ≤ 1) (sym e) (subst (λ (n : ℕ). n ≤ 1) (sym (ap count_of_entry found)) few)
  | inr ne ↦ rest i from (omega arith)
]
