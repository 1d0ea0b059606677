-- The spaces after pages are copied for one of them, and after a page is written.
use Rattle.std.proofs.Common.{suc, ◌≡◌, ◌≢◌, ℕ, ◌+◌, ◌-◌, ◌*◌, ◌/◌, ◌%◌, ◌<◌, ◌≤◌, ◌⊎◌, inl, inr, Bool, cond, eqb, ◌==◌, List, [], length, get_or, set, take, drop, Option, Some, None, refl, ap, sym, subst, ◌∙◌, arith}
use Rattle.std.specs.Prelude.{is_some, slice_get, slice_index}
use Rattle.std.proofs.lemmas.Bool.{cases_eq, cases_lt, cond-false, cond-true, eq-eqb, ne_eqb}
use Rattle.std.proofs.lemmas.List.{length-map, length-set}
use Rattle.std.proofs.lemmas.Option.{get_or_from_slice_get, slice_get-get_or, slice_get_past}
use Rattle.slab.specs.Slab.{Slab, get}
use Rattle.st_base.specs.Numbered.{item_at_number_or}
use Rattle.st_memory.specs.Memory.{byte_in, byte_of, bytes_after_put, bytes_after_store, is_space_live, memory_after_put, next_space, page_number, IsPageShared, IsWritten, KeepsSpaces, Memories, OwnsPages}
use Rattle.st_memory.specs.Pages.{count_of, count_of_entry, memories_of, numbers_of, occurrences, row_of, uses, words_of, words_of_entry, AreAlone, IsChanged, IsOwned, IsRow, IsTable, Rows}
use Rattle.st_memory.specs.declared.page.TheConstants.{PAGE_BYTES, PAGE_WORDS}
use Rattle.st_memory.specs.declared.table.CountedPage.{CountedPage}
use Rattle.st_memory.specs.declared.table.TheConstants.{SPACE_PAGES}
use Rattle.std.specs.Int.{w64, to_le_bytes}
use Rattle.st_memory.proofs.Parts.{lies, put_in-above, put_in-below, put_in-inside, put_in-more}
use Rattle.st_memory.proofs.Numbers.{at_number-set, live_within}
use Rattle.st_memory.proofs.Rows.{row-by, byte-view, live-view, number-view, occurs, row-once, row-size, shared-counts, shared-found, twice, uses-at, uses-split, words_at}

module _ (rows : Rows) (old new : Slab CountedPage) (row owned : List ℕ) (first end space : ℕ) (table : IsTable rows old) (found : item_at_number_or None rows space ≡ Some row) where
  abbrev next : Rows
  next = set rows (space - 1) (Some owned)

  inside : (1 ≤ space) × (space ≤ length rows)
  inside = live_within rows space (ap is_some found)

  -- a page with a count above 1 is shared
  pub many-is-shared : (index : ℕ) → index < length row → 1 < count_of old (get_or row index 0) → IsPageShared (memories_of rows (words_of old)) space index
  many-is-shared index low many =
      let n : ℕ = get_or row index 0 in
      let at : slice_get (row_of rows space) index ≡ Some n = ap (λ (o : Option (List ℕ)). slice_get (numbers_of o) index) found ∙ slice_get-get_or row index 0 low in
      let once : occurrences n (row_of rows space) ≤ 1 = subst (λ (o : Option (List ℕ)). occurrences n (numbers_of o) ≤ 1) (sym found) (row-once rows old row space table found n) in
      shared-found rows (words_of old) space index n at once (let a = table.counts n in omega arith)

  -- where no page is shared, a space has its pages alone already
  pub alone-already : (now : Memories) → memories_of rows (words_of old) ≡ now → end ≤ SPACE_PAGES → AreAlone old row first end → OwnsPages now space (λ index. (first ≤ index) × (index < end)) now
  alone-already now view small few = record {
    alone = λ index range x.
        let low : index < length row = omega (arith, range.1, small, row-size rows old row space table found) in
        let n : ℕ = get_or row index 0 in
        let at : slice_get (row_of rows space) index ≡ Some n = ap (λ (o : Option (List ℕ)). slice_get (numbers_of o) index) found ∙ slice_get-get_or row index 0 low in
        omega (arith, few index range.0 range.1, table.counts n, shared-counts rows (words_of old) space index n at (subst (λ (m : Memories). IsPageShared m space index) (sym view) x));
    there = λ s index. refl;
    others = λ s index differs. refl;
    unwritten = λ index never. refl;
  }

  module _ (done : IsOwned old row first end [] new owned) where
    owned-uses : (n : ℕ) → uses next n + occurrences n row ≡ uses rows n + occurrences n owned
    owned-uses n = ap (λ (o : Option (List ℕ)). uses next n + occurrences n (numbers_of o)) (sym found) ∙ uses-split rows space n (Some owned) inside.0 inside.1

    entry : (s : ℕ) → item_at_number_or None next s ≡ cond (s == space) (Some owned) (item_at_number_or None rows s)
    entry s = at_number-set None rows space (Some owned) s inside.0 inside.1

    own-entry : (s : ℕ) → s ≡ space → item_at_number_or None next s ≡ Some owned
    own-entry s e = entry s ∙ ap (λ (b : Bool). cond b (Some owned) (item_at_number_or None rows s)) (eq-eqb s space e)

    other-entry : (s : ℕ) → s ≢ space → item_at_number_or None next s ≡ item_at_number_or None rows s
    other-entry s ne = entry s ∙ ap (λ (b : Bool). cond b (Some owned) (item_at_number_or None rows s)) (ne_eqb s space ne)

    pub owned-table : IsTable next new
    owned-table = record {
      counts = λ n. let a = done.counts n in let b = table.counts n in let c = owned-uses n in omega arith;
      rows_are = λ s. subst IsRow (sym (entry s)) (row-by (s == space) (Some owned) (item_at_number_or None rows s) (done.size ∙ row-size rows old row space table found, done.once) (table.rows_are s));
      counted = done.counted table.counted;
    }

    pub owned-spaces : (now : Memories) → memories_of rows (words_of old) ≡ now → KeepsSpaces now (memories_of next (words_of new))
    owned-spaces now view = (
      ap suc (length-map next _ ∙ length-set rows (space - 1) (Some owned) ∙ sym (length-map rows _)) ∙ ap next_space view,
      λ s. live-view next (words_of new) s ∙ ap is_some (entry s) ∙ by s (cases_eq s space) ∙ sym (live-view rows (words_of old) s) ∙ ap (λ (m : Memories). is_space_live m s) view,
    ) where
      by : (s : ℕ) → (s ≡ space) ⊎ (s ≡ space → ⊥) → is_some (cond (s == space) (Some owned) (item_at_number_or None rows s)) ≡ is_some (item_at_number_or None rows s)
      by s (inl e) = rw (eq-eqb s space e) (sym (ap (λ (k : ℕ). is_some (item_at_number_or None rows k)) e ∙ ap is_some found))
      by s (inr ne) = rw (ne_eqb s space ne) refl

    -- the same words at each index
    same-words : (s i : ℕ) → words_at (words_of new) (slice_get (row_of next s) i) ≡ words_at (words_of old) (slice_get (row_of rows s) i)
    same-words s i = elim (cases_eq s space) [
      | inl e ↦
          let mine : row_of next s ≡ owned = ap numbers_of (own-entry s e) in
          let his : row_of rows s ≡ row = ap numbers_of (ap (item_at_number_or None rows) e ∙ found) in
          elim (cases_lt i (length row)) [
            | inl low ↦
                let more : i < length owned = omega (arith, low, done.size) in
                ap (λ (r : List ℕ). words_at (words_of new) (slice_get r i)) mine ∙ ap (words_at (words_of new)) (slice_get-get_or owned i 0 more)
                ∙ done.words i low
                ∙ sym (ap (λ (r : List ℕ). words_at (words_of old) (slice_get r i)) his ∙ ap (words_at (words_of old)) (slice_get-get_or row i 0 low))
            | inr high ↦
                ap (λ (r : List ℕ). words_at (words_of new) (slice_get r i)) mine ∙ ap (words_at (words_of new)) (slice_get_past owned i (omega (arith, high, done.size)))
                ∙ sym (ap (λ (r : List ℕ). words_at (words_of old) (slice_get r i)) his ∙ ap (words_at (words_of old)) (slice_get_past row i high))
          ]
      | inr ne ↦ ap (λ (o : Option (List ℕ)). words_at (words_of new) (slice_get (numbers_of o) i)) (other-entry s ne) ∙ others s ne (slice_get (row_of rows s) i) refl
    ] where
      others : (s : ℕ) → s ≢ space → (o : Option ℕ) → slice_get (row_of rows s) i ≡ o → words_at (words_of new) o ≡ words_at (words_of old) o
      others s ne None is = refl
      others s ne (Some n) is =
          let used : 0 < uses rows n = omega (arith, occurs (row_of rows s) i n is, uses-at rows s n) in
          let was : 0 < count_of old n = let a = table.counts n in omega arith in
          done.kept n was (done.stays n was)

    pub owned-bytes : (now : Memories) → memories_of rows (words_of old) ≡ now → (s b : ℕ) → byte_in (memories_of next (words_of new)) s b ≡ byte_in now s b
    owned-bytes now view s b =
        byte-view next (words_of new) s b ∙ ap (λ (ws : List ℕ). byte_of ws (b % PAGE_BYTES)) (same-words s (b / PAGE_BYTES)) ∙ sym (byte-view rows (words_of old) s b) ∙ ap (λ (m : Memories). byte_in m s b) view

    pub owned-pages : (now : Memories) → memories_of rows (words_of old) ≡ now → end ≤ SPACE_PAGES → OwnsPages now space (λ index. (first ≤ index) × (index < end)) (memories_of next (words_of new))
    owned-pages now view small = record {
      there = λ s index. elim (cases_eq s space) [
        | inl e ↦
            ap is_some (number-view next (words_of new) s index ∙ ap (λ (o : Option (List ℕ)). slice_get (numbers_of o) index) (own-entry s e))
            ∙ as-many index
            ∙ sym (ap is_some (ap (λ (m : Memories). page_number m s index) (sym view) ∙ number-view rows (words_of old) s index ∙ ap (λ (o : Option (List ℕ)). slice_get (numbers_of o) index) (ap (item_at_number_or None rows) e ∙ found)))
        | inr ne ↦ ap is_some (stay s index ne)
      ];
      alone = λ index range x.
          let mine : slice_get (row_of next space) index ≡ Some x.number = sym (number-view next (words_of new) space index) ∙ x.mine in
          let low : index < length owned = let a = range.1 in let b = done.size in let c = row-size rows old row space table found in omega arith in
          let same : get_or owned index 0 ≡ x.number = get_or_from_slice_get owned index x.number 0 (ap (λ (o : Option (List ℕ)). slice_get (numbers_of o) index) (sym (own-entry space refl)) ∙ mine) in
          let many = shared-counts next (words_of new) space index x.number mine x in
          elim (done.alone index range.0 range.1) [
            | inl few ↦ let less : count_of new x.number ≤ 1 = subst (λ (n : ℕ). count_of new n ≤ 1) same few in omega (arith, many, less, owned-table.counts x.number)
            | inr some ↦ absurd (omega (arith, some.2))
          ];
      others = stay;
      unwritten = λ index never.
          number-view next (words_of new) space index ∙ ap (λ (o : Option (List ℕ)). slice_get (numbers_of o) index) (own-entry space refl)
          ∙ kept index (λ from below many. never (from, below) (subst (λ (m : Memories). IsPageShared m space index) view (many-is-shared index (omega (arith, below, small, row-size rows old row space table found)) many)))
          ∙ ap (λ (o : Option (List ℕ)). slice_get (numbers_of o) index) (sym found) ∙ sym (number-view rows (words_of old) space index) ∙ ap (λ (m : Memories). page_number m space index) view;
    } where
      stay : (s index : ℕ) → s ≢ space → page_number (memories_of next (words_of new)) s index ≡ page_number now s index
      stay s index differs = number-view next (words_of new) s index ∙ ap (λ (o : Option (List ℕ)). slice_get (numbers_of o) index) (other-entry s differs) ∙ sym (number-view rows (words_of old) s index) ∙ ap (λ (m : Memories). page_number m s index) view

      as-many : (index : ℕ) → is_some (slice_get owned index) ≡ is_some (slice_get row index)
      as-many index = elim (cases_lt index (length row)) [
        | inl low ↦ ap is_some (slice_get-get_or owned index 0 (omega (arith, low, done.size))) ∙ sym (ap is_some (slice_get-get_or row index 0 low))
        | inr high ↦ ap is_some (slice_get_past owned index (omega (arith, high, done.size))) ∙ sym (ap is_some (slice_get_past row index high))
      ]

      kept : (index : ℕ) → (first ≤ index → index < end → 1 < count_of old (get_or row index 0) → ⊥) → slice_get owned index ≡ slice_get row index
      kept index never = elim (cases_lt index (length row)) [
        | inl low ↦ slice_get-get_or owned index 0 (omega (arith, low, done.size)) ∙ ap Some (done.unwritten index never) ∙ sym (slice_get-get_or row index 0 low)
        | inr high ↦ slice_get_past owned index (omega (arith, high, done.size)) ∙ sym (slice_get_past row index high)
      ]

-- ---- the words of one page change

module _ (rows : Rows) (old new : Slab CountedPage) (space index n : ℕ) (now : Memories) (table : IsTable rows old) (view : memories_of rows (words_of old) ≡ now) (found : slice_get (row_of rows space) index ≡ Some n) (changed : IsChanged old n new) where
  pub changed-table : IsTable rows new
  changed-table = record { counts = λ m. changed.counts m ∙ table.counts m; rows_are = table.rows_are; counted = changed.counted table.counted }

  pub changed-numbers : (s i : ℕ) → page_number (memories_of rows (words_of new)) s i ≡ page_number now s i
  changed-numbers s i = number-view rows (words_of new) s i ∙ sym (number-view rows (words_of old) s i) ∙ ap (λ (m : Memories). page_number m s i) view

  pub changed-spaces : KeepsSpaces now (memories_of rows (words_of new))
  changed-spaces = (
    ap suc (length-map rows _ ∙ sym (length-map rows _)) ∙ ap next_space view,
    λ s. live-view rows (words_of new) s ∙ sym (live-view rows (words_of old) s) ∙ ap (λ (m : Memories). is_space_live m s) view,
  )

  -- the bytes of the page before the change
  pub byte-before : (s b : ℕ) → s ≡ space → b / PAGE_BYTES ≡ index → byte_in now s b ≡ byte_of (words_of old n) (b % PAGE_BYTES)
  byte-before s b e at = ap (λ (m : Memories). byte_in m s b) (sym view) ∙ byte-view rows (words_of old) s b
      ∙ ap (λ (o : Option ℕ). byte_of (words_at (words_of old) o) (b % PAGE_BYTES)) ((λ i. slice_get (row_of rows (e i)) (at i)) ∙ found)

  -- the page is that of one space and one index
  module _ (alone : IsPageShared now space index → ⊥) where
    few : uses rows n ≤ 1
    few = elim (cases_lt 1 (uses rows n)) [
      | inl many ↦ absurd (alone (subst (λ (m : Memories). IsPageShared m space index) view (shared-found rows (words_of old) space index n found (once (item_at_number_or None rows space) (table.rows_are space)) many)))
      | inr less ↦ less
    ] where
      once : (o : Option (List ℕ)) → IsRow o → occurrences n (numbers_of o) ≤ 1
      once None is = omega arith
      once (Some row) is = is.1 n

    elsewhere : (s i : ℕ) → (s ≡ space → i ≡ index → ⊥) → words_at (words_of new) (slice_get (row_of rows s) i) ≡ words_at (words_of old) (slice_get (row_of rows s) i)
    elsewhere s i differs = by (slice_get (row_of rows s) i) refl where
      only-here : (s i : ℕ) → slice_get (row_of rows s) i ≡ Some n → (s ≡ space → i ≡ index → ⊥) → ⊥
      only-here s i is differs = elim (cases_eq s space) [
        | inl e ↦ twice (row_of rows space) i index n (ap (λ (k : ℕ). slice_get (row_of rows k) i) (sym e) ∙ is) found (differs e) (omega (arith, uses-at rows space n, few))
        | inr ne ↦ omega (
          arith,
          shared-counts rows (words_of old) space index n found (record {
            number = n;
            mine = number-view rows (words_of old) space index ∙ found;
            other = s;
            differs = ne;
            place = i;
            theirs = number-view rows (words_of old) s i ∙ is;
          }),
          few,
        )
      ]

      by : (o : Option ℕ) → slice_get (row_of rows s) i ≡ o → words_at (words_of new) o ≡ words_at (words_of old) o
      by None is = refl
      by (Some m) is = changed.others m (λ e. only-here s i (is ∙ ap Some e) differs)

    pub changed-bytes : (change : (ℕ → ℕ) → ℕ → ℕ) → ((s b : ℕ) → s ≡ space → b / PAGE_BYTES ≡ index → change (byte_in now s) b ≡ byte_of (words_of new n) (b % PAGE_BYTES))
        → ((before : ℕ → ℕ) (b : ℕ) → (b / PAGE_BYTES ≡ index → ⊥) → change before b ≡ before b) → (s b : ℕ)
        → byte_in (memories_of rows (words_of new)) s b ≡ cond (s == space) (change (byte_in now s) b) (byte_in now s b)
    changed-bytes change here away s b = elim (cases_eq s space) [
      | inl e ↦ rw (eq-eqb s space e) (elim (cases_eq (b / PAGE_BYTES) index) [
        | inl at ↦ byte-view rows (words_of new) s b
            ∙ ap (λ (o : Option ℕ). byte_of (words_at (words_of new) o) (b % PAGE_BYTES)) ((λ i. slice_get (row_of rows (e i)) (at i)) ∙ found)
            ∙ sym (here s b e at)
        | inr past ↦ stays (λ _ at. past at) ∙ sym (away (byte_in now s) b past)
      ])
      | inr ne ↦ rw (ne_eqb s space ne) (stays (λ e _. ne e))
    ] where
      stays : (s ≡ space → b / PAGE_BYTES ≡ index → ⊥) → byte_in (memories_of rows (words_of new)) s b ≡ byte_in now s b
      stays differs = byte-view rows (words_of new) s b ∙ ap (λ (ws : List ℕ). byte_of ws (b % PAGE_BYTES)) (elsewhere s (b / PAGE_BYTES) differs) ∙ sym (byte-view rows (words_of old) s b) ∙ ap (λ (m : Memories). byte_in m s b) view

-- ---- moves between clauses

-- what is shared depends on the page numbers
pub shared-moves : (old new : Memories) (space index : ℕ) → ((s i : ℕ) → page_number new s i ≡ page_number old s i) → IsPageShared new space index → IsPageShared old space index
shared-moves old new space index same x = record {
  number = x.number;
  mine = sym (same space index) ∙ x.mine;
  other = x.other;
  differs = x.differs;
  place = x.place;
  theirs = sym (same x.other x.place) ∙ x.theirs;
}

pub owns-moves : (old mid new : Memories) (space : ℕ) (P Q : ℕ → Type 0) → OwnsPages old space P mid → ((s i : ℕ) → page_number new s i ≡ page_number mid s i) → ((i : ℕ) → Q i → P i) → ((i : ℕ) → P i → Q i) → OwnsPages old space Q new
owns-moves old mid new space P Q owns same in_p in_q = record {
  there = λ s index. ap is_some (same s index) ∙ owns.there s index;
  alone = λ index is x. owns.alone index (in_p index is) (shared-moves mid new space index same x);
  others = λ s index differs. same s index ∙ owns.others s index differs;
  unwritten = λ index never. same space index ∙ owns.unwritten index (λ is. never (in_q index is));
}

pub keeps-both : (old mid new : Memories) → KeepsSpaces old mid → KeepsSpaces mid new → KeepsSpaces old new
keeps-both old mid new first then = (then.0 ∙ first.0, λ s. then.1 s ∙ first.1 s)

-- the pages that bytes are on, by the first and the last of them
pub written-range : (at count index : ℕ) → IsWritten at count index → (at / PAGE_BYTES ≤ index) × (index < (at + count - 1) / PAGE_BYTES + 1)
written-range at count index x = (omega (arith, x.1, x.2, x.3), omega (arith, x.1, x.2, x.3))

pub range-written : (at count index : ℕ) → 0 < count → (at / PAGE_BYTES ≤ index) × (index < (at + count - 1) / PAGE_BYTES + 1) → IsWritten at count index
range-written at count index some range = elim (cases_eq (at / PAGE_BYTES) index) [
  | inl e ↦ (at, omega arith, omega arith, e)
  | inr ne ↦ (PAGE_BYTES * index, omega (arith, range.0, ne), omega (arith, range.1), omega arith)
]

-- ---- reads

module _ (rows : Rows) (pages : Slab CountedPage) (space index n : ℕ) (counted : CountedPage) (now : Memories) (table : IsTable rows pages) (view : memories_of rows (words_of pages) ≡ now) (found : slice_get (row_of rows space) index ≡ Some n) (there : get pages n ≡ Some counted) where
  -- a byte of a page is that of the space
  pub byte-here : (b : ℕ) → b / PAGE_BYTES ≡ index → byte_in now space b ≡ byte_of counted.page (b % PAGE_BYTES)
  byte-here b at = ap (λ (m : Memories). byte_in m space b) (sym view) ∙ byte-view rows (words_of pages) space b
      ∙ ap (λ (o : Option ℕ). byte_of (words_at (words_of pages) o) (b % PAGE_BYTES)) (ap (slice_get (row_of rows space)) at ∙ found)
      ∙ ap (λ (o : Option CountedPage). byte_of (words_of_entry o) (b % PAGE_BYTES)) there

  -- a page with a count above 1 is shared
  pub counts-shared : 1 < counted.count → IsPageShared now space index
  counts-shared many = subst (λ (m : Memories). IsPageShared m space index) view (shared-found rows (words_of pages) space index n found (once (item_at_number_or None rows space) (table.rows_are space)) (let a = table.counts n in let b : count_of pages n ≡ counted.count = ap count_of_entry there in omega arith)) where
    once : (o : Option (List ℕ)) → IsRow o → occurrences n (numbers_of o) ≤ 1
    once None is = omega arith
    once (Some row) is = is.1 n

  pub shared-is-counted : IsPageShared now space index → 1 < counted.count
  shared-is-counted x = let a = table.counts n in let b : count_of pages n ≡ counted.count = ap count_of_entry there in let c = shared-counts rows (words_of pages) space index n found (subst (λ (m : Memories). IsPageShared m space index) (sym view) x) in omega arith

-- ---- stores and puts on one page

pub store-here : (before : ℕ → ℕ) (old new : Slab CountedPage) (n place word b : ℕ) → b / PAGE_BYTES ≡ place / PAGE_WORDS → before b ≡ byte_of (words_of old n) (b % PAGE_BYTES)
    → ((k : ℕ) → byte_of (words_of new n) k ≡ bytes_after_store (byte_of (words_of old n)) (place % PAGE_WORDS) word k) → bytes_after_store before place word b ≡ byte_of (words_of new n) (b % PAGE_BYTES)
store-here before old new n place word b at was stored = elim (cases_eq (b / 8) place) [
  | inl e ↦
      let inner : b % PAGE_BYTES / 8 ≡ place % PAGE_WORDS = omega arith in
      let rest : b % PAGE_BYTES % 8 ≡ b % 8 = omega arith in
      cond-true (eqb (b / 8) place) (slice_index (to_le_bytes w64 word) (b % 8)) (before b) (eq-eqb (b / 8) place e)
      ∙ ap (slice_index (to_le_bytes w64 word)) (sym rest)
      ∙ sym (stored (b % PAGE_BYTES) ∙ cond-true (eqb (b % PAGE_BYTES / 8) (place % PAGE_WORDS)) (slice_index (to_le_bytes w64 word) (b % PAGE_BYTES % 8)) (byte_of (words_of old n) (b % PAGE_BYTES)) (eq-eqb (b % PAGE_BYTES / 8) (place % PAGE_WORDS) inner))
  | inr ne ↦
      let outer : (b % PAGE_BYTES / 8 ≡ place % PAGE_WORDS) → ⊥ = λ e. ne (omega arith) in
      cond-false (eqb (b / 8) place) (slice_index (to_le_bytes w64 word) (b % 8)) (before b) (ne_eqb (b / 8) place ne)
      ∙ was
      ∙ sym (stored (b % PAGE_BYTES) ∙ cond-false (eqb (b % PAGE_BYTES / 8) (place % PAGE_WORDS)) (slice_index (to_le_bytes w64 word) (b % PAGE_BYTES % 8)) (byte_of (words_of old n) (b % PAGE_BYTES)) (ne_eqb (b % PAGE_BYTES / 8) (place % PAGE_WORDS) outer))
]

pub store-away : (before : ℕ → ℕ) (place word b : ℕ) → (b / PAGE_BYTES ≡ place / PAGE_WORDS → ⊥) → bytes_after_store before place word b ≡ before b
store-away before place word b past =
    let ne : (b / 8 ≡ place) → ⊥ = λ e. past (omega arith) in
    cond-false (eqb (b / 8) place) (slice_index (to_le_bytes w64 word) (b % 8)) (before b) (ne_eqb (b / 8) place ne)

pub put-here : (before : ℕ → ℕ) (old new : Slab CountedPage) (n at : ℕ) (part : List ℕ) (b : ℕ) → b / PAGE_BYTES ≡ at / PAGE_BYTES → at % PAGE_BYTES + length part ≤ PAGE_BYTES → before b ≡ byte_of (words_of old n) (b % PAGE_BYTES)
    → ((k : ℕ) → byte_of (words_of new n) k ≡ bytes_after_put (byte_of (words_of old n)) (at % PAGE_BYTES) part k) → bytes_after_put before at part b ≡ byte_of (words_of new n) (b % PAGE_BYTES)
put-here before old new n at part b same fits was put = elim (lies at (length part) b) [
  | inl low ↦ put_in-below before at part b low ∙ was ∙ sym (put (b % PAGE_BYTES) ∙ put_in-below (byte_of (words_of old n)) (at % PAGE_BYTES) part (b % PAGE_BYTES) (omega arith))
  | inr rest ↦ elim rest [
    | inl range ↦
        let offset : b - at ≡ b % PAGE_BYTES - at % PAGE_BYTES = omega (arith, range.0, range.1) in
        put_in-inside before at part b range.0 range.1 ∙ ap (λ (k : ℕ). get_or part k 0) offset
        ∙ sym (put (b % PAGE_BYTES) ∙ put_in-inside (byte_of (words_of old n)) (at % PAGE_BYTES) part (b % PAGE_BYTES) (omega (arith, range.0, range.1)) (omega (arith, range.0, range.1)))
    | inr high ↦ put_in-above before at part b high ∙ was ∙ sym (put (b % PAGE_BYTES) ∙ put_in-above (byte_of (words_of old n)) (at % PAGE_BYTES) part (b % PAGE_BYTES) (omega arith))
  ]
]

pub put-away : (before : ℕ → ℕ) (at : ℕ) (part : List ℕ) (b : ℕ) → (b / PAGE_BYTES ≡ at / PAGE_BYTES → ⊥) → at % PAGE_BYTES + length part ≤ PAGE_BYTES → bytes_after_put before at part b ≡ before b
put-away before at part b past fits = elim (lies at (length part) b) [
  | inl low ↦ put_in-below before at part b low
  | inr rest ↦ elim rest [
    | inl range ↦ absurd (past (omega (arith, range.0, range.1)))
    | inr high ↦ put_in-above before at part b high
  ]
]

-- bytes are put into a space part by part
pub put-more : (before mid new : ℕ → ℕ → ℕ) (space at : ℕ) (bytes : List ℕ) (done end : ℕ) → done ≤ end → end ≤ length bytes → ((s b : ℕ) → mid s b ≡ memory_after_put before space at (take done bytes) s b)
    → ((s b : ℕ) → new s b ≡ memory_after_put mid space (at + done) (take (end - done) (drop done bytes)) s b) → (s b : ℕ) → new s b ≡ memory_after_put before space at (take end bytes) s b
put-more before mid new space at bytes done end order fits so_far step s b = step s b ∙ elim (cases_eq s space) [
  | inl e ↦
      let there : (k : ℕ) → mid s k ≡ bytes_after_put (before s) at (take done bytes) k = λ k. so_far s k ∙ cond-true (s == space) (bytes_after_put (before s) at (take done bytes) k) (before s k) (eq-eqb s space e) in
      rw (eq-eqb s space e) (put_in-more (before s) (mid s) at bytes done end order fits there b)
  | inr ne ↦ rw (ne_eqb s space ne) (so_far s b ∙ cond-false (s == space) (bytes_after_put (before s) at (take done bytes) b) (before s b) (ne_eqb s space ne))
]
