-- The spaces that page numbers and a table of pages represent.
use Rattle.std.proofs.Common.{zero, suc, ◌≡◌, ◌≢◌, ℕ, ◌+◌, ◌-◌, ◌/◌, ◌%◌, ◌^◌, ◌<◌, ◌≤◌, inl, inr, true, List, [], ◌∷◌, map, length, get_or, set, Option, Some, None, refl, ap, sym, subst, ◌∙◌, arith, Bool, false, cond}
use Rattle.std.specs.Prelude.{is_some, slice_get, unwrap_or}
use Rattle.std.specs.Option.{option_map}
use Rattle.std.proofs.lemmas.Bool.{cases_eq, cases_lt, eq-eqb, ne_eqb}
use Rattle.std.proofs.lemmas.List.{get_or-set_other, get_or-set_same, length-map}
use Rattle.std.proofs.lemmas.List.Sums.{get_or-le-sum_by, sum_by-cons, sum_by-set}
use Rattle.std.proofs.lemmas.Option.{get_or_from_slice_get, same_Some, slice_get-map, slice_get_within}
use Rattle.std.proofs.Math.ListN.{get_or-eq_default}
use Rattle.st_base.specs.Numbered.{item_at_number_or}
use Rattle.st_memory.specs.Memory.{byte_in, byte_of, is_space_live, page_at, page_number, pages_of_space, IsPageShared, Memories, NumberedPage}
use Rattle.slab.specs.Slab.{Slab}
use Rattle.st_memory.specs.declared.table.CountedPage.{CountedPage}
use Rattle.st_memory.specs.declared.table.TheConstants.{SPACE_PAGES}
use Rattle.st_memory.specs.Pages.{count_of, memories_of, numbered, numbers_of, occurrences, one_if_same, row_of, uses, IsRow, IsTable, Rows}
use Rattle.st_memory.specs.declared.page.TheConstants.{PAGE_BYTES}
use Rattle.st_memory.proofs.Counts.{occurs-at, one-yes}
use Rattle.st_memory.proofs.Numbers.{live_within}

-- ---- a space and its pages, by its page numbers

at-map : {X Y : Type 0} (f : X → Y) (xs : List X) (k : ℕ) (d : X) → get_or (map f xs) k (f d) ≡ f (get_or xs k d)
at-map f [] k d = refl
at-map f (x ∷ xs) zero d = refl
at-map f (x ∷ xs) (suc k) d = at-map f xs k d

some-map : {X Y : Type 0} (f : X → Y) (o : Option X) → is_some (option_map f o) ≡ is_some o
some-map f None = refl
some-map f (Some x) = refl

pages-map : (words : ℕ → List ℕ) (o : Option (List ℕ)) → unwrap_or (option_map (map (numbered words)) o) [] ≡ map (numbered words) (numbers_of o)
pages-map words None = refl
pages-map words (Some row) = refl

number-map : (words : ℕ → List ℕ) (o : Option ℕ) → option_map (λ page. page.number) (option_map (numbered words) o) ≡ o
number-map words None = refl
number-map words (Some n) = refl

-- the words of a page with a number; none if there is no number
abbrev pub words_at : (ℕ → List ℕ) → Option ℕ → List ℕ
words_at words None = []
words_at words (Some n) = words n

words-map : (words : ℕ → List ℕ) (o : Option ℕ) → unwrap_or (option_map (λ (page : NumberedPage). page.words) (option_map (numbered words) o)) [] ≡ words_at words o
words-map words None = refl
words-map words (Some n) = refl

pub pages-view : (rows : Rows) (words : ℕ → List ℕ) (s : ℕ) → pages_of_space (memories_of rows words) s ≡ option_map (map (numbered words)) (item_at_number_or None rows s)
pages-view rows words zero = refl
pages-view rows words (suc k) = at-map (option_map (map (numbered words))) rows k None

pub live-view : (rows : Rows) (words : ℕ → List ℕ) (s : ℕ) → is_space_live (memories_of rows words) s ≡ is_some (item_at_number_or None rows s)
live-view rows words s = ap is_some (pages-view rows words s) ∙ some-map (map (numbered words)) (item_at_number_or None rows s)

page-view : (rows : Rows) (words : ℕ → List ℕ) (s index : ℕ) → page_at (memories_of rows words) s index ≡ option_map (numbered words) (slice_get (row_of rows s) index)
page-view rows words s index =
    ap (λ (o : Option (List NumberedPage)). slice_get (unwrap_or o []) index) (pages-view rows words s)
    ∙ ap (λ (pages : List NumberedPage). slice_get pages index) (pages-map words (item_at_number_or None rows s))
    ∙ slice_get-map (numbered words) (row_of rows s) index

pub number-view : (rows : Rows) (words : ℕ → List ℕ) (s index : ℕ) → page_number (memories_of rows words) s index ≡ slice_get (row_of rows s) index
number-view rows words s index = ap (option_map (λ (page : NumberedPage). page.number)) (page-view rows words s index) ∙ number-map words (slice_get (row_of rows s) index)

pub byte-view : (rows : Rows) (words : ℕ → List ℕ) (s b : ℕ) → byte_in (memories_of rows words) s b ≡ byte_of (words_at words (slice_get (row_of rows s) (b / PAGE_BYTES))) (b % PAGE_BYTES)
byte-view rows words s b =
    ap (λ (ws : List ℕ). byte_of ws (b % PAGE_BYTES))
    (ap (λ (o : Option NumberedPage). unwrap_or (option_map (λ (page : NumberedPage). page.words) o) []) (page-view rows words s (b / PAGE_BYTES)) ∙ words-map words (slice_get (row_of rows s) (b / PAGE_BYTES)))

-- ---- how often a page is used

pub occurs : (numbers : List ℕ) (i n : ℕ) → slice_get numbers i ≡ Some n → 0 < occurrences n numbers
occurs numbers i n found = subst (λ (m : ℕ). 0 < occurrences m numbers) (get_or_from_slice_get numbers i n 0 found) (occurs-at numbers i (slice_get_within numbers i n found))

-- a number that is at two places occurs twice
pub twice : (numbers : List ℕ) (i j n : ℕ) → slice_get numbers i ≡ Some n → slice_get numbers j ≡ Some n → (i ≡ j → ⊥) → occurrences n numbers ≤ 1 → ⊥
twice [] i j n at other differs few = absurd (cc)
twice (m ∷ numbers) zero zero n at other differs few = differs refl
twice (m ∷ numbers) zero (suc j) n at other differs few =
    omega (arith, few, one-yes m n (same_Some m n at), occurs numbers j n other, sum_by-cons (λ k. one_if_same k n) m numbers)
twice (m ∷ numbers) (suc i) zero n at other differs few =
    omega (arith, few, one-yes m n (same_Some m n other), occurs numbers i n at, sum_by-cons (λ k. one_if_same k n) m numbers)
twice (m ∷ numbers) (suc i) (suc j) n at other differs few =
    twice numbers i j n at other (λ e. differs (ap suc e)) (omega (arith, few, sum_by-cons (λ k. one_if_same k n) m numbers))

occurs-found : (numbers : List ℕ) (n : ℕ) → 0 < occurrences n numbers → (i : ℕ) × (slice_get numbers i ≡ Some n)
occurs-found [] n some = absurd (omega arith)
occurs-found (m ∷ numbers) n some = elim (cases_eq m n) [
  | inl e ↦ (0, ap Some e)
  | inr ne ↦
      let none : one_if_same m n ≡ 0 = rw (ne_eqb m n ne) refl in
      let later = occurs-found numbers n (omega (arith, some, none, sum_by-cons (λ k. one_if_same k n) m numbers)) in
      (suc later.0, later.1)
]

pub uses-at : (rows : Rows) (s n : ℕ) → occurrences n (row_of rows s) ≤ uses rows n
uses-at rows zero n = omega arith
uses-at rows (suc k) n = elim (cases_lt k (length rows)) [
  | inl low ↦ get_or-le-sum_by (λ o. occurrences n (numbers_of o)) rows k None low
  | inr high ↦ subst (λ (o : Option (List ℕ)). occurrences n (numbers_of o) ≤ uses rows n) (sym (get_or-eq_default rows None high)) (omega arith)
]

uses-found : (rows : Rows) (n : ℕ) → 0 < uses rows n → (k : ℕ) × (0 < occurrences n (row_of rows (suc k)))
uses-found [] n some = absurd (omega arith)
uses-found (o ∷ rows) n some = elim (cases_lt 0 (occurrences n (numbers_of o))) [
  | inl here ↦ (0, here)
  | inr none ↦
      let later = uses-found rows n (omega (arith, some, none, sum_by-cons (λ o. occurrences n (numbers_of o)) o rows)) in
      (suc later.0, later.1)
]

-- a space that has a page has one of the numbers that were given
pub page-within : (rows : Rows) (s index n : ℕ) → slice_get (row_of rows s) index ≡ Some n → (1 ≤ s) × (s ≤ length rows)
page-within rows s index n found = live_within rows s (is_live (item_at_number_or None rows s) found) where
  is_live : (o : Option (List ℕ)) → slice_get (numbers_of o) index ≡ Some n → is_some o ≡ true
  is_live None found = absurd (cc)
  is_live (Some row) found = refl

-- the uses by all other spaces, and those by one
pub uses-split : (rows : Rows) (s n : ℕ) (entry : Option (List ℕ)) → 1 ≤ s → s ≤ length rows → uses (set rows (s - 1) entry) n + occurrences n (row_of rows s) ≡ uses rows n + occurrences n (numbers_of entry)
uses-split rows zero n entry low high = absurd (omega arith)
uses-split rows (suc k) n entry low high =
    let same : suc k - 1 ≡ k = omega arith in
    rw same (sum_by-set (λ o. occurrences n (numbers_of o)) rows k entry None (omega arith))

-- a space that is set aside has no page
none-aside : (rows : Rows) (k j n : ℕ) → k < length rows → j ≡ k → occurrences n (row_of (set rows k None) (suc j)) ≡ 0
none-aside rows k j n low e = subst (λ (i : ℕ). occurrences n (row_of (set rows k None) (suc i)) ≡ 0) (sym e) (ap (λ (o : Option (List ℕ)). occurrences n (numbers_of o)) (get_or-set_same rows k None None low))

-- a page with more than one use is shared
pub shared-found : (rows : Rows) (words : ℕ → List ℕ) (s index n : ℕ) → slice_get (row_of rows s) index ≡ Some n → occurrences n (row_of rows s) ≤ 1 → 1 < uses rows n → IsPageShared (memories_of rows words) s index
shared-found rows words zero index n mine once many = absurd (omega (arith, (page-within rows zero index n mine).0))
shared-found rows words (suc k) index n mine once many =
    let inside = page-within rows (suc k) index n mine in
    let rest : Rows = set rows k None in
    let set_there : uses rest n + occurrences n (row_of rows (suc k)) ≡ uses rows n + 0 = sum_by-set (λ o. occurrences n (numbers_of o)) rows k None None (omega (arith, inside.1)) in
    let split : uses rest n + occurrences n (row_of rows (suc k)) ≡ uses rows n = omega arith in
    let found = uses-found rest n (omega (arith, split, once, many)) in
    let differs : found.0 ≢ k = λ e. omega (arith, none-aside rows k found.0 n (omega (arith, inside.1)) e, found.1) in
    let there = occurs-found (row_of rows (suc found.0)) n (subst (λ (o : Option (List ℕ)). 0 < occurrences n (numbers_of o)) (get_or-set_other rows k found.0 None None differs) found.1) in
    record {
      number = n;
      mine = number-view rows words (suc k) index ∙ mine;
      other = suc found.0;
      differs = λ e. differs (omega (arith, e));
      place = there.0;
      theirs = number-view rows words (suc found.0) there.0 ∙ there.1;
    }

-- a page that is shared has more than one use
pub shared-counts : (rows : Rows) (words : ℕ → List ℕ) (s index n : ℕ) → slice_get (row_of rows s) index ≡ Some n → IsPageShared (memories_of rows words) s index → 1 < uses rows n
shared-counts rows words zero index n mine x = absurd (omega (arith, (page-within rows zero index n mine).0))
shared-counts rows words (suc k) index n mine x = by x.other x.differs (sym (number-view rows words x.other x.place) ∙ x.theirs ∙ sym x.mine ∙ number-view rows words (suc k) index ∙ mine) where
  by : (other : ℕ) → other ≢ suc k → slice_get (row_of rows other) x.place ≡ Some n → 1 < uses rows n
  by zero differs theirs = absurd (omega (arith, (page-within rows zero x.place n theirs).0))
  by (suc j) differs theirs =
      let inside = page-within rows (suc k) index n mine in
      let rest : Rows = set rows k None in
      let set_there : uses rest n + occurrences n (row_of rows (suc k)) ≡ uses rows n + 0 = sum_by-set (λ o. occurrences n (numbers_of o)) rows k None None (omega (arith, inside.1)) in
      let split : uses rest n + occurrences n (row_of rows (suc k)) ≡ uses rows n = omega arith in
      let theirs_too : slice_get (row_of rest (suc j)) x.place ≡ Some n = ap (λ (o : Option (List ℕ)). slice_get (numbers_of o) x.place) (get_or-set_other rows k j None None (λ e. differs (ap suc e))) ∙ theirs in
      omega (arith, split, uses-at rest (suc j) n, occurs (row_of rest (suc j)) x.place n theirs_too, occurs (row_of rows (suc k)) index n mine)

-- there are as many spaces as rows
pub many-rows : (rows : Rows) (words : ℕ → List ℕ) (now : Memories) → memories_of rows words ≡ now → length now ≡ length rows
many-rows rows words now view = ap length (sym view) ∙ length-map rows (option_map (map (numbered words)))

-- a row that is found in the same rows
pub found-in : (rows given : Rows) (space : ℕ) (row : List ℕ) → given ≡ rows → item_at_number_or None given space ≡ Some row → item_at_number_or None rows space ≡ Some row
found-in rows given space row same found = ap (λ (r : Rows). item_at_number_or None r space) (sym same) ∙ found

-- the row of a space that exists
pub is-there : (rows : Rows) (words : ℕ → List ℕ) (s : ℕ) (now : Memories) → memories_of rows words ≡ now → is_space_live now s ≡ true → is_some (item_at_number_or None rows s) ≡ true
is-there rows words s now view live = sym (live-view rows words s) ∙ ap (λ (m : Memories). is_space_live m s) view ∙ live

module _ (rows : Rows) (pages : Slab CountedPage) (row : List ℕ) (space : ℕ) (table : IsTable rows pages) (found : item_at_number_or None rows space ≡ Some row) where
  pub row-there : (n : ℕ) → occurrences n row ≤ count_of pages n
  row-there n = let a = table.counts n in let b : occurrences n row ≤ uses rows n = subst (λ (o : Option (List ℕ)). occurrences n (numbers_of o) ≤ uses rows n) found (uses-at rows space n) in omega arith

  row-is : (length row ≡ SPACE_PAGES) × ((n : ℕ) → occurrences n row ≤ 1)
  row-is = subst IsRow found (table.rows_are space)

  pub row-size : length row ≡ SPACE_PAGES
  row-size = row-is.0

  pub row-once : (n : ℕ) → occurrences n row ≤ 1
  row-once = row-is.1

-- either of two rows
pub row-by : (b : Bool) (x y : Option (List ℕ)) → IsRow x → IsRow y → IsRow (cond b x y)
row-by true x y here there = here
row-by false x y here there = there

-- no space has a page twice, so a page has at most one use by each space
pub few-uses : (rows : Rows) (n : ℕ) → ((s : ℕ) → IsRow (item_at_number_or None rows s)) → uses rows n ≤ length rows
few-uses [] n all = omega arith
few-uses (o ∷ rows) n all =
    omega (arith, sum_by-cons (λ o. occurrences n (numbers_of o)) o rows, once o (all 1), few-uses rows n (λ s. later s)) where
      once : (o : Option (List ℕ)) → IsRow o → occurrences n (numbers_of o) ≤ 1
      once None is = omega arith
      once (Some row) is = is.1 n

      later : (s : ℕ) → IsRow (item_at_number_or None rows s)
      later zero = tt
      later (suc k) = all (suc (suc k))

-- ---- the words of pages that are used

map-same : (words other : ℕ → List ℕ) (row : List ℕ) → ((n : ℕ) → 0 < occurrences n row → other n ≡ words n) → map (numbered other) row ≡ map (numbered words) row
map-same words other [] same = refl
map-same words other (m ∷ row) same =
    let more : (n : ℕ) → occurrences n (m ∷ row) ≡ one_if_same m n + occurrences n row = λ n. sum_by-cons (λ k. one_if_same k n) m row in
    let first : other m ≡ words m = same m (let one : one_if_same m m ≡ 1 = rw (eq-eqb m m refl) refl in omega (arith, more m, one)) in
    let rest = map-same words other row (λ n some. same n (omega (arith, more n, some))) in
    λ i. record { number = m; words = first i } ∷ rest i

pub entry-same : (words other : ℕ → List ℕ) (o : Option (List ℕ)) → ((n : ℕ) → 0 < occurrences n (numbers_of o) → other n ≡ words n) → option_map (map (numbered other)) o ≡ option_map (map (numbered words)) o
entry-same words other None same = refl
entry-same words other (Some row) same = ap Some (map-same words other row same)

-- the spaces depend on the words of pages that are used alone
pub view-same : (rows : Rows) (words other : ℕ → List ℕ) → ((n : ℕ) → 0 < uses rows n → other n ≡ words n) → memories_of rows other ≡ memories_of rows words
view-same [] words other same = refl
view-same (o ∷ rows) words other same =
    let more : (n : ℕ) → uses (o ∷ rows) n ≡ occurrences n (numbers_of o) + uses rows n = λ n. sum_by-cons (λ o. occurrences n (numbers_of o)) o rows in
    let first = entry-same words other o (λ n some. same n (omega (arith, more n, some))) in
    let rest = view-same rows words other (λ n some. same n (omega (arith, more n, some))) in
    λ i. first i ∷ rest i

-- a page can be counted for one more space
pub few-counts : (rows : Rows) (pages : Slab CountedPage) (row : List ℕ) → IsTable rows pages → length rows < 2 ^ 32 → ((n : ℕ) → occurrences n row ≤ 1) → (n : ℕ) → count_of pages n + occurrences n row < 2 ^ 64
few-counts rows pages row table few once n = let a = table.counts n in let b = few-uses rows n table.rows_are in let c = once n in omega arith
