-- The tokens before a label that was read, and that no text is read after a label which no argument has.
use Rattle.std.proofs.Common.{◌≡◌, ℕ, ◌≤◌, Bool, true, false, ◌&&◌, nat_eq, List, [], ◌∷◌, ◌++◌, Ok, refl, ap, sym, subst, ◌∙◌, append_assoc}
use Rattle.std.specs.Str.{bytes_eq}
use Rattle.std.specs.List.{list_any}
use Rattle.std.proofs.lemmas.List.{map-append}
use Rattle.std.proofs.lemmas.Bool.{or_parts, or_from}
use Rattle.st_grammar.proofs.Common.{BinaryPolicy, Colon, FilterName, filters_in, first_reading, GrammarState, is_label, may_test, may_test_label, MOST_FILTERS, OpenBracket, read_step, Reading, Symbol, symbol_of, Token, Word, word_index}
use Rattle.st_grammar.specs.declared.env.Env.{Env}
use Rattle.st_grammar.specs.declared.place.Place.{Place}
use Rattle.st_calls.specs.declared.argument.ArgSpec.{ArgSpec}
use Rattle.st_calls.specs.Argument.{args_of, name_of_label}
use Rattle.st_grammar.specs.declared.place.Place.TheVariants as place
use Rattle.st_filter.specs.declared.filter.FilterName.TheVariants as name
use Rattle.st_fault_laws.specs.FirstFault.{symbols_at}
use Rattle.st_grammar.proofs.Complete.{AtRows, placed, is_below}
use Rattle.st_grammar.proofs.FilterRows.{row_place}
use Rattle.st_grammar.proofs.Fronts.{Facts, by-some}
use Rattle.st_fault_laws.proofs.LabelPlaces.{Labelled, LastRead, last-read}
use Rattle.st_fault_laws.proofs.PlacesReported.{unless, fault-follows}
use Rattle.st_grammar.proofs.Readings.{read_over, reading_at, At, stands}
use Rattle.st_grammar.proofs.Sound.{IsFault, Stands}
use Rattle.st_fault_laws.proofs.WaysOn.{anywhere, stands-following}

-- ---- last symbols

same-last : (xs ys : List Symbol) (x y : Symbol) → xs ++ x ∷ [] ≡ ys ++ y ∷ [] → (xs ≡ ys) × (x ≡ y)
same-last [] [] x y e = (refl, cc)
same-last [] (b ∷ []) x y e = absurd (cc)
same-last [] (b ∷ c ∷ ys) x y e = absurd (cc)
same-last (a ∷ []) [] x y e = absurd (cc)
same-last (a ∷ c ∷ xs) [] x y e = absurd (cc)
same-last (a ∷ xs) (b ∷ ys) x y e =
    let rest : xs ++ x ∷ [] ≡ ys ++ y ∷ [] = cc in
    let first : a ≡ b = cc in
    let i = same-last xs ys x y rest in
    (ap (λ (ts : List Symbol). a ∷ ts) i.0 ∙ ap (λ (s : Symbol). s ∷ ys) first, i.1)

-- ---- a label, and a label with its bracket

-- the current label is the last token, and an operand may occur at its place
pub record LabelAt (text : List ℕ) (env : Env) (old : List BinaryPolicy) (before : List Token) (r : Reading) : Type 0 where
  pub front : List Token
  pub label : Token
  pub parts : before ≡ front ++ label ∷ []
  pub symbol_is : symbol_of text label ≡ Word r.walk.label
  pub labels : is_label r.walk.label ≡ true
  pub at_is : r.walk.label_at ≡ label.at
  pub rows : List Symbol
  pub us : List Symbol
  pub front_is : symbols_at text front ≡ rows ++ us
  pub facts : Facts env old rows us place.Operand r.walk r.set

-- the same with a bracket after the label
pub record BracketAt (text : List ℕ) (env : Env) (old : List BinaryPolicy) (before : List Token) (r : Reading) : Type 0 where
  pub front : List Token
  pub bracket : Token
  pub parts : before ≡ front ++ bracket ∷ []
  pub bracket_is : symbol_of text bracket ≡ OpenBracket
  pub reading : Reading
  pub read : read_over env (first_reading old) (placed text front) ≡ Ok reading
  pub place_is : reading.walk.place ≡ place.Label
  pub label : LabelAt text env old front reading
  pub label_is : r.walk.label ≡ reading.walk.label
  pub at_is : r.walk.label_at ≡ reading.walk.label_at
  pub name_is : r.walk.name ≡ reading.walk.name

module _ (text : List ℕ) (env : Env) (old : List BinaryPolicy) (few : filters_in old ≤ MOST_FILTERS) where
  pub label-at : (before : List Token) (r : Reading) → read_over env (first_reading old) (placed text before) ≡ Ok r → r.walk.place ≡ place.Label → LabelAt text env old before r
  label-at before r read e =
      let l : LastRead text env old before r = last-read text env old before r (λ (s : r.walk.place ≡ place.Start). let two : place.Label ≡ place.Start = sym e ∙ s in absurd (cc)) read in
      let h : Stands env old (symbols_at text before) r = stands-following text env old before r few read in
      let f : Facts env old h.rows h.front place.Label r.walk r.set = subst (λ (p : Place). Facts env old h.rows h.front p r.walk r.set) e h.facts in
      let t = f.1.rest in
      let us : List Symbol = Word f.1.spelled ∷ Colon ∷ t.front in
      let spelled : h.rows ++ h.front ≡ (h.rows ++ us) ++ Word r.walk.label ∷ [] =
      ap (λ (ts : List Symbol). h.rows ++ ts) (f.1.front_is ∙ ap (λ (ts : List Symbol). Word f.1.spelled ∷ Colon ∷ ts) (t.parts ∙ ap (λ (ts : List Symbol). t.front ++ ts) t.rest.rest.begun_is)) ∙ sym (append_assoc h.rows us (Word r.walk.label ∷ [])) in
      let cut : symbols_at text before ≡ symbols_at text l.front ++ symbol_of text l.last ∷ [] = ap (symbols_at text) l.parts ∙ map-append (symbol_of text) l.front (l.last ∷ []) in
      let same = same-last (symbols_at text l.front) (h.rows ++ us) (symbol_of text l.last) (Word r.walk.label) (sym cut ∙ h.parts ∙ spelled) in
      record {
        front = l.front;
        label = l.last;
        parts = l.parts;
        symbol_is = same.1;
        labels = t.rest.rest.labels;
        at_is = subst (Labelled l.reading.walk l.last.at r.walk) e l.labelled;
        rows = h.rows;
        us = us;
        front_is = same.0;
        facts = (f.0, record { following = f.1.following; filters_are = f.1.filters_are; few = f.1.few; spelled = f.1.spelled; us = t.front; front_is = refl; name_is = f.1.name_is; rest = t.first });
      }

  pub bracket-at : (before : List Token) (r : Reading) → read_over env (first_reading old) (placed text before) ≡ Ok r → r.walk.place ≡ place.Index → BracketAt text env old before r
  bracket-at before r read e =
      let l : LastRead text env old before r = last-read text env old before r (λ (s : r.walk.place ≡ place.Start). let two : place.Index ≡ place.Start = sym e ∙ s in absurd (cc)) read in
      let h : Stands env old (symbols_at text before) r = stands-following text env old before r few read in
      let f : Facts env old h.rows h.front place.Index r.walk r.set = subst (λ (p : Place). Facts env old h.rows h.front p r.walk r.set) e h.facts in
      let t = f.1.rest in
      let us : List Symbol = Word f.1.spelled ∷ Colon ∷ (t.front ++ Word r.walk.label ∷ []) in
      let spelled : h.rows ++ h.front ≡ (h.rows ++ us) ++ OpenBracket ∷ [] =
      ap (λ (ts : List Symbol). h.rows ++ ts) (f.1.front_is ∙ ap (λ (ts : List Symbol). Word f.1.spelled ∷ Colon ∷ ts) (t.parts ∙ ap (λ (ts : List Symbol). t.front ++ ts) t.rest.rest.begun_is ∙ sym (append_assoc t.front (Word r.walk.label ∷ []) (OpenBracket ∷ [])))) ∙ sym (append_assoc h.rows us (OpenBracket ∷ [])) in
      let cut : symbols_at text before ≡ symbols_at text l.front ++ symbol_of text l.last ∷ [] = ap (symbols_at text) l.parts ∙ map-append (symbol_of text) l.front (l.last ∷ []) in
      let same = same-last (symbols_at text l.front) (h.rows ++ us) (symbol_of text l.last) OpenBracket (sym cut ∙ h.parts ∙ spelled) in
      let from : Labelled l.reading.walk l.last.at r.walk place.Index = subst (Labelled l.reading.walk l.last.at r.walk) e l.labelled in
      record {
        front = l.front;
        bracket = l.last;
        parts = l.parts;
        bracket_is = same.1;
        reading = l.reading;
        read = l.read;
        place_is = from.0;
        label = label-at l.front l.reading l.read from.0;
        label_is = from.2;
        at_is = from.1;
        name_is = from.3;
      }

-- ---- labels of no argument

none-both : (word : List ℕ) (index : ℕ) (specs : List ArgSpec) → list_any (λ spec. bytes_eq (name_of_label spec.label) word) specs ≡ false → list_any (λ spec. bytes_eq (name_of_label spec.label) word && nat_eq spec.index index) specs ≡ false
none-both word index [] e = refl
none-both word index (spec ∷ specs) e =
    let o = or_parts (bytes_eq (name_of_label spec.label) word) (list_any (λ spec. bytes_eq (name_of_label spec.label) word) specs) e in
    or_from (bytes_eq (name_of_label spec.label) word && nat_eq spec.index index) _ (ap (λ (b : Bool). b && nat_eq spec.index index) o.0) (none-both word index specs o.1)

-- no argument has the label, whatever the index
pub label-none : (n : FilterName) (label : List ℕ) (index : ℕ) → may_test_label n label ≡ false → may_test n label index ≡ false
label-none (name.Rule rule) label index e = none-both label index (args_of rule) e
label-none (name.Other word) label index e = absurd (cc)

row-place : (p : Place) (set : List BinaryPolicy) (H : GrammarState → Type 0) (r : Reading) → At p set H r → r.walk.place ≡ p
row-place p set H r (stands w h) = refl

not-rows : (old ps : List BinaryPolicy) (r : Reading) → AtRows old ps r → (r.walk.place ≡ place.Label → ⊥) × (r.walk.place ≡ place.Index → ⊥)
not-rows old ps r h = by (is_below ps) (row-place (row_place (is_below ps)) _ _ r h) where
  by : (b : Bool) → r.walk.place ≡ row_place b → (r.walk.place ≡ place.Label → ⊥) × (r.walk.place ≡ place.Index → ⊥)
  by true e = ((λ f. let two : place.Row ≡ place.Label = sym e ∙ f in absurd (cc)), (λ f. let two : place.Row ≡ place.Index = sym e ∙ f in absurd (cc)))
  by false e = ((λ f. let two : place.Start ≡ place.Label = sym e ∙ f in absurd (cc)), (λ f. let two : place.Start ≡ place.Index = sym e ∙ f in absurd (cc)))

module _ (env : Env) (w : GrammarState) (set : List BinaryPolicy) (none : may_test_label w.name w.label ≡ false) where
  index-fails : (s : Symbol) (at : ℕ) → IsFault (read_step env (reading_at place.Index w set) at s)
  index-fails s at = by-some (word_index s) (λ index e. let not = label-none w.name w.label index none in rw (e, not) tt) (λ e. rw e tt)

  index-ends : (more : List Symbol) (q : Reading) → (q.walk.place ≡ place.Index → ⊥) → read_over env (reading_at place.Index w set) (anywhere more) ≡ Ok q → ⊥
  index-ends [] q other e = let same : reading_at place.Index w set ≡ q = cc in other (sym (ap (λ (q : Reading). q.walk.place) same))
  index-ends (s ∷ more) q other e = unless ⊥ _ q e (fault-follows (λ r. read_over env r (anywhere more)) _ (index-fails s 0))

  -- no symbols after such a label lead to the end of a row
  pub label-ends : (ps old : List BinaryPolicy) (more : List Symbol) (q : Reading) → AtRows old ps q → read_over env (reading_at place.Label w set) (anywhere more) ≡ Ok q → ⊥
  label-ends ps old [] q rows e = let same : reading_at place.Label w set ≡ q = cc in (not-rows old ps q rows).0 (sym (ap (λ (q : Reading). q.walk.place) same))
  label-ends ps old (OpenBracket ∷ more) q rows e = index-ends more q (not-rows old ps q rows).1 e
  label-ends ps old (Word word ∷ more) q rows e = let not = label-none w.name w.label 0 none in unless ⊥ _ q e (rw not tt)
  label-ends ps old (s ∷ more) q rows e = unless ⊥ _ q e tt
