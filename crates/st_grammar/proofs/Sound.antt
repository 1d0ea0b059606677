-- Soundness: a text is read as the grammar says.
use Rattle.std.proofs.Common.{◌≡◌, ℕ, ◌+◌, ◌≤◌, Bool, true, false, List, [], ◌∷◌, ◌++◌, length, map, Option, None, Some, Ok, Err, refl, ap, sym, subst, ◌∙◌, arith, append_assoc, append-nil}
use Rattle.st_grammar.proofs.Common.{add_filter, AreRows, BinaryPolicy, Blank, Broken, Env, filter_of, FilterRow, filters_in, FilterValue, first_reading, fresh, GrammarState, Header, IsFilter, lexed_text, LexFault, Line, MOST_FILTERS, NoRow, or_refused, Place, read_from, read_step, Reading, reading_of, Reads, Refusable, Symbol, symbol_of, symbols_in, Token, unless_lexical, with_filter}
use Rattle.st_grammar.specs.declared.place.Place.TheVariants as place
use Rattle.st_grammar.proofs.Texts.{result_after}
use Rattle.st_grammar.proofs.Readings.{Read, reading_at}
use Rattle.st_grammar.proofs.Fronts.{RowFront, After, BelowHeader, Facts, HasFacts}
use Rattle.st_grammar.proofs.Kept.{below-row, denial-tails, user-tails, tail-filter, predicate-filter, line-keeps}
use Rattle.st_grammar.proofs.Policies.{add-last, filters-with, fresh_policy, new-with}

-- ---- ends of rows

-- a row that a Line ended
pub record RowEnded (env : Env) (old : List BinaryPolicy) (rows : List Symbol) (r : Reading) : Type 0 where
  pub rowed : RowFront env old rows [] [] r.walk.filters r.set
  pub facts : Facts env old rows [] r.walk.place r.walk r.set

abbrev pub LineHolds : Env → List BinaryPolicy → List Symbol → Read → Type 0
LineHolds env old rows (Ok r) = RowEnded env old rows r
LineHolds env old rows (Err fault) = Unit {0}

module _ (env : Env) (old : List BinaryPolicy) (rows front : List Symbol) (w : GrammarState) (set : List BinaryPolicy) where
  -- a blank line
  blanks : {ps : List BinaryPolicy} → front ≡ [] → AreRows env rows ps → AreRows env ((rows ++ front) ++ Line ∷ []) ps
  blanks {ps} e h = rw (e, append-nil rows) (Blank rows ps h)

  below-ended : (v : GrammarState) (set : List BinaryPolicy) → v.filters ≡ filters_in set → v.filters ≤ MOST_FILTERS → After env old ((rows ++ front) ++ Line ∷ []) set → RowEnded env old ((rows ++ front) ++ Line ∷ []) (reading_at place.Row v set)
  below-ended v set sum few following =
      let h : BelowHeader env old ((rows ++ front) ++ Line ∷ []) [] v.filters set = record { front_is = refl; following = following; filters_are = sum; few = few } in
      record { rowed = below-row env old ((rows ++ front) ++ Line ∷ []) [] v set 0 h; facts = h }

  filter-ended : After env old rows set → w.filters ≡ filters_in set + 1 → w.filters ≤ MOST_FILTERS → IsFilter env front (filter_of w) → RowEnded env old ((rows ++ front) ++ Line ∷ []) (reading_at place.Row (fresh place.Row w.filters w.name) (add_filter set (filter_of w)))
  filter-ended b sum few is =
      let f : FilterValue = filter_of w in
      let xs : List BinaryPolicy = old ++ b.before in
      let added : add_filter set f ≡ xs ++ with_filter b.last f ∷ [] = ap (λ (ps : List BinaryPolicy). add_filter ps f) b.set_is ∙ add-last xs b.last f in
      below-ended (fresh place.Row w.filters w.name) (add_filter set f)
      (sum ∙ ap (λ (ps : List BinaryPolicy). filters_in ps + 1) b.set_is ∙ sym (filters-with xs b.last f) ∙ ap filters_in (sym added)) few
      (record { before = b.before; last = with_filter b.last f; are_rows = FilterRow rows front b.before b.last f b.are_rows is; set_is = added; new = new-with old b.before b.last f b.new })

  tail-ended : (grant log : Bool) → Facts env old rows front (place.Tail grant log) w set → RowEnded env old ((rows ++ front) ++ Line ∷ []) (reading_at place.Row (fresh place.Row w.filters w.name) (add_filter set (filter_of w)))
  tail-ended grant log h = filter-ended h.following h.filters_are h.few (tail-filter env old rows front w set 0 grant log h)

  pub line-is_sound : (p : Place) (at : ℕ) → Facts env old rows front p w set → LineHolds env old ((rows ++ front) ++ Line ∷ []) (read_step env (reading_at p w set) at Line)
  line-is_sound place.Start at h =
      let rowed : RowFront env old ((rows ++ front) ++ Line ∷ []) [] [] w.filters set = record { front_is = refl; policies = h.policies; are_rows = blanks h.front_is h.are_rows; set_is = h.set_is; new = h.new; filters_are = h.filters_are; few = h.few } in
      record { rowed = rowed; facts = rowed }
  line-is_sound place.Row at h = below-ended w set h.filters_are h.few (record { before = h.following.before; last = h.following.last; are_rows = blanks h.front_is h.following.are_rows; set_is = h.following.set_is; new = h.following.new })
  line-is_sound place.HeaderEnd at h = below-ended w set h.filters_are h.few (record {
    before = h.policies;
    last = fresh_policy h.binary;
    are_rows = Header rows front h.policies h.binary h.are_rows (record { spelled = h.spelled; parts = h.front_is; binary_is = h.binary_is });
    set_is = h.set_is;
    new = h.new;
  })
  line-is_sound place.Denial at h = tail-ended false true (denial-tails env old rows front w set at h)
  line-is_sound (place.Tail grant log) at h = tail-ended grant log h
  line-is_sound (place.User log) at h = tail-ended false log (user-tails env old rows front w set at log h)
  line-is_sound place.FilterEnd at h = filter-ended h.following h.filters_are h.few (predicate-filter env old rows front w set at h)
  line-is_sound p at h = tt

-- ---- texts

-- what the symbols read so far spell
pub record Stands (env : Env) (old : List BinaryPolicy) (done : List Symbol) (r : Reading) : Type 0 where
  pub rows : List Symbol
  pub front : List Symbol
  pub parts : done ≡ rows ++ front
  pub facts : Facts env old rows front r.walk.place r.walk r.set

abbrev pub StandsAfter : Env → List BinaryPolicy → List Symbol → Read → Type 0
StandsAfter env old done (Ok r) = Stands env old done r
StandsAfter env old done (Err fault) = Unit {0}

by-holds : (env : Env) (old : List BinaryPolicy) (rows front done : List Symbol) (s : Symbol) → done ≡ rows ++ front → (x : Read) → HasFacts env old rows (front ++ s ∷ []) x → StandsAfter env old (done ++ s ∷ []) x
by-holds env old rows front done s e (Ok r) h = record { rows = rows; front = front ++ s ∷ []; parts = ap (λ (ts : List Symbol). ts ++ s ∷ []) e ∙ append_assoc rows front (s ∷ []); facts = h }
by-holds env old rows front done s e (Err fault) h = tt

by-line : (env : Env) (old : List BinaryPolicy) (rows front done : List Symbol) → done ≡ rows ++ front → (x : Read) → LineHolds env old ((rows ++ front) ++ Line ∷ []) x → StandsAfter env old (done ++ Line ∷ []) x
by-line env old rows front done e (Ok r) h = record { rows = (rows ++ front) ++ Line ∷ []; front = []; parts = ap (λ (ts : List Symbol). ts ++ Line ∷ []) e ∙ sym (append-nil ((rows ++ front) ++ Line ∷ [])); facts = h.facts }
by-line env old rows front done e (Err fault) h = tt

pub stands-step : (env : Env) (old : List BinaryPolicy) (done : List Symbol) (r : Reading) (at : ℕ) (s : Symbol) → Stands env old done r → StandsAfter env old (done ++ s ∷ []) (read_step env r at s)
stands-step env old done r at Line h = by-line env old h.rows h.front done h.parts (read_step env r at Line) (line-is_sound env old h.rows h.front r.walk r.set r.walk.place at h.facts)
stands-step env old done r at s h = by-holds env old h.rows h.front done s h.parts (read_step env r at s) (line-keeps env old h.rows h.front r.walk r.set at r.walk.place s refl h.facts)

line-step : (env : Env) (old : List BinaryPolicy) (done : List Symbol) (r : Reading) (at : ℕ) → Stands env old done r → LineHolds env old (done ++ Line ∷ []) (read_step env r at Line)
line-step env old done r at h = subst (λ (ts : List Symbol). LineHolds env old (ts ++ Line ∷ []) (read_step env r at Line)) (sym h.parts) (line-is_sound env old h.rows h.front r.walk r.set r.walk.place at h.facts)

-- after a whole text its last row has ended
abbrev pub Sounds : Env → List BinaryPolicy → List Symbol → Refusable → Type 0
Sounds env old rows (Ok r) = RowEnded env old rows r
Sounds env old rows (Err refusal) = Unit {0}

module _ (env : Env) (text : List ℕ) (old : List BinaryPolicy) where
  end-sounds : (r : Reading) (rows : List Symbol) (x : Read) → LineHolds env old rows x → Sounds env old rows (or_refused r x)
  end-sounds r rows (Ok r') h = h
  end-sounds r rows (Err fault) h = tt

  sound-from : (ts : List Token) (done : List Symbol) (r : Reading) → Stands env old done r → Sounds env old ((done ++ map (symbol_of text) ts) ++ Line ∷ []) (read_from env text None r ts)
  sound-from [] done r h = subst (λ (us : List Symbol). Sounds env old (us ++ Line ∷ []) (read_from env text None r [])) (sym (append-nil done)) (end-sounds r (done ++ Line ∷ []) (read_step env r (length text) Line) (line-step env old done r (length text) h))
  sound-from (t ∷ ts) done r h = by (sound-from ts (done ++ symbol_of text t ∷ [])) (read_step env r t.at (symbol_of text t)) (stands-step env old done r t.at (symbol_of text t) h) where
    us : List Symbol
    us = map (symbol_of text) ts

    by : ((r : Reading) → Stands env old (done ++ symbol_of text t ∷ []) r → Sounds env old (((done ++ symbol_of text t ∷ []) ++ us) ++ Line ∷ []) (read_from env text None r ts)) → (x : Read) → StandsAfter env old (done ++ symbol_of text t ∷ []) x →
        Sounds env old ((done ++ symbol_of text t ∷ us) ++ Line ∷ []) (result_after env text None r ts x)
    by ih (Err fault) h = tt
    by ih (Ok r') h = subst (λ (us : List Symbol). Sounds env old (us ++ Line ∷ []) (read_from env text None r' ts)) (append_assoc done (symbol_of text t ∷ []) us) (ih r' h)

  pub first-stands : filters_in old ≤ MOST_FILTERS → Stands env old [] (first_reading old)
  first-stands few = record {
    rows = [];
    front = [];
    parts = refl;
    facts = record { front_is = refl; policies = []; are_rows = NoRow; set_is = sym (append-nil old); new = tt; filters_are = refl; few = few };
  }

-- ---- bytes that form no token are never accepted

abbrev pub IsFault : Read → Type 0
IsFault (Ok r) = ⊥
IsFault (Err fault) = Unit {0}

pub broken-step : (env : Env) (p : Place) (w : GrammarState) (set : List BinaryPolicy) (at : ℕ) → IsFault (read_step env (reading_at p w set) at Broken)
broken-step env place.Label w set at = tt
broken-step env p w set at = tt

broken-end : (fault : LexFault) (r q : Reading) (x : Read) → IsFault x → or_refused r (unless_lexical fault x) ≡ Ok q → ⊥
broken-end fault r q (Ok r') h e = h
broken-end fault r q (Err found) h e = cc

broken-from : (env : Env) (text : List ℕ) (fault : LexFault) (ts : List Token) (r q : Reading) → read_from env text (Some fault) r ts ≡ Ok q → ⊥
broken-from env text fault [] r q e = broken-end fault r q (read_step env r (length text) Broken) (broken-step env r.walk.place r.walk r.set (length text)) e
broken-from env text fault (t ∷ ts) r q e = by (λ r. broken-from env text fault ts r q) (read_step env r t.at (symbol_of text t)) e where
  by : ((r : Reading) → read_from env text (Some fault) r ts ≡ Ok q → ⊥) → (x : Read) → result_after env text (Some fault) r ts x ≡ Ok q → ⊥
  by ih (Ok r') e = ih r' e
  by ih (Err found) e = cc

-- ---- soundness

sound-by : (text : List ℕ) (env : Env) (old : List BinaryPolicy) (r : Reading) (broken : Option LexFault) → (lexed_text text).fault ≡ broken → filters_in old ≤ MOST_FILTERS → read_from env text broken (first_reading old) (lexed_text text).tokens ≡ Ok r → Reads text env old r.set
sound-by text env old r (Some fault) w few e = absurd (broken-from env text fault (lexed_text text).tokens (first_reading old) r e)
sound-by text env old r None w few e =
    let h : RowEnded env old (symbols_in text ++ Line ∷ []) r = subst (Sounds env old (symbols_in text ++ Line ∷ [])) e (sound-from env text old (lexed_text text).tokens [] (first_reading old) (first-stands env text old few)) in
    record {
      whole = w;
      policies = h.rowed.policies;
      rows = h.rowed.are_rows;
      set_is = h.rowed.set_is;
      new = h.rowed.new;
      few = omega (arith, h.rowed.filters_are, h.rowed.few);
    }

-- a text is read as the grammar says
pub reading-is_sound : (text : List ℕ) (env : Env) (old : List BinaryPolicy) (r : Reading) → filters_in old ≤ MOST_FILTERS → reading_of text env old ≡ Ok r → Reads text env old r.set
reading-is_sound text env old r few e = sound-by text env old r (lexed_text text).fault refl few e
