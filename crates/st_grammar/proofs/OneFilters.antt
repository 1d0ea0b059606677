-- One filter alone is read as in a file, after a header.
use Rattle.std.proofs.Common.{◌≡◌, ℕ, Bool, true, false, ◌&&◌, if◌then◌else◌, List, [], ◌∷◌, ◌++◌, length, map, Option, None, Some, Ok, Err, codes, refl, ap, sym, subst, ◌∙◌, arith, append_assoc, append-nil}
use Rattle.st_emulation.specs.Words.{word_of}
use Rattle.st_grammar.proofs.Common.{add_filter, as_reading, binaries, BinaryPolicy, Broken, Colon, Comma, ends_filter, Env, filter_in, filter_name, filter_of, FilterName, FilterValue, fresh, GrammarState, Header, is_binary_place, is_line_symbol, IsFilter, lexed_text, LexFault, Line, next, NoRow, Place, read_step, Reading, reading_after, reading_step, step, step_name, step_to, StepResult, Symbol, symbol_of, taken, Token, Word}
use Rattle.st_filter.specs.declared.filter.FilterName.TheVariants as name
use Rattle.st_grammar.specs.declared.place.Place.TheVariants as place
use Rattle.st_grammar.specs.OneFilter.{IsOneRow, ReadsFilter, ToALine, ToTheEnd, after_filter, filter_from, begin_filter, filter_of_tokens, if_broken, if_ended}
use Rattle.st_grammar.proofs.Clauses.{line-symbol}
use Rattle.st_grammar.proofs.Fronts.{After, Facts, HasFacts, by-test}
use Rattle.st_grammar.proofs.Keywords.{policy-no-name}
use Rattle.st_grammar.proofs.Kept.{denial-tails, user-tails, predicate-filter, tail-filter, line-keeps}
use Rattle.st_grammar.proofs.Policies.{fresh_policy}

-- ---- a header before it

abbrev pub rows_before : Env → List Symbol
rows_before env = Word (codes "Policy") ∷ Colon ∷ Word (codes "/") ∷ Comma ∷ Word (codes "Emulation") ∷ Colon ∷ Word (word_of env.emulation) ∷ Line ∷ []

-- the policy of that header
abbrev pub one_policy : List BinaryPolicy
one_policy = fresh_policy (codes "/") ∷ []

header_after : (env : Env) → After env [] (rows_before env) one_policy
header_after env = record {
  before = [];
  last = fresh_policy (codes "/");
  are_rows = Header [] (Word (codes "Policy") ∷ Colon ∷ Word (codes "/") ∷ Comma ∷ Word (codes "Emulation") ∷ Colon ∷ Word (word_of env.emulation) ∷ []) [] (codes "/") NoRow (record { spelled = Word (codes "/"); parts = refl; binary_is = refl });
  set_is = refl;
  new = (refl, tt);
}

-- ---- symbols of a filter

-- the symbols so far begin with a filter's name
pub record IsNamed (env : Env) (front : List Symbol) : Type 0 where
  pub word : List ℕ
  pub name : FilterName
  pub more : List Symbol
  pub front_is : front ≡ Word word ∷ more
  pub name_is : filter_name word env.emulation ≡ Some name

pub named-more : {env : Env} (front : List Symbol) (s : Symbol) → IsNamed env front → IsNamed env (front ++ s ∷ [])
named-more front s h = record { word = h.word; name = h.name; more = h.more ++ s ∷ []; front_is = ap (λ (ts : List Symbol). ts ++ s ∷ []) h.front_is; name_is = h.name_is }

pub named-some : {env : Env} (front : List Symbol) → IsNamed env front → front ≡ [] → ⊥
named-some front h e = let f : front ≡ Word h.word ∷ h.more = h.front_is in cc

pub named-not : {env : Env} (front more : List Symbol) → IsNamed env front → front ≡ Word (codes "Policy") ∷ more → ⊥
named-not {env} front more h e =
    let f : front ≡ Word h.word ∷ h.more = h.front_is in
    let same : h.word ≡ codes "Policy" = cc in
    let some : filter_name (codes "Policy") env.emulation ≡ Some h.name = ap (λ (word : List ℕ). filter_name word env.emulation) (sym same) ∙ h.name_is in
    let none : filter_name (codes "Policy") env.emulation ≡ None = policy-no-name env.emulation in
    cc

module _ (env : Env) (rows front : List Symbol) (w : GrammarState) (set : List BinaryPolicy) (named : IsNamed env front) where
  -- no place in a filter is that of a binary
  pub no-binary : (p : Place) → Facts env [] rows front p w set → is_binary_place p ≡ false
  no-binary place.Binary h = absurd (named-not front (Colon ∷ []) named h.front_is)
  no-binary _ h = refl

  -- where a Line may occur, a whole filter has been spelled
  pub spelled : (at : ℕ) (known : List (List ℕ)) (v : GrammarState) (p : Place) → Facts env [] rows front p w set → step env known w at Line p ≡ Ok v → IsFilter env front (filter_of v)
  spelled at known v p h e = by p h e where
    so : IsFilter env front (filter_of w) → step_to w place.Row ≡ Ok v → IsFilter env front (filter_of v)
    so is e = let same : record w { place = place.Row } ≡ v = cc in subst (λ (v : GrammarState). IsFilter env front (filter_of v)) same is

    by : (p : Place) → Facts env [] rows front p w set → step env known w at Line p ≡ Ok v → IsFilter env front (filter_of v)
    by place.Start h e = absurd (named-some front named h.front_is)
    by place.Row h e = absurd (named-some front named h.front_is)
    by place.HeaderEnd h e = absurd (named-not front _ named h.front_is)
    by place.Denial h e = so (tail-filter env [] rows front w set at false true (denial-tails env [] rows front w set at h)) e
    by (place.Tail grant log) h e = so (tail-filter env [] rows front w set at grant log h) e
    by (place.User log) h e = so (tail-filter env [] rows front w set at false log (user-tails env [] rows front w set at log h)) e
    by place.FilterEnd h e = so (predicate-filter env [] rows front w set at h) e
    by _ h e = absurd (cc)

-- symbols that begin with a filter's name spell what this state has read
pub record Spelled (env : Env) (front : List Symbol) (w : GrammarState) : Type 0 where
  pub named : IsNamed env front
  pub facts : Facts env [] (rows_before env) front w.place w one_policy

-- some symbols spell what this state has read
pub record InFilter (env : Env) (w : GrammarState) : Type 0 where
  pub front : List Symbol
  pub spelled : Spelled env front w

pub stands_elsewhere : (env : Env) (w : GrammarState) → InFilter env w → is_binary_place w.place ≡ false
stands_elsewhere env w i = no-binary env (rows_before env) i.front w one_policy i.spelled.named w.place i.spelled.facts

-- ---- a name begins one

begun : (env : Env) (at : ℕ) (word : List ℕ) (w : GrammarState) (o : Option FilterName) → filter_name word env.emulation ≡ o → step_name env (fresh place.Start 0 (name.Other [])) at word ≡ Ok w → Spelled env (Word word ∷ []) w
begun env at word w None e q = let none = rw e at q in absurd (cc)
begun env at word w (Some known) e q =
    let is = rw e at q in
    let same : fresh place.NameColon 1 known ≡ w = cc in
    subst (λ w. Spelled env (Word word ∷ []) w) same (record {
      named = record { word = word; name = known; more = []; front_is = refl; name_is = e };
      facts = record { following = header_after env; filters_are = refl; few = omega arith; spelled = word; front_is = refl; name_is = e; first = refl };
    })

pub begins : (env : Env) (at : ℕ) (s : Symbol) (w : GrammarState) → begin_filter env at s ≡ Ok w → Spelled env (s ∷ []) w
begins env at (Word word) w e = begun env at word w (filter_name word env.emulation) refl e
begins env at s w e = absurd (cc)

-- ---- a symbol inside one

inside : (b c : Bool) (x y : Reading) → c ≡ false → (if b && c then x else y) ≡ y
inside true c x y e = rw e refl
inside false c x y e = refl

-- a symbol inside a row leaves the policies as they are
pub after-same : (env : Env) (p : Place) (s : Symbol) (set : List BinaryPolicy) (w : GrammarState) → is_binary_place p ≡ false → is_line_symbol s ≡ false → reading_after env p s set w ≡ as_reading w set
after-same env place.Binary s set w h e = absurd (cc)
after-same env p s set w h e = inside (ends_filter p) (is_line_symbol s) (as_reading (taken w) (add_filter set (filter_of w))) (as_reading w set) e

pub goes_on : (env : Env) (front : List Symbol) (w w' : GrammarState) (at : ℕ) (s : Symbol) → is_line_symbol s ≡ false → next env (binaries one_policy) w at s ≡ Ok w' → Spelled env front w → Spelled env (front ++ s ∷ []) w'
goes_on env front w w' at s line e h =
    let elsewhere : is_binary_place w.place ≡ false = no-binary env (rows_before env) front w one_policy h.named w.place h.facts in
    let step : read_step env (as_reading w one_policy) at s ≡ Ok (as_reading w' one_policy) = ap (reading_step env (as_reading w one_policy) s) e ∙ ap Ok (after-same env w.place s one_policy w' elsewhere line) in
    record { named = named-more front s h.named; facts = subst (HasFacts env [] (rows_before env) (front ++ s ∷ [])) step (line-keeps env [] (rows_before env) front w one_policy at w.place s line h.facts) }

pub token_stands : (env : Env) (text : List ℕ) (broken : Option LexFault) (t : Token) (ts : List Token) (w w' : GrammarState) → ((known : List (List ℕ)) → next env known w t.at (symbol_of text t) ≡ Ok w') → is_line_symbol (symbol_of text t) ≡ false → InFilter env w →
    (filter_from env text broken w (t ∷ ts) ≡ filter_from env text broken w' ts) × InFilter env w'
token_stands env text broken t ts w w' e line i =
    let here = e [] in
    (rw (here, filter_from, line) refl, record { front = i.front ++ symbol_of text t ∷ []; spelled = goes_on env i.front w w' t.at (symbol_of text t) line (e (binaries one_policy)) i.spelled })

-- ---- what is read is a filter

next_same : (env : Env) (known : List (List ℕ)) (w : GrammarState) (at : ℕ) (s : Symbol) (p : Place) → is_binary_place p ≡ false → step env known w at s p ≡ step env [] w at s p
next_same env known w at s place.Binary e = absurd (cc)
next_same env known w at s _ e = refl

-- symbols complete the symbols before them to a whole filter
record IsWhole (env : Env) (broken : Option LexFault) (front symbols : List Symbol) (f : FilterValue) : Type 0 where
  pub whole : broken ≡ None
  pub row : List Symbol
  pub one_row : IsOneRow row (front ++ symbols)
  pub is : IsFilter env row f

ended : (env : Env) (front : List Symbol) (w : GrammarState) (at : ℕ) (f : FilterValue) → Spelled env front w → (r : StepResult) → next env [] w at Line ≡ r → if_ended r ≡ Ok f → IsFilter env front f
ended env front w at f h (Ok v) e is =
    let same : filter_of v ≡ f = cc in
    subst (IsFilter env front) same (spelled env (rows_before env) front w one_policy h.named at [] v w.place h.facts e)
ended env front w at f h (Err fault) e is = absurd (cc)

no_end : (fault : LexFault) (r : StepResult) (f : FilterValue) → if_broken fault r ≡ Ok f → ⊥
no_end fault (Ok w) f e = cc
no_end fault (Err found) f e = cc

line_ends : (env : Env) (text : List ℕ) (broken : Option LexFault) (front : List Symbol) (w v : GrammarState) (at : ℕ) (s : Symbol) (ts : List Token) (f : FilterValue) → Spelled env front w → s ≡ Line → next env [] w at s ≡ Ok v → after_filter broken (filter_of v) ts ≡ Ok f →
    IsWhole env broken front (s ∷ map (symbol_of text) ts) f
line_ends env text broken front w v at s (t ∷ ts) f h line e is = absurd (cc)
line_ends env text (Some fault) front w v at s [] f h line e is = absurd (cc)
line_ends env text None front w v at s [] f h line e is =
    let here : next env [] w at Line ≡ Ok v = ap (next env [] w at) (sym line) ∙ e in
    record { whole = refl; row = front; one_row = rw line ToALine; is = ended env front w at f h (Ok v) here is }

abbrev Later : Env → List ℕ → Option LexFault → FilterValue → List Token → Type 0
Later env text broken f ts = (front : List Symbol) (w : GrammarState) → Spelled env front w → filter_from env text broken w ts ≡ Ok f → IsWhole env broken front (map (symbol_of text) ts) f

module _ (env : Env) (text : List ℕ) (broken : Option LexFault) (f : FilterValue) (t : Token) (ts : List Token) (front : List Symbol) (w : GrammarState) (h : Spelled env front w) where
  token_leads : (v : GrammarState) → next env [] w t.at (symbol_of text t) ≡ Ok v → filter_from env text broken w (t ∷ ts) ≡ Ok f → Later env text broken f ts → IsWhole env broken front (symbol_of text t ∷ map (symbol_of text) ts) f
  token_leads v e is later = by-test (is_line_symbol (symbol_of text t))
      (λ line. line_ends env text broken front w v t.at (symbol_of text t) ts f h (line-symbol (symbol_of text t) line) e (rw (e, filter_from, line) at is))
      (λ line.
      let to : next env (binaries one_policy) w t.at (symbol_of text t) ≡ Ok v = next_same env (binaries one_policy) w t.at (symbol_of text t) w.place (no-binary env (rows_before env) front w one_policy h.named w.place h.facts) ∙ e in
      let l = later (front ++ symbol_of text t ∷ []) v (goes_on env front w v t.at (symbol_of text t) line to h) (rw (e, filter_from, line) at is) in
      record { whole = l.whole; row = l.row; one_row = subst (IsOneRow l.row) (append_assoc front (symbol_of text t ∷ []) (map (symbol_of text) ts)) l.one_row; is = l.is })

  by_step : (r : StepResult) → next env [] w t.at (symbol_of text t) ≡ r → filter_from env text broken w (t ∷ ts) ≡ Ok f → Later env text broken f ts → IsWhole env broken front (symbol_of text t ∷ map (symbol_of text) ts) f
  by_step (Ok v) e is later = token_leads v e is later
  by_step (Err fault) e is later = let none = rw (e, filter_from) at is in absurd (cc)

sound_from : (env : Env) (text : List ℕ) (broken : Option LexFault) (f : FilterValue) (ts : List Token) → Later env text broken f ts
sound_from env text None f [] front w h e = record { whole = refl; row = front; one_row = subst (IsOneRow front) (sym (append-nil front)) ToTheEnd; is = ended env front w (length text) f h (next env [] w (length text) Line) refl e }
sound_from env text (Some fault) f [] front w h e = absurd (no_end fault (next env [] w (length text) Broken) f e)
sound_from env text broken f (t ∷ ts) front w h e = by_step env text broken f t ts front w h (next env [] w t.at (symbol_of text t)) refl e (sound_from env text broken f ts)

sound_tokens : (env : Env) (text : List ℕ) (broken : Option LexFault) (f : FilterValue) (ts : List Token) → filter_of_tokens env text broken ts ≡ Ok f → IsWhole env broken [] (map (symbol_of text) ts) f
sound_tokens env text None f [] e = absurd (cc)
sound_tokens env text (Some fault) f [] e = absurd (cc)
sound_tokens env text broken f (t ∷ ts) e = by (begin_filter env t.at (symbol_of text t)) refl where
  by : (r : StepResult) → begin_filter env t.at (symbol_of text t) ≡ r → IsWhole env broken [] (symbol_of text t ∷ map (symbol_of text) ts) f
  by (Err fault) b = let none = rw (b, filter_of_tokens) at e in absurd (cc)
  by (Ok w) b =
      let l = sound_from env text broken f ts (symbol_of text t ∷ []) w (begins env t.at (symbol_of text t) w b) (rw (b, filter_of_tokens) at e) in
      record { whole = l.whole; row = l.row; one_row = l.one_row; is = l.is }

-- a text that is read as a filter is a filter by the grammar
pub filter_is_sound : (text : List ℕ) (env : Env) (f : FilterValue) → filter_in text env ≡ Ok f → ReadsFilter text env f
filter_is_sound text env f e =
    let r = sound_tokens env text (lexed_text text).fault f (lexed_text text).tokens e in
    record { whole = r.whole; row = r.row; one_row = r.one_row; is = r.is }
