-- The first fault of a filter alone is that of a policy in which the filter follows a header, unless the fault is after a filter's row.
use Rattle.std.proofs.Common.{◌≡◌, ℕ, ◌+◌, ◌≢◌, Bool, true, false, List, [], ◌∷◌, ◌++◌, length, map, codes, Option, None, Some, Ok, Err, if◌then◌else◌, refl, ap, sym, subst, ◌∙◌, arith, append_assoc, append-nil, length-append}
use Rattle.std.specs.Str.{bytes_eq}
use Rattle.st_emulation.specs.Words.{word_of}
use Rattle.st_emulation.specs.declared.emulation.Emulation.{Emulation}
use Rattle.st_emulation.specs.declared.emulation.Emulation.TheVariants.{Native, Linux}
use Rattle.st_grammar.proofs.Common.{add_filter, AreRows, as_reading, binaries, BinaryPolicy, Broken, Colon, Comma, shifted_fault, fault_in, fault_of, filter_in, filter_name, filter_of, FilterName, FilterResult, FilterValue, first_reading, fresh, GrammarState, Header, is_binary_place, is_line_symbol, IsFilter, Lexed, lexed_text, LexFault, lexical, Line, next, NoRow, optional_fault_after, or_refused, read_from, read_step, Reading, reading_step, step_name, step_to, StepResult, Symbol, symbol_of, Token, unless_lexical, Word}
use Rattle.st_grammar.specs.declared.env.Env.{Env}
use Rattle.st_grammar.specs.declared.fault.PolicyFault.TheVariants.{Expected, Lex, UnknownCall}
use Rattle.st_grammar.specs.declared.fault.PolicyFault.{PolicyFault}
use Rattle.st_grammar.specs.declared.place.Place.TheVariants as place
use Rattle.st_filter.specs.declared.filter.FilterName.TheVariants as name
use Rattle.st_grammar.specs.OneFilter.{after_filter, if_ended, if_broken, filter_at_end, filter_from, begin_filter, no_filter, filter_of_tokens}
use Rattle.st_grammar.proofs.Texts.{result_after}
use Rattle.st_grammar.proofs.Clauses.{line-symbol}
use Rattle.st_grammar.proofs.FilterRows.{passes-filter}
use Rattle.st_grammar.proofs.Filters.{HasFilters}
use Rattle.st_grammar.proofs.Fronts.{Facts, HasFacts}
use Rattle.st_grammar.proofs.Keywords.{same-word, policy-no-name}
use Rattle.st_grammar.proofs.Readings.{Placed, symbols, Read, read_over, reading_followed, Leads, At, stands}
use Rattle.st_grammar.proofs.Kept.{line-keeps}
use Rattle.st_grammar.proofs.OneFilters.{IsNamed, after-same, named-more, no-binary, spelled}
use Rattle.st_grammar.proofs.Policies.{fresh_policy}
use Rattle.st_grammar.proofs.Sound.{IsFault, broken-step}
use Rattle.st_fault_laws.specs.FilterFault.{header, moved, BeginsWithWord, AreInLine, IsMore, EndsEarly, IsFirstFilterFault, NoName, Headed, AfterRow, InRow}
use Rattle.st_fault_laws.specs.FirstFault.{fault_at_end, plain_fault, symbols_at}
use Rattle.st_fault_laws.proofs.Below.{header_tokens, moved_token, moved_tokens, symbol-moved, below-header}
use Rattle.st_fault_laws.proofs.FirstFaults.{first-fault}
use Rattle.st_fault_laws.proofs.MovedFaults.{SameWalk, Moved, Went, Stopped, next-moved, lexical-moved}

-- `Policy` is no filter's name
pub no-policy : (emulation : Emulation) (word : List ℕ) (name : FilterName) → filter_name word emulation ≡ Some name → word ≢ codes "Policy"
no-policy emulation word name e p =
    let some : filter_name (codes "Policy") emulation ≡ Some name = ap (λ (each : List ℕ). filter_name each emulation) (sym p) ∙ e in
    let none : filter_name (codes "Policy") emulation ≡ None = policy-no-name emulation in
    cc

-- ---- the fault that is found

-- tokens of a text that follows this many bytes
abbrev placed_below : ℕ → List ℕ → List Token → List Placed
placed_below n text ts = map (λ (t : Token). record { at = n + t.at; symbol = symbol_of text t }) ts

symbols-below : (n : ℕ) (text : List ℕ) (row : List Token) (line : Token) → symbol_of text line ≡ Line → symbols (placed_below n text (row ++ line ∷ [])) ≡ symbols_at text row ++ Line ∷ []
symbols-below n text [] line e = ap (λ (s : Symbol). s ∷ []) e
symbols-below n text (t ∷ ts) line e = ap (λ (ss : List Symbol). symbol_of text t ∷ ss) (symbols-below n text ts line e)

-- after the header the reading stops with the moved fault, and no line that it reads has ended before
record StopsBelow (env : Env) (text big : List ℕ) (n lines : ℕ) (r : Reading) (ts : List Token) (fault : PolicyFault) : Type 0 where
  stops : fault_of (read_from env big (optional_fault_after n (lexed_text text).fault) r (moved_tokens n lines ts)) ≡ Some (moved n fault)
  none : (row : List Token) (line : Token) (following : List Token) (q : Reading) → ts ≡ row ++ line ∷ following → symbol_of text line ≡ Line → read_over env r (placed_below n text (row ++ line ∷ [])) ≡ Ok q → ⊥

-- a filter's row has ended, and the fault is after it
record StopsAfter (env : Env) (text : List ℕ) (front : List Symbol) (ts : List Token) (fault : PolicyFault) : Type 0 where
  row : List Token
  line : Token
  following : List Token
  parts : ts ≡ row ++ line ∷ following
  in_line : AreInLine (symbols_at text row)
  ends : symbol_of text line ≡ Line
  filter : FilterValue
  is_filter : IsFilter env (front ++ symbols_at text row) filter
  more : IsMore (lexed_text text).fault following
  reported : fault ≡ plain_fault text following

-- the kinds of fault of a refused filter, after the symbols of its row so far
data IsFound (env : Env) (text big : List ℕ) (n lines : ℕ) (r : Reading) (front : List Symbol) (ts : List Token) (fault : PolicyFault) : Type 0 where
  Below : StopsBelow env text big n lines r ts fault → IsFound env text big n lines r front ts fault
  Early : StopsAfter env text front ts fault → IsFound env text big n lines r front ts fault

pub not-line : (s : Symbol) → is_line_symbol s ≡ false → s ≢ Line
not-line s e h = let line : is_line_symbol s ≡ true = ap is_line_symbol h in cc

no-parts : (row : List Token) (line : Token) (following : List Token) → [] ≡ row ++ line ∷ following → ⊥
no-parts [] line following e = cc
no-parts (t ∷ ts) line following e = cc

following-reported : (text : List ℕ) (f : FilterValue) (fault : PolicyFault) (broken : Option LexFault) (ts : List Token) → (lexed_text text).fault ≡ broken → after_filter broken f ts ≡ Err fault → IsMore broken ts × (fault ≡ plain_fault text ts)
following-reported text f fault None [] b e = absurd (cc)
following-reported text f fault (Some broken) [] b e = let same : Lex broken ≡ fault = cc in (tt, sym same ∙ ap (fault_at_end (length text)) (sym b))
following-reported text f fault None (t ∷ ts) b e = (tt, cc)
following-reported text f fault (Some broken) (t ∷ ts) b e = (tt, cc)

-- a reading that is refused with this fault
abbrev refusal : PolicyFault → Read
refusal fault = Err fault

-- the result for a filter after one of its tokens, by the token's result in the grammar
abbrev followed : (GrammarState → FilterResult) → (GrammarState → FilterResult) → Bool → StepResult → FilterResult
followed ended goes_on line (Ok w) = if line then ended w else goes_on w
followed ended goes_on line (Err fault) = Err fault

module _ (env : Env) (text big : List ℕ) (n lines : ℕ) (long : length big ≡ n + length text) (seen : (t : Token) → symbol_of big (moved_token n lines t) ≡ symbol_of text t) where
  abbrev Finds : Reading → List Symbol → List Token → PolicyFault → Type 0
  Finds r front ts fault = IsFound env text big n lines r front ts fault

  -- ---- one token

  read-token : (r : Reading) (t : Token) (ts : List Token) → read_from env big (optional_fault_after n (lexed_text text).fault) r (moved_tokens n lines (t ∷ ts)) ≡ result_after env big (optional_fault_after n (lexed_text text).fault) r (moved_tokens n lines ts) (read_step env r (n + t.at) (symbol_of text t))
  read-token r t ts = ap (λ (s : Symbol). result_after env big (optional_fault_after n (lexed_text text).fault) r (moved_tokens n lines ts) (read_step env r (n + t.at) s)) (seen t)

  refused : (r : Reading) (t : Token) (found : PolicyFault) → read_step env r (n + t.at) (symbol_of text t) ≡ Err found → (z : Token) (zs : List Token) (q : Reading) → t ≡ z → read_over env r (placed_below n text (z ∷ zs)) ≡ Ok q → ⊥
  refused r t found e z zs q same over =
      let at_t : read_over env r (placed_below n text (t ∷ zs)) ≡ Ok q = ap (λ (u : Token). read_over env r (placed_below n text (u ∷ zs))) same ∙ over in
      let two : Err found ≡ Ok q = ap (reading_followed (λ r. read_over env r (placed_below n text zs))) (sym e) ∙ at_t in
      cc

  none-here : (r : Reading) (t : Token) (ts : List Token) (found : PolicyFault) → read_step env r (n + t.at) (symbol_of text t) ≡ Err found →
      (row : List Token) (line : Token) (following : List Token) (q : Reading) → t ∷ ts ≡ row ++ line ∷ following → read_over env r (placed_below n text (row ++ line ∷ [])) ≡ Ok q → ⊥
  none-here r t ts found e [] line following q parts over = refused r t found e line [] q (cc) over
  none-here r t ts found e (z ∷ zs) line following q parts over = refused r t found e z (zs ++ line ∷ []) q (cc) over

  token-stops : (r : Reading) (front : List Symbol) (t : Token) (ts : List Token) (fault : PolicyFault) → read_step env r (n + t.at) (symbol_of text t) ≡ Err (moved n fault) → Finds r front (t ∷ ts) fault
  token-stops r front t ts fault e = Below (record {
    stops = ap fault_of (read-token r t ts ∙ ap (result_after env big (optional_fault_after n (lexed_text text).fault) r (moved_tokens n lines ts)) e);
    none = λ row line following q parts ends over. none-here r t ts (moved n fault) e row line following q parts over;
  })

  none-later : (r next : Reading) (t : Token) (ts : List Token) (fault : PolicyFault) → read_step env r (n + t.at) (symbol_of text t) ≡ Ok next → is_line_symbol (symbol_of text t) ≡ false → StopsBelow env text big n lines next ts fault →
      (row : List Token) (line : Token) (following : List Token) (q : Reading) → t ∷ ts ≡ row ++ line ∷ following → symbol_of text line ≡ Line → read_over env r (placed_below n text (row ++ line ∷ [])) ≡ Ok q → ⊥
  none-later r next t ts fault e in_line b [] line following q parts ends over =
      let same : t ≡ line = cc in
      not-line (symbol_of text t) in_line (ap (symbol_of text) same ∙ ends)
  none-later r next t ts fault e in_line b (z ∷ zs) line following q parts ends over =
      let same : t ≡ z = cc in
      let others : ts ≡ zs ++ line ∷ following = cc in
      let rest : List Placed = placed_below n text (zs ++ line ∷ []) in
      let at_t : reading_followed (λ r. read_over env r rest) (read_step env r (n + t.at) (symbol_of text t)) ≡ Ok q = ap (λ (u : Token). reading_followed (λ r. read_over env r rest) (read_step env r (n + u.at) (symbol_of text u))) same ∙ over in
      b.none zs line following q others ends (ap (reading_followed (λ r. read_over env r rest)) (sym e) ∙ at_t)

  token-goes : (r next : Reading) (front : List Symbol) (t : Token) (ts : List Token) (fault : PolicyFault) → read_step env r (n + t.at) (symbol_of text t) ≡ Ok next → is_line_symbol (symbol_of text t) ≡ false → Finds next (front ++ symbol_of text t ∷ []) ts fault → Finds r front (t ∷ ts) fault
  token-goes r next front t ts fault e in_line (Below b) = Below (record {
    stops = ap fault_of (read-token r t ts ∙ ap (result_after env big (optional_fault_after n (lexed_text text).fault) r (moved_tokens n lines ts)) e) ∙ b.stops;
    none = none-later r next t ts fault e in_line b;
  })
  token-goes r next front t ts fault e in_line (Early a) = Early (record {
    row = t ∷ a.row;
    line = a.line;
    following = a.following;
    parts = ap (λ (us : List Token). t ∷ us) a.parts;
    in_line = (not-line (symbol_of text t) in_line, a.in_line);
    ends = a.ends;
    filter = a.filter;
    is_filter = subst (λ (us : List Symbol). IsFilter env us a.filter) (append_assoc front (symbol_of text t ∷ []) (symbols_at text a.row)) a.is_filter;
    more = a.more;
    reported = a.reported;
  })

  -- ---- the end of the tokens

  line-end : (r : Reading) (fault : PolicyFault) (x y : StepResult) → Moved n x y → next env (binaries r.set) r.walk (n + length text) Line ≡ y → if_ended x ≡ Err fault → read_step env r (n + length text) Line ≡ Err (moved n fault)
  line-end r fault _ _ (Went w v h) e is = absurd (cc)
  line-end r fault _ _ (Stopped found) e is =
      let same : found ≡ fault = cc in
      ap (reading_step env r Line) e ∙ ap (λ (g : PolicyFault). refusal (moved n g)) same

  broken-end : (r : Reading) (broken : LexFault) (fault : PolicyFault) (x y : StepResult) → Moved n x y → next env (binaries r.set) r.walk (n + length text) Broken ≡ y → if_broken broken x ≡ Err fault →
      unless_lexical (shifted_fault n broken) (read_step env r (n + length text) Broken) ≡ Err (moved n fault)
  broken-end r broken fault _ _ (Went w v h) e is = absurd (subst IsFault (ap (reading_step env r Broken) e) (broken-step env r.walk.place r.walk r.set (n + length text)))
  broken-end r broken fault _ _ (Stopped found) e is =
      let same : lexical broken found ≡ fault = cc in
      ap (λ (y : StepResult). unless_lexical (shifted_fault n broken) (reading_step env r Broken y)) e
      ∙ ap refusal (lexical-moved n broken found)
      ∙ ap (λ (g : PolicyFault). refusal (moved n g)) same

  end-stops : (w : GrammarState) (r : Reading) (fault : PolicyFault) → is_binary_place w.place ≡ false → SameWalk n w r.walk → (broken : Option LexFault) → filter_at_end env (length text) w broken ≡ Err fault →
      fault_of (read_from env big (optional_fault_after n broken) r []) ≡ Some (moved n fault)
  end-stops w r fault elsewhere same None e =
      ap (λ (m : ℕ). fault_of (or_refused r (read_step env r m Line))) long
      ∙ ap (λ (x : Read). fault_of (or_refused r x)) (line-end r fault (next env [] w (length text) Line) (next env (binaries r.set) r.walk (n + length text) Line) (next-moved n (length text) env (binaries r.set) w r.walk Line elsewhere same) refl e)
  end-stops w r fault elsewhere same (Some broken) e =
      ap (λ (m : ℕ). fault_of (or_refused r (unless_lexical (shifted_fault n broken) (read_step env r m Broken)))) long
      ∙ ap (λ (x : Read). fault_of (or_refused r x)) (broken-end r broken fault (next env [] w (length text) Broken) (next env (binaries r.set) r.walk (n + length text) Broken) (next-moved n (length text) env (binaries r.set) w r.walk Broken elsewhere same) refl e)

  -- ---- all tokens after a filter's name

  module _ (rows : List Symbol) where
    -- the fault that is found after a token, given the faults that are found after the next one
    abbrev Later : List Token → Type 0
    Later ts = (front : List Symbol) (w : GrammarState) (r : Reading) (fault : PolicyFault) → IsNamed env front → SameWalk n w r.walk → Facts env [] rows front r.walk.place r.walk r.set → filter_from env text (lexed_text text).fault w ts ≡ Err fault → Finds r front ts fault

    elsewhere : (front : List Symbol) (w : GrammarState) (r : Reading) → IsNamed env front → SameWalk n w r.walk → Facts env [] rows front r.walk.place r.walk r.set → is_binary_place w.place ≡ false
    elsewhere front w r named same facts =
        let here : r.walk.place ≡ w.place = ap (λ (v : GrammarState). v.place) same.same in
        ap is_binary_place (sym here) ∙ no-binary env rows front r.walk r.set named r.walk.place facts

    at-line : (front : List Symbol) (f : FilterValue) (r : Reading) (fault : PolicyFault) (t : Token) (ts : List Token) → IsNamed env front → Facts env [] rows front r.walk.place r.walk r.set → is_line_symbol (symbol_of text t) ≡ true → (v : GrammarState) → next env (binaries r.set) r.walk (n + t.at) (symbol_of text t) ≡ Ok v →
        after_filter (lexed_text text).fault f ts ≡ Err fault → Finds r front (t ∷ ts) fault
    at-line front f r fault t ts named facts line v e is =
        let here : symbol_of text t ≡ Line = line-symbol (symbol_of text t) line in
        let reported = following-reported text f fault (lexed_text text).fault ts refl is in
        let whole : IsFilter env front (filter_of v) = spelled env rows front r.walk r.set named (n + t.at) (binaries r.set) v r.walk.place facts (ap (next env (binaries r.set) r.walk (n + t.at)) (sym here) ∙ e) in
        Early (record {
          row = [];
          line = t;
          following = ts;
          parts = refl;
          in_line = tt;
          ends = here;
          filter = filter_of v;
          is_filter = subst (λ (us : List Symbol). IsFilter env us (filter_of v)) (sym (append-nil front)) whole;
          more = reported.0;
          reported = reported.1;
        })

    by-line : (front : List Symbol) (w' v : GrammarState) (r : Reading) (fault : PolicyFault) (t : Token) (ts : List Token) → Later ts → IsNamed env front → Facts env [] rows front r.walk.place r.walk r.set → SameWalk n w' v → next env (binaries r.set) r.walk (n + t.at) (symbol_of text t) ≡ Ok v →
        (b : Bool) → is_line_symbol (symbol_of text t) ≡ b → (if b then after_filter (lexed_text text).fault (filter_of w') ts else filter_from env text (lexed_text text).fault w' ts) ≡ Err fault → Finds r front (t ∷ ts) fault
    by-line front w' v r fault t ts later named facts same e true line is = at-line front (filter_of w') r fault t ts named facts line v e is
    by-line front w' v r fault t ts later named facts same e false line is =
        let s : Symbol = symbol_of text t in
        let goes : read_step env r (n + t.at) s ≡ Ok (as_reading v r.set) = ap (reading_step env r s) e ∙ ap Ok (after-same env r.walk.place s r.set v (no-binary env rows front r.walk r.set named r.walk.place facts) line) in
        let more : Facts env [] rows (front ++ s ∷ []) v.place v r.set = subst (HasFacts env [] rows (front ++ s ∷ [])) goes (line-keeps env [] rows front r.walk r.set (n + t.at) r.walk.place s line facts) in
        token-goes r (as_reading v r.set) front t ts fault goes line (later (front ++ s ∷ []) w' (as_reading v r.set) fault (named-more front s named) same more is)

    token-found : (front : List Symbol) (w : GrammarState) (r : Reading) (fault : PolicyFault) (t : Token) (ts : List Token) → Later ts → IsNamed env front → Facts env [] rows front r.walk.place r.walk r.set → (x y : StepResult) → Moved n x y → next env (binaries r.set) r.walk (n + t.at) (symbol_of text t) ≡ y →
        followed (λ w'. after_filter (lexed_text text).fault (filter_of w') ts) (λ w'. filter_from env text (lexed_text text).fault w' ts) (is_line_symbol (symbol_of text t)) x ≡ Err fault → Finds r front (t ∷ ts) fault
    token-found front w r fault t ts later named facts _ _ (Stopped found) e is =
        let same : found ≡ fault = cc in
        token-stops r front t ts fault (ap (reading_step env r (symbol_of text t)) e ∙ ap (λ (g : PolicyFault). refusal (moved n g)) same)
    token-found front w r fault t ts later named facts _ _ (Went w' v same) e is = by-line front w' v r fault t ts later named facts same e (is_line_symbol (symbol_of text t)) refl is

    walked : (ts : List Token) → Later ts
    walked [] front w r fault named same facts e = Below (record {
      stops = end-stops w r fault (elsewhere front w r named same facts) same (lexed_text text).fault e;
      none = λ row line following q parts ends over. no-parts row line following parts;
    })
    walked (t ∷ ts) front w r fault named same facts e =
        token-found front w r fault t ts (walked ts) named facts (next env [] w t.at (symbol_of text t)) (next env (binaries r.set) r.walk (n + t.at) (symbol_of text t))
        (next-moved n t.at env (binaries r.set) w r.walk (symbol_of text t) (elsewhere front w r named same facts) same) refl e

-- ---- the header

abbrev header_row : Emulation → List Symbol
header_row emulation = Word (codes "Policy") ∷ Colon ∷ Word (codes "/a") ∷ Comma ∷ Word (codes "Emulation") ∷ Colon ∷ Word (word_of emulation) ∷ []

-- the header and its line
abbrev pub header_rows : Emulation → List Symbol
header_rows emulation = Word (codes "Policy") ∷ Colon ∷ Word (codes "/a") ∷ Comma ∷ Word (codes "Emulation") ∷ Colon ∷ Word (word_of emulation) ∷ Line ∷ []

-- the policy of the header
abbrev pub policy_above : List BinaryPolicy
policy_above = fresh_policy (codes "/a") ∷ []

-- the reading of a text up to the end of the header
abbrev below_reading : Reading
below_reading = as_reading (fresh place.Row 0 (name.Other [])) policy_above

pub header-rows : (env : Env) → AreRows env (header_rows env.emulation) policy_above
header-rows env = Header [] (header_row env.emulation) [] (codes "/a") NoRow (record { spelled = Word (codes "/a"); parts = refl; binary_is = refl })

-- after the header a row may begin
header-facts : (env : Env) → Facts env [] (header_rows env.emulation) [] place.Row below_reading.walk policy_above
header-facts env = record {
  front_is = refl;
  following = record {
    before = [];
    last = fresh_policy (codes "/a");
    are_rows = header-rows env;
    set_is = refl;
    new = (refl, tt);
  };
  filters_are = refl;
  few = omega arith;
}

header-read : (env : Env) (text : List ℕ) (broken : Option LexFault) (ts : List Token) → read_from env (header env.emulation ++ text) broken (first_reading []) (header_tokens env.emulation ++ ts) ≡ read_from env (header env.emulation ++ text) broken below_reading ts
header-read env text broken ts = by env.emulation where
  by : (emulation : Emulation) → read_from (record env { emulation = emulation }) (header emulation ++ text) broken (first_reading []) (header_tokens emulation ++ ts) ≡ read_from (record env { emulation = emulation }) (header emulation ++ text) broken below_reading ts
  by Native = refl
  by Linux = refl

-- ---- a filter's name

-- the result for the tokens after a filter's name, by the name's result
abbrev begun_with : Env → List ℕ → Option LexFault → List Token → StepResult → FilterResult
begun_with env text broken ts (Ok w) = filter_from env text broken w ts
begun_with env text broken ts (Err fault) = Err fault

module _ (env : Env) (text big : List ℕ) (n lines : ℕ) (long : length big ≡ n + length text) (seen : (t : Token) → symbol_of big (moved_token n lines t) ≡ symbol_of text t)
    (t : Token) (ts : List Token) (fault : PolicyFault) (word : List ℕ) (here : symbol_of text t ≡ Word word) (other : bytes_eq word (codes "Policy") ≡ false) where
  name-read : read_step env below_reading (n + t.at) (symbol_of text t) ≡ reading_step env below_reading (symbol_of text t) (step_name env below_reading.walk (n + t.at) word)
  name-read =
      ap (λ (s : Symbol). reading_step env below_reading (symbol_of text t) (next env (binaries policy_above) below_reading.walk (n + t.at) s)) here
      ∙ ap (λ (b : Bool). reading_step env below_reading (symbol_of text t) (if b then step_to below_reading.walk place.PolicyColon else step_name env below_reading.walk (n + t.at) word)) other

  name-found : (o : Option FilterName) → filter_name word env.emulation ≡ o → begun_with env text (lexed_text text).fault ts (step_name env (fresh place.Start 0 (name.Other [])) t.at word) ≡ Err fault → IsFound env text big n lines below_reading [] (t ∷ ts) fault
  name-found None e is =
      let same : UnknownCall t.at ≡ fault = let reported = rw e at is in cc in
      let stops : reading_step env below_reading (symbol_of text t) (step_name env below_reading.walk (n + t.at) word) ≡ Err (UnknownCall (n + t.at)) = rw e refl in
      token-stops env text big n lines long seen below_reading [] t ts fault (name-read ∙ stops ∙ ap (λ (g : PolicyFault). refusal (moved n g)) same)
  name-found (Some called) e is =
      let s : Symbol = symbol_of text t in
      let w : GrammarState = fresh place.NameColon 1 called in
      let begun : reading_step env below_reading s (step_name env below_reading.walk (n + t.at) word) ≡ Ok (as_reading w policy_above) = rw e refl in
      let goes : read_step env below_reading (n + t.at) s ≡ Ok (as_reading w policy_above) = name-read ∙ begun in
      let line : is_line_symbol s ≡ false = ap is_line_symbol here in
      let facts : Facts env [] (header_rows env.emulation) (s ∷ []) place.NameColon w policy_above = subst (HasFacts env [] (header_rows env.emulation) (s ∷ [])) goes (line-keeps env [] (header_rows env.emulation) [] below_reading.walk policy_above (n + t.at) place.Row s line (header-facts env)) in
      let named : IsNamed env (s ∷ []) = record { word = word; name = called; more = []; front_is = ap (λ (s : Symbol). s ∷ []) here; name_is = e } in
      token-goes env text big n lines long seen below_reading (as_reading w policy_above) [] t ts fault goes line
      (walked env text big n lines long seen (header_rows env.emulation) ts (s ∷ []) w (as_reading w policy_above) fault named (record { same = refl; label = tt }) facts (rw e at is))

-- ---- all texts

-- a filter's row that ends early is read after the header
row-read : (env : Env) (text : List ℕ) (e : EndsEarly text env) → Leads env below_reading (placed_below (length (header env.emulation)) text (e.row ++ e.line ∷ [])) (At place.Row (add_filter policy_above e.filter) (HasFilters 1))
row-read env text e =
    (passes-filter env policy_above 0 (symbols_at text e.row) e.filter e.is_filter (omega arith)).pass (placed_below (length (header env.emulation)) text (e.row ++ e.line ∷ [])) (symbols-below (length (header env.emulation)) text e.row e.line e.ends) below_reading
    (stands below_reading.walk (record { filters_are = refl }))

by-found : (text : List ℕ) (env : Env) (fault : PolicyFault) (word : List ℕ) → BeginsWithWord text word → word ≢ codes "Policy" → IsFound env text (header env.emulation ++ text) (length (header env.emulation)) 1 below_reading [] (lexed_text text).tokens fault → IsFirstFilterFault text env fault
by-found text env fault word b other (Early a) =
    let e : EndsEarly text env = record { row = a.row; line = a.line; following = a.following; parts = a.parts; in_line = a.in_line; ends = a.ends; filter = a.filter; is_filter = a.is_filter; more = a.more } in
    subst (IsFirstFilterFault text env) (sym a.reported) (AfterRow e)
by-found text env fault word b other (Below s) =
    let big : List ℕ = header env.emulation ++ text in
    let faulty : fault_in big env [] ≡ Some (moved (length (header env.emulation)) fault) =
    ap (λ (l : Lexed). fault_of (read_from env big l.fault (first_reading []) l.tokens)) (below-header env.emulation text) ∙ ap fault_of (header-read env text (optional_fault_after (length (header env.emulation)) (lexed_text text).fault) (moved_tokens (length (header env.emulation)) 1 (lexed_text text).tokens)) ∙ s.stops in
    InRow word fault b other
    (λ e. let l = row-read env text e in s.none e.row e.line e.following l.reading e.parts e.ends l.over)
    (first-fault big env [] (omega arith) (moved (length (header env.emulation)) fault) faulty)

no-token : (text : List ℕ) (fault : PolicyFault) (broken : Option LexFault) → (lexed_text text).fault ≡ broken → no_filter (length text) broken ≡ Err fault → plain_fault text [] ≡ fault
no-token text fault None e is = ap (fault_at_end (length text)) e ∙ (cc)
no-token text fault (Some broken) e is = ap (fault_at_end (length text)) e ∙ (cc)

module _ (text : List ℕ) (env : Env) (fault : PolicyFault) (t : Token) (ts : List Token) (parts : (lexed_text text).tokens ≡ t ∷ ts) where
  no-word : (s : Symbol) → symbol_of text t ≡ s → ((word : List ℕ) → s ≢ Word word) → Expected t.at ≡ fault → IsFirstFilterFault text env fault
  no-word s here other reported =
      let begins : (word : List ℕ) → BeginsWithWord text word → ⊥ = λ (word : List ℕ) (b : BeginsWithWord text word).
      let same : t ∷ ts ≡ b.first ∷ b.others = sym parts ∙ b.parts in
      let first : t ≡ b.first = cc in
      other word (sym here ∙ ap (symbol_of text) first ∙ b.is_word) in
      subst (IsFirstFilterFault text env) (ap (plain_fault text) parts ∙ reported) (NoName begins)

  by-word : (word : List ℕ) (b : Bool) → symbol_of text t ≡ Word word → bytes_eq word (codes "Policy") ≡ b → begun_with env text (lexed_text text).fault ts (step_name env (fresh place.Start 0 (name.Other [])) t.at word) ≡ Err fault → IsFirstFilterFault text env fault
  by-word word true here e is =
      let same : word ≡ codes "Policy" = same-word word (codes "Policy") e in
      let none : filter_name (codes "Policy") env.emulation ≡ None = policy-no-name env.emulation in
      let named : begun_with env text (lexed_text text).fault ts (step_name env (fresh place.Start 0 (name.Other [])) t.at (codes "Policy")) ≡ Err (UnknownCall t.at) = rw none refl in
      let refused : Err (UnknownCall t.at) ≡ Err fault = sym named ∙ ap (λ (w : List ℕ). begun_with env text (lexed_text text).fault ts (step_name env (fresh place.Start 0 (name.Other [])) t.at w)) (sym same) ∙ is in
      let reported : UnknownCall t.at ≡ fault = cc in
      subst (IsFirstFilterFault text env) reported (Headed (record { first = t; others = ts; parts = parts; is_word = here ∙ ap (λ (w : List ℕ). Word w) same }))
  by-word word false here e is =
      let found : IsFound env text (header env.emulation ++ text) (length (header env.emulation)) 1 below_reading [] (t ∷ ts) fault = name-found env text (header env.emulation ++ text) (length (header env.emulation)) 1 (length-append (header env.emulation) text) (symbol-moved (header env.emulation) text 1) t ts fault word here e (filter_name word env.emulation) refl is in
      let other : word ≢ codes "Policy" = λ (h : word ≡ codes "Policy"). let same : bytes_eq (codes "Policy") (codes "Policy") ≡ false = ap (λ (w : List ℕ). bytes_eq w (codes "Policy")) (sym h) ∙ e in cc in
      by-found text env fault word (record { first = t; others = ts; parts = parts; is_word = here }) other
      (subst (λ (us : List Token). IsFound env text (header env.emulation ++ text) (length (header env.emulation)) 1 below_reading [] us fault) (sym parts) found)

  by-symbol : (s : Symbol) → symbol_of text t ≡ s → begun_with env text (lexed_text text).fault ts (begin_filter env t.at s) ≡ Err fault → IsFirstFilterFault text env fault
  by-symbol (Word word) here is = by-word word (bytes_eq word (codes "Policy")) here refl is
  by-symbol s here is = no-word s here (λ (word : List ℕ). no_words word) (cc) where
    no_words : (word : List ℕ) → s ≢ Word word
    no_words word e = cc

by-tokens : (text : List ℕ) (env : Env) (fault : PolicyFault) (ts : List Token) → (lexed_text text).tokens ≡ ts → filter_of_tokens env text (lexed_text text).fault ts ≡ Err fault → IsFirstFilterFault text env fault
by-tokens text env fault [] parts is =
    let begins : (word : List ℕ) → BeginsWithWord text word → ⊥ = λ (word : List ℕ) (b : BeginsWithWord text word). let none : [] ≡ b.first ∷ b.others = sym parts ∙ b.parts in cc in
    subst (IsFirstFilterFault text env) (ap (plain_fault text) parts ∙ no-token text fault (lexed_text text).fault refl is) (NoName begins)
by-tokens text env fault (t ∷ ts) parts is = by-symbol text env fault t ts parts (symbol_of text t) refl is

-- the fault of a filter alone is the first by the grammar
pub first-filter-fault : (text : List ℕ) (env : Env) (fault : PolicyFault) → filter_in text env ≡ Err fault → IsFirstFilterFault text env fault
first-filter-fault text env fault e = by-tokens text env fault (lexed_text text).tokens refl e
