-- A text that is a filter by the grammar has no fault, and is read as that filter.
use Rattle.std.proofs.Common.{◌≡◌, ◌≢◌, ℕ, Bool, List, [], ◌∷◌, ◌++◌, length, map, codes, Option, None, Some, Ok, Err, refl, ap, sym, subst, ◌∙◌, arith, append_assoc, append-nil}
use Rattle.std.proofs.lemmas.List.{map-append}
use Rattle.st_emulation.specs.declared.emulation.Emulation.{Emulation}
use Rattle.st_emulation.specs.declared.emulation.Emulation.TheVariants.{Native, Linux}
use Rattle.st_grammar.proofs.Common.{Action, Always, AreRows, Asks, BinaryPolicy, Blank, Both, Close, CloseBracket, Cmp, Colon, Comma, comparison, Denies, DeniesWith, Either, filter_in, FilterName, FilterResult, FilterRow, FilterValue, First, Formula, Grant, Grants, GrantsAndLogs, Grouped, If, Indexed, IsAction, IsCondition, IsFilter, IsGrant, IsPredicate, IsTail, Level, Lexed, lexed_text, LexFault, Line, Logs, LogsAndGrants, Negated, OfBoth, OfGroup, OfUser, OneConjunction, OneOperand, Open, OpenBracket, optional_fault_after, Permits, Plain, Predicate, Quoted, Reads, Short, Spells, Symbol, symbol_of, symbols_in, Then, Token, Whoever, with_filter, Word}
use Rattle.st_grammar.specs.declared.env.Env.{Env}
use Rattle.st_grammar.specs.declared.fault.PolicyFault.{PolicyFault}
use Rattle.st_grammar.specs.OneFilter.{IsOneRow, ToTheEnd, ToALine, ReadsFilter}
use Rattle.st_grammar.proofs.Complete.{reads-once}
use Rattle.st_grammar.proofs.Policies.{fresh_policy}
use Rattle.st_fault_laws.specs.FilterFault.{header, BeginsWithWord, AreInLine, IsMore, EndsEarly, IsFirstFilterFault, NoName, Headed, AfterRow, InRow}
use Rattle.st_fault_laws.specs.FirstFault.{symbol_at_end, symbol_here, symbols_at, IsFirstFault}
use Rattle.st_fault_laws.proofs.Below.{header_tokens, moved_tokens, symbol-moved, below-header}
use Rattle.st_fault_laws.proofs.FilterFaults.{header_rows, header-rows, no-policy, not-line, first-filter-fault}
use Rattle.st_fault_laws.proofs.FilterFaultsOnce.{word-same}

-- ---- a filter's row is one line

in-line-append : (xs ys : List Symbol) → AreInLine xs → AreInLine ys → AreInLine (xs ++ ys)
in-line-append [] ys h k = k
in-line-append (x ∷ xs) ys h k = (h.0, in-line-append xs ys h.1 k)

a-word : (word : List ℕ) → Word word ≢ Line
a-word word e = cc

in-expression : {env : Env} {name : FilterName} {level : Level} {ts : List Symbol} {f : Formula} → Spells env name level ts f → AreInLine ts
in-expression Always = (a-word _, tt)
in-expression (First {label} {op} {source} l a e) = (a-word label, (a-word op, (not-line (Quoted source) refl, tt)))
in-expression (Indexed {label} {digits} {op} {source} l i a e) = (a-word label, (not-line OpenBracket refl, (a-word digits, (not-line CloseBracket refl, (a-word op, (not-line (Quoted source) refl, tt))))))
in-expression (Negated p) = (a-word _, in-expression p)
in-expression (Grouped {ts} p) = (not-line Open refl, in-line-append ts (Close ∷ []) (in-expression p) (not-line Close refl, tt))
in-expression (OneOperand p) = in-expression p
in-expression (Both {ts} {us} p q) = in-line-append ts (Word (codes "and") ∷ us) (in-expression p) (a-word _, in-expression q)
in-expression (OneConjunction p) = in-expression p
in-expression (Either {ts} {us} p q) = in-line-append ts (Word (codes "or") ∷ us) (in-expression p) (a-word _, in-expression q)

in-condition : {env : Env} {name : FilterName} {ts : List Symbol} {f : Formula} → IsCondition env name ts f → AreInLine ts
in-condition Short = tt
in-condition (Then {ts} p few) = in-line-append ts (Word (codes "then") ∷ []) (in-expression p) (a-word _, tt)

in-action : {env : Env} {ts : List Symbol} {a : Action} → IsAction env ts a → AreInLine ts
in-action Permits = (a-word _, tt)
in-action Denies = (a-word _, tt)
in-action (DeniesWith e) = (a-word _, (not-line OpenBracket refl, (a-word _, (not-line CloseBracket refl, tt))))
in-action (Asks e) = (a-word _, tt)

in-grant : {env : Env} {ts : List Symbol} {g : Grant} → IsGrant env ts g → AreInLine ts
in-grant (OfUser u) = (a-word _, tt)
in-grant (OfBoth u g) = (a-word _, (not-line Colon refl, (a-word _, tt)))
in-grant (OfGroup g) = (not-line Colon refl, (a-word _, tt))

in-tail : {env : Env} {name : FilterName} {action : Action} {ts : List Symbol} {grant : Option Grant} → (log : Bool) → IsTail env name action ts grant log → AreInLine ts
in-tail _ Plain = tt
in-tail _ Logs = (a-word _, tt)
in-tail _ (Grants m g) = (a-word _, in-grant g)
in-tail _ (GrantsAndLogs {ts} m g) = (a-word _, in-line-append ts (Word (codes "log") ∷ []) (in-grant g) (a-word _, tt))
in-tail _ (LogsAndGrants m g) = (a-word _, (a-word _, in-grant g))

compares : (s : Symbol) (c : Cmp) → comparison s ≡ Some c → s ≢ Line
compares s c e line = let none : comparison Line ≡ Some c = ap comparison (sym line) ∙ e in cc

in-predicate : {env : Env} {ts : List Symbol} {p : Option Predicate} → IsPredicate env ts p → AreInLine ts
in-predicate Whoever = tt
in-predicate (If {s = s} {c = c} w e i) = (not-line Comma refl, (a-word _, (a-word _, (compares s c e, (a-word _, tt)))))

in-filter : (env : Env) (row : List Symbol) (f : FilterValue) → IsFilter env row f → AreInLine row
in-filter env row f is =
    subst AreInLine (sym is.parts) (
      a-word is.spelled,
      (
        not-line Colon refl,
        in-line-append (is.condition ++ is.action ++ is.tail) is.predicate
            (in-line-append (is.condition ++ is.action) is.tail (in-line-append is.condition is.action (in-condition is.condition_is) (in-action is.action_is)) (in-tail f.log is.tail_is))
            (in-predicate is.predicate_is),
      ),
    )

-- ---- after the header

symbols-moved : (above text : List ℕ) (ts : List Token) → map (symbol_of (above ++ text)) (moved_tokens (length above) 1 ts) ≡ map (symbol_of text) ts
symbols-moved above text [] = refl
symbols-moved above text (t ∷ ts) =
    ap (λ (s : Symbol). s ∷ map (symbol_of (above ++ text)) (moved_tokens (length above) 1 ts)) (symbol-moved above text 1 t)
    ∙ ap (λ (ss : List Symbol). symbol_of text t ∷ ss) (symbols-moved above text ts)

header-symbols : (emulation : Emulation) (text : List ℕ) (ts : List Token) → map (symbol_of (header emulation ++ text)) (header_tokens emulation ++ ts) ≡ header_rows emulation ++ map (symbol_of (header emulation ++ text)) ts
header-symbols Native text ts = refl
header-symbols Linux text ts = refl

symbols-below_header : (emulation : Emulation) (text : List ℕ) → symbols_in (header emulation ++ text) ≡ header_rows emulation ++ symbols_in text
symbols-below_header emulation text =
    ap (λ (l : Lexed). map (symbol_of (header emulation ++ text)) l.tokens) (below-header emulation text)
    ∙ header-symbols emulation text (moved_tokens (length (header emulation)) 1 (lexed_text text).tokens)
    ∙ ap (λ (ss : List Symbol). header_rows emulation ++ ss) (symbols-moved (header emulation) text (lexed_text text).tokens)

-- the policy of the header with only this filter
abbrev with_one : FilterValue → List BinaryPolicy
with_one f = with_filter (fresh_policy (codes "/a")) f ∷ []

abbrev first_filters : List BinaryPolicy → List FilterValue
first_filters [] = []
first_filters (p ∷ ps) = p.filters

with-once : (f g : FilterValue) → with_one f ≡ with_one g → f ≡ g
with-once f g e = let same : f ∷ [] ≡ g ∷ [] = ap first_filters e in cc

rows-below : (env : Env) (f : FilterValue) (row ss : List Symbol) → IsOneRow row ss → IsFilter env row f → AreRows env ((header_rows env.emulation ++ ss) ++ Line ∷ []) (with_one f)
rows-below env f row _ ToTheEnd is = FilterRow (header_rows env.emulation) row [] (fresh_policy (codes "/a")) f (header-rows env) is
rows-below env f row _ ToALine is = Blank (header_rows env.emulation ++ row ++ Line ∷ []) (with_one f) (FilterRow (header_rows env.emulation) row [] (fresh_policy (codes "/a")) f (header-rows env) is)

-- after the header the filter is the only one of its policy
reads-below : (text : List ℕ) (env : Env) (f : FilterValue) → ReadsFilter text env f → Reads (header env.emulation ++ text) env [] (with_one f)
reads-below text env f h = record {
  whole = ap (λ (l : Lexed). l.fault) (below-header env.emulation text) ∙ ap (optional_fault_after (length (header env.emulation))) h.whole;
  policies = with_one f;
  rows = subst (λ (ss : List Symbol). AreRows env (ss ++ Line ∷ []) (with_one f)) (sym (symbols-below_header env.emulation text)) (rows-below env f h.row (symbols_in text) h.one_row h.is);
  set_is = refl;
  new = (refl, tt);
  few = omega arith;
}

-- ---- a text that is read has no first fault

goes-whole : (text : List ℕ) (before following : List Token) → (lexed_text text).fault ≡ None → (lexed_text text).tokens ≡ before ++ following → (more : List Symbol) × (symbols_in text ++ Line ∷ [] ≡ (symbols_at text before ++ symbol_here text following ∷ []) ++ more)
goes-whole text before [] whole parts =
    let front : List Symbol = symbols_at text before in
    let same : symbols_in text ≡ front = ap (symbols_at text) (parts ∙ append-nil before) in
    let end : symbol_here text [] ≡ Line = ap symbol_at_end whole in
    ([], ap (λ (ss : List Symbol). ss ++ Line ∷ []) same ∙ ap (λ (s : Symbol). front ++ s ∷ []) (sym end) ∙ sym (append-nil (front ++ symbol_here text [] ∷ [])))
goes-whole text before (t ∷ ts) whole parts =
    let front : List Symbol = symbols_at text before in
    let back : List Symbol = symbols_at text ts in
    let s : Symbol = symbol_of text t in
    let same : symbols_in text ≡ front ++ s ∷ back = ap (symbols_at text) parts ∙ map-append (symbol_of text) before (t ∷ ts) in
    (back ++ Line ∷ [], ap (λ (ss : List Symbol). ss ++ Line ∷ []) same ∙ append_assoc front (s ∷ back) (Line ∷ []) ∙ sym (append_assoc front (s ∷ []) (back ++ Line ∷ [])))

no-first : (text : List ℕ) (env : Env) (old set : List BinaryPolicy) (fault : PolicyFault) → Reads text env old set → IsFirstFault text env old fault → ⊥
no-first text env old set fault h is =
    let g = goes-whole text is.before is.following h.whole is.parts in
    is.stops (record { other = text; more = g.0; set = set; parts = g.1; reads = h })

-- ---- a filter has no first fault

row-first : (row ss us : List Symbol) (word : List ℕ) → IsOneRow row ss → row ≡ Word word ∷ us → (more : List Symbol) × (ss ≡ Word word ∷ more)
row-first row _ us word ToTheEnd e = (us, e)
row-first row _ us word ToALine e = (us ++ Line ∷ [], ap (λ (ss : List Symbol). ss ++ Line ∷ []) e)

begins-by : (text word : List ℕ) (more : List Symbol) (ts : List Token) → (lexed_text text).tokens ≡ ts → symbols_at text ts ≡ Word word ∷ more → BeginsWithWord text word
begins-by text word more [] parts e = absurd (cc)
begins-by text word more (t ∷ ts) parts e = let first : symbol_of text t ≡ Word word = cc in record { first = t; others = ts; parts = parts; is_word = first }

-- the line of a filter ends with the text
no-line : (xs ys : List Symbol) → AreInLine (xs ++ Line ∷ ys) → ⊥
no-line [] ys h = h.0 refl
no-line (x ∷ xs) ys h = no-line xs ys h.1

last-line : (row xs ys : List Symbol) → row ++ Line ∷ [] ≡ xs ++ Line ∷ ys → AreInLine row → ys ≡ []
last-line [] [] ys e h = cc
last-line [] (x ∷ xs) ys e h = let none : [] ≡ xs ++ Line ∷ ys = cc in absurd (some xs ys none) where
  some : (xs ys : List Symbol) → [] ≡ xs ++ Line ∷ ys → ⊥
  some [] ys e = cc
  some (x ∷ xs) ys e = cc
last-line (r ∷ rs) [] ys e h = let same : r ≡ Line = cc in absurd (h.0 same)
last-line (r ∷ rs) (x ∷ xs) ys e h = let others : rs ++ Line ∷ [] ≡ xs ++ Line ∷ ys = cc in last-line rs xs ys others h.1

none-following : (row ss xs ys : List Symbol) → IsOneRow row ss → AreInLine row → ss ≡ xs ++ Line ∷ ys → ys ≡ []
none-following row _ xs ys ToTheEnd h e = absurd (no-line xs ys (subst AreInLine e h))
none-following row _ xs ys ToALine h e = last-line row xs ys e h

no-more : (text : List ℕ) (following : List Token) → symbols_at text following ≡ [] → IsMore None following → ⊥
no-more text [] e m = m
no-more text (t ∷ ts) e m = cc

module _ (text : List ℕ) (env : Env) (f : FilterValue) (h : ReadsFilter text env f) where
  begins : BeginsWithWord text h.is.spelled
  begins =
      let first = row-first h.row (symbols_in text) _ h.is.spelled h.one_row h.is.parts in
      begins-by text h.is.spelled first.0 (lexed_text text).tokens refl first.1

  not-early : EndsEarly text env → ⊥
  not-early e =
      let front : List Symbol = symbols_at text e.row in
      let cut : symbols_in text ≡ front ++ Line ∷ symbols_at text e.following = ap (symbols_at text) e.parts ∙ map-append (symbol_of text) e.row (e.line ∷ e.following) ∙ ap (λ (s : Symbol). front ++ s ∷ symbols_at text e.following) e.ends in
      no-more text e.following (none-following h.row (symbols_in text) front (symbols_at text e.following) h.one_row (in-filter env h.row f h.is) cut) (subst (λ (b : Option LexFault). IsMore b e.following) h.whole e.more)

  -- a text that is a filter has no first fault
  pub faultless-filter : (fault : PolicyFault) → IsFirstFilterFault text env fault → ⊥
  faultless-filter _ (NoName none) = none h.is.spelled begins
  faultless-filter _ (Headed b) = no-policy env.emulation h.is.spelled f.name h.is.name_is (word-same text h.is.spelled (codes "Policy") begins b)
  faultless-filter _ (AfterRow e) = not-early e
  faultless-filter _ (InRow word fault b other whole is) = no-first (header env.emulation ++ text) env [] (with_one f) _ (reads-below text env f h) is

  one-filter : (g : FilterValue) → ReadsFilter text env g → g ≡ f
  one-filter g k =
      with-once g f (reads-once (header env.emulation ++ text) env [] (with_one g) (with_one f) (reads-below text env g k) (reads-below text env f h))

  by-result : ((g : FilterValue) → filter_in text env ≡ Ok g → ReadsFilter text env g) → (x : FilterResult) → filter_in text env ≡ x → filter_in text env ≡ Ok f
  by-result sound (Ok g) e = e ∙ ap Ok (one-filter g (sound g e))
  by-result sound (Err fault) e = absurd (faultless-filter fault (first-filter-fault text env fault e))

-- a text that is a filter by the grammar is read as that filter
pub filter-complete : ((text : List ℕ) (env : Env) (g : FilterValue) → filter_in text env ≡ Ok g → ReadsFilter text env g) → (text : List ℕ) (env : Env) (f : FilterValue) → ReadsFilter text env f → filter_in text env ≡ Ok f
filter-complete sound text env f h = by-result text env f h (sound text env) (filter_in text env) refl
