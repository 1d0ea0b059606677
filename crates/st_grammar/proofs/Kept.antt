-- A symbol that may follow at its place spells one more part of its row.
use Rattle.std.proofs.Common.{◌≡◌, ℕ, ◌+◌, ◌-◌, ◌<◌, ◌≤◌, Bool, true, false, ◌==◌, nat_lt, List, [], ◌∷◌, ◌++◌, Option, None, Some, option_map, Ok, Err, if◌then◌else◌, codes, sum_by, refl, ap, sym, subst, ◌∙◌, arith, append_assoc, append-nil}
use Rattle.std.specs.Str.{bytes_eq}
use Rattle.std.specs.List.{list_any}
use Rattle.std.proofs.lemmas.Bool.{ltb-true, eqb-true}
use Rattle.st_emulation.specs.Words.{word_of}
use Rattle.st_grammar.proofs.Common.{acts, Always, Ask, Asks, AskWithLearn, binaries, binary_of, BinaryPolicy, Close, close_group, CloseBracket, Colon, Comma, comparison, Denies, DeniesWith, Deny, ElevateOnSetId, ElevateWithoutIds, Env, EPERM, error_named, filter_name, filter_of, FilterName, FilterValue, First, Formula, fresh, GrammarState, Grant, Grants, GrantsAndLogs, has_policy, id_in, If, index_in, Indexed, is_action, is_join, is_label, is_line_symbol, IsAction, IsCondition, IsFilter, IsTail, joins_either, Line, Logs, LogsAndGrants, may_test, MayGrant, MOST_FILTERS, most_joins, names_for, new_policy, OfBoth, OfGroup, OfUser, Op, op_named, Open, OpenBracket, Operand, PendingOperand, Permit, Permits, Place, Quoted, read_step, reading_step, Reduced, settle, names_set_id_call, Short, Spells, step_to, StepResult, Symbol, Test, Then, True, unquoted, Who, who_named, Whoever, with_group, without_either, Word}
use Rattle.st_grammar.specs.declared.place.Place.TheVariants as place
use Rattle.st_grammar.specs.Expression as stack
use Rattle.st_grammar.specs.Grammar.{Plain as PlainTail}
use Rattle.st_grammar.proofs.Keywords.{same-word, joins-label, joins-op, joins-index, joins-append, joins-first}
use Rattle.st_grammar.proofs.Readings.{reading_at}
use Rattle.st_grammar.proofs.Stacks.{Opens, Front, Negates, Groups, Joins, Chooses, Ends, EndsWhole, settle-ends, close-ends, groups, groups-settle, groups-close, close-closed, whole-spelled}
use Rattle.st_grammar.proofs.Policies.{any-binaries, fresh_policy, new-more, filters-append}
use Rattle.st_grammar.proofs.Fronts.{RowFront, HeaderFront, BelowHeader, Parts, IsFirst, IsPlain, OperandFront, TestFront, JointFront, MayAs, TailFront, EndsByGrant, Filtered, Tailed, Facts, HasFacts, by-word, by-test, by-some, parts-more, parts-map, parts-whole, filter-more, filter-map}

-- ---- expressions

joins-last : (us : List Symbol) (s : Symbol) → sum_by is_join (us ++ s ∷ []) ≡ sum_by is_join us + is_join s
joins-last us s = omega (arith, joins-append us (s ∷ []), joins-first s [])

operand-settled : (env : Env) (name : FilterName) (parens n : ℕ) (s : List PendingOperand) (f : Formula) {front vs us : List Symbol} → us ≡ front ++ vs → OperandFront env name s parens n front → sum_by is_join vs ≡ 0 → Spells env name Operand vs f → JointFront env name (settle s f) parens n us
operand-settled env name parens n s f {front} {vs} {us} parts h none p = record {
  ends = subst (λ (ts : List Symbol). Ends env name (settle s f) ts) (sym parts) (settle-ends env name h.opens p);
  parens_are = h.parens_are ∙ sym (groups-settle s f);
  joins_are = let all : sum_by is_join us ≡ sum_by is_join front + sum_by is_join vs = ap (sum_by is_join) parts ∙ joins-append front vs in omega (arith, all, none, h.joins_are);
  few = h.few;
}

-- one more symbol of a test
test-more : {P Q : List Symbol → Type 0} {begun : List Symbol} (s : Symbol) → is_join s ≡ 0 → TestFront P begun → (P begun → Q (begun ++ s ∷ [])) → TestFront Q (begun ++ s ∷ [])
test-more {begun} s none h f = record { none = omega (arith, joins-last begun s, none, h.none); rest = f h.rest }

module _ (env : Env) (name : FilterName) (parens n : ℕ) (e : Reduced) (us : List Symbol) (j : JointFront env name e parens n us) where
  -- an `and` joins the conjunction before it
  joined-and : n + 1 ≤ most_joins → OperandFront env name (stack.Both e.formula ∷ e.pending) parens (n + 1) (us ++ Word (codes "and") ∷ [])
  joined-and few = record {
    opens = subst (λ (ts : List Symbol). Opens env name (stack.Both e.formula ∷ e.pending) (ts ++ Word (codes "and") ∷ [])) (sym j.ends.parts) (Joins j.ends.settled j.ends.opens j.ends.spells);
    parens_are = j.parens_are;
    joins_are = omega (arith, j.joins_are, joins-last us (Word (codes "and")));
    few = few;
  }

  joined-or : n + 1 ≤ most_joins → OperandFront env name (joins_either (without_either e)).pending parens (n + 1) (us ++ Word (codes "or") ∷ [])
  joined-or few =
      let c : Reduced = without_either e in
      let h : EndsWhole env name c us = close-ends env name e us j.ends in
      record {
        opens = subst (λ (ts : List Symbol). Opens env name (stack.Either c.formula ∷ c.pending) (ts ++ Word (codes "or") ∷ [])) (sym h.parts) (Chooses h.base h.opens h.spells);
        parens_are = j.parens_are ∙ sym (groups-close e.pending e.formula);
        joins_are = omega (arith, j.joins_are, joins-last us (Word (codes "or")));
        few = few;
      }

  closed : 0 < parens → JointFront env name (close_group (without_either e)) (parens - 1) n (us ++ Close ∷ [])
  closed some =
      let c : Reduced = without_either e in
      let same : groups c.pending ≡ groups e.pending = groups-close e.pending e.formula in
      let inside : 0 < groups c.pending = omega (arith, same, j.parens_are) in
      let h : Ends env name (close_group c) (us ++ Close ∷ []) × (groups (close_group c).pending + 1 ≡ groups c.pending) = close-closed env name c us (close-ends env name e us j.ends) inside in
      record { ends = h.0; parens_are = omega (arith, h.1, same, j.parens_are); joins_are = omega (arith, j.joins_are, joins-last us Close); few = j.few }

  -- `then` ends the expression
  whole : parens ≡ 0 → Parts (λ ts. IsCondition env name ts (without_either e).formula) (λ begun. begun ≡ []) (us ++ Word (codes "then") ∷ [])
  whole none =
      let same : groups (without_either e).pending ≡ 0 = omega (arith, groups-close e.pending e.formula, j.parens_are) in
      let few : sum_by is_join us ≤ most_joins = omega (arith, j.joins_are, j.few) in
      parts-whole (us ++ Word (codes "then") ∷ []) (Then (whole-spelled env name (without_either e) us (close-ends env name e us j.ends) same) few) refl

-- ---- what follows an action

-- a complete action, of a filter of which no more is read
acted-now : (env : Env) (w : GrammarState) (may_grant : Bool) {begun : List Symbol} → IsAction env begun w.action → (may_grant ≡ true → w.action ≡ Permit) → IsPlain w → Parts (λ ts. IsAction env ts w.action) (TailFront env w.name may_grant true w.action w.grant w.log w.predicate) begun
acted-now env w may_grant {begun} a m p =
    let no_grant : w.grant ≡ None = ap (λ (v : FilterValue). v.grant) p in
    let no_log : w.log ≡ false = ap (λ (v : FilterValue). v.log) p in
    parts-whole begun a (record {
      tail_is = subst (λ (l : Bool). IsTail env w.name w.action [] w.grant l) (sym no_log) (subst (λ (g : Option Grant). IsTail env w.name w.action [] g false) (sym no_grant) PlainTail);
      grants = λ e. record { permits = m e; begun_is = refl; no_grant = no_grant; logs_are = no_log };
      logging = λ e. subst (λ (g : Option Grant). IsTail env w.name w.action (Word (codes "log") ∷ []) g true) (sym no_grant) Logs;
      no_predicate = ap (λ (v : FilterValue). v.predicate) p;
    })

-- `as` after a permit
granting : (env : Env) (w : GrammarState) (log : Bool) {begun : List Symbol} → env.elevate ≡ true → names_set_id_call w.name ≡ false → w.predicate ≡ None → MayAs log w.action w.grant w.log begun → EndsByGrant env w log (begun ++ Word (codes "as") ∷ [])
granting env w true {begun} a b none m ts g is =
    let may : MayGrant env w.name w.action = rw m.permits (a, b) in
    record { tail_is = rw (m.begun_is, m.logs_are) (Grants may is); grants = λ e. absurd (cc); logging = λ e. rw m.begun_is (GrantsAndLogs may is); no_predicate = none }
granting env w false {begun} a b none m ts g is =
    let may : MayGrant env w.name w.action = rw m.permits (a, b) in
    record { tail_is = rw (m.begun_is, m.logs_are) (LogsAndGrants may is); grants = λ e. absurd (cc); logging = λ e. absurd (cc); no_predicate = none }

-- ---- symbols

module _ (env : Env) (old : List BinaryPolicy) (rows front : List Symbol) (w : GrammarState) (set : List BinaryPolicy) (at : ℕ) where
  -- what has been spelled at a place, what has been spelled after a symbol, and the result of the symbol
  abbrev Has : Place → Type 0
  Has p = Facts env old rows front p w set

  abbrev Gets : Symbol → Place → GrammarState → Type 0
  Gets s p v = Facts env old rows (front ++ s ∷ []) p v set

  abbrev Keeps : Place → Symbol → Type 0
  Keeps p s = HasFacts env old rows (front ++ s ∷ []) (read_step env (reading_at p w set) at s)

  by-if : (p : Place) (s : Symbol) (b : Bool) (x y : StepResult) → (b ≡ true → HasFacts env old rows (front ++ s ∷ []) (reading_step env (reading_at p w set) s x)) → (b ≡ false → HasFacts env old rows (front ++ s ∷ []) (reading_step env (reading_at p w set) s y)) →
      HasFacts env old rows (front ++ s ∷ []) (reading_step env (reading_at p w set) s (if b then x else y))
  by-if p s true x y f g = f refl
  by-if p s false x y f g = g refl

  -- ---- rows and headers

  row-more : {spelled : List Symbol} (s : Symbol) → RowFront env old rows front spelled w.filters set → RowFront env old rows (front ++ s ∷ []) (spelled ++ s ∷ []) w.filters set
  row-more s h = record { front_is = ap (λ (ts : List Symbol). ts ++ s ∷ []) h.front_is; policies = h.policies; are_rows = h.are_rows; set_is = h.set_is; new = h.new; filters_are = h.filters_are; few = h.few }

  header-more : {more : List Symbol} (s : Symbol) → HeaderFront env old rows front more w.filters set → HeaderFront env old rows (front ++ s ∷ []) (more ++ s ∷ []) w.filters set
  header-more s h = record { spelled = h.spelled; front_is = ap (λ (ts : List Symbol). ts ++ s ∷ []) h.front_is; binary = h.binary; binary_is = h.binary_is; policies = h.policies; are_rows = h.are_rows; set_is = h.set_is; new = h.new; filters_are = h.filters_are; few = h.few }

  -- what may follow anywhere may follow after a header
  pub below-row : BelowHeader env old rows front w.filters set → RowFront env old rows front [] w.filters set
  below-row h = record {
    front_is = h.front_is;
    policies = h.following.before ++ h.following.last ∷ [];
    are_rows = h.following.are_rows;
    set_is = h.following.set_is ∙ append_assoc old h.following.before (h.following.last ∷ []);
    new = h.following.new;
    filters_are = h.filters_are;
    few = h.few;
  }

  kept-start : Has place.Start → (s : Symbol) → is_line_symbol s ≡ false → Keeps place.Start s
  kept-start h Line e = absurd (cc)
  kept-start h (Word word) e = by-word word (codes "Policy") (λ e. rw e (row-more (Word (codes "Policy")) h)) (λ e. rw e tt)
  kept-start h s e = tt

  named : (word : List ℕ) (name : FilterName) → filter_name word env.emulation ≡ Some name → w.filters < MOST_FILTERS → Has place.Row → Gets (Word word) place.NameColon (fresh place.NameColon (w.filters + 1) name)
  named word name e few h = record {
    following = h.following;
    filters_are = omega (arith, h.filters_are);
    few = omega (arith, few);
    spelled = word;
    front_is = ap (λ (ts : List Symbol). ts ++ Word word ∷ []) h.front_is;
    name_is = e;
    first = refl;
  }

  kept-row : Has place.Row → (s : Symbol) → is_line_symbol s ≡ false → Keeps place.Row s
  kept-row h Line e = absurd (cc)
  kept-row h (Word word) e = by-word word (codes "Policy") (λ e. rw e (row-more (Word (codes "Policy")) (below-row h)))
      (λ n. by-some (filter_name word env.emulation) (λ name e. by-test (nat_lt w.filters 4096) (λ t. rw (n, e, t) (named word name e (ltb-true w.filters 4096 t) h)) (λ t. rw (n, e, t) tt)) (λ e. rw (n, e) tt))
  kept-row h s e = tt

  kept-name_colon : Has place.NameColon → (s : Symbol) → Keeps place.NameColon s
  kept-name_colon h Colon = record {
    following = h.following;
    filters_are = h.filters_are;
    few = h.few;
    spelled = h.spelled;
    us = [];
    front_is = ap (λ (ts : List Symbol). ts ++ Colon ∷ []) h.front_is;
    name_is = h.name_is;
    rest = (refl, h.first);
  }
  kept-name_colon h s = tt

  kept-policy_colon : Has place.PolicyColon → (s : Symbol) → Keeps place.PolicyColon s
  kept-policy_colon h Colon = row-more Colon h
  kept-policy_colon h s = tt

  begins : (s : Symbol) (binary : List ℕ) → binary_of env s ≡ Some binary → list_any (λ b. bytes_eq b binary) (binaries set) ≡ false → Has place.Binary → Facts env old rows (front ++ s ∷ []) place.Comma w (set ++ fresh_policy binary ∷ [])
  begins s binary e n h =
      let p : BinaryPolicy = fresh_policy binary in
      record {
        spelled = s;
        front_is = ap (λ (ts : List Symbol). ts ++ s ∷ []) h.front_is;
        binary = binary;
        binary_is = e;
        policies = h.policies;
        are_rows = h.are_rows;
        set_is = ap (λ (xs : List BinaryPolicy). xs ++ p ∷ []) h.set_is;
        new = new-more old h.policies p h.new (ap (λ (xs : List BinaryPolicy). has_policy xs binary) (sym h.set_is) ∙ sym (any-binaries binary set) ∙ n);
        filters_are = omega (arith, h.filters_are, filters-append set (p ∷ []));
        few = h.few;
      }

  kept-binary : Has place.Binary → (s : Symbol) → Keeps place.Binary s
  kept-binary h s = by-some (binary_of env s)
      (λ binary e. by-test (list_any (λ b. bytes_eq b binary) (binaries set)) (λ t. rw (e, t) tt)
      (λ n. rw (e, n) (subst (λ (o : Option (List ℕ)). Facts env old rows (front ++ s ∷ []) place.Comma w (set ++ new_policy o)) (sym e) (begins s binary e n h)))) (λ e. rw e tt)

  kept-comma : Has place.Comma → (s : Symbol) → Keeps place.Comma s
  kept-comma h Comma = header-more Comma h
  kept-comma h s = tt

  kept-emulation : Has place.Emulation → (s : Symbol) → Keeps place.Emulation s
  kept-emulation h (Word word) = by-word word (codes "Emulation") (λ e. rw e (header-more (Word (codes "Emulation")) h)) (λ e. rw e tt)
  kept-emulation h s = tt

  kept-emulation_colon : Has place.EmulationColon → (s : Symbol) → Keeps place.EmulationColon s
  kept-emulation_colon h Colon = header-more Colon h
  kept-emulation_colon h s = tt

  system-begun : (word : List ℕ) → bytes_eq word (word_of env.emulation) ≡ true → Has place.System → Gets (Word word) place.HeaderEnd w
  system-begun word e h = subst (λ (named : List ℕ). HeaderFront env old rows (front ++ Word word ∷ []) (Comma ∷ Word (codes "Emulation") ∷ Colon ∷ Word named ∷ []) w.filters set) (same-word word (word_of env.emulation) e) (header-more (Word word) h)

  kept-system : Has place.System → (s : Symbol) → Keeps place.System s
  kept-system h (Word word) = by-test (bytes_eq word (word_of env.emulation)) (λ e. rw e (system-begun word e h)) (λ e. rw e tt)
  kept-system h s = tt

  -- ---- expressions

  joins-below : nat_lt w.joins 64 ≡ true → w.joins + 1 ≤ most_joins
  joins-below e = let below : w.joins < 64 = ltb-true w.joins 64 e in omega arith

  label-begun : (label : List ℕ) → is_label label ≡ true → Has place.Operand → Gets (Word label) place.Label (record w { label = label; label_at = at; index = 0 })
  label-begun label e h = (
    h.0,
    filter-more (Word label) h.1 (λ us o. record {
      front = us;
      back = Word label ∷ [];
      parts = refl;
      first = o;
      rest = record { none = omega (arith, joins-first (Word label) [], joins-label label e); rest = record { begun_is = refl; labels = e; no_index = refl } };
    }),
  )

  pub kept-operand : Has place.Operand → (s : Symbol) → Keeps place.Operand s
  kept-operand h Open = by-test (nat_lt w.joins 64) (λ e. rw e (
    h.0,
    filter-more Open h.1 (λ us o. record {
      opens = Groups o.opens;
      parens_are = omega (arith, o.parens_are);
      joins_are = omega (arith, o.joins_are, joins-last us Open);
      few = joins-below e;
    }),
  )) (λ e. rw e tt)
  kept-operand h (Word word) = by-word word (codes "not")
      (λ n. by-test (nat_lt w.joins 64) (λ e. rw (n, e) (
        h.0,
        filter-more (Word (codes "not")) h.1 (λ us o. record {
          opens = Negates o.opens;
          parens_are = o.parens_are;
          joins_are = omega (arith, o.joins_are, joins-last us (Word (codes "not")));
          few = joins-below e;
        }),
      )) (λ e. rw (n, e) tt))
      (λ no_not. by-word word (codes "true")
      (λ t. rw t (h.0, filter-more (Word (codes "true")) h.1 (λ us o. operand-settled env w.name w.parens w.joins w.expression.pending True refl o refl Always)))
      (λ no_true. by-test (is_label word) (λ e. rw (e, no_not, no_true) (label-begun word e h)) (λ e. rw (e, no_not, no_true) tt)))
  kept-operand h s = tt

  op-begun : (word : List ℕ) (o : Op) → op_named word ≡ Some o → Has place.Operator → Gets (Word word) place.Text (record w { op = o })
  op-begun word o e h = (
    h.0,
    filter-more (Word word) h.1 (λ us t. parts-more (Word word) t (λ begun b. test-more (Word word) (joins-op word o e) b (λ f source.
        subst (λ (ts : List Symbol). Spells env w.name Operand ts (Test w.label w.index o (unquoted env.dollars source))) (sym (append_assoc begun (Word word ∷ []) (Quoted source ∷ []))) (f word source o e)))),
  )

  kept-operator : Has place.Operator → (s : Symbol) → Keeps place.Operator s
  kept-operator h (Word word) = by-some (op_named word) (λ o e. rw e (op-begun word o e h)) (λ e. rw e tt)
  kept-operator h s = tt

  -- a label without an index is one with index 0
  first-facts : may_test w.name w.label 0 ≡ true → Has place.Label → Has place.Operator
  first-facts a h = (
    h.0,
    filter-map h.1 (λ us t. parts-map t (λ begun b. record {
      none = b.none;
      rest = λ op source o e.
          rw (b.rest.begun_is, b.rest.no_index) (First b.rest.labels a e);
    })),
  )

  kept-label : Has place.Label → (s : Symbol) → Keeps place.Label s
  kept-label h OpenBracket = (
    h.0,
    filter-more OpenBracket h.1 (λ us t. parts-more OpenBracket t (λ begun b. test-more OpenBracket refl b (λ l.
        record { begun_is = ap (λ (ts : List Symbol). ts ++ OpenBracket ∷ []) l.begun_is; labels = l.labels }))),
  )
  kept-label h (Word word) = by-test (may_test w.name w.label 0) (λ a. rw a (kept-operator (first-facts a h) (Word word))) (λ a. rw a tt)
  kept-label h s = tt

  index-begun : (word : List ℕ) (index : ℕ) → index_in word ≡ Some index → may_test w.name w.label index ≡ true → Has place.Index → Gets (Word word) place.IndexEnd (record w { index = index })
  index-begun word index e a h = (
    h.0,
    filter-more (Word word) h.1 (λ us t. parts-more (Word word) t (λ begun b. test-more (Word word) (joins-index word index e) b (λ l.
        record { digits = word; begun_is = ap (λ (ts : List Symbol). ts ++ Word word ∷ []) l.begun_is; labels = l.labels; index_is = e; allowed = a }))),
  )

  kept-index : Has place.Index → (s : Symbol) → Keeps place.Index s
  kept-index h (Word word) = by-some (index_in word) (λ index e. by-test (may_test w.name w.label index) (λ a. rw (e, a) (index-begun word index e a h)) (λ a. rw (e, a) tt)) (λ e. rw e tt)
  kept-index h s = tt

  kept-index_end : Has place.IndexEnd → (s : Symbol) → Keeps place.IndexEnd s
  kept-index_end h CloseBracket = (
    h.0,
    filter-more CloseBracket h.1 (λ us t. parts-more CloseBracket t (λ begun b. test-more CloseBracket refl b (λ l op source o e.
        rw l.begun_is (Indexed l.labels l.index_is l.allowed e)))),
  )
  kept-index_end h s = tt

  kept-text : Has place.Text → (s : Symbol) → Keeps place.Text s
  kept-text h (Quoted source) = (
    h.0,
    filter-more (Quoted source) h.1 (λ us t.
        let f : Formula = Test w.label w.index w.op (unquoted env.dollars source) in
        let more : Parts (OperandFront env w.name w.expression.pending w.parens w.joins) (TestFront (λ ts. Spells env w.name Operand ts f)) (us ++ Quoted source ∷ []) = parts-more (Quoted source) t (λ begun b. test-more (Quoted source) refl b (λ f. f source)) in
        operand-settled env w.name w.parens w.joins w.expression.pending f more.parts more.first more.rest.none more.rest.rest),
  )
  kept-text h s = tt

  kept-joint : Has place.Joint → (s : Symbol) → Keeps place.Joint s
  kept-joint h Close = by-test (nat_lt 0 w.parens) (λ e. rw e (h.0, filter-more Close h.1 (λ us j. closed env w.name w.parens w.joins w.expression us j (ltb-true 0 w.parens e)))) (λ e. rw e tt)
  kept-joint h (Word word) = by-word word (codes "and")
      (λ a. by-test (nat_lt w.joins 64) (λ e. rw (a, e) (h.0, filter-more (Word (codes "and")) h.1 (λ us j. joined-and env w.name w.parens w.joins w.expression us j (joins-below e)))) (λ e. rw (a, e) tt))
      (λ no_and. by-word word (codes "or")
      (λ o. by-test (nat_lt w.joins 64) (λ e. rw (o, e) (h.0, filter-more (Word (codes "or")) h.1 (λ us j. joined-or env w.name w.parens w.joins w.expression us j (joins-below e)))) (λ e. rw (o, e) tt))
      (λ no_or. by-word word (codes "then")
      (λ t. by-test (w.parens == 0) (λ e. rw (t, e) (h.0, filter-more (Word (codes "then")) h.1 (λ us j. whole env w.name w.parens w.joins w.expression us j (eqb-true w.parens 0 e)))) (λ e. rw (t, e) tt))
      (λ no_then. rw (no_and, no_or, no_then) tt)))
  kept-joint h s = tt

  -- ---- actions

  permitted : Has place.Action → Gets (Word (codes "permit")) (place.Tail true true) (acts Permit (place.Tail true true) w)
  permitted h = filter-more (Word (codes "permit")) h.1 (λ us c. parts-more (Word (codes "permit")) c (λ begun e.
      acted-now env (acts Permit (place.Tail true true) w) true (rw e Permits) (λ e. refl) h.0))

  denied : Has place.Action → Gets (Word (codes "deny")) place.Denial (acts (Deny EPERM) place.Denial w)
  denied h = (h.0, refl, filter-more (Word (codes "deny")) h.1 (λ us c. parts-more (Word (codes "deny")) c (λ begun e. ap (λ (ts : List Symbol). ts ++ Word (codes "deny") ∷ []) e)))

  asked : env.learn ≡ false → Has place.Action → Gets (Word (codes "ask")) (place.Tail false true) (acts Ask (place.Tail false true) w)
  asked l h = filter-more (Word (codes "ask")) h.1 (λ us c. parts-more (Word (codes "ask")) c (λ begun e.
      acted-now env (acts Ask (place.Tail false true) w) false (rw e (Asks l)) (λ e. absurd (cc)) h.0))

  kept-action : Has place.Action → (s : Symbol) → Keeps place.Action s
  kept-action h (Word word) = by-word word (codes "permit") (λ e. rw e (permitted h))
      (λ a. by-word word (codes "deny") (λ e. rw e (denied h))
      (λ b. by-word word (codes "ask") (λ e. rw e (by-if place.Action (Word (codes "ask")) env.learn (Err (AskWithLearn at)) (Ok (acts Ask (place.Tail false true) w)) (λ l. tt) (λ l. asked l h)))
      (λ c. rw (a, b, c) tt)))
  kept-action h s = tt

  first-plain : IsFirst w → IsPlain w
  first-plain e = ap (λ (w : GrammarState). record (filter_of w) { formula = True; action = Permit }) e

  pub clause-operands : Has place.Clause → Has place.Operand
  clause-operands h = (
    first-plain h.rest.1,
    filter-map h (λ us f. subst (λ (us : List Symbol). OperandFront env w.name w.expression.pending w.parens w.joins us) (sym f.0)
        (subst (λ (v : GrammarState). OperandFront env w.name v.expression.pending v.parens v.joins []) (sym f.1) (record { opens = Front; parens_are = refl; joins_are = refl; few = omega arith }))),
  )

  pub clause-actions : Has place.Clause → Has place.Action
  clause-actions h = (first-plain h.rest.1, filter-map h (λ us f. record { front = []; back = us; parts = refl; first = rw (ap (λ (w : GrammarState). w.expression.formula) f.1) Short; rest = f.0 }))

  kept-clause : Has place.Clause → (s : Symbol) → Keeps place.Clause s
  kept-clause h s = by-test (is_action s) (λ a. rw a (kept-action (clause-actions h) s)) (λ a. rw a (kept-operand (clause-operands h) s))

  -- ---- what may follow an action

  pub denial-tails : Has place.Denial → Has (place.Tail false true)
  denial-tails h = filter-map h.2 (λ us c. parts-map c (λ begun e. acted-now env w false (rw (e, h.1) Denies) (λ e. absurd (cc)) h.0))

  kept-error : Has place.Error → (s : Symbol) → Keeps place.Error s
  kept-error h (Word word) = by-some (error_named word) (λ errno e. rw e (
    h.0,
    filter-more (Word word) h.1 (λ us c. parts-more (Word word) c (λ begun b.
        record { word = word; errno = errno; begun_is = ap (λ (ts : List Symbol). ts ++ Word word ∷ []) b; errno_is = e; action_is = refl })),
  )) (λ e. rw e tt)
  kept-error h s = tt

  kept-error_end : Has place.ErrorEnd → (s : Symbol) → Keeps place.ErrorEnd s
  kept-error_end h CloseBracket = filter-more CloseBracket h.1 (λ us c. parts-more CloseBracket c (λ begun x. acted-now env w false (rw (x.begun_is, x.action_is) (DeniesWith x.errno_is)) (λ e. absurd (cc)) h.0))
  kept-error_end h s = tt

  kept-as : (log : Bool) → Has (place.Tail true log) → Keeps (place.Tail true log) (Word (codes "as"))
  kept-as log h =
      let next : StepResult = step_to (record w { place = place.Tail true log }) (place.Grant log) in
      by-if (place.Tail true log) (Word (codes "as")) env.elevate (if names_set_id_call w.name then Err (ElevateOnSetId at) else next) (Err (ElevateWithoutIds at))
      (λ a. by-if (place.Tail true log) (Word (codes "as")) (names_set_id_call w.name) (Err (ElevateOnSetId at)) next (λ b. tt)
      (λ b. filter-more (Word (codes "as")) h (λ us c. parts-more (Word (codes "as")) c (λ begun d. parts-more (Word (codes "as")) d (λ ts x. granting env w log a b x.no_predicate (x.grants refl))))))
      (λ a. tt)

  kept-log : (grant : Bool) → Has (place.Tail grant true) → Gets (Word (codes "log")) (place.Tail grant false) (record w { log = true })
  kept-log grant h = filter-more (Word (codes "log")) h (λ us c. parts-more (Word (codes "log")) c (λ begun d. parts-more (Word (codes "log")) d (λ ts x. record {
    tail_is = x.logging refl;
    grants = λ e. let m : MayAs true w.action w.grant w.log ts = x.grants e in record { permits = m.permits; begun_is = ap (λ (ts : List Symbol). ts ++ Word (codes "log") ∷ []) m.begun_is; no_grant = m.no_grant; logs_are = refl };
    logging = λ e. absurd (cc);
    no_predicate = x.no_predicate;
  })))

  -- a comma that begins a predicate
  predicating : (grant log : Bool) → Has (place.Tail grant log) → Gets Comma place.If w
  predicating grant log h = (h.rest.rest.rest.no_predicate, filter-more Comma h (λ us c. parts-more Comma c (λ begun d. parts-more Comma d (λ ts x. record { front = ts; back = Comma ∷ []; parts = refl; first = x.tail_is; rest = refl }))))

  kept-tail : (grant log : Bool) → Has (place.Tail grant log) → (s : Symbol) → is_line_symbol s ≡ false → Keeps (place.Tail grant log) s
  kept-tail grant log h Line e = absurd (cc)
  kept-tail grant log h Comma e = predicating grant log h
  kept-tail true true h (Word word) e = by-word word (codes "as") (λ a. rw a (kept-as true h)) (λ a. by-word word (codes "log") (λ l. rw l (kept-log true h)) (λ l. rw (a, l) tt))
  kept-tail true false h (Word word) e = by-word word (codes "as") (λ a. rw a (kept-as false h)) (λ a. by-word word (codes "log") (λ l. rw l tt) (λ l. rw (a, l) tt))
  kept-tail false true h (Word word) e = by-word word (codes "as") (λ a. rw a tt) (λ a. by-word word (codes "log") (λ l. rw l (kept-log false h)) (λ l. rw (a, l) tt))
  kept-tail false false h (Word word) e = by-word word (codes "as") (λ a. rw a tt) (λ a. by-word word (codes "log") (λ l. rw l tt) (λ l. rw (a, l) tt))
  kept-tail grant log h s e = tt

  kept-denial : Has place.Denial → (s : Symbol) → is_line_symbol s ≡ false → Keeps place.Denial s
  kept-denial h OpenBracket e = (h.0, filter-more OpenBracket h.2 (λ us c. parts-more OpenBracket c (λ begun b. ap (λ (ts : List Symbol). ts ++ OpenBracket ∷ []) b)))
  kept-denial h s e = kept-tail false true (denial-tails h) s e

  -- ---- ids that are granted

  kept-grant : (log : Bool) → Has (place.Grant log) → (s : Symbol) → Keeps (place.Grant log) s
  kept-grant log h Colon = filter-more Colon h (λ us c. parts-more Colon c (λ begun d. parts-more Colon d (λ ts x. record {
    front = ts;
    back = Colon ∷ [];
    parts = refl;
    first = x;
    rest = record { user = None; grant_is = refl; with_group = λ group g e. OfGroup e };
  })))
  kept-grant log h (Word word) = by-some (id_in env.users word) (λ id e. rw e (filter-more (Word word) h (λ us c. parts-more (Word word) c (λ begun d. parts-more (Word word) d (λ ts x. record {
    front = ts;
    back = Word word ∷ [];
    parts = refl;
    first = x;
    rest = record { user = word; id = id; ids_are = refl; id_is = e; grant_is = refl };
  }))))) (λ e. rw e tt)
  kept-grant log h s = tt

  pub user-tails : (log : Bool) → Has (place.User log) → Has (place.Tail false log)
  user-tails log h = filter-map h (λ us c. parts-map c (λ begun d. parts-map d (λ ts x. rw (x.parts, x.rest.ids_are, x.rest.grant_is) (x.first (Word x.rest.user ∷ []) (record { user = Some x.rest.id; group = None }) (OfUser x.rest.id_is)))))

  kept-user : (log : Bool) → Has (place.User log) → (s : Symbol) → is_line_symbol s ≡ false → Keeps (place.User log) s
  kept-user log h Colon e = filter-more Colon h (λ us c. parts-more Colon c (λ begun d. parts-more Colon d (λ ts x. parts-more Colon x (λ ids u. record {
    user = Some u.id;
    grant_is = u.grant_is;
    with_group = λ group g e. rw u.ids_are (OfBoth u.id_is e);
  }))))
  kept-user log h s e = kept-tail false log (user-tails log h) s e

  kept-group : (log : Bool) → Has (place.Group log) → (s : Symbol) → Keeps (place.Group log) s
  kept-group log h (Word word) = by-some (id_in env.groups word) (λ id e. rw e (filter-more (Word word) h (λ us c. parts-more (Word word) c (λ begun d. parts-more (Word word) d (λ ts x.
      let granted : option_map (with_group id) w.grant ≡ Some (record { user = x.rest.user; group = Some id }) = ap (option_map (with_group id)) x.rest.grant_is in
      let tail = x.first (x.back ++ Word word ∷ []) (record { user = x.rest.user; group = Some id }) (x.rest.with_group word id e) in
      rw (x.parts, granted, append_assoc x.front x.back (Word word ∷ [])) tail))))) (λ e. rw e tt)
  kept-group log h s = tt

  -- ---- predicates

  -- one more symbol of a predicate
  tailed-more : (v : GrammarState) {P Q : List Symbol → Type 0} (s : Symbol) → Filtered env old rows front v set (Tailed env v P) → ((begun : List Symbol) → P begun → Q (begun ++ s ∷ [])) → Filtered env old rows (front ++ s ∷ []) v set (Tailed env v Q)
  tailed-more v s h f = filter-more s h (λ us c. parts-more s c (λ begun d. parts-more s d (λ ts x. parts-more s x f)))

  kept-if : Has place.If → (s : Symbol) → Keeps place.If s
  kept-if h (Word word) = by-word word (codes "if") (λ e. rw e (h.0, tailed-more w (Word (codes "if")) h.1 (λ begun e. ap (λ (ts : List Symbol). ts ++ Word (codes "if") ∷ []) e))) (λ e. rw e tt)
  kept-if h s = tt

  kept-who : Has place.Who → (s : Symbol) → Keeps place.Who s
  kept-who h (Word word) = by-some (who_named word) (λ who e. rw e (h.0, tailed-more w (Word word) h.1 (λ begun b. record { word = word; begun_is = ap (λ (ts : List Symbol). ts ++ Word word ∷ []) b; who_is = e }))) (λ e. rw e tt)
  kept-who h s = tt

  kept-comparison : (who : Who) → Has (place.Comparison who) → (s : Symbol) → Keeps (place.Comparison who) s
  kept-comparison who h s = by-some (comparison s) (λ cmp e. rw e (h.0, tailed-more w s h.1 (λ begun x. record { word = x.word; symbol = s; begun_is = ap (λ (ts : List Symbol). ts ++ s ∷ []) x.begun_is; who_is = x.who_is; cmp_is = e }))) (λ e. rw e tt)

  kept-id : (who : Who) → Has (place.Id who) → (s : Symbol) → Keeps (place.Id who) s
  kept-id who h (Word word) = by-some (id_in (names_for env who) word) (λ id e. rw e (tailed-more w (Word word) h.1 (λ begun x. rw x.begun_is (If x.who_is x.cmp_is e)))) (λ e. rw e tt)
  kept-id who h s = tt

  -- ---- all places

  -- a symbol inside a row
  pub line-keeps : (p : Place) (s : Symbol) → is_line_symbol s ≡ false → Has p → Keeps p s
  line-keeps place.Start s e h = kept-start h s e
  line-keeps place.Row s e h = kept-row h s e
  line-keeps place.PolicyColon s e h = kept-policy_colon h s
  line-keeps place.Binary s e h = kept-binary h s
  line-keeps place.Comma s e h = kept-comma h s
  line-keeps place.Emulation s e h = kept-emulation h s
  line-keeps place.EmulationColon s e h = kept-emulation_colon h s
  line-keeps place.System s e h = kept-system h s
  line-keeps place.HeaderEnd s e h = rw e tt
  line-keeps place.NameColon s e h = kept-name_colon h s
  line-keeps place.Clause s e h = kept-clause h s
  line-keeps place.Operand s e h = kept-operand h s
  line-keeps place.Label s e h = kept-label h s
  line-keeps place.Index s e h = kept-index h s
  line-keeps place.IndexEnd s e h = kept-index_end h s
  line-keeps place.Operator s e h = kept-operator h s
  line-keeps place.Text s e h = kept-text h s
  line-keeps place.Joint s e h = kept-joint h s
  line-keeps place.Action s e h = kept-action h s
  line-keeps place.Denial s e h = kept-denial h s e
  line-keeps place.Error s e h = kept-error h s
  line-keeps place.ErrorEnd s e h = kept-error_end h s
  line-keeps (place.Tail grant log) s e h = kept-tail grant log h s e
  line-keeps (place.Grant log) s e h = kept-grant log h s
  line-keeps (place.User log) s e h = kept-user log h s e
  line-keeps (place.Group log) s e h = kept-group log h s
  line-keeps place.If s e h = kept-if h s
  line-keeps place.Who s e h = kept-who h s
  line-keeps (place.Comparison who) s e h = kept-comparison who h s
  line-keeps (place.Id who) s e h = kept-id who h s
  line-keeps place.FilterEnd s e h = rw e tt

  -- ---- filters that are complete

  pub predicate-filter : Has place.FilterEnd → IsFilter env front (filter_of w)
  predicate-filter h = record {
    spelled = h.spelled;
    condition = h.rest.front;
    action = h.rest.rest.front;
    tail = h.rest.rest.rest.front;
    predicate = h.rest.rest.rest.back;
    parts = rw (h.front_is, h.rest.parts, h.rest.rest.parts, h.rest.rest.rest.parts) (simp append_assoc);
    name_is = h.name_is;
    condition_is = h.rest.first;
    action_is = h.rest.rest.first;
    tail_is = h.rest.rest.rest.first;
    predicate_is = h.rest.rest.rest.rest;
  }

  pub tail-filter : (grant log : Bool) → Has (place.Tail grant log) → IsFilter env front (filter_of w)
  tail-filter grant log h = record {
    spelled = h.spelled;
    condition = h.rest.front;
    action = h.rest.rest.front;
    tail = h.rest.rest.back;
    predicate = [];
    parts = rw (h.front_is, h.rest.parts, h.rest.rest.parts) (simp append_assoc (ap (λ (ts : List Symbol). Word h.spelled ∷ Colon ∷ (h.rest.front ++ (h.rest.rest.front ++ ts))) (sym (append-nil h.rest.rest.back))));
    name_is = h.name_is;
    condition_is = h.rest.first;
    action_is = h.rest.rest.first;
    tail_is = h.rest.rest.rest.tail_is;
    predicate_is = rw h.rest.rest.rest.no_predicate Whoever;
  }
