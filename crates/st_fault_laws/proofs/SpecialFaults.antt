-- If a special fault applies to a symbol, no other fault does.
use Rattle.std.proofs.Common.{◌≡◌, ◌⊎◌, inl, inr, ℕ, Bool, true, false, nat_lt, List, [], ◌∷◌, ◌++◌, None, Some, Ok, Err, codes, map, refl, ap, sym, subst, ◌∙◌, append_assoc}
use Rattle.std.specs.Str.{bytes_eq}
use Rattle.std.specs.List.{list_any}
use Rattle.std.proofs.lemmas.Bool.{or_from}
use Rattle.st_emulation.specs.Words.{word_of}
use Rattle.st_grammar.proofs.Common.{binaries, binary_of, BinaryPolicy, Close, Colon, Comma, error_named, filter_name, FilterName, filters_in, first_reading, GrammarState, id_in, index_in, is_action, is_label, Line, may_test, names_for, Open, OpenBracket, Quoted, read_step, Reading, names_set_id_call, Symbol, symbol_of, Token, Word}
use Rattle.st_grammar.specs.declared.fault.PolicyFault.TheVariants.{AskWithLearn, DuplicatePolicy, ElevateOnSetId, ElevateWithoutIds, NotSupported, TooMany, UnknownArgument, UnknownCall, UnknownError, UnknownUser}
use Rattle.st_grammar.specs.declared.env.Env.{Env}
use Rattle.st_grammar.specs.declared.place.Place.{Place}
use Rattle.st_grammar.specs.declared.fault.PolicyFault.{PolicyFault}
use Rattle.st_grammar.specs.declared.fault.Unsupported.TheVariants as unsupported
use Rattle.st_grammar.specs.declared.place.Place.TheVariants as place
use Rattle.st_fault_laws.specs.FirstFault.{symbols_at, MayContinue, AreRead, EndsOperand, InParens, Whole, TakesOperand, TakesAction, AfterPermit, Permitted, Logged, IsLabelAt, IsSpecial, NoCall, ManyFilters, Twice, OtherEmulation, ManyOpening, ManyJoining, NoLabel, NoIndex, NoRe, Learns, NoError, NoIds, SetsIds, NoUser}
use Rattle.st_grammar.proofs.Clauses.{clause-operand}
use Rattle.st_grammar.proofs.Complete.{AtRows, placed, passes-rows, first-rows, below-last, is_below}
use Rattle.st_fault_laws.proofs.Completions.{MayEnd}
use Rattle.st_grammar.proofs.Fronts.{by-some, by-test}
use Rattle.st_grammar.proofs.FilterRows.{row_place, step-policy}
use Rattle.st_grammar.proofs.Filters.{HasFilters}
use Rattle.st_grammar.proofs.Keywords.{label-other}
use Rattle.st_fault_laws.proofs.MayStand.{TokenCut, token-cut}
use Rattle.st_fault_laws.proofs.PlacesReported.{no-emulation, no-name, unless, IsActionPlace, IsOperandPlace, IsJointPlace, IsIdPlace, IsOperatorPlace, action-place, operand-place, close-place, then-place, id-place, operator-place}
use Rattle.st_grammar.proofs.Readings.{Read, read_over, reading_followed, Leads, Passes, passes-append, passes-one, passes-step, reading_at, steady, At, stands}
use Rattle.st_fault_laws.proofs.WaysOn.{Accepted, accepted, ReadTo, read-to, spread, first_place, other_places, symbols-placed}

-- ---- the one fault of a symbol

-- the symbol has this fault only, if it doesn't fit. If it fits, a row can be completed after it, or it is a label
abbrev pub Only : ℕ → PolicyFault → Read → Type 0
Only at fault (Ok q) = MayEnd q.walk.place q.walk ⊎ (fault ≡ UnknownArgument at)
Only at fault (Err found) = found ≡ fault

label-no_action : (word : List ℕ) → is_label word ≡ true → is_action (Word word) ≡ false
label-no_action word e =
    let o = label-other word e in
    or_from (bytes_eq word (codes "permit")) _ o.no_permit (or_from (bytes_eq word (codes "deny")) (bytes_eq word (codes "ask")) o.no_deny o.no_ask)

-- ---- symbols with special faults, by their place

module _ (env : Env) (w : GrammarState) (set : List BinaryPolicy) (at : ℕ) where
  abbrev OnlyHere : PolicyFault → Place → Symbol → Type 0
  OnlyHere fault p s = Only at fault (read_step env (reading_at p w set) at s)

  no-call : (word : List ℕ) → filter_name word env.emulation ≡ None → OnlyHere (UnknownCall at) place.Row (Word word)
  no-call word e = by-test (bytes_eq word (codes "Policy")) (λ p. rw p (inl tt)) (λ p. rw (p, e) refl)

  many-filters : (word : List ℕ) (name : FilterName) → filter_name word env.emulation ≡ Some name → OnlyHere (TooMany at) place.Row (Word word)
  many-filters word name e = by-test (bytes_eq word (codes "Policy")) (λ p. rw p (inl tt)) (λ p. by-test (nat_lt w.filters 4096) (λ f. rw (p, e, f) (inl tt)) (λ f. rw (p, e, f) refl))

  binary-only : (s : Symbol) (binary : List ℕ) → binary_of env s ≡ Some binary → OnlyHere (DuplicatePolicy at) place.Binary s
  binary-only s binary e = by-test (list_any (λ b. bytes_eq b binary) (binaries set)) (λ k. rw (e, k) refl) (λ k. rw (e, k) (inl tt))

  system-only : (word : List ℕ) → OnlyHere (NotSupported at unsupported.Emulation) place.System (Word word)
  system-only word = by-test (bytes_eq word (word_of env.emulation)) (λ n. rw n (inl tt)) (λ n. rw n refl)

  error-only : (word : List ℕ) → OnlyHere (UnknownError at) place.Error (Word word)
  error-only word = by-some (error_named word) (λ errno e. rw e (inl tt)) (λ e. rw e refl)

  index-only : (word : List ℕ) (index : ℕ) → index_in word ≡ Some index → OnlyHere (UnknownArgument w.label_at) place.Index (Word word)
  index-only word index e = by-test (may_test w.name w.label index) (λ m. rw (e, m) (inl tt)) (λ m. rw (e, m) refl)

  no-ids : (log : Bool) → env.elevate ≡ false → OnlyHere (ElevateWithoutIds at) (place.Tail true log) (Word (codes "as"))
  no-ids log e = rw e refl

  sets-ids : (log : Bool) → env.elevate ≡ true → OnlyHere (ElevateOnSetId at) (place.Tail true log) (Word (codes "as"))
  sets-ids log e = by-test (names_set_id_call w.name) (λ s. rw (e, s) refl) (λ s. rw (e, s) (inl tt))

  id-only : (p : Place) → IsIdPlace p → (word : List ℕ) → OnlyHere (UnknownUser at) p (Word word)
  id-only (place.Grant log) h word = by-some (id_in env.users word) (λ id e. rw e (inl tt)) (λ e. rw e refl)
  id-only (place.Group log) h word = by-some (id_in env.groups word) (λ id e. rw e (inl tt)) (λ e. rw e refl)
  id-only (place.Id who) h word = by-some (id_in (names_for env who) word) (λ id e. rw e (inl tt)) (λ e. rw e refl)
  id-only p h word = absurd h

  re-only : (p : Place) → IsOperatorPlace p w → OnlyHere (NotSupported at unsupported.Re) p (Word (codes "re"))
  re-only place.Operator h = refl
  re-only place.Label h = rw h refl
  re-only p h = absurd h

  ask-only : (p : Place) → IsActionPlace p → env.learn ≡ true → OnlyHere (AskWithLearn at) p (Word (codes "ask"))
  ask-only place.Action h e = rw e refl
  ask-only place.Clause h e = rw e refl
  ask-only p h e = absurd h

  open-only : (p : Place) → IsOperandPlace p → OnlyHere (TooMany at) p Open
  open-only place.Operand h = by-test (nat_lt w.joins 64) (λ f. rw f (inl tt)) (λ f. rw f refl)
  open-only place.Clause h = by-test (nat_lt w.joins 64) (λ f. rw f (inl tt)) (λ f. rw f refl)
  open-only p h = absurd h

  not-only : (p : Place) → IsOperandPlace p → OnlyHere (TooMany at) p (Word (codes "not"))
  not-only place.Operand h = by-test (nat_lt w.joins 64) (λ f. rw f (inl tt)) (λ f. rw f refl)
  not-only place.Clause h = by-test (nat_lt w.joins 64) (λ f. rw f (inl tt)) (λ f. rw f refl)
  not-only p h = absurd h

  and-only : (p : Place) → IsJointPlace p → OnlyHere (TooMany at) p (Word (codes "and"))
  and-only place.Joint h = by-test (nat_lt w.joins 64) (λ f. rw f (inl tt)) (λ f. rw f refl)
  and-only p h = absurd h

  or-only : (p : Place) → IsJointPlace p → OnlyHere (TooMany at) p (Word (codes "or"))
  or-only place.Joint h = by-test (nat_lt w.joins 64) (λ f. rw f (inl tt)) (λ f. rw f refl)
  or-only p h = absurd h

  opening-only : (p : Place) → IsOperandPlace p → (s : Symbol) → (s ≡ Open) ⊎ (s ≡ Word (codes "not")) → Only at (TooMany at) (read_step env (reading_at p w set) at s)
  opening-only p h s (inl e) = subst (λ (s : Symbol). Only at (TooMany at) (read_step env (reading_at p w set) at s)) (sym e) (open-only p h)
  opening-only p h s (inr e) = subst (λ (s : Symbol). Only at (TooMany at) (read_step env (reading_at p w set) at s)) (sym e) (not-only p h)

  joining-only : (p : Place) → IsJointPlace p → (s : Symbol) → (s ≡ Word (codes "and")) ⊎ (s ≡ Word (codes "or")) → Only at (TooMany at) (read_step env (reading_at p w set) at s)
  joining-only p h s (inl e) = subst (λ (s : Symbol). Only at (TooMany at) (read_step env (reading_at p w set) at s)) (sym e) (and-only p h)
  joining-only p h s (inr e) = subst (λ (s : Symbol). Only at (TooMany at) (read_step env (reading_at p w set) at s)) (sym e) (or-only p h)

  -- a label is read where an operand may occur
  label-read : (word : List ℕ) → is_label word ≡ true → read_step env (reading_at place.Operand w set) at (Word word) ≡ Ok (reading_at place.Label (record w { label = word; label_at = at; index = 0 }) set)
  label-read word e = let o = label-other word e in rw (e, o.no_not, o.no_true) refl

  operand-of : (p : Place) → IsOperandPlace p → (s : Symbol) → is_action s ≡ false → read_step env (reading_at p w set) at s ≡ read_step env (reading_at place.Operand w set) at s
  operand-of place.Operand h s e = refl
  operand-of place.Clause h s e = clause-operand env w set at s e
  operand-of p h s e = absurd h

  label-only : (p : Place) → IsOperandPlace p → (word : List ℕ) → is_label word ≡ true → Only at (UnknownArgument at) (read_step env (reading_at p w set) at (Word word))
  label-only p h word e = subst (Only at (UnknownArgument at)) (sym (operand-of p h (Word word) (label-no_action word e) ∙ label-read word e)) (inr refl)

-- ---- readings after some symbols

place_in : Read → Place
place_in (Ok r) = r.walk.place
place_in (Err fault) = place.Start

label_place_in : Read → ℕ
label_place_in (Ok r) = r.walk.label_at
label_place_in (Err fault) = 0

leads-to : (p : Place) (x : Read) (q : Reading) → x ≡ Ok q → place_in x ≡ p → q.walk.place ≡ p
unfolding place_in
leads-to p x q e h = sym (ap place_in e) ∙ h

module _ (env : Env) (w : GrammarState) (set : List BinaryPolicy) (places : List ℕ) (q : Reading) where
  emulation-place : (p : Place) → read_over env (reading_at p w set) (spread places (Comma ∷ Word (codes "Emulation") ∷ Colon ∷ [])) ≡ Ok q → q.walk.place ≡ place.System
  unfolding place_in
  emulation-place place.Comma e = leads-to place.System _ q e refl
  emulation-place p e = unless (q.walk.place ≡ place.System) _ q e tt

  error-place : (p : Place) → read_over env (reading_at p w set) (spread places (Word (codes "deny") ∷ OpenBracket ∷ [])) ≡ Ok q → q.walk.place ≡ place.Error
  unfolding place_in
  error-place place.Action e = leads-to place.Error _ q e refl
  error-place place.Clause e = leads-to place.Error _ q e refl
  error-place place.Label e = unless (q.walk.place ≡ place.Error) _ q e (by-test (may_test w.name w.label 0) (λ m. rw m tt) (λ m. rw m tt))
  error-place (place.Grant log) e = unless (q.walk.place ≡ place.Error) _ q e (by-some (id_in env.users (codes "deny")) (λ id u. rw u tt) (λ u. rw u tt))
  error-place (place.Group log) e = unless (q.walk.place ≡ place.Error) _ q e (by-some (id_in env.groups (codes "deny")) (λ id u. rw u tt) (λ u. rw u tt))
  error-place (place.Id who) e = unless (q.walk.place ≡ place.Error) _ q e (by-some (id_in (names_for env who) (codes "deny")) (λ id u. rw u tt) (λ u. rw u tt))
  error-place place.Row e = unless (q.walk.place ≡ place.Error) _ q e (rw (no-name (codes "deny") env.emulation refl refl) tt)
  error-place place.System e = unless (q.walk.place ≡ place.Error) _ q e (rw (no-emulation (codes "deny") env.emulation refl refl) tt)
  error-place p e = unless (q.walk.place ≡ place.Error) _ q e tt

  permit-place : (p : Place) → IsActionPlace p → read_over env (reading_at p w set) (spread places (Word (codes "permit") ∷ [])) ≡ Ok q → q.walk.place ≡ place.Tail true true
  unfolding place_in
  permit-place place.Action h e = leads-to (place.Tail true true) _ q e refl
  permit-place place.Clause h e = leads-to (place.Tail true true) _ q e refl
  permit-place p h e = absurd h

  log-place : (p : Place) → IsActionPlace p → read_over env (reading_at p w set) (spread places (Word (codes "permit") ∷ Word (codes "log") ∷ [])) ≡ Ok q → q.walk.place ≡ place.Tail true false
  unfolding place_in
  log-place place.Action h e = leads-to (place.Tail true false) _ q e refl
  log-place place.Clause h e = leads-to (place.Tail true false) _ q e refl
  log-place p h e = absurd h

  index-place : (p : Place) → IsOperandPlace p → (word : List ℕ) → is_label word ≡ true → read_over env (reading_at p w set) (spread places (Word word ∷ OpenBracket ∷ [])) ≡ Ok q → (q.walk.place ≡ place.Index) × (q.walk.label_at ≡ first_place places)
  unfolding place_in label_place_in
  index-place p h word l e =
      let at : ℕ = first_place places in
      let f : Reading → Read = λ r. read_over env r (spread (other_places places) (OpenBracket ∷ [])) in
      let read = operand-of env w set at p h (Word word) (label-no_action word l) ∙ label-read env w set at word l in
      let x : Read = f (reading_at place.Label (record w { label = word; label_at = at; index = 0 }) set) in
      let ends : x ≡ Ok q = sym (ap (reading_followed f) read) ∙ e in
      (leads-to place.Index x q ends refl, sym (ap label_place_in ends))

-- the only fault at a place, of a reading that is at the place
only-at : (env : Env) (p : Place) (r : Reading) (at : ℕ) (s : Symbol) (fault : PolicyFault) → r.walk.place ≡ p → Only at fault (read_step env (reading_at p r.walk r.set) at s) → Only at fault (read_step env r at s)
only-at env p r at s fault e h = subst (λ (p : Place). Only at fault (read_step env (reading_at p r.walk r.set) at s)) (sym e) h

call-at : (env : Env) (set : List BinaryPolicy) (H : GrammarState → Type 0) (at : ℕ) (word : List ℕ) → filter_name word env.emulation ≡ None → (r : Reading) → At place.Row set H r → Only at (UnknownCall at) (read_step env r at (Word word))
call-at env set H at word e r (stands w h) = no-call env w set at word e

filters-at : (env : Env) (set : List BinaryPolicy) (H : GrammarState → Type 0) (at : ℕ) (word : List ℕ) (name : FilterName) → filter_name word env.emulation ≡ Some name → (r : Reading) → At place.Row set H r → Only at (TooMany at) (read_step env r at (Word word))
filters-at env set H at word name e r (stands w h) = many-filters env w set at word name e

binary-at : (env : Env) (set : List BinaryPolicy) (H : GrammarState → Type 0) (at : ℕ) (s : Symbol) (binary : List ℕ) → binary_of env s ≡ Some binary → (r : Reading) → At place.Binary set H r → Only at (DuplicatePolicy at) (read_step env r at s)
binary-at env set H at s binary e r (stands w h) = binary-only env w set at s binary e

module _ (text : List ℕ) (env : Env) (old : List BinaryPolicy) where
  same-reading : (before : List Token) (r : Reading) → read_over env (first_reading old) (placed text before) ≡ Ok r → (Q : Reading → Type 0) → Leads env (first_reading old) (placed text before) Q → Q r
  same-reading before r read Q l = let same : l.reading ≡ r = cc (l.over, read) in subst Q same l.holds

  rows-at : (before : List Token) (r : Reading) → read_over env (first_reading old) (placed text before) ≡ Ok r → (ps : List BinaryPolicy) (p : BinaryPolicy) → AreRead env old (symbols_at text before) (ps ++ p ∷ []) →
      At place.Row (old ++ (ps ++ p ∷ [])) (HasFilters (filters_in (old ++ (ps ++ p ∷ [])))) r
  rows-at before r read ps p a =
      let set : List BinaryPolicy = old ++ (ps ++ p ∷ []) in
      subst (λ (b : Bool). At (row_place b) set (HasFilters (filters_in set)) r) (below-last ps p)
      (same-reading before r read (AtRows old (ps ++ p ∷ [])) ((passes-rows env old a.are_rows a.new a.few).pass (placed text before) (symbols-placed text before) (first_reading old) (first-rows old)))

  header-at : (before : List Token) (r : Reading) → read_over env (first_reading old) (placed text before) ≡ Ok r → (rows : List Symbol) (ps : List BinaryPolicy) → symbols_at text before ≡ rows ++ Word (codes "Policy") ∷ Colon ∷ [] → AreRead env old rows ps →
      At place.Binary (old ++ ps) (HasFilters (filters_in (old ++ ps))) r
  header-at before r read rows ps e a =
      let set : List BinaryPolicy = old ++ ps in
      let n : ℕ = filters_in set in
      let H : GrammarState → Type 0 = HasFilters n in
      let p : Passes env (AtRows old []) (rows ++ Word (codes "Policy") ∷ Colon ∷ []) (At place.Binary set H) =
      passes-append (passes-rows env old a.are_rows a.new a.few) (passes-step (step-policy env set n (is_below ps)) (passes-one (steady (λ w at. refl)))) in
      same-reading before r read (At place.Binary set H) (p.pass (placed text before) (symbols-placed text before ∙ e) (first_reading old) (first-rows old))

  operand-at : (before : List Token) (r : Reading) → read_over env (first_reading old) (placed text before) ≡ Ok r → TakesOperand env old (symbols_at text before) → IsOperandPlace r.walk.place
  operand-at before r read (InParens g) =
      let a : Accepted env old r [] (Word (codes "true") ∷ Close ∷ []) = accepted text env old before r read _ (subst (MayContinue env old) (append_assoc (symbols_at text before) (Word (codes "true") ∷ []) (Close ∷ [])) g) in
      operand-place env r.walk r.set a.reading Close [] (λ log v. tt) (λ log v. tt) (λ v. tt) r.walk.place a.over
  operand-at before r read (Whole g) =
      let xs : List Symbol = Word (codes "permit") ∷ [] in
      let a : Accepted env old r [] (Word (codes "true") ∷ Word (codes "then") ∷ xs) = accepted text env old before r read _ (subst (MayContinue env old) (append_assoc (symbols_at text before) (Word (codes "true") ∷ []) (Word (codes "then") ∷ xs)) g) in
      operand-place env r.walk r.set a.reading (Word (codes "then")) xs (λ log v. tt) (λ log v. tt) (λ v. tt) r.walk.place a.over

  joint-at : (before : List Token) (r : Reading) → read_over env (first_reading old) (placed text before) ≡ Ok r → EndsOperand env old (symbols_at text before) → IsJointPlace r.walk.place
  joint-at before r read (InParens g) = let a = accepted text env old before r read (Close ∷ []) g in close-place env r.walk r.set a.reading r.walk.place a.over
  joint-at before r read (Whole g) = let a = accepted text env old before r read (Word (codes "then") ∷ Word (codes "permit") ∷ []) g in then-place env r.walk r.set a.reading r.walk.place a.over

  action-at : (before : List Token) (r : Reading) → read_over env (first_reading old) (placed text before) ≡ Ok r → TakesAction env old (symbols_at text before) → IsActionPlace r.walk.place
  action-at before r read g = let a = accepted text env old before r read (Word (codes "deny") ∷ OpenBracket ∷ []) g in action-place env r.walk r.set a.reading r.walk.place a.over

  -- the reading before the last symbols
  front-read : (before : List Token) (r : Reading) → read_over env (first_reading old) (placed text before) ≡ Ok r → (front xs : List Symbol) → symbols_at text before ≡ front ++ xs → (c : TokenCut text before front xs) × ReadTo text env old c.front (map (λ t. t.at) c.back) xs r
  front-read before r read front xs e =
      let c : TokenCut text before front xs = token-cut text front xs before e in
      (c, read-to text env old before c.front c.back xs r c.parts c.back_is read)

  permits-at : (before : List Token) (r : Reading) → read_over env (first_reading old) (placed text before) ≡ Ok r → AfterPermit env old (symbols_at text before) → (log : Bool) × (r.walk.place ≡ place.Tail true log)
  permits-at before r read (Permitted front e t) =
      let f = front-read before r read front (Word (codes "permit") ∷ []) e in
      let m : Reading = f.1.reading in
      (true, permit-place env m.walk m.set (map (λ t. t.at) f.0.back) r m.walk.place (action-at f.0.front m f.1.read (subst (TakesAction env old) (sym f.0.front_is) t)) f.1.over)
  permits-at before r read (Logged front e t) =
      let f = front-read before r read front (Word (codes "permit") ∷ Word (codes "log") ∷ []) e in
      let m : Reading = f.1.reading in
      (false, log-place env m.walk m.set (map (λ t. t.at) f.0.back) r m.walk.place (action-at f.0.front m f.1.read (subst (TakesAction env old) (sym f.0.front_is) t)) f.1.over)

  index-at : (before : List Token) (r : Reading) → read_over env (first_reading old) (placed text before) ≡ Ok r → (front : List Token) (label bracket : Token) → before ≡ front ++ label ∷ bracket ∷ [] → IsLabelAt text env old front label → symbol_of text bracket ≡ OpenBracket → (r.walk.place ≡ place.Index) × (r.walk.label_at ≡ label.at)
  index-at before r read front label bracket e l b =
      let same : symbols_at text (label ∷ bracket ∷ []) ≡ Word l.word ∷ OpenBracket ∷ [] = ap (λ (s : Symbol). s ∷ symbol_of text bracket ∷ []) l.symbol_is ∙ ap (λ (s : Symbol). Word l.word ∷ s ∷ []) b in
      let f : ReadTo text env old front (label.at ∷ bracket.at ∷ []) (Word l.word ∷ OpenBracket ∷ []) r = read-to text env old before front (label ∷ bracket ∷ []) (Word l.word ∷ OpenBracket ∷ []) r e same read in
      let m : Reading = f.reading in
      index-place env m.walk m.set (label.at ∷ bracket.at ∷ []) r m.walk.place (operand-at front m f.read l.takes) l.word l.labels f.over

  -- a symbol to which a special fault applies has no other fault
  pub special-only : (before : List Token) (r : Reading) → read_over env (first_reading old) (placed text before) ≡ Ok r → (at : ℕ) (s : Symbol) (fault : PolicyFault) → IsSpecial text env old before at s fault → Only at fault (read_step env r at s)
  special-only before r read at s fault (NoCall ps p word a n) = call-at env (old ++ (ps ++ p ∷ [])) _ at word n r (rows-at before r read ps p a)
  special-only before r read at s fault (ManyFilters ps p word name a n m) = filters-at env (old ++ (ps ++ p ∷ [])) _ at word name n r (rows-at before r read ps p a)
  special-only before r read at s fault (Twice rows ps here binary e a b h) = binary-at env (old ++ ps) _ at here binary b r (header-at before r read rows ps e a)
  special-only before r read at s fault (OtherEmulation front word e) =
      let f = front-read before r read front (Comma ∷ Word (codes "Emulation") ∷ Colon ∷ []) e in
      let m : Reading = f.1.reading in
      only-at env place.System r at (Word word) (NotSupported at unsupported.Emulation) (emulation-place env m.walk m.set (map (λ t. t.at) f.0.back) r m.walk.place f.1.over) (system-only env r.walk r.set at word)
  special-only before r read at s fault (ManyOpening here o t) = opening-only env r.walk r.set at r.walk.place (operand-at before r read t) here o
  special-only before r read at s fault (ManyJoining here o t) = joining-only env r.walk r.set at r.walk.place (joint-at before r read t) here o
  special-only before r read at s fault (NoLabel word l t) = label-only env r.walk r.set at r.walk.place (operand-at before r read t) word l
  special-only before r read at s fault (NoIndex front label bracket word index e l b i) =
      let x = index-at before r read front label bracket e l b in
      subst (λ (n : ℕ). Only at (UnknownArgument n) (read_step env r at (Word word))) x.1
      (only-at env place.Index r at (Word word) (UnknownArgument r.walk.label_at) x.0 (index-only env r.walk r.set at word index i))
  special-only before r read at s fault (NoRe g) =
      let a = accepted text env old before r read (Word (codes "eq") ∷ Quoted (codes "\"\"") ∷ []) g in
      re-only env r.walk r.set at r.walk.place (operator-place env r.walk r.set a.reading r.walk.place a.over)
  special-only before r read at s fault (Learns l t) = ask-only env r.walk r.set at r.walk.place (action-at before r read t) l
  special-only before r read at s fault (NoError front word e) =
      let f = front-read before r read front (Word (codes "deny") ∷ OpenBracket ∷ []) e in
      let m : Reading = f.1.reading in
      only-at env place.Error r at (Word word) (UnknownError at) (error-place env m.walk m.set (map (λ t. t.at) f.0.back) r m.walk.place f.1.over) (error-only env r.walk r.set at word)
  special-only before r read at s fault (NoIds n p) =
      let t = permits-at before r read p in
      only-at env (place.Tail true t.0) r at (Word (codes "as")) (ElevateWithoutIds at) t.1 (no-ids env r.walk r.set at t.0 n)
  special-only before r read at s fault (SetsIds n p) =
      let t = permits-at before r read p in
      only-at env (place.Tail true t.0) r at (Word (codes "as")) (ElevateOnSetId at) t.1 (sets-ids env r.walk r.set at t.0 n)
  special-only before r read at s fault (NoUser word g) =
      let a = accepted text env old before r read (Word (codes "0") ∷ Line ∷ []) g in
      id-only env r.walk r.set at r.walk.place (id-place env r.walk r.set a.reading r.walk.place a.over) word
