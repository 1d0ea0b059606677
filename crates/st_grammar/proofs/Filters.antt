-- Symbols that spell a predicate, or an action and what follows it, are read so.
use Rattle.std.proofs.Common.{◌≡◌, ℕ, Bool, true, false, List, [], ◌∷◌, ◌++◌, Option, None, Some, option_map, Ok, codes, refl, ap, sym, subst, ◌∙◌, append_assoc}
use Rattle.st_grammar.proofs.Common.{Action, add_filter, Ask, Asks, Cmp, Colon, Comma, comparison, Denies, DeniesWith, Deny, Env, EPERM, filter_of, FilterName, FilterValue, Formula, fresh, GrammarState, Grant, Grants, GrantsAndLogs, grants, id_in, If, is_colon_symbol, IsAction, IsGrant, IsPredicate, IsTail, Line, Logs, LogsAndGrants, MayGrant, names_for, OfBoth, OfGroup, OfUser, Permit, Permits, Place, Plain, Predicate, read_step, Reading, names_set_id_call, Symbol, Who, Whoever, with_group, Word}
use Rattle.st_grammar.specs.declared.place.Place.TheVariants as place
use Rattle.st_grammar.proofs.Readings.{Step1, Passes, passes-one, passes-step, passes-alike, Alike, reading_at, At, stands, goes, steady}
use Rattle.st_grammar.proofs.Expressions.{Kept, blank}
use Rattle.st_grammar.proofs.Clauses.{user-tail, denial-tail, is_open_bracket}

-- this many filters are read
pub record HasFilters (n : ℕ) (w : GrammarState) : Type 0 where
  pub filters_are : w.filters ≡ n

-- this many filters are read, and the last is this filter so far
pub record IsFilterSo (n : ℕ) (v : FilterValue) (w : GrammarState) : Type 0 where
  pub filters_are : w.filters ≡ n
  pub filter_is : filter_of w ≡ v

abbrev pub AtFilter : Kept → Place → FilterValue → Reading → Type 0
AtFilter k p v = At p k.set (IsFilterSo k.filters v)

-- the filter is added
abbrev pub AtAdded : Kept → FilterValue → Reading → Type 0
AtAdded k v = At place.Row (add_filter k.set v) (HasFilters k.filters)

-- the place after `then`, or, without an expression, at the beginning of a clause
abbrev pub action_place : Bool → Place
action_place true = place.Action
action_place false = place.Clause

-- ---- the rest of a filter

module _ (env : Env) (k : Kept) where
  -- the end of a row adds the filter that was read
  added : {p : Place} (v : FilterValue) → ((w : GrammarState) (at : ℕ) → read_step env (reading_at p w k.set) at Line ≡ Ok (reading_at place.Row (fresh place.Row w.filters w.name) (add_filter k.set (filter_of w)))) → Step1 env (AtFilter k p v) Line (AtAdded k v)
  added v f = goes (λ at w h. record {
    walk = fresh place.Row w.filters w.name;
    step = f w at ∙ ap (λ (v : FilterValue). Ok (reading_at place.Row (fresh place.Row w.filters w.name) (add_filter k.set v))) h.filter_is;
    holds = record { filters_are = h.filters_are };
  })

  record IsCompared (v : FilterValue) (c : Cmp) (w : GrammarState) : Type 0 where
    so : IsFilterSo k.filters v w
    cmp_is : w.cmp ≡ c

  step-comparison : (v : FilterValue) (s : Symbol) (who : Who) (c : Cmp) → comparison s ≡ Some c → Step1 env (AtFilter k (place.Comparison who) v) s (At (place.Id who) k.set (IsCompared v c))
  step-comparison v s who c e = goes (λ at w h. record { walk = record w { cmp = c }; step = rw e refl; holds = record { so = record { filters_are = h.filters_are; filter_is = h.filter_is }; cmp_is = refl } })

  step-id : (v : FilterValue) (word : List ℕ) (who : Who) (c : Cmp) (n : ℕ) → id_in (names_for env who) word ≡ Some n →
      Step1 env (At (place.Id who) k.set (IsCompared v c)) (Word word) (AtFilter k place.FilterEnd (record v { predicate = Some (record { who = who; cmp = c; id = n }) }))
  step-id v word who c n e = goes (λ at w h. record {
    walk = record w { predicate = Some (record { who = who; cmp = w.cmp; id = n }) };
    step = rw e refl;
    holds = record { filters_are = h.so.filters_are; filter_is = ap (λ (c : Cmp). record (filter_of w) { predicate = Some (record { who = who; cmp = c; id = n }) }) h.cmp_is ∙ ap (λ (v : FilterValue). record v { predicate = Some (record { who = who; cmp = c; id = n }) }) h.so.filter_is };
  })

  -- a predicate, and the end of the row
  passes-predicate : (v : FilterValue) → v.predicate ≡ None → {grant log : Bool} {ts : List Symbol} {p : Option Predicate} → IsPredicate env ts p → Passes env (AtFilter k (place.Tail grant log) v) (ts ++ Line ∷ []) (AtAdded k (record v { predicate = p }))
  passes-predicate v none {grant} {log} Whoever = passes-one (subst (λ x. Step1 env (AtFilter k (place.Tail grant log) v) Line (AtAdded k (record v { predicate = x }))) none (added v (λ w at. refl)))
  passes-predicate v none {grant} {log} (If {w} {id} {s} {who} {c} {n} x y z) =
      passes-step (steady {H = IsFilterSo k.filters v} (λ w at. refl))
      (passes-step (steady {H = IsFilterSo k.filters v} (λ w at. refl))
      (passes-step (steady {q = place.Comparison who} {H = IsFilterSo k.filters v} (λ w at. rw x refl))
      (passes-step (step-comparison v s who c y)
      (passes-step (step-id v id who c n z)
      (passes-one (added (record v { predicate = Some (record { who = who; cmp = c; id = n }) }) (λ w at. refl)))))))

  -- ---- what may follow an action

  step-log : (v : FilterValue) (grant : Bool) → Step1 env (AtFilter k (place.Tail grant true) v) (Word (codes "log")) (AtFilter k (place.Tail grant false) (record v { log = true }))
  step-log v grant = goes (λ at w h. record { walk = record w { log = true }; step = refl; holds = record { filters_are = h.filters_are; filter_is = ap (λ (v : FilterValue). record v { log = true }) h.filter_is } })

  step-as : (v : FilterValue) (log : Bool) → env.elevate ≡ true → names_set_id_call v.name ≡ false → Step1 env (AtFilter k (place.Tail true log) v) (Word (codes "as")) (AtFilter k (place.Grant log) v)
  step-as v log e n = goes (λ at w h. let unset : names_set_id_call w.name ≡ false = ap (λ (v : FilterValue). names_set_id_call v.name) h.filter_is ∙ n in record { walk = w; step = rw (e, unset) refl; holds = h })

  step-user : (v : FilterValue) (log : Bool) (user : List ℕ) (u : ℕ) → id_in env.users user ≡ Some u → Step1 env (AtFilter k (place.Grant log) v) (Word user) (AtFilter k (place.User log) (record v { grant = Some (record { user = Some u; group = None }) }))
  step-user v log user u e = goes (λ at w h. record { walk = grants (Some u) (place.User log) w; step = rw e refl; holds = record { filters_are = h.filters_are; filter_is = ap (λ (v : FilterValue). record v { grant = Some (record { user = Some u; group = None }) }) h.filter_is } })

  step-no_user : (v : FilterValue) (log : Bool) → Step1 env (AtFilter k (place.Grant log) v) Colon (AtFilter k (place.Group log) (record v { grant = Some (record { user = None; group = None }) }))
  step-no_user v log = goes (λ at w h. record { walk = grants None (place.Group log) w; step = refl; holds = record { filters_are = h.filters_are; filter_is = ap (λ (v : FilterValue). record v { grant = Some (record { user = None; group = None }) }) h.filter_is } })

  step-group : (v : FilterValue) (log : Bool) (user : Option ℕ) (group : List ℕ) (g : ℕ) → id_in env.groups group ≡ Some g →
      Step1 env (AtFilter k (place.Group log) (record v { grant = Some (record { user = user; group = None }) })) (Word group) (AtFilter k (place.Tail false log) (record v { grant = Some (record { user = user; group = Some g }) }))
  step-group v log user group g e = goes (λ at w h. record { walk = record w { grant = option_map (with_group g) w.grant }; step = rw e refl; holds = record { filters_are = h.filters_are; filter_is = ap (λ (v : FilterValue). record v { grant = option_map (with_group g) v.grant }) h.filter_is } })

  -- symbols whose first doesn't continue a user or `deny`
  record Opening (ts : List Symbol) : Type 0 where
    first : Symbol
    rest : List Symbol
    parts : ts ≡ first ∷ rest
    no_colon : is_colon_symbol first ≡ false
    no_bracket : is_open_bracket first ≡ false

  opening : (s : Symbol) (ts : List Symbol) → is_colon_symbol s ≡ false → is_open_bracket s ≡ false → Opening (s ∷ ts)
  opening s ts c b = record { first = s; rest = ts; parts = refl; no_colon = c; no_bracket = b }

  predicate-opening : {ts : List Symbol} {p : Option Predicate} → IsPredicate env ts p → Opening (ts ++ Line ∷ [])
  predicate-opening Whoever = opening Line [] refl refl
  predicate-opening (If {w} {id} {s} x y z) = opening Comma (Word (codes "if") ∷ Word w ∷ s ∷ Word id ∷ Line ∷ []) refl refl

  tail-opening : {name : FilterName} {a : Action} {ts : List Symbol} {g : Option Grant} {l : Bool} → IsTail env name a ts g l → (us : List Symbol) → Opening us → Opening (ts ++ us)
  tail-opening Plain us o = o
  tail-opening Logs us o = opening (Word (codes "log")) us refl refl
  tail-opening (Grants {ts} m p) us o = opening (Word (codes "as")) (ts ++ us) refl refl
  tail-opening (GrantsAndLogs {ts} m p) us o = opening (Word (codes "as")) ((ts ++ Word (codes "log") ∷ []) ++ us) refl refl
  tail-opening (LogsAndGrants {ts} m p) us o = opening (Word (codes "log")) (Word (codes "as") ∷ (ts ++ us)) refl refl

  -- after a user, and after `deny`, such symbols are read as after an action
  passes-user : (v : FilterValue) (log : Bool) (Q : Reading → Type 0) (us : List Symbol) → Opening us → Passes env (AtFilter k (place.Tail false log) v) us Q → Passes env (AtFilter k (place.User log) v) us Q
  passes-user v log Q us o p = subst (λ (us : List Symbol). Passes env (AtFilter k (place.User log) v) us Q) (sym o.parts)
      (passes-alike alike (subst (λ (us : List Symbol). Passes env (AtFilter k (place.Tail false log) v) us Q) o.parts p)) where
        alike : (r : Reading) → AtFilter k (place.User log) v r → Alike env r o.first (AtFilter k (place.Tail false log) v)
        alike r (stands w h) = record { other = reading_at (place.Tail false log) w k.set; holds = stands w h; same = λ at. user-tail env w k.set at log o.first o.no_colon }

  passes-deny : (v : FilterValue) (Q : Reading → Type 0) (us : List Symbol) → Opening us → Passes env (AtFilter k (place.Tail false true) v) us Q → Passes env (AtFilter k place.Denial v) us Q
  passes-deny v Q us o p = subst (λ (us : List Symbol). Passes env (AtFilter k place.Denial v) us Q) (sym o.parts)
      (passes-alike alike (subst (λ (us : List Symbol). Passes env (AtFilter k (place.Tail false true) v) us Q) o.parts p)) where
        alike : (r : Reading) → AtFilter k place.Denial v r → Alike env r o.first (AtFilter k (place.Tail false true) v)
        alike r (stands w h) = record { other = reading_at (place.Tail false true) w k.set; holds = stands w h; same = λ at. denial-tail env w k.set at o.first o.no_bracket }

  -- ids, and what follows them
  passes-grant : (v : FilterValue) (Q : Reading → Type 0) (log : Bool) {ts : List Symbol} {x : Grant} → IsGrant env ts x → (us : List Symbol) → Opening us → Passes env (AtFilter k (place.Tail false log) (record v { grant = Some x })) us Q → Passes env (AtFilter k (place.Grant log) v) (ts ++ us) Q
  passes-grant v Q log (OfUser {user} {u} e) us o p = passes-step (step-user v log user u e) (passes-user _ log Q us o p)
  passes-grant v Q log (OfBoth {user} {group} {u} {g = x} e h) us o p =
      passes-step (step-user v log user u e)
      (passes-step (steady {H = IsFilterSo k.filters (record v { grant = Some (record { user = Some u; group = None }) })} (λ w at. refl))
      (passes-step (step-group v log (Some u) group x h) p))
  passes-grant v Q log (OfGroup {group} {g = x} h) us o p = passes-step (step-no_user v log) (passes-step (step-group v log None group x h) p)

  may-facts : (name : FilterName) (a : Action) → MayGrant env name a → (a ≡ Permit) × (env.elevate ≡ true) × (names_set_id_call name ≡ false)
  may-facts name Permit m = (refl, m.0, m.1)
  may-facts name (Deny errno) m = absurd m
  may-facts name Ask m = absurd m

  -- `as`, which only a permit may have
  passes-may : (v : FilterValue) (Q : Reading → Type 0) (grant log : Bool) (us : List Symbol) → (v.action ≡ Permit → grant ≡ true) → MayGrant env v.name v.action → Passes env (AtFilter k (place.Grant log) v) us Q → Passes env (AtFilter k (place.Tail grant log) v) (Word (codes "as") ∷ us) Q
  passes-may v Q grant log us c m p =
      let n = may-facts v.name v.action m in
      subst (λ (b : Bool). Passes env (AtFilter k (place.Tail b log) v) (Word (codes "as") ∷ us) Q) (sym (c n.0)) (passes-step (step-as v log n.1 n.2) p)

  -- what follows an action, up to the end of the row
  passes-tail : (name : FilterName) (f : Formula) (a : Action) (grant : Bool) → (a ≡ Permit → grant ≡ true) → {ts us : List Symbol} {g : Option Grant} {l : Bool} {p : Option Predicate} → IsTail env name a ts g l → IsPredicate env us p →
      Passes env (AtFilter k (place.Tail grant true) (record (blank name f) { action = a })) (ts ++ (us ++ Line ∷ [])) (AtAdded k (record { name = name; formula = f; action = a; grant = g; log = l; predicate = p }))
  passes-tail name f a grant c Plain q = passes-predicate (record (blank name f) { action = a }) refl q
  passes-tail name f a grant c {us} Logs q = passes-step (step-log (record (blank name f) { action = a }) grant) (passes-predicate _ refl q)
  passes-tail name f a grant c {us} (Grants {ts} {g} m x) q =
      passes-may (record (blank name f) { action = a }) _ grant true (ts ++ (us ++ Line ∷ [])) c m (passes-grant _ _ true x (us ++ Line ∷ []) (predicate-opening q) (passes-predicate (record (blank name f) { action = a; grant = Some g }) refl q))
  passes-tail name f a grant c {us} {p} (GrantsAndLogs {ts} {g} m x) q =
      let v : FilterValue = record (blank name f) { action = a } in
      let rest : List Symbol = Word (codes "log") ∷ (us ++ Line ∷ []) in
      subst (λ (xs : List Symbol). Passes env (AtFilter k (place.Tail grant true) v) (Word (codes "as") ∷ xs) (AtAdded k (record v { grant = Some g; log = true; predicate = p }))) (sym (append_assoc ts (Word (codes "log") ∷ []) (us ++ Line ∷ [])))
      (passes-may v _ grant true (ts ++ rest) c m (passes-grant v _ true x rest (opening (Word (codes "log")) (us ++ Line ∷ []) refl refl)
      (passes-step (step-log (record v { grant = Some g }) false) (passes-predicate _ refl q))))
  passes-tail name f a grant c {us} (LogsAndGrants {ts} {g} m x) q =
      let v : FilterValue = record (blank name f) { action = a } in
      passes-step (step-log v grant)
      (passes-may (record v { log = true }) _ grant false (ts ++ (us ++ Line ∷ [])) c m (passes-grant _ _ false x (us ++ Line ∷ []) (predicate-opening q) (passes-predicate (record v { log = true; grant = Some g }) refl q)))

  -- ---- actions

  abbrev Acts : Place → List ℕ → Action → Place → Type 0
  Acts p word a q = (w : GrammarState) (at : ℕ) → read_step env (reading_at p w k.set) at (Word word) ≡ Ok (reading_at q (record w { action = a }) k.set)

  step-acts : {p q : Place} (v : FilterValue) (word : List ℕ) (a : Action) → Acts p word a q → Step1 env (AtFilter k p v) (Word word) (AtFilter k q (record v { action = a }))
  step-acts v word a f = goes (λ at w h. record { walk = record w { action = a }; step = f w at; holds = record { filters_are = h.filters_are; filter_is = ap (λ (v : FilterValue). record v { action = a }) h.filter_is } })

  permits : (b : Bool) → Acts (action_place b) (codes "permit") Permit (place.Tail true true)
  permits true w at = refl
  permits false w at = refl

  denies : (b : Bool) → Acts (action_place b) (codes "deny") (Deny EPERM) place.Denial
  denies true w at = refl
  denies false w at = refl

  asks : env.learn ≡ false → (b : Bool) → Acts (action_place b) (codes "ask") Ask (place.Tail false true)
  asks e true w at = rw e refl
  asks e false w at = rw e refl

  -- an action, and what follows it up to the end of the row
  pub passes-action : (name : FilterName) (f : Formula) (b : Bool) {ss ts us : List Symbol} {a : Action} {g : Option Grant} {l : Bool} {p : Option Predicate} → IsAction env ss a → IsTail env name a ts g l → IsPredicate env us p →
      Passes env (AtFilter k (action_place b) (blank name f)) (ss ++ (ts ++ (us ++ Line ∷ []))) (AtAdded k (record { name = name; formula = f; action = a; grant = g; log = l; predicate = p }))
  passes-action name f b Permits t q = passes-step (step-acts (blank name f) (codes "permit") Permit (permits b)) (passes-tail name f Permit true (λ e. refl) t q)
  passes-action name f b {ts} {us} Denies t q =
      passes-step (step-acts (blank name f) (codes "deny") (Deny EPERM) (denies b))
      (passes-deny _ _ (ts ++ (us ++ Line ∷ [])) (tail-opening t (us ++ Line ∷ []) (predicate-opening q)) (passes-tail name f (Deny EPERM) false (λ e. absurd (cc)) t q))
  passes-action name f b (DeniesWith {w} {errno} e) t q =
      passes-step (step-acts (blank name f) (codes "deny") (Deny EPERM) (denies b))
      (passes-step (steady {q = place.Error} {H = IsFilterSo k.filters (record (blank name f) { action = Deny EPERM })} (λ w at. refl))
      (passes-step (step-acts {q = place.ErrorEnd} _ w (Deny errno) (λ w at. rw e refl))
      (passes-step (steady {H = IsFilterSo k.filters (record (blank name f) { action = Deny errno })} (λ w at. refl))
      (passes-tail name f (Deny errno) false (λ e. absurd (cc)) t q))))
  passes-action name f b (Asks e) t q = passes-step (step-acts (blank name f) (codes "ask") Ask (asks e b)) (passes-tail name f Ask false (λ e. absurd (cc)) t q)
