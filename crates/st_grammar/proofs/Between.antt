-- Invariants of a reading between two tokens of a policy's text.
use Rattle.std.proofs.Common.{◌≡◌, ℕ, ◌<◌, ◌≤◌, true, List, [], ◌∷◌, ◌++◌, length, take, Ok, refl, subst, ap, sym, ◌∙◌, arith, append_assoc}
use Rattle.std.proofs.lemmas.List.{take-append-le, take_all}
use Rattle.st_grammar.proofs.Common.{as_reading, BinaryPolicy, ends_filter, Env, filters_in, first_reading, GrammarState, is_between_rows, is_line_symbol, Line, MOST_FILTERS, Place, read_step, Reading, Symbol}
use Rattle.st_grammar.specs.declared.place.Place.TheVariants as place
use Rattle.st_grammar.proofs.Clauses.{line-symbol}
use Rattle.st_grammar.proofs.Readings.{reading_at}
use Rattle.st_grammar.proofs.Fronts.{After, FilterFront, Facts}
use Rattle.st_grammar.proofs.Sound.{Stands, StandsAfter, stands-step, first-stands}

-- some symbols lead to this reading
pub record IsReached (env : Env) (old : List BinaryPolicy) (r : Reading) : Type 0 where
  pub done : List Symbol
  pub stands : Stands env old done r

pub reached_first : (env : Env) (old : List BinaryPolicy) → filters_in old ≤ MOST_FILTERS → IsReached env old (first_reading old)
reached_first env old few = record { done = []; stands = first-stands env [] old few }

pub reached_step : (env : Env) (old : List BinaryPolicy) (r r' : Reading) (at : ℕ) (s : Symbol) → IsReached env old r → read_step env r at s ≡ Ok r' → IsReached env old r'
reached_step env old r r' at s h e = record { done = h.done ++ s ∷ []; stands = subst (StandsAfter env old (h.done ++ s ∷ [])) e (stands-step env old h.done r at s h.stands) }

-- ---- blank lines

blank_at : (env : Env) (at : ℕ) (w : GrammarState) (set : List BinaryPolicy) (p : Place) → is_between_rows p ≡ true → read_step env (reading_at p w set) at Line ≡ Ok (reading_at p w set)
blank_at env at w set place.Start e = refl
blank_at env at w set place.Row e = refl
blank_at env at w set p e = absurd (cc)

pub blank_line : (env : Env) (at : ℕ) (w : GrammarState) (set : List BinaryPolicy) (s : Symbol) (p : Place) → is_line_symbol s ≡ true → p ≡ w.place → is_between_rows p ≡ true → read_step env (as_reading w set) at s ≡ Ok (as_reading w set)
blank_line env at w set s p line here between = ap (read_step env (as_reading w set) at) (line-symbol s line) ∙ blank_at env at w set w.place (ap is_between_rows (sym here) ∙ between)

-- ---- the earlier policies stay a prefix of the set

-- the policies that were read before are a prefix of this set
record IsKept (old set : List BinaryPolicy) : Type 0 where
  own : List BinaryPolicy
  set_is : set ≡ old ++ own

module _ (env : Env) (old : List BinaryPolicy) (rows front : List Symbol) (w : GrammarState) (set : List BinaryPolicy) where
  kept-parts : (ps qs : List BinaryPolicy) → set ≡ old ++ ps ++ qs → IsKept old set
  kept-parts ps qs e = record { own = ps ++ qs; set_is = e ∙ append_assoc old ps qs }

  kept-following : After env old rows set → IsKept old set
  kept-following h = kept-parts h.before (h.last ∷ []) h.set_is

  kept-at : (p : Place) → Facts env old rows front p w set → IsKept old set
  kept-at place.Start h = record { own = h.policies; set_is = h.set_is }
  kept-at place.Row h = kept-following h.following
  kept-at place.PolicyColon h = record { own = h.policies; set_is = h.set_is }
  kept-at place.Binary h = record { own = h.policies; set_is = h.set_is }
  kept-at place.Comma h = kept-parts h.policies _ h.set_is
  kept-at place.Emulation h = kept-parts h.policies _ h.set_is
  kept-at place.EmulationColon h = kept-parts h.policies _ h.set_is
  kept-at place.System h = kept-parts h.policies _ h.set_is
  kept-at place.HeaderEnd h = kept-parts h.policies _ h.set_is
  kept-at place.NameColon h = kept-following h.following
  kept-at place.Clause h = kept-following h.following
  kept-at place.Operand h = kept-following h.1.following
  kept-at place.Label h = kept-following h.1.following
  kept-at place.Index h = kept-following h.1.following
  kept-at place.IndexEnd h = kept-following h.1.following
  kept-at place.Operator h = kept-following h.1.following
  kept-at place.Text h = kept-following h.1.following
  kept-at place.Joint h = kept-following h.1.following
  kept-at place.Action h = kept-following h.1.following
  kept-at place.Denial h = kept-following h.2.following
  kept-at place.Error h = kept-following h.1.following
  kept-at place.ErrorEnd h = kept-following h.1.following
  kept-at (place.Tail grant log) h = kept-following h.following
  kept-at (place.Grant log) h = kept-following h.following
  kept-at (place.User log) h = kept-following h.following
  kept-at (place.Group log) h = kept-following h.following
  kept-at place.If h = kept-following h.1.following
  kept-at place.Who h = kept-following h.1.following
  kept-at (place.Comparison who) h = kept-following h.1.following
  kept-at (place.Id who) h = kept-following h.1.following
  kept-at place.FilterEnd h = kept-following h.following

  room-for : (P : List Symbol → Type 0) → FilterFront env old rows front w.filters w.name set P → filters_in set < MOST_FILTERS
  room-for P h = omega (arith, h.filters_are, h.few)

  room-at : (p : Place) → Facts env old rows front p w set → ends_filter p ≡ true → filters_in set < MOST_FILTERS
  room-at place.Denial h e = room-for _ h.2
  room-at (place.Tail grant log) h e = room-for _ h
  room-at (place.User log) h e = room-for _ h
  room-at place.FilterEnd h e = room-for _ h
  room-at _ h e = absurd (cc)

pub old_is_kept : (env : Env) (old : List BinaryPolicy) (r : Reading) → IsReached env old r → take (length old) r.set ≡ old
old_is_kept env old r h =
    let k : IsKept old r.set = kept-at env old h.stands.rows h.stands.front r.walk r.set r.walk.place h.stands.facts in
    let front : take (length old) (old ++ k.own) ≡ take (length old) old = take-append-le (length old) old k.own (omega arith) in
    ap (take (length old)) k.set_is ∙ front ∙ take_all (length old) old (omega arith)

-- at a place where a filter may end, there is room for it
pub has_room : (env : Env) (old : List BinaryPolicy) (r : Reading) → IsReached env old r → ends_filter r.walk.place ≡ true → filters_in r.set < MOST_FILTERS
has_room env old r h e = room-at env old h.stands.rows h.stands.front r.walk r.set r.walk.place h.stands.facts e
