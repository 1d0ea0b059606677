-- Which filter a verdict names.
use Rattle.std.proofs.Common.{◌≡◌, ◌≢◌, ◌+◌, ◌∙◌, ◌++◌, ℕ, suc, Bool, true, false, cond, List, [], ◌∷◌, length, Option, Some, refl, ap, sym, subst, arith}
use Rattle.std.specs.Prelude.{slice_get}
use Rattle.st_base.specs.Numbered.{item_at_number}
use Rattle.st_base.specs.declared.ids.Ids.{Ids}
use Rattle.st_calls.specs.declared.judged.Snapshot.{Snapshot}
use Rattle.st_calls.specs.declared.judged.Verdict.{Verdict}
use Rattle.st_calls.specs.declared.judged.Verdict.TheVariants.{Permit, Refuse, Unmatched}
use Rattle.st_filter.specs.Formula.{FilterValue}
use Rattle.st_filter.specs.Judging.{holds, verdict, verdict_by, verdict_from}
use Rattle.st_filter.specs.Policies.{PoliciesValue}
use Rattle.st_filter.specs.declared.filter.Action.{Action}
use Rattle.st_filter.specs.declared.filter.Action.TheVariants as action
use Rattle.st_filter.specs.declared.filter.Grant.{Grant}
use Rattle.st_law.specs.Sessions.{SessionFilter, decision, session_filters, verdict_or}
use Rattle.st_compile.proofs.Lists.{items_before}
use Rattle.st_audit.specs.FromHistory.{decided_after, filters_for_copies}
use Rattle.st_audit.specs.How.{decided_by, decided_with, deciding_number, marks_of}

-- a verdict names one of these filters, which are numbered from n on
record Names (fs : List FilterValue) (n : ℕ) (v : Verdict) : Type 0 where
  place : ℕ
  named : FilterValue
  there : slice_get fs place ≡ Some named
  number : deciding_number v ≡ n + place

number_by : (n : ℕ) (grant : Option Grant) (ids : Ids) (a : Action) → verdict_by n grant ids a ≢ Unmatched → deciding_number (verdict_by n grant ids a) ≡ n + 0
number_by n grant ids action.Permit some = omega arith
number_by n grant ids (action.Deny errno) some = omega arith
number_by n grant ids action.Ask some = absurd (some refl)

-- a verdict that decides names a filter
names : (n : ℕ) (fs : List FilterValue) (s : Snapshot) → verdict_from n fs s ≢ Unmatched → Names fs n (verdict_from n fs s)
names n [] s some = absurd (some refl)
names n (f ∷ fs) s some = by (holds f s) some (names (suc n) fs s) where
  by : (b : Bool) → cond b (verdict_by n f.grant s.ids f.action) (verdict_from (suc n) fs s) ≢ Unmatched → (verdict_from (suc n) fs s ≢ Unmatched → Names fs (suc n) (verdict_from (suc n) fs s))
      → Names (f ∷ fs) n (cond b (verdict_by n f.grant s.ids f.action) (verdict_from (suc n) fs s))
  by true some later = record { place = 0; named = f; there = refl; number = number_by n f.grant s.ids f.action some }
  by false some later = let x = later some in let same = x.number in record { place = suc x.place; named = x.named; there = x.there; number = omega (arith, same) }

-- the filter that a verdict names is still there when filters come after it
still_named : (fs more : List FilterValue) (v : Verdict) → Names fs 1 v → item_at_number fs (deciding_number v) ≡ item_at_number (fs ++ more) (deciding_number v)
still_named fs more v x =
    let same = x.number in
    let number : deciding_number v ≡ suc x.place = omega (arith, same) in
    ap (item_at_number fs) number ∙ x.there ∙ sym (items_before fs more x.place x.named x.there) ∙ sym (ap (item_at_number (fs ++ more)) number)

module _ (policies : PoliciesValue) (session : List SessionFilter) (s : Snapshot) where
  abbrev in_force : List FilterValue
  in_force = filters_for_copies policies s

  abbrev more : List FilterValue
  more = session_filters session s.policy s.rule

  -- a verdict of the filters in force names one of them
  abbrev MarksStay : Verdict → Type 0
  MarksStay v = decided_with s.parts (deciding_number v) (marks_of (item_at_number in_force (deciding_number v))) ≡ decided_by in_force session s (deciding_number v)

  marks_stay : (v : Verdict) → verdict in_force s ≡ v → v ≢ Unmatched → MarksStay v
  marks_stay v is some =
      let x = subst (λ (w : Verdict). w ≢ Unmatched → Names in_force 1 w) is (names 1 in_force s) some in
      ap (λ o. decided_with s.parts (deciding_number v) (marks_of o)) (still_named in_force more v x)

  alike : (v : Verdict) → verdict in_force s ≡ v → decided_after policies session s v ≡ decided_by in_force session s (deciding_number (verdict_or v (verdict_from (suc (length in_force)) more s)))
  alike (Permit n ids) is = marks_stay (Permit n ids) is permits where
    permits : Permit n ids ≢ Unmatched
    permits e = cc
  alike (Refuse n errno) is = marks_stay (Refuse n errno) is refuses where
    refuses : Refuse n errno ≢ Unmatched
    refuses e = cc
  alike Unmatched is = refl

  -- what is said of a call as the filters in force say is what all filters decide
  pub decided_alike : decided_after policies session s (verdict in_force s) ≡ decided_by in_force session s (deciding_number (decision in_force more s))
  decided_alike = alike (verdict in_force s) refl
