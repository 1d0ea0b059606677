-- The filters of a policy, in a list for each rule.
use Rattle.std.proofs.Common.{Ok, Err, Result, OnOk, filter, ◌≡◌, ◌≢◌, ◌≤◌, ◌<◌, ◌+◌, ◌-◌, ◌∙◌, ◌++◌, ℕ, suc, zero, Bool, true, false, cond, List, [], ◌∷◌, length, map, take, set, Some, option_map, refl, ap, sym, subst, arith, get_or}
use Rattle.std.proofs.lemmas.List.{append-nil, get_or_default, get_or-set_other, get_or-set_same, length-set, length_push}
use Rattle.std.proofs.lemmas.List.Elements.{All-weaker, filter-append, filter_passes}
use Rattle.std.proofs.lemmas.Option.{same_Some, slice_get-map, slice_get_within}
use Rattle.std.specs.List.{All}
use Rattle.std.specs.Prelude.{slice_get}
use Rattle.st_base.specs.Numbered.{item_at_number}
use Rattle.st_calls.proofs.Rules.{same_rule-Decides}
use Rattle.st_calls.specs.Rules.{same_rule}
use Rattle.st_calls.specs.Call.{every_rule, index_of_rule}
use Rattle.st_calls.specs.declared.call.SysCall.TheVariants.{Open}
use Rattle.st_calls.specs.declared.rule.Rule.{Rule}
use Rattle.st_calls.specs.declared.rule.Rule.TheVariants.{Call, FsRead, FsWrite}
use Rattle.st_filter.specs.Formula.{FilterValue}
use Rattle.st_filter.specs.Policies.{filters_of, is_for}
use Rattle.st_filter.specs.declared.filter.FilterName.{FilterName}
use Rattle.st_filter.specs.declared.filter.FilterName.TheVariants as name
use Rattle.st_filter.specs.declared.set.BinaryPolicy.{BinaryPolicy}
use Rattle.st_compile.proofs.Indices.{there}
use Rattle.st_compile.specs.Compiling.{AreListed, place_of}

-- ---- items of lists

-- what comes after a list leaves its items
pub items_before : {X : Type 0} (xs ys : List X) (i : ℕ) (x : X) → slice_get xs i ≡ Some x → slice_get (xs ++ ys) i ≡ Some x
items_before [] ys i x e = cc
items_before (y ∷ xs) ys zero x e = e
items_before (y ∷ xs) ys (suc i) x e = items_before xs ys i x e

-- what is set is there
at_set : {X : Type 0} (xs : List X) (i : ℕ) (x y : X) → slice_get xs i ≡ Some x → slice_get (set xs i y) i ≡ Some y
at_set [] i x y e = cc
at_set (z ∷ xs) zero x y e = refl
at_set (z ∷ xs) (suc i) x y e = at_set xs i x y e

-- the other items stay
off_set : {X : Type 0} (xs : List X) (i j : ℕ) (y : X) → i ≢ j → slice_get (set xs i y) j ≡ slice_get xs j
off_set [] i j y apart = refl
off_set (z ∷ xs) zero zero y apart = absurd (apart refl)
off_set (z ∷ xs) zero (suc j) y apart = refl
off_set (z ∷ xs) (suc i) zero y apart = refl
off_set (z ∷ xs) (suc i) (suc j) y apart = off_set xs i j y (λ e. apart (ap suc e))

-- ---- the rules

-- each rule is at its index
pub rule_at : (rule : Rule) → slice_get every_rule (index_of_rule rule) ≡ Some rule
rule_at (Call Open) = refl
rule_at (Call call) = refl
rule_at FsRead = refl
rule_at FsWrite = refl

pub rule_inside : (rule : Rule) → index_of_rule rule < length every_rule
rule_inside rule = slice_get_within every_rule (index_of_rule rule) rule (rule_at rule)

-- the place that was read is that of the rule
pub place_read : (places : List ℕ) (rule : Rule) (i byte place : ℕ) → length places ≡ length every_rule → i ≡ index_of_rule rule → byte ≡ get_or places i byte → place ≡ byte → place ≡ place_of places rule
place_read places rule i byte place long at is same =
    let inside = rule_inside rule in
    same ∙ is ∙ ap (λ n. get_or places n byte) at ∙ get_or_default places (index_of_rule rule) byte 0 (omega (arith, inside, long))

-- rules at one index are one
one_rule : (rule other : Rule) → index_of_rule rule ≡ index_of_rule other → rule ≡ other
one_rule rule other same = same_Some rule other (sym (rule_at rule) ∙ ap (slice_get every_rule) same ∙ rule_at other)

differ : (rule other : Rule) → same_rule rule other ≡ false → rule ≢ other
differ rule other apart same = clash (sym ((same_rule-Decides rule other).1 same) ∙ apart) where
  clash : true ≡ false → ⊥
  clash e = cc

-- the filters of a rule are for it
pub all_for : (rule : Rule) (filters : List FilterValue) → All (λ f. f.name ≡ name.Rule rule) (filters_of rule filters)
all_for rule filters = All-weaker (λ (f : FilterValue). is_for rule f.name ≡ true) (λ (f : FilterValue). f.name ≡ name.Rule rule) (λ f is. named_for f.name is) (filters_of rule filters) (filter_passes (λ (f : FilterValue). is_for rule f.name) filters) where
  named_for : (n : FilterName) → is_for rule n ≡ true → n ≡ name.Rule rule
  named_for (name.Rule other) is = ap name.Rule ((same_rule-Decides other rule).0 is)
  named_for (name.Other other) is = cc

-- a rule has no more filters than there are
pub fewer_for : {X : Type 0} (p : X → Bool) (xs : List X) → length (filter p xs) ≤ length xs
fewer_for p [] = omega arith
fewer_for p (x ∷ xs) = by (p x) (fewer_for p xs) where
  by : (b : Bool) → length (filter p xs) ≤ length xs → length (cond b (x ∷ filter p xs) (filter p xs)) ≤ suc (length xs)
  by true few = omega (arith, few)
  by false few = omega (arith, few)

-- what follows from two clauses
pub on_ok_two : {T E P Q R : Type 0} (r : Result T E) → (P → Q → R) → OnOk r P → OnOk r Q → OnOk r R
on_ok_two (Ok x) f p q = f p q
on_ok_two (Err e) f p q = p

-- ---- one more filter

module _ (filters : List FilterValue) (f : FilterValue) where
  more : (rule : Rule) (b : Bool) → is_for rule f.name ≡ b → filters_of rule (filters ++ f ∷ []) ≡ filters_of rule filters ++ cond b (f ∷ []) []
  more rule b is = filter-append (λ (each : FilterValue). is_for rule each.name) filters (f ∷ []) ∙ ap (λ c. filters_of rule filters ++ cond c (f ∷ []) []) is

  no_more : (rule : Rule) → is_for rule f.name ≡ false → filters_of rule (filters ++ f ∷ []) ≡ filters_of rule filters
  no_more rule is = more rule false is ∙ append-nil (filters_of rule filters)

  module _ (rule : Rule) (own : f.name ≡ name.Rule rule) (lists : List (List FilterValue)) (places : List ℕ) (are : AreListed filters lists places) where
    own_more : filters_of rule (filters ++ f ∷ []) ≡ filters_of rule filters ++ f ∷ []
    own_more = more rule true (ap (is_for rule) own ∙ (same_rule-Decides rule rule).1 refl)

    other_same : (other : Rule) → same_rule rule other ≡ false → filters_of other (filters ++ f ∷ []) ≡ filters_of other filters
    other_same other apart = no_more other (ap (is_for other) own ∙ apart)

    one_longer_now : length lists + 1 ≤ length (filters ++ f ∷ []) + 1
    one_longer_now = let long = length_push filters f in omega (arith, long, are.few)

    -- a filter more in the list of its rule
    pub listed_more : 0 < place_of places rule → AreListed (filters ++ f ∷ []) (set lists (place_of places rule) (filters_of rule filters ++ f ∷ [])) places
    listed_more some = record {
      listed = λ other. by other (same_rule rule other) refl;
      none = off_set lists (place_of places rule) 0 (filters_of rule filters ++ f ∷ []) (λ e. let zero : place_of places rule ≡ 0 = e in omega (arith, some, zero)) ∙ are.none;
      apart = are.apart;
      rules = are.rules;
      few = let long = length-set lists (place_of places rule) (filters_of rule filters ++ f ∷ []) in omega (arith, long, one_longer_now);
    }
      where
        by : (other : Rule) (b : Bool) → same_rule rule other ≡ b → slice_get (set lists (place_of places rule) (filters_of rule filters ++ f ∷ [])) (place_of places other) ≡ Some (filters_of other (filters ++ f ∷ []))
        by other true same =
            subst (λ r. slice_get (set lists (place_of places rule) (filters_of rule filters ++ f ∷ [])) (place_of places r) ≡ Some (filters_of r (filters ++ f ∷ []))) ((same_rule-Decides rule other).0 same)
            (at_set lists (place_of places rule) (filters_of rule filters) (filters_of rule filters ++ f ∷ []) (are.listed rule) ∙ ap Some (sym own_more))
        by other false apart =
            off_set lists (place_of places rule) (place_of places other) (filters_of rule filters ++ f ∷ []) (λ e. differ rule other apart (are.apart rule other some e))
            ∙ are.listed other
            ∙ ap Some (sym (other_same other apart))

    -- the first filter of its rule, in a list after the others
    module _ (none : place_of places rule ≡ 0) where
      abbrev places_now : List ℕ
      places_now = set places (index_of_rule rule) (length lists)

      own_place : place_of places_now rule ≡ length lists
      own_place =
          let within = rule_inside rule in
          get_or-set_same places (index_of_rule rule) (length lists) 0 (omega (arith, within, are.rules))

      other_place : (other : Rule) → same_rule rule other ≡ false → place_of places_now other ≡ place_of places other
      other_place other apart = get_or-set_other places (index_of_rule rule) (index_of_rule other) (length lists) 0 (λ e. differ rule other apart (one_rule rule other (sym e)))

      had_none : [] ≡ filters_of rule filters
      had_none = same_Some [] (filters_of rule filters) (sym are.none ∙ ap (slice_get lists) (sym none) ∙ are.listed rule)

      listed_by : (other : Rule) (b : Bool) → same_rule rule other ≡ b → slice_get (lists ++ (f ∷ []) ∷ []) (place_of places_now other) ≡ Some (filters_of other (filters ++ f ∷ []))
      listed_by other true same =
          subst (λ r. slice_get (lists ++ (f ∷ []) ∷ []) (place_of places_now r) ≡ Some (filters_of r (filters ++ f ∷ []))) ((same_rule-Decides rule other).0 same)
          (ap (slice_get (lists ++ (f ∷ []) ∷ [])) own_place ∙ there lists (f ∷ []) [] ∙ ap (λ (fs : List FilterValue). Some (fs ++ f ∷ [])) had_none ∙ ap Some (sym own_more))
      listed_by other false apart =
          ap (slice_get (lists ++ (f ∷ []) ∷ [])) (other_place other apart)
          ∙ items_before lists ((f ∷ []) ∷ []) (place_of places other) (filters_of other filters) (are.listed other)
          ∙ ap Some (sym (other_same other apart))

      before : (other : Rule) → place_of places other < length lists
      before other = slice_get_within lists (place_of places other) (filters_of other filters) (are.listed other)

      apart_by : (r s : Rule) (b c : Bool) → same_rule rule r ≡ b → same_rule rule s ≡ c → 0 < place_of places_now r → place_of places_now r ≡ place_of places_now s → r ≡ s
      apart_by r s true true own_r own_s some same = sym ((same_rule-Decides rule r).0 own_r) ∙ (same_rule-Decides rule s).0 own_s
      apart_by r s true false own_r no_s some same =
          let at_r : place_of places_now r ≡ length lists = ap (place_of places_now) (sym ((same_rule-Decides rule r).0 own_r)) ∙ own_place in
          let at_s = other_place s no_s in
          let less = before s in
          absurd (omega (arith, at_r, at_s, less, same))
      apart_by r s false true no_r own_s some same =
          let at_s : place_of places_now s ≡ length lists = ap (place_of places_now) (sym ((same_rule-Decides rule s).0 own_s)) ∙ own_place in
          let at_r = other_place r no_r in
          let less = before r in
          absurd (omega (arith, at_r, at_s, less, same))
      apart_by r s false false no_r no_s some same =
          are.apart r s (subst (λ n. 0 < n) (other_place r no_r) some) (sym (other_place r no_r) ∙ same ∙ other_place s no_s)

      pub listed_first : AreListed (filters ++ f ∷ []) (lists ++ (f ∷ []) ∷ []) places_now
      listed_first = record {
        listed = λ other. listed_by other (same_rule rule other) refl;
        none = items_before lists ((f ∷ []) ∷ []) 0 [] are.none;
        apart = λ r s. apart_by r s (same_rule rule r) (same_rule rule s) refl refl;
        rules = length-set places (index_of_rule rule) (length lists) ∙ are.rules;
        few = let long = length_push lists (f ∷ []) in omega (arith, long, one_longer_now);
      }

-- ---- the filters of all policies

-- with the filters of the next policy they are those of one more policy
pub rows_next : (policies : List BinaryPolicy) (i : ℕ) (filters : List FilterValue) → option_map (λ (p : BinaryPolicy). p.filters) (slice_get policies i) ≡ Some filters
    → map (λ (p : BinaryPolicy). p.filters) (take i policies) ++ filters ∷ [] ≡ map (λ (p : BinaryPolicy). p.filters) (take (suc i) policies)
rows_next [] i filters e = cc
rows_next (p ∷ policies) zero filters e = ap (λ (fs : List FilterValue). fs ∷ []) (sym (same_Some p.filters filters e))
rows_next (p ∷ policies) (suc i) filters e = ap (λ (rest : List (List FilterValue)). p.filters ∷ rest) (rows_next policies i filters e)

-- the row of a policy has its filters
pub row_there : (policies : List BinaryPolicy) (rows : List (List FilterValue)) (row : ℕ) (filters : List FilterValue) → rows ≡ map (λ (p : BinaryPolicy). p.filters) policies
    → option_map (λ (p : BinaryPolicy). p.filters) (slice_get policies row) ≡ Some filters → slice_get rows row ≡ Some filters
row_there policies rows row filters is at = ap (λ rs. slice_get rs row) is ∙ slice_get-map (λ (p : BinaryPolicy). p.filters) policies row ∙ at

-- the row of a policy of the script has its filters
pub block_there : (blocks : List BinaryPolicy) (rows : List (List FilterValue)) (n : ℕ) (block : BinaryPolicy) → rows ≡ map (λ (p : BinaryPolicy). p.filters) blocks → item_at_number blocks n ≡ Some block → slice_get rows (n - 1) ≡ Some block.filters
block_there blocks rows zero block is at = cc
block_there blocks rows (suc last) block is at =
    ap (slice_get rows) (let same : suc last - 1 ≡ last = omega arith in same) ∙ row_there blocks rows last block.filters is (ap (option_map (λ (p : BinaryPolicy). p.filters)) at)
