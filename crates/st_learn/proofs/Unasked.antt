-- Where nothing was reloaded and no filter that was read asks, no filter in force asks.
use Rattle.std.proofs.Common.{◌≡◌, ◌≢◌, ℕ, Bool, true, false, cond, List, [], ◌∷◌, sym, subst}
use Rattle.std.proofs.lemmas.List.Elements.{All-nil, recursion_from_All}
use Rattle.std.specs.List.{All, AllByRecursion}
use Rattle.std.specs.Str.{bytes_eq}
use Rattle.st_filter.specs.Formula.{FilterValue}
use Rattle.st_filter.specs.Policies.{PoliciesValue, in_force, policy_of}
use Rattle.st_filter.specs.declared.filter.Action.TheVariants as action
use Rattle.st_filter.specs.declared.set.BinaryPolicy.{BinaryPolicy}
use Rattle.st_learn.specs.Learnt.{NoneAsks, NoneAsksInForce}

-- none of these filters asks
abbrev NoneOf : List FilterValue → Type 0
NoneOf filters = All (λ f. f.action ≢ action.Ask) filters

none_of_binary : (ps : List BinaryPolicy) (binary : List ℕ) → AllByRecursion (λ p. NoneOf p.filters) ps → NoneOf (policy_of ps binary)
none_of_binary [] binary each = All-nil (λ f. f.action ≢ action.Ask)
none_of_binary (p ∷ ps) binary each = by (bytes_eq p.binary binary) (none_of_binary ps binary each.1) where
  by : (b : Bool) → NoneOf (policy_of ps binary) → NoneOf (cond b p.filters (policy_of ps binary))
  by true rest = each.0
  by false rest = rest

pub unasked_as_read : (policies : PoliciesValue) (versions : List ℕ → ℕ) → NoneAsks policies.read → ((binary : List ℕ) → versions binary ≡ 0) → NoneAsksInForce policies versions
unasked_as_read policies versions none same binary =
    subst (λ (n : ℕ). NoneOf (in_force policies binary n)) (sym (same binary)) (none_of_binary policies.read binary (recursion_from_All (λ p. NoneOf p.filters) policies.read none))
