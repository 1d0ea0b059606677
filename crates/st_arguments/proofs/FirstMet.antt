-- The arguments of a call one after another, and the first link on the way to one of them.
use Rattle.std.proofs.Common.{◌≡◌, ◌<◌, ℕ, suc, ◌+◌, List, [], ◌∷◌, length, drop, get_or, refl, sym, ap, ◌∙◌, add-one, drop-cons, Option, Some, None}
use Rattle.std.specs.List.{zip}
use Rattle.st_calls.specs.Call.{follows}
use Rattle.st_calls.specs.declared.argument.ArgSpec.{ArgSpec}
use Rattle.st_calls.specs.declared.argument.ArgText.{ArgText}
use Rattle.st_calls.specs.declared.call.SysCall.{SysCall}
use Rattle.st_model.specs.Tree.{Tree}
use Rattle.st_names.specs.Name.{Components}
use Rattle.st_law.specs.Arguments.{first_of_two, link_among, link_of_part}

module _ (tree : Tree) (call : SysCall) (regs : List ℕ) where
  -- the first link on the way to one of the arguments
  abbrev pub link_of : ArgSpec × ArgText → Option Components
  link_of pair = link_of_part pair.0.kind tree (follows call regs pair.0.register) pair.1.text

  -- the link of the first argument that has one
  abbrev pub first_met : List (ArgSpec × ArgText) → Option Components
  first_met [] = None
  first_met (pair ∷ pairs) = first_of_two (link_of pair) (first_met pairs)

  pub met_is : (specs : List ArgSpec) (args : List ArgText) → link_among tree call regs specs args ≡ first_met (zip specs args)
  met_is [] args = refl
  met_is (spec ∷ specs) [] = refl
  met_is (spec ∷ specs) (arg ∷ args) = ap (first_of_two (link_of (spec, arg))) (met_is specs args)

  met_next : (pairs : List (ArgSpec × ArgText)) (n : ℕ) (pair : ArgSpec × ArgText) → n < length pairs → pair ≡ get_or pairs n pair → first_met (drop n pairs) ≡ first_of_two (link_of pair) (first_met (drop (n + 1) pairs))
  met_next pairs n pair within is =
      ap first_met (drop-cons pairs n pair within)
      ∙ ap (λ (p : ArgSpec × ArgText). first_of_two (link_of p) (first_met (drop (suc n) pairs))) (sym is)
      ∙ ap (λ (m : ℕ). first_of_two (link_of pair) (first_met (drop m pairs))) (sym (add-one n))

  -- an argument without a link
  pub met_on : (pairs : List (ArgSpec × ArgText)) (n : ℕ) (pair : ArgSpec × ArgText) → n < length pairs → pair ≡ get_or pairs n pair → None ≡ link_of pair → first_met (drop n pairs) ≡ first_met (drop (n + 1) pairs)
  met_on pairs n pair within is none = met_next pairs n pair within is ∙ ap (λ (o : Option Components). first_of_two o (first_met (drop (n + 1) pairs))) (sym none)

  -- an argument with a link
  pub met_here : (pairs : List (ArgSpec × ArgText)) (n : ℕ) (pair : ArgSpec × ArgText) (link : Components) → n < length pairs → pair ≡ get_or pairs n pair → Some link ≡ link_of pair → first_met (drop n pairs) ≡ Some link
  met_here pairs n pair link within is some = met_next pairs n pair within is ∙ ap (λ (o : Option Components). first_of_two o (first_met (drop (n + 1) pairs))) (sym some)

  -- no argument is left
  pub met_end : (pairs : List (ArgSpec × ArgText)) (n : ℕ) → n ≡ length pairs → first_met (drop n pairs) ≡ None
  met_end pairs n all = ap (λ (m : ℕ). first_met (drop m pairs)) all ∙ ap first_met (drop_all pairs) where
    drop_all : (pairs : List (ArgSpec × ArgText)) → drop (length pairs) pairs ≡ []
    drop_all [] = refl
    drop_all (pair ∷ pairs) = drop_all pairs
