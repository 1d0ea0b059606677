-- How far a walk is before its first look.
use Rattle.std.proofs.Common.{◌≡◌, ◌≤◌, ℕ, zero, suc, ◌-◌, Bool, true, false, cond, not, ◌||◌, ◌&&◌, List, [], ◌∷◌, length, take, Some, None, nat_eq, nat_lt, refl, ap, sym, ◌∙◌, arith, length-append}
use Rattle.std.specs.List.{filter, flat_map, list_all}
use Rattle.std.proofs.lemmas.Bool.{ltb-true, true≢false}
use Rattle.st_base.specs.declared.errno.Errno.TheVariants.{ENOENT, ENAMETOOLONG}
use Rattle.st_names.specs.Name.{Components, components_of, has_long_part, is_component, parent, printed_name, with_slash}
use Rattle.st_names.specs.declared.limits.TheConstants.{LONGEST_NAME}
use Rattle.st_model.specs.Walk.{WalkState, Fault, Name, is_last, is_up, name_after_parents, rest_after_ups, start_of_name, start_walk, walk_components}
use Rattle.st_resolve.specs.Walk.{fault_before_lookups, walk_step}
use Rattle.st_resolve.proofs.Texts.{not_zero}
use Rattle.st_resolve.specs.declared.walk.WalkStep.TheVariants as step

all_up_by : (b u : Bool) (part : List ℕ) (rest : Components) (ups : Bool) → is_up part ≡ u → ups ≡ is_last (rest_after_ups rest) →
    ((not b || u) && ups) ≡ is_last (rest_after_ups (cond b (part ∷ rest) rest))
all_up_by false u part rest ups is e = e
all_up_by true true part rest ups is e = e ∙ sym (ap (λ (up : Bool). is_last (cond up (rest_after_ups rest) (part ∷ rest))) is)
all_up_by true false part rest ups is e = not_zero (length (part ∷ rest)) (omega arith) ∙ sym (ap (λ (up : Bool). is_last (cond up (rest_after_ups rest) (part ∷ rest))) is)

-- no component but `..` is left exactly if each part is `..` or no component
pub all_up : (parts : Components) → list_all (λ part. not (is_component part) || is_up part) parts ≡ is_last (rest_after_ups (filter is_component parts))
all_up [] = refl
all_up (part ∷ parts) = all_up_by (is_component part) (is_up part) part (filter is_component parts) _ refl (all_up parts)

-- ---- how long names are

spelled_shorter : (name : Components) (n : ℕ) → length (flat_map with_slash (take n name)) ≤ length (flat_map with_slash name)
spelled_shorter [] zero = omega arith
spelled_shorter [] (suc n) = omega arith
spelled_shorter (part ∷ name) zero = omega arith
spelled_shorter (part ∷ name) (suc n) =
    let rest = spelled_shorter name n in
    omega (arith, rest, length-append part (flat_map with_slash (take n name)), length-append part (flat_map with_slash name))

-- a prefix of a name is no longer than the name
front_shorter : (name : Components) (n : ℕ) → length (printed_name (take n name)) ≤ length (printed_name name)
front_shorter [] zero = omega arith
front_shorter [] (suc n) = omega arith
front_shorter (part ∷ name) zero = omega arith
front_shorter (part ∷ name) (suc n) = spelled_shorter (part ∷ name) (suc n)

up_by : (b : Bool) (name up : Components) (most : ℕ) → length (printed_name name) ≤ most → length (printed_name up) ≤ most → length (printed_name (cond b up name)) ≤ most
up_by true name up most short shorter = shorter
up_by false name up most short shorter = short

up_shorter : (name rest : Components) (most : ℕ) → length (printed_name name) ≤ most → length (printed_name (name_after_parents name rest)) ≤ most
up_shorter name [] most short = short
up_shorter name (part ∷ rest) most short =
    up_by (is_up part) name (name_after_parents (parent name) rest) most short
    (up_shorter (parent name) rest most (let front = front_shorter name (length name - 1) in omega (arith, front, short)))

start_by : (b : Bool) (cwd : Components) (most : ℕ) → 1 ≤ most → length (printed_name cwd) ≤ most → length (printed_name (cond b [] cwd)) ≤ most
start_by true cwd most one short = one
start_by false cwd most one short = short

end_by : (b : Bool) (name : Components) → length (printed_name name) ≤ LONGEST_NAME → nat_lt LONGEST_NAME (length (printed_name name)) ≡ b → step.Name ≡ walk_step (cond b (Fault ENAMETOOLONG) (Name name))
end_by true name short is = absurd (let long = ltb-true _ _ is in omega (arith, long, short))
end_by false name short is = refl

-- a walk that needs no look has its name
walk_up : (done rest : Components) (follow : Bool) → length (printed_name done) ≤ LONGEST_NAME → is_last rest ≡ true → step.Name ≡ walk_step (walk_components done rest 0 [] follow)
walk_up done [] follow short none = end_by _ done short refl
walk_up done (part ∷ rest) follow short none = absurd (true≢false (sym none ∙ sym (not_zero (length (part ∷ rest)) (omega arith))))

goes_by : (empty long : Bool) (on : WalkState) → None ≡ cond empty (Some ENOENT) (cond long (Some ENAMETOOLONG) None) → cond empty (Fault ENOENT) (cond long (Fault ENAMETOOLONG) on) ≡ on
goes_by true long on none = cc
goes_by false true on none = cc
goes_by false false on none = refl

begins : (text : List ℕ) (cwd : Components) (follow : Bool) → None ≡ fault_before_lookups text →
    start_walk text cwd follow [] ≡ walk_components (name_after_parents (start_of_name text cwd) (components_of text)) (rest_after_ups (components_of text)) 0 [] follow
begins text cwd follow none = goes_by (nat_eq (length text) 0) (has_long_part text) _ none

-- a text that has no component but `..` means its name before any look
pub name_first : (text : List ℕ) (cwd : Components) (follow : Bool) → length (printed_name cwd) ≤ LONGEST_NAME → None ≡ fault_before_lookups text → is_last (rest_after_ups (components_of text)) ≡ true →
    step.Name ≡ walk_step (start_walk text cwd follow [])
name_first text cwd follow short none up =
    walk_up _ _ follow (up_shorter (start_of_name text cwd) (components_of text) LONGEST_NAME (start_by _ cwd LONGEST_NAME (omega arith) short)) up
    ∙ sym (ap walk_step (begins text cwd follow none))
