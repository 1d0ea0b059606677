-- Properties of every walk.
use Rattle.std.proofs.Common.{◌≡◌, ◌≤◌, ℕ, ◌+◌, Bool, true, false, if◌then◌else◌, List, [], ◌∷◌, ◌++◌, length, refl, nat_eq, nat_lt, ◌&&◌, not, subst}
use Rattle.std.proofs.lemmas.Bool.{ltb-false}
use Rattle.st_base.specs.declared.errno.Errno.{Errno}
use Rattle.st_base.specs.declared.errno.Errno.TheVariants.{ENOENT, ENOTDIR, ELOOP, ENAMETOOLONG}
use Rattle.st_names.specs.Name.{Components, IsShort, components_of, printed_name}
use Rattle.st_model.specs.Walk.{WalkState, Name, Next, Fault, needs_lookup, walk, walk_components, name_after_parents, rest_after_ups, walk_end, start_of_name, is_last}
use Rattle.st_names.specs.declared.seen.SeenText.{SeenText}
use Rattle.st_names.specs.declared.seen.SeenText.TheVariants.{Missing, NotDir, Dir, File, Link}
use Rattle.st_names.specs.declared.limits.TheConstants.{LONGEST_NAME}
use Rattle.st_model.specs.declared.limits.TheConstants.{MOST_LINKS}

either_stays : (b d : Bool) (w e x y : WalkState) → (needs_lookup x ≡ false → y ≡ x) → needs_lookup (if b then w else if d then e else x) ≡ false → (if b then w else if d then e else y) ≡ (if b then w else if d then e else x)
either_stays true d w e x y step h = refl
either_stays false true w e x y step h = refl
either_stays false false w e x y step h = step h

walk_on_stays : (done rest : Components) (n : ℕ) (lookups more : List SeenText) (follow : Bool) → needs_lookup (walk_components done rest n lookups follow) ≡ false → walk_components done rest n (lookups ++ more) follow ≡ walk_components done rest n lookups follow
walk_on_stays done [] n lookups more follow h = refl
walk_on_stays done (part ∷ rest) n [] more follow h = cc
walk_on_stays done (part ∷ rest) n (Dir ∷ lookups) more follow h = walk_on_stays (name_after_parents (done ++ part ∷ []) rest) (rest_after_ups rest) n lookups more follow h
walk_on_stays done (part ∷ rest) n (File ∷ lookups) more follow h = refl
walk_on_stays done (part ∷ rest) n (Missing ∷ lookups) more follow h = refl
walk_on_stays done (part ∷ rest) n (NotDir ∷ lookups) more follow h = refl
walk_on_stays done (part ∷ rest) n (Link text ∷ lookups) more follow h =
    either_stays (is_last rest && not follow) (nat_eq n MOST_LINKS) _ _ _ _ (walk_on_stays (name_after_parents (start_of_name text done) (components_of text ++ rest)) (rest_after_ups (components_of text ++ rest)) (n + 1) lookups more follow) h

pub walk_stays : (done rest : Components) (n : ℕ) (lookups more : List SeenText) (follow : Bool) → needs_lookup (walk done rest n lookups follow) ≡ false → walk done rest n (lookups ++ more) follow ≡ walk done rest n lookups follow
walk_stays done rest n lookups more follow h = walk_on_stays (name_after_parents done rest) (rest_after_ups rest) n lookups more follow h

-- a property of both choices is a property of the chosen one
pub both : (P : WalkState → Type 0) (b : Bool) (w x : WalkState) → P w → P x → P (if b then w else x)
both P true w x p q = p
both P false w x p q = q

-- a property of every resolved name, every name to be looked up and every fault is a property of every walk
pub walk_on_all : (P : WalkState → Type 0) → ((done : Components) → P (walk_end done)) → ((name : Components) → P (Next name)) → ((errno : Errno) → P (Fault errno)) → (done rest : Components) (n : ℕ) (lookups : List SeenText) (follow : Bool) → P (walk_components done rest n lookups follow)
walk_on_all P ends next fault done [] n lookups follow = ends done
walk_on_all P ends next fault done (part ∷ rest) n [] follow = next (done ++ part ∷ [])
walk_on_all P ends next fault done (part ∷ rest) n (Dir ∷ lookups) follow = walk_on_all P ends next fault (name_after_parents (done ++ part ∷ []) rest) (rest_after_ups rest) n lookups follow
walk_on_all P ends next fault done (part ∷ rest) n (File ∷ lookups) follow = both P (is_last rest) _ _ (ends (done ++ part ∷ [])) (fault ENOTDIR)
walk_on_all P ends next fault done (part ∷ rest) n (Missing ∷ lookups) follow = both P (is_last rest) _ _ (ends (done ++ part ∷ [])) (fault ENOENT)
walk_on_all P ends next fault done (part ∷ rest) n (NotDir ∷ lookups) follow = fault ENOTDIR
walk_on_all P ends next fault done (part ∷ rest) n (Link text ∷ lookups) follow =
    both P (is_last rest && not follow) _ _ (ends (done ++ part ∷ []))
    (both P (nat_eq n MOST_LINKS) _ _ (fault ELOOP) (walk_on_all P ends next fault (name_after_parents (start_of_name text done) (components_of text ++ rest)) (rest_after_ups (components_of text ++ rest)) (n + 1) lookups follow))

-- the name of a walk that has found one isn't too long
abbrev pub IsShortWalk : WalkState → Type 0
IsShortWalk (Name name) = IsShort name
IsShortWalk (Next name) = Unit {0}
IsShortWalk (Fault errno) = Unit {0}

short_if : (b : Bool) (done : Components) → nat_lt LONGEST_NAME (length (printed_name done)) ≡ b → IsShortWalk (if b then Fault ENAMETOOLONG else Name done)
short_if true done h = tt
short_if false done h = ltb-false _ _ h

pub walk_short : (done rest name : Components) (n : ℕ) (lookups : List SeenText) (follow : Bool) → walk done rest n lookups follow ≡ Name name → length (printed_name name) ≤ LONGEST_NAME
walk_short done rest name n lookups follow e =
    subst IsShortWalk e (walk_on_all IsShortWalk (λ ended. short_if _ ended refl) (λ next. tt) (λ errno. tt) (name_after_parents done rest) (rest_after_ups rest) n lookups follow)
