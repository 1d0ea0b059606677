-- A resolution, look by look: where a walk over a tree ends, and how many looks it still makes.
use Rattle.std.proofs.Common.{◌≡◌, ◌<◌, ℕ, zero, suc, Bool, true, false, List, [], ◌∷◌, ◌++◌, refl, sym, ap, ◌∙◌, arith, Some, append_assoc, append-nil}
use Rattle.st_base.specs.declared.errno.Errno.{Errno}
use Rattle.st_names.specs.Name.{Components}
use Rattle.st_names.specs.declared.seen.SeenText.{SeenText}
use Rattle.st_model.specs.Tree.{Tree, look}
use Rattle.st_model.specs.Walk.{WalkState, Name, Next, Fault, needs_lookup, start_walk, walk_through, resolve, resolve_within, most_lookups}
use Rattle.st_model.proofs.Endings.{resolve_ends}
use Rattle.st_resolve.specs.Walk.{asked_name, walk_step}
use Rattle.st_resolve.specs.declared.walk.WalkStep.TheVariants as step

-- the state of a walk, as a function of what is seen
abbrev pub Course : Type 0
Course = List SeenText → WalkState

-- the course after a look at a name
abbrev following : Tree → Course → Components → Course
following tree course name more = course (look tree name ∷ more)

-- where a course ends after at most that many looks at the tree
abbrev pub end_of : ℕ → Tree → Course → WalkState
end_of zero tree course = course []
end_of (suc looks) tree course = walk_through (λ name. end_of looks tree (following tree course name)) (course [])

abbrev counted : (Components → ℕ) → WalkState → ℕ
counted further (Name name) = 0
counted further (Next name) = suc (further name)
counted further (Fault errno) = 0

-- how many looks a course makes, of at most that many
abbrev pub looks_of : ℕ → Tree → Course → ℕ
looks_of zero tree course = 0
looks_of (suc looks) tree course = counted (λ name. looks_of looks tree (following tree course name)) (course [])

-- ---- courses that agree

through_same : (f g : Components → WalkState) (w x : WalkState) → w ≡ x → ((name : Components) → f name ≡ g name) → walk_through f w ≡ walk_through g x
through_same f g (Name name) x e h = cc
through_same f g (Next name) x e h = let s = h name in cc
through_same f g (Fault errno) x e h = cc

counted_same : (f g : Components → ℕ) (w x : WalkState) → w ≡ x → ((name : Components) → f name ≡ g name) → counted f w ≡ counted g x
counted_same f g (Name name) x e h = cc
counted_same f g (Next name) x e h = let s = h name in cc
counted_same f g (Fault errno) x e h = cc

end_same : (looks : ℕ) (tree : Tree) (f g : Course) → ((more : List SeenText) → f more ≡ g more) → end_of looks tree f ≡ end_of looks tree g
end_same zero tree f g h = h []
end_same (suc looks) tree f g h =
    through_same _ _ (f []) (g []) (h []) (λ name. end_same looks tree (following tree f name) (following tree g name) (λ more. h (look tree name ∷ more)))

looks_same : (looks : ℕ) (tree : Tree) (f g : Course) → ((more : List SeenText) → f more ≡ g more) → looks_of looks tree f ≡ looks_of looks tree g
looks_same zero tree f g h = refl
looks_same (suc looks) tree f g h =
    counted_same _ _ (f []) (g []) (h []) (λ name. looks_same looks tree (following tree f name) (following tree g name) (λ more. h (look tree name ∷ more)))

-- ---- one more look changes nothing after the course has ended

end_more_at : (looks : ℕ) (tree : Tree) (course : Course) (w : WalkState) → course [] ≡ w →
    ((name : Components) → needs_lookup (end_of looks tree (following tree course name)) ≡ false → end_of (suc looks) tree (following tree course name) ≡ end_of looks tree (following tree course name)) →
    needs_lookup (walk_through (λ name. end_of looks tree (following tree course name)) w) ≡ false →
    walk_through (λ name. end_of (suc looks) tree (following tree course name)) w ≡ walk_through (λ name. end_of looks tree (following tree course name)) w
end_more_at looks tree course (Name name) e step quiet = refl
end_more_at looks tree course (Next name) e step quiet = step name quiet
end_more_at looks tree course (Fault errno) e step quiet = refl

quiet_at : (tree : Tree) (course : Course) (w : WalkState) (further : Components → WalkState) → course [] ≡ w → needs_lookup w ≡ false → walk_through further w ≡ w
quiet_at tree course (Name name) further e quiet = refl
quiet_at tree course (Next name) further e quiet = cc
quiet_at tree course (Fault errno) further e quiet = refl

end_more : (looks : ℕ) (tree : Tree) (course : Course) → needs_lookup (end_of looks tree course) ≡ false → end_of (suc looks) tree course ≡ end_of looks tree course
end_more zero tree course quiet = quiet_at tree course (course []) _ refl quiet
end_more (suc looks) tree course quiet =
    end_more_at looks tree course (course []) refl (λ name q. end_more looks tree (following tree course name) q) quiet

looks_more_at : (looks : ℕ) (tree : Tree) (course : Course) (w : WalkState) →
    ((name : Components) → needs_lookup (end_of looks tree (following tree course name)) ≡ false → looks_of (suc looks) tree (following tree course name) ≡ looks_of looks tree (following tree course name)) →
    needs_lookup (walk_through (λ name. end_of looks tree (following tree course name)) w) ≡ false →
    counted (λ name. looks_of (suc looks) tree (following tree course name)) w ≡ counted (λ name. looks_of looks tree (following tree course name)) w
looks_more_at looks tree course (Name name) step quiet = refl
looks_more_at looks tree course (Next name) step quiet = ap suc (step name quiet)
looks_more_at looks tree course (Fault errno) step quiet = refl

none_at : (w : WalkState) (further : Components → ℕ) → needs_lookup w ≡ false → counted further w ≡ 0
none_at (Name name) further quiet = refl
none_at (Next name) further quiet = cc
none_at (Fault errno) further quiet = refl

looks_more : (looks : ℕ) (tree : Tree) (course : Course) → needs_lookup (end_of looks tree course) ≡ false → looks_of (suc looks) tree course ≡ looks_of looks tree course
looks_more zero tree course quiet = none_at (course []) _ quiet
looks_more (suc looks) tree course quiet =
    looks_more_at looks tree course (course []) (λ name q. looks_more looks tree (following tree course name) q) quiet

-- ---- a look that is made

-- the course goes on after a look at the name that it asks for
pub record IsOnward (tree : Tree) (name : Components) (old new : Course) : Type 0 where
  pub asks : old [] ≡ Next name
  pub goes_on : (more : List SeenText) → new more ≡ old (look tree name ∷ more)

module _ (tree : Tree) (name : Components) (old new : Course) (onward : IsOnward tree name old new) where
  end_after : (looks : ℕ) → end_of (suc looks) tree old ≡ end_of looks tree new
  end_after looks =
      ap (walk_through (λ n. end_of looks tree (following tree old n))) onward.asks ∙
      sym (end_same looks tree new (following tree old name) onward.goes_on)

  looks_after : (looks : ℕ) → looks_of (suc looks) tree old ≡ suc (looks_of looks tree new)
  looks_after looks =
      ap (counted (λ n. looks_of looks tree (following tree old n))) onward.asks ∙
      ap suc (sym (looks_same looks tree new (following tree old name) onward.goes_on))

  asks_still : needs_lookup (old []) ≡ true
  asks_still = ap needs_lookup onward.asks

  -- the new course ends where the old one does
  pub same_end : (looks : ℕ) → needs_lookup (end_of looks tree old) ≡ false → end_of looks tree new ≡ end_of looks tree old
  same_end zero quiet = let a = asks_still in cc
  same_end (suc looks) quiet =
      let e = end_after looks in
      end_more looks tree new (ap needs_lookup (sym e) ∙ quiet) ∙ sym e

  -- the new course makes fewer looks
  pub fewer_looks : (looks : ℕ) → needs_lookup (end_of looks tree old) ≡ false → looks_of looks tree new < looks_of looks tree old
  fewer_looks zero quiet = let a = asks_still in cc
  fewer_looks (suc looks) quiet =
      let e = end_after looks in
      let m = looks_more looks tree new (ap needs_lookup (sym e) ∙ quiet) in
      let b = looks_after looks in
      omega (arith, m, b)

-- ---- a course that has ended

pub end_now : (looks : ℕ) (tree : Tree) (course : Course) → needs_lookup (course []) ≡ false → end_of looks tree course ≡ course []
end_now zero tree course quiet = refl
end_now (suc looks) tree course quiet = quiet_at tree course (course []) _ refl quiet

-- ---- resolutions

abbrev from_start : List ℕ → Components → Bool → List SeenText → Course
from_start text cwd follow lookups more = start_walk text cwd follow (lookups ++ more)

within_is : (looks : ℕ) (tree : Tree) (cwd : Components) (text : List ℕ) (follow : Bool) (lookups : List SeenText) →
    end_of looks tree (from_start text cwd follow lookups) ≡ resolve_within looks tree cwd text follow lookups
within_is zero tree cwd text follow lookups = ap (start_walk text cwd follow) (append-nil lookups)
within_is (suc looks) tree cwd text follow lookups =
    through_same _ _ (start_walk text cwd follow (lookups ++ [])) (start_walk text cwd follow lookups) (ap (start_walk text cwd follow) (append-nil lookups))
    (λ name. end_same looks tree _ _ (λ more. ap (start_walk text cwd follow) (sym (append_assoc lookups (look tree name ∷ []) more))) ∙
    within_is looks tree cwd text follow (lookups ++ look tree name ∷ []))

-- the walk of a text ends where its resolution does
pub end_is : (tree : Tree) (cwd : Components) (text : List ℕ) (follow : Bool) (course : Course) → ((more : List SeenText) → course more ≡ start_walk text cwd follow more) →
    end_of (most_lookups tree text) tree course ≡ resolve tree cwd text follow
end_is tree cwd text follow course h = end_same (most_lookups tree text) tree course (from_start text cwd follow []) h ∙ within_is (most_lookups tree text) tree cwd text follow []

pub quiet_end : (tree : Tree) (cwd : Components) (text : List ℕ) (follow : Bool) (w : WalkState) → w ≡ resolve tree cwd text follow → needs_lookup w ≡ false
quiet_end tree cwd text follow w e = ap needs_lookup e ∙ resolve_ends tree cwd text follow

-- a walk that has failed before any look
pub end_at_start : (tree : Tree) (cwd : Components) (text : List ℕ) (follow : Bool) {errno : Errno} → start_walk text cwd follow [] ≡ Fault errno → resolve tree cwd text follow ≡ Fault errno
end_at_start tree cwd text follow e =
    sym (within_is (most_lookups tree text) tree cwd text follow []) ∙ end_now (most_lookups tree text) tree (from_start text cwd follow []) (ap needs_lookup e) ∙ e

-- ---- what the answers of a walk say about it

pub asks_name : (w : WalkState) (name : Components) → Some name ≡ asked_name w → w ≡ Next name
asks_name (Name other) name e = cc
asks_name (Next other) name e = cc
asks_name (Fault errno) name e = cc

pub fault_if : (w : WalkState) (errno : Errno) → walk_step w ≡ step.Fault errno → w ≡ Fault errno
fault_if (Name name) errno e = cc
fault_if (Next name) errno e = cc
fault_if (Fault other) errno e = cc

-- a walk that goes on by what is seen of the name that it asks for
pub goes_onward : (tree : Tree) (name : Components) (seen : SeenText) (old new : Course) → Some name ≡ asked_name (old []) → seen ≡ look tree name →
    ((more : List SeenText) → new more ≡ old (seen ∷ more)) → IsOnward tree name old new
goes_onward tree name seen old new asked is known = record {
  asks = asks_name (old []) name asked;
  goes_on = λ more. known more ∙ ap (λ s. old (s ∷ more)) is;
}
