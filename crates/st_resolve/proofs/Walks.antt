-- What a walk asks for.
use Rattle.std.proofs.Common.{◌≡◌, ◌≢◌, ℕ, Bool, List, [], ◌∷◌, ◌++◌, drop, Option, Some, None, refl, ap, sym}
use Rattle.st_base.specs.declared.errno.Errno.{Errno}
use Rattle.st_names.specs.Name.{Components}
use Rattle.st_model.specs.Walk.{walk_components}
use Rattle.st_resolve.specs.Walk.{Walk, walk_from, walk_step, asked_name}
use Rattle.st_resolve.specs.declared.walk.WalkStep.TheVariants as step

asked_at : (done left : Components) (links : ℕ) (follow : Bool) (fault : Option Errno) (part : List ℕ) (rest : Components) → left ≡ part ∷ rest → ((errno : Errno) → walk_step (walk_from (record { done = done; left = left; links = links; follow = follow; fault = fault }) []) ≢ step.Fault errno) →
    Some (done ++ part ∷ []) ≡ asked_name (walk_from (record { done = done; left = left; links = links; follow = follow; fault = fault }) [])
asked_at done left links follow (Some errno) part rest e h = absurd (h errno refl)
asked_at done left links follow None part rest e h = ap (λ (l : Components). asked_name (walk_components done l links [] follow)) (sym e)

-- the name that is asked for ends with the next component
pub asked : (w : Walk) (part : List ℕ) → w.left ≡ part ∷ drop 1 w.left → ((errno : Errno) → walk_step (walk_from w []) ≢ step.Fault errno) → Some (w.done ++ part ∷ []) ≡ asked_name (walk_from w [])
asked w part e h = asked_at w.done w.left w.links w.follow w.fault part (drop 1 w.left) e h
