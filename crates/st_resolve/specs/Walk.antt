-- The state of a walk, and its steps.
use Rattle.std.specs.Prelude.{ℕ, ◌+◌, nat_eq, if◌then◌else◌, Bool, List, ◌++◌, length, take, drop, Option, Some, None}
use Rattle.st_base.specs.declared.errno.Errno.{Errno}
use Rattle.st_base.specs.declared.errno.Errno.TheVariants.{ENOENT, ENAMETOOLONG}
use Rattle.st_names.specs.Name.{Components, components_of, has_long_part}
use Rattle.st_names.specs.declared.seen.SeenText.{SeenText}
use Rattle.st_model.specs.Walk.{WalkState, Name, Next, Fault, walk_components, name_after_parents, rest_after_ups, start_of_name}
use Rattle.st_resolve.specs.declared.walk.WalkStep.{WalkStep}
use Rattle.st_resolve.specs.declared.walk.WalkStep.TheVariants as step

-- the name that is reached, the components that are left, how many links were followed, whether a link that is last is followed,
-- and the fault that has ended the walk
pub record Walk : Type 0 where
  pub done : Components
  pub left : Components
  pub links : ℕ
  pub follow : Bool
  pub fault : Option Errno

-- a walk that has ended with a fault keeps the fault
abbrev pub walk_unless : Option Errno → Components → Components → ℕ → List SeenText → Bool → WalkState
walk_unless None done left links lookups follow = walk_components done left links lookups follow
walk_unless (Some errno) done left links lookups follow = Fault errno

-- the state that the walk reaches by what is seen from here on
abbrev pub walk_from : Walk → List SeenText → WalkState
walk_from walk lookups = walk_unless walk.fault walk.done walk.left walk.links lookups walk.follow

-- how far a walk is, without its name
abbrev pub walk_step : WalkState → WalkStep
walk_step (Name name) = step.Name
walk_step (Next name) = step.More
walk_step (Fault errno) = step.Fault errno

-- the name that is looked at next, if any
abbrev pub asked_name : WalkState → Option Components
asked_name (Name name) = None
asked_name (Next name) = Some name
asked_name (Fault errno) = None

-- the walk after each `..` that comes next
abbrev pub climbed : Walk → Walk
climbed walk = record walk { done = name_after_parents walk.done walk.left; left = rest_after_ups walk.left }

-- the walk after its next component, which is appended to the name
abbrev pub entered : Walk → Walk
entered walk = climbed (record walk { done = walk.done ++ take 1 walk.left; left = drop 1 walk.left })

-- the walk with a link's target in place of its next component
abbrev pub followed : Walk → List ℕ → Walk
followed walk target = climbed (record walk { done = start_of_name target walk.done; left = components_of target ++ drop 1 walk.left; links = walk.links + 1 })

-- the fault of a text before any look
abbrev pub fault_before_lookups : List ℕ → Option Errno
fault_before_lookups text =
    if nat_eq (length text) 0 then Some ENOENT
    else if has_long_part text then Some ENAMETOOLONG
    else None
