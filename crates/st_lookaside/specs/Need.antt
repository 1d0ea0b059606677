-- What an argument needs next, by its progress.
use Rattle.std.specs.Prelude.{◌<◌, Bool, true, false, List, []}
use Rattle.st_calls.specs.declared.argument.ArgSpec.{ArgSpec}
use Rattle.st_effects.specs.Progress.{Progress, Word, Look, Stuck, Ready, progress_of_spelling}
use Rattle.st_lookaside.specs.declared.need.Need.{Need}
use Rattle.st_lookaside.specs.declared.need.Need.TheVariants as need
use Rattle.st_model.specs.Spelling.{Spelled}
use Rattle.st_model.specs.declared.limits.TheConstants.{SPACE_WORDS}
use Rattle.st_names.specs.Name.{Components}
pub use Rattle.st_names.specs.Name.{IsShort}
use Rattle.st_names.specs.declared.seen.SeenText.{SeenText}
use Rattle.st_resolve.specs.declared.walk.WalkStep.{WalkStep}
use Rattle.st_resolve.specs.declared.walk.WalkStep.TheVariants as step

-- the progress of an argument as if it were the only one
abbrev pub progress_alone : ArgSpec → Components → Bool → List SeenText → Spelled → Progress
progress_alone spec cwd follow lookups s = progress_of_spelling 0 spec cwd follow lookups s (Ready [])

-- what an argument with this progress needs next
abbrev pub need_of : Progress → Need
need_of (Word part place) = need.Word place
need_of (Look part name) = need.Look
need_of (Stuck errno) = need.Fault errno
need_of (Ready args) = need.Nothing

-- what a name needs next, by the last step of its walk
abbrev pub need_of_walk : WalkStep → Need
need_of_walk step.More = need.Look
need_of_walk step.Name = need.Nothing
need_of_walk (step.Fault errno) = need.Fault errno

-- a word is needed
abbrev pub IsWord : Need → Type 0
IsWord (need.Word place) = Unit {0}
IsWord need.Look = ⊥
IsWord (need.Fault errno) = ⊥
IsWord need.Nothing = ⊥

-- the index of a word that is needed is inside memory
abbrev pub IsInside : Need → Type 0
IsInside (need.Word place) = place < SPACE_WORDS
IsInside need.Look = Unit {0}
IsInside (need.Fault errno) = Unit {0}
IsInside need.Nothing = Unit {0}

-- whether nothing is needed
abbrev pub is_finished : Need → Bool
is_finished (need.Word place) = false
is_finished need.Look = false
is_finished (need.Fault errno) = false
is_finished need.Nothing = true
