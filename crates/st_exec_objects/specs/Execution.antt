-- The memories after a process executes a binary.
use Rattle.std.specs.Prelude.{◌≡◌, ℕ, Bool, true, false, ◌==◌, if◌then◌else◌, List, []}
use Rattle.std.specs.List.{fold}
use Rattle.st_effects.specs.Changes.{next_space_after}
use Rattle.st_memory.specs.Memory.{Memories, is_space_live, next_space}
use Rattle.st_trace.specs.declared.entry.Change.{Change}
use Rattle.st_trace.specs.declared.entry.Change.TheVariants.{Execed}

-- whether space s exists after a change by a process with the space `own`: execve(2) makes a new space, and gives up the process's own
abbrev pub is_live_after_change : ℕ → ℕ → Bool → Change → Bool
is_live_after_change own s before (Execed binary space) = if s == own then false else (if s == space then true else before)
is_live_after_change own s before _ = before

-- whether space s exists after several changes by such a process
abbrev pub is_live_after : ℕ → ℕ → Bool → List Change → Bool
is_live_after own s before changes = fold (is_live_after_change own s) before changes

-- which memories exist after several changes by such a process; without a change all is as it was
pub record AreSpacesAfter (own : ℕ) (old : Memories) (changes : List Change) (new : Memories) : Type 0 where
  pub none : changes ≡ [] → new ≡ old
  pub next : next_space new ≡ next_space_after (next_space old) changes
  pub live : (s : ℕ) → is_space_live new s ≡ is_live_after own s (is_space_live old s) changes
