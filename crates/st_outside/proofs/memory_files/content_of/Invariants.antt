use Rattle.std.proofs.Common.{◌≡◌, take, MatchOption}
use Rattle.st_outside.specs.Files.{Absent, FileBytes}
use Rattle.st_outside.specs.MemoryFiles.{view_of_name}
use Rattle.st_outside.proofs.memory_files.content_of.Given as goal

-- the content that the files so far have for the name
abbrev pub invariant-loop-file : goal.invariant-loop-file
invariant-loop-file l =
    MatchOption l.found (view_of_name (take l.file-index l.files) l.name ≡ Absent) (λ content. view_of_name (take l.file-index l.files) l.name ≡ FileBytes content.now)
