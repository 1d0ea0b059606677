-- A run of calls that change files: the expected entries were derived from the rules.
use Rattle.std.proofs.Common.{◌≡◌, [], ◌∷◌, ◌++◌, None, refl, codes, ◌+◌, ◌*◌}
use Rattle.std.specs.Fmt.{digits}
use Rattle.st_calls.specs.declared.argument.Label.TheVariants.{Filename, Mode, Uid, Gid}
use Rattle.st_calls.specs.declared.call.SysCall.TheVariants.{Open, Read, Write, Lseek, Unlink, Link, Rename, Mkdir, Rmdir, Chdir, Chmod, Chown}
use Rattle.st_calls.specs.declared.call.SysCall.TheVariants.{Truncate}
use Rattle.st_calls.specs.declared.rule.Rule.TheVariants as Rule
use Rattle.st_calls.specs.declared.rule.Rule.TheVariants.{FsRead, FsWrite}
use Rattle.st_model.specs.declared.object.NewKind.TheVariants as made
use Rattle.st_trace.specs.declared.entry.CallResult.TheVariants.{Value}
use Rattle.st_trace.specs.declared.entry.Change.TheVariants.{Made, Linked, Removed, Renamed, Written, Cut, Moded, Owned, Put, Cwd}
use Rattle.st_trace.specs.declared.entry.Entry.TheVariants.{Used}
use Rattle.st_law.specs.declared.input.Input.{Input}
use Rattle.st_law.specs.declared.input.Mode.TheVariants.{Enforce}
use Rattle.st_law.proofs.Writing.{name, traced, thread_in, put, regs, call, policy, permits, input, plainly, rest, trace, arg}
use Rattle.st_law.proofs.Scripts.{root, filename, calls_of, entry_count}

abbrev changer : Input
changer = input (plainly Enforce)
    (policy "/bin/a" (
    permits FsRead ∷ permits FsWrite ∷ permits (Rule.Call Write) ∷ permits (Rule.Call Read) ∷ permits (Rule.Call Lseek) ∷
    permits (Rule.Call Chown) ∷ permits (Rule.Call Chmod) ∷ permits (Rule.Call Truncate) ∷ permits (Rule.Call Link) ∷
    permits (Rule.Call Rename) ∷ permits (Rule.Call Chdir) ∷ []) ∷ [])
    [] (traced "/bin/a" 0 0 "/" ∷ [])
    (thread_in 1 (put 0 "/f" ++ put 8 "abc" ++ put 64 "/g" ++ put 128 "/h" ++ put 192 "/d" ++
    call Open 0 514 420 ∷ call Write 3 8 3 ∷ call Lseek 3 1 0 ∷ call Read 3 16 5 ∷ call Chown 0 5 6 ∷ call Chmod 0 416 0 ∷
    call Truncate 0 1 0 ∷ call Link 0 64 0 ∷ call Open 128 512 384 ∷ call Rename 128 64 0 ∷ call Mkdir 192 493 0 ∷
    call Chdir 192 0 0 ∷ call Rmdir 192 0 0 ∷ call Unlink 0 0 0 ∷ []) ∷ [])
    []

-- a file is made, written, read from its second byte on, given away, closed to others, and cut. It gets a second name, which another file
-- then takes. A directory is made, entered, and removed, and so is the first name.
files_are_changed : calls_of (trace changer (rest ∷ [])) ≡
    Used 1 None Open (regs 0 514 420) (filename "/f") root (Value 3) (Made (name "/f") 2 (made.File []) 0 0 420 ∷ []) ∷
    Used 1 None Write (regs 3 8 3) [] root (Value 3) (Written 2 0 (codes "abc") ∷ []) ∷
    Used 1 None Lseek (regs 3 1 0) [] root (Value 1) [] ∷
    Used 1 None Read (regs 3 16 5) [] root (Value 2) (Put 1 16 (codes "bc") ∷ []) ∷
    Used 1 None Chown (regs 0 5 6) (arg Filename 0 "/f" ∷ arg Uid 0 "5" ∷ arg Gid 0 "6" ∷ []) root (Value 0) (Owned 2 5 6 ∷ []) ∷
    Used 1 None Chmod (regs 0 416 0) (arg Filename 0 "/f" ∷ arg Mode 0 "640" ∷ []) root (Value 0) (Moded 2 416 ∷ []) ∷
    Used 1 None Truncate (regs 0 1 0) (filename "/f") root (Value 0) (Cut 2 1 ∷ []) ∷
    Used 1 None Link (regs 0 64 0) (arg Filename 0 "/f" ∷ arg Filename 1 "/g" ∷ []) root (Value 0) (Linked (name "/g") 2 ∷ []) ∷
    Used 1 None Open (regs 128 512 384) (filename "/h") root (Value 4) (Made (name "/h") 3 (made.File []) 0 0 384 ∷ []) ∷
    Used 1 None Rename (regs 128 64 0) (arg Filename 0 "/h" ∷ arg Filename 1 "/g" ∷ []) root (Value 0)
    (Removed (name "/g") ∷ Renamed (name "/h") (name "/g") ∷ []) ∷
    Used 1 None Mkdir (regs 192 493 0) (filename "/d") root (Value 0) (Made (name "/d") 4 made.Dir 0 0 493 ∷ []) ∷
    Used 1 None Chdir (regs 192 0 0) (filename "/d") root (Value 0) (Cwd (name "/d") ∷ []) ∷
    Used 1 None Rmdir (regs 192 0 0) (filename "/d") root (Value 0) (Removed (name "/d") ∷ []) ∷
    Used 1 None Unlink (regs 0 0 0) (filename "/f") root (Value 0) (Removed (name "/f") ∷ []) ∷ []
unfolding digits
files_are_changed = refl

-- five stores, two entries for each of fourteen calls, and the end
entries_of_the_changer : entry_count (trace changer (rest ∷ [])) ≡ 5 + 2 * 14 + 1
unfolding digits
entries_of_the_changer = refl
