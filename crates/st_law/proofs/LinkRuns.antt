-- Runs over links and over directories that are renamed: the expected entries were derived from the rules.
use Rattle.std.proofs.Common.{◌≡◌, true, List, [], ◌∷◌, ◌++◌, Some, None, refl, codes}
use Rattle.st_base.specs.declared.errno.Errno.TheVariants.{ENOENT, ELOOP}
use Rattle.st_calls.specs.declared.argument.Label.TheVariants.{Filename, String}
use Rattle.st_calls.specs.declared.call.SysCall.TheVariants.{Open, Unlink, Symlink, Rename}
use Rattle.st_calls.specs.declared.judged.Verdict.TheVariants.{Permit, Refuse}
use Rattle.st_calls.specs.declared.rule.Rule.TheVariants as Rule
use Rattle.st_calls.specs.declared.rule.Rule.TheVariants.{FsRead}
use Rattle.st_filter.specs.Formula.{FilterValue}
use Rattle.st_filter.specs.declared.filter.Action.TheVariants as action
use Rattle.st_filter.specs.declared.filter.Op.TheVariants as op
use Rattle.st_names.specs.declared.seen.SeenText.TheVariants.{Dir, File}
use Rattle.st_names.specs.declared.seen.SeenText.TheVariants as seen
use Rattle.st_model.specs.declared.object.NewKind.TheVariants as made
use Rattle.st_trace.specs.declared.entry.CallResult.TheVariants.{Value, Failed}
use Rattle.st_trace.specs.declared.entry.Cause.TheVariants as cause
use Rattle.st_trace.specs.declared.entry.Change.TheVariants.{Made, Removed, Renamed}
use Rattle.st_trace.specs.declared.entry.Entry.TheVariants.{Stored, Entered, Claimed, Copied, Looked, Answered, Used, Denied, Ended}
use Rattle.st_trace.specs.declared.entry.Way.TheVariants.{Fast, Held, Untraced}
use Rattle.st_trace.specs.declared.entry.Entry.{Entry}
use Rattle.st_trace.specs.declared.start.Instr.{Instr}
use Rattle.st_trace.specs.declared.start.TreeRow.{TreeRow}
use Rattle.st_law.specs.declared.input.Input.{Input}
use Rattle.st_law.specs.declared.input.Mode.TheVariants.{Enforce}
use Rattle.st_law.proofs.Writing.{name, dir, file, link, traced, untraced, thread_in, put, regs, call, policy, when, permits, test, input, plainly}
use Rattle.st_law.proofs.Writing.{thread, worker, rest, trace, arg}
use Rattle.st_law.proofs.Scripts.{etc_files, tmp_dir, reads_only, cat_input, opens, user, root, filename, cat_copies}

-- ---- a link that exists from the start

abbrev pub link_reader : List FilterValue → Input
link_reader filters =
    cat_input filters (etc_files ++ tmp_dir ∷ link "/tmp/l" 0 0 "/etc/passwd" ∷ []) (thread_in 1 (opens "/tmp/l") ∷ [])

link_resolved_before_judging : trace
    (link_reader (when FsRead (test "filename" op.Match "/etc/*") (action.Deny ENOENT) ∷ [])) (rest ∷ [])
    ≡ Some (
    Stored 1 0 118951005484079 ∷
    Entered 1 Open (regs 0 0 0) (Held 1) ∷
    Claimed 1 1 ∷
    Copied 1 0 0 118951005484079 ∷
    Looked 1 0 (name "/tmp") Dir ∷
    Looked 1 0 (name "/tmp/l") (seen.Link (codes "/etc/passwd")) ∷
    Looked 1 0 (name "/etc") Dir ∷
    Looked 1 0 (name "/etc/passwd") File ∷
    Answered 1 (cat_copies 1 user "/etc/passwd") (Refuse 1 ENOENT) true ∷
    Denied 1 (Some 1) ENOENT (cause.Filter 1) ∷
    Ended 1 ∷ [])
link_resolved_before_judging = refl

-- ---- a link that is put in place after the check

abbrev pub tmp_files : List TreeRow
tmp_files = tmp_dir ∷ file "/tmp/f" 0 0 420 (codes "f") ∷ []

-- cat opens /tmp/f; thread 2, of an untraced process, has this body
abbrev pub beside : List Instr → Input
beside body = input (plainly Enforce) (policy "/bin/cat" (reads_only "/tmp/f" ∷ []) ∷ []) tmp_files
    (traced "/bin/cat" 1000 1000 "/" ∷ untraced "/bin/evil" 0 0 "/" ∷ [])
    (thread_in 1 (opens "/tmp/f") ∷ thread_in 2 body ∷ []) []

-- thread 2 replaces /tmp/f by a link to /etc/spwd
abbrev pub linker : Input
linker = beside (put 0 "/tmp/f" ++ put 8 "/etc/spwd" ++ call Unlink 0 0 0 ∷ call Symlink 8 0 0 ∷ [])

-- the open is held and permitted by its copies
abbrev pub tmp_permitted : List Entry
tmp_permitted =
    Stored 1 0 112353935717423 ∷
    Entered 1 Open (regs 0 0 0) (Held 1) ∷
    Claimed 1 1 ∷
    Copied 1 0 0 112353935717423 ∷
    Looked 1 0 (name "/tmp") Dir ∷
    Looked 1 0 (name "/tmp/f") File ∷
    Answered 1 (cat_copies 1 user "/tmp/f") (Permit 1 user) true ∷ []

-- the link is put in place, as object 4 after the root, the directory and the file
abbrev pub tmp_linked : List Entry
tmp_linked =
    Stored 2 0 112353935717423 ∷
    Stored 2 1 8606505535274247471 ∷
    Stored 2 2 100 ∷
    Entered 2 Unlink (regs 0 0 0) Untraced ∷
    Used 2 None Unlink (regs 0 0 0) (filename "/tmp/f") root (Value 0) (Removed (name "/tmp/f") ∷ []) ∷
    Entered 2 Symlink (regs 8 0 0) Untraced ∷
    Used 2 None Symlink (regs 8 0 0) (arg String 0 "/etc/spwd" ∷ arg Filename 0 "/tmp/f" ∷ []) root (Value 0)
    (Made (name "/tmp/f") 4 (made.Link (codes "/etc/spwd")) 0 0 511 ∷ []) ∷ []

link_put_in_after_the_check : trace linker (thread 1 2 ∷ worker 1 5 ∷ thread 2 7 ∷ rest ∷ []) ≡ Some (
    tmp_permitted ++ tmp_linked ++
    Denied 1 (Some 1) ELOOP (cause.Link (name "/tmp/f")) ∷
    Ended 1 ∷ Ended 2 ∷ [])
link_put_in_after_the_check = refl

-- ---- a directory that is renamed

renamed_directory : trace (
    input (plainly Enforce) (policy "/bin/mv" (permits (Rule.Call Rename) ∷ permits FsRead ∷ []) ∷ [])
    (dir "/a" 0 0 493 ∷ file "/a/f" 0 0 420 (codes "f") ∷ []) (traced "/bin/mv" 0 0 "/" ∷ [])
    (thread_in 1 (put 0 "/a" ++ put 8 "/b" ++ call Rename 0 8 0 ∷ opens "/b/f" ++ opens "/a/f") ∷ []) [])
    (rest ∷ [])
    ≡ Some (
    Stored 1 0 24879 ∷
    Stored 1 1 25135 ∷
    Entered 1 Rename (regs 0 8 0) Fast ∷
    Used 1 None Rename (regs 0 8 0) (arg Filename 0 "/a" ∷ arg Filename 1 "/b" ∷ []) root (Value 0)
    (Renamed (name "/a") (name "/b") ∷ []) ∷
    Stored 1 0 1714381359 ∷
    Entered 1 Open (regs 0 0 0) Fast ∷
    Used 1 None Open (regs 0 0 0) (filename "/b/f") root (Value 3) [] ∷
    Stored 1 0 1714381103 ∷
    Entered 1 Open (regs 0 0 0) Fast ∷
    Used 1 None Open (regs 0 0 0) [] root (Failed ENOENT) [] ∷
    Ended 1 ∷ [])
renamed_directory = refl

-- the process's own directory is renamed, and a link put in its place
a_fast_call_that_meets_a_link : trace (
    input (plainly Enforce)
    (policy "/bin/a" (permits (Rule.Call Rename) ∷ permits (Rule.Call Symlink) ∷ permits FsRead ∷ []) ∷ [])
    (dir "/d" 0 0 511 ∷ []) (traced "/bin/a" 0 0 "/d" ∷ [])
    (thread_in 1 (put 0 "/d" ++ put 8 "/e" ++ put 16 "." ++
    call Rename 0 8 0 ∷ call Symlink 8 0 0 ∷ call Open 16 0 0 ∷ []) ∷ []) [])
    (rest ∷ [])
    ≡ Some (
    Stored 1 0 25647 ∷
    Stored 1 1 25903 ∷
    Stored 1 2 46 ∷
    Entered 1 Rename (regs 0 8 0) Fast ∷
    Used 1 None Rename (regs 0 8 0) (arg Filename 0 "/d" ∷ arg Filename 1 "/e" ∷ []) root (Value 0)
    (Renamed (name "/d") (name "/e") ∷ []) ∷
    Entered 1 Symlink (regs 8 0 0) Fast ∷
    Used 1 None Symlink (regs 8 0 0) (arg String 0 "/e" ∷ arg Filename 0 "/d" ∷ []) root (Value 0)
    (Made (name "/d") 3 (made.Link (codes "/e")) 0 0 511 ∷ []) ∷
    Entered 1 Open (regs 16 0 0) Fast ∷
    Used 1 None Open (regs 16 0 0) [] root (Failed ELOOP) [] ∷
    Ended 1 ∷ [])
a_fast_call_that_meets_a_link = refl
