-- Definitions that several computed runs share: a reader of /etc/passwd with its files and its policy, and queries on runs.
use Prim.Native.String.{String}
use Rattle.std.proofs.Common.{ℕ, true, false, List, [], ◌∷◌, ◌++◌, Some, None, codes}
use Rattle.std.specs.Prelude.{Bool, Option, filter, length}
use Rattle.st_base.specs.declared.ids.Ids.{Ids}
use Rattle.st_calls.specs.declared.argument.Label.TheVariants.{Filename}
use Rattle.st_calls.specs.declared.call.SysCall.TheVariants.{Open}
use Rattle.st_calls.specs.declared.rule.Rule.TheVariants.{FsRead}
use Rattle.st_calls.specs.declared.argument.ArgText.{ArgText}
use Rattle.st_calls.specs.declared.judged.Snapshot.{Snapshot}
use Rattle.st_filter.specs.Formula.{FilterValue}
use Rattle.st_filter.specs.declared.filter.Action.TheVariants as action
use Rattle.st_filter.specs.declared.filter.Op.TheVariants as op
use Rattle.st_filter.specs.declared.set.Reply.{Reply}
use Rattle.st_names.specs.declared.seen.SeenText.TheVariants.{Dir, File}
use Rattle.st_trace.specs.declared.entry.CallResult.TheVariants.{Value}
use Rattle.st_trace.specs.declared.entry.Entry.TheVariants.{Stored, Entered, Claimed, Copied, Looked, Faulted, Answered, Used, Denied, Learned}
use Rattle.st_trace.specs.declared.entry.Entry.TheVariants.{Replied}
use Rattle.st_trace.specs.declared.entry.Way.TheVariants.{Held}
use Rattle.st_trace.specs.declared.entry.Entry.{Entry}
use Rattle.st_trace.specs.declared.start.Instr.{Instr}
use Rattle.st_trace.specs.declared.start.ThreadRow.{ThreadRow}
use Rattle.st_trace.specs.declared.start.TreeRow.{TreeRow}
use Rattle.st_law.specs.declared.input.Input.{Input}
use Rattle.st_law.specs.declared.input.Mode.TheVariants.{Enforce}
use Rattle.st_law.specs.declared.input.Mode.{Mode}
use Rattle.st_law.proofs.Writing.{name, dir, file, link, traced, put, regs, call, policy, when, test, reply, input, plainly, ids, arg, copies}

-- ---- scripts

abbrev pub etc_files : List TreeRow
etc_files = dir "/etc" 0 0 493 ∷ file "/etc/passwd" 0 0 420 (codes "root") ∷ file "/etc/spwd" 0 0 384 (codes "s") ∷ []

abbrev pub tmp_dir : TreeRow
tmp_dir = dir "/tmp" 0 0 511

-- directories, files and links of several owners and modes
abbrev pub many_files : List TreeRow
many_files =
    dir "/d" 0 0 493 ∷ dir "/d/sub" 0 0 493 ∷ dir "/d/sub/deep" 1000 1000 493 ∷ file "/d/f" 0 0 420 (codes "hello") ∷
    file "/d/sub/g" 1000 1000 384 (codes "gg") ∷ file "/d/secret" 0 0 384 (codes "s") ∷ dir "/tmp" 0 0 511 ∷ dir "/priv" 0 0 448 ∷
    file "/priv/x" 0 0 420 (codes "x") ∷ dir "/w" 1000 1000 493 ∷ file "/w/own" 1000 1000 420 (109 ∷ 105 ∷ 110 ∷ 101 ∷ 1 ∷ 255 ∷ 36 ∷ []) ∷
    dir "/w/empty" 1000 1000 493 ∷ dir "/w/full" 1000 5 509 ∷ file "/w/full/k" 1000 1000 420 (codes "k") ∷ dir "/nox" 0 0 420 ∷
    file "/nox/y" 0 0 420 (codes "y") ∷ dir "/ro" 1000 5 365 ∷ file "/ro/z" 1000 5 292 (codes "z") ∷ dir "/bin" 0 0 493 ∷
    file "/bin/a" 0 0 493 (codes "a") ∷ file "/bin/sh" 0 0 4 (codes "sh") ∷ file "/bin/cat" 5 5 73 (codes "c") ∷
    file "/bin/noexec" 0 0 420 (codes "n") ∷ file "/bin/empty" 0 0 493 [] ∷ link "/l" 0 0 "/d" ∷ link "/lf" 0 0 "/d/f" ∷ link "/ld" 0 0 "/nowhere" ∷
    link "/loop" 0 0 "/loop" ∷ link "/d/rel" 0 0 "sub/../f" ∷ link "/d/up" 0 0 ".." ∷ link "/tmp/l" 1000 1000 "/d/sub" ∷ link "/lroot" 0 0 "/" ∷
    link "/lfile" 0 0 "/d/f/" ∷ []

abbrev pub more_files : List TreeRow
more_files = many_files ++ dir "/tmp/e" 0 0 511 ∷ file "/tmp/f" 0 0 420 (codes "f") ∷ file "/tmp/e/f" 0 0 493 (codes "ef") ∷ []

-- a file may be read only by this name
abbrev pub reads_only : String → FilterValue
reads_only text = when FsRead (test "filename" op.Eq text) action.Permit

abbrev pub passwd_only : FilterValue
passwd_only = reads_only "/etc/passwd"

-- one traced process, with its policy, objects and threads
abbrev pub cat_input : List FilterValue → List TreeRow → List ThreadRow → Input
cat_input filters objects threads =
    input (plainly Enforce) (policy "/bin/cat" filters ∷ []) objects (traced "/bin/cat" 1000 1000 "/" ∷ []) threads []

-- the same without a policy, and with an operator that answers
abbrev pub asking_input : Mode → List TreeRow → List ThreadRow → List Reply → Input
asking_input mode objects threads replies =
    input (plainly mode) [] objects (traced "/bin/cat" 1000 1000 "/" ∷ []) threads replies

-- a body that opens a name for reading
abbrev pub opens : String → List Instr
opens text = put 0 text ++ call Open 0 0 0 ∷ []

-- ---- traces

abbrev pub user : Ids
user = ids 1000 1000 1000 1000

abbrev pub root : Ids
root = ids 0 0 0 0

abbrev pub filename : String → List ArgText
filename text = arg Filename 0 text ∷ []

-- the copies of an open of process 1, by number, ids and name
abbrev pub cat_copies : ℕ → Ids → String → Snapshot
cat_copies q ids text = copies q 1 ids "/bin/cat" FsRead Open (regs 0 0 0) (filename text)

-- an open of thread 1 that was held is made under these ids
abbrev pub opened : ℕ → String → Ids → ℕ → Entry
opened q text ids fd = Used 1 (Some q) Open (regs 0 0 0) (filename text) ids (Value fd) []

-- an open of /etc/passwd is held under number 1 and waits for its answer: its name takes two words, and has two components
abbrev pub passwd_copied : List Entry
passwd_copied =
    Stored 1 0 8314049735936992559 ∷ Stored 1 1 6584179 ∷ Entered 1 Open (regs 0 0 0) (Held 1) ∷ Claimed 1 1 ∷
    Copied 1 0 0 8314049735936992559 ∷ Copied 1 0 1 6584179 ∷
    Looked 1 0 (name "/etc") Dir ∷ Looked 1 0 (name "/etc/passwd") File ∷ []

-- ---- queries on runs

abbrev pub is_call_end : Entry → Bool
is_call_end (Used t seq call regs args ids result changes) = true
is_call_end (Denied t seq errno cause) = true
is_call_end _ = false

-- how the calls of a run end
abbrev pub calls_of : Option (List Entry) → List Entry
calls_of None = []
calls_of (Some entries) = filter is_call_end entries

abbrev pub is_ending : Entry → Bool
is_ending (Faulted q errno) = true
is_ending (Answered w snapshot verdict applied) = true
is_ending (Replied q reply number) = true
is_ending (Learned q number) = true
is_ending e = is_call_end e

-- how the held calls of a run are judged, and how its calls end
abbrev pub judgements_of : Option (List Entry) → List Entry
judgements_of None = []
judgements_of (Some entries) = filter is_ending entries

-- how many entries a run has
abbrev pub entry_count : Option (List Entry) → ℕ
entry_count None = 0
entry_count (Some entries) = length entries
