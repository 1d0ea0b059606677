-- Lines that were worked out from the rules: what they are read as, and lines that are no entry's.
use Rattle.std.proofs.Common.{◌≡◌, ℕ, ◌==◌, true, false, List, [], ◌∷◌, ◌++◌, map, Option, Some, None, refl, codes, replicate}
use Rattle.std.specs.Fmt.{digits}
use Rattle.std.specs.List.{slice_split}
use Rattle.st_base.specs.declared.errno.Errno.TheVariants.{EPERM, ENOENT, EBADF}
use Rattle.st_base.specs.declared.ids.Ids.{Ids}
use Rattle.st_calls.specs.declared.argument.ArgText.{ArgText}
use Rattle.st_calls.specs.declared.argument.Label.TheVariants.{Filename}
use Rattle.st_calls.specs.declared.call.SysCall.TheVariants.{Close, Open}
use Rattle.st_calls.specs.declared.judged.Snapshot.{Snapshot}
use Rattle.st_calls.specs.declared.judged.Verdict.TheVariants.{Permit, Refuse, Unmatched}
use Rattle.st_calls.specs.declared.rule.Rule.TheVariants as Rule
use Rattle.st_lex.specs.Quoted.{newline}
use Rattle.st_model.specs.declared.object.NewKind.TheVariants as kind
use Rattle.st_names.specs.declared.seen.SeenText.TheVariants as seen
use Rattle.st_trace.specs.declared.entry.CallResult.TheVariants.{Value, Failed}
use Rattle.st_trace.specs.declared.entry.Cause.TheVariants as cause
use Rattle.st_trace.specs.declared.entry.Change.TheVariants as change
use Rattle.st_trace.specs.declared.entry.Entry.{Entry}
use Rattle.st_trace.specs.declared.entry.Entry.TheVariants.{Stored, Entered, Claimed, Copied, Looked, Faulted, Answered, Replied, Learned, Used, Denied, Ended, Reloaded}
use Rattle.st_trace.specs.declared.entry.Way.TheVariants.{Fast, Barred, Held, Untraced}
use Rattle.st_fields.specs.Fields.{arg_at, args_from, ids_at, name_at, regs_at, spelled_at, text_at, word_at}
use Rattle.st_readtrace.specs.Changes.{made_at, linked_at, removed_at, renamed_at, cwd_at, written_at, cut_at, moded_at, owned_at, put_at, forked_at, execed_at, set_ids_at, dying_at, renewed_at, policy_at, process_change, object_change, name_change, change_at, next_change_at, changes_from}
use Rattle.st_readtrace.specs.Entries.{answered_at, cause_at, cause_by, claimed_at, copied_at, denied_at, ended_at, entered_at, entry_by, entry_of_line, faulted_at, flag_at, learned_at, looked_at, operator_entry, reloaded_at, replied_at, seen_at, seen_by, snapshot_at, stored_at, used_at, verdict_at, verdict_by, version_at, way_at, way_by, worker_entry}
use Rattle.st_readtrace.specs.Lines.{closed}

-- what each line of a text is read as
abbrev read : List ℕ → List (Option Entry)
read text = map entry_of_line (slice_split (λ b. b == newline) text)

abbrev regs : ℕ → ℕ → List ℕ
regs a b = a ∷ b ∷ 0 ∷ 0 ∷ 0 ∷ 0 ∷ []

abbrev some_ids : Ids
some_ids = record { ruid = 1; euid = 2; rgid = 3; egid = 4 }

abbrev held : ℕ → List ArgText → Snapshot
held version parts = record { seq = 9; pid = 3; ids = some_ids; policy = codes "/bin/b"; version = version; rule = Rule.FsRead; call = Open; regs = regs 8 0; parts = parts }

abbrev file : ArgText
file = record { label = Filename; index = 0; text = codes "/a b" }

-- ---- lines of each kind

of_threads : read (
    codes "stored 1 0 18446744073709551615\nentered 2 close 3 1 0 0 0 0 fast\nentered 2 close 3 1 0 0 0 0 barred 7\nentered 2 close 3 1 0 0 0 0 held 65535\n" ++
    codes "entered 2 close 3 1 0 0 0 0 untraced\ndenied 2 - EPERM filter 1\ndenied 2 9 ENOENT nofilter\ndenied 2 9 ENOENT fault\ndenied 2 9 ENOENT link \"/a/b\"\nended 4294967295") ≡
    Some (Stored 1 0 18446744073709551615) ∷ Some (Entered 2 Close (regs 3 1) Fast) ∷ Some (Entered 2 Close (regs 3 1) (Barred 7)) ∷ Some (Entered 2 Close (regs 3 1) (Held 65535)) ∷
    Some (Entered 2 Close (regs 3 1) Untraced) ∷ Some (Denied 2 None EPERM (cause.Filter 1)) ∷ Some (Denied 2 (Some 9) ENOENT cause.NoFilter) ∷ Some (Denied 2 (Some 9) ENOENT cause.Fault) ∷
    Some (Denied 2 (Some 9) ENOENT (cause.Link (codes "a" ∷ codes "b" ∷ []))) ∷ Some (Ended 4294967295) ∷ []
unfolding digits entry_of_line entry_by worker_entry operator_entry stored_at entered_at denied_at ended_at way_at way_by cause_at cause_by regs_at name_at text_at spelled_at word_at
of_threads = refl

of_workers : read (
    codes "claimed 2 9\ncopied 9 1 2 3\nlooked 9 0 \"/\" missing\nlooked 9 0 \"/a\" notdir\nlooked 9 0 \"/a\" dir\nlooked 9 0 \"/a\" file\n" ++
    codes "looked 9 0 \"/a\\x24\\\"\" link \"..\\\\\\x0a\\xff\"\nfaulted 9 EBADF\nreplied 9 2 4\nlearned 9 3") ≡
    Some (Claimed 2 9) ∷ Some (Copied 9 1 2 3) ∷ Some (Looked 9 0 [] seen.Missing) ∷ Some (Looked 9 0 (codes "a" ∷ []) seen.NotDir) ∷ Some (Looked 9 0 (codes "a" ∷ []) seen.Dir) ∷
    Some (Looked 9 0 (codes "a" ∷ []) seen.File) ∷ Some (Looked 9 0 (codes "a$\"" ∷ []) (seen.Link (codes "..\\" ++ 10 ∷ 255 ∷ []))) ∷ Some (Faulted 9 EBADF) ∷
    Some (Replied 9 2 4) ∷ Some (Learned 9 3) ∷ []
unfolding digits entry_of_line entry_by worker_entry operator_entry claimed_at copied_at looked_at faulted_at replied_at learned_at seen_at seen_by name_at text_at spelled_at word_at
of_workers = refl

answers : read (
    codes "answered 2 9 pid 3 ids 1 2 3 4 policy \"/bin/b\" rule native-fsread open 8 0 0 0 0 0 arg filename 0 \"/a b\" permit 1 ids 1 2 3 4 applied\n" ++
    codes "answered 2 9 pid 3 ids 1 2 3 4 policy \"/bin/b\" version 12 rule native-fsread open 8 0 0 0 0 0 refuse 2 EBADF stale\n" ++
    codes "answered 2 9 pid 3 ids 1 2 3 4 policy \"/bin/b\" rule native-fsread open 8 0 0 0 0 0 unmatched applied") ≡
    Some (Answered 2 (held 0 (file ∷ [])) (Permit 1 some_ids) true) ∷ Some (Answered 2 (held 12 []) (Refuse 2 EBADF) false) ∷ Some (Answered 2 (held 0 []) Unmatched true) ∷ []
unfolding digits entry_of_line entry_by worker_entry answered_at snapshot_at version_at verdict_at verdict_by flag_at arg_at args_from ids_at regs_at text_at spelled_at word_at
answers = refl

uses : read (
    codes "used 2 - close 3 1 0 0 0 0 ids 1 2 3 4 = 0\nused 2 9 open 8 0 0 0 0 0 ids 1 2 3 4 arg filename 0 \"/a b\" = EBADF\n" ++
    codes "reloaded 2 12 done, renewed 8 10, renewed 9 11\nreloaded 2 1 refused") ≡
    Some (Used 2 None Close (regs 3 1) [] some_ids (Value 0) []) ∷ Some (Used 2 (Some 9) Open (regs 8 0) (file ∷ []) some_ids (Failed EBADF) []) ∷
    Some (Reloaded 2 12 true (change.Renewed 8 10 ∷ change.Renewed 9 11 ∷ [])) ∷ Some (Reloaded 2 1 false []) ∷ []
unfolding digits entry_of_line entry_by used_at reloaded_at flag_at arg_at args_from ids_at regs_at text_at spelled_at word_at changes_from next_change_at change_at name_change object_change process_change renewed_at
uses = refl

changes_read : read (
    codes "used 2 - close 3 1 0 0 0 0 ids 1 2 3 4 = 0, made \"/a\" 5 dir 1 2 777 \"\", made \"/\" 6 file 0 0 10 \"\", made \"/l\" 7 link 0 0 644 \"\\x24\"" ++
    codes ", linked \"/b\" 6, removed \"/b\", renamed \"/a\" \"/c\", written 6 3 617a0aff, cut 6 0, moded 6 0, owned 6 3 4, put 1 16 -, forked 2 3 4" ++
    codes ", execed \"/bin/ls\" 5, setids 1 2 3 4, cwd \"/d/e\", dying 2, renewed 3 4, policy \"/bin/ls\"") ≡
    Some (Used 2 None Close (regs 3 1) [] some_ids (Value 0) (
    change.Made (codes "a" ∷ []) 5 kind.Dir 1 2 511 ∷ change.Made [] 6 (kind.File []) 0 0 8 ∷ change.Made (codes "l" ∷ []) 7 (kind.Link (codes "$")) 0 0 420 ∷
    change.Linked (codes "b" ∷ []) 6 ∷ change.Removed (codes "b" ∷ []) ∷ change.Renamed (codes "a" ∷ []) (codes "c" ∷ []) ∷ change.Written 6 3 (codes "az" ++ 10 ∷ 255 ∷ []) ∷
    change.Cut 6 0 ∷ change.Moded 6 0 ∷ change.Owned 6 3 4 ∷ change.Put 1 16 [] ∷ change.Forked 2 3 4 ∷ change.Execed (codes "/bin/ls") 5 ∷
    change.SetIds some_ids ∷ change.Cwd (codes "d" ∷ codes "e" ∷ []) ∷ change.Dying 2 ∷ change.Renewed 3 4 ∷ change.Policy (codes "/bin/ls") ∷ [])) ∷ []
unfolding digits entry_of_line entry_by used_at args_from ids_at regs_at name_at text_at spelled_at word_at changes_from next_change_at change_at name_change object_change process_change made_at linked_at removed_at renamed_at cwd_at written_at cut_at moded_at owned_at put_at forked_at execed_at set_ids_at dying_at renewed_at policy_at
changes_read = refl

-- ---- lines that are no entry's

-- two blanks, a blank at the front or the end, a leading zero, a number in hexadecimal digits, a field that lacks or is too many, a carriage return, a tab, a comment, no words, and numbers
-- that are too large
wrong_words : read (
    codes "stored  1 0 5\n stored 1 0 5\nstored 1 0 5 \nstored 01 0 5\nstored 0x1 0 5\nstored 1 0\nstored 1 0 5 6\nstored 1 0 5" ++ 13 ∷ codes "\nstored" ++ 9 ∷ codes "1 0 5\nstored 1 0 5 # a\n# a\n\nStored 1 0 5\nended\n" ++
    codes "ended 4294967296\nclaimed 1 65536\nstored 1 0 18446744073709551616\nfaulted 9 ebadf\nfaulted 9 ENOSUCH\nended +1\nended -") ≡ replicate 21 None
unfolding digits entry_of_line entry_by worker_entry operator_entry stored_at ended_at claimed_at faulted_at spelled_at word_at
wrong_words = refl

-- texts that are spelled otherwise, names with parts that are none, and names that don't begin at the root
wrong_texts : read (
    codes "looked 9 0 \"/a$\" dir\nlooked 9 0 \"/\\x61\" dir\nlooked 9 0 \"/\\xFF\" dir\nlooked 9 0 \"/a dir\nlooked 9 0 /a dir\nlooked 9 0 \"a\" dir\nlooked 9 0 \"\" dir\nlooked 9 0 \"/a/\" dir\n" ++
    codes "looked 9 0 \"//a\" dir\nlooked 9 0 \"/./a\" dir\nlooked 9 0 \"/a\"dir\nlooked 9 0 \"/a\" dir,\nlooked 9 0 \"/a\" Dir\nlooked 9 0 \"/a\"") ≡ replicate 14 None
unfolding digits entry_of_line entry_by worker_entry operator_entry looked_at seen_at seen_by name_at text_at spelled_at word_at
wrong_texts = refl

-- changes without a comma or a blank, bytes in capital letters or of half a byte, a mode with a leading zero, a directory with a target, another word
wrong_changes : read (
    codes "reloaded 2 1 done renewed 8 10\nreloaded 2 1 done,renewed 8 10\nreloaded 2 1 done, renewed 8 10,\nreloaded 2 1 done, written 1 0 FF\nreloaded 2 1 done, written 1 0 f\nreloaded 2 1 done, written 1 0 \n" ++
    codes "reloaded 2 1 done, moded 1 0777\nreloaded 2 1 done, made \"/a\" 5 dir 1 2 777 \"/b\"\nreloaded 2 1 done, gone 1\nreloaded 2 1 Done\nreloaded 2 1") ≡ replicate 11 None
unfolding digits entry_of_line entry_by reloaded_at flag_at name_at text_at spelled_at word_at changes_from next_change_at change_at name_change object_change process_change made_at written_at moded_at renewed_at
wrong_changes = refl

-- a version that is written though the policy is as it was read, words in another order, and words that lack
wrong_answers : read (
    codes "answered 2 9 pid 3 ids 1 2 3 4 policy \"/bin/b\" version 0 rule native-fsread open 8 0 0 0 0 0 unmatched applied\n" ++
    codes "answered 2 9 ids 1 2 3 4 pid 3 policy \"/bin/b\" rule native-fsread open 8 0 0 0 0 0 unmatched applied\n" ++
    codes "answered 2 9 pid 3 ids 1 2 3 4 policy \"/bin/b\" rule fsread open 8 0 0 0 0 0 unmatched applied\n" ++
    codes "answered 2 9 pid 3 ids 1 2 3 4 policy \"/bin/b\" rule native-fsread open 8 0 0 0 0 unmatched applied\n" ++
    codes "answered 2 9 pid 3 ids 1 2 3 4 policy \"/bin/b\" rule native-fsread open 8 0 0 0 0 0 unmatched yes\n" ++
    codes "answered 2 9 pid 3 ids 1 2 3 4 policy \"/bin/b\" rule native-fsread open 8 0 0 0 0 0 unmatched") ≡ replicate 6 None
unfolding digits entry_of_line entry_by worker_entry answered_at snapshot_at version_at verdict_at verdict_by flag_at arg_at args_from ids_at regs_at text_at spelled_at word_at
wrong_answers = refl

-- ---- the last line

last_lines : (closed [] ≡ []) × (closed (codes "ended 1") ≡ codes "ended 1\n") × (closed (codes "ended 1\n") ≡ codes "ended 1\n") × (closed (codes "ended 1\n\n") ≡ codes "ended 1\n\n") × (closed (codes "\n") ≡ codes "\n")
last_lines = (refl, refl, refl, refl, refl)
