-- Examples of the calls fork, execve, exit, kill, getpid, getuid and geteuid, computed from the table of calls.
use Rattle.std.proofs.Common.{◌≡◌, ℕ, Bool, true, false, List, [], ◌∷◌, ◌++◌, map, Some, None, refl, codes, replicate}
use Rattle.std.specs.Prelude.{◌^◌, ◌+◌, ◌-◌}
use Rattle.st_base.specs.Ids.{identity}
use Rattle.st_base.specs.declared.errno.Errno.TheVariants.{EPERM, ENOENT, ESRCH, ENOEXEC, EBADF, EACCES, EINVAL, ENOTDIR}
use Rattle.st_base.specs.declared.ids.Ids.{Ids}
use Rattle.st_calls.specs.declared.argument.Label.TheVariants.{Filename}
use Rattle.st_calls.specs.declared.call.SysCall.{SysCall}
use Rattle.st_calls.specs.declared.call.SysCall.TheVariants.{Close, Lseek, Fork, Execve, Exit, Kill, GetPid, GetUid, GetEuid}
use Rattle.st_names.specs.Name.{components_of}
use Rattle.st_model.specs.Tree.{add_object}
use Rattle.st_model.specs.declared.object.Kind.TheVariants as object_kind
use Rattle.st_effects.specs.Effect.{effect}
use Rattle.st_effects.specs.System.{System, Outcome}
use Rattle.st_trace.specs.declared.entry.CallResult.{CallResult}
use Rattle.st_trace.specs.declared.entry.CallResult.TheVariants.{Value, Failed}
use Rattle.st_trace.specs.declared.entry.Change.TheVariants.{Forked, Execed, Dying, Policy}
use Rattle.st_effects.proofs.World.{world, descriptors, user, other_user, root, mixed, made, results, other_results, root_results, results_for}
use Rattle.st_effects.proofs.Outcomes.{done, gave, failed, after, after_calls, results_in}

-- a fork of this process, which starts thread 12
abbrev forked : System → ℕ → Ids → Outcome
forked system pid ids = effect system Fork (record { tid = 1; pid = pid; ids = ids; regs = []; args = []; child = 12; inherit = false })

-- The result is the child's number, which is that of the next process. The child has the next memory and this thread. Its descriptors
-- are its parent's and refer to the same open files. The descriptors of no other process change.
fork_gives : forked world 1 user ≡ done 5 (Forked 5 7 12 ∷ []) (record {
  processes = descriptors.processes ++
      (5, Some 0 ∷ Some 1 ∷ Some 2 ∷ Some 3 ∷ Some 4 ∷ Some 5 ∷ Some 6 ∷ Some 7 ∷ None ∷ Some 8 ∷ Some 1 ∷ replicate 53 None) ∷ [];
  files = descriptors.files;
})
fork_gives = refl

fork_of_others : forked world 3 mixed ∷ forked (record world { next_process = 9; next_space = 20 }) 2 root ∷ []
    ≡ done 5 (Forked 5 7 12 ∷ []) (record {
      processes = descriptors.processes ++ (5, Some 0 ∷ Some 1 ∷ Some 9 ∷ replicate 61 None) ∷ [];
      files = descriptors.files;
    }) ∷
    done 9 (Forked 9 20 12 ∷ []) (record {
      processes = descriptors.processes ++ (9, Some 1 ∷ Some 2 ∷ Some 3 ∷ replicate 61 (Some 0)) ∷ [];
      files = descriptors.files;
    }) ∷ []
fork_of_others = refl

-- the world after a fork, and then a call of its process 1 or 5
abbrev forked_then : ℕ → SysCall → List ℕ → System
forked_then pid call regs = after both (made both pid user call [] regs) where
  both : System
  both = after_calls world ((Fork, [], []) ∷ [])

-- the offset of a process's descriptor 7
abbrev offset_found : System → ℕ → CallResult
offset_found system pid = (made system pid user Lseek [] (7 ∷ 0 ∷ 1 ∷ [])).result

-- an offset that one process moves is the other's offset too, both ways; a descriptor that one closes stays open in the other
fork_shares :
    offset_found (forked_then 1 Lseek (7 ∷ 0 ∷ 0 ∷ [])) 5 ∷ offset_found (forked_then 5 Lseek (7 ∷ 1 ∷ 0 ∷ [])) 1 ∷
    offset_found (forked_then 1 Close (7 ∷ [])) 5 ∷ offset_found (forked_then 5 Close (7 ∷ [])) 1 ∷
    offset_found (forked_then 1 Close (7 ∷ [])) 1 ∷ offset_found (forked_then 5 Close (7 ∷ [])) 5 ∷ []
    ≡ Value 0 ∷ Value 1 ∷ Value 2 ∷ Value 2 ∷ Failed EBADF ∷ Failed EBADF ∷ []
fork_shares = refl

-- the world with an empty file that nobody may execute
abbrev plain_world : System
plain_world = record world {
  tree = add_object world.tree (components_of (codes "/w/plain")) (record { kind = object_kind.File; uid = 1000; gid = 1000; mode = 438; content = [] });
}

abbrev names : List (List ℕ) → List (List (List ℕ) × List ℕ)
names texts = map (λ text. (text ∷ [] ∷ [], [])) texts

-- the reasons: the walk; no such name; a directory, a link, or a file without permission; an empty file
execve_refusals : results Execve (names (
    codes "/no/x" ∷ codes "/d/f/x" ∷ codes "/p/x" ∷ codes "/p/no" ∷ codes "/z/k" ∷
    codes "/d/x" ∷
    codes "/" ∷ codes "/w/r" ∷ codes "/d" ∷ codes "/w/l" ∷ codes "/d/f" ∷ codes "/s/owner" ∷ codes "/s/group" ∷
    codes "/w/e" ∷ codes "/w/h" ∷
    codes "/w/n/c" ∷ codes "/s/run" ∷ []))
    ≡ Failed ENOENT ∷ Failed ENOTDIR ∷ Failed EACCES ∷ Failed EACCES ∷ Failed EACCES ∷
    Failed ENOENT ∷ replicate 7 (Failed EACCES) ++ (Failed ENOEXEC ∷ Failed ENOEXEC ∷ Value 0 ∷ Value 0 ∷ [])
execve_refusals = refl

-- an empty file that nobody may execute, not even root
execve_of_plain : results_in plain_world 1 user Execve (names (codes "/w/plain" ∷ [])) ++
    results_in plain_world 1 root Execve (names (codes "/w/plain" ∷ []))
    ≡ Failed EACCES ∷ Failed EACCES ∷ []
execve_of_plain = refl

-- root may execute a file that one of the three may execute, and no directory, link, or file that nobody may execute
execve_as_root : root_results Execve (names (
    codes "/p/x" ∷ codes "/z/k" ∷ codes "/s/run" ∷ codes "/s/owner" ∷ codes "/d/f" ∷ codes "/s/group" ∷ codes "/d" ∷
    codes "/w/l" ∷ codes "/w/e" ∷ []))
    ≡ Value 0 ∷ Value 0 ∷ Value 0 ∷ Value 0 ∷ Failed EACCES ∷ Failed EACCES ∷ Failed EACCES ∷ Failed EACCES ∷ Failed ENOEXEC ∷ []
execve_as_root = refl

-- execution by the owner's bits, the group's, the others'; the effective ids count
execve_by_ids : other_results Execve (names (codes "/s/run" ∷ codes "/s/owner" ∷ codes "/w/n/c" ∷ [])) ++
    results_for mixed Execve (names (codes "/s/owner" ∷ codes "/s/run" ∷ codes "/w/n/c" ∷ [])) ++
    results_for (record user { euid = 0 }) Execve (names (codes "/p/x" ∷ [])) ++
    results_for (record user { ruid = 0 }) Execve (names (codes "/p/x" ∷ []))
    ≡ Failed EACCES ∷ Value 0 ∷ Value 0 ∷ Value 0 ∷ Failed EACCES ∷ Value 0 ∷ Value 0 ∷ Failed EACCES ∷ []
execve_by_ids = refl

-- the world with a file that only its group may execute
abbrev team_world : System
team_world = record world {
  tree = add_object world.tree (components_of (codes "/w/team")) (record { kind = object_kind.File; uid = 5; gid = 1000; mode = 8; content = codes "t" });
}

execve_by_effective_group : map (λ ids. (made team_world 1 ids Execve (codes "/w/team" ∷ [] ∷ []) []).result)
    (user ∷ other_user ∷ record other_user { egid = 1000 } ∷ record other_user { rgid = 1000 } ∷ root ∷ [])
    ≡ Value 0 ∷ Failed EACCES ∷ Value 0 ∷ Failed EACCES ∷ Value 0 ∷ []
execve_by_effective_group = refl

-- the file /w/n/c is executed, with policies inherited or not
abbrev executed : System → Bool → Outcome
executed system inherit = effect system Execve (record {
  tid = 1;
  pid = 1;
  ids = user;
  regs = [];
  args = record { label = Filename; index = 0; text = codes "/w/n/c" } ∷ [];
  child = 0;
  inherit = inherit;
})

-- the new memory is the first change, and then the new binary's policy, unless policies are inherited
execve_gives : executed world false ∷ executed world true ∷ executed (record world { next_space = 20 }) false ∷ []
    ≡ gave 0 (Execed (codes "/w/n/c") 7 ∷ Policy (codes "/w/n/c") ∷ []) ∷ gave 0 (Execed (codes "/w/n/c") 7 ∷ []) ∷
    gave 0 (Execed (codes "/w/n/c") 20 ∷ Policy (codes "/w/n/c") ∷ []) ∷ []
execve_gives = refl

execve_refused_changes_nothing : made world 1 user Execve (codes "/w/e" ∷ [] ∷ []) [] ≡ failed ENOEXEC
execve_refused_changes_nothing = refl

-- exit ends its own process, whatever the code, and changes no descriptors; they are closed when the last thread ends
exit_gives : made world 1 user Exit [] (0 ∷ []) ∷ made world 1 user Exit [] (3 ∷ []) ∷ made world 2 root Exit [] (1 ∷ []) ∷
    made world 3 user Exit [] ((2 ^ 64 - 1) ∷ []) ∷ []
    ≡ gave 0 (Dying 1 ∷ []) ∷ gave 0 (Dying 1 ∷ []) ∷ gave 0 (Dying 2 ∷ []) ∷ gave 0 (Dying 3 ∷ []) ∷ []
exit_gives = refl

-- the reasons: no such signal; no live process with this number, of which all bits count; no permission. Process 4 has ended, and 5 is
-- the next.
kill_refusals : results Kill (
    ([], 4 ∷ 1 ∷ []) ∷
    ([], 2 ∷ 1 ∷ []) ∷
    ([], 1 ∷ 1 ∷ []) ∷
    ([], 1 ∷ 8 ∷ []) ∷
    ([], 1 ∷ 10 ∷ []) ∷
    ([], 1 ∷ 15 ∷ []) ∷
    ([], 1 ∷ (2 ^ 32) ∷ []) ∷
    ([], 1 ∷ (2 ^ 32 + 9) ∷ []) ∷
    ([], 4 ∷ 9 ∷ []) ∷
    ([], 4 ∷ 0 ∷ []) ∷
    ([], 5 ∷ 9 ∷ []) ∷
    ([], 0 ∷ 9 ∷ []) ∷
    ([], (2 ^ 32 + 1) ∷ 9 ∷ []) ∷
    ([], (2 ^ 64 - 1) ∷ 9 ∷ []) ∷
    ([], 2 ∷ 9 ∷ []) ∷
    ([], 2 ∷ 0 ∷ []) ∷
    ([], 3 ∷ 9 ∷ []) ∷
    ([], 3 ∷ 0 ∷ []) ∷
    ([], 1 ∷ 9 ∷ []) ∷
    ([], 1 ∷ 0 ∷ []) ∷ [])
    ≡ replicate 8 (Failed EINVAL) ++ replicate 6 (Failed ESRCH) ++ replicate 4 (Failed EPERM) ++ replicate 2 (Value 0)
kill_refusals = refl

-- the results for these ids and the processes 1, 2 and 3
abbrev reached : Ids → List CallResult
reached ids = map (λ target. (made world 1 ids Kill [] (target ∷ 9 ∷ [])).result) (1 ∷ 2 ∷ 3 ∷ [])

abbrev may : CallResult
may = Value 0

abbrev may_not : CallResult
may_not = Failed EPERM

-- The processes 1, 2 and 3 have the real users 1000, 0 and 2000. Root may signal all. Any other caller needs the target's real user as
-- its real or effective user. The effective user of process 3, which is 1000, doesn't count, nor do groups.
kill_by_ids : map reached (root ∷ user ∷ other_user ∷ mixed ∷ record user { euid = 2000 } ∷ record user { ruid = 2000 } ∷
    record user { euid = 0 } ∷ record user { ruid = 0 } ∷ identity 3000 3000 ∷ identity 3000 0 ∷ identity 3000 1000 ∷ [])
    ≡ (may ∷ may ∷ may ∷ []) ∷ (may ∷ may_not ∷ may_not ∷ []) ∷ (may_not ∷ may_not ∷ may ∷ []) ∷ (may ∷ may_not ∷ may ∷ []) ∷
    (may ∷ may_not ∷ may ∷ []) ∷ (may ∷ may_not ∷ may ∷ []) ∷
    (may ∷ may ∷ may ∷ []) ∷ (may ∷ may ∷ may_not ∷ []) ∷ replicate 3 (may_not ∷ may_not ∷ may_not ∷ [])
kill_by_ids = refl

-- the target ends, not the caller; signal 0 only tests; the descriptors don't change
kill_gives : made world 1 user Kill [] (1 ∷ 9 ∷ []) ∷ made world 1 root Kill [] (3 ∷ 9 ∷ []) ∷
    made world 2 root Kill [] (1 ∷ 9 ∷ []) ∷ made world 1 user Kill [] (1 ∷ 0 ∷ []) ∷ made world 1 root Kill [] (2 ∷ 0 ∷ []) ∷
    made world 1 user Kill [] (2 ∷ 9 ∷ []) ∷ made world 1 root Kill [] (4 ∷ 9 ∷ []) ∷ made world 1 root Kill [] (2 ∷ 2 ∷ []) ∷ []
    ≡ gave 0 (Dying 1 ∷ []) ∷ gave 0 (Dying 3 ∷ []) ∷ gave 0 (Dying 1 ∷ []) ∷ gave 0 [] ∷ gave 0 [] ∷ failed EPERM ∷
    failed ESRCH ∷ failed EINVAL ∷ []
kill_gives = refl

abbrev asks : ℕ → Ids → List Outcome
asks pid ids = map (λ call. made world pid ids call [] []) (GetPid ∷ GetUid ∷ GetEuid ∷ [])

-- the process's number, and the real and the effective user under which the call is made
who_asks : asks 1 user ∷ asks 3 mixed ∷ asks 2 root ∷ asks 1 (record root { euid = 7; egid = 8; rgid = 9 }) ∷ []
    ≡ (gave 1 [] ∷ gave 1000 [] ∷ gave 1000 [] ∷ []) ∷ (gave 3 [] ∷ gave 1000 [] ∷ gave 2000 [] ∷ []) ∷
    (gave 2 [] ∷ gave 0 [] ∷ gave 0 [] ∷ []) ∷ (gave 1 [] ∷ gave 0 [] ∷ gave 7 [] ∷ []) ∷ []
who_asks = refl
