-- Examples of the calls setuid, seteuid, setgid and setegid, computed from the table of calls: who may set which ids, which ids are
-- set, and which messages are renewed.
use Rattle.std.proofs.Common.{◌≡◌, ℕ, false, List, [], ◌∷◌, ◌++◌, map, refl, replicate}
use Rattle.std.specs.Prelude.{◌^◌, ◌+◌, ◌-◌}
use Rattle.st_base.specs.declared.errno.Errno.TheVariants.{EPERM, EINVAL}
use Rattle.st_base.specs.declared.ids.Ids.{Ids}
use Rattle.st_calls.specs.declared.call.SysCall.{SysCall}
use Rattle.st_calls.specs.declared.call.SysCall.TheVariants.{SetUid, SetEuid, SetGid, SetEgid}
use Rattle.st_effects.specs.Effect.{effect}
use Rattle.st_effects.specs.System.{System, Outcome}
use Rattle.st_trace.specs.declared.entry.CallResult.{CallResult}
use Rattle.st_trace.specs.declared.entry.CallResult.TheVariants.{Value, Failed}
use Rattle.st_trace.specs.declared.entry.Change.{Change}
use Rattle.st_trace.specs.declared.entry.Change.TheVariants.{SetIds, Renewed}
use Rattle.st_effects.proofs.World.{world, user, root, mixed}
use Rattle.st_effects.proofs.Outcomes.{gave, failed}

-- a call that this thread of a process makes under these ids, with this id in its register
abbrev set_by : System → ℕ → ℕ → Ids → SysCall → ℕ → Outcome
set_by system tid pid ids call value =
    effect system call (record { tid = tid; pid = pid; ids = ids; regs = value ∷ 0 ∷ []; args = []; child = 0; inherit = false })

-- the results for these ids and some values
abbrev answers : SysCall → Ids → List ℕ → List CallResult
answers call ids values = map (λ value. (set_by world 1 1 ids call value).result) values

-- a call of a thread of process 3, which has no other messages to renew
abbrev set_alone : SysCall → Ids → ℕ → Outcome
set_alone call ids value = set_by world 6 3 ids call value

abbrev ids_of : ℕ → ℕ → ℕ → ℕ → Ids
ids_of ruid euid rgid egid = record { ruid = ruid; euid = euid; rgid = rgid; egid = egid }

-- the process has these ids, and no message is renewed
abbrev now : ℕ → ℕ → ℕ → ℕ → Outcome
now ruid euid rgid egid = gave 0 (SetIds (ids_of ruid euid rgid egid) ∷ [])

abbrev yes : CallResult
yes = Value 0

abbrev no : CallResult
no = Failed EPERM

-- a value that is no id is refused first, for root too; 2^32 - 1 is an id
no_ids : map (λ call. answers call user ((2 ^ 32) ∷ (2 ^ 32 + 1000) ∷ (2 ^ 64 - 1) ∷ (2 ^ 32 - 1) ∷ [])) (SetUid ∷ SetEuid ∷
    SetGid ∷ SetEgid ∷ []) ++
    map (λ call. answers call root ((2 ^ 32) ∷ (2 ^ 64 - 1) ∷ (2 ^ 32 - 1) ∷ [])) (SetUid ∷ SetEuid ∷ SetGid ∷ SetEgid ∷ [])
    ≡ replicate 4 (Failed EINVAL ∷ Failed EINVAL ∷ Failed EINVAL ∷ no ∷ []) ++
    replicate 4 (Failed EINVAL ∷ Failed EINVAL ∷ yes ∷ [])
no_ids = refl

-- The ids `mixed` have the users 1000 and 2000 and the groups 3000 and 4000, real and effective. Each call may set the real id; seteuid
-- and setegid may set the effective id; no call may set an id of the other sort, or any other id.
who_may_set : map (λ call. answers call mixed (1000 ∷ 2000 ∷ 3000 ∷ 4000 ∷ 0 ∷ 5 ∷ [])) (SetUid ∷ SetEuid ∷ SetGid ∷ SetEgid ∷ [])
    ≡ (yes ∷ no ∷ no ∷ no ∷ no ∷ no ∷ []) ∷ (yes ∷ yes ∷ no ∷ no ∷ no ∷ no ∷ []) ∷
    (no ∷ no ∷ yes ∷ no ∷ no ∷ no ∷ []) ∷ (no ∷ no ∷ yes ∷ yes ∷ no ∷ no ∷ []) ∷ []
who_may_set = refl

-- effective user 0 may set any id; real user 0 and the groups 0 may not
privilege : map (λ call. answers call (ids_of 1000 0 1000 1000) (5 ∷ [])) (SetUid ∷ SetEuid ∷ SetGid ∷ SetEgid ∷ []) ++
    map (λ call. answers call (ids_of 0 1000 1000 1000) (5 ∷ [])) (SetUid ∷ SetEuid ∷ SetGid ∷ SetEgid ∷ []) ++
    map (λ call. answers call (ids_of 1000 1000 0 0) (5 ∷ [])) (SetUid ∷ SetEuid ∷ SetGid ∷ SetEgid ∷ [])
    ≡ replicate 4 (yes ∷ []) ++ replicate 8 (no ∷ [])
privilege = refl

-- without privilege only the effective id is set
set_by_users : set_alone SetUid mixed 1000 ∷ set_alone SetEuid mixed 1000 ∷ set_alone SetEuid mixed 2000 ∷
    set_alone SetGid mixed 3000 ∷ set_alone SetEgid mixed 3000 ∷ set_alone SetEgid mixed 4000 ∷
    set_alone SetUid (ids_of 0 1000 7 8) 0 ∷ set_alone SetGid (ids_of 0 1000 7 8) 7 ∷ []
    ≡ now 1000 1000 3000 4000 ∷ now 1000 1000 3000 4000 ∷ now 1000 2000 3000 4000 ∷
    now 1000 2000 3000 3000 ∷ now 1000 2000 3000 3000 ∷ now 1000 2000 3000 4000 ∷
    now 0 0 7 8 ∷ now 0 1000 7 7 ∷ []
set_by_users = refl

-- with privilege setuid and setgid set the real id too, and the other calls don't
set_by_root : map (λ call. set_alone call (ids_of 1 0 3 4) 5) (SetUid ∷ SetEuid ∷ SetGid ∷ SetEgid ∷ [])
    ≡ now 5 5 3 4 ∷ now 1 5 3 4 ∷ now 1 0 5 5 ∷ now 1 0 3 5 ∷ []
set_by_root = refl

-- the changes of a thread of a process that sets its own effective user
abbrev renewed_by : System → ℕ → ℕ → List Change
renewed_by system tid pid = (set_by system tid pid user SetEuid 1000).changes

abbrev same_ids : List Change → List Change
same_ids renewals = SetIds user ∷ renewals

-- thread 2 of process 1 set these ids
abbrev renewing : Ids → Outcome
renewing ids = gave 0 (SetIds ids ∷ Renewed 4 9 ∷ Renewed 8 10 ∷ [])

-- The live messages of process 1 have the numbers 4, 5 and 8, of its threads 1, 2 and 4. Process 2 has number 6, of thread 3. Process 3
-- has number 7, of thread 6. The next number is 9. All messages of the calling process but the caller's own are renewed, in the order
-- of threads.
renewals_in_order :
    renewed_by world 1 1 ∷ renewed_by world 2 1 ∷ renewed_by world 4 1 ∷ renewed_by world 7 1 ∷
    renewed_by world 3 2 ∷ renewed_by world 1 2 ∷ renewed_by world 6 3 ∷ renewed_by world 8 3 ∷ renewed_by world 9 4 ∷
    renewed_by (record world { next_number = 100 }) 2 1 ∷ renewed_by (record world { held = [] }) 1 1 ∷ []
    ≡ same_ids (Renewed 5 9 ∷ Renewed 8 10 ∷ []) ∷ same_ids (Renewed 4 9 ∷ Renewed 8 10 ∷ []) ∷ same_ids (Renewed 4 9 ∷
    Renewed 5 10 ∷ []) ∷
    same_ids (Renewed 4 9 ∷ Renewed 5 10 ∷ Renewed 8 11 ∷ []) ∷
    same_ids [] ∷ same_ids (Renewed 6 9 ∷ []) ∷ same_ids [] ∷ same_ids (Renewed 7 9 ∷ []) ∷ same_ids [] ∷
    same_ids (Renewed 4 100 ∷ Renewed 8 101 ∷ []) ∷ same_ids [] ∷ []
renewals_in_order = refl

-- each of the four calls renews messages; the ids are the first change, and no descriptor changes
each_renews : map (λ call. set_by world 2 1 (ids_of 1 0 3 4) call 5) (SetUid ∷ SetEuid ∷ SetGid ∷ SetEgid ∷ [])
    ≡ renewing (ids_of 5 5 3 4) ∷ renewing (ids_of 1 5 3 4) ∷ renewing (ids_of 1 0 5 5) ∷ renewing (ids_of 1 0 3 5) ∷ []
each_renews = refl

-- a refused call renews no message
refused_renews_nothing : map (λ call. set_by world 2 1 user call 5) (SetUid ∷ SetEuid ∷ SetGid ∷ SetEgid ∷ []) ++
    map (λ call. set_by world 2 1 root call (2 ^ 32)) (SetUid ∷ SetEuid ∷ SetGid ∷ SetEgid ∷ [])
    ≡ replicate 4 (failed EPERM) ++ replicate 4 (failed EINVAL)
refused_renews_nothing = refl
