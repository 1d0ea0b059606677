-- Examples of permissions: for the walk to a name, for its directory, and for the object itself.
use Rattle.std.proofs.Common.{◌≡◌, ℕ, Bool, true, false, List, [], ◌∷◌, map, refl, codes}
use Rattle.st_base.specs.Ids.{identity}
use Rattle.st_base.specs.declared.errno.Errno.TheVariants.{ENOENT, EACCES, ENOTDIR, EPERM}
use Rattle.st_base.specs.declared.ids.Ids.{Ids}
use Rattle.st_calls.specs.declared.call.SysCall.TheVariants.{Access, Unlink, Mkdir, Chdir, Truncate}
use Rattle.st_names.specs.Name.{components_of}
use Rattle.st_trace.specs.declared.entry.CallResult.{CallResult}
use Rattle.st_trace.specs.declared.entry.CallResult.TheVariants.{Value, Failed}
use Rattle.st_trace.specs.declared.entry.Change.TheVariants.{Made, Removed, Cut, Cwd}
use Rattle.st_model.specs.declared.object.NewKind.TheVariants as kind
use Rattle.st_effects.proofs.Tries.{Answer, refused, gives, with_mode}
use Rattle.st_effects.proofs.World.{world, user, other_user, root, mixed, made}

-- the first proper prefix that is missing, is no directory, or may not be searched decides, whatever comes after it
walk_in_order : Answer world user Access (
    refused "/no/x/y" (0 ∷ []) ENOENT ∷
    refused "/d/no/y" (0 ∷ []) ENOENT ∷
    refused "/d/f/no/y" (0 ∷ []) ENOTDIR ∷
    refused "/w/n/c/x" (0 ∷ []) ENOTDIR ∷
    refused "/w/l/x" (0 ∷ []) ENOTDIR ∷
    refused "/p/no/y" (0 ∷ []) EACCES ∷
    refused "/p/x/y" (0 ∷ []) EACCES ∷
    refused "/z/k/y" (0 ∷ []) EACCES ∷
    gives "/q/u/y" (0 ∷ []) 0 [] ∷
    gives "/w/n/c" (0 ∷ []) 0 [] ∷ [])
walk_in_order = refl

-- root may search all directories, and nothing else
walk_of_root : Answer world root Access (
    refused "/p/no/y" (0 ∷ []) ENOENT ∷
    refused "/p/x/y" (0 ∷ []) ENOTDIR ∷
    gives "/p/x" (0 ∷ []) 0 [] ∷
    gives "/z/k" (0 ∷ []) 0 [] ∷ [])
walk_of_root = refl

-- the root is a directory like others, here with mode 700; its own name has no proper prefix
walk_through_the_root : Answer (with_mode 1 448) user Access (
    refused "/d/f" (0 ∷ []) EACCES ∷
    refused "/no/x" (0 ∷ []) EACCES ∷
    refused "/no" (0 ∷ []) EACCES ∷
    gives "/" (0 ∷ []) 0 [] ∷ [])
walk_through_the_root = refl

-- a user who isn't the owner of most objects, but is in their group
abbrev member : Ids
member = identity 2000 1000

-- whether a call is permitted to the owner 1000, to a member of the group 1000, to another user and to root
abbrev is_done : CallResult → Bool
is_done (Value number) = true
is_done (Failed errno) = false

abbrev allowed_to : (Ids → CallResult) → List Bool
allowed_to result = map (λ ids. is_done (result ids)) (user ∷ member ∷ other_user ∷ root ∷ [])

-- the same for reaching /z/k if /z has this mode, for an access to /w/n/c if it has this mode, and for removing /q/v if /q has this
-- mode
abbrev reaching : ℕ → List Bool
reaching mode = allowed_to (λ ids. (made (with_mode 18 mode) 1 ids Access (codes "/z/k" ∷ []) (24 ∷ 0 ∷ [])).result)

abbrev accessing : ℕ → ℕ → List Bool
accessing asked mode = allowed_to (λ ids. (made (with_mode 11 mode) 1 ids Access (codes "/w/n/c" ∷ []) (24 ∷ asked ∷ [])).result)

abbrev removing : ℕ → List Bool
removing mode = allowed_to (λ ids. (made (with_mode 20 mode) 1 ids Unlink (codes "/q/v" ∷ []) (24 ∷ [])).result)

-- modes 100, 010, 001, 011, 101, 666 and 777
searching : map reaching (64 ∷ 8 ∷ 1 ∷ 9 ∷ 65 ∷ 438 ∷ 511 ∷ []) ≡
    (true ∷ false ∷ false ∷ true ∷ []) ∷
    (false ∷ true ∷ false ∷ true ∷ []) ∷
    (false ∷ false ∷ true ∷ true ∷ []) ∷
    (false ∷ true ∷ true ∷ true ∷ []) ∷
    (true ∷ false ∷ true ∷ true ∷ []) ∷
    (false ∷ false ∷ false ∷ true ∷ []) ∷
    (true ∷ true ∷ true ∷ true ∷ []) ∷ []
searching = refl

-- modes 400, 040, 004, 044, 333 and 000
reading : map (accessing 4) (256 ∷ 32 ∷ 4 ∷ 36 ∷ 219 ∷ 0 ∷ []) ≡
    (true ∷ false ∷ false ∷ true ∷ []) ∷
    (false ∷ true ∷ false ∷ true ∷ []) ∷
    (false ∷ false ∷ true ∷ true ∷ []) ∷
    (false ∷ true ∷ true ∷ true ∷ []) ∷
    (false ∷ false ∷ false ∷ true ∷ []) ∷
    (false ∷ false ∷ false ∷ true ∷ []) ∷ []
reading = refl

-- modes 200, 020, 002, 022, 555 and 000
writing : map (accessing 2) (128 ∷ 16 ∷ 2 ∷ 18 ∷ 365 ∷ 0 ∷ []) ≡
    (true ∷ false ∷ false ∷ true ∷ []) ∷
    (false ∷ true ∷ false ∷ true ∷ []) ∷
    (false ∷ false ∷ true ∷ true ∷ []) ∷
    (false ∷ true ∷ true ∷ true ∷ []) ∷
    (false ∷ false ∷ false ∷ true ∷ []) ∷
    (false ∷ false ∷ false ∷ true ∷ []) ∷ []
writing = refl

-- modes 100, 010, 001, 011, 666 and 000: root may execute what somebody may execute
executing : map (accessing 1) (64 ∷ 8 ∷ 1 ∷ 9 ∷ 438 ∷ 0 ∷ []) ≡
    (true ∷ false ∷ false ∷ true ∷ []) ∷
    (false ∷ true ∷ false ∷ true ∷ []) ∷
    (false ∷ false ∷ true ∷ true ∷ []) ∷
    (false ∷ true ∷ true ∷ true ∷ []) ∷
    (false ∷ false ∷ false ∷ false ∷ []) ∷
    (false ∷ false ∷ false ∷ false ∷ []) ∷ []
executing = refl

-- modes 300, 030, 003, 033, 500, 555 and 222: a name can be removed if its directory may be written and searched
writing_a_directory : map removing (192 ∷ 24 ∷ 3 ∷ 27 ∷ 320 ∷ 365 ∷ 146 ∷ []) ≡
    (true ∷ false ∷ false ∷ true ∷ []) ∷
    (false ∷ true ∷ false ∷ true ∷ []) ∷
    (false ∷ false ∷ true ∷ true ∷ []) ∷
    (false ∷ true ∷ true ∷ true ∷ []) ∷
    (false ∷ false ∷ false ∷ true ∷ []) ∷
    (false ∷ false ∷ false ∷ true ∷ []) ∷
    (false ∷ false ∷ false ∷ true ∷ []) ∷ []
writing_a_directory = refl

-- names directly under the root are tested against the root; the root's own name has no parent directory to be written
writing_the_root : Answer world user Mkdir (refused "/y" (0 ∷ []) EACCES ∷ [])
writing_the_root = refl

writing_an_open_root : Answer (with_mode 1 511) user Mkdir (gives "/y" (0 ∷ []) 0 (Made (components_of (codes "/y")) 26 kind.Dir 1000 1000 0 ∷ []) ∷ [])
writing_an_open_root = refl

removing_the_root : Answer world user Unlink (refused "/" [] EPERM ∷ [])
removing_the_root = refl

-- the effective ids decide in the walk, for the directory and for the object, and the real ids don't: here the user's ids
effective_user : Answer world (record root { euid = 1000; egid = 1000 }) Unlink (
    refused "/p/x" [] EACCES ∷
    refused "/d/f" [] EACCES ∷
    gives "/w/e" [] 0 (Removed (components_of (codes "/w/e")) ∷ []) ∷ [])
effective_user = refl

-- root's ids
effective_root : Answer world (record user { euid = 0; egid = 0 }) Unlink (
    gives "/p/x" [] 0 (Removed (components_of (codes "/p/x")) ∷ []) ∷
    gives "/d/f" [] 0 (Removed (components_of (codes "/d/f")) ∷ []) ∷ [])
effective_root = refl

-- user 0 has every access, whatever its group is, and group 0 doesn't
user_of_root : Answer world (record user { euid = 0 }) Unlink (
    gives "/p/x" [] 0 (Removed (components_of (codes "/p/x")) ∷ []) ∷
    gives "/d/f" [] 0 (Removed (components_of (codes "/d/f")) ∷ []) ∷ [])
user_of_root = refl

group_of_root : Answer world (record user { egid = 0 }) Unlink (
    refused "/p/x" [] EACCES ∷
    refused "/d/f" [] EACCES ∷ [])
group_of_root = refl

-- another user's ids, for which the real user's directory can't be searched
effective_other_user : Answer world mixed Chdir (
    refused "/q" [] EACCES ∷
    refused "/q/t" [] EACCES ∷
    gives "/s" [] 0 (Cwd (components_of (codes "/s")) ∷ []) ∷ [])
effective_other_user = refl

-- an effective group in the walk, and a real group; the directory's mode is 010
effective_group_on_the_way : Answer (with_mode 18 8) (record other_user { egid = 1000 }) Truncate (
    gives "/z/k" (0 ∷ []) 0 (Cut 19 0 ∷ []) ∷ [])
effective_group_on_the_way = refl

real_group_on_the_way : Answer (with_mode 18 8) (record other_user { rgid = 1000 }) Truncate (refused "/z/k" (0 ∷ []) EACCES ∷ [])
real_group_on_the_way = refl

-- the same for the directory of a name, whose mode is 030
effective_group_of_the_directory : Answer (with_mode 20 24) (record other_user { egid = 1000 }) Unlink (
    gives "/q/v" [] 0 (Removed (components_of (codes "/q/v")) ∷ []) ∷ [])
effective_group_of_the_directory = refl

real_group_of_the_directory : Answer (with_mode 20 24) (record other_user { rgid = 1000 }) Unlink (refused "/q/v" [] EACCES ∷ [])
real_group_of_the_directory = refl

-- the same for the file itself, whose mode is 020
effective_group : Answer (with_mode 14 16) (record other_user { euid = 3000; egid = 1000 }) Truncate (
    gives "/s/group" (1 ∷ []) 0 (Cut 14 1 ∷ []) ∷ [])
effective_group = refl

real_group : Answer (with_mode 14 16) (record other_user { euid = 3000; rgid = 1000 }) Truncate (refused "/s/group" (1 ∷ []) EACCES ∷ [])
real_group = refl
