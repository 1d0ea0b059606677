-- Examples of calls that only look at a name: stat, lstat, access and readlink.
use Rattle.std.proofs.Common.{◌≡◌, ℕ, List, [], ◌∷◌, ◌++◌, refl, codes, replicate}
use Rattle.std.specs.Prelude.{◌^◌, ◌-◌}
use Rattle.st_base.specs.declared.errno.Errno.TheVariants.{ENOENT, EACCES, EFAULT, ENOTDIR, EINVAL}
use Rattle.st_calls.specs.declared.call.SysCall.TheVariants.{Stat, Lstat, Access, Readlink}
use Rattle.st_effects.specs.Changes.{memory_after}
use Rattle.st_trace.specs.declared.entry.Change.{Change}
use Rattle.st_trace.specs.declared.entry.Change.TheVariants.{Put}
use Rattle.st_effects.proofs.Tries.{Answer, refused, gives}
use Rattle.st_effects.proofs.World.{world, user, other_user, root, mixed, made, changes}

-- a word below 65,536, by its two lowest bytes
abbrev word : ℕ → ℕ → List ℕ
word low high = low ∷ high ∷ replicate 6 0

-- the change of five words at a byte of memory 1
abbrev tells : ℕ → List ℕ → List ℕ → List ℕ → List ℕ → List ℕ → List Change
tells at kind mode uid gid size = Put 1 at (kind ++ mode ++ uid ++ gid ++ size) ∷ []

-- the tests in order: the walk, a missing name, the buffer of the words
stat_in_order : Answer world user Stat (
    refused "/no/x" (4 ∷ []) ENOENT ∷
    refused "/d/f/x" (4 ∷ []) ENOTDIR ∷
    refused "/p/x" (4 ∷ []) EACCES ∷
    refused "/p/y" (8 ∷ []) EACCES ∷
    refused "/d/x" (4 ∷ []) ENOENT ∷
    refused "/d/x" (8 ∷ []) ENOENT ∷
    refused "/d/f" (4 ∷ []) EFAULT ∷ [])
stat_in_order = refl

-- the five words have to begin at a word and to end within memory
stat_places : Answer world user Stat (
    refused "/d/f" (65504 ∷ []) EFAULT ∷
    refused "/d/f" (65500 ∷ []) EFAULT ∷
    refused "/d/f" (65495 ∷ []) EFAULT ∷
    refused "/d/f" (65536 ∷ []) EFAULT ∷
    refused "/d/f" ((2 ^ 64 - 8) ∷ []) EFAULT ∷
    refused "/d/f" (1 ∷ []) EFAULT ∷
    gives "/d/f" (65496 ∷ []) 0 (tells 65496 (word 2 0) (word 164 1) (word 0 0) (word 0 0) (word 3 0)) ∷
    gives "/d/f" (0 ∷ []) 0 (tells 0 (word 2 0) (word 164 1) (word 0 0) (word 0 0) (word 3 0)) ∷ [])
stat_places = refl

-- kind, mode, owner, group and size, also of objects to which the user has no access; a directory's size is the number of names
-- directly in it
stat_words : Answer world user Stat (
    gives "/" (8 ∷ []) 0 (tells 8 (word 1 0) (word 237 1) (word 0 0) (word 0 0) (word 6 0)) ∷
    gives "/w" (8 ∷ []) 0 (tells 8 (word 1 0) (word 255 1) (word 0 0) (word 0 0) (word 5 0)) ∷
    gives "/p" (8 ∷ []) 0 (tells 8 (word 1 0) (word 192 1) (word 0 0) (word 0 0) (word 1 0)) ∷
    gives "/w/r" (8 ∷ []) 0 (tells 8 (word 1 0) (word 255 1) (word 232 3) (word 232 3) (word 0 0)) ∷
    gives "/w/n" (8 ∷ []) 0 (tells 8 (word 1 0) (word 255 1) (word 232 3) (word 232 3) (word 1 0)) ∷
    gives "/w/h" (8 ∷ []) 0 (tells 8 (word 2 0) (word 237 1) (word 232 3) (word 232 3) (word 0 0)) ∷
    gives "/s/owner" (8 ∷ []) 0 (tells 8 (word 2 0) (word 63 0) (word 232 3) (word 208 7) (word 1 0)) ∷
    gives "/s/group" (8 ∷ []) 0 (tells 8 (word 2 0) (word 32 0) (word 208 7) (word 232 3) (word 2 0)) ∷ [])
stat_words = refl

lstat_in_order : Answer world user Lstat (
    refused "/no/x" (4 ∷ []) ENOENT ∷
    refused "/d/f/x" (4 ∷ []) ENOTDIR ∷
    refused "/p/x" (4 ∷ []) EACCES ∷
    refused "/p/y" (8 ∷ []) EACCES ∷
    refused "/d/x" (4 ∷ []) ENOENT ∷
    refused "/w/l" (4 ∷ []) EFAULT ∷
    refused "/w/l" (65504 ∷ []) EFAULT ∷ [])
lstat_in_order = refl

-- a link's size is the length of its target
lstat_words : Answer world user Lstat (
    gives "/w/l" (65496 ∷ []) 0 (tells 65496 (word 3 0) (word 255 1) (word 232 3) (word 232 3) (word 7 0)) ∷
    gives "/d/l" (8 ∷ []) 0 (tells 8 (word 3 0) (word 255 1) (word 0 0) (word 0 0) (word 1 0)) ∷
    gives "/d/f" (8 ∷ []) 0 (tells 8 (word 2 0) (word 164 1) (word 0 0) (word 0 0) (word 3 0)) ∷
    gives "/w" (8 ∷ []) 0 (tells 8 (word 1 0) (word 255 1) (word 0 0) (word 0 0) (word 5 0)) ∷ [])
lstat_words = refl

-- the words go into the memory of the calling process, which need not have its number
stat_space : (made world 3 user Stat (codes "/w/h" ∷ []) (24 ∷ 8 ∷ [])).changes ≡
    Put 6 8 (word 2 0 ++ word 237 1 ++ word 232 3 ++ word 232 3 ++ word 0 0) ∷ []
stat_space = refl

-- byte 16 is the first byte of the mode, byte 7 doesn't change
stat_memory : memory_after 1 world.memory (changes Stat (codes "/d/f" ∷ []) (24 ∷ 8 ∷ [])) 1 16 ∷
    memory_after 1 world.memory (changes Stat (codes "/d/f" ∷ []) (24 ∷ 8 ∷ [])) 1 7 ∷ [] ≡ 164 ∷ 8 ∷ []
stat_memory = refl

-- the tests in order: the mode, the walk (also if no access is requested), a missing name, the access
access_in_order : Answer world user Access (
    refused "/no/x" (8 ∷ []) EINVAL ∷
    refused "/p/x" (8 ∷ []) EINVAL ∷
    refused "/d/f/x" (8 ∷ []) EINVAL ∷
    refused "/d/x" (8 ∷ []) EINVAL ∷
    refused "/d/f" (8 ∷ []) EINVAL ∷
    refused "/w/e" ((2 ^ 64 - 1) ∷ []) EINVAL ∷
    refused "/no/x" (7 ∷ []) ENOENT ∷
    refused "/d/f/x" (7 ∷ []) ENOTDIR ∷
    refused "/p/x" (7 ∷ []) EACCES ∷
    refused "/p/x" (0 ∷ []) EACCES ∷
    refused "/p/y" (0 ∷ []) EACCES ∷
    refused "/d/x" (7 ∷ []) ENOENT ∷
    refused "/d/x" (0 ∷ []) ENOENT ∷
    refused "/d/f" (7 ∷ []) EACCES ∷
    gives "/d/f" (0 ∷ []) 0 [] ∷
    gives "/p" (0 ∷ []) 0 [] ∷
    gives "/w/e" (7 ∷ []) 0 [] ∷ [])
access_in_order = refl

-- each requested access has to be permitted: others may only read this file
access_of_each_kind : Answer world user Access (
    gives "/d/f" (4 ∷ []) 0 [] ∷
    refused "/d/f" (2 ∷ []) EACCES ∷
    refused "/d/f" (1 ∷ []) EACCES ∷
    refused "/d/f" (6 ∷ []) EACCES ∷
    refused "/d/f" (5 ∷ []) EACCES ∷
    refused "/d/f" (3 ∷ []) EACCES ∷ [])
access_of_each_kind = refl

-- for a directory the lowest bit requests search
access_of_directories : Answer world user Access (
    gives "/d" (1 ∷ []) 0 [] ∷
    gives "/d" (5 ∷ []) 0 [] ∷
    refused "/d" (2 ∷ []) EACCES ∷
    gives "/s" (1 ∷ []) 0 [] ∷
    refused "/s" (4 ∷ []) EACCES ∷
    gives "/z" (6 ∷ []) 0 [] ∷
    refused "/z" (1 ∷ []) EACCES ∷
    refused "/p" (1 ∷ []) EACCES ∷
    gives "/" (5 ∷ []) 0 [] ∷
    refused "/" (2 ∷ []) EACCES ∷ [])
access_of_directories = refl

-- root may read and write all files, and execute a file that somebody may execute
access_of_files_by_root : Answer world root Access (
    gives "/d/f" (6 ∷ []) 0 [] ∷
    refused "/d/f" (1 ∷ []) EACCES ∷
    refused "/d/f" (7 ∷ []) EACCES ∷
    gives "/s/group" (6 ∷ []) 0 [] ∷
    refused "/s/group" (1 ∷ []) EACCES ∷
    gives "/s/run" (7 ∷ []) 0 [] ∷
    gives "/s/owner" (7 ∷ []) 0 [] ∷
    gives "/p/x" (7 ∷ []) 0 [] ∷ [])
access_of_files_by_root = refl

-- root may search a directory that nobody else may search
access_of_directories_by_root : Answer world root Access (
    gives "/z" (7 ∷ []) 0 [] ∷
    gives "/p" (7 ∷ []) 0 [] ∷ [])
access_of_directories_by_root = refl

-- the walk and the access test the real user: it has access to its own directory and file, whatever its effective user is
access_of_the_real_user : Answer world mixed Access (
    gives "/q/v" (6 ∷ []) 0 [] ∷
    gives "/s/keep" (2 ∷ []) 0 [] ∷
    refused "/s/owner" (4 ∷ []) EACCES ∷
    gives "/s/run" (1 ∷ []) 0 [] ∷
    refused "/s/group" (4 ∷ []) EACCES ∷ [])
access_of_the_real_user = refl

-- they test the real group too
access_of_the_real_group : Answer world (record other_user { ruid = 3000; rgid = 1000 }) Access (
    gives "/s/group" (4 ∷ []) 0 [] ∷
    refused "/s/group" (2 ∷ []) EACCES ∷ [])
access_of_the_real_group = refl

access_of_another_real_group : Answer world (record user { ruid = 3000; rgid = 3000 }) Access (
    refused "/s/group" (4 ∷ []) EACCES ∷
    refused "/q/v" (4 ∷ []) EACCES ∷ [])
access_of_another_real_group = refl

-- effective user 0 makes no difference, neither in the walk nor at the end; real user 0 does, whatever the effective user is
access_as_root : Answer world (record user { euid = 0; egid = 0 }) Access (
    refused "/p/x" (4 ∷ []) EACCES ∷
    refused "/d/f" (2 ∷ []) EACCES ∷ [])
access_as_root = refl

access_of_root_as_another : Answer world (record root { euid = 1000; egid = 1000 }) Access (
    gives "/p/x" (7 ∷ []) 0 [] ∷
    gives "/d/f" (6 ∷ []) 0 [] ∷ [])
access_of_root_as_another = refl

-- the tests in order: the walk, a missing name, an object that is no link, a buffer outside memory
readlink_in_order : Answer world user Readlink (
    refused "/no/x" (65536 ∷ 1 ∷ []) ENOENT ∷
    refused "/d/f/x" (65536 ∷ 1 ∷ []) ENOTDIR ∷
    refused "/p/x" (65536 ∷ 1 ∷ []) EACCES ∷
    refused "/p/y" (8 ∷ 1 ∷ []) EACCES ∷
    refused "/w/x" (65536 ∷ 1 ∷ []) ENOENT ∷
    refused "/w/x" (8 ∷ 1 ∷ []) ENOENT ∷
    refused "/w/e" (65536 ∷ 1 ∷ []) EINVAL ∷
    refused "/w/e" (8 ∷ 1 ∷ []) EINVAL ∷
    refused "/w" (8 ∷ 1 ∷ []) EINVAL ∷
    refused "/" (8 ∷ 1 ∷ []) EINVAL ∷
    refused "/w/l" (65536 ∷ 1 ∷ []) EFAULT ∷ [])
readlink_in_order = refl

-- the requested number of bytes has to be within memory, even if the target is shorter; a sum doesn't wrap
readlink_places : Answer world user Readlink (
    refused "/w/l" (65530 ∷ 7 ∷ []) EFAULT ∷
    refused "/w/l" (65529 ∷ 8 ∷ []) EFAULT ∷
    refused "/w/l" (65537 ∷ 0 ∷ []) EFAULT ∷
    refused "/w/l" (8 ∷ (2 ^ 64 - 8) ∷ []) EFAULT ∷
    refused "/w/l" ((2 ^ 64 - 8) ∷ 8 ∷ []) EFAULT ∷
    gives "/w/l" (65529 ∷ 7 ∷ []) 7 (Put 1 65529 (codes "nowhere") ∷ []) ∷
    gives "/w/l" (65536 ∷ 0 ∷ []) 0 (Put 1 65536 [] ∷ []) ∷ [])
readlink_places = refl

-- the first bytes of the target, and their number
readlink_bytes : Answer world user Readlink (
    gives "/w/l" (8 ∷ 9 ∷ []) 7 (Put 1 8 (codes "nowhere") ∷ []) ∷
    gives "/w/l" (9 ∷ 7 ∷ []) 7 (Put 1 9 (codes "nowhere") ∷ []) ∷
    gives "/w/l" (8 ∷ 6 ∷ []) 6 (Put 1 8 (codes "nowher") ∷ []) ∷
    gives "/w/l" (8 ∷ 3 ∷ []) 3 (Put 1 8 (codes "now") ∷ []) ∷
    gives "/w/l" (8 ∷ 0 ∷ []) 0 (Put 1 8 [] ∷ []) ∷
    gives "/d/l" (8 ∷ 9 ∷ []) 1 (Put 1 8 (codes "f") ∷ []) ∷ [])
readlink_bytes = refl

readlink_space : (made world 3 user Readlink (codes "/d/l" ∷ []) (24 ∷ 8 ∷ 9 ∷ [])).changes ≡ Put 6 8 (codes "f") ∷ []
readlink_space = refl
