-- Examples of the progress of a call's arguments: which arguments it has, which word or name is next, and the first fault.
use Rattle.std.proofs.Common.{◌≡◌, ℕ, List, [], ◌∷◌, ◌++◌, map, refl, replicate, codes}
use Rattle.std.specs.Prelude.{◌==◌, if◌then◌else◌}
use Rattle.std.specs.Fmt.{digits}
use Rattle.st_base.specs.declared.errno.Errno.TheVariants.{EFAULT, EINVAL, ENAMETOOLONG, ENOENT, E2BIG}
use Rattle.st_calls.specs.declared.argument.ArgText.{ArgText}
use Rattle.st_calls.specs.declared.argument.Label.{Label}
use Rattle.st_calls.specs.declared.argument.Label.TheVariants.{Filename, String, Mode, Uid, Gid, Argv, Pid, Signum, SockDom, SockType, SockAddr}
use Rattle.st_calls.specs.declared.call.SysCall.{SysCall}
use Rattle.st_calls.specs.declared.call.SysCall.TheVariants as call
use Rattle.st_calls.specs.declared.rule.Rule.{Rule}
use Rattle.st_calls.specs.declared.rule.Rule.TheVariants.{Call, FsRead, FsWrite}
use Rattle.st_names.specs.Name.{components_of}
use Rattle.st_names.specs.declared.seen.SeenText.{SeenText}
use Rattle.st_names.specs.declared.seen.SeenText.TheVariants as seen
use Rattle.st_effects.specs.Progress.{Progress, Word, Look, Stuck, Ready, ArgRequest, progress}
use Rattle.st_effects.proofs.SpellingRows.{words_of}

-- a call with these registers that this rule judges, in the directory /w
abbrev asks : Rule → SysCall → List ℕ → ArgRequest
asks rule call regs = record { rule = rule; call = call; regs = regs; cwd = components_of (codes "/w") }

-- six different registers
abbrev registers : List ℕ
registers = 8 ∷ 16 ∷ 24 ∷ 32 ∷ 40 ∷ 48 ∷ []

-- the progress of the arguments if nothing was copied, and if each word is "a" and each look finds a file
abbrev begun : Rule → SysCall → Progress
begun rule call = progress (asks rule call registers) (λ j. []) (λ j. [])

abbrev ended : Rule → SysCall → Progress
ended rule call = progress (asks rule call registers) (λ j. words_of 1 (codes "a")) (λ j. seen.File ∷ [])

abbrev own_begun : SysCall → Progress
own_begun call = begun (Call call) call

abbrev own_ended : SysCall → Progress
own_ended call = ended (Call call) call

abbrev arg : Label → ℕ → List ℕ → ArgText
arg label index text = record { label = label; index = index; text = text }

-- the name in the first register
abbrev name : ArgText
name = arg Filename 0 (codes "/w/a")

-- these calls have no arguments that policies judge
without_arguments : map own_begun (
    call.Close ∷ call.Read ∷ call.Write ∷ call.Lseek ∷ call.Dup ∷ call.Fork ∷ call.Exit ∷ call.GetPid ∷ call.GetUid ∷ call.GetEuid ∷ []) ≡
    replicate 10 (Ready [])
without_arguments = refl

-- these calls have a name in their first register, and no other argument
abbrev with_one_name : List SysCall
with_one_name =
    call.Open ∷ call.Stat ∷ call.Lstat ∷ call.Access ∷ call.Readlink ∷ call.Unlink ∷ call.Mkdir ∷ call.Rmdir ∷ call.Chdir ∷ call.Truncate ∷ []

one_name_begun : map own_begun with_one_name ≡ replicate 10 (Word 0 1)
one_name_begun = refl

one_name_ended : map own_ended with_one_name ≡ replicate 10 (Ready (name ∷ []))
one_name_ended = refl

-- so does each call that is judged under an alias
aliases_begun : map (begun FsRead) with_one_name ++ map (begun FsWrite) with_one_name ≡ replicate 20 (Word 0 1)
aliases_begun = refl

aliases_ended : map (ended FsRead) with_one_name ++ map (ended FsWrite) with_one_name ≡ replicate 20 (Ready (name ∷ []))
aliases_ended = refl

-- these calls begin with a name or a text in their first register, or with an address in their second
texts_begun : map own_begun (call.Link ∷ call.Symlink ∷ call.Rename ∷ call.Chmod ∷ call.Chown ∷ call.Execve ∷ call.Bind ∷ call.Connect ∷ []) ≡
    replicate 6 (Word 0 1) ++ replicate 2 (Word 0 2)
texts_begun = refl

-- two texts, or a text and numbers, in their order
texts_ended : map own_ended (call.Link ∷ call.Rename ∷ call.Symlink ∷ call.Chmod ∷ call.Chown ∷ []) ≡
    Ready (name ∷ arg Filename 1 (codes "/w/a") ∷ []) ∷
    Ready (name ∷ arg Filename 1 (codes "/w/a") ∷ []) ∷
    Ready (arg String 0 (codes "a") ∷ name ∷ []) ∷
    Ready (name ∷ arg Mode 0 (codes "20") ∷ []) ∷
    Ready (name ∷ arg Uid 0 (codes "16") ∷ arg Gid 0 (codes "24") ∷ []) ∷ []
unfolding digits
texts_ended = refl

-- calls whose arguments are all numbers need no word
numbers : map own_begun (call.Kill ∷ call.SetUid ∷ call.SetEuid ∷ call.SetGid ∷ call.SetEgid ∷ call.Socket ∷ []) ≡
    Ready (arg Pid 0 (codes "8") ∷ arg Signum 0 (codes "16") ∷ []) ∷
    Ready (arg Uid 0 (codes "8") ∷ []) ∷
    Ready (arg Uid 0 (codes "8") ∷ []) ∷
    Ready (arg Gid 0 (codes "8") ∷ []) ∷
    Ready (arg Gid 0 (codes "8") ∷ []) ∷
    Ready (arg SockDom 0 (codes "8") ∷ arg SockType 0 (codes "16") ∷ []) ∷ []
unfolding digits
numbers = refl

sockets : map (λ regs. progress (asks (Call call.Socket) call.Socket regs) (λ j. []) (λ j. [])) ((1 ∷ 1 ∷ []) ∷ (2 ∷ 2 ∷ []) ∷ []) ≡
    Ready (arg SockDom 0 (codes "AF_UNIX") ∷ arg SockType 0 (codes "SOCK_STREAM") ∷ []) ∷
    Ready (arg SockDom 0 (codes "AF_INET") ∷ arg SockType 0 (codes "SOCK_DGRAM") ∷ []) ∷ []
sockets = refl

-- each part is read by its own words and looks
abbrev by_part : {X : Type 0} → List X → List X → ℕ → List X
by_part first second j = if j == 0 then first else if j == 1 then second else []

-- an address, and a file's name with its argument vector
address_ended : map (λ call. progress (asks (Call call) call registers) (by_part (words_of 1 (16 ∷ 2 ∷ 0 ∷ 80 ∷ 10 ∷ 0 ∷ 0 ∷ 1 ∷ [])) []) (λ j. []))
    (call.Bind ∷ call.Connect ∷ []) ≡ replicate 2 (Ready (arg SockAddr 0 (codes "inet-[10.0.0.1]:80") ∷ []))
unfolding digits
address_ended = refl

argv_ended : progress (asks (Call call.Execve) call.Execve registers)
    (by_part (words_of 1 (codes "ls")) (80 ∷ words_of 1 (codes "ls") ++ (88 ∷ words_of 1 (codes "-l") ++ (0 ∷ [])))) (by_part (seen.File ∷ []) []) ≡
    Ready (arg Filename 0 (codes "/w/ls") ∷ arg Argv 0 (codes "ls -l") ∷ [])
argv_ended = refl

-- the parts are read one after the other: words and looks of the first, then those of the second; here the two names of link
abbrev links : List ℕ → List SeenText → List ℕ → List SeenText → Progress
links first_words first_seens second_words second_seens =
    progress (asks (Call call.Link) call.Link registers) (by_part first_words second_words) (by_part first_seens second_seens)

part_by_part :
    links [] [] [] [] ∷
    links [] [] (words_of 1 (codes "b")) (seen.File ∷ []) ∷
    links (words_of 1 (codes "abcdefgh")) [] [] [] ∷
    links (words_of 1 (codes "a")) [] [] [] ∷
    links (words_of 1 (codes "a")) [] (words_of 1 (codes "b")) (seen.File ∷ []) ∷
    links (words_of 1 (codes "a")) (seen.File ∷ []) [] [] ∷
    links (words_of 1 (codes "a")) (seen.File ∷ []) (words_of 1 (codes "b")) [] ∷
    links (words_of 1 (codes "a")) (seen.File ∷ []) (words_of 1 (codes "b")) (seen.Missing ∷ []) ∷ [] ≡
    Word 0 1 ∷ Word 0 1 ∷ Word 0 2 ∷ Look 0 (components_of (codes "/w/a")) ∷ Look 0 (components_of (codes "/w/a")) ∷ Word 1 2 ∷
    Look 1 (components_of (codes "/w/b")) ∷ Ready (name ∷ arg Filename 1 (codes "/w/b") ∷ []) ∷ []
part_by_part = refl

-- the first part that has a fault decides, and a part that isn't complete comes before the fault of a later part
faults_part_by_part :
    links (0 ∷ []) [] [] [] ∷
    links (0 ∷ []) [] (words_of 129 (replicate 1025 97)) [] ∷
    links [] [] (0 ∷ []) [] ∷
    links (words_of 1 (codes "a")) [] (0 ∷ []) [] ∷
    links (words_of 1 (codes "a")) (seen.File ∷ []) (0 ∷ []) [] ∷
    links (words_of 1 (codes "a")) (seen.File ∷ []) (words_of 129 (replicate 1025 97)) [] ∷
    links (words_of 129 (replicate 1025 97)) [] (0 ∷ []) [] ∷ [] ≡
    Stuck ENOENT ∷ Stuck ENOENT ∷ Word 0 1 ∷ Look 0 (components_of (codes "/w/a")) ∷ Stuck ENOENT ∷ Stuck ENAMETOOLONG ∷ Stuck ENAMETOOLONG ∷ []
faults_part_by_part = refl

-- each kind has its faults; an empty text is a fault only for a name
faults_of_kinds :
    progress (asks (Call call.Symlink) call.Symlink registers) (by_part (words_of 32 (replicate 256 97)) (0 ∷ [])) (λ j. []) ∷
    progress (asks (Call call.Symlink) call.Symlink registers) (by_part (0 ∷ []) []) (λ j. []) ∷
    progress (asks (Call call.Symlink) call.Symlink registers) (by_part (0 ∷ []) (0 ∷ [])) (λ j. []) ∷
    progress (asks (Call call.Bind) call.Bind registers) (by_part (words_of 1 (16 ∷ 1 ∷ [])) []) (λ j. []) ∷
    progress (asks (Call call.Bind) call.Bind (0 ∷ 65536 ∷ [])) (λ j. []) (λ j. []) ∷
    progress (asks (Call call.Connect) call.Connect (0 ∷ 12 ∷ [])) (λ j. []) (λ j. []) ∷
    progress (asks (Call call.Stat) call.Stat (65536 ∷ [])) (λ j. []) (λ j. []) ∷
    progress (asks (Call call.Execve) call.Execve (8 ∷ 12 ∷ [])) (by_part (words_of 1 (codes "a")) []) (by_part (seen.File ∷ []) []) ∷
    progress (asks (Call call.Execve) call.Execve registers) (by_part (words_of 1 (codes "a")) (80 ∷ words_of 129 (replicate 1025 97)))
    (by_part (seen.File ∷ []) []) ∷ [] ≡
    Stuck ENAMETOOLONG ∷ Word 1 2 ∷ Stuck ENOENT ∷ Stuck EINVAL ∷ Stuck EFAULT ∷ Stuck EFAULT ∷ Stuck EFAULT ∷ Stuck EFAULT ∷ Stuck E2BIG ∷ []
faults_of_kinds = refl

-- a link that is the last component of a call's first name: it is followed to its target, or it is the argument itself
abbrev ending_in_a_link : SysCall → List ℕ → Progress
ending_in_a_link call regs = progress (asks FsRead call regs) (by_part (words_of 1 (codes "a")) []) (by_part (seen.Link (codes "b") ∷ []) [])

abbrev followed : Progress
followed = Look 0 (components_of (codes "/w/b"))

abbrev kept : Progress
kept = Ready (name ∷ [])

links_of_calls : map (λ call. ending_in_a_link call registers) (
    call.Stat ∷ call.Access ∷ call.Link ∷ call.Chdir ∷ call.Chmod ∷ call.Chown ∷ call.Truncate ∷ call.Execve ∷
    call.Lstat ∷ call.Readlink ∷ call.Unlink ∷ call.Rename ∷ call.Mkdir ∷ call.Rmdir ∷ []) ≡
    replicate 8 followed ++ replicate 6 kept
links_of_calls = refl

-- an open doesn't follow the link if it makes a file that must not exist
links_of_open : map (λ flags. ending_in_a_link call.Open (8 ∷ flags ∷ [])) (0 ∷ 1 ∷ 0x200 ∷ 0x800 ∷ 0xc00 ∷ 0x601 ∷ 0xa00 ∷ 0xa01 ∷ 0xfff ∷ []) ≡
    replicate 6 followed ++ replicate 3 kept
links_of_open = refl

-- no call follows a link that is the last component of its second name
links_of_second_names : map (λ call. progress (asks (Call call) call registers) (λ j. words_of 1 (codes "a"))
    (by_part (seen.File ∷ []) (seen.Link (codes "b") ∷ []))) (call.Link ∷ call.Rename ∷ call.Symlink ∷ []) ≡
    Ready (name ∷ arg Filename 1 (codes "/w/a") ∷ []) ∷ Ready (name ∷ arg Filename 1 (codes "/w/a") ∷ []) ∷ Ready (arg String 0 (codes "a") ∷ name ∷ []) ∷ []
links_of_second_names = refl
