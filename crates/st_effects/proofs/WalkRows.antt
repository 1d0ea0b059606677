-- Examples of the walk of a message's name: where it begins, which name is looked up next, and the resolved name.
use Rattle.std.proofs.Common.{◌≡◌, ℕ, List, [], ◌∷◌, ◌++◌, map, refl, replicate, codes, length, flat_map}
use Rattle.std.specs.Prelude.{◌+◌, ◌/◌, ◌==◌, if◌then◌else◌}
use Rattle.st_base.specs.declared.errno.Errno.TheVariants.{ENOENT, ENOTDIR, ELOOP, ENAMETOOLONG}
use Rattle.st_calls.specs.declared.argument.Label.TheVariants.{Filename}
use Rattle.st_calls.specs.declared.call.SysCall.{SysCall}
use Rattle.st_calls.specs.declared.call.SysCall.TheVariants.{Stat, Lstat}
use Rattle.st_calls.specs.declared.rule.Rule.TheVariants.{FsRead}
use Rattle.st_names.specs.Name.{Components, components_of}
use Rattle.st_model.specs.Tree.{look}
use Rattle.st_names.specs.declared.seen.SeenText.{SeenText}
use Rattle.st_names.specs.declared.seen.SeenText.TheVariants.{Missing, NotDir, Dir, File, Link}
use Rattle.st_effects.specs.Progress.{Progress, Look, Stuck, Ready, progress}
use Rattle.st_effects.proofs.SpellingRows.{words_of}
use Rattle.st_effects.proofs.World.{world}

-- the progress of a call on this name, from this directory, after these looks
abbrev walked_from : Components → SysCall → List ℕ → List SeenText → Progress
walked_from cwd call text lookups =
    progress (record { rule = FsRead; call = call; regs = replicate 6 0; cwd = cwd })
    (λ j. words_of (length text / 8 + 1) text) (λ j. if j == 0 then lookups else [])

-- the same from /w/v: a link that is last is followed by stat and not by lstat
abbrev stats : List ℕ → List SeenText → Progress
stats = walked_from (components_of (codes "/w/v")) Stat

abbrev lstats : List ℕ → List SeenText → Progress
lstats = walked_from (components_of (codes "/w/v")) Lstat

abbrev looks : List ℕ → Progress
looks text = Look 0 (components_of text)

-- the resolved name
abbrev means : List ℕ → Progress
means text = Ready (record { label = Filename; index = 0; text = text } ∷ [])

-- an absolute name begins at the root, any other at the directory of the message; empty parts and dots are ignored
first_looks : map (λ text. stats text []) (
    codes "/a/b" ∷ codes "a/b" ∷ codes "a" ∷ codes "./a" ∷ codes "a/" ∷ codes "//a//b" ∷ codes "/./a/." ∷ codes "..a" ∷ codes "..." ∷ codes ".a" ∷ []) ≡
    looks (codes "/a") ∷ looks (codes "/w/v/a") ∷ looks (codes "/w/v/a") ∷ looks (codes "/w/v/a") ∷ looks (codes "/w/v/a") ∷ looks (codes "/a") ∷
    looks (codes "/a") ∷ looks (codes "/w/v/..a") ∷ looks (codes "/w/v/...") ∷ looks (codes "/w/v/.a") ∷ []
first_looks = refl

-- two dots lead to the parent without a look; the root stays the root
no_looks : map (λ text. stats text []) (
    codes "/" ∷ codes "//" ∷ codes "/." ∷ codes "." ∷ codes "./" ∷ codes ".." ∷ codes "../" ∷ codes "../.." ∷ codes "../../.." ∷ codes "/.." ∷ codes "/../.." ∷ []) ≡
    means (codes "/") ∷ means (codes "/") ∷ means (codes "/") ∷ means (codes "/w/v") ∷ means (codes "/w/v") ∷ means (codes "/w") ∷
    means (codes "/w") ∷ means (codes "/") ∷ means (codes "/") ∷ means (codes "/") ∷ means (codes "/") ∷ []
no_looks = refl

looks_after_two_dots : map (λ text. stats text []) (codes "../a" ∷ codes ".././../a" ∷ codes "/../a" ∷ codes "../../../a" ∷ []) ≡
    looks (codes "/w/a") ∷ looks (codes "/a") ∷ looks (codes "/a") ∷ looks (codes "/a") ∷ []
looks_after_two_dots = refl

-- after a directory the next component is looked up; a component that isn't last has to be a directory
components_in_order : map (λ lookups. stats (codes "/a/b") lookups) (
    (Dir ∷ []) ∷ (File ∷ []) ∷ (Missing ∷ []) ∷ (NotDir ∷ []) ∷ []) ≡
    looks (codes "/a/b") ∷ Stuck ENOTDIR ∷ Stuck ENOENT ∷ Stuck ENOTDIR ∷ []
components_in_order = refl

-- the last component may be anything, or missing
last_component : map (λ lookups. stats (codes "/a/b/") lookups) (
    (Dir ∷ Dir ∷ []) ∷ (Dir ∷ File ∷ []) ∷ (Dir ∷ Missing ∷ []) ∷ (Dir ∷ NotDir ∷ []) ∷ []) ≡
    means (codes "/a/b") ∷ means (codes "/a/b") ∷ means (codes "/a/b") ∷ Stuck ENOTDIR ∷ []
last_component = refl

-- a component before two dots isn't last: it is looked up, has to exist, and is followed if it is a link
before_two_dots : map (λ lookups. lstats (codes "a/..") lookups) (
    [] ∷ (Dir ∷ []) ∷ (File ∷ []) ∷ (Missing ∷ []) ∷ (Link (codes "/e/f") ∷ []) ∷ (Link (codes "/e/f") ∷ Dir ∷ []) ∷
    (Link (codes "/e/f") ∷ Dir ∷ Dir ∷ []) ∷ (Link (codes "/e/f") ∷ Dir ∷ File ∷ []) ∷ []) ≡
    looks (codes "/w/v/a") ∷ means (codes "/w/v") ∷ Stuck ENOTDIR ∷ Stuck ENOENT ∷ looks (codes "/e") ∷ looks (codes "/e/f") ∷ means (codes "/e") ∷
    Stuck ENOTDIR ∷ []
before_two_dots = refl

between_two_dots : map (λ lookups. stats (codes "/a/../../b/c/../d") lookups) (
    [] ∷ (Dir ∷ []) ∷ (Dir ∷ Dir ∷ []) ∷ (Dir ∷ Dir ∷ Dir ∷ []) ∷ (Dir ∷ Dir ∷ Dir ∷ File ∷ []) ∷ []) ≡
    looks (codes "/a") ∷ looks (codes "/b") ∷ looks (codes "/b/c") ∷ looks (codes "/b/d") ∷ means (codes "/b/d") ∷ []
between_two_dots = refl

-- a link that is last is followed by stat, also if a slash or a dot follows, which are ignored; lstat doesn't follow it
last_link : map (λ text. stats text (Link (codes "e") ∷ [])) (codes "a" ∷ codes "a/" ∷ codes "a/." ∷ []) ++
    map (λ text. lstats text (Link (codes "e") ∷ [])) (codes "a" ∷ codes "a/" ∷ codes "a/." ∷ []) ≡
    replicate 3 (looks (codes "/w/v/e")) ++ replicate 3 (means (codes "/w/v/a"))
last_link = refl

-- a link that isn't last is followed by both
link_on_the_way : map (λ walked. walked (codes "/a/b/c") (Dir ∷ Link (codes "e") ∷ [])) (stats ∷ lstats ∷ []) ≡ replicate 2 (looks (codes "/a/e"))
link_on_the_way = refl

-- a target begins at the link's directory, or at the root if it is absolute; the components after the link come after the target
targets : map (λ target. stats (codes "/a/b/c") (Dir ∷ Link target ∷ [])) (
    codes "e" ∷ codes "/e" ∷ codes "./e/" ∷ codes "../e" ∷ codes "../../../e" ∷ codes "e/f" ∷ codes "." ∷ codes "/" ∷ codes ".." ∷ codes "/.." ∷ []) ≡
    looks (codes "/a/e") ∷ looks (codes "/e") ∷ looks (codes "/a/e") ∷ looks (codes "/e") ∷ looks (codes "/e") ∷ looks (codes "/a/e") ∷
    looks (codes "/a/c") ∷ looks (codes "/c") ∷ looks (codes "/c") ∷ looks (codes "/c") ∷ []
targets = refl

-- a target may have no component at all
targets_that_end : map (λ target. stats (codes "/a/b") (Dir ∷ Link target ∷ [])) (codes "." ∷ codes "/" ∷ codes ".." ∷ codes "../.." ∷ []) ≡
    means (codes "/a") ∷ means (codes "/") ∷ means (codes "/") ∷ means (codes "/") ∷ []
targets_that_end = refl

after_a_link : map (λ lookups. stats (codes "/a/b") (Link (codes "/e/f") ∷ lookups)) (
    [] ∷ (Dir ∷ []) ∷ (Dir ∷ Dir ∷ []) ∷ (Dir ∷ Dir ∷ Missing ∷ []) ∷ (Missing ∷ []) ∷ (Dir ∷ Missing ∷ []) ∷ (Dir ∷ File ∷ []) ∷
    (Dir ∷ Link (codes "g") ∷ []) ∷ []) ≡
    looks (codes "/e") ∷ looks (codes "/e/f") ∷ looks (codes "/e/f/b") ∷ means (codes "/e/f/b") ∷ Stuck ENOENT ∷ Stuck ENOENT ∷ Stuck ENOTDIR ∷
    looks (codes "/e/g") ∷ []
after_a_link = refl

-- the last component of a target is last if no component comes after the link
last_of_a_target : map (λ lookups. stats (codes "/a") (Link (codes "/e/f") ∷ Dir ∷ lookups)) (
    (File ∷ []) ∷ (Missing ∷ []) ∷ (Dir ∷ []) ∷ (NotDir ∷ []) ∷ (Link (codes "g") ∷ []) ∷ []) ≡
    means (codes "/e/f") ∷ means (codes "/e/f") ∷ means (codes "/e/f") ∷ Stuck ENOTDIR ∷ looks (codes "/e/g") ∷ []
last_of_a_target = refl

-- 32 links are followed, on the way and at the end, and the next is too many; a link that isn't followed doesn't count
links_at_the_end : map (λ count. stats (codes "/a") (replicate count (Link (codes "a")))) (31 ∷ 32 ∷ 33 ∷ 34 ∷ []) ≡
    looks (codes "/a") ∷ looks (codes "/a") ∷ Stuck ELOOP ∷ Stuck ELOOP ∷ []
links_at_the_end = refl

links_on_the_way : map (λ count. lstats (codes "/a/b") (replicate count (Link (codes "a")))) (31 ∷ 32 ∷ 33 ∷ []) ≡
    looks (codes "/a") ∷ looks (codes "/a") ∷ Stuck ELOOP ∷ []
links_on_the_way = refl

links_followed_and_kept : map (λ walked. walked (codes "/a/b") (replicate 32 (Link (codes "a")) ++ (Dir ∷ Link (codes "c") ∷ []))) (stats ∷ lstats ∷ []) ≡
    Stuck ELOOP ∷ means (codes "/a/b") ∷ []
links_followed_and_kept = refl

links_followed_to_a_file : stats (codes "/a") (replicate 32 (Link (codes "a")) ++ (File ∷ [])) ≡ means (codes "/a")
links_followed_to_a_file = refl

-- an empty name, and a component of 256 bytes at any position, are faults before any look
faults_before_looks : map (λ text. stats text []) (
    [] ∷ replicate 255 97 ∷ replicate 256 97 ∷ (codes "/no/" ++ replicate 256 97) ∷ (codes "/no/" ++ replicate 256 97 ++ codes "/x") ∷
    (replicate 256 97 ++ codes "/..") ∷ []) ≡
    Stuck ENOENT ∷ looks (codes "/w/v/" ++ replicate 255 97) ∷ Stuck ENAMETOOLONG ∷ Stuck ENAMETOOLONG ∷ Stuck ENAMETOOLONG ∷ Stuck ENAMETOOLONG ∷ []
faults_before_looks = refl

-- a directory whose name has 1,019 bytes
abbrev deep : Components
deep = replicate 3 (replicate 255 97) ++ (replicate 250 97 ∷ [])

abbrev printed : List ℕ
printed = flat_map (λ part. 47 ∷ part) deep

-- the resolved name has up to 1,024 bytes; this is tested at the end, after the last look
long_names :
    walked_from deep Stat (codes "abcd") (File ∷ []) ∷
    walked_from deep Stat (codes "abcde") [] ∷
    walked_from deep Stat (codes "abcde") (File ∷ []) ∷
    walked_from deep Stat (codes "abcde") (Missing ∷ []) ∷
    walked_from deep Stat (codes "abcde/") (Dir ∷ []) ∷
    walked_from deep Lstat (codes "abcde") (Link (codes "/e") ∷ []) ∷
    walked_from deep Stat (codes "abcde") (Link (codes "/e") ∷ []) ∷
    walked_from deep Stat (codes "abcde/f") (Dir ∷ []) ∷
    walked_from deep Stat (codes "abcde/f") (Missing ∷ []) ∷
    walked_from deep Stat (codes "abcde/..") (Dir ∷ []) ∷ [] ≡
    Ready (record { label = Filename; index = 0; text = printed ++ codes "/abcd" } ∷ []) ∷
    Look 0 (deep ++ (codes "abcde" ∷ [])) ∷
    Stuck ENAMETOOLONG ∷
    Stuck ENAMETOOLONG ∷
    Stuck ENAMETOOLONG ∷
    Stuck ENAMETOOLONG ∷
    looks (codes "/e") ∷
    Look 0 (deep ++ (codes "abcde" ∷ codes "f" ∷ [])) ∷
    Stuck ENOENT ∷
    Ready (record { label = Filename; index = 0; text = printed } ∷ []) ∷ []
long_names = refl

-- looks at names of the world: the first proper prefix that is missing or no directory decides, and no link is followed
seen_of_names : map (λ name. look world.tree (components_of name)) (
    codes "/" ∷ codes "/w" ∷ codes "/w/e" ∷ codes "/w/l" ∷ codes "/w/n/c" ∷ codes "/w/y" ∷ codes "/no" ∷ codes "/no/x" ∷ codes "/w/no/x" ∷
    codes "/w/e/x" ∷ codes "/w/e/x/y" ∷ codes "/w/l/x" ∷ codes "/p/x" ∷ []) ≡
    Dir ∷ Dir ∷ File ∷ Link (codes "nowhere") ∷ File ∷ Missing ∷ Missing ∷ Missing ∷ Missing ∷ NotDir ∷ NotDir ∷ NotDir ∷ File ∷ []
seen_of_names = refl
