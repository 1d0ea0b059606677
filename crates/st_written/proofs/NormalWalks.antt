-- The names that a walk asks for are normal, if it begins at a normal name.
use Rattle.std.proofs.Common.{◌≡◌, ℕ, ◌+◌, ◌-◌, Bool, true, false, cond, not, ◌&&◌, nat_eq, List, [], ◌∷◌, ◌++◌, length, take, drop, Option, Some, None, sym, subst, take-append-drop}
use Rattle.std.proofs.lemmas.List.Elements.{filter_passes, recursion_from_All}
use Rattle.std.specs.Prelude.{IfSome}
use Rattle.st_base.proofs.Each.{each-append, each-parts}
use Rattle.st_base.specs.declared.errno.Errno.TheVariants.{ELOOP, ENOTDIR, ENOENT, ENAMETOOLONG}
use Rattle.st_base.specs.declared.errno.Errno.{Errno}
use Rattle.st_calls.specs.declared.argument.ArgSpec.{ArgSpec}
use Rattle.st_calls.specs.declared.argument.ArgText.{ArgText}
use Rattle.st_calls.specs.declared.argument.PartKind.{PartKind}
use Rattle.st_calls.specs.declared.argument.PartKind.TheVariants as kind
use Rattle.st_calls.specs.declared.call.SysCall.{SysCall}
use Rattle.st_calls.specs.Call.{follows}
use Rattle.st_effects.specs.Progress.{ArgRequest, Progress, Word, Look, Stuck, Ready, is_followed, progress_from, progress_of_spelling, progress_of_text, progress_of_walk, text_arg, with_arg}
use Rattle.st_law.specs.Arguments.{first_of_two, link_along, link_among, link_of_part}
use Rattle.st_model.specs.Spelling as spelling
use Rattle.st_model.specs.Tree.{Tree}
use Rattle.st_model.specs.Walk.{WalkState, Name, Next, Fault, is_last, is_up, name_after_parents, rest_after_ups, start_of_name, start_walk, walk_components, walk_end}
use Rattle.st_names.specs.Name.{Components, components_of, has_long_part, is_component, parent, split_at_slashes}
use Rattle.st_names.specs.declared.seen.SeenText.{SeenText}
use Rattle.st_names.specs.declared.seen.SeenText.TheVariants.{Missing, NotDir, Dir, File, Link}
use Rattle.st_written.specs.Normal.{IsNormal}

pub normal_components : (text : List ℕ) → IsNormal (components_of text)
normal_components text = recursion_from_All (λ part. is_component part ≡ true) (components_of text) (filter_passes is_component (split_at_slashes text))

normal_append : (one other : Components) → IsNormal one → IsNormal other → IsNormal (one ++ other)
normal_append one other a b = each-append (λ part. is_component part ≡ true) one other a b

normal_parent : (name : Components) → IsNormal name → IsNormal (parent name)
normal_parent name normal = (each-parts (λ part. is_component part ≡ true) (take (length name - 1) name) (drop (length name - 1) name) (subst IsNormal (sym (take-append-drop (length name - 1) name)) normal)).0

normal_by : (b : Bool) (one other : Components) → IsNormal one → IsNormal other → IsNormal (cond b one other)
normal_by true one other a b = a
normal_by false one other a b = b

after_parents : (done rest : Components) → IsNormal done → IsNormal (name_after_parents done rest)
after_parents done [] normal = normal
after_parents done (part ∷ rest) normal = normal_by (is_up part) (name_after_parents (parent done) rest) done (after_parents (parent done) rest (normal_parent done normal)) normal

after_ups : (rest : Components) → IsNormal rest → IsNormal (rest_after_ups rest)
after_ups [] normal = tt
after_ups (part ∷ rest) normal = normal_by (is_up part) (rest_after_ups rest) (part ∷ rest) (after_ups rest normal.1) normal

-- ---- walks

-- the next name that a walk asks for is normal
abbrev AsksWell : WalkState → Type 0
AsksWell (Name name) = Unit {0}
AsksWell (Next name) = IsNormal name
AsksWell (Fault errno) = Unit {0}

end_by : (b : Bool) (errno : Errno) (done : Components) → AsksWell (cond b (Fault errno) (Name done))
end_by true errno done = tt
end_by false errno done = tt

end_well : (done : Components) → AsksWell (walk_end done)
end_well done = end_by _ _ done

last_by : (b : Bool) (errno : Errno) (done : Components) → AsksWell (cond b (walk_end done) (Fault errno))
last_by true errno done = end_well done
last_by false errno done = tt

link_by : (a b : Bool) (done : Components) (w : WalkState) → AsksWell w → AsksWell (cond a (walk_end done) (cond b (Fault ELOOP) w))
link_by true b done w well = end_well done
link_by false true done w well = tt
link_by false false done w well = well

walk_well : (done rest : Components) (n : ℕ) (lookups : List SeenText) (follow : Bool) → IsNormal done → IsNormal rest → AsksWell (walk_components done rest n lookups follow)
walk_well done [] n lookups follow a b = end_well done
walk_well done (part ∷ rest) n [] follow a b = normal_append done (part ∷ []) a (b.0, tt)
walk_well done (part ∷ rest) n (Dir ∷ lookups) follow a b =
    walk_well (name_after_parents (done ++ part ∷ []) rest) (rest_after_ups rest) n lookups follow (after_parents (done ++ part ∷ []) rest (normal_append done (part ∷ []) a (b.0, tt))) (after_ups rest b.1)
walk_well done (part ∷ rest) n (File ∷ lookups) follow a b = last_by (is_last rest) ENOTDIR (done ++ part ∷ [])
walk_well done (part ∷ rest) n (Missing ∷ lookups) follow a b = last_by (is_last rest) ENOENT (done ++ part ∷ [])
walk_well done (part ∷ rest) n (NotDir ∷ lookups) follow a b = tt
walk_well done (part ∷ rest) n (Link text ∷ lookups) follow a b =
    let more : Components = components_of text ++ rest in
    let normal : IsNormal more = normal_append (components_of text) rest (normal_components text) b.1 in
    let start : IsNormal (start_of_name text done) = normal_by _ [] done tt a in
    link_by (is_last rest && not follow) _ (done ++ part ∷ []) _
    (walk_well (name_after_parents (start_of_name text done) more) (rest_after_ups more) (n + 1) lookups follow (after_parents (start_of_name text done) more start) (after_ups more normal))

fault_by : (a b : Bool) (one other : Errno) (w : WalkState) → AsksWell w → AsksWell (cond a (Fault one) (cond b (Fault other) w))
fault_by true b one other w well = tt
fault_by false true one other w well = tt
fault_by false false one other w well = well

start_well : (text : List ℕ) (cwd : Components) (follow : Bool) (lookups : List SeenText) → IsNormal cwd → AsksWell (start_walk text cwd follow lookups)
start_well text cwd follow lookups normal =
    let rest : Components = components_of text in
    let start : Components = start_of_name text cwd in
    fault_by (nat_eq (length text) 0) (has_long_part text) ENOENT ENAMETOOLONG _ (walk_well (name_after_parents start rest) (rest_after_ups rest) 0 lookups follow (after_parents start rest (normal_by _ [] cwd tt normal)) (after_ups rest (normal_components text)))

-- ---- the progress of arguments

-- the name that is looked up next is normal
abbrev pub LooksWell : Progress → Type 0
LooksWell (Word part place) = Unit {0}
LooksWell (Look part name) = IsNormal name
LooksWell (Stuck errno) = Unit {0}
LooksWell (Ready args) = Unit {0}

with_well : (arg : ArgText) (rest : Progress) → LooksWell rest → LooksWell (with_arg arg rest)
with_well arg (Word part place) well = tt
with_well arg (Look part name) well = well
with_well arg (Stuck errno) well = tt
with_well arg (Ready args) well = tt

walked_well : (j : ℕ) (spec : ArgSpec) (w : WalkState) (rest : Progress) → AsksWell w → LooksWell rest → LooksWell (progress_of_walk j spec w rest)
walked_well j spec (Name name) rest asks well = with_well _ rest well
walked_well j spec (Next name) rest asks well = asks
walked_well j spec (Fault errno) rest asks well = tt

text_well : (k : PartKind) (j : ℕ) (spec : ArgSpec) (cwd : Components) (follow : Bool) (lookups : List SeenText) (text : List ℕ) (rest : Progress) → IsNormal cwd → LooksWell rest →
    LooksWell (progress_of_text k j spec cwd follow lookups text rest)
text_well kind.Name j spec cwd follow lookups text rest normal well = walked_well j spec (start_walk text cwd follow lookups) rest (start_well text cwd follow lookups normal) well
text_well _ j spec cwd follow lookups text rest normal well = with_well (text_arg spec text) rest well

spelling_well : (j : ℕ) (spec : ArgSpec) (cwd : Components) (follow : Bool) (lookups : List SeenText) (s : spelling.Spelled) (rest : Progress) → IsNormal cwd → LooksWell rest →
    LooksWell (progress_of_spelling j spec cwd follow lookups s rest)
spelling_well j spec cwd follow lookups (spelling.More place) rest normal well = tt
spelling_well j spec cwd follow lookups (spelling.Fault errno) rest normal well = tt
spelling_well j spec cwd follow lookups (spelling.Text text) rest normal well = text_well spec.kind j spec cwd follow lookups text rest normal well

pub progress_well : (j : ℕ) (specs : List ArgSpec) (asked : ArgRequest) (words : ℕ → List ℕ) (lookups : ℕ → List SeenText) → IsNormal asked.cwd → LooksWell (progress_from j specs asked words lookups)
progress_well j [] asked words lookups normal = tt
progress_well j (spec ∷ specs) asked words lookups normal =
    spelling_well j spec asked.cwd (is_followed asked spec) (lookups j) _ _ normal (progress_well (j + 1) specs asked words lookups normal)

-- ---- links

along_by : (b : Bool) (name : Components) (o : Option Components) → IsNormal name → IfSome o IsNormal → IfSome (cond b (Some name) o) IsNormal
along_by true name o normal more = normal
along_by false name o normal more = more

along_well : (tree : Tree) (follow : Bool) (done rest : Components) → IsNormal done → IsNormal rest → IfSome (link_along tree follow done rest) IsNormal
along_well tree follow done [] a b = tt
along_well tree follow done (part ∷ rest) a b =
    let normal : IsNormal (done ++ part ∷ []) = normal_append done (part ∷ []) a (b.0, tt) in
    along_by _ (done ++ part ∷ []) _ normal (along_well tree follow (done ++ part ∷ []) rest normal b.1)

part_well : (k : PartKind) (tree : Tree) (follow : Bool) (text : List ℕ) → IfSome (link_of_part k tree follow text) IsNormal
part_well kind.Name tree follow text = along_well tree follow [] (components_of text) tt (normal_components text)
part_well _ tree follow text = tt

first_well : (one other : Option Components) → IfSome one IsNormal → IfSome other IsNormal → IfSome (first_of_two one other) IsNormal
first_well None other a b = b
first_well (Some name) other a b = a

pub link_well : (tree : Tree) (call : SysCall) (regs : List ℕ) (specs : List ArgSpec) (args : List ArgText) → IfSome (link_among tree call regs specs args) IsNormal
link_well tree call regs [] args = tt
link_well tree call regs (spec ∷ specs) [] = tt
link_well tree call regs (spec ∷ specs) (arg ∷ args) =
    first_well _ _ (part_well spec.kind tree (follows call regs spec.register) arg.text) (link_well tree call regs specs args)
