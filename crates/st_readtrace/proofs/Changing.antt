-- Changes, which are read again.
use Rattle.std.proofs.Common.{zero, suc, ◌≡◌, ℕ, ◌+◌, ◌≤◌, List, [], ◌∷◌, ◌++◌, length, codes, Option, Some, refl, ap, sym, ◌∙◌, append_assoc, arith}
use Rattle.std.proofs.lemmas.List.{length-append}
use Rattle.st_base.specs.declared.ids.Ids.{Ids}
use Rattle.st_model.specs.declared.object.NewKind.{NewKind}
use Rattle.st_model.specs.declared.object.NewKind.TheVariants.{Dir, File, Link}
use Rattle.st_names.specs.Name.{Components}
use Rattle.st_report.specs.ChangeText.{change_field, change_text, changes_fields, kind_word, target_text}
use Rattle.st_report.specs.Fields.{bytes_field, four_ids, mode_field, name_field, number_field, number_fields, text_field, word_field}
use Rattle.st_trace.specs.declared.entry.Change.{Change}
use Rattle.st_trace.specs.declared.entry.Change.TheVariants.{Made, Linked, Removed, Renamed, Written, Cut, Moded, Owned, Put, Forked, Execed, SetIds, Cwd, Dying, Renewed, Policy}
use Rattle.st_fields.specs.Words.{is_inner, kind_of_word}
use Rattle.st_fields.specs.Fields.{word_at}
use Rattle.st_readtrace.specs.Changes.{made_at, linked_at, removed_at, renamed_at, cwd_at, written_at, cut_at, moded_at, owned_at, put_at, forked_at, execed_at, set_ids_at, dying_at, renewed_at, policy_at, process_change, object_change, name_change, change_at, next_change_at, changes_from, changes_at}
use Rattle.st_written.specs.Written.{AreChanges, AreIds, Has32, IsChange, IsKind, IsName, IsText}
use Rattle.st_fields.proofs.Fronts.{Stops, word_again}
use Rattle.st_fields.proofs.Regrouped.{regroup_8}
use Rattle.st_fields.proofs.Spellings.{again_16, again_32, again_64, mode_again}
use Rattle.st_fields.proofs.Quoting.{bytes_again, text_again}
use Rattle.st_fields.proofs.Names.{name_again}
use Rattle.st_fields.proofs.Arguments.{fields_1, fields_2, fields_3, ids_again}

-- ---- changes of names

kind_again : (kind : NewKind) → IsKind kind → kind_of_word (kind_word kind) (target_text kind) ≡ Some kind
kind_again Dir is = refl
kind_again (File content) is = ap (λ (bytes : List ℕ). Some (File bytes)) (sym is)
kind_again (Link target) is = refl

kind_inner : (kind : NewKind) (rest : List ℕ) → Stops is_inner rest → word_at (word_field (kind_word kind) ++ rest) ≡ Some (kind_word kind, rest)
kind_inner Dir rest stops = word_again (codes "dir") rest refl stops
kind_inner (File content) rest stops = word_again (codes "file") rest refl stops
kind_inner (Link target) rest stops = word_again (codes "link") rest refl stops

target_is : (kind : NewKind) → IsKind kind → IsText (target_text kind)
target_is Dir is = tt
target_is (File content) is = tt
target_is (Link target) is = is

made_again : (name : Components) (obj : ℕ) (kind : NewKind) (uid gid mode : ℕ) (rest : List ℕ) → IsChange (Made name obj kind uid gid mode) →
    made_at (name_field name ++ (number_field obj ++ (word_field (kind_word kind) ++ (number_field uid ++ (number_field gid ++ (mode_field mode ++ (text_field (target_text kind) ++ rest))))))) ≡ Some (Made name obj kind uid gid mode, rest)
unfolding made_at
made_again name obj kind uid gid mode rest is =
    let after_mode : List ℕ = text_field (target_text kind) ++ rest in
    let after_uid : List ℕ = number_field gid ++ (mode_field mode ++ after_mode) in
    let after_word : List ℕ = number_field uid ++ after_uid in
    let after_obj : List ℕ = word_field (kind_word kind) ++ after_word in
    rw (
      name_again name (number_field obj ++ after_obj) is.0,
      again_32 obj after_obj is.1 refl,
      kind_inner kind after_word refl,
      again_32 uid after_uid is.3 refl,
      again_32 gid (mode_field mode ++ after_mode) is.4 refl,
      mode_again mode after_mode is.5 refl,
      text_again (target_text kind) rest (target_is kind is.2),
      kind_again kind is.2,
    ) refl

linked_again : (name : Components) (obj : ℕ) (rest : List ℕ) → IsChange (Linked name obj) → Stops is_inner rest → linked_at (name_field name ++ (number_field obj ++ rest)) ≡ Some (Linked name obj, rest)
unfolding linked_at
linked_again name obj rest is stops = rw (name_again name (number_field obj ++ rest) is.0, again_32 obj rest is.1 stops) refl

removed_again : (name : Components) (rest : List ℕ) → IsName name → removed_at (name_field name ++ rest) ≡ Some (Removed name, rest)
unfolding removed_at
removed_again name rest is = rw (name_again name rest is) refl

renamed_again : (old new : Components) (rest : List ℕ) → IsChange (Renamed old new) → renamed_at (name_field old ++ (name_field new ++ rest)) ≡ Some (Renamed old new, rest)
unfolding renamed_at
renamed_again old new rest is = rw (name_again old (name_field new ++ rest) is.0, name_again new rest is.1) refl

cwd_again : (name : Components) (rest : List ℕ) → IsName name → cwd_at (name_field name ++ rest) ≡ Some (Cwd name, rest)
unfolding cwd_at
cwd_again name rest is = rw (name_again name rest is) refl

-- ---- changes of objects and memories

written_again : (obj at : ℕ) (bytes rest : List ℕ) → IsChange (Written obj at bytes) → Stops is_inner rest → written_at (number_field obj ++ (number_field at ++ (bytes_field bytes ++ rest))) ≡ Some (Written obj at bytes, rest)
unfolding written_at
written_again obj at bytes rest is stops = rw (again_32 obj (number_field at ++ (bytes_field bytes ++ rest)) is.0 refl, again_64 at (bytes_field bytes ++ rest) is.1 refl, bytes_again bytes rest is.2 stops) refl

cut_again : (obj len : ℕ) (rest : List ℕ) → IsChange (Cut obj len) → Stops is_inner rest → cut_at (number_field obj ++ (number_field len ++ rest)) ≡ Some (Cut obj len, rest)
unfolding cut_at
cut_again obj len rest is stops = rw (again_32 obj (number_field len ++ rest) is.0 refl, again_64 len rest is.1 stops) refl

moded_again : (obj mode : ℕ) (rest : List ℕ) → IsChange (Moded obj mode) → Stops is_inner rest → moded_at (number_field obj ++ (mode_field mode ++ rest)) ≡ Some (Moded obj mode, rest)
unfolding moded_at
moded_again obj mode rest is stops = rw (again_32 obj (mode_field mode ++ rest) is.0 refl, mode_again mode rest is.1 stops) refl

owned_again : (obj uid gid : ℕ) (rest : List ℕ) → IsChange (Owned obj uid gid) → Stops is_inner rest → owned_at (number_field obj ++ (number_field uid ++ (number_field gid ++ rest))) ≡ Some (Owned obj uid gid, rest)
unfolding owned_at
owned_again obj uid gid rest is stops = rw (again_32 obj (number_field uid ++ (number_field gid ++ rest)) is.0 refl, again_32 uid (number_field gid ++ rest) is.1 refl, again_32 gid rest is.2 stops) refl

put_again : (space at : ℕ) (bytes rest : List ℕ) → IsChange (Put space at bytes) → Stops is_inner rest → put_at (number_field space ++ (number_field at ++ (bytes_field bytes ++ rest))) ≡ Some (Put space at bytes, rest)
unfolding put_at
put_again space at bytes rest is stops = rw (again_32 space (number_field at ++ (bytes_field bytes ++ rest)) is.0 refl, again_64 at (bytes_field bytes ++ rest) is.1 refl, bytes_again bytes rest is.2 stops) refl

-- ---- changes of processes and messages

forked_again : (pid space tid : ℕ) (rest : List ℕ) → IsChange (Forked pid space tid) → Stops is_inner rest → forked_at (number_field pid ++ (number_field space ++ (number_field tid ++ rest))) ≡ Some (Forked pid space tid, rest)
unfolding forked_at
forked_again pid space tid rest is stops = rw (again_32 pid (number_field space ++ (number_field tid ++ rest)) is.0 refl, again_32 space (number_field tid ++ rest) is.1 refl, again_32 tid rest is.2 stops) refl

execed_again : (binary : List ℕ) (space : ℕ) (rest : List ℕ) → IsChange (Execed binary space) → Stops is_inner rest → execed_at (text_field binary ++ (number_field space ++ rest)) ≡ Some (Execed binary space, rest)
unfolding execed_at
execed_again binary space rest is stops = rw (text_again binary (number_field space ++ rest) is.0, again_32 space rest is.1 stops) refl

set_ids_again : (ids : Ids) (rest : List ℕ) → AreIds ids → Stops is_inner rest → set_ids_at (four_ids ids ++ rest) ≡ Some (SetIds ids, rest)
unfolding set_ids_at
set_ids_again ids rest is stops = rw (ids_again ids rest is stops) refl

dying_again : (pid : ℕ) (rest : List ℕ) → Has32 pid → Stops is_inner rest → dying_at (number_field pid ++ rest) ≡ Some (Dying pid, rest)
unfolding dying_at
dying_again pid rest is stops = rw (again_32 pid rest is stops) refl

renewed_again : (old new : ℕ) (rest : List ℕ) → IsChange (Renewed old new) → Stops is_inner rest → renewed_at (number_field old ++ (number_field new ++ rest)) ≡ Some (Renewed old new, rest)
unfolding renewed_at
renewed_again old new rest is stops = rw (again_16 old (number_field new ++ rest) is.0 refl, again_16 new rest is.1 stops) refl

policy_again : (binary rest : List ℕ) → IsText binary → policy_at (text_field binary ++ rest) ≡ Some (Policy binary, rest)
unfolding policy_at
policy_again binary rest is = rw (text_again binary rest is) refl

-- ---- a change by its word

-- a change that begins with this word
worded : (word rest : List ℕ) (more : Option (Change × List ℕ)) → word_at (word_field word ++ rest) ≡ Some (word, rest) → name_change word rest ≡ more → change_at (word_field word ++ rest) ≡ more
unfolding change_at
worded word rest more read is = rw read is

made_regrouped : (name : Components) (obj : ℕ) (kind : NewKind) (uid gid mode : ℕ) (rest : List ℕ) → (name_field name ++ number_fields (obj ∷ []) ++ codes " " ++ kind_word kind ++ number_fields (uid ∷ gid ∷ []) ++ mode_field mode ++ text_field (target_text kind)) ++ rest
    ≡ name_field name ++ (number_field obj ++ (word_field (kind_word kind) ++ (number_field uid ++ (number_field gid ++ (mode_field mode ++ (text_field (target_text kind) ++ rest))))))
made_regrouped name obj kind uid gid mode rest =
    let end : List ℕ = mode_field mode ++ (text_field (target_text kind) ++ rest) in
    let word : List ℕ = word_field (kind_word kind) in
    regroup_8 (name_field name) (number_fields (obj ∷ [])) (codes " ") (kind_word kind) (number_fields (uid ∷ gid ∷ [])) (mode_field mode) (text_field (target_text kind)) rest
    ∙ ap (λ (xs : List ℕ). name_field name ++ xs) (fields_1 obj (word ++ (number_fields (uid ∷ gid ∷ []) ++ end)) ∙ ap (λ (xs : List ℕ). number_field obj ++ (word ++ xs)) (fields_2 uid gid end))

change_again : (change : Change) (rest : List ℕ) → IsChange change → Stops is_inner rest → change_at (codes " " ++ (change_text change ++ rest)) ≡ Some (change, rest)
unfolding name_change object_change process_change
change_again (Made name obj kind uid gid mode) rest is stops =
    worded (codes "made") _ _ (word_again (codes "made") _ refl refl) (ap made_at (made_regrouped name obj kind uid gid mode rest) ∙ made_again name obj kind uid gid mode rest is)
change_again (Linked name obj) rest is stops =
    worded (codes "linked") _ _ (word_again (codes "linked") _ refl refl) (ap linked_at (append_assoc (name_field name) (number_fields (obj ∷ [])) rest ∙ ap (λ (xs : List ℕ). name_field name ++ xs) (fields_1 obj rest)) ∙ linked_again name obj rest is stops)
change_again (Removed name) rest is stops =
    worded (codes "removed") _ _ (word_again (codes "removed") _ refl refl) (removed_again name rest is)
change_again (Renamed old new) rest is stops =
    worded (codes "renamed") _ _ (word_again (codes "renamed") _ refl refl) (ap renamed_at (append_assoc (name_field old) (name_field new) rest) ∙ renamed_again old new rest is)
change_again (Written obj at bytes) rest is stops =
    worded (codes "written") _ _ (word_again (codes "written") _ refl refl) (ap written_at (append_assoc (number_fields (obj ∷ at ∷ [])) (bytes_field bytes) rest ∙ fields_2 obj at (bytes_field bytes ++ rest)) ∙ written_again obj at bytes rest is stops)
change_again (Cut obj len) rest is stops =
    worded (codes "cut") _ _ (word_again (codes "cut") _ refl refl) (ap cut_at (fields_2 obj len rest) ∙ cut_again obj len rest is stops)
change_again (Moded obj mode) rest is stops =
    worded (codes "moded") _ _ (word_again (codes "moded") _ refl refl) (ap moded_at (append_assoc (number_fields (obj ∷ [])) (mode_field mode) rest ∙ fields_1 obj (mode_field mode ++ rest)) ∙ moded_again obj mode rest is stops)
change_again (Owned obj uid gid) rest is stops =
    worded (codes "owned") _ _ (word_again (codes "owned") _ refl refl) (ap owned_at (fields_3 obj uid gid rest) ∙ owned_again obj uid gid rest is stops)
change_again (Put space at bytes) rest is stops =
    worded (codes "put") _ _ (word_again (codes "put") _ refl refl) (ap put_at (append_assoc (number_fields (space ∷ at ∷ [])) (bytes_field bytes) rest ∙ fields_2 space at (bytes_field bytes ++ rest)) ∙ put_again space at bytes rest is stops)
change_again (Forked pid space tid) rest is stops =
    worded (codes "forked") _ _ (word_again (codes "forked") _ refl refl) (ap forked_at (fields_3 pid space tid rest) ∙ forked_again pid space tid rest is stops)
change_again (Execed binary space) rest is stops =
    worded (codes "execed") _ _ (word_again (codes "execed") _ refl refl) (ap execed_at (append_assoc (text_field binary) (number_fields (space ∷ [])) rest ∙ ap (λ (xs : List ℕ). text_field binary ++ xs) (fields_1 space rest)) ∙ execed_again binary space rest is stops)
change_again (SetIds ids) rest is stops =
    worded (codes "setids") _ _ (word_again (codes "setids") _ refl refl) (set_ids_again ids rest is stops)
change_again (Cwd name) rest is stops =
    worded (codes "cwd") _ _ (word_again (codes "cwd") _ refl refl) (cwd_again name rest is)
change_again (Dying pid) rest is stops =
    worded (codes "dying") _ _ (word_again (codes "dying") _ refl refl) (ap dying_at (fields_1 pid rest) ∙ dying_again pid rest is stops)
change_again (Renewed old new) rest is stops =
    worded (codes "renewed") _ _ (word_again (codes "renewed") _ refl refl) (ap renewed_at (fields_2 old new rest) ∙ renewed_again old new rest is stops)
change_again (Policy binary) rest is stops =
    worded (codes "policy") _ _ (word_again (codes "policy") _ refl refl) (policy_again binary rest is)

-- ---- changes up to the end

pub changes_stop : (changes : List Change) → Stops is_inner (changes_fields changes)
changes_stop [] = tt
changes_stop (change ∷ changes) = refl

next_again : (change : Change) (rest : List ℕ) → IsChange change → Stops is_inner rest → next_change_at (change_field change ++ rest) ≡ Some (change, rest)
unfolding next_change_at
next_again change rest is stops = change_again change rest is stops

up_to : (most : ℕ) (changes : List Change) → length changes ≤ most → AreChanges changes → changes_from most (changes_fields changes) ≡ Some changes
unfolding changes_from
up_to most [] few are = refl
up_to zero (change ∷ changes) few are = absurd (omega arith)
up_to (suc most) (change ∷ changes) few are =
    rw (next_again change (changes_fields changes) are.0 (changes_stop changes), up_to most changes (omega arith) are.1) refl

few_changes : (changes : List Change) → length changes ≤ length (changes_fields changes)
few_changes [] = omega arith
few_changes (change ∷ changes) =
    let more : length changes ≤ length (changes_fields changes) = few_changes changes in
    let sum : length (changes_fields (change ∷ changes)) ≡ length (change_field change) + length (changes_fields changes) = length-append (change_field change) (changes_fields changes) in
    omega (arith, sum, more)

-- changes are read again
pub changes_again : (changes : List Change) → AreChanges changes → changes_at (changes_fields changes) ≡ Some changes
changes_again changes are = up_to (length (changes_fields changes)) changes (few_changes changes) are
