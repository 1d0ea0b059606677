-- The changes that are read fit their types.
use Rattle.std.proofs.Common.{zero, suc, ℕ, Bool, true, false, cond, List, [], ◌∷◌, length, codes, Option, Some, None, refl}
use Rattle.std.specs.Prelude.{IfSome}
use Rattle.std.specs.Str.{bytes_eq}
use Rattle.st_model.specs.declared.object.NewKind.TheVariants.{Dir, File, Link}
use Rattle.st_trace.specs.declared.entry.Change.{Change}
use Rattle.st_fields.specs.Words.{after_byte, bytes_of_word, comma, kind_of_word, number_of_16, number_of_32, number_of_64, octal_number}
use Rattle.st_fields.specs.Fields.{ids_at, name_at, spelled_at, text_at, word_at}
use Rattle.st_readtrace.specs.Changes.{made_at, linked_at, removed_at, renamed_at, cwd_at, written_at, cut_at, moded_at, owned_at, put_at, forked_at, execed_at, set_ids_at, dying_at, renewed_at, policy_at, process_change, object_change, name_change, change_at, next_change_at, changes_from, changes_at}
use Rattle.st_written.specs.Written.{AreChanges, AreIds, Has16, Has32, Has64, IsChange, IsKind, IsName, IsText}
use Rattle.st_fields.proofs.Fits.{Fits, after_fits, and_then, bytes_fit, fits_16, fits_32, fits_64, ids_fit, mode_fits, name_fits, text_fits, word_fits}

-- ---- changes of names

kind_by : (a b c : Bool) (target : List ℕ) → IsText target → IfSome (cond a (Some Dir) (cond b (Some (File [])) (cond c (Some (Link target)) None))) IsKind
kind_by true b c target text = tt
kind_by false true c target text = refl
kind_by false false true target text = text
kind_by false false false target text = tt

made_fits : (bytes : List ℕ) → IsText bytes → Fits IsChange (made_at bytes)
unfolding made_at
made_fits bytes text =
    and_then _ (name_at bytes) (λ x. IsName x.0 × IsText x.1) _ (name_fits bytes text) (λ name h0.
    and_then _ (spelled_at number_of_32 name.1) (λ x. Has32 x.0 × IsText x.1) _ (fits_32 name.1 h0.1) (λ obj h1.
    and_then _ (word_at obj.1) (λ x. IsText x.0 × IsText x.1) _ (word_fits obj.1 h1.1) (λ word h2.
    and_then _ (spelled_at number_of_32 word.1) (λ x. Has32 x.0 × IsText x.1) _ (fits_32 word.1 h2.1) (λ uid h3.
    and_then _ (spelled_at number_of_32 uid.1) (λ x. Has32 x.0 × IsText x.1) _ (fits_32 uid.1 h3.1) (λ gid h4.
    and_then _ (spelled_at octal_number gid.1) (λ x. Has32 x.0 × IsText x.1) _ (mode_fits gid.1 h4.1) (λ mode h5.
    and_then _ (text_at mode.1) (λ x. IsText x.0 × IsText x.1) _ (text_fits mode.1 h5.1) (λ target h6.
    and_then _ (kind_of_word word.0 target.0) IsKind _ (kind_by _ _ _ target.0 h6.0) (λ kind k.
    ((h0.0, h1.0, k, h3.0, h4.0, h5.0), h6.1)))))))))

linked_fits : (bytes : List ℕ) → IsText bytes → Fits IsChange (linked_at bytes)
unfolding linked_at
linked_fits bytes text =
    and_then _ (name_at bytes) (λ x. IsName x.0 × IsText x.1) _ (name_fits bytes text) (λ name h0.
    and_then _ (spelled_at number_of_32 name.1) (λ x. Has32 x.0 × IsText x.1) _ (fits_32 name.1 h0.1) (λ obj h1.
    ((h0.0, h1.0), h1.1)))

removed_fits : (bytes : List ℕ) → IsText bytes → Fits IsChange (removed_at bytes)
unfolding removed_at
removed_fits bytes text =
    and_then _ (name_at bytes) (λ x. IsName x.0 × IsText x.1) _ (name_fits bytes text) (λ name h0.
    (h0.0, h0.1))

renamed_fits : (bytes : List ℕ) → IsText bytes → Fits IsChange (renamed_at bytes)
unfolding renamed_at
renamed_fits bytes text =
    and_then _ (name_at bytes) (λ x. IsName x.0 × IsText x.1) _ (name_fits bytes text) (λ old h0.
    and_then _ (name_at old.1) (λ x. IsName x.0 × IsText x.1) _ (name_fits old.1 h0.1) (λ new h1.
    ((h0.0, h1.0), h1.1)))

cwd_fits : (bytes : List ℕ) → IsText bytes → Fits IsChange (cwd_at bytes)
unfolding cwd_at
cwd_fits bytes text =
    and_then _ (name_at bytes) (λ x. IsName x.0 × IsText x.1) _ (name_fits bytes text) (λ name h0.
    (h0.0, h0.1))

-- ---- changes of objects and memories

written_fits : (bytes : List ℕ) → IsText bytes → Fits IsChange (written_at bytes)
unfolding written_at
written_fits bytes text =
    and_then _ (spelled_at number_of_32 bytes) (λ x. Has32 x.0 × IsText x.1) _ (fits_32 bytes text) (λ obj h0.
    and_then _ (spelled_at number_of_64 obj.1) (λ x. Has64 x.0 × IsText x.1) _ (fits_64 obj.1 h0.1) (λ at h1.
    and_then _ (spelled_at bytes_of_word at.1) (λ x. IsText x.0 × IsText x.1) _ (bytes_fit at.1 h1.1) (λ written h2.
    ((h0.0, h1.0, h2.0), h2.1))))

cut_fits : (bytes : List ℕ) → IsText bytes → Fits IsChange (cut_at bytes)
unfolding cut_at
cut_fits bytes text =
    and_then _ (spelled_at number_of_32 bytes) (λ x. Has32 x.0 × IsText x.1) _ (fits_32 bytes text) (λ obj h0.
    and_then _ (spelled_at number_of_64 obj.1) (λ x. Has64 x.0 × IsText x.1) _ (fits_64 obj.1 h0.1) (λ len h1.
    ((h0.0, h1.0), h1.1)))

moded_fits : (bytes : List ℕ) → IsText bytes → Fits IsChange (moded_at bytes)
unfolding moded_at
moded_fits bytes text =
    and_then _ (spelled_at number_of_32 bytes) (λ x. Has32 x.0 × IsText x.1) _ (fits_32 bytes text) (λ obj h0.
    and_then _ (spelled_at octal_number obj.1) (λ x. Has32 x.0 × IsText x.1) _ (mode_fits obj.1 h0.1) (λ mode h1.
    ((h0.0, h1.0), h1.1)))

owned_fits : (bytes : List ℕ) → IsText bytes → Fits IsChange (owned_at bytes)
unfolding owned_at
owned_fits bytes text =
    and_then _ (spelled_at number_of_32 bytes) (λ x. Has32 x.0 × IsText x.1) _ (fits_32 bytes text) (λ obj h0.
    and_then _ (spelled_at number_of_32 obj.1) (λ x. Has32 x.0 × IsText x.1) _ (fits_32 obj.1 h0.1) (λ uid h1.
    and_then _ (spelled_at number_of_32 uid.1) (λ x. Has32 x.0 × IsText x.1) _ (fits_32 uid.1 h1.1) (λ gid h2.
    ((h0.0, h1.0, h2.0), h2.1))))

put_fits : (bytes : List ℕ) → IsText bytes → Fits IsChange (put_at bytes)
unfolding put_at
put_fits bytes text =
    and_then _ (spelled_at number_of_32 bytes) (λ x. Has32 x.0 × IsText x.1) _ (fits_32 bytes text) (λ space h0.
    and_then _ (spelled_at number_of_64 space.1) (λ x. Has64 x.0 × IsText x.1) _ (fits_64 space.1 h0.1) (λ at h1.
    and_then _ (spelled_at bytes_of_word at.1) (λ x. IsText x.0 × IsText x.1) _ (bytes_fit at.1 h1.1) (λ put h2.
    ((h0.0, h1.0, h2.0), h2.1))))

-- ---- changes of processes and messages

forked_fits : (bytes : List ℕ) → IsText bytes → Fits IsChange (forked_at bytes)
unfolding forked_at
forked_fits bytes text =
    and_then _ (spelled_at number_of_32 bytes) (λ x. Has32 x.0 × IsText x.1) _ (fits_32 bytes text) (λ pid h0.
    and_then _ (spelled_at number_of_32 pid.1) (λ x. Has32 x.0 × IsText x.1) _ (fits_32 pid.1 h0.1) (λ space h1.
    and_then _ (spelled_at number_of_32 space.1) (λ x. Has32 x.0 × IsText x.1) _ (fits_32 space.1 h1.1) (λ tid h2.
    ((h0.0, h1.0, h2.0), h2.1))))

execed_fits : (bytes : List ℕ) → IsText bytes → Fits IsChange (execed_at bytes)
unfolding execed_at
execed_fits bytes text =
    and_then _ (text_at bytes) (λ x. IsText x.0 × IsText x.1) _ (text_fits bytes text) (λ binary h0.
    and_then _ (spelled_at number_of_32 binary.1) (λ x. Has32 x.0 × IsText x.1) _ (fits_32 binary.1 h0.1) (λ space h1.
    ((h0.0, h1.0), h1.1)))

set_ids_fits : (bytes : List ℕ) → IsText bytes → Fits IsChange (set_ids_at bytes)
unfolding set_ids_at
set_ids_fits bytes text =
    and_then _ (ids_at bytes) (λ x. AreIds x.0 × IsText x.1) _ (ids_fit bytes text) (λ ids h0.
    (h0.0, h0.1))

dying_fits : (bytes : List ℕ) → IsText bytes → Fits IsChange (dying_at bytes)
unfolding dying_at
dying_fits bytes text =
    and_then _ (spelled_at number_of_32 bytes) (λ x. Has32 x.0 × IsText x.1) _ (fits_32 bytes text) (λ pid h0.
    (h0.0, h0.1))

renewed_fits : (bytes : List ℕ) → IsText bytes → Fits IsChange (renewed_at bytes)
unfolding renewed_at
renewed_fits bytes text =
    and_then _ (spelled_at number_of_16 bytes) (λ x. Has16 x.0 × IsText x.1) _ (fits_16 bytes text) (λ old h0.
    and_then _ (spelled_at number_of_16 old.1) (λ x. Has16 x.0 × IsText x.1) _ (fits_16 old.1 h0.1) (λ new h1.
    ((h0.0, h1.0), h1.1)))

policy_fits : (bytes : List ℕ) → IsText bytes → Fits IsChange (policy_at bytes)
unfolding policy_at
policy_fits bytes text =
    and_then _ (text_at bytes) (λ x. IsText x.0 × IsText x.1) _ (text_fits bytes text) (λ binary h0.
    (h0.0, h0.1))

-- ---- a change by its word

process_by : (a b c d e f : Bool) (rest : List ℕ) → IsText rest → Fits IsChange (cond a (forked_at rest) (cond b (execed_at rest) (cond c (set_ids_at rest) (cond d (dying_at rest) (cond e (renewed_at rest) (cond f (policy_at rest) (None)))))))
process_by true b c d e f rest text = forked_fits rest text
process_by false true c d e f rest text = execed_fits rest text
process_by false false true d e f rest text = set_ids_fits rest text
process_by false false false true e f rest text = dying_fits rest text
process_by false false false false true f rest text = renewed_fits rest text
process_by false false false false false true rest text = policy_fits rest text
process_by false false false false false false rest text = tt

process_fits : (word rest : List ℕ) → IsText rest → Fits IsChange (process_change word rest)
unfolding process_change
process_fits word rest text = process_by (bytes_eq word (codes "forked")) (bytes_eq word (codes "execed")) (bytes_eq word (codes "setids")) (bytes_eq word (codes "dying")) (bytes_eq word (codes "renewed")) (bytes_eq word (codes "policy")) rest text

object_by : (a b c d e : Bool) (rest : List ℕ) (last : Option (Change × List ℕ)) → IsText rest → Fits IsChange last → Fits IsChange (cond a (written_at rest) (cond b (cut_at rest) (cond c (moded_at rest) (cond d (owned_at rest) (cond e (put_at rest) (last))))))
object_by true b c d e rest last text more = written_fits rest text
object_by false true c d e rest last text more = cut_fits rest text
object_by false false true d e rest last text more = moded_fits rest text
object_by false false false true e rest last text more = owned_fits rest text
object_by false false false false true rest last text more = put_fits rest text
object_by false false false false false rest last text more = more

object_fits : (word rest : List ℕ) → IsText rest → Fits IsChange (object_change word rest)
unfolding object_change
object_fits word rest text = object_by (bytes_eq word (codes "written")) (bytes_eq word (codes "cut")) (bytes_eq word (codes "moded")) (bytes_eq word (codes "owned")) (bytes_eq word (codes "put")) rest (process_change word rest) text (process_fits word rest text)

naming_by : (a b c d e : Bool) (rest : List ℕ) (last : Option (Change × List ℕ)) → IsText rest → Fits IsChange last → Fits IsChange (cond a (made_at rest) (cond b (linked_at rest) (cond c (removed_at rest) (cond d (renamed_at rest) (cond e (cwd_at rest) (last))))))
naming_by true b c d e rest last text more = made_fits rest text
naming_by false true c d e rest last text more = linked_fits rest text
naming_by false false true d e rest last text more = removed_fits rest text
naming_by false false false true e rest last text more = renamed_fits rest text
naming_by false false false false true rest last text more = cwd_fits rest text
naming_by false false false false false rest last text more = more

naming_fits : (word rest : List ℕ) → IsText rest → Fits IsChange (name_change word rest)
unfolding name_change
naming_fits word rest text = naming_by (bytes_eq word (codes "made")) (bytes_eq word (codes "linked")) (bytes_eq word (codes "removed")) (bytes_eq word (codes "renamed")) (bytes_eq word (codes "cwd")) rest (object_change word rest) text (object_fits word rest text)

change_fits : (bytes : List ℕ) → IsText bytes → Fits IsChange (change_at bytes)
unfolding change_at
change_fits bytes text =
    and_then _ (word_at bytes) (λ x. IsText x.0 × IsText x.1) _ (word_fits bytes text) (λ word w. naming_fits word.0 word.1 w.1)

next_fits : (bytes : List ℕ) → IsText bytes → Fits IsChange (next_change_at bytes)
unfolding next_change_at
next_fits bytes text = and_then _ (after_byte comma bytes) IsText _ (after_fits comma bytes text) (λ rest r. change_fits rest r)

from_fit : (most : ℕ) (bytes : List ℕ) → IsText bytes → IfSome (changes_from most bytes) AreChanges
unfolding changes_from
from_fit zero [] text = tt
from_fit (suc most) [] text = tt
from_fit zero (b ∷ bytes) text = tt
from_fit (suc most) (b ∷ bytes) text =
    and_then _ (next_change_at (b ∷ bytes)) (λ x. IsChange x.0 × IsText x.1) _ (next_fits (b ∷ bytes) text) (λ change c.
    and_then _ (changes_from most change.1) AreChanges _ (from_fit most change.1 c.1) (λ others o. (c.0, o)))

pub changes_fit : (bytes : List ℕ) → IsText bytes → IfSome (changes_at bytes) AreChanges
changes_fit bytes text = from_fit (length bytes) bytes text
