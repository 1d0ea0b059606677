-- Who moves by the line of an entry.
use Rattle.std.proofs.Common.{◌≡◌, ℕ, true, List, [], ◌∷◌, ◌++◌, codes, Option, Some, refl, ap, ◌∙◌, append_assoc}
use Rattle.std.specs.List.{list_all}
use Rattle.std.specs.Option.{option_map}
use Rattle.st_base.specs.Errno.{name_of_error}
use Rattle.st_fields.specs.Fields.{spelled_at}
use Rattle.st_fields.specs.Words.{is_inner, number_of_16, number_of_32}
use Rattle.st_written.specs.Written.{Has16, Has32, IsEntry}
use Rattle.st_fields.proofs.Arguments.{fields_1, fields_2}
use Rattle.st_readtrace.proofs.Entering.{seq_stop}
use Rattle.st_fields.proofs.Fronts.{Stops, split_again}
use Rattle.st_fields.proofs.Regrouped.{regroup_4, regroup_5, regroup_8}
use Rattle.st_fields.proofs.Spellings.{again_16, again_32}
use Rattle.st_replay.specs.Told.{mover_of}
use Rattle.st_replay.specs.declared.mover.Mover.{Mover}
use Rattle.st_replay.specs.declared.mover.Mover.TheVariants as who
use Rattle.st_report.specs.ChangeText.{changes_fields}
use Rattle.st_report.specs.Fields.{ids_fields, name_field, number_field, number_fields, word_field}
use Rattle.st_report.specs.TraceText.{applied_field, args_fields, asked_fields, call_fields, cause_fields, done_field, entry_text, judged_fields, result_text, seen_fields, seq_field, verdict_fields, way_fields}
use Rattle.st_trace.specs.declared.entry.Entry.{Entry}
use Rattle.st_trace.specs.declared.entry.Entry.TheVariants.{Stored, Entered, Claimed, Copied, Looked, Faulted, Answered, Replied, Learned, Used, Denied, Ended, Reloaded}
use Rattle.st_trace_replay.specs.Movers.{mover_by, mover_of_line}

-- a line that begins with this word
headed : (word rest : List ℕ) (mover : Option Mover) → list_all is_inner word ≡ true → Stops is_inner rest → mover_by word rest ≡ mover → mover_of_line (word ++ rest) ≡ mover
headed word rest mover all stops is = ap (λ (p : List ℕ × List ℕ). mover_by p.0 p.1) (split_again word rest all stops) ∙ is

-- the number after the first word
by_32 : (mover : ℕ → Mover) (n : ℕ) (rest : List ℕ) → Has32 n → Stops is_inner rest → option_map (λ (x : ℕ × List ℕ). mover x.0) (spelled_at number_of_32 (number_field n ++ rest)) ≡ Some (mover n)
by_32 mover n rest small stops = ap (λ (o : Option (ℕ × List ℕ)). option_map (λ (x : ℕ × List ℕ). mover x.0) o) (again_32 n rest small stops)

by_16 : (mover : ℕ → Mover) (n : ℕ) (rest : List ℕ) → Has16 n → Stops is_inner rest → option_map (λ (x : ℕ × List ℕ). mover x.0) (spelled_at number_of_16 (number_field n ++ rest)) ≡ Some (mover n)
by_16 mover n rest small stops = ap (λ (o : Option (ℕ × List ℕ)). option_map (λ (x : ℕ × List ℕ). mover x.0) o) (again_16 n rest small stops)

-- what is printed of an entry tells who moved
pub mover_again : (entry : Entry) → IsEntry entry → mover_of_line (entry_text entry) ≡ Some (mover_of entry)
mover_again (Stored tid place word) is = headed (codes "stored") _ _ refl refl (by_32 who.Thread tid (number_fields (place ∷ word ∷ [])) is.0 refl)
mover_again (Entered tid call regs way) is =
    headed (codes "entered") _ _ refl refl
    (ap (mover_by (codes "entered")) (append_assoc (number_fields (tid ∷ [])) (call_fields call regs) (way_fields way) ∙ fields_1 tid (call_fields call regs ++ way_fields way))
    ∙ by_32 who.Thread tid (call_fields call regs ++ way_fields way) is.0 refl)
mover_again (Claimed worker seq) is = headed (codes "claimed") _ _ refl refl (by_32 who.Worker worker (number_fields (seq ∷ [])) is.0 refl)
mover_again (Copied seq part place word) is = headed (codes "copied") _ _ refl refl (by_16 who.Number seq (number_fields (part ∷ place ∷ word ∷ [])) is.0 refl)
mover_again (Looked seq part name saw) is =
    headed (codes "looked") _ _ refl refl
    (ap (mover_by (codes "looked")) (append_assoc (number_fields (seq ∷ part ∷ [])) (name_field name) (seen_fields saw) ∙ fields_2 seq part (name_field name ++ seen_fields saw))
    ∙ by_16 who.Number seq (number_field part ++ (name_field name ++ seen_fields saw)) is.0 refl)
mover_again (Faulted seq errno) is =
    headed (codes "faulted") _ _ refl refl (ap (mover_by (codes "faulted")) (fields_1 seq (word_field (name_of_error errno))) ∙ by_16 who.Number seq (word_field (name_of_error errno)) is refl)
mover_again (Answered worker s verdict applied) is =
    let rest : List ℕ = judged_fields s ++ (asked_fields s ++ (verdict_fields verdict ++ applied_field applied)) in
    headed (codes "answered") _ _ refl refl
    (ap (mover_by (codes "answered")) (regroup_5 (number_fields (worker ∷ s.seq ∷ [])) (judged_fields s) (asked_fields s) (verdict_fields verdict) (applied_field applied) ∙ fields_2 worker s.seq rest)
    ∙ by_32 who.Worker worker (number_field s.seq ++ rest) is.0 refl)
mover_again (Replied seq reply n) is = headed (codes "replied") (number_fields (seq ∷ reply ∷ n ∷ [])) _ refl refl refl
mover_again (Learned seq n) is = headed (codes "learned") (number_fields (seq ∷ n ∷ [])) _ refl refl refl
mover_again (Used tid seq call regs args ids result changes) is =
    let after_seq : List ℕ = call_fields call regs ++ (ids_fields ids ++ (args_fields args ++ (codes " = " ++ (result_text result ++ changes_fields changes)))) in
    headed (codes "used") _ _ refl refl
    (ap (mover_by (codes "used")) (regroup_8 (number_fields (tid ∷ [])) (seq_field seq) (call_fields call regs) (ids_fields ids) (args_fields args) (codes " = ") (result_text result) (changes_fields changes) ∙ fields_1 tid (seq_field seq ++ after_seq))
    ∙ by_32 who.Thread tid (seq_field seq ++ after_seq) is.0 (seq_stop seq after_seq))
mover_again (Denied tid seq errno why) is =
    let after_seq : List ℕ = word_field (name_of_error errno) ++ cause_fields why in
    headed (codes "denied") _ _ refl refl
    (ap (mover_by (codes "denied")) (regroup_4 (number_fields (tid ∷ [])) (seq_field seq) (word_field (name_of_error errno)) (cause_fields why) ∙ fields_1 tid (seq_field seq ++ after_seq))
    ∙ by_32 who.Thread tid (seq_field seq ++ after_seq) is.0 (seq_stop seq after_seq))
mover_again (Ended tid) is = headed (codes "ended") _ _ refl refl (by_32 who.Thread tid [] is tt)
mover_again (Reloaded tid policy done changes) is =
    headed (codes "reloaded") _ _ refl refl
    (ap (mover_by (codes "reloaded")) (append_assoc (number_fields (tid ∷ policy ∷ [])) (done_field done) (changes_fields changes) ∙ fields_2 tid policy (done_field done ++ changes_fields changes))
    ∙ by_32 who.Thread tid (number_field policy ++ (done_field done ++ changes_fields changes)) is.0 refl)
