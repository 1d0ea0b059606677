-- Entries, which are read again.
use Rattle.std.proofs.Common.{◌≡◌, ℕ, Bool, true, false, List, [], ◌∷◌, ◌++◌, codes, Option, Some, None, refl, ap, sym, ◌∙◌, append_assoc, nat_eq}
use Rattle.std.proofs.lemmas.List.{append-nil}
use Rattle.std.specs.List.{list_all, starts_with}
use Rattle.st_base.specs.Errno.{name_of_error}
use Rattle.st_base.specs.declared.errno.Errno.{Errno}
use Rattle.st_base.specs.declared.ids.Ids.{Ids}
use Rattle.st_calls.specs.Call.{call_named, name_of_call, name_of_rule}
use Rattle.st_calls.specs.Emulation.{emulation_prefix}
use Rattle.st_calls.specs.declared.argument.ArgText.{ArgText}
use Rattle.st_calls.specs.declared.call.SysCall.{SysCall}
use Rattle.st_calls.specs.declared.judged.Snapshot.{Snapshot}
use Rattle.st_calls.specs.declared.judged.Verdict.{Verdict}
use Rattle.st_calls.specs.declared.judged.Verdict.TheVariants.{Permit, Refuse, Unmatched}
use Rattle.st_names.specs.Name.{Components}
use Rattle.st_names.specs.declared.seen.SeenText.{SeenText}
use Rattle.st_report.specs.ChangeText.{changes_fields}
use Rattle.st_report.specs.Fields.{four_ids, ids_fields, name_field, number_field, number_fields, text_field, word_field}
use Rattle.st_report.specs.TraceText.{applied_field, args_fields, asked_fields, call_fields, cause_fields, done_field, entry_text, judged_fields, result_text, seen_fields, seq_field, verdict_fields, version_field, way_fields}
use Rattle.st_trace.specs.declared.entry.CallResult.{CallResult}
use Rattle.st_trace.specs.declared.entry.Cause.{Cause}
use Rattle.st_trace.specs.declared.entry.Cause.TheVariants as cause
use Rattle.st_trace.specs.declared.entry.Change.{Change}
use Rattle.st_trace.specs.declared.entry.Entry.{Entry}
use Rattle.st_trace.specs.declared.entry.Entry.TheVariants.{Stored, Entered, Claimed, Copied, Looked, Faulted, Answered, Replied, Learned, Used, Denied, Ended, Reloaded}
use Rattle.st_trace.specs.declared.entry.Way.{Way}
use Rattle.st_trace.specs.declared.entry.Way.TheVariants.{Fast, Barred, Held, Untraced}
use Rattle.st_fields.specs.Words.{error_of_name, is_inner, result_of_word}
use Rattle.st_readtrace.specs.Entries.{answered_at, cause_at, claimed_at, copied_at, denied_at, ended_at, entered_at, entry_at, entry_by, faulted_at, learned_at, looked_at, operator_entry, reloaded_at, replied_at, seen_at, stored_at, used_at, way_at, worker_entry}
use Rattle.st_fields.specs.Fields.{spelled_at}
use Rattle.st_written.specs.Written.{IsEntry}
use Rattle.st_fields.proofs.Fronts.{Stops, split_again, word_again}
use Rattle.st_fields.proofs.Regrouped.{regroup_4, regroup_5, regroup_6, regroup_8}
use Rattle.st_fields.proofs.Spellings.{again, again_16, again_32, again_64, call_spells, error_spells, result_spells, seq_again}
use Rattle.st_fields.proofs.Names.{name_again}
use Rattle.st_fields.proofs.Arguments.{args_again, args_stop, fields_1, fields_2, ids_again, numbers_stop, regs_again}
use Rattle.st_readtrace.proofs.Changing.{changes_again, changes_stop}
use Rattle.st_readtrace.proofs.Parts.{applied_again, cause_again, done_again, seen_again, snapshot_again, snapshot_fields, verdict_again, way_again}

-- a line that begins with this word
headed : (word rest : List ℕ) (entry : Option Entry) → list_all is_inner word ≡ true → Stops is_inner rest → entry_by word rest ≡ entry → entry_at (word ++ rest) ≡ entry
headed word rest entry all stops is = ap (λ (p : List ℕ × List ℕ). entry_by p.0 p.1) (split_again word rest all stops) ∙ is

-- ---- what threads do

stored_again : (tid place word : ℕ) → IsEntry (Stored tid place word) → stored_at (number_fields (tid ∷ place ∷ word ∷ [])) ≡ Some (Stored tid place word)
unfolding stored_at
stored_again tid place word is =
    rw (again_32 tid (number_fields (place ∷ word ∷ [])) is.0 refl, again_32 place (number_fields (word ∷ [])) is.1 refl, again_64 word [] is.2 tt) refl

entered_regrouped : (tid : ℕ) (call : SysCall) (regs : List ℕ) (rest : List ℕ) → number_fields (tid ∷ []) ++ (call_fields call regs ++ rest) ≡ number_field tid ++ (word_field (name_of_call call) ++ (number_fields regs ++ rest))
entered_regrouped tid call regs rest =
    fields_1 tid (call_fields call regs ++ rest) ∙ ap (λ (xs : List ℕ). number_field tid ++ xs) (append_assoc (word_field (name_of_call call)) (number_fields regs) rest)

way_stop : (way : Way) → Stops is_inner (way_fields way)
way_stop Fast = refl
way_stop (Barred n) = refl
way_stop (Held seq) = refl
way_stop Untraced = refl

entered_again : (tid : ℕ) (call : SysCall) (regs : List ℕ) (way : Way) → IsEntry (Entered tid call regs way) → entered_at (number_fields (tid ∷ []) ++ (call_fields call regs ++ way_fields way)) ≡ Some (Entered tid call regs way)
unfolding entered_at
entered_again tid call regs way is =
    let stop : Stops is_inner (way_fields way) = way_stop way in
    let last : way_at (way_fields way) ≡ Some (way, []) = ap way_at (sym (append-nil (way_fields way))) ∙ way_again way [] is.2 tt in
    ap entered_at (entered_regrouped tid call regs (way_fields way))
    ∙ rw (
      again_32 tid (word_field (name_of_call call) ++ (number_fields regs ++ way_fields way)) is.0 refl,
      again call_named (name_of_call call) call (number_fields regs ++ way_fields way) (call_spells call) (numbers_stop regs (way_fields way) stop),
      regs_again regs (way_fields way) is.1 stop,
      last,
    ) refl

pub seq_stop : (seq : Option ℕ) (rest : List ℕ) → Stops is_inner (seq_field seq ++ rest)
seq_stop None rest = refl
seq_stop (Some n) rest = refl

used_regrouped : (tid : ℕ) (seq : Option ℕ) (call : SysCall) (regs : List ℕ) (ids : Ids) (rest : List ℕ) → number_fields (tid ∷ []) ++ (seq_field seq ++ (call_fields call regs ++ (ids_fields ids ++ rest)))
    ≡ number_field tid ++ (seq_field seq ++ (word_field (name_of_call call) ++ (number_fields regs ++ (word_field (codes "ids") ++ (four_ids ids ++ rest)))))
used_regrouped tid seq call regs ids rest =
    fields_1 tid (seq_field seq ++ (call_fields call regs ++ (ids_fields ids ++ rest)))
    ∙ ap (λ (xs : List ℕ). number_field tid ++ (seq_field seq ++ xs)) (append_assoc (word_field (name_of_call call)) (number_fields regs) (ids_fields ids ++ rest))

used_again : (tid : ℕ) (seq : Option ℕ) (call : SysCall) (regs : List ℕ) (args : List ArgText) (ids : Ids) (result : CallResult) (changes : List Change) → IsEntry (Used tid seq call regs args ids result changes) →
    used_at (number_fields (tid ∷ []) ++ (seq_field seq ++ (call_fields call regs ++ (ids_fields ids ++ (args_fields args ++ (codes " = " ++ (result_text result ++ changes_fields changes))))))) ≡ Some (Used tid seq call regs args ids result changes)
unfolding used_at
used_again tid seq call regs args ids result changes is =
    let after_equal : List ℕ = word_field (result_text result) ++ changes_fields changes in
    let after_args : List ℕ = word_field (codes "=") ++ after_equal in
    let after_ids : List ℕ = args_fields args ++ after_args in
    let after_regs : List ℕ = word_field (codes "ids") ++ (four_ids ids ++ after_ids) in
    let after_call : List ℕ = number_fields regs ++ after_regs in
    let after_seq : List ℕ = word_field (name_of_call call) ++ after_call in
    ap used_at (used_regrouped tid seq call regs ids after_ids)
    ∙ rw (
      again_32 tid (seq_field seq ++ after_seq) is.0 (seq_stop seq after_seq),
      seq_again seq after_seq is.1 refl,
      again call_named (name_of_call call) call after_call (call_spells call) (numbers_stop regs after_regs refl),
      regs_again regs after_regs is.2 refl,
      word_again (codes "ids") (four_ids ids ++ after_ids) refl refl,
      ids_again ids after_ids is.4 (args_stop args after_args refl),
      args_again args after_args is.3 refl,
      word_again (codes "=") after_equal refl refl,
      again result_of_word (result_text result) result (changes_fields changes) (result_spells result is.5) (changes_stop changes),
      changes_again changes is.6,
    ) refl

cause_stop : (why : Cause) → Stops is_inner (cause_fields why)
cause_stop (cause.Filter n) = refl
cause_stop cause.NoFilter = refl
cause_stop cause.Fault = refl
cause_stop (cause.Link name) = refl

denied_again : (tid : ℕ) (seq : Option ℕ) (errno : Errno) (why : Cause) → IsEntry (Denied tid seq errno why) → denied_at (number_fields (tid ∷ []) ++ (seq_field seq ++ (word_field (name_of_error errno) ++ cause_fields why))) ≡ Some (Denied tid seq errno why)
unfolding denied_at
denied_again tid seq errno why is =
    let after_seq : List ℕ = word_field (name_of_error errno) ++ cause_fields why in
    let last : cause_at (cause_fields why) ≡ Some (why, []) = ap cause_at (sym (append-nil (cause_fields why))) ∙ cause_again why [] is.2 tt in
    ap denied_at (fields_1 tid (seq_field seq ++ after_seq))
    ∙ rw (
      again_32 tid (seq_field seq ++ after_seq) is.0 (seq_stop seq after_seq),
      seq_again seq after_seq is.1 refl,
      again error_of_name (name_of_error errno) errno (cause_fields why) (error_spells errno) (cause_stop why),
      last,
    ) refl

ended_again : (tid : ℕ) → IsEntry (Ended tid) → ended_at (number_fields (tid ∷ [])) ≡ Some (Ended tid)
unfolding ended_at
ended_again tid is = rw (again_32 tid [] is tt) refl

done_stop : (done : Bool) (rest : List ℕ) → Stops is_inner (done_field done ++ rest)
done_stop true rest = refl
done_stop false rest = refl

reloaded_again : (tid policy : ℕ) (done : Bool) (changes : List Change) → IsEntry (Reloaded tid policy done changes) → reloaded_at (number_fields (tid ∷ policy ∷ []) ++ (done_field done ++ changes_fields changes)) ≡ Some (Reloaded tid policy done changes)
unfolding reloaded_at
reloaded_again tid policy done changes is =
    let after_policy : List ℕ = done_field done ++ changes_fields changes in
    ap reloaded_at (fields_2 tid policy after_policy)
    ∙ rw (
      again_32 tid (number_field policy ++ after_policy) is.0 refl,
      again_32 policy after_policy is.1 (done_stop done (changes_fields changes)),
      done_again done (changes_fields changes) (changes_stop changes),
      changes_again changes is.2,
    ) refl

-- ---- what workers and the operator do

claimed_again : (worker seq : ℕ) → IsEntry (Claimed worker seq) → claimed_at (number_fields (worker ∷ seq ∷ [])) ≡ Some (Claimed worker seq)
unfolding claimed_at
claimed_again worker seq is = rw (again_32 worker (number_fields (seq ∷ [])) is.0 refl, again_16 seq [] is.1 tt) refl

copied_again : (seq part place word : ℕ) → IsEntry (Copied seq part place word) → copied_at (number_fields (seq ∷ part ∷ place ∷ word ∷ [])) ≡ Some (Copied seq part place word)
unfolding copied_at
copied_again seq part place word is =
    rw (again_16 seq (number_fields (part ∷ place ∷ word ∷ [])) is.0 refl, again_32 part (number_fields (place ∷ word ∷ [])) is.1 refl, again_32 place (number_fields (word ∷ [])) is.2 refl, again_64 word [] is.3 tt) refl

looked_again : (seq part : ℕ) (name : Components) (saw : SeenText) → IsEntry (Looked seq part name saw) → looked_at (number_fields (seq ∷ part ∷ []) ++ (name_field name ++ seen_fields saw)) ≡ Some (Looked seq part name saw)
unfolding looked_at
looked_again seq part name saw is =
    let after_part : List ℕ = name_field name ++ seen_fields saw in
    let last : seen_at (seen_fields saw) ≡ Some (saw, []) = ap seen_at (sym (append-nil (seen_fields saw))) ∙ seen_again saw [] is.3 tt in
    ap looked_at (fields_2 seq part after_part)
    ∙ rw (again_16 seq (number_field part ++ after_part) is.0 refl, again_32 part after_part is.1 refl, name_again name (seen_fields saw) is.2, last) refl

faulted_again : (seq : ℕ) (errno : Errno) → IsEntry (Faulted seq errno) → faulted_at (number_fields (seq ∷ []) ++ word_field (name_of_error errno)) ≡ Some (Faulted seq errno)
unfolding faulted_at
faulted_again seq errno is =
    let last = ap (λ (bytes : List ℕ). spelled_at error_of_name bytes) (sym (append-nil (word_field (name_of_error errno)))) ∙ again error_of_name (name_of_error errno) errno [] (error_spells errno) tt in
    ap faulted_at (fields_1 seq (word_field (name_of_error errno))) ∙ rw (again_16 seq (word_field (name_of_error errno)) is refl, last) refl

verdict_stop : (verdict : Verdict) (rest : List ℕ) → Stops is_inner (verdict_fields verdict ++ rest)
verdict_stop (Permit n ids) rest = refl
verdict_stop (Refuse n errno) rest = refl
verdict_stop Unmatched rest = refl

verdict_no_arg : (verdict : Verdict) (rest : List ℕ) → starts_with nat_eq (verdict_fields verdict ++ rest) (codes " arg ") ≡ false
verdict_no_arg (Permit n ids) rest = refl
verdict_no_arg (Refuse n errno) rest = refl
verdict_no_arg Unmatched rest = refl

applied_stop : (applied : Bool) → Stops is_inner (applied_field applied)
applied_stop true = refl
applied_stop false = refl

asked_regrouped : (s : Snapshot) (rest : List ℕ) → asked_fields s ++ rest
    ≡ word_field (codes "rule") ++ (word_field (emulation_prefix ++ name_of_rule s.rule) ++ (word_field (name_of_call s.call) ++ (number_fields s.regs ++ (args_fields s.parts ++ rest))))
asked_regrouped s rest =
    let name : List ℕ = name_of_rule s.rule in
    let call : List ℕ = word_field (name_of_call s.call) in
    ap (λ (xs : List ℕ). codes " rule native-" ++ xs) (regroup_4 name (call_fields s.call s.regs) (args_fields s.parts) rest
    ∙ ap (λ (xs : List ℕ). name ++ xs) (append_assoc call (number_fields s.regs) (args_fields s.parts ++ rest)))

judged_regrouped : (s : Snapshot) (rest : List ℕ) → judged_fields s ++ rest
    ≡ word_field (codes "pid") ++ (number_field s.pid ++ (word_field (codes "ids") ++ (four_ids s.ids ++ (word_field (codes "policy") ++ (text_field s.policy ++ (version_field s.version ++ rest))))))
judged_regrouped s rest =
    let after_ids : List ℕ = codes " policy" ++ (text_field s.policy ++ (version_field s.version ++ rest)) in
    ap (λ (xs : List ℕ). codes " pid" ++ xs) (regroup_6 (number_fields (s.pid ∷ [])) (ids_fields s.ids) (codes " policy") (text_field s.policy) (version_field s.version) rest
    ∙ fields_1 s.pid (ids_fields s.ids ++ after_ids))

answered_regrouped : (worker : ℕ) (s : Snapshot) (rest : List ℕ) → number_fields (worker ∷ s.seq ∷ []) ++ (judged_fields s ++ (asked_fields s ++ rest)) ≡ number_field worker ++ snapshot_fields s rest
answered_regrouped worker s rest =
    fields_2 worker s.seq (judged_fields s ++ (asked_fields s ++ rest))
    ∙ ap (λ (xs : List ℕ). number_field worker ++ (number_field s.seq ++ xs)) (ap (λ (xs : List ℕ). judged_fields s ++ xs) (asked_regrouped s rest)
    ∙ judged_regrouped s (word_field (codes "rule") ++ (word_field (emulation_prefix ++ name_of_rule s.rule) ++ (word_field (name_of_call s.call) ++ (number_fields s.regs ++ (args_fields s.parts ++ rest))))))

answered_again : (worker : ℕ) (s : Snapshot) (verdict : Verdict) (applied : Bool) → IsEntry (Answered worker s verdict applied) →
    answered_at (number_fields (worker ∷ s.seq ∷ []) ++ (judged_fields s ++ (asked_fields s ++ (verdict_fields verdict ++ applied_field applied)))) ≡ Some (Answered worker s verdict applied)
unfolding answered_at
answered_again worker s verdict applied is =
    let rest : List ℕ = verdict_fields verdict ++ applied_field applied in
    ap answered_at (answered_regrouped worker s rest)
    ∙ rw (
      again_32 worker (snapshot_fields s rest) is.0 refl,
      snapshot_again s rest is.1 (verdict_stop verdict (applied_field applied)) (verdict_no_arg verdict (applied_field applied)),
      verdict_again verdict (applied_field applied) is.2 (applied_stop applied),
      applied_again applied,
    ) refl

replied_again : (seq reply n : ℕ) → IsEntry (Replied seq reply n) → replied_at (number_fields (seq ∷ reply ∷ n ∷ [])) ≡ Some (Replied seq reply n)
unfolding replied_at
replied_again seq reply n is = rw (again_16 seq (number_fields (reply ∷ n ∷ [])) is.0 refl, again_32 reply (number_fields (n ∷ [])) is.1 refl, again_32 n [] is.2 tt) refl

learned_again : (seq n : ℕ) → IsEntry (Learned seq n) → learned_at (number_fields (seq ∷ n ∷ [])) ≡ Some (Learned seq n)
unfolding learned_at
learned_again seq n is = rw (again_16 seq (number_fields (n ∷ [])) is.0 refl, again_32 n [] is.1 tt) refl

-- ---- an entry by its first word

-- an entry is read again from what is printed of it
pub seems_again : (entry : Entry) → IsEntry entry → entry_at (entry_text entry) ≡ Some entry
unfolding entry_by worker_entry operator_entry
seems_again (Stored tid place word) is = headed (codes "stored") _ _ refl refl (stored_again tid place word is)
seems_again (Entered tid call regs way) is = headed (codes "entered") _ _ refl refl (ap entered_at (append_assoc (number_fields (tid ∷ [])) (call_fields call regs) (way_fields way)) ∙ entered_again tid call regs way is)
seems_again (Claimed worker seq) is = headed (codes "claimed") _ _ refl refl (claimed_again worker seq is)
seems_again (Copied seq part place word) is = headed (codes "copied") _ _ refl refl (copied_again seq part place word is)
seems_again (Looked seq part name saw) is = headed (codes "looked") _ _ refl refl (ap looked_at (append_assoc (number_fields (seq ∷ part ∷ [])) (name_field name) (seen_fields saw)) ∙ looked_again seq part name saw is)
seems_again (Faulted seq errno) is = headed (codes "faulted") _ _ refl refl (faulted_again seq errno is)
seems_again (Answered worker s verdict applied) is = headed (codes "answered") _ _ refl refl (ap answered_at (regroup_5 (number_fields (worker ∷ s.seq ∷ [])) (judged_fields s) (asked_fields s) (verdict_fields verdict) (applied_field applied)) ∙ answered_again worker s verdict applied is)
seems_again (Replied seq reply n) is = headed (codes "replied") _ _ refl refl (replied_again seq reply n is)
seems_again (Learned seq n) is = headed (codes "learned") _ _ refl refl (learned_again seq n is)
seems_again (Used tid seq call regs args ids result changes) is = headed (codes "used") _ _ refl refl (ap used_at (regroup_8 (number_fields (tid ∷ [])) (seq_field seq) (call_fields call regs) (ids_fields ids) (args_fields args) (codes " = ") (result_text result) (changes_fields changes)) ∙ used_again tid seq call regs args ids result changes is)
seems_again (Denied tid seq errno why) is = headed (codes "denied") _ _ refl refl (ap denied_at (regroup_4 (number_fields (tid ∷ [])) (seq_field seq) (word_field (name_of_error errno)) (cause_fields why)) ∙ denied_again tid seq errno why is)
seems_again (Ended tid) is = headed (codes "ended") _ _ refl refl (ended_again tid is)
seems_again (Reloaded tid policy done changes) is = headed (codes "reloaded") _ _ refl refl (ap reloaded_at (append_assoc (number_fields (tid ∷ policy ∷ [])) (done_field done) (changes_fields changes)) ∙ reloaded_again tid policy done changes is)
