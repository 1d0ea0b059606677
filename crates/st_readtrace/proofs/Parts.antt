-- The parts of entries, which are read again.
use Rattle.std.proofs.Common.{◌≡◌, ℕ, Bool, true, false, ◌==◌, cond, List, [], ◌∷◌, ◌++◌, codes, Option, Some, refl, ap, sym, ◌∙◌, append_assoc, arith, nat_eq}
use Rattle.std.proofs.lemmas.Bool.Decides.{nat_tests}
use Rattle.std.specs.List.{starts_with}
use Rattle.st_base.specs.Errno.{name_of_error}
use Rattle.st_base.specs.declared.ids.Ids.{Ids}
use Rattle.st_calls.specs.Call.{call_named, name_of_call, name_of_rule}
use Rattle.st_calls.specs.Emulation.{emulation_prefix}
use Rattle.st_calls.specs.declared.judged.Snapshot.{Snapshot}
use Rattle.st_calls.specs.declared.judged.Verdict.{Verdict}
use Rattle.st_calls.specs.declared.judged.Verdict.TheVariants.{Permit, Refuse, Unmatched}
use Rattle.st_names.specs.declared.seen.SeenText.{SeenText}
use Rattle.st_names.specs.declared.seen.SeenText.TheVariants as seen
use Rattle.st_report.specs.Fields.{four_ids, ids_fields, name_field, number_field, number_fields, text_field, word_field}
use Rattle.st_report.specs.TraceText.{applied_field, args_fields, cause_fields, done_field, seen_fields, verdict_fields, version_field, way_fields}
use Rattle.st_trace.specs.declared.entry.Cause.{Cause}
use Rattle.st_trace.specs.declared.entry.Cause.TheVariants as cause
use Rattle.st_trace.specs.declared.entry.Way.{Way}
use Rattle.st_trace.specs.declared.entry.Way.TheVariants.{Fast, Barred, Held, Untraced}
use Rattle.st_fields.specs.Words.{error_of_name, is_inner, rule_after_prefix}
use Rattle.st_fields.specs.Fields.{word_at}
use Rattle.st_readtrace.specs.Entries.{cause_at, cause_by, flag_at, seen_at, seen_by, snapshot_at, verdict_at, verdict_by, version_at, way_at, way_by}
use Rattle.st_written.specs.Written.{Has32, IsCause, IsSeen, IsSnapshot, IsVerdict, IsWay}
use Rattle.st_fields.proofs.Fronts.{Stops, word_again}
use Rattle.st_fields.proofs.Spellings.{again, again_16, again_32, call_spells, error_spells, rule_spells}
use Rattle.st_fields.proofs.Quoting.{text_again}
use Rattle.st_fields.proofs.Names.{name_again}
use Rattle.st_fields.proofs.Arguments.{args_again, args_stop, fields_1, ids_again, numbers_stop, regs_again}

-- ---- ways

way_worded : (word rest : List ℕ) (more : Option (Way × List ℕ)) → word_at (word_field word ++ rest) ≡ Some (word, rest) → way_by word rest ≡ more → way_at (word_field word ++ rest) ≡ more
unfolding way_at
way_worded word rest more read is = rw read is

pub way_again : (way : Way) (rest : List ℕ) → IsWay way → Stops is_inner rest → way_at (way_fields way ++ rest) ≡ Some (way, rest)
unfolding way_by
way_again Fast rest is stops = way_worded (codes "fast") rest _ (word_again (codes "fast") rest refl stops) refl
way_again (Barred n) rest is stops =
    ap way_at (append_assoc (codes " barred") (number_fields (n ∷ [])) rest)
    ∙ way_worded (codes "barred") (number_fields (n ∷ []) ++ rest) _ (word_again (codes "barred") _ refl refl)
    (ap (way_by (codes "barred")) (fields_1 n rest) ∙ rw (again_32 n rest is stops) refl)
way_again (Held seq) rest is stops =
    ap way_at (append_assoc (codes " held") (number_fields (seq ∷ [])) rest)
    ∙ way_worded (codes "held") (number_fields (seq ∷ []) ++ rest) _ (word_again (codes "held") _ refl refl)
    (ap (way_by (codes "held")) (fields_1 seq rest) ∙ rw (again_16 seq rest is stops) refl)
way_again Untraced rest is stops = way_worded (codes "untraced") rest _ (word_again (codes "untraced") rest refl stops) refl

-- ---- what looks saw

seen_worded : (word rest : List ℕ) (more : Option (SeenText × List ℕ)) → word_at (word_field word ++ rest) ≡ Some (word, rest) → seen_by word rest ≡ more → seen_at (word_field word ++ rest) ≡ more
unfolding seen_at
seen_worded word rest more read is = rw read is

pub seen_again : (saw : SeenText) (rest : List ℕ) → IsSeen saw → Stops is_inner rest → seen_at (seen_fields saw ++ rest) ≡ Some (saw, rest)
unfolding seen_by
seen_again seen.Missing rest is stops = seen_worded (codes "missing") rest _ (word_again (codes "missing") rest refl stops) refl
seen_again seen.NotDir rest is stops = seen_worded (codes "notdir") rest _ (word_again (codes "notdir") rest refl stops) refl
seen_again seen.Dir rest is stops = seen_worded (codes "dir") rest _ (word_again (codes "dir") rest refl stops) refl
seen_again seen.File rest is stops = seen_worded (codes "file") rest _ (word_again (codes "file") rest refl stops) refl
seen_again (seen.Link target) rest is stops =
    seen_worded (codes "link") (text_field target ++ rest) _ (word_again (codes "link") _ refl refl) (rw (text_again target rest is) refl)

-- ---- verdicts

verdict_worded : (word rest : List ℕ) (more : Option (Verdict × List ℕ)) → word_at (word_field word ++ rest) ≡ Some (word, rest) → verdict_by word rest ≡ more → verdict_at (word_field word ++ rest) ≡ more
unfolding verdict_at
verdict_worded word rest more read is = rw read is

permit_regrouped : (n : ℕ) (ids : Ids) (rest : List ℕ) → (number_fields (n ∷ []) ++ ids_fields ids) ++ rest ≡ number_field n ++ (word_field (codes "ids") ++ (four_ids ids ++ rest))
permit_regrouped n ids rest = append_assoc (number_fields (n ∷ [])) (ids_fields ids) rest ∙ fields_1 n (ids_fields ids ++ rest)

refuse_regrouped : (n : ℕ) (name rest : List ℕ) → (number_fields (n ∷ []) ++ word_field name) ++ rest ≡ number_field n ++ (word_field name ++ rest)
refuse_regrouped n name rest = append_assoc (number_fields (n ∷ [])) (word_field name) rest ∙ fields_1 n (word_field name ++ rest)

pub verdict_again : (verdict : Verdict) (rest : List ℕ) → IsVerdict verdict → Stops is_inner rest → verdict_at (verdict_fields verdict ++ rest) ≡ Some (verdict, rest)
unfolding verdict_by
verdict_again (Permit n ids) rest is stops =
    verdict_worded (codes "permit") ((number_fields (n ∷ []) ++ ids_fields ids) ++ rest) _ (word_again (codes "permit") _ refl refl)
    (ap (verdict_by (codes "permit")) (permit_regrouped n ids rest)
    ∙ rw (again_32 n (word_field (codes "ids") ++ (four_ids ids ++ rest)) is.0 refl, word_again (codes "ids") (four_ids ids ++ rest) refl refl, ids_again ids rest is.1 stops) refl)
verdict_again (Refuse n errno) rest is stops =
    verdict_worded (codes "refuse") ((number_fields (n ∷ []) ++ word_field (name_of_error errno)) ++ rest) _ (word_again (codes "refuse") _ refl refl)
    (ap (verdict_by (codes "refuse")) (refuse_regrouped n (name_of_error errno) rest)
    ∙ rw (again_32 n (word_field (name_of_error errno) ++ rest) is refl, again error_of_name (name_of_error errno) errno rest (error_spells errno) stops) refl)
verdict_again Unmatched rest is stops = verdict_worded (codes "unmatched") rest _ (word_again (codes "unmatched") rest refl stops) refl

-- ---- causes

cause_worded : (word rest : List ℕ) (more : Option (Cause × List ℕ)) → word_at (word_field word ++ rest) ≡ Some (word, rest) → cause_by word rest ≡ more → cause_at (word_field word ++ rest) ≡ more
unfolding cause_at
cause_worded word rest more read is = rw read is

pub cause_again : (why : Cause) (rest : List ℕ) → IsCause why → Stops is_inner rest → cause_at (cause_fields why ++ rest) ≡ Some (why, rest)
unfolding cause_by
cause_again (cause.Filter n) rest is stops =
    cause_worded (codes "filter") (number_fields (n ∷ []) ++ rest) _ (word_again (codes "filter") _ refl refl)
    (ap (cause_by (codes "filter")) (fields_1 n rest) ∙ rw (again_32 n rest is stops) refl)
cause_again cause.NoFilter rest is stops = cause_worded (codes "nofilter") rest _ (word_again (codes "nofilter") rest refl stops) refl
cause_again cause.Fault rest is stops = cause_worded (codes "fault") rest _ (word_again (codes "fault") rest refl stops) refl
cause_again (cause.Link name) rest is stops =
    cause_worded (codes "link") (name_field name ++ rest) _ (word_again (codes "link") _ refl refl) (rw (name_again name rest is) refl)

-- ---- flags

pub applied_again : (applied : Bool) → flag_at (codes "applied") (applied_field applied) ≡ Some (applied, [])
unfolding flag_at
applied_again true = rw (word_again (codes "applied") [] refl tt) refl
applied_again false = rw (word_again (codes "stale") [] refl tt) refl

pub done_again : (done : Bool) (rest : List ℕ) → Stops is_inner rest → flag_at (codes "done") (done_field done ++ rest) ≡ Some (done, rest)
unfolding flag_at
done_again true rest stops = rw (word_again (codes "done") rest refl stops) refl
done_again false rest stops = rw (word_again (codes "refused") rest refl stops) refl

-- ---- versions

version_by : (b : Bool) (version : ℕ) (rest : List ℕ) → (version == 0) ≡ b → Has32 version → Stops is_inner rest → starts_with nat_eq rest (codes " version ") ≡ false →
    version_at (cond b [] (codes " version" ++ number_fields (version ∷ [])) ++ rest) ≡ Some (version, rest)
unfolding version_at
version_by true version rest e small stops apart =
    let zero_is : version ≡ 0 = grind (arith, nat_tests) in
    rw apart (ap (λ (n : ℕ). Some (n, rest)) (sym zero_is))
version_by false version rest e small stops apart =
    ap version_at (ap (λ (xs : List ℕ). codes " version" ++ xs) (fields_1 version rest))
    ∙ rw (word_again (codes "version") (number_field version ++ rest) refl refl, again_32 version rest small stops) refl

pub version_again : (version : ℕ) (rest : List ℕ) → Has32 version → Stops is_inner rest → starts_with nat_eq rest (codes " version ") ≡ false → version_at (version_field version ++ rest) ≡ Some (version, rest)
version_again version rest small stops apart = version_by (version == 0) version rest refl small stops apart

-- ---- snapshots

-- the fields of a snapshot from its number on, with a blank before each
abbrev pub snapshot_fields : Snapshot → List ℕ → List ℕ
snapshot_fields s rest =
    number_field s.seq ++ (word_field (codes "pid") ++ (number_field s.pid ++ (word_field (codes "ids") ++ (four_ids s.ids ++ (word_field (codes "policy") ++ (text_field s.policy ++ (version_field s.version
    ++ (word_field (codes "rule") ++ (word_field (emulation_prefix ++ name_of_rule s.rule) ++ (word_field (name_of_call s.call) ++ (number_fields s.regs ++ (args_fields s.parts ++ rest))))))))))))

pub snapshot_again : (s : Snapshot) (rest : List ℕ) → IsSnapshot s → Stops is_inner rest → starts_with nat_eq rest (codes " arg ") ≡ false → snapshot_at (snapshot_fields s rest) ≡ Some (s, rest)
unfolding snapshot_at
snapshot_again s rest is stops apart =
    let after_regs : List ℕ = args_fields s.parts ++ rest in
    let stop : Stops is_inner after_regs = args_stop s.parts rest stops in
    let after_call : List ℕ = number_fields s.regs ++ after_regs in
    let after_rule : List ℕ = word_field (name_of_call s.call) ++ after_call in
    let after_version : List ℕ = word_field (codes "rule") ++ (word_field (emulation_prefix ++ name_of_rule s.rule) ++ after_rule) in
    let after_policy : List ℕ = version_field s.version ++ after_version in
    let after_ids : List ℕ = word_field (codes "policy") ++ (text_field s.policy ++ after_policy) in
    let after_pid : List ℕ = word_field (codes "ids") ++ (four_ids s.ids ++ after_ids) in
    rw (
      again_16 s.seq (word_field (codes "pid") ++ (number_field s.pid ++ after_pid)) is.0 refl,
      word_again (codes "pid") (number_field s.pid ++ after_pid) refl refl,
      again_32 s.pid after_pid is.1 refl,
      word_again (codes "ids") (four_ids s.ids ++ after_ids) refl refl,
      ids_again s.ids after_ids is.2 refl,
      word_again (codes "policy") (text_field s.policy ++ after_policy) refl refl,
      text_again s.policy after_policy is.3,
      version_again s.version after_version is.4 refl refl,
      word_again (codes "rule") (word_field (emulation_prefix ++ name_of_rule s.rule) ++ after_rule) refl refl,
      again rule_after_prefix (emulation_prefix ++ name_of_rule s.rule) s.rule after_rule (rule_spells s.rule) refl,
      again call_named (name_of_call s.call) s.call after_call (call_spells s.call) (numbers_stop s.regs after_regs stop),
      regs_again s.regs after_regs is.5 stop,
      args_again s.parts rest is.6 apart,
    ) refl
