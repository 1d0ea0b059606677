-- The entries that are read fit their types.
use Rattle.std.proofs.Common.{ℕ, Bool, true, false, cond, List, codes, Option, Some, None, arith}
use Rattle.std.specs.List.{starts_with}
use Rattle.std.specs.Prelude.{IfSome, nat_eq}
use Rattle.std.specs.Str.{bytes_eq}
use Rattle.st_calls.specs.Call.{call_named}
use Rattle.st_calls.specs.declared.judged.Verdict.TheVariants.{Permit, Refuse, Unmatched}
use Rattle.st_names.specs.declared.seen.SeenText.TheVariants as seen
use Rattle.st_trace.specs.declared.entry.Cause.TheVariants as cause
use Rattle.st_trace.specs.declared.entry.Entry.{Entry}
use Rattle.st_trace.specs.declared.entry.Way.TheVariants.{Fast, Barred, Held, Untraced}
use Rattle.st_fields.specs.Reads.{◌>>=◌}
use Rattle.st_fields.specs.Words.{error_of_name, number_of_16, number_of_32, number_of_64, result_of_word, rule_after_prefix, seq_of_word, split_word}
use Rattle.st_fields.specs.Fields.{args_at, ids_at, name_at, regs_at, spelled_at, text_at, word_at}
use Rattle.st_readtrace.specs.Changes.{changes_at}
use Rattle.st_readtrace.specs.Entries.{answered_at, cause_at, cause_by, claimed_at, copied_at, denied_at, ended_at, entered_at, entry_at, entry_by, faulted_at, flag_at, learned_at, looked_at, operator_entry, reloaded_at, replied_at, seen_at, seen_by, snapshot_at, stored_at, used_at, verdict_at, verdict_by, version_at, way_at, way_by, worker_entry}
use Rattle.st_written.specs.Written.{AreArgs, AreChanges, AreIds, AreRegs, Has16, Has32, Has64, IsCause, IsEntry, IsName, IsResult, IsSeen, IsSeq, IsSnapshot, IsText, IsVerdict, IsWay}
use Rattle.st_fields.proofs.Fits.{Any, Fits, and_then, any_spelled, args_fit, fits_16, fits_32, fits_64, ids_fit, name_fits, regs_fit, result_fits, seq_fits, split_text, text_fits, word_fits}
use Rattle.st_readtrace.proofs.FittingChanges.{changes_fit}

-- ---- the parts of entries

way_tests : (a b c d : Bool) (rest : List ℕ) → IsText rest → Fits IsWay (cond a (Some (Fast, rest)) (cond b (spelled_at number_of_32 rest >>= λ n. Some (Barred n.0, n.1)) (cond c (spelled_at number_of_16 rest >>= λ seq. Some (Held seq.0, seq.1)) (cond d (Some (Untraced, rest)) (None)))))
way_tests true b c d rest text = (tt, text)
way_tests false true c d rest text = and_then _ (spelled_at number_of_32 rest) (λ x. Has32 x.0 × IsText x.1) _ (fits_32 rest text) (λ n h. (h.0, h.1))
way_tests false false true d rest text = and_then _ (spelled_at number_of_16 rest) (λ x. Has16 x.0 × IsText x.1) _ (fits_16 rest text) (λ seq h. (h.0, h.1))
way_tests false false false true rest text = (tt, text)
way_tests false false false false rest text = tt

way_by_fits : (word rest : List ℕ) → IsText rest → Fits IsWay (way_by word rest)
unfolding way_by
way_by_fits word rest text = way_tests (bytes_eq word (codes "fast")) (bytes_eq word (codes "barred")) (bytes_eq word (codes "held")) (bytes_eq word (codes "untraced")) rest text

way_fits : (bytes : List ℕ) → IsText bytes → Fits IsWay (way_at bytes)
unfolding way_at
way_fits bytes text = and_then _ (word_at bytes) (λ x. IsText x.0 × IsText x.1) _ (word_fits bytes text) (λ word w. way_by_fits word.0 word.1 w.1)

seen_tests : (a b c d e : Bool) (rest : List ℕ) → IsText rest → Fits IsSeen (cond a (Some (seen.Missing, rest)) (cond b (Some (seen.NotDir, rest)) (cond c (Some (seen.Dir, rest)) (cond d (Some (seen.File, rest)) (cond e (text_at rest >>= λ target. Some (seen.Link target.0, target.1)) (None))))))
seen_tests true b c d e rest text = (tt, text)
seen_tests false true c d e rest text = (tt, text)
seen_tests false false true d e rest text = (tt, text)
seen_tests false false false true e rest text = (tt, text)
seen_tests false false false false true rest text = and_then _ (text_at rest) (λ x. IsText x.0 × IsText x.1) _ (text_fits rest text) (λ target h. (h.0, h.1))
seen_tests false false false false false rest text = tt

seen_by_fits : (word rest : List ℕ) → IsText rest → Fits IsSeen (seen_by word rest)
unfolding seen_by
seen_by_fits word rest text = seen_tests (bytes_eq word (codes "missing")) (bytes_eq word (codes "notdir")) (bytes_eq word (codes "dir")) (bytes_eq word (codes "file")) (bytes_eq word (codes "link")) rest text

seen_fits : (bytes : List ℕ) → IsText bytes → Fits IsSeen (seen_at bytes)
unfolding seen_at
seen_fits bytes text = and_then _ (word_at bytes) (λ x. IsText x.0 × IsText x.1) _ (word_fits bytes text) (λ word w. seen_by_fits word.0 word.1 w.1)

verdict_tests : (a b c : Bool) (rest : List ℕ) → IsText rest → Fits IsVerdict (cond a (spelled_at number_of_32 rest >>= λ n. word_at n.1 >>= λ named. ids_at named.1 >>= λ ids. Some (Permit n.0 ids.0, ids.1)) (cond b (spelled_at number_of_32 rest >>= λ n. spelled_at error_of_name n.1 >>= λ errno. Some (Refuse n.0 errno.0, errno.1)) (cond c (Some (Unmatched, rest)) (None))))
verdict_tests true b c rest text =
    and_then _ (spelled_at number_of_32 rest) (λ x. Has32 x.0 × IsText x.1) _ (fits_32 rest text) (λ n h0.
    and_then _ (word_at n.1) (λ x. IsText x.0 × IsText x.1) _ (word_fits n.1 h0.1) (λ named h1.
    and_then _ (ids_at named.1) (λ x. AreIds x.0 × IsText x.1) _ (ids_fit named.1 h1.1) (λ ids h2. ((h0.0, h2.0), h2.1))))
verdict_tests false true c rest text =
    and_then _ (spelled_at number_of_32 rest) (λ x. Has32 x.0 × IsText x.1) _ (fits_32 rest text) (λ n h0.
    and_then _ (spelled_at error_of_name n.1) (λ x. Any x.0 × IsText x.1) _ (any_spelled error_of_name n.1 h0.1) (λ errno h1. (h0.0, h1.1)))
verdict_tests false false true rest text = (tt, text)
verdict_tests false false false rest text = tt

verdict_by_fits : (word rest : List ℕ) → IsText rest → Fits IsVerdict (verdict_by word rest)
unfolding verdict_by
verdict_by_fits word rest text = verdict_tests (bytes_eq word (codes "permit")) (bytes_eq word (codes "refuse")) (bytes_eq word (codes "unmatched")) rest text

verdict_fits : (bytes : List ℕ) → IsText bytes → Fits IsVerdict (verdict_at bytes)
unfolding verdict_at
verdict_fits bytes text = and_then _ (word_at bytes) (λ x. IsText x.0 × IsText x.1) _ (word_fits bytes text) (λ word w. verdict_by_fits word.0 word.1 w.1)

cause_tests : (a b c d : Bool) (rest : List ℕ) → IsText rest → Fits IsCause (cond a (spelled_at number_of_32 rest >>= λ n. Some (cause.Filter n.0, n.1)) (cond b (Some (cause.NoFilter, rest)) (cond c (Some (cause.Fault, rest)) (cond d (name_at rest >>= λ name. Some (cause.Link name.0, name.1)) (None)))))
cause_tests true b c d rest text = and_then _ (spelled_at number_of_32 rest) (λ x. Has32 x.0 × IsText x.1) _ (fits_32 rest text) (λ n h. (h.0, h.1))
cause_tests false true c d rest text = (tt, text)
cause_tests false false true d rest text = (tt, text)
cause_tests false false false true rest text = and_then _ (name_at rest) (λ x. IsName x.0 × IsText x.1) _ (name_fits rest text) (λ name h. (h.0, h.1))
cause_tests false false false false rest text = tt

cause_by_fits : (word rest : List ℕ) → IsText rest → Fits IsCause (cause_by word rest)
unfolding cause_by
cause_by_fits word rest text = cause_tests (bytes_eq word (codes "filter")) (bytes_eq word (codes "nofilter")) (bytes_eq word (codes "fault")) (bytes_eq word (codes "link")) rest text

cause_fits : (bytes : List ℕ) → IsText bytes → Fits IsCause (cause_at bytes)
unfolding cause_at
cause_fits bytes text = and_then _ (word_at bytes) (λ x. IsText x.0 × IsText x.1) _ (word_fits bytes text) (λ word w. cause_by_fits word.0 word.1 w.1)

version_test : (b : Bool) (bytes : List ℕ) → IsText bytes → Fits Has32 (cond b (word_at bytes >>= λ word. spelled_at number_of_32 word.1) (Some (0, bytes)))
version_test true bytes text = and_then _ (word_at bytes) (λ x. IsText x.0 × IsText x.1) _ (word_fits bytes text) (λ word w. fits_32 word.1 w.1)
version_test false bytes text = (omega arith, text)

version_fits : (bytes : List ℕ) → IsText bytes → Fits Has32 (version_at bytes)
unfolding version_at
version_fits bytes text = version_test (starts_with nat_eq bytes (codes " version ")) bytes text

flag_fits : (wanted bytes : List ℕ) → IsText bytes → Fits Any (flag_at wanted bytes)
unfolding flag_at
flag_fits wanted bytes text = and_then _ (word_at bytes) (λ x. IsText x.0 × IsText x.1) _ (word_fits bytes text) (λ word w. (tt, w.1))

snapshot_fits : (bytes : List ℕ) → IsText bytes → Fits IsSnapshot (snapshot_at bytes)
unfolding snapshot_at
snapshot_fits bytes text =
    and_then _ (spelled_at number_of_16 bytes) (λ x. Has16 x.0 × IsText x.1) _ (fits_16 bytes text) (λ seq h0.
    and_then _ (word_at seq.1) (λ x. IsText x.0 × IsText x.1) _ (word_fits seq.1 h0.1) (λ pid_word h1.
    and_then _ (spelled_at number_of_32 pid_word.1) (λ x. Has32 x.0 × IsText x.1) _ (fits_32 pid_word.1 h1.1) (λ pid h2.
    and_then _ (word_at pid.1) (λ x. IsText x.0 × IsText x.1) _ (word_fits pid.1 h2.1) (λ ids_word h3.
    and_then _ (ids_at ids_word.1) (λ x. AreIds x.0 × IsText x.1) _ (ids_fit ids_word.1 h3.1) (λ ids h4.
    and_then _ (word_at ids.1) (λ x. IsText x.0 × IsText x.1) _ (word_fits ids.1 h4.1) (λ policy_word h5.
    and_then _ (text_at policy_word.1) (λ x. IsText x.0 × IsText x.1) _ (text_fits policy_word.1 h5.1) (λ policy h6.
    and_then _ (version_at policy.1) (λ x. Has32 x.0 × IsText x.1) _ (version_fits policy.1 h6.1) (λ version h7.
    and_then _ (word_at version.1) (λ x. IsText x.0 × IsText x.1) _ (word_fits version.1 h7.1) (λ rule_word h8.
    and_then _ (spelled_at rule_after_prefix rule_word.1) (λ x. Any x.0 × IsText x.1) _ (any_spelled rule_after_prefix rule_word.1 h8.1) (λ rule h9.
    and_then _ (spelled_at call_named rule.1) (λ x. Any x.0 × IsText x.1) _ (any_spelled call_named rule.1 h9.1) (λ call h10.
    and_then _ (regs_at call.1) (λ x. AreRegs x.0 × IsText x.1) _ (regs_fit call.1 h10.1) (λ regs h11.
    and_then _ (args_at regs.1) (λ x. AreArgs x.0 × IsText x.1) _ (args_fit regs.1 h11.1) (λ parts h12.
    ((h0.0, h2.0, h4.0, h6.0, h7.0, h11.0, h12.0), h12.1))))))))))))))

-- ---- what threads do

stored_fits : (bytes : List ℕ) → IsText bytes → IfSome (stored_at bytes) IsEntry
unfolding stored_at
stored_fits bytes text =
    and_then _ (spelled_at number_of_32 bytes) (λ x. Has32 x.0 × IsText x.1) _ (fits_32 bytes text) (λ tid h0.
    and_then _ (spelled_at number_of_32 tid.1) (λ x. Has32 x.0 × IsText x.1) _ (fits_32 tid.1 h0.1) (λ place h1.
    and_then _ (spelled_at number_of_64 place.1) (λ x. Has64 x.0 × IsText x.1) _ (fits_64 place.1 h1.1) (λ word h2.
    (h0.0, h1.0, h2.0))))

entered_fits : (bytes : List ℕ) → IsText bytes → IfSome (entered_at bytes) IsEntry
unfolding entered_at
entered_fits bytes text =
    and_then _ (spelled_at number_of_32 bytes) (λ x. Has32 x.0 × IsText x.1) _ (fits_32 bytes text) (λ tid h0.
    and_then _ (spelled_at call_named tid.1) (λ x. Any x.0 × IsText x.1) _ (any_spelled call_named tid.1 h0.1) (λ call h1.
    and_then _ (regs_at call.1) (λ x. AreRegs x.0 × IsText x.1) _ (regs_fit call.1 h1.1) (λ regs h2.
    and_then _ (way_at regs.1) (λ x. IsWay x.0 × IsText x.1) _ (way_fits regs.1 h2.1) (λ way h3.
    (h0.0, h2.0, h3.0)))))

used_fits : (bytes : List ℕ) → IsText bytes → IfSome (used_at bytes) IsEntry
unfolding used_at
used_fits bytes text =
    and_then _ (spelled_at number_of_32 bytes) (λ x. Has32 x.0 × IsText x.1) _ (fits_32 bytes text) (λ tid h0.
    and_then _ (spelled_at seq_of_word tid.1) (λ x. IsSeq x.0 × IsText x.1) _ (seq_fits tid.1 h0.1) (λ seq h1.
    and_then _ (spelled_at call_named seq.1) (λ x. Any x.0 × IsText x.1) _ (any_spelled call_named seq.1 h1.1) (λ call h2.
    and_then _ (regs_at call.1) (λ x. AreRegs x.0 × IsText x.1) _ (regs_fit call.1 h2.1) (λ regs h3.
    and_then _ (word_at regs.1) (λ x. IsText x.0 × IsText x.1) _ (word_fits regs.1 h3.1) (λ ids_word h4.
    and_then _ (ids_at ids_word.1) (λ x. AreIds x.0 × IsText x.1) _ (ids_fit ids_word.1 h4.1) (λ ids h5.
    and_then _ (args_at ids.1) (λ x. AreArgs x.0 × IsText x.1) _ (args_fit ids.1 h5.1) (λ args h6.
    and_then _ (word_at args.1) (λ x. IsText x.0 × IsText x.1) _ (word_fits args.1 h6.1) (λ equal h7.
    and_then _ (spelled_at result_of_word equal.1) (λ x. IsResult x.0 × IsText x.1) _ (result_fits equal.1 h7.1) (λ result h8.
    and_then _ (changes_at result.1) AreChanges _ (changes_fit result.1 h8.1) (λ changes c.
    (h0.0, h1.0, h3.0, h6.0, h5.0, h8.0, c)))))))))))

denied_fits : (bytes : List ℕ) → IsText bytes → IfSome (denied_at bytes) IsEntry
unfolding denied_at
denied_fits bytes text =
    and_then _ (spelled_at number_of_32 bytes) (λ x. Has32 x.0 × IsText x.1) _ (fits_32 bytes text) (λ tid h0.
    and_then _ (spelled_at seq_of_word tid.1) (λ x. IsSeq x.0 × IsText x.1) _ (seq_fits tid.1 h0.1) (λ seq h1.
    and_then _ (spelled_at error_of_name seq.1) (λ x. Any x.0 × IsText x.1) _ (any_spelled error_of_name seq.1 h1.1) (λ errno h2.
    and_then _ (cause_at errno.1) (λ x. IsCause x.0 × IsText x.1) _ (cause_fits errno.1 h2.1) (λ why h3.
    (h0.0, h1.0, h3.0)))))

ended_fits : (bytes : List ℕ) → IsText bytes → IfSome (ended_at bytes) IsEntry
unfolding ended_at
ended_fits bytes text =
    and_then _ (spelled_at number_of_32 bytes) (λ x. Has32 x.0 × IsText x.1) _ (fits_32 bytes text) (λ tid h0.
    h0.0)

reloaded_fits : (bytes : List ℕ) → IsText bytes → IfSome (reloaded_at bytes) IsEntry
unfolding reloaded_at
reloaded_fits bytes text =
    and_then _ (spelled_at number_of_32 bytes) (λ x. Has32 x.0 × IsText x.1) _ (fits_32 bytes text) (λ tid h0.
    and_then _ (spelled_at number_of_32 tid.1) (λ x. Has32 x.0 × IsText x.1) _ (fits_32 tid.1 h0.1) (λ policy h1.
    and_then _ (flag_at (codes "done") policy.1) (λ x. Any x.0 × IsText x.1) _ (flag_fits (codes "done") policy.1 h1.1) (λ done h2.
    and_then _ (changes_at done.1) AreChanges _ (changes_fit done.1 h2.1) (λ changes c.
    (h0.0, h1.0, c)))))

-- ---- what workers and the operator do

claimed_fits : (bytes : List ℕ) → IsText bytes → IfSome (claimed_at bytes) IsEntry
unfolding claimed_at
claimed_fits bytes text =
    and_then _ (spelled_at number_of_32 bytes) (λ x. Has32 x.0 × IsText x.1) _ (fits_32 bytes text) (λ worker h0.
    and_then _ (spelled_at number_of_16 worker.1) (λ x. Has16 x.0 × IsText x.1) _ (fits_16 worker.1 h0.1) (λ seq h1.
    (h0.0, h1.0)))

copied_fits : (bytes : List ℕ) → IsText bytes → IfSome (copied_at bytes) IsEntry
unfolding copied_at
copied_fits bytes text =
    and_then _ (spelled_at number_of_16 bytes) (λ x. Has16 x.0 × IsText x.1) _ (fits_16 bytes text) (λ seq h0.
    and_then _ (spelled_at number_of_32 seq.1) (λ x. Has32 x.0 × IsText x.1) _ (fits_32 seq.1 h0.1) (λ part h1.
    and_then _ (spelled_at number_of_32 part.1) (λ x. Has32 x.0 × IsText x.1) _ (fits_32 part.1 h1.1) (λ place h2.
    and_then _ (spelled_at number_of_64 place.1) (λ x. Has64 x.0 × IsText x.1) _ (fits_64 place.1 h2.1) (λ word h3.
    (h0.0, h1.0, h2.0, h3.0)))))

looked_fits : (bytes : List ℕ) → IsText bytes → IfSome (looked_at bytes) IsEntry
unfolding looked_at
looked_fits bytes text =
    and_then _ (spelled_at number_of_16 bytes) (λ x. Has16 x.0 × IsText x.1) _ (fits_16 bytes text) (λ seq h0.
    and_then _ (spelled_at number_of_32 seq.1) (λ x. Has32 x.0 × IsText x.1) _ (fits_32 seq.1 h0.1) (λ part h1.
    and_then _ (name_at part.1) (λ x. IsName x.0 × IsText x.1) _ (name_fits part.1 h1.1) (λ name h2.
    and_then _ (seen_at name.1) (λ x. IsSeen x.0 × IsText x.1) _ (seen_fits name.1 h2.1) (λ saw h3.
    (h0.0, h1.0, h2.0, h3.0)))))

faulted_fits : (bytes : List ℕ) → IsText bytes → IfSome (faulted_at bytes) IsEntry
unfolding faulted_at
faulted_fits bytes text =
    and_then _ (spelled_at number_of_16 bytes) (λ x. Has16 x.0 × IsText x.1) _ (fits_16 bytes text) (λ seq h0.
    and_then _ (spelled_at error_of_name seq.1) (λ x. Any x.0 × IsText x.1) _ (any_spelled error_of_name seq.1 h0.1) (λ errno h1.
    h0.0))

answered_fits : (bytes : List ℕ) → IsText bytes → IfSome (answered_at bytes) IsEntry
unfolding answered_at
answered_fits bytes text =
    and_then _ (spelled_at number_of_32 bytes) (λ x. Has32 x.0 × IsText x.1) _ (fits_32 bytes text) (λ worker h0.
    and_then _ (snapshot_at worker.1) (λ x. IsSnapshot x.0 × IsText x.1) _ (snapshot_fits worker.1 h0.1) (λ snapshot h1.
    and_then _ (verdict_at snapshot.1) (λ x. IsVerdict x.0 × IsText x.1) _ (verdict_fits snapshot.1 h1.1) (λ verdict h2.
    and_then _ (flag_at (codes "applied") verdict.1) (λ x. Any x.0 × IsText x.1) _ (flag_fits (codes "applied") verdict.1 h2.1) (λ applied h3.
    (h0.0, h1.0, h2.0)))))

replied_fits : (bytes : List ℕ) → IsText bytes → IfSome (replied_at bytes) IsEntry
unfolding replied_at
replied_fits bytes text =
    and_then _ (spelled_at number_of_16 bytes) (λ x. Has16 x.0 × IsText x.1) _ (fits_16 bytes text) (λ seq h0.
    and_then _ (spelled_at number_of_32 seq.1) (λ x. Has32 x.0 × IsText x.1) _ (fits_32 seq.1 h0.1) (λ reply h1.
    and_then _ (spelled_at number_of_32 reply.1) (λ x. Has32 x.0 × IsText x.1) _ (fits_32 reply.1 h1.1) (λ n h2.
    (h0.0, h1.0, h2.0))))

learned_fits : (bytes : List ℕ) → IsText bytes → IfSome (learned_at bytes) IsEntry
unfolding learned_at
learned_fits bytes text =
    and_then _ (spelled_at number_of_16 bytes) (λ x. Has16 x.0 × IsText x.1) _ (fits_16 bytes text) (λ seq h0.
    and_then _ (spelled_at number_of_32 seq.1) (λ x. Has32 x.0 × IsText x.1) _ (fits_32 seq.1 h0.1) (λ n h1.
    (h0.0, h1.0)))

-- ---- an entry by its first word

operator_tests : (a b : Bool) (rest : List ℕ) → IsText rest → IfSome (cond a (replied_at rest) (cond b (learned_at rest) (None))) IsEntry
operator_tests true b rest text = replied_fits rest text
operator_tests false true rest text = learned_fits rest text
operator_tests false false rest text = tt

operator_fits : (word rest : List ℕ) → IsText rest → IfSome (operator_entry word rest) IsEntry
unfolding operator_entry
operator_fits word rest text = operator_tests (bytes_eq word (codes "replied")) (bytes_eq word (codes "learned")) rest text

worker_tests : (a b c d e : Bool) (rest : List ℕ) (last : Option Entry) → IsText rest → IfSome last IsEntry → IfSome (cond a (claimed_at rest) (cond b (copied_at rest) (cond c (looked_at rest) (cond d (faulted_at rest) (cond e (answered_at rest) (last)))))) IsEntry
worker_tests true b c d e rest last text more = claimed_fits rest text
worker_tests false true c d e rest last text more = copied_fits rest text
worker_tests false false true d e rest last text more = looked_fits rest text
worker_tests false false false true e rest last text more = faulted_fits rest text
worker_tests false false false false true rest last text more = answered_fits rest text
worker_tests false false false false false rest last text more = more

worker_fits : (word rest : List ℕ) → IsText rest → IfSome (worker_entry word rest) IsEntry
unfolding worker_entry
worker_fits word rest text = worker_tests (bytes_eq word (codes "claimed")) (bytes_eq word (codes "copied")) (bytes_eq word (codes "looked")) (bytes_eq word (codes "faulted")) (bytes_eq word (codes "answered")) rest (operator_entry word rest) text (operator_fits word rest text)

entry_tests : (a b c d e f : Bool) (rest : List ℕ) (last : Option Entry) → IsText rest → IfSome last IsEntry → IfSome (cond a (stored_at rest) (cond b (entered_at rest) (cond c (used_at rest) (cond d (denied_at rest) (cond e (ended_at rest) (cond f (reloaded_at rest) (last))))))) IsEntry
entry_tests true b c d e f rest last text more = stored_fits rest text
entry_tests false true c d e f rest last text more = entered_fits rest text
entry_tests false false true d e f rest last text more = used_fits rest text
entry_tests false false false true e f rest last text more = denied_fits rest text
entry_tests false false false false true f rest last text more = ended_fits rest text
entry_tests false false false false false true rest last text more = reloaded_fits rest text
entry_tests false false false false false false rest last text more = more

entry_fits : (word rest : List ℕ) → IsText rest → IfSome (entry_by word rest) IsEntry
unfolding entry_by
entry_fits word rest text = entry_tests (bytes_eq word (codes "stored")) (bytes_eq word (codes "entered")) (bytes_eq word (codes "used")) (bytes_eq word (codes "denied")) (bytes_eq word (codes "ended")) (bytes_eq word (codes "reloaded")) rest (worker_entry word rest) text (worker_fits word rest text)

pub seems_fit : (line : List ℕ) → IsText line → IfSome (entry_at line) IsEntry
seems_fit line text = entry_fits (split_word line).0 (split_word line).1 (split_text line text)
