-- Runs in which the operator answers: the expected entries were derived from the rules.
use Rattle.std.proofs.Common.{◌≡◌, true, List, [], ◌∷◌, ◌++◌, Some, None, refl, codes}
use Rattle.std.specs.Prelude.{Option, map, reverse}
use Rattle.st_base.specs.declared.errno.Errno.TheVariants.{EPERM}
use Rattle.st_calls.specs.declared.call.SysCall.TheVariants.{Open}
use Rattle.st_calls.specs.declared.judged.Verdict.TheVariants.{Permit, Unmatched}
use Rattle.st_calls.specs.declared.rule.Rule.TheVariants.{FsRead}
use Rattle.st_filter.specs.declared.set.Reply.{Reply}
use Rattle.st_names.specs.declared.seen.SeenText.TheVariants.{Dir, File}
use Rattle.st_names.specs.declared.seen.SeenText.TheVariants as seen
use Rattle.st_trace.specs.declared.entry.Cause.TheVariants.{NoFilter}
use Rattle.st_trace.specs.declared.entry.Entry.TheVariants.{Stored, Entered, Claimed, Copied, Looked, Answered, Denied, Ended, Learned, Replied}
use Rattle.st_trace.specs.declared.entry.Way.TheVariants.{Held}
use Rattle.st_trace.specs.declared.entry.Entry.{Entry}
use Rattle.st_law.specs.declared.input.Input.{Input}
use Rattle.st_law.specs.declared.input.Mode.TheVariants.{Learn, AskText}
use Rattle.st_law.specs.Machine.{state_at}
use Rattle.st_law.specs.Sessions.{SessionFilter}
use Rattle.st_law.proofs.Writing.{name, link, thread_in, regs, reply, rest, trace}
use Rattle.st_law.proofs.Scripts.{etc_files, tmp_dir, reads_only, passwd_only, cat_input, asking_input, opens, user, cat_copies, opened}
use Rattle.st_law.proofs.Scripts.{passwd_copied}

-- ---- learning

abbrev pub learner : Input
learner = asking_input Learn etc_files (thread_in 1 (opens "/etc/passwd") ∷ []) []

-- the filters of the session after a run
abbrev session_after_run : Input → Option (List Entry) → List SessionFilter
session_after_run i None = []
session_after_run i (Some entries) = (state_at i (reverse entries)).session

learnt : trace learner (rest ∷ []) ≡ Some (
    passwd_copied ++
    Answered 1 (cat_copies 1 user "/etc/passwd") Unmatched true ∷
    Learned 1 1 ∷
    opened 1 "/etc/passwd" user 3 ∷
    Ended 1 ∷ [])
learnt = refl

-- the learnt filter is the one for this name
the_learnt_filter : session_after_run learner (trace learner (rest ∷ []))
    ≡ record { policy = codes "/bin/cat"; rule = FsRead; filter = passwd_only } ∷ []
the_learnt_filter = refl

-- the same run with the learnt filters as its policy
enforced_with_the_learnt_filter : trace
    (cat_input (map (λ kept. kept.filter) (session_after_run learner (trace learner (rest ∷ [])))) etc_files
    (thread_in 1 (opens "/etc/passwd") ∷ []))
    (rest ∷ [])
    ≡ Some (
    passwd_copied ++
    Answered 1 (cat_copies 1 user "/etc/passwd") (Permit 1 user) true ∷
    opened 1 "/etc/passwd" user 3 ∷
    Ended 1 ∷ [])
enforced_with_the_learnt_filter = refl

abbrev pub link_learner : Input
link_learner =
    asking_input Learn (etc_files ++ tmp_dir ∷ link "/tmp/l" 0 0 "/etc/passwd" ∷ []) (thread_in 1 (opens "/tmp/l") ∷ []) []

-- a name is learnt as it is resolved
learnt_name_is_resolved : trace link_learner (rest ∷ []) ≡ Some (
    Stored 1 0 118951005484079 ∷
    Entered 1 Open (regs 0 0 0) (Held 1) ∷
    Claimed 1 1 ∷
    Copied 1 0 0 118951005484079 ∷
    Looked 1 0 (name "/tmp") Dir ∷
    Looked 1 0 (name "/tmp/l") (seen.Link (codes "/etc/passwd")) ∷
    Looked 1 0 (name "/etc") Dir ∷
    Looked 1 0 (name "/etc/passwd") File ∷
    Answered 1 (cat_copies 1 user "/etc/passwd") Unmatched true ∷
    Learned 1 1 ∷
    opened 1 "/etc/passwd" user 3 ∷
    Ended 1 ∷ [])
learnt_name_is_resolved = refl

the_filter_learnt_through_a_link : session_after_run link_learner (trace link_learner (rest ∷ []))
    ≡ record { policy = codes "/bin/cat"; rule = FsRead; filter = passwd_only } ∷ []
the_filter_learnt_through_a_link = refl

-- ---- replies

abbrev motd_reply : Reply
motd_reply = reply "/bin/cat" (reads_only "/etc/motd")

abbrev passwd_reply : Reply
passwd_reply = reply "/bin/cat" passwd_only

abbrev asker : List Reply → Input
asker replies = asking_input AskText etc_files (thread_in 1 (opens "/etc/passwd") ∷ []) replies

-- the first reply doesn't decide, so the question stays
operators_replies : trace (asker (motd_reply ∷ passwd_reply ∷ [])) (rest ∷ []) ≡ Some (
    passwd_copied ++
    Answered 1 (cat_copies 1 user "/etc/passwd") Unmatched true ∷
    Replied 1 1 1 ∷
    Replied 1 2 2 ∷
    opened 1 "/etc/passwd" user 3 ∷
    Ended 1 ∷ [])
operators_replies = refl

no_reply_is_left : trace (asker (motd_reply ∷ [])) (rest ∷ []) ≡ Some (
    passwd_copied ++
    Answered 1 (cat_copies 1 user "/etc/passwd") Unmatched true ∷
    Replied 1 1 1 ∷
    Denied 1 (Some 1) EPERM NoFilter ∷
    Ended 1 ∷ [])
no_reply_is_left = refl

-- the second reply isn't needed
replies_in_the_other_order : trace (asker (passwd_reply ∷ motd_reply ∷ [])) (rest ∷ []) ≡ Some (
    passwd_copied ++
    Answered 1 (cat_copies 1 user "/etc/passwd") Unmatched true ∷
    Replied 1 1 1 ∷
    opened 1 "/etc/passwd" user 3 ∷
    Ended 1 ∷ [])
replies_in_the_other_order = refl
