-- What the operator has added to a run, and how it represents the state of the law's machine.
use Rattle.std.specs.Prelude.{◌≡◌, ℕ, zero, suc, Bool, false, true, ◌&&◌, not, if◌then◌else◌, List, [], ◌∷◌, length, slice_get, Option, Some, None, is_some}
use Rattle.std.specs.List.{position}
use Rattle.std.specs.Str.{bytes_eq}
use Rattle.st_calls.specs.declared.judged.Snapshot.{Snapshot}
use Rattle.st_calls.specs.declared.rule.Rule.{Rule}
use Rattle.st_filter.specs.Policies.{is_for}
use Rattle.st_filter.specs.declared.set.Reply.{Reply}
use Rattle.st_law.specs.Sessions.{SessionFilter}
use Rattle.st_law.specs.Machine.{question_entry, state_after}
use Rattle.st_law.specs.State.{State, snapshot_in}
use Rattle.st_law.specs.declared.input.Input.{Input}
use Rattle.st_law.specs.declared.input.Mode.{Mode}
use Rattle.st_law.specs.declared.input.Mode.TheVariants.{Enforce, Learn, AskText}
use Rattle.st_compile.specs.Places.{PolicyPlaces, policy_places}
use Rattle.st_trace.specs.declared.entry.Change.{Change}
use Rattle.st_trace.specs.declared.entry.Entry.{Entry}
use Rattle.st_trace.specs.declared.entry.Entry.TheVariants.{Reloaded}
use Rattle.st_learn.specs.Answers.{Answers, AreAnswersIn}
use Rattle.st_learn.specs.Sessions.{KeepsVersions, version_of}

-- the filters of the session, the binaries whose policies were changed, the reloads of each policy, the script's replies, and for each policy
-- the indices of its replies that were not given yet
pub record Added : Type 0 where
  pub filters : List SessionFilter
  pub changed : List (List ℕ)
  pub reloads : List PolicyPlaces
  pub replies : List Reply
  pub left : List PolicyPlaces

-- ---- the next reply

-- whether an optional reply is for a rule, of whatever policy
abbrev pub is_for_rule : Rule → Option Reply → Bool
is_for_rule rule None = false
is_for_rule rule (Some reply) = is_for rule reply.filter.name

-- where, among the replies left of a policy, the next reply for a rule is, if there is one
abbrev pub next_reply_left : Added → List ℕ → Rule → Option ℕ
next_reply_left added policy rule = position (λ place. is_for_rule rule (slice_get added.replies place)) (policy_places added.left policy)

-- whether the operator would answer a call with these copies that no filter decides, by this mode
abbrev pub operator_answers : Added → Snapshot → Mode → Bool
operator_answers added s Enforce = false
operator_answers added s Learn = true
operator_answers added s AskText = is_some (next_reply_left added s.policy s.rule)

-- the same by the mode of the input
abbrev pub answers : Input → Added → Snapshot → Bool
answers i added s = operator_answers added s i.options.mode

-- ---- which replies are left

-- the numbers of a kind among so many from this one on, in order
abbrev pub places_among : (ℕ → Bool) → ℕ → ℕ → List ℕ
places_among is n zero = []
places_among is n (suc count) = if is n then n ∷ places_among is (suc n) count else places_among is (suc n) count

-- whether an optional reply is for a policy, of whatever rule
abbrev pub is_reply_of : List ℕ → Option Reply → Bool
is_reply_of policy None = false
is_reply_of policy (Some reply) = bytes_eq reply.binary policy

-- whether the reply at an index is for a policy and was not given yet; the reply at index n has number n + 1
abbrev pub is_left : List Reply → (ℕ → Bool) → List ℕ → ℕ → Bool
is_left replies given policy place = is_reply_of policy (slice_get replies place) && not (given (suc place))

-- for each policy, the indices of its replies that were not given yet, among the first so many
abbrev pub AreRepliesLeft : List Reply → (ℕ → Bool) → ℕ → List PolicyPlaces → Type 0
AreRepliesLeft replies given count left = (policy : List ℕ) → policy_places left policy ≡ places_among (is_left replies given policy) 0 count

-- what was added represents the session of the state, the versions in force, and which replies it has given
pub record IsAdded (i : Input) (st : State) (added : Added) : Type 0 where
  pub session : st.session ≡ added.filters
  pub changed : st.changed ≡ added.changed
  pub versions : (binary : List ℕ) → st.versions binary ≡ version_of added.reloads binary
  pub replies : added.replies ≡ i.replies
  pub left : AreRepliesLeft i.replies st.replied (length i.replies) added.left

-- this entry answers the question of a call with these copies; what was added, and the answers, represent the state after it
abbrev pub IsAnsweredBy : Input → Mode → Snapshot → Added → Answers → Entry → Added → Answers → Type 0
IsAnsweredBy i mode s old before e new after =
    (st : State) → IsAdded i st old → AreAnswersIn i st before → snapshot_in st s.seq ≡ Some s → (question_entry i st s.seq s mode ≡ Some e) × IsAdded i (state_after i st e) new × AreAnswersIn i (state_after i st e) after

-- ---- reloads

-- what was added is as it was, but for room
pub record KeepsAdded (old new : Added) : Type 0 where
  pub filters : new.filters ≡ old.filters
  pub changed : new.changed ≡ old.changed
  pub versions : KeepsVersions old.reloads new.reloads
  pub replies : new.replies ≡ old.replies
  pub left : new.left ≡ old.left

-- what was added, and the answers, represent the state after the script's policy with this number was put in force
abbrev pub IsPutInForce : ℕ → Added → Answers → Added → Answers → Type 0
IsPutInForce version old before new after =
    (i : Input) (st : State) (t : ℕ) (changes : List Change) → IsAdded i st old → AreAnswersIn i st before → IsAdded i (state_after i st (Reloaded t version true changes)) new × AreAnswersIn i (state_after i st (Reloaded t version true changes)) after
