-- The filters that a session adds are read off the entries.
use Rattle.std.proofs.Common.{◌≡◌, ◌⊎◌, ℕ, Bool, true, false, cond, ◌==◌, List, [], ◌∷◌, ◌++◌, Option, Some, None, option_map, refl, ap, sym, ◌∙◌, inr, append-nil}
use Rattle.std.proofs.lemmas.Bool.{eq-eqb}
use Rattle.std.proofs.lemmas.Option.{same_Some}
use Rattle.st_base.specs.Numbered.{item_at_number}
use Rattle.st_calls.specs.declared.judged.Snapshot.{Snapshot}
use Rattle.st_filter.specs.Policies.{with_binary}
use Rattle.st_filter.specs.declared.set.BinaryPolicy.{BinaryPolicy}
use Rattle.st_filter.specs.declared.set.Reply.{Reply}
use Rattle.st_trace.specs.declared.entry.Entry.{Entry}
use Rattle.st_trace.specs.declared.entry.Entry.TheVariants.{Learned, Replied, Reloaded}
use Rattle.st_law.specs.declared.input.Input.{Input}
use Rattle.st_law.specs.Entries.{GivesChanged, GivesSession, Replies}
use Rattle.st_law.specs.History.{changed_at, is_replied_at, message_at, session_at}
use Rattle.st_law.specs.Sessions.{SessionFilter, kept_for, learnt_by, learnt_filter, replied_by, with_binaries}
use Rattle.st_law.specs.Splits.{GivesSome, IsLastOf, IsTrueAfter}
use Rattle.st_law.specs.State.{snapshot_of_message}
use Rattle.st_law.specs.Threads.{History}
use Rattle.st_law.specs.Versions.{with_binary_of}
use Rattle.st_law.proofs.Splitting.{same_by, either_true, or_left_true, or_right_true, last_of, true_after}

-- nothing is learnt if there are no copies
nothing_learnt : (before : List SessionFilter) (o : Option Snapshot) → ((s : Snapshot) → o ≡ Some s → ⊥) → before ++ learnt_by o ≡ before
nothing_learnt before None none = append-nil before
nothing_learnt before (Some s) none = absurd (none s refl)

nothing_given : (before : List SessionFilter) (r : Option Reply) (o : Option Snapshot) → ((s : Snapshot) (reply : Reply) → o ≡ Some s → r ≡ Some reply → ⊥) → before ++ replied_by r o ≡ before
nothing_given before None o none = append-nil before
nothing_given before (Some reply) None none = append-nil before
nothing_given before (Some reply) (Some s) none = absurd (none s reply refl refl)

session_step : (i : Input) (e : Entry) (h : History) → (GivesSome (GivesSession i) e h → ⊥) → session_at i (e ∷ h) ≡ session_at i h
session_step i (Learned q number) h none = nothing_learnt (session_at i h) (snapshot_of_message q (message_at i h q))
    (λ s there. none (session_at i h ++ kept_for (learnt_filter s) s ∷ [], (s, there, refl)))
session_step i (Replied q n number) h none = nothing_given (session_at i h) (item_at_number i.replies n) (snapshot_of_message q (message_at i h q))
    (λ s reply there given. none (session_at i h ++ kept_for reply.filter s ∷ [], (s, reply, there, given, refl)))
session_step i _ h none = refl

session_give : (i : Input) (e : Entry) (h : History) (v : List SessionFilter) → GivesSession i e h v → session_at i (e ∷ h) ≡ v
session_give i (Learned q number) h v x = ap (λ o. session_at i h ++ learnt_by o) x.1 ∙ sym x.2
session_give i (Replied q n number) h v x =
    ap (λ o. session_at i h ++ replied_by (item_at_number i.replies n) o) x.2 ∙ ap (λ r. session_at i h ++ replied_by r (Some x.0)) x.3 ∙ sym x.4
session_give i _ h v x = absurd x

pub session : (i : Input) → IsLastOf (session_at i) [] (GivesSession i)
session i = last_of (session_at i) [] (GivesSession i) refl (session_step i) (session_give i)

replied_up : (n : ℕ) (e : Entry) (h : History) → Replies n e h → is_replied_at (e ∷ h) n ≡ true
replied_up n (Replied q reply number) h x = or_left_true (reply == n) (is_replied_at h n) (eq-eqb reply n x)
replied_up n _ h x = absurd x

replied_stays : (n : ℕ) (e : Entry) (h : History) → is_replied_at h n ≡ true → is_replied_at (e ∷ h) n ≡ true
replied_stays n (Replied q reply number) h x = or_right_true (reply == n) (is_replied_at h n) x
replied_stays n _ h x = x

replied_only : (n : ℕ) (e : Entry) (h : History) → is_replied_at (e ∷ h) n ≡ true → Replies n e h ⊎ (is_replied_at h n ≡ true)
replied_only n (Replied q reply number) h x = same_by reply n (is_replied_at h n) (either_true (reply == n) (is_replied_at h n) x)
replied_only n _ h x = inr x

pub replied : (n : ℕ) → IsTrueAfter (λ h. is_replied_at h n) (Replies n)
replied n = true_after (λ h. is_replied_at h n) (Replies n) refl (replied_up n) (replied_stays n) (replied_only n)

-- ---- the policies that were changed

none_learnt : (before : List (List ℕ)) (o : Option Snapshot) → ((s : Snapshot) → o ≡ Some s → ⊥) → with_binaries before (learnt_by o) ≡ before
none_learnt before None none = refl
none_learnt before (Some s) none = absurd (none s refl)

none_given : (before : List (List ℕ)) (r : Option Reply) (o : Option Snapshot) → ((s : Snapshot) (reply : Reply) → o ≡ Some s → r ≡ Some reply → ⊥) → with_binaries before (replied_by r o) ≡ before
none_given before None o none = refl
none_given before (Some reply) None none = refl
none_given before (Some reply) (Some s) none = absurd (none s reply refl refl)

none_reloaded : (done : Bool) (before : List (List ℕ)) (o : Option BinaryPolicy) → ((binary : List ℕ) → done ≡ true → option_map (λ (block : BinaryPolicy). block.binary) o ≡ Some binary → ⊥) → cond done (with_binary_of before o) before ≡ before
none_reloaded false before o none = refl
none_reloaded true before None none = refl
none_reloaded true before (Some block) none = absurd (none block.binary refl refl)

changed_step : (i : Input) (e : Entry) (h : History) → (GivesSome (GivesChanged i) e h → ⊥) → changed_at i (e ∷ h) ≡ changed_at i h
changed_step i (Learned q number) h none = none_learnt (changed_at i h) (snapshot_of_message q (message_at i h q)) (λ s there. none (with_binary (changed_at i h) s.policy, (s, there, refl)))
changed_step i (Replied q n number) h none = none_given (changed_at i h) (item_at_number i.replies n) (snapshot_of_message q (message_at i h q))
    (λ s reply there given. none (with_binary (changed_at i h) s.policy, (s, reply, there, given, refl)))
changed_step i (Reloaded t n done changes) h none = none_reloaded done (changed_at i h) (item_at_number i.policies.blocks n) (λ binary is there. none (with_binary (changed_at i h) binary, (binary, is, there, refl)))
changed_step i _ h none = refl

reloaded_binary : (before : List (List ℕ)) (o : Option BinaryPolicy) (binary : List ℕ) → option_map (λ (block : BinaryPolicy). block.binary) o ≡ Some binary → with_binary_of before o ≡ with_binary before binary
reloaded_binary before None binary e = cc
reloaded_binary before (Some block) binary e = ap (with_binary before) (same_Some block.binary binary e)

changed_give : (i : Input) (e : Entry) (h : History) (v : List (List ℕ)) → GivesChanged i e h v → changed_at i (e ∷ h) ≡ v
changed_give i (Learned q number) h v x = ap (λ o. with_binaries (changed_at i h) (learnt_by o)) x.1 ∙ sym x.2
changed_give i (Replied q n number) h v x =
    ap (λ o. with_binaries (changed_at i h) (replied_by (item_at_number i.replies n) o)) x.2 ∙ ap (λ r. with_binaries (changed_at i h) (replied_by r (Some x.0))) x.3 ∙ sym x.4
changed_give i (Reloaded t n done changes) h v x =
    ap (λ b. cond b (with_binary_of (changed_at i h) (item_at_number i.policies.blocks n)) (changed_at i h)) x.1 ∙ reloaded_binary (changed_at i h) (item_at_number i.policies.blocks n) x.0 x.2 ∙ sym x.3
changed_give i _ h v x = absurd x

pub changed : (i : Input) → IsLastOf (changed_at i) [] (GivesChanged i)
changed i = last_of (changed_at i) [] (GivesChanged i) refl (changed_step i) (changed_give i)
