-- The state of a thread is read off the entries.
use Rattle.std.proofs.Common.{◌≡◌, ◌≢◌, ◌⊎◌, ℕ, Bool, true, false, cond, not, ◌&&◌, ◌==◌, List, [], ◌∷◌, ◌++◌, drop, fold, Option, Some, None, refl, ap, sym, ◌∙◌, inl, inr}
use Rattle.std.proofs.lemmas.Bool.{eq-eqb, ne_eqb, eqb-true, eqb-false, and_from}
use Rattle.st_calls.specs.declared.rule.FastAnswer.{FastAnswer}
use Rattle.st_calls.specs.declared.rule.FastAnswer.TheVariants.{Ask}
use Rattle.st_effects.specs.Changes.{owner_after_change, dying_after_change, seq_after_change}
use Rattle.st_trace.specs.declared.entry.Change.{Change}
use Rattle.st_trace.specs.declared.entry.Change.TheVariants.{Forked, Execed, Dying, Renewed}
use Rattle.st_trace.specs.declared.entry.Entry.{Entry}
use Rattle.st_trace.specs.declared.entry.Entry.TheVariants.{Stored, Entered, Used, Denied, Ended, Reloaded}
use Rattle.st_trace.specs.declared.entry.Way.TheVariants.{Held}
use Rattle.st_trace.specs.declared.start.Instr.{Instr}
use Rattle.st_trace.specs.declared.start.Instr.TheVariants.{Store, Call, Fork, Reload}
use Rattle.st_law.specs.declared.input.Input.{Input}
use Rattle.st_law.specs.Bars.{GivesAnswer, answer_at}
use Rattle.st_law.specs.Entries.{Forks, GivesLeft, GivesNumber, GivesPending, IsChild, IsEnd, IsFork, Kills, LeavesDying, Renews, RenewsAs, Starts, StartsIn, TouchesNumber}
use Rattle.st_law.specs.History.{answer_kept_at}
use Rattle.st_law.specs.Splits.{IsLastGiven, IsLastOf, IsTrueAfter, NoneIn, NoneTouches, GivesSome}
use Rattle.st_law.specs.Threads.{History, PendingCall, body_of, changes_of, child_of_next, has_ended_at, is_dying_at, left_at, number_at, owner_at, pending_at}
use Rattle.st_law.proofs.Splitting.{when_same, when_other, when_either, same_part, other_part, same_by, either_true, or_left_true, or_right_true, none_in, fold_apart, fold_kept, flag_up, flag_stays, flag_only, kept_later, last_given, last_of, true_after}

-- ---- its process

fork_step : (t p : ℕ) (c : Change) → (IsFork t c → ⊥) → owner_after_change t p c ≡ p
fork_step t p (Forked pid space tid) none = other_part tid t p 0 pid p (λ same free. none same)
fork_step t p _ none = refl

once_step : (t p : ℕ) (c : Change) → p ≢ 0 → owner_after_change t p c ≡ p
once_step t p (Forked pid space tid) there = other_part tid t p 0 pid p (λ same free. there free)
once_step t p _ there = refl

once : (t p : ℕ) (changes : List Change) → p ≢ 0 → fold (owner_after_change t) p changes ≡ p
once t p [] there = refl
once t p (c ∷ changes) there = ap (λ n. fold (owner_after_change t) n changes) (once_step t p c there) ∙ once t p changes there

not_started_step : (i : Input) (t : ℕ) (e : Entry) (h : History) → (Forks t e h → ⊥) → owner_at i (e ∷ h) t ≡ owner_at i h t
not_started_step i t (Used u seq call regs args ids result changes) h none =
    fold_kept (λ n. n) (owner_after_change t) (IsFork t) (fork_step t) (owner_at i h t) changes (none_in (IsFork t) changes none)
not_started_step i t (Reloaded u n done changes) h none =
    fold_kept (λ n. n) (owner_after_change t) (IsFork t) (fork_step t) (owner_at i h t) changes (none_in (IsFork t) changes none)
not_started_step i t _ h none = refl

pub not_started : (i : Input) (t : ℕ) (later earlier : History) → NoneTouches (Forks t) later earlier → owner_at i (later ++ earlier) t ≡ owner_at i earlier t
not_started i t = kept_later (λ h. owner_at i h t) (Forks t) (not_started_step i t)

pub started_once : (i : Input) (t : ℕ) (later earlier : History) → owner_at i earlier t ≢ 0 → owner_at i (later ++ earlier) t ≡ owner_at i earlier t
started_once i t [] earlier there = refl
started_once i t (e ∷ later) earlier there =
    ap (λ n. fold (owner_after_change t) n (changes_of e)) (started_once i t later earlier there) ∙ once t (owner_at i earlier t) (changes_of e) there

started_in : (t p pid : ℕ) (changes : List Change) → p ≡ 0 → StartsIn t pid changes → pid ≢ 0 → fold (owner_after_change t) p changes ≡ pid
started_in t p pid changes free x there =
    let first : fold (owner_after_change t) p x.before ≡ p = fold_kept (λ n. n) (owner_after_change t) (IsFork t) (fork_step t) p x.before x.none_before in
    let so_far : ℕ = fold (owner_after_change t) p x.before in
    let now : owner_after_change t so_far (Forked pid x.space t) ≡ pid = same_part t t so_far 0 pid so_far refl (first ∙ free) in
    ap (fold (owner_after_change t) p) x.split ∙ fold_apart (owner_after_change t) p x.before (Forked pid x.space t ∷ x.after)
    ∙ ap (λ n. fold (owner_after_change t) n x.after) now ∙ once t pid x.after there

started_now : (i : Input) (t pid : ℕ) (e : Entry) (h : History) → owner_at i h t ≡ 0 → Starts t pid e → pid ≢ 0 → owner_at i (e ∷ h) t ≡ pid
started_now i t pid (Used u seq call regs args ids result changes) h free x there = started_in t (owner_at i h t) pid changes free x there
started_now i t pid (Reloaded u n done changes) h free x there = started_in t (owner_at i h t) pid changes free x there
started_now i t pid _ h free x there = absurd x

pub started : (i : Input) (t pid : ℕ) (later earlier : History) (e : Entry) → owner_at i earlier t ≡ 0 → Starts t pid e → pid ≢ 0 → owner_at i (later ++ e ∷ earlier) t ≡ pid
started i t pid later earlier e free x there =
    let now : owner_at i (e ∷ earlier) t ≡ pid = started_now i t pid e earlier free x there in
    started_once i t later (e ∷ earlier) (λ gone. there (sym now ∙ gone)) ∙ now

-- ---- its instructions

left_kept : (u t : ℕ) (l : List Instr) → ((first : Instr) (v : List Instr) → u ≡ t → l ≡ first ∷ v → ⊥) → cond (u == t) (drop 1 l) l ≡ l
left_kept u t [] none = when_either (λ (rest : List Instr). rest) (u == t) [] [] refl
left_kept u t (first ∷ l) none = when_other u t l (first ∷ l) (λ same. none first l same refl)

left_taken : (u t : ℕ) (l : List Instr) (first : Instr) (v : List Instr) → u ≡ t → l ≡ first ∷ v → cond (u == t) (drop 1 l) l ≡ v
left_taken u t l first v same split = when_same u t (drop 1 l) l same ∙ ap (drop 1) split

left_step : (i : Input) (t : ℕ) (e : Entry) (h : History) → (GivesSome (GivesLeft i t) e h → ⊥) → left_at i (e ∷ h) t ≡ left_at i h t
left_step i t (Stored u place word) h none = left_kept u t (left_at i h t) (λ first v same split. none (v, (first, same, split)))
left_step i t (Entered u call regs way) h none = left_kept u t (left_at i h t) (λ first v same split. none (v, (first, same, split)))
left_step i t (Reloaded u n done changes) h none = left_kept u t (left_at i h t) (λ first v same split. none (v, (first, same, split)))
left_step i t _ h none = refl

left_give : (i : Input) (t : ℕ) (e : Entry) (h : History) (v : List Instr) → GivesLeft i t e h v → left_at i (e ∷ h) t ≡ v
left_give i t (Stored u place word) h v x = left_taken u t (left_at i h t) x.0 v x.1 x.2
left_give i t (Entered u call regs way) h v x = left_taken u t (left_at i h t) x.0 v x.1 x.2
left_give i t (Reloaded u n done changes) h v x = left_taken u t (left_at i h t) x.0 v x.1 x.2
left_give i t _ h v x = absurd x

pub left : (i : Input) (t : ℕ) → IsLastOf (λ h. left_at i h t) (body_of i t) (GivesLeft i t)
left i t = last_of (λ h. left_at i h t) (body_of i t) (GivesLeft i t) refl (left_step i t) (left_give i t)

-- ---- its pending call

child_there : (l : List Instr) → IsChild l (child_of_next l)
child_there [] = refl
child_there (Store place word ∷ l) = refl
child_there (Call call regs ∷ l) = refl
child_there (Fork child ∷ l) = refl
child_there (Reload n ∷ l) = refl

child_is : (l : List Instr) (c : ℕ) → IsChild l c → child_of_next l ≡ c
child_is [] c x = sym x
child_is (Store place word ∷ l) c x = sym x
child_is (Call call regs ∷ l) c x = sym x
child_is (Fork child ∷ l) c x = sym x
child_is (Reload n ∷ l) c x = sym x

pending_step : (i : Input) (t : ℕ) (e : Entry) (h : History) → (GivesSome (GivesPending i t) e h → ⊥) → pending_at i (e ∷ h) t ≡ pending_at i h t
pending_step i t (Entered u call regs way) h none =
    let child = child_of_next (left_at i h t) in
    let entered : Option PendingCall = Some (record { call = call; regs = regs; way = way; child = child }) in
    when_other u t entered (pending_at i h t) (λ same. none (entered, (child, same, child_there (left_at i h t), refl)))
pending_step i t (Used u seq call regs args ids result changes) h none = when_other u t None (pending_at i h t) (λ same. none (None, (same, refl)))
pending_step i t (Denied u seq errno cause) h none = when_other u t None (pending_at i h t) (λ same. none (None, (same, refl)))
pending_step i t _ h none = refl

pending_give : (i : Input) (t : ℕ) (e : Entry) (h : History) (v : Option PendingCall) → GivesPending i t e h v → pending_at i (e ∷ h) t ≡ v
pending_give i t (Entered u call regs way) h v x =
    when_same u t (Some (record { call = call; regs = regs; way = way; child = child_of_next (left_at i h t) })) (pending_at i h t) x.1
    ∙ ap (λ c. Some (record { call = call; regs = regs; way = way; child = c })) (child_is (left_at i h t) x.0 x.2) ∙ sym x.3
pending_give i t (Used u seq call regs args ids result changes) h v x = when_same u t None (pending_at i h t) x.0 ∙ sym x.1
pending_give i t (Denied u seq errno cause) h v x = when_same u t None (pending_at i h t) x.0 ∙ sym x.1
pending_give i t _ h v x = absurd x

pub pending : (i : Input) (t : ℕ) → IsLastOf (λ h. pending_at i h t) None (GivesPending i t)
pending i t = last_of (λ h. pending_at i h t) None (GivesPending i t) refl (pending_step i t) (pending_give i t)

-- ---- the kernel's own answer to its call

answer_step : (i : Input) (t : ℕ) (e : Entry) (h : History) → (GivesSome (GivesAnswer i t) e h → ⊥) → answer_kept_at i (e ∷ h) t ≡ answer_kept_at i h t
answer_step i t (Entered u call regs way) h none = when_other u t (answer_at i h t call regs) (answer_kept_at i h t) (λ same. none (answer_at i h t call regs, (same, refl)))
answer_step i t _ h none = refl

answer_give : (i : Input) (t : ℕ) (e : Entry) (h : History) (v : FastAnswer) → GivesAnswer i t e h v → answer_kept_at i (e ∷ h) t ≡ v
answer_give i t (Entered u call regs way) h v x = when_same u t (answer_at i h t call regs) (answer_kept_at i h t) x.0 ∙ sym x.1
answer_give i t _ h v x = absurd x

pub answer : (i : Input) (t : ℕ) → IsLastOf (λ h. answer_kept_at i h t) Ask (GivesAnswer i t)
answer i t = last_of (λ h. answer_kept_at i h t) Ask (GivesAnswer i t) refl (answer_step i t) (answer_give i t)

-- ---- its number

number_change : (q : ℕ) (c : Change) → (Renews q c → ⊥) → seq_after_change q c ≡ q
number_change q (Renewed old new) none = when_other old q new q none
number_change q _ none = refl

number_kept : (q : ℕ) (changes : List Change) → NoneIn (Renews q) changes → fold seq_after_change q changes ≡ q
number_kept q [] none = refl
number_kept q (c ∷ changes) none = ap (λ n. fold seq_after_change n changes) (number_change q c none.0) ∙ number_kept q changes none.1

number_renewed : (q p : ℕ) (changes : List Change) → RenewsAs q p changes → fold seq_after_change q changes ≡ p
number_renewed q p changes x =
    let first : fold seq_after_change q x.before ≡ q = number_kept q x.before x.none_before in
    let now : seq_after_change q (Renewed q p) ≡ p = when_same q q p q refl in
    ap (fold seq_after_change q) x.split ∙ fold_apart seq_after_change q x.before (Renewed q p ∷ x.after)
    ∙ ap (λ n. fold seq_after_change (seq_after_change n (Renewed q p)) x.after) first
    ∙ ap (λ n. fold seq_after_change n x.after) now ∙ number_kept p x.after x.none_after

number_step : (t : ℕ) (e : Entry) (h : History) → (TouchesNumber t e h → ⊥) → number_at (e ∷ h) t ≡ number_at h t
number_step t (Entered u call regs (Held q)) h none = when_other u t q (number_at h t) none
number_step t (Used u seq call regs args ids result changes) h none = number_kept (number_at h t) changes (none_in (Renews (number_at h t)) changes none)
number_step t (Reloaded u n done changes) h none = number_kept (number_at h t) changes (none_in (Renews (number_at h t)) changes none)
number_step t _ h none = refl

number_give : (t : ℕ) (e : Entry) (h : History) (v : ℕ) → GivesNumber t e h v → number_at (e ∷ h) t ≡ v
number_give t (Entered u call regs (Held q)) h v x = when_same u t q (number_at h t) x.0 ∙ sym x.1
number_give t (Used u seq call regs args ids result changes) h v x = number_renewed (number_at h t) v changes x
number_give t (Reloaded u n done changes) h v x = number_renewed (number_at h t) v changes x
number_give t _ h v x = absurd x

pub number : (t : ℕ) → IsLastGiven (λ h. number_at h t) 0 (TouchesNumber t) (GivesNumber t)
number t = last_given (λ h. number_at h t) 0 (TouchesNumber t) (GivesNumber t) refl (number_step t) (number_give t)

-- ---- its end

abbrev falls : Input → ℕ → ℕ → History → Bool → Change → Bool
falls i t u h = dying_after_change t (owner_at i h t) u (owner_at i h u)

kill_up : (i : Input) (t u : ℕ) (h : History) (b : Bool) (c : Change) → Kills i t u h c → falls i t u h b c ≡ true
kill_up i t u h b (Dying pid) x = or_right_true b (pid == owner_at i h t) (eq-eqb pid (owner_at i h t) x)
kill_up i t u h b (Execed binary space) x =
    or_right_true b (owner_at i h u == owner_at i h t && not (u == t))
    (and_from (owner_at i h u == owner_at i h t) (not (u == t)) (eq-eqb (owner_at i h u) (owner_at i h t) x.0) (ap not (ne_eqb u t x.1)))
kill_up i t u h b _ x = absurd x

kill_stays : (i : Input) (t u : ℕ) (h : History) (b : Bool) (c : Change) → b ≡ true → falls i t u h b c ≡ true
kill_stays i t u h b (Dying pid) x = or_left_true b (pid == owner_at i h t) x
kill_stays i t u h b (Execed binary space) x = or_left_true b (owner_at i h u == owner_at i h t && not (u == t)) x
kill_stays i t u h b _ x = x

and_not : (a b : Bool) → (a && not b) ≡ true → (a ≡ true) × (b ≡ false)
and_not true true e = cc
and_not true false e = (refl, refl)
and_not false b e = cc

killed_by : (m p u t : ℕ) (b : Bool) → (b ≡ true) ⊎ ((m == p && not (u == t)) ≡ true) → ((m ≡ p) × (u ≢ t)) ⊎ (b ≡ true)
killed_by m p u t b (inl x) = inr x
killed_by m p u t b (inr x) = let both : ((m == p) ≡ true) × ((u == t) ≡ false) = and_not (m == p) (u == t) x in inl (eqb-true m p both.0, eqb-false u t both.1)

swapped : (m p : ℕ) (b : Bool) → (b ≡ true) ⊎ ((m == p) ≡ true) → (m ≡ p) ⊎ (b ≡ true)
swapped m p b (inl x) = inr x
swapped m p b (inr x) = inl (eqb-true m p x)

kill_only : (i : Input) (t u : ℕ) (h : History) (b : Bool) (c : Change) → falls i t u h b c ≡ true → Kills i t u h c ⊎ (b ≡ true)
kill_only i t u h b (Dying pid) x = swapped pid (owner_at i h t) b (either_true b (pid == owner_at i h t) x)
kill_only i t u h b (Execed binary space) x =
    killed_by (owner_at i h u) (owner_at i h t) u t b (either_true b (owner_at i h u == owner_at i h t && not (u == t)) x)
kill_only i t u h b _ x = inr x

pub dying_up : (i : Input) (t : ℕ) (e : Entry) (h : History) → LeavesDying i t e h → is_dying_at i (e ∷ h) t ≡ true
dying_up i t (Used u seq call regs args ids result changes) h x =
    flag_up (falls i t u h) (Kills i t u h) (kill_up i t u h) (kill_stays i t u h) (kill_only i t u h) (is_dying_at i h t) changes x
dying_up i t (Reloaded u n done changes) h x =
    flag_up (falls i t u h) (Kills i t u h) (kill_up i t u h) (kill_stays i t u h) (kill_only i t u h) (is_dying_at i h t) changes x
dying_up i t _ h x = absurd x

pub dying_stays : (i : Input) (t : ℕ) (e : Entry) (h : History) → is_dying_at i h t ≡ true → is_dying_at i (e ∷ h) t ≡ true
dying_stays i t (Used u seq call regs args ids result changes) h x =
    flag_stays (falls i t u h) (Kills i t u h) (kill_up i t u h) (kill_stays i t u h) (kill_only i t u h) (is_dying_at i h t) changes x
dying_stays i t (Reloaded u n done changes) h x =
    flag_stays (falls i t u h) (Kills i t u h) (kill_up i t u h) (kill_stays i t u h) (kill_only i t u h) (is_dying_at i h t) changes x
dying_stays i t _ h x = x

pub dying_only : (i : Input) (t : ℕ) (e : Entry) (h : History) → is_dying_at i (e ∷ h) t ≡ true → LeavesDying i t e h ⊎ (is_dying_at i h t ≡ true)
dying_only i t (Used u seq call regs args ids result changes) h x =
    flag_only (falls i t u h) (Kills i t u h) (kill_up i t u h) (kill_stays i t u h) (kill_only i t u h) (is_dying_at i h t) changes x
dying_only i t (Reloaded u n done changes) h x =
    flag_only (falls i t u h) (Kills i t u h) (kill_up i t u h) (kill_stays i t u h) (kill_only i t u h) (is_dying_at i h t) changes x
dying_only i t _ h x = inr x

pub dying : (i : Input) (t : ℕ) → IsTrueAfter (λ h. is_dying_at i h t) (LeavesDying i t)
dying i t = true_after (λ h. is_dying_at i h t) (LeavesDying i t) refl (dying_up i t) (dying_stays i t) (dying_only i t)

ended_up : (t : ℕ) (e : Entry) (h : History) → IsEnd t e h → has_ended_at (e ∷ h) t ≡ true
ended_up t (Ended u) h x = or_left_true (u == t) (has_ended_at h t) (eq-eqb u t x)
ended_up t _ h x = absurd x

ended_stays : (t : ℕ) (e : Entry) (h : History) → has_ended_at h t ≡ true → has_ended_at (e ∷ h) t ≡ true
ended_stays t (Ended u) h x = or_right_true (u == t) (has_ended_at h t) x
ended_stays t _ h x = x

ended_only : (t : ℕ) (e : Entry) (h : History) → has_ended_at (e ∷ h) t ≡ true → IsEnd t e h ⊎ (has_ended_at h t ≡ true)
ended_only t (Ended u) h x = same_by u t (has_ended_at h t) (either_true (u == t) (has_ended_at h t) x)
ended_only t _ h x = inr x

pub ended : (t : ℕ) → IsTrueAfter (λ h. has_ended_at h t) (IsEnd t)
ended t = true_after (λ h. has_ended_at h t) (IsEnd t) refl (ended_up t) (ended_stays t) (ended_only t)
