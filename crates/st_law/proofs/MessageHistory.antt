-- The state of a number's message and of a worker's turn is read off the entries.
use Rattle.std.proofs.Common.{◌≡◌, ◌⊎◌, ℕ, suc, ◌+◌, Bool, true, false, ◌||◌, ◌&&◌, ◌==◌, List, [], ◌∷◌, ◌++◌, length, fold, Option, Some, None, option_map, refl, ap, sym, ◌∙◌, inl, inr, arith, length-append}
use Rattle.std.proofs.lemmas.Bool.{eq-eqb, eqb-true, and_from}
use Rattle.st_base.specs.declared.errno.Errno.{Errno}
use Rattle.st_model.specs.Tree.{is_number}
use Rattle.st_names.specs.declared.seen.SeenText.{SeenText}
use Rattle.st_trace.specs.declared.entry.Change.{Change}
use Rattle.st_trace.specs.declared.entry.Change.TheVariants.{Renewed}
use Rattle.st_trace.specs.declared.entry.Entry.{Entry}
use Rattle.st_trace.specs.declared.entry.Entry.TheVariants.{Entered, Claimed, Copied, Looked, Faulted, Answered, Used, Denied, Reloaded}
use Rattle.st_trace.specs.declared.entry.Way.TheVariants.{Held}
use Rattle.st_law.specs.declared.input.Input.{Input}
use Rattle.st_law.specs.Entries.{AnswersTo, Claims, Closes, GivesFault, GivesHead, GivesHeadIn, GivesLookups, GivesTurn, GivesWords, IsRenewedHead, Posts, Renews, RenewsTo, new_numbers, numbers_so_far}
use Rattle.st_law.specs.Messages.{Head, head_after_change, head_after_changes, head_at, is_answered_at, is_claimed_at, is_closed_at, is_renewed_by, lookups_at, fault_at, posted_after_change, posted_at, renewed_head, turn_at, unless_same, words_at}
use Rattle.st_law.specs.Processes.{process_at}
use Rattle.st_law.specs.Splits.{IsLastGiven, IsLastOf, IsTrueAfter, LastGives, SomeIn, GivesSome}
use Rattle.st_law.specs.Threads.{History}
use Rattle.st_law.specs.Versions.{version_at}
use Rattle.st_law.proofs.Splitting.{when_same, when_other, same_part, other_part, either_true, or_left_true, or_right_true, same_by, none_in, fold_kept, fold_last, flag_up, flag_stays, flag_only, last_given, last_of, true_after}

-- ---- claims

claim_up : (q : ℕ) (e : Entry) (h : History) → Claims q e h → is_claimed_at (e ∷ h) q ≡ true
claim_up q (Claimed w p) h x = or_left_true (p == q) (is_claimed_at h q) (eq-eqb p q x)
claim_up q _ h x = absurd x

claim_stays : (q : ℕ) (e : Entry) (h : History) → is_claimed_at h q ≡ true → is_claimed_at (e ∷ h) q ≡ true
claim_stays q (Claimed w p) h x = or_right_true (p == q) (is_claimed_at h q) x
claim_stays q _ h x = x

claim_only : (q : ℕ) (e : Entry) (h : History) → is_claimed_at (e ∷ h) q ≡ true → Claims q e h ⊎ (is_claimed_at h q ≡ true)
claim_only q (Claimed w p) h x = same_by p q (is_claimed_at h q) (either_true (p == q) (is_claimed_at h q) x)
claim_only q _ h x = inr x

pub claimed : (q : ℕ) → IsTrueAfter (λ h. is_claimed_at h q) (Claims q)
claimed q = true_after (λ h. is_claimed_at h q) (Claims q) refl (claim_up q) (claim_stays q) (claim_only q)

-- ---- answers

answer_up : (q : ℕ) (e : Entry) (h : History) → AnswersTo q e h → is_answered_at (e ∷ h) q ≡ true
answer_up q (Answered w s verdict applied) h x = or_left_true (s.seq == q && applied) (is_answered_at h q) (and_from (s.seq == q) applied (eq-eqb s.seq q x.0) x.1)
answer_up q _ h x = absurd x

answer_stays : (q : ℕ) (e : Entry) (h : History) → is_answered_at h q ≡ true → is_answered_at (e ∷ h) q ≡ true
answer_stays q (Answered w s verdict applied) h x = or_right_true (s.seq == q && applied) (is_answered_at h q) x
answer_stays q _ h x = x

both_true : (a b : Bool) → (a && b) ≡ true → (a ≡ true) × (b ≡ true)
both_true true b e = (refl, e)
both_true false b e = cc

answer_by : (q p : ℕ) (applied b : Bool) → ((p == q && applied) ≡ true) ⊎ (b ≡ true) → ((p ≡ q) × (applied ≡ true)) ⊎ (b ≡ true)
answer_by q p applied b (inl e) = let both : ((p == q) ≡ true) × (applied ≡ true) = both_true (p == q) applied e in inl (eqb-true p q both.0, both.1)
answer_by q p applied b (inr e) = inr e

answer_only : (q : ℕ) (e : Entry) (h : History) → is_answered_at (e ∷ h) q ≡ true → AnswersTo q e h ⊎ (is_answered_at h q ≡ true)
answer_only q (Answered w s verdict applied) h x = answer_by q s.seq applied (is_answered_at h q) (either_true (s.seq == q && applied) (is_answered_at h q) x)
answer_only q _ h x = inr x

pub answered : (q : ℕ) → IsTrueAfter (λ h. is_answered_at h q) (AnswersTo q)
answered q = true_after (λ h. is_answered_at h q) (AnswersTo q) refl (answer_up q) (answer_stays q) (answer_only q)

-- ---- closed numbers

pub number_is : (q : ℕ) (o : Option ℕ) → o ≡ Some q → is_number q o ≡ true
number_is q o e = ap (is_number q) e ∙ eq-eqb q q refl

pub number_only : (q : ℕ) (o : Option ℕ) → is_number q o ≡ true → o ≡ Some q
number_only q None e = cc
number_only q (Some p) e = ap Some (eqb-true p q e)

renewal_up : (q : ℕ) (b : Bool) (c : Change) → Renews q c → is_renewed_by q b c ≡ true
renewal_up q b (Renewed old new) x = or_left_true (old == q) b (eq-eqb old q x)
renewal_up q b _ x = absurd x

renewal_stays : (q : ℕ) (b : Bool) (c : Change) → b ≡ true → is_renewed_by q b c ≡ true
renewal_stays q b (Renewed old new) x = or_right_true (old == q) b x
renewal_stays q b _ x = x

renewal_only : (q : ℕ) (b : Bool) (c : Change) → is_renewed_by q b c ≡ true → Renews q c ⊎ (b ≡ true)
renewal_only q b (Renewed old new) x = same_by old q b (either_true (old == q) b x)
renewal_only q b _ x = inr x

renewals_up : (q : ℕ) (b : Bool) (changes : List Change) → SomeIn (Renews q) changes → fold (is_renewed_by q) b changes ≡ true
renewals_up q = flag_up (is_renewed_by q) (Renews q) (renewal_up q) (renewal_stays q) (renewal_only q)

renewals_stay : (q : ℕ) (b : Bool) (changes : List Change) → b ≡ true → fold (is_renewed_by q) b changes ≡ true
renewals_stay q = flag_stays (is_renewed_by q) (Renews q) (renewal_up q) (renewal_stays q) (renewal_only q)

renewals_only : (q : ℕ) (b : Bool) (changes : List Change) → fold (is_renewed_by q) b changes ≡ true → SomeIn (Renews q) changes ⊎ (b ≡ true)
renewals_only q = flag_only (is_renewed_by q) (Renews q) (renewal_up q) (renewal_stays q) (renewal_only q)

closed_by : (q : ℕ) (o : Option ℕ) (b : Bool) (changes : List Change) → (o ≡ Some q) ⊎ SomeIn (Renews q) changes → (is_number q o || fold (is_renewed_by q) b changes) ≡ true
closed_by q o b changes (inl x) = or_left_true (is_number q o) (fold (is_renewed_by q) b changes) (number_is q o x)
closed_by q o b changes (inr x) = or_right_true (is_number q o) (fold (is_renewed_by q) b changes) (renewals_up q b changes x)

pub closed_up : (q : ℕ) (e : Entry) (h : History) → Closes q e h → is_closed_at (e ∷ h) q ≡ true
closed_up q (Used t seq call regs args ids result changes) h x = closed_by q seq (is_closed_at h q) changes x
closed_up q (Denied t seq errno cause) h x = or_left_true (is_number q seq) (is_closed_at h q) (number_is q seq x)
closed_up q (Reloaded t n done changes) h x = renewals_up q (is_closed_at h q) changes x
closed_up q _ h x = absurd x

pub closed_stays : (q : ℕ) (e : Entry) (h : History) → is_closed_at h q ≡ true → is_closed_at (e ∷ h) q ≡ true
closed_stays q (Used t seq call regs args ids result changes) h x =
    or_right_true (is_number q seq) (fold (is_renewed_by q) (is_closed_at h q) changes) (renewals_stay q (is_closed_at h q) changes x)
closed_stays q (Denied t seq errno cause) h x = or_right_true (is_number q seq) (is_closed_at h q) x
closed_stays q (Reloaded t n done changes) h x = renewals_stay q (is_closed_at h q) changes x
closed_stays q _ h x = x

used_only : (q : ℕ) (o : Option ℕ) (b : Bool) (changes : List Change) → (is_number q o ≡ true) ⊎ (fold (is_renewed_by q) b changes ≡ true) → ((o ≡ Some q) ⊎ SomeIn (Renews q) changes) ⊎ (b ≡ true)
used_only q o b changes (inl x) = inl (inl (number_only q o x))
used_only q o b changes (inr x) = sorted (renewals_only q b changes x)
  where
    sorted : SomeIn (Renews q) changes ⊎ (b ≡ true) → ((o ≡ Some q) ⊎ SomeIn (Renews q) changes) ⊎ (b ≡ true)
    sorted (inl y) = inl (inr y)
    sorted (inr y) = inr y

denied_only : (q : ℕ) (o : Option ℕ) (b : Bool) → (is_number q o ≡ true) ⊎ (b ≡ true) → (o ≡ Some q) ⊎ (b ≡ true)
denied_only q o b (inl x) = inl (number_only q o x)
denied_only q o b (inr x) = inr x

pub closed_only : (q : ℕ) (e : Entry) (h : History) → is_closed_at (e ∷ h) q ≡ true → Closes q e h ⊎ (is_closed_at h q ≡ true)
closed_only q (Used t seq call regs args ids result changes) h x =
    used_only q seq (is_closed_at h q) changes (either_true (is_number q seq) (fold (is_renewed_by q) (is_closed_at h q) changes) x)
closed_only q (Denied t seq errno cause) h x = denied_only q seq (is_closed_at h q) (either_true (is_number q seq) (is_closed_at h q) x)
closed_only q (Reloaded t n done changes) h x = renewals_only q (is_closed_at h q) changes x
closed_only q _ h x = inr x

pub closed : (q : ℕ) → IsTrueAfter (λ h. is_closed_at h q) (Closes q)
closed q = true_after (λ h. is_closed_at h q) (Closes q) refl (closed_up q) (closed_stays q) (closed_only q)

-- ---- copies, and the fault

words_step : (q j : ℕ) (e : Entry) (h : History) → (GivesSome (GivesWords q j) e h → ⊥) → words_at (e ∷ h) q j ≡ words_at h q j
words_step q j (Copied p part place word) h none = other_part p q part j (words_at h q j ++ word ∷ []) (words_at h q j) (λ x y. none (words_at h q j ++ word ∷ [], (x, y, refl)))
words_step q j _ h none = refl

words_give : (q j : ℕ) (e : Entry) (h : History) (v : List ℕ) → GivesWords q j e h v → words_at (e ∷ h) q j ≡ v
words_give q j (Copied p part place word) h v x = same_part p q part j (words_at h q j ++ word ∷ []) (words_at h q j) x.0 x.1 ∙ sym x.2
words_give q j _ h v x = absurd x

pub words : (q j : ℕ) → IsLastOf (λ h. words_at h q j) [] (GivesWords q j)
words q j = last_of (λ h. words_at h q j) [] (GivesWords q j) refl (words_step q j) (words_give q j)

lookups_step : (q j : ℕ) (e : Entry) (h : History) → (GivesSome (GivesLookups q j) e h → ⊥) → lookups_at (e ∷ h) q j ≡ lookups_at h q j
lookups_step q j (Looked p part name seen) h none = other_part p q part j (lookups_at h q j ++ seen ∷ []) (lookups_at h q j) (λ x y. none (lookups_at h q j ++ seen ∷ [], (x, y, refl)))
lookups_step q j _ h none = refl

lookups_give : (q j : ℕ) (e : Entry) (h : History) (v : List SeenText) → GivesLookups q j e h v → lookups_at (e ∷ h) q j ≡ v
lookups_give q j (Looked p part name seen) h v x = same_part p q part j (lookups_at h q j ++ seen ∷ []) (lookups_at h q j) x.0 x.1 ∙ sym x.2
lookups_give q j _ h v x = absurd x

pub lookups : (q j : ℕ) → IsLastOf (λ h. lookups_at h q j) [] (GivesLookups q j)
lookups q j = last_of (λ h. lookups_at h q j) [] (GivesLookups q j) refl (lookups_step q j) (lookups_give q j)

fault_step : (q : ℕ) (e : Entry) (h : History) → (GivesSome (GivesFault q) e h → ⊥) → fault_at (e ∷ h) q ≡ fault_at h q
fault_step q (Faulted p errno) h none = when_other p q (Some errno) (fault_at h q) (λ x. none (Some errno, (x, refl)))
fault_step q _ h none = refl

fault_give : (q : ℕ) (e : Entry) (h : History) (v : Option Errno) → GivesFault q e h v → fault_at (e ∷ h) q ≡ v
fault_give q (Faulted p errno) h v x = when_same p q (Some errno) (fault_at h q) x.0 ∙ sym x.1
fault_give q _ h v x = absurd x

pub fault : (q : ℕ) → IsLastOf (λ h. fault_at h q) None (GivesFault q)
fault q = last_of (λ h. fault_at h q) None (GivesFault q) refl (fault_step q) (fault_give q)

-- ---- turns

unless_gone : (p : ℕ) (o : Option ℕ) → o ≡ Some p → unless_same p o ≡ None
unless_gone p o e = ap (unless_same p) e ∙ when_same p p None (Some p) refl

unless_left : (p : ℕ) (o : Option ℕ) → (o ≡ Some p → ⊥) → unless_same p o ≡ o
unless_left p None differ = refl
unless_left p (Some q) differ = when_other p q None (Some q) (λ e. differ (ap Some (sym e)))

turn_step : (w : ℕ) (e : Entry) (h : History) → (GivesSome (GivesTurn w) e h → ⊥) → turn_at (e ∷ h) w ≡ turn_at h w
turn_step w (Claimed v q) h none = when_other v w (Some q) (turn_at h w) (λ x. none (Some q, (x, refl)))
turn_step w (Answered v s verdict applied) h none = when_other v w None (turn_at h w) (λ x. none (None, (x, refl)))
turn_step w (Faulted q errno) h none = unless_left q (turn_at h w) (λ x. none (None, (x, refl)))
turn_step w _ h none = refl

turn_give : (w : ℕ) (e : Entry) (h : History) (o : Option ℕ) → GivesTurn w e h o → turn_at (e ∷ h) w ≡ o
turn_give w (Claimed v q) h o x = when_same v w (Some q) (turn_at h w) x.0 ∙ sym x.1
turn_give w (Answered v s verdict applied) h o x = when_same v w None (turn_at h w) x.0 ∙ sym x.1
turn_give w (Faulted q errno) h o x = unless_gone q (turn_at h w) x.0 ∙ sym x.1
turn_give w _ h o x = absurd x

pub turn : (w : ℕ) → IsLastOf (λ h. turn_at h w) None (GivesTurn w)
turn w = last_of (λ h. turn_at h w) None (GivesTurn w) refl (turn_step w) (turn_give w)

-- ---- heads

module _ (i : Input) (q : ℕ) where
  head_change_step : (h : History) (renewed : Head → Head) (o : Option Head) (c : Change) → (RenewsTo q c → ⊥) → head_after_change (head_at i h) renewed q o c ≡ o
  head_change_step h renewed o (Renewed old new) none = when_other new q (option_map renewed (head_at i h old)) o none
  head_change_step h renewed o _ none = refl

  -- what a renewal makes of a head, by the entries up to that of the renewal
  abbrev renewed_after : History → Head → Head
  renewed_after after = renewed_head (process_at i after) (version_at i after)

  renewed_is : (after : History) (o v : Option Head) → IsRenewedHead i after o v → option_map (renewed_after after) o ≡ v
  renewed_is after None v x = sym x
  renewed_is after (Some head) v x = sym x

  head_change_gives : (h after : History) (o : Option Head) (before : List Change) (c : Change) (v : Option Head) → GivesHeadIn i q h after before c v → head_after_change (head_at i h) (renewed_after after) q o c ≡ v
  head_change_gives h after o before (Renewed old new) v x =
      when_same new q (option_map (renewed_after after) (head_at i h old)) o x.0 ∙ renewed_is after (head_at i h old) v x.1
  head_change_gives h after o before _ v x = absurd x

  -- changes that don't renew a number as this one leave its head, and the last that does gives it
  changes_step : (h after : History) (changes : List Change) → (SomeIn (RenewsTo q) changes → ⊥) → head_after_changes (head_at i h) (renewed_after after) q changes ≡ head_at i h q
  changes_step h after changes none =
      fold_kept (λ o. o) (head_after_change (head_at i h) (renewed_after after) q) (RenewsTo q) (head_change_step h (renewed_after after)) (head_at i h q) changes (none_in (RenewsTo q) changes none)

  changes_give : (h after : History) (changes : List Change) (v : Option Head) → LastGives (RenewsTo q) (GivesHeadIn i q h after) changes v → head_after_changes (head_at i h) (renewed_after after) q changes ≡ v
  changes_give h after changes v x =
      fold_last (λ o. o) (head_after_change (head_at i h) (renewed_after after) q) (RenewsTo q) (head_change_step h (renewed_after after)) (GivesHeadIn i q h after) (head_at i h q)
      (λ before c w y. head_change_gives h after (fold (head_after_change (head_at i h) (renewed_after after) q) (head_at i h q) before) before c w y) changes v x

  pub head_step : (e : Entry) (h : History) → (Posts q e h → ⊥) → head_at i (e ∷ h) q ≡ head_at i h q
  head_step (Entered t call regs (Held p)) h none = when_other p q _ (head_at i h q) none
  head_step (Used u seq call regs args ids result changes) h none = changes_step h (Used u seq call regs args ids result changes ∷ h) changes none
  head_step (Reloaded u n done changes) h none = changes_step h (Reloaded u n done changes ∷ h) changes none
  head_step _ h none = refl

  head_give : (e : Entry) (h : History) (v : Option Head) → GivesHead i q e h v → head_at i (e ∷ h) q ≡ v
  head_give (Entered t call regs (Held p)) h v x = when_same p q _ (head_at i h q) x.0 ∙ sym x.1
  head_give (Used u seq call regs args ids result changes) h v x = changes_give h (Used u seq call regs args ids result changes ∷ h) changes v x
  head_give (Reloaded u n done changes) h v x = changes_give h (Reloaded u n done changes ∷ h) changes v x
  head_give _ h v x = absurd x

  pub head : IsLastGiven (λ h. head_at i h q) None (Posts q) (GivesHead i q)
  head = last_given (λ h. head_at i h q) None (Posts q) (GivesHead i q) refl head_step head_give

-- ---- how many numbers were posted

pub posted_changes : (n : ℕ) (changes : List Change) → fold posted_after_change n changes ≡ n + length (new_numbers changes)
posted_changes n [] = omega arith
posted_changes n (Renewed old new ∷ changes) = posted_changes (suc n) changes ∙ omega arith
posted_changes n (_ ∷ changes) = posted_changes n changes

pub posted : (h : History) → posted_at h ≡ length (numbers_so_far h)
posted [] = refl
posted (Entered t call regs (Held q) ∷ h) = let before = posted h in omega (arith, before, length-append (numbers_so_far h) (q ∷ []))
posted (Used t seq call regs args ids result changes ∷ h) =
    let before = posted h in omega (arith, before, posted_changes (posted_at h) changes, length-append (numbers_so_far h) (new_numbers changes))
posted (Reloaded t n done changes ∷ h) =
    let before = posted h in omega (arith, before, posted_changes (posted_at h) changes, length-append (numbers_so_far h) (new_numbers changes))
posted (_ ∷ h) = posted h
