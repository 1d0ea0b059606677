-- Each entry of a lawful history has drawings that are in use before it, and so their numbers mean these drawings: from the numbers of a lawful
-- history its drawings come back.
use native.Mathlib.Omega.{arith}
use Rattle.std.proofs.Common.{◌≡◌, ◌⊎◌, ◌≤◌, ◌<◌, ℕ, suc, ◌+◌, Bool, true, false, cond, ◌&&◌, ◌||◌, ◌==◌, List, [], ◌∷◌, ◌++◌, map, reverse, length, fold, Option, Some, None, option_map, Contains, ◌↔◌, refl, sym, ap, subst, ◌∙◌, inl, inr}
use Rattle.std.proofs.lemmas.Bool.{eq-eqb, eqb-false, ne_eqb, and_parts}
use Rattle.std.proofs.lemmas.List.{map-append, reverse-append, reverse-reverse}
use Rattle.std.proofs.lemmas.Option.{same_Some}
use Rattle.st_base.specs.declared.ids.Ids.{Ids}
use Rattle.st_calls.specs.declared.argument.ArgText.{ArgText}
use Rattle.st_calls.specs.declared.call.SysCall.{SysCall}
use Rattle.st_trace.specs.declared.entry.CallResult.{CallResult}
use Rattle.st_trace.specs.declared.entry.Change.{Change}
use Rattle.st_trace.specs.declared.entry.Change.TheVariants.{Renewed}
use Rattle.st_trace.specs.declared.entry.Choice.{Choice}
use Rattle.st_trace.specs.declared.entry.Entry.{Entry}
use Rattle.st_trace.specs.declared.entry.Entry.TheVariants.{Stored, Entered, Claimed, Copied, Looked, Faulted, Answered, Used, Denied, Ended, Replied, Learned, Reloaded}
use Rattle.st_trace.specs.declared.entry.Way.TheVariants.{Fast, Barred, Held, Untraced}
use Rattle.st_law.specs.declared.input.Input.{Input}
use Rattle.st_law.specs.History.{looking_back}
use Rattle.st_law.specs.Inputs.{IsStartable}
use Rattle.st_law.specs.Entries.{Renews}
use Rattle.st_law.specs.Lawful.{IsLawful, IsServed, IsLawfulBack, IsReloaded, IsUsed, Lawful}
use Rattle.st_law.specs.Machine.{run}
use Rattle.st_law.specs.Messages.{posted_at, posted_after_change}
use Rattle.st_law.specs.Numbers.{Drawings, NamesDrawing, Numbers, IsLawfulByNumber, counted, drawings_at, drawn, drawn_back, drawn_changes, drawn_entry, drawn_as, in_use_now, is_in_use, is_kept, largest_number, no_numbers, number_drawn, numbered, numbered_back, numbered_change, numbered_entry, numbered_in, numbers_after_change, numbers_at}
use Rattle.st_law.specs.Splits.{SomeIn}
use Rattle.st_law.specs.State.{State, is_live, thread_count, is_question, is_open_question, snapshot_in}
use Rattle.st_law.specs.Threads.{History}
use Rattle.st_law.proofs.Laws.{run_lawful}
use Rattle.st_law.proofs.MessageHistory.{posted_changes}
use Rattle.st_law.proofs.Moves.{moves}
use Rattle.st_law.proofs.Recorded.{lawful_is_run}
use Rattle.st_law.proofs.Turns.{live_low}
use Rattle.st_reached.proofs.Circle.{Covers, IsFree, contains, drawn_free}
use Rattle.st_reached.proofs.InUse.{thread_drawings, used_before, used_live, used_made, used_served, worker_drawings}
use Rattle.st_reached.proofs.Matched.{EachOld, Follows, IsMatched, Matched, after, changes_matched, drawn_back_changes, drawn_matched, fewer_matched, fits_at, in_use_stays, number_stays}
use Rattle.st_reached.proofs.Reached.{Reached, reached_after, reached_back}
use Rattle.st_reached.proofs.ReloadedNumbers.{reloaded_fits, reloaded_follows, reloaded_old, reloaded_stays}
use Rattle.st_reached.proofs.UsedNumbers.{now_covered, old_by, used_fits, used_follows, used_old, used_stays}

-- ---- the drawings that an entry names

module _ (i : Input) (st : State) where
  question_live : (q : ℕ) → is_question i st q ≡ true → is_live st q ≡ true
  question_live q asked = (and_parts (is_live st q) (st.messages q).answered (and_parts (is_live st q && (st.messages q).answered) (is_open_question i st (snapshot_in st q)) asked).0).0

  -- what a lawful call renews, and what it was held under, is live
  module _ (reached : Reached i st) (q : ℕ) where
    held_live : (u : ℕ) (seq : Option ℕ) (call : SysCall) (regs : List ℕ) (args : List ArgText) (ids : Ids) (result : CallResult) (changes : List Change) → IsUsed i st u seq call regs args ids result changes → seq ≡ Some q → is_live st q ≡ true
    held_live u None call regs args ids result changes y e = absurd (none e) where
      none : None ≡ Some q → ⊥
      none f = cc
    held_live u (Some p) call regs args ids result changes y e = subst (λ n. is_live st n ≡ true) (same_Some p q e) y.held.live

    renewed_live : (changes : List Change) → EachOld (λ old. is_live st old ≡ true) changes → SomeIn (Renews q) changes → is_live st q ≡ true
    renewed_live [] olds some = absurd some
    renewed_live (Renewed old new ∷ changes) olds (inl same) = subst (λ n. is_live st n ≡ true) same olds.0
    renewed_live (Renewed old new ∷ changes) olds (inr some) = renewed_live changes olds.1 some
    renewed_live (_ ∷ changes) olds (inl none) = absurd none
    renewed_live (_ ∷ changes) olds (inr some) = renewed_live changes olds some

    -- each drawing that a lawful entry names is in use before it
    pub named_used : (e : Entry) → IsLawful i st e → NamesDrawing q e → is_in_use i st q ≡ true
    named_used (Claimed w p) y same = used_live i st q (subst (λ n. is_live st n ≡ true) same y.live)
    named_used (Copied p part place word) y same = used_served i st q (subst (IsServed i st) same y.served)
    named_used (Looked p part name seen) y same = used_served i st q (subst (IsServed i st) same y.served)
    named_used (Faulted p errno) y same = used_served i st q (subst (IsServed i st) same y.served)
    named_used (Answered w s v applied) y same = used_served i st q (subst (IsServed i st) same (record { number = w; worker = y.worker; at = y.at }))
    named_used (Used u seq call regs args ids result changes) y names = used_live i st q (by names) where
      by : (seq ≡ Some q) ⊎ SomeIn (Renews q) changes → is_live st q ≡ true
      by (inl same) = held_live u seq call regs args ids result changes y same
      by (inr some) = renewed_live changes (used_old i st reached u seq call regs args ids result changes y) some
    named_used (Reloaded u n done changes) y some = used_live i st q (renewed_live changes (reloaded_old i st reached u n done changes y) some)
    named_used (Denied u None errno cause) y same = absurd (none same) where
      none : None ≡ Some q → ⊥
      none f = cc
    named_used (Denied u (Some p) errno cause) y same = used_live i st q (subst (λ n. is_live st n ≡ true) (same_Some p q same) y.held.live)
    named_used (Replied p reply n) y same = used_live i st q (subst (λ n. is_live st n ≡ true) same (question_live p y.asked.question))
    named_used (Learned p n) y same = used_live i st q (subst (λ n. is_live st n ≡ true) same (question_live p y.asked.question))
    named_used _ y names = absurd names

-- ---- the numbers of the drawings in use

-- the numbers after a history, with the drawings that are in use then
abbrev pub numbers_now : ℕ → Input → History → Numbers
numbers_now circle i h = in_use_now i (looking_back i h) (numbers_at circle i h)

-- the number of each drawing in use means that drawing, and the last drawing is the last that was posted
pub record Tied (circle : ℕ) (i : Input) (h : History) : Type 0 where
  pub last : (numbers_at circle i h).last ≡ posted_at h
  pub matched : Matched circle (numbers_now circle i h) (drawings_at (numbered_back circle i h))

module _ (circle : ℕ) (i : Input) (startable : IsStartable i) where
  pub tied_first : Tied circle i []
  tied_first = record {
    last = refl;
    matched = record {
      count = refl;
      high = omega arith;
      used = λ q used. let made = used_made i (looking_back i []) (reached_back i startable [] tt) q used in absurd (let low = made.0 in let high = made.1 in omega (arith, low, high));
    };
  }

-- ---- one more entry

module _ (circle : ℕ) (i : Input) (room : thread_count i + i.options.workers < circle) (h : History) (reached : Reached i (looking_back i h)) (x : Tied circle i h) where
  abbrev st : State
  st = looking_back i h

  abbrev numbers : Numbers
  numbers = numbers_now circle i h

  abbrev drawings : Drawings
  drawings = drawings_at (numbered_back circle i h)

  -- the number of a drawing in use means it
  means : (q : ℕ) → is_in_use i st q ≡ true → drawings.drawing_of (numbers.number_of q) ≡ q
  means q used = (x.matched.used q used).found

  -- ---- the numbers after the entry

  -- with what is in use in the state after the entry
  tied_by : (e : Entry) → IsLawful i st e → (numbers_at circle i (e ∷ h)).last ≡ posted_at (e ∷ h) → Matched circle (numbers_at circle i (e ∷ h)) (drawings_at (numbered_back circle i (e ∷ h)))
      → ((q : ℕ) → is_in_use i (looking_back i (e ∷ h)) q ≡ true → q ≤ posted_at (e ∷ h) → (numbers_at circle i (e ∷ h)).in_use q ≡ true) → Tied circle i (e ∷ h)
  tied_by e y last matched stays = record {
    last = last;
    matched = fewer_matched circle (numbers_at circle i (e ∷ h)) (drawings_at (numbered_back circle i (e ∷ h))) matched (is_in_use i (looking_back i (e ∷ h)))
        (λ q used. stays q used (used_made i (looking_back i (e ∷ h)) (reached_after i st reached e y) q used).1);
  }

  -- an entry that posts nothing
  still_tied : (e : Entry) → IsLawful i st e → numbers_at circle i (e ∷ h) ≡ numbers → drawings_at (numbered_back circle i (e ∷ h)) ≡ drawings → posted_at (e ∷ h) ≡ posted_at h → Tied circle i (e ∷ h)
  still_tied e y same same_drawings posted = tied_by e y (ap (λ (n : Numbers). n.last) same ∙ x.last ∙ sym posted)
      (subst (λ n. Matched circle n (drawings_at (numbered_back circle i (e ∷ h)))) (sym same) (subst (Matched circle numbers) (sym same_drawings) x.matched))
      (λ q used low. ap (λ (n : Numbers). n.in_use q) same ∙ used_before i st reached q (subst (λ n. q ≤ n) posted low) e y used)

  module _ (u p : ℕ) (call : SysCall) (regs : List ℕ) (y : IsLawful i st (Entered u call regs (Held p))) where
    abbrev entered : Entry
    entered = Entered u call regs (Held p)

    next : p ≡ suc numbers.last
    next = y.way_is.1 ∙ ap suc (sym x.last)

    free : IsFree circle numbers (number_drawn circle numbers)
    free = drawn_free numbers circle (thread_count i + i.options.workers) room (thread_drawings i st ++ worker_drawings i st) (now_covered i st reached circle (numbers_at circle i h)) x.matched.high

    number_is : number_drawn circle numbers ≡ (numbers_at circle i (entered ∷ h)).number_of p
    number_is = sym (ap (λ b. cond b (number_drawn circle numbers) (numbers.number_of p)) (eq-eqb p p refl))

    posted_used : (q : ℕ) (b : Bool) → (q == p) ≡ b → is_in_use i (looking_back i (entered ∷ h)) q ≡ true → q ≤ suc (posted_at h) → (b || is_in_use i st q) ≡ true
    posted_used q true e used low = refl
    posted_used q false e used low = let differ = eqb-false q p e in let is : p ≡ suc (posted_at h) = y.way_is.1 in used_before i st reached q (omega (arith, differ, is, low)) entered y used

    entered_tied : Tied circle i (entered ∷ h)
    entered_tied = tied_by entered y y.way_is.1
        (subst (λ n. Matched circle (drawn_as circle p numbers) (counted drawings n)) number_is (drawn_matched circle numbers drawings x.matched p next free))
        (λ q used low. posted_used q (q == p) refl used low)

  -- the last drawing is the last that was posted
  last_posted : (then : Numbers) (n : ℕ) (cs : List Change) → then.last ≡ n → Follows then.last cs → (after circle (is_kept i st) then cs).last ≡ fold posted_after_change n cs
  last_posted then n [] e f = e
  last_posted then n (Renewed old new ∷ cs) e f = last_posted (numbers_after_change circle (is_kept i st) then (Renewed old new)) (suc n) cs (f.0 ∙ ap suc e) f.1
  last_posted then n (_ ∷ cs) e f = last_posted then n cs e f

  module _ (u : ℕ) (seq : Option ℕ) (call : SysCall) (regs : List ℕ) (args : List ArgText) (ids : Ids) (result : CallResult) (changes : List Change) (y : IsUsed i st u seq call regs args ids result changes) where
    abbrev made : Entry
    made = Used u seq call regs args ids result changes

    follows : Follows numbers.last changes
    follows = subst (λ n. Follows n changes) (sym x.last) (used_follows i st reached u seq call regs args ids result changes y)

    used_tied : Tied circle i (made ∷ h)
    used_tied = tied_by made y (last_posted numbers (posted_at h) changes x.last follows)
        (changes_matched circle (is_kept i st) (thread_count i + i.options.workers) room numbers drawings changes x.matched follows (used_fits i st reached u seq call regs args ids result changes y circle (numbers_at circle i h)))
        (λ q used low. in_use_stays circle (is_kept i st) q numbers changes follows
        (λ below. used_before i st reached q (let last = x.last in omega (arith, below, last)) made y used)
        (used_stays i st reached u seq call regs args ids result changes y q used)
        (let last = last_posted numbers (posted_at h) changes x.last follows in omega (arith, low, last)))

  module _ (u n : ℕ) (done : Bool) (changes : List Change) (y : IsReloaded i st u n done changes) where
    abbrev reloaded : Entry
    reloaded = Reloaded u n done changes

    reload_follows : Follows numbers.last changes
    reload_follows = subst (λ n. Follows n changes) (sym x.last) (reloaded_follows i st reached u n done changes y)

    reloaded_tied : Tied circle i (reloaded ∷ h)
    reloaded_tied = tied_by reloaded y (last_posted numbers (posted_at h) changes x.last reload_follows)
        (changes_matched circle (is_kept i st) (thread_count i + i.options.workers) room numbers drawings changes x.matched reload_follows (reloaded_fits i st reached u n done changes y circle (numbers_at circle i h)))
        (λ q used low. in_use_stays circle (is_kept i st) q numbers changes reload_follows
        (λ below. used_before i st reached q (let last = x.last in omega (arith, below, last)) reloaded y used)
        (reloaded_stays i st reached u n done changes y q used)
        (let last = last_posted numbers (posted_at h) changes x.last reload_follows in omega (arith, low, last)))

  -- ---- from the numbers of the entry back to its drawings

  abbrev Back : Entry → Type 0
  Back e = drawn_entry drawings (numbered_entry (numbers_at circle i (e ∷ h)).number_of e) ≡ e

  -- the number of a drawing that the entry names means it
  named_back : (q : ℕ) (e : Entry) → IsLawful i st e → NamesDrawing q e → drawings.drawing_of (numbers.number_of q) ≡ q
  named_back q e y names = means q (named_used i st reached q e y names)

  module _ (u : ℕ) (seq : Option ℕ) (call : SysCall) (regs : List ℕ) (args : List ArgText) (ids : Ids) (result : CallResult) (changes : List Change) (y : IsUsed i st u seq call regs args ids result changes) where
    abbrev then_of : ℕ → ℕ
    then_of = (numbers_at circle i (Used u seq call regs args ids result changes ∷ h)).number_of

    call_follows : Follows numbers.last changes
    call_follows = subst (λ n. Follows n changes) (sym x.last) (used_follows i st reached u seq call regs args ids result changes y)

    live_back : (q : ℕ) → is_live st q ≡ true → drawings.drawing_of (then_of q) ≡ q
    live_back q live = let used = used_live i st q live in
        ap drawings.drawing_of (number_stays circle (is_kept i st) q numbers changes call_follows (x.matched.used q used).posted) ∙ means q used

    seq_back : (o : Option ℕ) → seq ≡ o → option_map drawings.drawing_of (option_map then_of o) ≡ o
    seq_back None e = refl
    seq_back (Some q) e = ap Some (live_back q (held_live i st reached q u seq call regs args ids result changes y e))

    changes_back : drawn_changes drawings.drawing_of drawings.count (map (numbered_change then_of) changes) ≡ changes
    changes_back = drawn_back_changes then_of drawings.drawing_of drawings.count changes (subst (λ n. Follows n changes) (sym x.matched.count) call_follows)
        (old_by (λ old. is_live st old ≡ true) (λ old. drawings.drawing_of (then_of old) ≡ old) live_back changes (used_old i st reached u seq call regs args ids result changes y))

    used_back : Back (Used u seq call regs args ids result changes)
    used_back = λ k. Used u (seq_back seq refl k) call regs args ids result (changes_back k)

  module _ (u n : ℕ) (done : Bool) (changes : List Change) (y : IsReloaded i st u n done changes) where
    abbrev after_of : ℕ → ℕ
    after_of = (numbers_at circle i (Reloaded u n done changes ∷ h)).number_of

    reload_follows_on : Follows numbers.last changes
    reload_follows_on = subst (λ n. Follows n changes) (sym x.last) (reloaded_follows i st reached u n done changes y)

    old_back : (q : ℕ) → is_live st q ≡ true → drawings.drawing_of (after_of q) ≡ q
    old_back q live = let used = used_live i st q live in
        ap drawings.drawing_of (number_stays circle (is_kept i st) q numbers changes reload_follows_on (x.matched.used q used).posted) ∙ means q used

    reload_back : drawn_changes drawings.drawing_of drawings.count (map (numbered_change after_of) changes) ≡ changes
    reload_back = drawn_back_changes after_of drawings.drawing_of drawings.count changes (subst (λ n. Follows n changes) (sym x.matched.count) reload_follows_on)
        (old_by (λ old. is_live st old ≡ true) (λ old. drawings.drawing_of (after_of old) ≡ old) old_back changes (reloaded_old i st reached u n done changes y))

    reloaded_back : Back (Reloaded u n done changes)
    reloaded_back = ap (Reloaded u n done) reload_back

  pub back : (e : Entry) → IsLawful i st e → Back e
  back (Entered u call regs Fast) y = refl
  back (Entered u call regs Untraced) y = refl
  back (Entered u call regs (Barred n)) y = refl
  back (Entered u call regs (Held p)) y = ap (λ n. Entered u call regs (Held n)) (ap suc x.matched.count ∙ sym (next u p call regs y))
  back (Claimed w q) y = ap (λ n. Claimed w n) (named_back q (Claimed w q) y refl)
  back (Copied q part place word) y = ap (λ n. Copied n part place word) (named_back q (Copied q part place word) y refl)
  back (Looked q part name seen) y = ap (λ n. Looked n part name seen) (named_back q (Looked q part name seen) y refl)
  back (Faulted q errno) y = ap (λ n. Faulted n errno) (named_back q (Faulted q errno) y refl)
  back (Answered w s v applied) y = ap (λ n. Answered w (record s { seq = n }) v applied) (named_back s.seq (Answered w s v applied) y refl)
  back (Used u seq call regs args ids result changes) y = used_back u seq call regs args ids result changes y
  back (Reloaded u n done changes) y = reloaded_back u n done changes y
  back (Denied u None errno cause) y = refl
  back (Denied u (Some q) errno cause) y = ap (λ n. Denied u (Some n) errno cause) (named_back q (Denied u (Some q) errno cause) y refl)
  back (Replied q reply n) y = ap (λ p. Replied p reply n) (named_back q (Replied q reply n) y refl)
  back (Learned q n) y = ap (λ p. Learned p n) (named_back q (Learned q n) y refl)
  back (Stored u place word) y = refl
  back (Ended u) y = refl

  -- ---- every entry

  pub tied_after : (e : Entry) → IsLawful i st e → Tied circle i (e ∷ h)
  tied_after (Entered u call regs (Held p)) y = entered_tied u p call regs y
  tied_after (Used u seq call regs args ids result changes) y = used_tied u seq call regs args ids result changes y
  tied_after (Reloaded u n done changes) y = reloaded_tied u n done changes y
  tied_after e y = still_tied e y refl refl refl

  -- a drawing that was made keeps its number
  number_kept : (q : ℕ) → q ≤ posted_at h → (e : Entry) → IsLawful i st e → (numbers_at circle i (e ∷ h)).number_of q ≡ numbers.number_of q
  number_kept q low (Entered u call regs (Held p)) y =
      let is : p ≡ suc (posted_at h) = y.way_is.1 in ap (λ b. cond b (number_drawn circle numbers) (numbers.number_of q)) (ne_eqb q p (λ same. omega (arith, same, is, low)))
  number_kept q low (Used u seq call regs args ids result changes) y =
      number_stays circle (is_kept i st) q numbers changes (call_follows u seq call regs args ids result changes y) (let last = x.last in omega (arith, low, last))
  number_kept q low (Reloaded u n done changes) y =
      number_stays circle (is_kept i st) q numbers changes (reload_follows_on u n done changes y) (let last = x.last in omega (arith, low, last))
  number_kept q low _ y = refl

-- ---- the numbers of all entries at once

map_reversed : (f : Entry → Entry) (entries : List Entry) → map f (reverse entries) ≡ reverse (map f entries)
map_reversed f [] = refl
map_reversed f (e ∷ entries) = ap (map f) (reverse-append (e ∷ []) entries) ∙ map-append f (reverse entries) (e ∷ []) ∙ ap (λ front. front ++ f e ∷ []) (map_reversed f entries) ∙ sym (reverse-append (f e ∷ []) (map f entries))

module _ (f g : ℕ → ℕ) (most : ℕ) (same : (q : ℕ) → q ≤ most → f q ≡ g q) where
  changes_same : (last : ℕ) (changes : List Change) → Follows last changes → EachOld (λ old. old ≤ most) changes → fold posted_after_change last changes ≤ most → map (numbered_change f) changes ≡ map (numbered_change g) changes
  changes_same last [] follows olds high = refl
  changes_same last (Renewed old new ∷ changes) follows olds high =
      let below : fold posted_after_change new changes ≤ most = subst (λ n. fold posted_after_change n changes ≤ most) (sym follows.0) high in
      let more = posted_changes new changes in
      λ k. Renewed (same old olds.0 k) (same new (omega (arith, below, more)) k) ∷ changes_same new changes follows.1 olds.1 below k
  changes_same last (change ∷ changes) follows olds high = ap (λ later. change ∷ later) (changes_same last changes follows olds high)

  module _ (i : Input) (h : History) (reached : Reached i (looking_back i h)) where
    -- a drawing that a lawful entry names was made
    named_same : (q : ℕ) (e : Entry) → IsLawful i (looking_back i h) e → NamesDrawing q e → posted_at h ≤ most → f q ≡ g q
    named_same q e y names high = let made = used_made i (looking_back i h) reached q (named_used i (looking_back i h) reached q e y names) in same q (let low = made.1 in omega (arith, low, high))

    module _ (u : ℕ) (seq : Option ℕ) (call : SysCall) (regs : List ℕ) (args : List ArgText) (ids : Ids) (result : CallResult) (changes : List Change) (y : IsUsed i (looking_back i h) u seq call regs args ids result changes) (high : fold posted_after_change (posted_at h) changes ≤ most) where
      before : posted_at h ≤ most
      before = let more = posted_changes (posted_at h) changes in omega (arith, more, high)

      live_same : (q : ℕ) → is_live (looking_back i h) q ≡ true → q ≤ most
      live_same q live = let low = live_low i (looking_back i h) reached.whole.calls q live in omega (arith, low, before)

      seq_same : (o : Option ℕ) → seq ≡ o → option_map f o ≡ option_map g o
      seq_same None e = refl
      seq_same (Some q) e = ap Some (same q (live_same q (held_live i (looking_back i h) reached q u seq call regs args ids result changes y e)))

      used_same : numbered_entry f (Used u seq call regs args ids result changes) ≡ numbered_entry g (Used u seq call regs args ids result changes)
      used_same = λ k. Used u (seq_same seq refl k) call regs args ids result
          (changes_same (posted_at h) changes (used_follows i (looking_back i h) reached u seq call regs args ids result changes y)
          (old_by (λ old. is_live (looking_back i h) old ≡ true) (λ old. old ≤ most) live_same changes (used_old i (looking_back i h) reached u seq call regs args ids result changes y)) high k)

    reloaded_same : (u n : ℕ) (done : Bool) (changes : List Change) (y : IsReloaded i (looking_back i h) u n done changes) → fold posted_after_change (posted_at h) changes ≤ most → numbered_entry f (Reloaded u n done changes) ≡ numbered_entry g (Reloaded u n done changes)
    reloaded_same u n done changes y high = ap (Reloaded u n done)
        (changes_same (posted_at h) changes (reloaded_follows i (looking_back i h) reached u n done changes y)
        (old_by (λ old. is_live (looking_back i h) old ≡ true) (λ old. old ≤ most)
        (λ q live. let low = live_low i (looking_back i h) reached.whole.calls q live in let more = posted_changes (posted_at h) changes in omega (arith, low, more, high)) changes
        (reloaded_old i (looking_back i h) reached u n done changes y)) high)

    entry_same : (e : Entry) → IsLawful i (looking_back i h) e → posted_at (e ∷ h) ≤ most → numbered_entry f e ≡ numbered_entry g e
    entry_same (Entered u call regs Fast) y high = refl
    entry_same (Entered u call regs Untraced) y high = refl
    entry_same (Entered u call regs (Barred n)) y high = refl
    entry_same (Entered u call regs (Held p)) y high = ap (λ n. Entered u call regs (Held n)) (same p (let is : p ≡ suc (posted_at h) = y.way_is.1 in omega (arith, is, high)))
    entry_same (Claimed w q) y high = ap (λ n. Claimed w n) (named_same q (Claimed w q) y refl high)
    entry_same (Copied q part place word) y high = ap (λ n. Copied n part place word) (named_same q (Copied q part place word) y refl high)
    entry_same (Looked q part name seen) y high = ap (λ n. Looked n part name seen) (named_same q (Looked q part name seen) y refl high)
    entry_same (Faulted q errno) y high = ap (λ n. Faulted n errno) (named_same q (Faulted q errno) y refl high)
    entry_same (Answered w s v applied) y high = ap (λ n. Answered w (record s { seq = n }) v applied) (named_same s.seq (Answered w s v applied) y refl high)
    entry_same (Used u seq call regs args ids result changes) y high = used_same u seq call regs args ids result changes y high
    entry_same (Reloaded u n done changes) y high = reloaded_same u n done changes y high
    entry_same (Denied u None errno cause) y high = refl
    entry_same (Denied u (Some q) errno cause) y high = ap (λ n. Denied u (Some n) errno cause) (named_same q (Denied u (Some q) errno cause) y refl high)
    entry_same (Replied q reply n) y high = ap (λ p. Replied p reply n) (named_same q (Replied q reply n) y refl high)
    entry_same (Learned q n) y high = ap (λ p. Learned p n) (named_same q (Learned q n) y refl high)
    entry_same (Stored u place word) y high = refl
    entry_same (Ended u) y high = refl

-- ---- every lawful history

module _ (circle : ℕ) (i : Input) (startable : IsStartable i) (room : thread_count i + i.options.workers < circle) where
  pub tied : (h : History) → IsLawfulBack i h → Tied circle i h
  tied [] lawful = tied_first circle i startable
  tied (e ∷ h) lawful = tied_after circle i room h (reached_back i startable h lawful.1) (tied h lawful.1) e lawful.0

  history_back : (h : History) → IsLawfulBack i h → drawn_back (numbered_back circle i h) ≡ h
  history_back [] lawful = refl
  history_back (e ∷ h) lawful = λ k. back circle i room h (reached_back i startable h lawful.1) (tied h lawful.1) e lawful.0 k ∷ history_back h lawful.1 k

  -- from the numbers of a lawful trace its drawings come back
  pub trace_back : (trace : List Entry) → Lawful i trace → drawn (numbered_in circle i trace) ≡ trace
  trace_back trace lawful = ap (λ h. reverse (drawn_back h)) (reverse-reverse (numbered_back circle i (reverse trace))) ∙ ap reverse (history_back (reverse trace) lawful) ∙ reverse-reverse trace

  -- two drawings in use with the same number are one
  pub one_drawing : (h : History) → IsLawfulBack i h → (p q : ℕ) → is_in_use i (looking_back i h) p ≡ true → is_in_use i (looking_back i h) q ≡ true
      → (numbers_at circle i h).number_of p ≡ (numbers_at circle i h).number_of q → p ≡ q
  one_drawing h lawful p q used other same = let x : Tied circle i h = tied h lawful in
      sym (x.matched.used p used).found ∙ ap (drawings_at (numbered_back circle i h)).drawing_of same ∙ (x.matched.used q other).found

  -- the number of a drawing in use is one of the circle
  pub in_circle : (h : History) → IsLawfulBack i h → (q : ℕ) → is_in_use i (looking_back i h) q ≡ true → (1 ≤ (numbers_at circle i h).number_of q) × ((numbers_at circle i h).number_of q ≤ circle)
  in_circle h lawful q used = let y : IsMatched circle (numbers_now circle i h) (drawings_at (numbered_back circle i h)) q = (tied h lawful).matched.used q used in (y.low, y.high)

  -- a drawing keeps its number
  pub keeps_number : (q : ℕ) (later earlier : History) → IsLawfulBack i (later ++ earlier) → q ≤ posted_at earlier
      → (q ≤ posted_at (later ++ earlier)) × ((numbers_at circle i (later ++ earlier)).number_of q ≡ (numbers_at circle i earlier).number_of q)
  keeps_number q [] earlier lawful low = (low, refl)
  keeps_number q (e ∷ later) earlier lawful low =
      let before = keeps_number q later earlier lawful.1 low in
      let reached : Reached i (looking_back i (later ++ earlier)) = reached_back i startable (later ++ earlier) lawful.1 in
      let more = (moves i (looking_back i (later ++ earlier)) reached.whole.calls e lawful.0).posted in
      let below = before.0 in
      (omega (arith, below, more), number_kept circle i room (later ++ earlier) reached (tied (later ++ earlier) lawful.1) q below e lawful.0 ∙ before.1)

  -- each drawing has one number in all entries
  numbered_by : (f : ℕ → ℕ) (h : History) → IsLawfulBack i h → ((q : ℕ) → q ≤ posted_at h → (numbers_at circle i h).number_of q ≡ f q) → numbered_back circle i h ≡ map (numbered_entry f) h
  numbered_by f [] lawful same = refl
  numbered_by f (e ∷ h) lawful same =
      let reached : Reached i (looking_back i h) = reached_back i startable h lawful.1 in
      let more : posted_at h ≤ posted_at (e ∷ h) = (moves i (looking_back i h) reached.whole.calls e lawful.0).posted in
      λ k. entry_same (numbers_at circle i (e ∷ h)).number_of f (posted_at (e ∷ h)) same i h reached e lawful.0 (omega arith) k
      ∷ numbered_by f h lawful.1 (λ q low. sym (number_kept circle i room h reached (tied h lawful.1) q low e lawful.0) ∙ same q (omega (arith, low, more))) k

  pub numbered_whole : (trace : List Entry) → Lawful i trace → numbered_in circle i trace ≡ map (numbered_entry (numbers_at circle i (reverse trace)).number_of) trace
  numbered_whole trace lawful =
      ap reverse (numbered_by (numbers_at circle i (reverse trace)).number_of (reverse trace) lawful (λ q low. refl))
      ∙ sym (map_reversed (numbered_entry (numbers_at circle i (reverse trace)).number_of) (reverse trace))
      ∙ ap (map (numbered_entry (numbers_at circle i (reverse trace)).number_of)) (reverse-reverse trace)

-- ---- the circle of a run: a startable input has at most 64 threads and 8 workers

module _ (i : Input) (startable : IsStartable i) where
  pub roomy : thread_count i + i.options.workers < largest_number
  roomy = let threads = startable.few_threads in let workers = startable.few_workers in omega (arith, threads, workers)

  -- these drawings are few, and what is in use is among them
  few_of : (numbers : Numbers) → (drawings : List ℕ) × Covers numbers (thread_count i + i.options.workers) drawings → (drawings : List ℕ) × (length drawings ≤ 72) × ((q : ℕ) → numbers.in_use q ≡ true → Contains drawings q)
  few_of numbers (drawings, x) = (
    drawings,
    (let few = x.few in let threads = startable.few_threads in let workers = startable.few_workers in omega (arith, few, threads, workers)),
    λ q used. contains q drawings (x.covers q used),
  )

  -- at most 72 drawings are in use in a state
  pub few_in_use : (h : History) → IsLawfulBack i h → (drawings : List ℕ) × (length drawings ≤ 72) × ((q : ℕ) → is_in_use i (looking_back i h) q ≡ true → Contains drawings q)
  few_in_use h lawful = few_of (in_use_now i (looking_back i h) no_numbers)
      (thread_drawings i (looking_back i h) ++ worker_drawings i (looking_back i h), now_covered i (looking_back i h) (reached_back i startable h lawful) 0 no_numbers)

  -- at most 72 drawings are in use at each renewal, the one that is renewed among them
  pub few_at_renewal : (circle : ℕ) (h : History) (u : ℕ) (seq : Option ℕ) (call : SysCall) (regs : List ℕ) (args : List ArgText) (ids : Ids) (result : CallResult) (before : List Change) (old new : ℕ) (later : List Change)
      → IsLawfulBack i (Used u seq call regs args ids result (before ++ Renewed old new ∷ later) ∷ h)
      → (drawings : List ℕ) × (length drawings ≤ 72) × ((q : ℕ) → (fold (numbers_after_change circle (is_kept i (looking_back i h))) (numbers_now circle i h) before).in_use q ≡ true → Contains drawings q)
  few_at_renewal circle h u seq call regs args ids result before old new later lawful = few_of (after circle (is_kept i (looking_back i h)) (numbers_now circle i h) before)
      (fits_at circle (is_kept i (looking_back i h)) (thread_count i + i.options.workers) (numbers_now circle i h) before old new later
      (used_fits i (looking_back i h) (reached_back i startable h lawful.1) u seq call regs args ids result (before ++ Renewed old new ∷ later) lawful.0 circle (numbers_at circle i h)))

  pub few_at_reload : (circle : ℕ) (h : History) (u n : ℕ) (done : Bool) (before : List Change) (old new : ℕ) (later : List Change)
      → IsLawfulBack i (Reloaded u n done (before ++ Renewed old new ∷ later) ∷ h)
      → (drawings : List ℕ) × (length drawings ≤ 72) × ((q : ℕ) → (fold (numbers_after_change circle (is_kept i (looking_back i h))) (numbers_now circle i h) before).in_use q ≡ true → Contains drawings q)
  few_at_reload circle h u n done before old new later lawful = few_of (after circle (is_kept i (looking_back i h)) (numbers_now circle i h) before)
      (fits_at circle (is_kept i (looking_back i h)) (thread_count i + i.options.workers) (numbers_now circle i h) before old new later
      (reloaded_fits i (looking_back i h) (reached_back i startable h lawful.1) u n done (before ++ Renewed old new ∷ later) lawful.0 circle (numbers_at circle i h)))

  -- the numbers of a run are lawful
  pub run_by_number : (choices : List Choice) → IsLawfulByNumber i (numbered i (run i choices))
  run_by_number choices =
      let same : drawn (numbered i (run i choices)) ≡ run i choices = trace_back largest_number i startable roomy (run i choices) (run_lawful i startable choices) in record {
        numbers_are = ap (numbered i) same;
        lawful = subst (Lawful i) (sym same) (run_lawful i startable choices);
      }

  -- lawful numbers are those of a run
  pub lawful_numbers : (trace : List Entry) → IsLawfulByNumber i trace ↔ ((choices : List Choice) × (numbered i (run i choices) ≡ trace))
  lawful_numbers trace = (
    λ x. let found = (lawful_is_run i startable (drawn trace)).0 x.lawful in (found.0, ap (numbered i) found.1 ∙ x.numbers_are),
    λ y. subst (IsLawfulByNumber i) y.1 (run_by_number y.0),
  )
