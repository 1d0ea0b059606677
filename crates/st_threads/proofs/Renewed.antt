-- Held calls get new drawings one after the other.
use native.Mathlib.Omega.{arith}
use Rattle.std.proofs.Common.{◌≡◌, ◌↔◌, ◌≤◌, ◌<◌, ◌+◌, ◌-◌, ◌^◌, ◌∙◌, ℕ, zero, suc, ◌==◌, Bool, true, false, cond, set, take, drop, List, [], ◌∷◌, ◌++◌, map, length, Option, Some, None, refl, ap, sym, subst}
use Rattle.std.proofs.lemmas.Bool.{ne_eqb}
use Rattle.std.proofs.lemmas.List.{append_assoc, append-nil, drop-set-lt, same_from_push, take_more_set}
use Rattle.std.proofs.Math.ListN.{drop_of_length-le}
use Rattle.std.specs.Prelude.{IfSome}
use Rattle.st_lookaside.specs.declared.head.Renewal.{Renewal}
use Rattle.st_messages.specs.Messages.{is_live_drawing, seq_of, HeldCalls}
use Rattle.st_model.specs.Processes.{Processes, process_at}
use Rattle.st_names.specs.Name.{Components}
use Rattle.st_law.specs.Numbers.{drawn_as, largest_number, number_drawn, numbered_change, numbers_after_change, without_replaced, Numbers}
use Rattle.st_law.specs.State.{State}
use Rattle.st_trace.specs.declared.entry.Change.{Change}
use Rattle.st_trace.specs.declared.entry.Change.TheVariants.{Renewed}
use Rattle.st_workers.specs.Numbers.{AreFew, AreReady, CarriesNumbers, IsReadyWith}
use Rattle.st_workers.specs.Refinement.{RepresentsMessages, messages_renewed}
use Rattle.st_workers.specs.UnderWay.{UnderWay}
use Rattle.st_workers.proofs.Ended.{lives_as}
use Rattle.st_threads.specs.Renewing.{AreNumberedFrom, AreOthers, CanRenew, HaveRenewed, AreLiveAndDistinct, RenewsAll, RenewsIf, RenewsOne, TakesCwd, call_renewed, calls_from, cwds_of, next_after, numbers_after_renewals, renewals_from, row_renewed, rows_renewed, with_call}
use Rattle.st_threads.specs.Thread.{ThreadRow}
use Rattle.st_threads.specs.declared.renewing.RenewedCall.{RenewedCall}

-- ---- the directories that are left

-- what is left of directories after one was taken is determined
pub same_left : (processes : Processes) (call : Option RenewedCall) (cwds one other : List Components) → TakesCwd processes call cwds one → TakesCwd processes call cwds other → one ≡ other
same_left processes None cwds one other x y = sym x ∙ y
same_left processes (Some call) cwds one other x y = (same_from_push one other (process_at processes call.pid).cwd (process_at processes call.pid).cwd (sym x ∙ y)).0

-- one is taken from those of all calls
takes_one : (processes : Processes) (call : Option RenewedCall) (calls : List RenewedCall) (cwds : List Components) → cwds ≡ cwds_of processes (with_call call calls) → TakesCwd processes call cwds (cwds_of processes calls)
takes_one processes None calls cwds e = e
takes_one processes (Some call) calls cwds e = e

-- ---- one call is renewed

-- live calls stay live if another call is renewed
live_after : (alive : ℕ → Bool) (q fresh : ℕ) (calls : List RenewedCall) → AreOthers q calls → AreLiveAndDistinct alive calls → AreLiveAndDistinct (λ other. cond (other == fresh) true (cond (other == q) false (alive other))) calls
live_after alive q fresh [] others live = tt
live_after alive q fresh (call ∷ calls) others live = (
  ap (λ (b : Bool). cond (call.drawing == fresh) true (cond b false (alive call.drawing))) (ne_eqb call.drawing q others.0) ∙ ap (λ (b : Bool). cond (call.drawing == fresh) true b) live.0 ∙ always (call.drawing == fresh),
  live.1,
  live_after alive q fresh calls others.1 live.2,
) where
  always : (b : Bool) → cond b true true ≡ true
  always true = refl
  always false = refl

module _ (renewal : Renewal) (call : RenewedCall) (calls : List RenewedCall) (between left : UnderWay) (can : CanRenew between (call ∷ calls)) (renews : RenewsOne renewal call.drawing between left) where
  abbrev fresh : ℕ
  fresh = suc can.state.posted

  abbrev later : ℕ → Bool
  later other = cond (other == fresh) true (cond (other == call.drawing) false (can.alive other))

  abbrev then : State
  then = record can.state { messages = messages_renewed renewal call.drawing fresh can.state.messages; posted = fresh }

  kept : RepresentsMessages can.input then later left
  kept = renews can.input can.state.messages can.state.turns can.alive later can.state.posted can.kept (λ other. refl)

  one_next : left.calls.next ≡ suc between.calls.next
  one_next = kept.agrees.next ∙ ap suc (sym can.kept.agrees.next)

  one_can : CanRenew left calls
  one_can = record { input = can.input; state = then; alive = later; kept = kept; live = live_after can.alive call.drawing fresh calls can.live.1 can.live.2 }

-- ---- a call is renewed, if there is one

pub lives_if : (call : Option RenewedCall) (calls : List RenewedCall) (workers : UnderWay) → CanRenew workers (with_call call calls) → IfSome call (λ its. is_live_drawing workers.calls its.drawing ≡ true)
lives_if None calls workers can = tt
lives_if (Some call) calls workers can = lives_as can.input can.state can.alive workers call.drawing can.kept ∙ can.live.0

next_if : (processes : Processes) (version : ℕ) (call : Option RenewedCall) (calls : List RenewedCall) (between left : UnderWay) → CanRenew between (with_call call calls) → RenewsIf processes version call between left → left.calls.next ≡ next_after between.calls.next call
next_if processes version None calls between left can renews = ap (λ (w : UnderWay). w.calls.next) renews
next_if processes version (Some call) calls between left can renews = one_next _ call calls between left can renews

can_if : (processes : Processes) (version : ℕ) (call : Option RenewedCall) (calls : List RenewedCall) (between left : UnderWay) → CanRenew between (with_call call calls) → RenewsIf processes version call between left → CanRenew left calls
can_if processes version None calls between left can renews = subst (λ (w : UnderWay). CanRenew w calls) (sym renews) can
can_if processes version (Some call) calls between left can renews = one_can _ call calls between left can renews

all_if : (processes : Processes) (version : ℕ) (call : Option RenewedCall) (calls : List RenewedCall) (between left new : UnderWay) → RenewsIf processes version call between left → RenewsAll processes version calls left new → RenewsAll processes version (with_call call calls) between new
all_if processes version None calls between left new renews all = subst (λ (w : UnderWay). RenewsAll processes version calls w new) renews all
all_if processes version (Some call) calls between left new renews all = (left, renews, all)

next_most : (next : ℕ) (call : Option RenewedCall) → next_after next call ≤ next + 1
next_most next None = omega arith
next_most next (Some call) = omega arith

-- the numbers after one renewal, or none, and after the others
carried : (call : Option RenewedCall) (rest : List RenewedCall) (ready : ℕ → Bool) (old between new : HeldCalls) → CarriesNumbers (numbers_after_renewals ready (renewals_from old.next (with_call call []))) old between
    → CarriesNumbers (numbers_after_renewals ready (renewals_from (next_after old.next call) rest)) between new → CarriesNumbers (numbers_after_renewals ready (renewals_from old.next (with_call call rest))) old new
carried None rest ready old between new first later numbers has = later numbers (first numbers has)
carried (Some call) rest ready old between new first later numbers has = later _ (first numbers has)

-- ---- the changes, with their numbers

-- a drawing that was made before keeps its number
pub later_same : (ready : ℕ → Bool) (calls : List RenewedCall) (next p : ℕ) → p < next → (law : Numbers) → (numbers_after_renewals ready (renewals_from next calls) law).number_of p ≡ law.number_of p
later_same ready [] next p low law = refl
later_same ready (call ∷ calls) next p low law =
    later_same ready calls (suc next) p (omega (arith, low)) (numbers_after_change largest_number ready law (Renewed call.drawing next))
    ∙ ap (λ (b : Bool). cond b (number_drawn largest_number law) (law.number_of p)) (ne_eqb p next (λ e. omega (arith, e, low)))

-- the change of one renewal, with the numbers that the old drawing has and that the new one gets
pub one_numbered : (workers left : UnderWay) (call : RenewedCall) (old new : ℕ) → call.drawing < workers.calls.next → seq_of workers.calls call.drawing ≡ Some old → seq_of left.calls workers.calls.next ≡ Some new
    → ((ready : ℕ → Bool) → AreReady ready workers → CarriesNumbers (λ law. without_replaced ready call.drawing (drawn_as largest_number workers.calls.next law)) workers.calls left.calls)
    → AreNumberedFrom workers (renewals_from workers.calls.next (call ∷ [])) (Renewed old new ∷ [])
one_numbered workers left call old new low old_is new_is carries ready are law has =
    let next : ℕ = workers.calls.next in
    let q : ℕ = call.drawing in
    let before : cond (q == next) (number_drawn largest_number law) (law.number_of q) ≡ old =
    ap (λ (b : Bool). cond b (number_drawn largest_number law) (law.number_of q)) (ne_eqb q next (λ e. omega (arith, e, low))) ∙ has.seqs q old old_is in
    let then : cond (next == next) (number_drawn largest_number law) (law.number_of next) ≡ new = (carries ready are law has).seqs next new new_is in
    λ k. Renewed (sym before k) (sym then k) ∷ []

-- the changes of one renewal, or none, and of the others
joined : (processes : Processes) (version : ℕ) (call : Option RenewedCall) (rest : List RenewedCall) (between left : UnderWay) → CanRenew between (with_call call rest) → RenewsIf processes version call between left → ((q : ℕ) → IsReadyWith left q ↔ IsReadyWith between q)
    → ((ready : ℕ → Bool) → AreReady ready between → CarriesNumbers (numbers_after_renewals ready (renewals_from between.calls.next (with_call call []))) between.calls left.calls)
    → (first later : List Change) → AreNumberedFrom between (renewals_from between.calls.next (with_call call [])) first → AreNumberedFrom left (renewals_from (next_after between.calls.next call) rest) later
    → AreNumberedFrom between (renewals_from between.calls.next (with_call call rest)) (first ++ later)
joined processes version None rest between left can renews ready_left carries first later one more ready are law has =
    (λ k. one ready are law has k ++ later)
    ∙ subst (λ (w : UnderWay). AreNumberedFrom w (renewals_from between.calls.next rest) later) renews more ready are law has
joined processes version (Some call) rest between left can renews ready_left carries first later one more ready are law has =
    let next : ℕ = between.calls.next in
    let q : ℕ = call.drawing in
    let after : Numbers = numbers_after_change largest_number ready law (Renewed q next) in
    let ready_then : AreReady ready left = λ p. (λ e. (ready_left p).1 ((are p).0 e), λ is. (are p).1 ((ready_left p).0 is)) in
    let low : q < suc next = (let given = (can.kept.agrees.given q can.live.0).1 in let is = can.kept.agrees.next in omega (arith, given, is)) in
    (λ k. one ready are law has k ++ more ready ready_then after (carries ready are law has) k)
    ∙ (λ k. Renewed (sym (later_same ready rest (suc next) q low after) k) (sym (later_same ready rest (suc next) next (omega arith) after) k) ∷ map (numbered_change (numbers_after_renewals ready (renewals_from (suc next) rest) after).number_of) (renewals_from (suc next) rest))

-- ---- the threads of the script up to a number

module _ (processes : Processes) (pids : ℕ → Option ℕ) (version : ℕ) where
  abbrev calls : ℕ → List ThreadRow → List RenewedCall
  calls t rows = calls_from pids t rows

  abbrev renewed : ℕ → ℕ → List ThreadRow → List ThreadRow
  renewed next t rows = rows_renewed pids next t rows

  -- the calls of the first n threads have got their new numbers
  pub record RenewedSoFar (before : List ThreadRow) (workers : UnderWay) (n : ℕ) (now : List ThreadRow) (between : UnderWay) (cwds : List Components) (front changes : List Change) : Type 0 where
    pub rows : take n now ++ renewed between.calls.next (suc n) (drop n now) ≡ renewed workers.calls.next 1 before
    pub all : (left : UnderWay) → RenewsAll processes version (calls (suc n) (drop n now)) between left → RenewsAll processes version (calls 1 before) workers left
    pub can : CanRenew between (calls (suc n) (drop n now))
    pub copies : cwds ≡ cwds_of processes (calls (suc n) (drop n now))
    pub room : between.calls.next + length (drop n now) < 2 ^ 64
    pub few : AreFew between.calls
    pub ready : (q : ℕ) → IsReadyWith between q ↔ IsReadyWith workers q
    pub carries : (ready : ℕ → Bool) → AreReady ready workers → (left : UnderWay) → CarriesNumbers (numbers_after_renewals ready (renewals_from between.calls.next (calls (suc n) (drop n now)))) between.calls left.calls
        → CarriesNumbers (numbers_after_renewals ready (renewals_from workers.calls.next (calls 1 before))) workers.calls left.calls
    pub given : List Change
    pub changes_are : changes ≡ front ++ given
    pub numbered : (later : List Change) → AreNumberedFrom between (renewals_from between.calls.next (calls (suc n) (drop n now))) later → AreNumberedFrom workers (renewals_from workers.calls.next (calls 1 before)) (given ++ later)

  -- at first no call has got a new number
  pub none_so_far : (before : List ThreadRow) (workers : UnderWay) (cwds : List Components) (front : List Change) → CanRenew workers (calls 1 before) → workers.calls.next + length before < 2 ^ 64 → AreFew workers.calls → cwds ≡ cwds_of processes (calls 1 before) → RenewedSoFar before workers 0 before workers cwds front front
  none_so_far before workers cwds front can room few copies = record {
    rows = refl;
    all = λ left all. all;
    can = can;
    copies = copies;
    room = room;
    few = few;
    ready = λ q. (λ is. is, λ is. is);
    carries = λ ready are left carries. carries;
    given = [];
    changes_are = sym (append-nil front);
    numbered = λ later numbered. numbered;
  }

  module _ (before : List ThreadRow) (workers : UnderWay) (n : ℕ) (now : List ThreadRow) (between : UnderWay) (cwds : List Components) (front changes : List Change) (so_far : RenewedSoFar before workers n now between cwds front changes) where
    -- at last all calls have got their new numbers
    pub all_renewed : length now ≤ n → HaveRenewed processes pids version before workers now between
    all_renewed end =
        let none : drop n now ≡ [] = drop_of_length-le now {i = n} end in
        record {
          rows_are = sym (take_whole now n end) ∙ sym (append-nil (take n now)) ∙ ap (λ (l : List ThreadRow). take n now ++ renewed between.calls.next (suc n) l) (sym none) ∙ so_far.rows;
          all = so_far.all between (subst (λ (l : List ThreadRow). RenewsAll processes version (calls (suc n) l) between between) (sym none) refl);
          numbers = λ ready are. so_far.carries ready are between (subst (λ (l : List ThreadRow). CarriesNumbers (numbers_after_renewals ready (renewals_from between.calls.next (calls (suc n) l))) between.calls between.calls) (sym none) (λ _ has. has));
          ready = so_far.ready;
        } where
          take_whole : (l : List ThreadRow) (k : ℕ) → length l ≤ k → take k l ≡ l
          take_whole [] zero e = refl
          take_whole [] (suc k) e = refl
          take_whole (row ∷ l) zero e = absurd (omega (arith, e))
          take_whole (row ∷ l) (suc k) e = ap (λ (m : List ThreadRow). row ∷ m) (take_whole l k (omega (arith, e)))

    -- and the changes are those of all renewals
    pub all_numbered : length now ≤ n → (given : List Change) × (changes ≡ front ++ given) × AreNumberedFrom workers (renewals_from workers.calls.next (calls 1 before)) given
    all_numbered end =
        let none : drop n now ≡ [] = drop_of_length-le now {i = n} end in (
          so_far.given,
          so_far.changes_are,
          subst (AreNumberedFrom workers (renewals_from workers.calls.next (calls 1 before))) (append-nil so_far.given)
              (so_far.numbered [] (subst (λ (l : List ThreadRow). AreNumberedFrom between (renewals_from between.calls.next (calls (suc n) l)) []) (sym none) (λ ready are law has. refl))),
        )

    module _ (row : ThreadRow) (inside : n < length now) (here : drop n now ≡ row ∷ drop (n + 1) now) (call : Option RenewedCall) (call_is : call ≡ call_renewed pids (n + 1) row) where
      after : n + 1 ≡ suc n
      after = omega arith

      call_here : call ≡ call_renewed pids (suc n) row
      call_here = call_is ∙ ap (λ (k : ℕ). call_renewed pids k row) after

      abbrev rest : List RenewedCall
      rest = calls (suc (suc n)) (drop (n + 1) now)

      calls_are : calls (suc n) (drop n now) ≡ with_call call rest
      calls_are = ap (calls (suc n)) here ∙ ap (λ (o : Option RenewedCall). with_call o rest) (sym call_here)

      can : CanRenew between (with_call call rest)
      can = subst (CanRenew between) calls_are so_far.can

      copies : cwds ≡ cwds_of processes (with_call call rest)
      copies = so_far.copies ∙ ap (cwds_of processes) calls_are

      pub next_lives : IfSome call (λ its. is_live_drawing between.calls its.drawing ≡ true)
      next_lives = lives_if call rest between can

      room : between.calls.next + 1 + length (drop (n + 1) now) < 2 ^ 64
      room = let left = so_far.room in let more = ap length here in omega (arith, left, more)

      pub next_room : IfSome call (λ its. between.calls.next < 2 ^ 64 - 1)
      next_room = by call where
        by : (o : Option RenewedCall) → IfSome o (λ its. between.calls.next < 2 ^ 64 - 1)
        by None = tt
        by (Some its) = let left = room in omega (arith, left)

      -- the next directory is that of its process
      pub next_cwd : TakesCwd processes call cwds (cwds_of processes rest)
      next_cwd = takes_one processes call rest cwds copies

      module _ (left : UnderWay) (kept : RenewsIf processes version call between left) (fewer : List Components) (takes : TakesCwd processes call cwds fewer)
          (few_left : AreFew left.calls) (ready_left : (q : ℕ) → IsReadyWith left q ↔ IsReadyWith between q)
          (carries_one : (ready : ℕ → Bool) → AreReady ready between → CarriesNumbers (numbers_after_renewals ready (renewals_from between.calls.next (with_call call []))) between.calls left.calls)
          (more : List Change) (more_is : (first : List Change) × (more ≡ changes ++ first) × AreNumberedFrom between (renewals_from between.calls.next (with_call call [])) first) where
        abbrev rows_next : List ThreadRow
        rows_next = set now n (row_renewed between.calls.next call row)

        left_over : drop (n + 1) rows_next ≡ drop (n + 1) now
        left_over = drop-set-lt (n + 1) now n (row_renewed between.calls.next call row) (omega arith)

        next_is : left.calls.next ≡ next_after between.calls.next call
        next_is = next_if processes version call rest between left can kept

        calls_then : calls (suc (n + 1)) (drop (n + 1) rows_next) ≡ rest
        calls_then = λ k. calls (suc (after k)) (left_over k)

        rows_then : take (n + 1) rows_next ++ renewed left.calls.next (suc (n + 1)) (drop (n + 1) rows_next) ≡ take n now ++ renewed between.calls.next (suc n) (drop n now)
        rows_then = (λ k. take_more_set now n (row_renewed between.calls.next call row) inside k ++ renewed (next_is k) (suc (after k)) (left_over k))
            ∙ append_assoc (take n now) (row_renewed between.calls.next call row ∷ []) (renewed (next_after between.calls.next call) (suc (suc n)) (drop (n + 1) now))
            ∙ ap (λ (s : Option RenewedCall). take n now ++ (row_renewed between.calls.next s row ∷ renewed (next_after between.calls.next s) (suc (suc n)) (drop (n + 1) now))) call_here
            ∙ ap (λ (l : List ThreadRow). take n now ++ renewed between.calls.next (suc n) l) (sym here)

        -- the same workers are ready before and after
        ready_between : (ready : ℕ → Bool) → AreReady ready workers → AreReady ready between
        ready_between ready are q = (λ e. (so_far.ready q).1 ((are q).0 e), λ is. (are q).1 ((so_far.ready q).0 is))

        -- the next thread's call has got one, too, if it is renewed
        pub next_renewed : RenewedSoFar before workers (n + 1) rows_next left fewer front more
        next_renewed = record {
          rows = rows_then ∙ so_far.rows;
          all = λ new all. so_far.all new (subst (λ (l : List RenewedCall). RenewsAll processes version l between new) (sym calls_are) (all_if processes version call rest between left new kept (subst (λ (l : List RenewedCall). RenewsAll processes version l left new) calls_then all)));
          can = subst (CanRenew left) (sym calls_then) (can_if processes version call rest between left can kept);
          copies = same_left processes call cwds fewer (cwds_of processes rest) takes next_cwd ∙ ap (cwds_of processes) (sym calls_then);
          few = few_left;
          ready = λ q. (λ is. (so_far.ready q).0 ((ready_left q).0 is), λ is. (ready_left q).1 ((so_far.ready q).1 is));
          carries = λ ready are new carries. so_far.carries ready are new (
              subst (λ (l : List RenewedCall). CarriesNumbers (numbers_after_renewals ready (renewals_from between.calls.next l)) between.calls new.calls) (sym calls_are) (
              carried call rest ready between.calls left.calls new.calls (carries_one ready (ready_between ready are)) (
              subst (λ (n : ℕ). CarriesNumbers (numbers_after_renewals ready (renewals_from n rest)) left.calls new.calls) next_is
              (subst (λ (l : List RenewedCall). CarriesNumbers (numbers_after_renewals ready (renewals_from left.calls.next l)) left.calls new.calls) calls_then carries)
              )
              )
              );
          given = so_far.given ++ more_is.0;
          changes_are = more_is.1 ∙ ap (λ (l : List Change). l ++ more_is.0) so_far.changes_are ∙ append_assoc front so_far.given more_is.0;
          numbered = λ later numbered.
              subst (AreNumberedFrom workers (renewals_from workers.calls.next (calls 1 before))) (sym (append_assoc so_far.given more_is.0 later))
              (so_far.numbered (more_is.0 ++ later) (subst (λ (l : List RenewedCall). AreNumberedFrom between (renewals_from between.calls.next l) (more_is.0 ++ later)) (sym calls_are)
              (joined processes version call rest between left can kept ready_left carries_one more_is.0 later more_is.2
              (subst (λ (n : ℕ). AreNumberedFrom left (renewals_from n rest) later) next_is (subst (λ (l : List RenewedCall). AreNumberedFrom left (renewals_from left.calls.next l) later) calls_then numbered)))));
          room = let most = next_most between.calls.next call in let is = next_is in let before = room in let tail = ap length left_over in omega (arith, most, is, before, tail);
        }
