-- How renewals change rows, numbers and messages, compared with the law's machine.
use native.Mathlib.Omega.{arith}
use Rattle.std.proofs.Common.{◌≡◌, ◌≢◌, ◌≤◌, ◌<◌, ◌+◌, ◌∙◌, ℕ, zero, suc, ◌==◌, Bool, true, false, cond, set, List, [], ◌∷◌, ◌++◌, length, Option, Some, None, refl, ap, sym, subst, option_map}
use Rattle.std.proofs.lemmas.Bool.{eq-eqb, ne_eqb}
use Rattle.std.proofs.lemmas.Option.{none-some, same_Some}
use Rattle.std.specs.List.{fold}
use Rattle.std.specs.Prelude.{slice_get}
use Rattle.st_base.specs.Numbered.{item_at_number}
use Rattle.st_effects.specs.Changes.{seq_after}
use Rattle.st_effects.specs.Processes.{renewals_by}
use Rattle.st_effects.specs.System.{HeldCall}
use Rattle.st_law.specs.declared.input.Input.{Input}
use Rattle.st_law.specs.Messages.{Head, head_after_change, posted_after_change}
use Rattle.st_law.specs.State.{Message, State, ThreadState, held_by_pending, held_by_way, held_from}
use Rattle.st_law.specs.Threads.{PendingCall}
use Rattle.st_model.specs.Processes.{Processes}
use Rattle.st_reached.specs.Reached.{life_after_change, life_after_changes}
use Rattle.st_trace.specs.declared.entry.Change.{Change}
use Rattle.st_trace.specs.declared.entry.Change.TheVariants.{Renewed}
use Rattle.st_trace.specs.declared.entry.Way.{Way}
use Rattle.st_trace.specs.declared.entry.Way.TheVariants.{Fast, Barred, Held, Untraced}
use Rattle.st_workers.specs.Refinement.{RepresentsMachineMessages, head_renewed, messages_renewed}
use Rattle.st_workers.specs.UnderWay.{UnderWay}
use Rattle.st_threads.specs.Renewing.{AreOthers, AreLiveAndDistinct, RenewsAll, call_of, call_renewed, calls_from, next_after, renewal_of, renewals_from, row_renewed, rows_renewed, with_call}
use Rattle.st_threads.specs.Thread.{ThreadRow, IsRow, IsRowOf, drawing_by_way, drawing_held, drawing_pending}
use Rattle.st_threads.specs.declared.renewing.RenewedCall.{RenewedCall}
use Rattle.st_threads.proofs.Rows.{either_none, holds, no_call}

-- ---- changes that renewals preserve

pub renewals_leave : {A : Type 0} (f : A → Change → A) → ((a : A) (old new : ℕ) → f a (Renewed old new) ≡ a) → (a : A) (next : ℕ) (calls : List RenewedCall) → fold f a (renewals_from next calls) ≡ a
renewals_leave f same a next [] = refl
renewals_leave f same a next (call ∷ calls) = ap (λ b. fold f b (renewals_from (suc next) calls)) (same a call.drawing next) ∙ renewals_leave f same a (suc next) calls

-- ---- the rows from a thread on

abbrev pub AreRowsFrom : (ℕ → ThreadState) → ℕ → List ThreadRow → Type 0
AreRowsFrom threads u [] = Unit {0}
AreRowsFrom threads u (row ∷ rows) = IsRow row (threads u) × AreRowsFrom threads (suc u) rows

from_each : (threads : ℕ → ThreadState) (rows : List ThreadRow) (u : ℕ) → ((k v : ℕ) → v ≡ k + u → IsRowOf (slice_get rows k) (threads v)) → AreRowsFrom threads u rows
from_each threads [] u f = tt
from_each threads (row ∷ rows) u f = (f 0 u (omega arith), from_each threads rows (suc u) (λ k v e. f (suc k) v (omega (arith, e))))

each_from : (threads : ℕ → ThreadState) (rows : List ThreadRow) (u : ℕ) → AreRowsFrom threads u rows → (k v : ℕ) → v ≡ k + u → IsRowOf (slice_get rows k) (threads v)
each_from threads [] u are zero v e = tt
each_from threads [] u are (suc k) v e = tt
each_from threads (row ∷ rows) u are zero v e = let same : u ≡ v = omega (arith, e) in subst (λ (n : ℕ). IsRow row (threads n)) same are.0
each_from threads (row ∷ rows) u are (suc k) v e = each_from threads rows (suc u) are.1 k v (omega (arith, e))

pub rows_from : (threads : ℕ → ThreadState) (rows : List ThreadRow) → ((u : ℕ) → IsRowOf (item_at_number rows u) (threads u)) → AreRowsFrom threads 1 rows
rows_from threads rows are = from_each threads rows 1 (λ k v e. let here : suc k ≡ v = omega (arith, e) in subst (λ (n : ℕ). IsRowOf (slice_get rows k) (threads n)) here (are (suc k)))

pub rows_at : (threads : ℕ → ThreadState) (rows : List ThreadRow) → AreRowsFrom threads 1 rows → (u : ℕ) → IsRowOf (item_at_number rows u) (threads u)
rows_at threads rows are zero = tt
rows_at threads rows are (suc k) = each_from threads rows 1 are k (suc k) (omega arith)

-- a thread is unchanged except for its number
pub record SameBut (f : ℕ → ℕ) (a b : ThreadState) : Type 0 where
  pub left : b.left ≡ a.left
  pub pending : b.pending ≡ a.pending
  pub answer : b.answer ≡ a.answer
  pub number_is : b.number ≡ f a.number
  pub dying : b.dying ≡ a.dying
  pub ended : b.ended ≡ a.ended

-- ---- the threads of the numbers

-- a number is live, is a thread's, and was given before
pub record IsTagged (owner : ℕ → ℕ) (alive : ℕ → Bool) (low u q : ℕ) : Type 0 where
  pub live : alive q ≡ true
  pub tid : owner q ≡ u
  pub below : q < low

-- the numbers that are held from a thread on
abbrev pub AreTagged : (ℕ → ℕ) → (ℕ → Bool) → ℕ → ℕ → List ThreadRow → Type 0
AreTagged owner alive low u [] = Unit {0}
AreTagged owner alive low u (row ∷ rows) = ((q : ℕ) → drawing_held row ≡ Some q → IsTagged owner alive low u q) × AreTagged owner alive low (suc u) rows

tags_each : (owner : ℕ → ℕ) (alive : ℕ → Bool) (low : ℕ) (rows : List ThreadRow) (u : ℕ) → ((k v : ℕ) (row : ThreadRow) (q : ℕ) → v ≡ k + u → slice_get rows k ≡ Some row → drawing_held row ≡ Some q → IsTagged owner alive low v q) → AreTagged owner alive low u rows
tags_each owner alive low [] u f = tt
tags_each owner alive low (row ∷ rows) u f = ((λ q e. f 0 u row q (omega arith) refl e), tags_each owner alive low rows (suc u) (λ k v other q e at held. f (suc k) v other q (omega (arith, e)) at held))

pub tags_from : (owner : ℕ → ℕ) (alive : ℕ → Bool) (low : ℕ) (rows : List ThreadRow) → ((u : ℕ) (row : ThreadRow) (q : ℕ) → item_at_number rows u ≡ Some row → drawing_held row ≡ Some q → IsTagged owner alive low u q) → AreTagged owner alive low 1 rows
tags_from owner alive low rows f = tags_each owner alive low rows 1 (λ k v row q e at held. let here : suc k ≡ v = omega (arith, e) in subst (λ (n : ℕ). IsTagged owner alive low n q) here (f (suc k) row q at held))

-- ---- the law's renewals

abbrev held_list : ℕ → ℕ → Option ℕ → List HeldCall
held_list u pid None = []
held_list u pid (Some q) = record { tid = u; pid = pid; number = q } ∷ []

module _ (st : State) (u : ℕ) (row : ThreadRow) (its : IsRow row (st.threads u)) where
  abbrev p : ℕ
  p = (st.threads u).owner

  by_way : (way : Way) (d : Bool) → row.dying ≡ d → ((q : ℕ) → cond d None (drawing_by_way row.number way) ≡ Some q → (st.threads u).number ≡ q) → held_by_way st u way ≡ held_list u p (cond d None (drawing_by_way row.number way))
  by_way Fast true e number = refl
  by_way Fast false e number = refl
  by_way (Barred n) true e number = refl
  by_way (Barred n) false e number = refl
  by_way Untraced true e number = refl
  by_way Untraced false e number = refl
  by_way (Held first) true e number = ap (λ (b : Bool). cond b [] (record { tid = u; pid = p; number = (st.threads u).number } ∷ [])) (its.dying ∙ e)
  by_way (Held first) false e number = (λ k. cond ((its.dying ∙ e) k) [] (record { tid = u; pid = p; number = number row.number refl k } ∷ []))

  by_pending : (o : Option PendingCall) → row.pending ≡ o → held_by_pending st u o ≡ held_list u p (cond row.dying None (drawing_pending row.number o))
  by_pending None e = ap (held_list u p) (sym (either_none row.dying))
  by_pending (Some entered) e = by_way entered.way row.dying refl (λ q has. its.number q (ap (λ (o : Option PendingCall). cond row.dying None (drawing_pending row.number o)) e ∙ has))

  held_is : held_by_pending st u (st.threads u).pending ≡ held_list u p (drawing_held row)
  held_is = ap (held_by_pending st u) its.pending ∙ by_pending row.pending refl

-- the held calls of the threads from u on that are of this kind are those of the threads with these processes
abbrev pub ArePicked : (ℕ → Option ℕ) → (HeldCall → Bool) → (ℕ → ℕ) → ℕ → List ThreadRow → Type 0
ArePicked pids is owner u [] = Unit {0}
ArePicked pids is owner u (row ∷ rows) =
    ((q : ℕ) → drawing_held row ≡ Some q → pids u ≡ cond (is (record { tid = u; pid = owner u; number = q })) (Some (owner u)) None) × ArePicked pids is owner (suc u) rows

picked_each : (pids : ℕ → Option ℕ) (is : HeldCall → Bool) (owner : ℕ → ℕ) (rows : List ThreadRow) (u : ℕ)
    → ((k v : ℕ) (row : ThreadRow) (q : ℕ) → v ≡ k + u → slice_get rows k ≡ Some row → drawing_held row ≡ Some q → pids v ≡ cond (is (record { tid = v; pid = owner v; number = q })) (Some (owner v)) None) → ArePicked pids is owner u rows
picked_each pids is owner [] u f = tt
picked_each pids is owner (row ∷ rows) u f = ((λ q e. f 0 u row q (omega arith) refl e), picked_each pids is owner rows (suc u) (λ k v other q e at held. f (suc k) v other q (omega (arith, e)) at held))

pub picked_from : (pids : ℕ → Option ℕ) (is : HeldCall → Bool) (owner : ℕ → ℕ) (rows : List ThreadRow)
    → ((u : ℕ) (row : ThreadRow) (q : ℕ) → item_at_number rows u ≡ Some row → drawing_held row ≡ Some q → pids u ≡ cond (is (record { tid = u; pid = owner u; number = q })) (Some (owner u)) None) → ArePicked pids is owner 1 rows
picked_from pids is owner rows f = picked_each pids is owner rows 1 (λ k v row q e at held.
    let here : suc k ≡ v = omega (arith, e) in
    subst (λ (n : ℕ). pids n ≡ cond (is (record { tid = n; pid = owner n; number = q })) (Some (owner n)) None) here (f (suc k) row q at held))

module _ (pids : ℕ → Option ℕ) where
  abbrev calls : ℕ → List ThreadRow → List RenewedCall
  calls u rows = calls_from pids u rows

  abbrev call_at : ℕ → ThreadRow → Option RenewedCall
  call_at u row = call_renewed pids u row

  module _ (is : HeldCall → Bool) where
    one_held : (u q p : ℕ) (b : Bool) (o : Option ℕ) → o ≡ cond b (Some p) None → (rest : List HeldCall) (cs : List RenewedCall) → ((n : ℕ) → renewals_by is n rest ≡ renewals_from n cs) → (next : ℕ)
        → cond b (Renewed q next ∷ renewals_by is (next + 1) rest) (renewals_by is next rest) ≡ renewals_from next (with_call (call_of o (Some q)) cs)
    one_held u q p true o e rest cs later next =
        let one : next + 1 ≡ suc next = omega arith in
        ap (λ (changes : List Change). Renewed q next ∷ changes) (later (next + 1) ∙ ap (λ (n : ℕ). renewals_from n cs) one)
        ∙ ap (λ (pid : Option ℕ). renewals_from next (with_call (call_of pid (Some q)) cs)) (sym e)
    one_held u q p false o e rest cs later next = later next ∙ ap (λ (pid : Option ℕ). renewals_from next (with_call (call_of pid (Some q)) cs)) (sym e)

    some_held : (u p : ℕ) (o : Option ℕ) → ((q : ℕ) → o ≡ Some q → pids u ≡ cond (is (record { tid = u; pid = p; number = q })) (Some p) None) → (rest : List HeldCall) (cs : List RenewedCall) → ((n : ℕ) → renewals_by is n rest ≡ renewals_from n cs) → (next : ℕ)
        → renewals_by is next (held_list u p o ++ rest) ≡ renewals_from next (with_call (call_of (pids u) o) cs)
    some_held u p None picked rest cs later next = later next ∙ ap (λ (c : Option RenewedCall). renewals_from next (with_call c cs)) (sym (no_call (pids u)))
    some_held u p (Some q) picked rest cs later next = one_held u q p (is (record { tid = u; pid = p; number = q })) (pids u) (picked q refl) rest cs later next

    -- the calls of rows are renewed as the law says
    pub law_renewals : (st : State) (rows : List ThreadRow) (u next : ℕ) → ArePicked pids is (λ t. (st.threads t).owner) u rows → AreRowsFrom st.threads u rows → renewals_by is next (held_from st u (length rows)) ≡ renewals_from next (calls u rows)
    law_renewals st [] u next picked are = refl
    law_renewals st (row ∷ rows) u next picked are =
        ap (λ (some : List HeldCall). renewals_by is next (some ++ held_from st (suc u) (length rows))) (held_is st u row are.0)
        ∙ some_held u (st.threads u).owner (drawing_held row) picked.0 (held_from st (suc u) (length rows)) (calls (suc u) rows) (λ n. law_renewals st rows (suc u) n picked.1 are.1) next

  -- ---- the row of a thread whose calls aren't renewed

  -- it makes no difference
  pub set_calls : (t : ℕ) → pids t ≡ None → (rows : List ThreadRow) (u k : ℕ) (other : ThreadRow) → k + u ≡ t → calls u (set rows k other) ≡ calls u rows
  set_calls t none [] u zero other e = refl
  set_calls t none [] u (suc k) other e = refl
  set_calls t none (row ∷ rows) u zero other e =
      let same : u ≡ t = omega (arith, e) in
      let nothing : pids u ≡ None = ap pids same ∙ none in
      (λ k. with_call (call_of (nothing k) (drawing_held other)) (calls (suc u) rows)) ∙ (λ k. with_call (call_of (sym nothing k) (drawing_held row)) (calls (suc u) rows))
  set_calls t none (row ∷ rows) u (suc k) other e = ap (with_call (call_at u row)) (set_calls t none rows (suc u) k other (omega (arith, e)))

  pub count_renewed : (rows : List ThreadRow) (u next : ℕ) → length (rows_renewed pids next u rows) ≡ length rows
  count_renewed [] u next = refl
  count_renewed (row ∷ rows) u next = ap suc (count_renewed rows (suc u) (next_after next (call_at u row)))

  -- ---- the drawings differ

  -- a call that is renewed is that which the thread holds
  of_held : (u : ℕ) (row : ThreadRow) (call : RenewedCall) → call_at u row ≡ Some call → (drawing_held row ≡ Some call.drawing) × (pids u ≡ Some call.pid)
  of_held u row call e = by (pids u) (drawing_held row) e where
    by : (pid drawing : Option ℕ) → call_of pid drawing ≡ Some call → (drawing ≡ Some call.drawing) × (pid ≡ Some call.pid)
    by None drawing e = absurd (none-some call e)
    by (Some pid) None e = absurd (none-some call e)
    by (Some pid) (Some q) e =
        let same = same_Some (record { pid = pid; drawing = q }) call e in
        (ap (λ (c : RenewedCall). Some c.drawing) same, ap (λ (c : RenewedCall). Some c.pid) same)

  module _ (owner : ℕ → ℕ) (alive : ℕ → Bool) (low : ℕ) where
    abbrev Tagged : ℕ → List ThreadRow → Type 0
    Tagged u rows = AreTagged owner alive low u rows

    -- a call that is renewed is a live one of a thread of this process
    pub record IsCallTagged (call : RenewedCall) : Type 0 where
      pub tid : ℕ
      pub pid : pids tid ≡ Some call.pid
      pub tag : IsTagged owner alive low tid call.drawing

    abbrev pub AreCallsTagged : List RenewedCall → Type 0
    AreCallsTagged [] = Unit {0}
    AreCallsTagged (call ∷ calls) = IsCallTagged call × AreCallsTagged calls

    one_tagged : (u : ℕ) (row : ThreadRow) (rows : List ThreadRow) → Tagged u (row ∷ rows) → (o : Option RenewedCall) → call_at u row ≡ o → AreCallsTagged (calls (suc u) rows) → AreCallsTagged (with_call o (calls (suc u) rows))
    one_tagged u row rows tags None e rest = rest
    one_tagged u row rows tags (Some call) e rest = (record { tid = u; pid = (of_held u row call e).1; tag = tags.0 call.drawing (of_held u row call e).0 }, rest)

    pub calls_tagged : (rows : List ThreadRow) (u : ℕ) → Tagged u rows → AreCallsTagged (calls u rows)
    calls_tagged [] u tags = tt
    calls_tagged (row ∷ rows) u tags = one_tagged u row rows tags (call_at u row) refl (calls_tagged rows (suc u) tags.1)

    one_other : (q u : ℕ) (row : ThreadRow) (cs : List RenewedCall) (o : Option RenewedCall) → call_at u row ≡ o → ((p : ℕ) → drawing_held row ≡ Some p → p ≢ q) → AreOthers q cs → AreOthers q (with_call o cs)
    one_other q u row cs None e apart rest = rest
    one_other q u row cs (Some call) e apart rest = (apart call.drawing (of_held u row call e).0, rest)

    -- the drawings of later threads are others
    others : (q : ℕ) (rows : List ThreadRow) (u : ℕ) → Tagged u rows → owner q < u → AreOthers q (calls u rows)
    others q [] u tags below = tt
    others q (row ∷ rows) u tags below = one_other q u row (calls (suc u) rows) (call_at u row) refl
        (λ p e same. let tid = (tags.0 p e).tid in let eq = ap owner same in omega (arith, tid, eq, below))
        (others q rows (suc u) tags.1 (omega (arith, below)))

    -- the drawings that are given later are others, too
    below_fresh : (n : ℕ) → low ≤ n → (rows : List ThreadRow) (u : ℕ) → Tagged u rows → AreOthers n (calls u rows)
    below_fresh n high [] u tags = tt
    below_fresh n high (row ∷ rows) u tags = one_other n u row (calls (suc u) rows) (call_at u row) refl
        (λ p e same. let below = (tags.0 p e).below in omega (arith, below, same, high))
        (below_fresh n high rows (suc u) tags.1)

    one_live : (u : ℕ) (row : ThreadRow) (rows : List ThreadRow) → Tagged u (row ∷ rows) → (o : Option RenewedCall) → call_at u row ≡ o → AreLiveAndDistinct alive (calls (suc u) rows) → AreLiveAndDistinct alive (with_call o (calls (suc u) rows))
    one_live u row rows tags None e rest = rest
    one_live u row rows tags (Some call) e rest =
        let tag = tags.0 call.drawing (of_held u row call e).0 in
        let tid = tag.tid in
        (tag.live, others call.drawing rows (suc u) tags.1 (omega (arith, tid)), rest)

    -- the calls are live, and no two have the same drawing
    pub live_apart : (rows : List ThreadRow) (u : ℕ) → Tagged u rows → AreLiveAndDistinct alive (calls u rows)
    live_apart [] u tags = tt
    live_apart (row ∷ rows) u tags = one_live u row rows tags (call_at u row) refl (live_apart rows (suc u) tags.1)

    -- ---- which drawings the changes give

    drawing_others : (q next : ℕ) (cs : List RenewedCall) → AreOthers q cs → seq_after q (renewals_from next cs) ≡ q
    drawing_others q next [] x = refl
    drawing_others q next (call ∷ cs) x = ap (λ (n : ℕ). seq_after n (renewals_from (suc next) cs)) (ap (λ (b : Bool). cond b next q) (ne_eqb call.drawing q x.0)) ∙ drawing_others q (suc next) cs x.1

    -- the drawing of a thread after one was given or not
    abbrev number_later : ℕ → Option RenewedCall → ℕ → ℕ
    number_later next None q = q
    number_later next (Some call) q = next

    here : (u next : ℕ) → low ≤ next → (row : ThreadRow) (rows : List ThreadRow) → Tagged u (row ∷ rows) → (o : Option RenewedCall) → call_at u row ≡ o → (q : ℕ) → drawing_held row ≡ Some q
        → seq_after q (renewals_from next (with_call o (calls (suc u) rows))) ≡ number_later next o q
    here u next high row rows tags None e q held = let tid = (tags.0 q held).tid in drawing_others q next (calls (suc u) rows) (others q rows (suc u) tags.1 (omega (arith, tid)))
    here u next high row rows tags (Some call) e q held =
        let same : call.drawing ≡ q = same_Some call.drawing q (sym (of_held u row call e).0 ∙ held) in
        ap (λ (n : ℕ). seq_after n (renewals_from (suc next) (calls (suc u) rows))) (ap (λ (b : Bool). cond b next q) (eq-eqb call.drawing q same))
        ∙ drawing_others next (suc next) (calls (suc u) rows) (below_fresh next high rows (suc u) tags.1)

    later : (u next : ℕ) (row : ThreadRow) (rows : List ThreadRow) → Tagged u (row ∷ rows) → (o : Option RenewedCall) → call_at u row ≡ o → (q : ℕ) → suc u ≤ owner q
        → seq_after q (renewals_from next (with_call o (calls (suc u) rows))) ≡ seq_after q (renewals_from (next_after next o) (calls (suc u) rows))
    later u next row rows tags None e q over = refl
    later u next row rows tags (Some call) e q over =
        let tid = (tags.0 call.drawing (of_held u row call e).0).tid in
        ap (λ (n : ℕ). seq_after n (renewals_from (suc next) (calls (suc u) rows))) (ap (λ (b : Bool). cond b next q) (ne_eqb call.drawing q (λ same. let eq = ap owner same in omega (arith, tid, eq, over))))

    one_row : (f : ℕ → ℕ) (next : ℕ) (row : ThreadRow) (a b : ThreadState) → SameBut f a b → IsRow row a → (o : Option RenewedCall) → ((call : RenewedCall) → o ≡ Some call → drawing_held row ≡ Some call.drawing) → ((q : ℕ) → drawing_held row ≡ Some q → f q ≡ number_later next o q) → IsRow (row_renewed next o row) b
    one_row f next row a b same its None of drawn = record { left = same.left ∙ its.left; pending = same.pending ∙ its.pending; answer = λ entered n is way. same.answer ∙ its.answer entered n is way; number = λ q e. same.number_is ∙ ap f (its.number q e) ∙ drawn q e; dying = same.dying ∙ its.dying; ended = same.ended ∙ its.ended }
    one_row f next row a b same its (Some call) of drawn = record {
      left = same.left ∙ its.left;
      pending = same.pending ∙ its.pending;
      answer = λ entered n is way. same.answer ∙ its.answer entered n is way;
      number = λ q e. let held = of call refl in same.number_is ∙ ap f (its.number call.drawing held) ∙ drawn call.drawing held ∙ (holds (record row { number = next }) q e).number;
      dying = same.dying ∙ its.dying;
      ended = same.ended ∙ its.ended;
    }

    next_above : (next : ℕ) (o : Option RenewedCall) → low ≤ next → low ≤ next_after next o
    next_above next None high = high
    next_above next (Some call) high = omega (arith, high)

    -- each row has the drawing that the changes give
    pub rows_then : (f : ℕ → ℕ) (threads after : ℕ → ThreadState) → ((u : ℕ) → u ≢ 0 → SameBut f (threads u) (after u)) → (rows : List ThreadRow) (u next : ℕ) → u ≢ 0 → low ≤ next → Tagged u rows
        → ((q : ℕ) → u ≤ owner q → f q ≡ seq_after q (renewals_from next (calls u rows))) → AreRowsFrom threads u rows → AreRowsFrom after u (rows_renewed pids next u rows)
    rows_then f threads after same [] u next there high tags drawn are = tt
    rows_then f threads after same (row ∷ rows) u next there high tags drawn are = (
      one_row f next row (threads u) (after u) (same u there) are.0 (call_at u row) (λ call e. (of_held u row call e).0)
          (λ q held. drawn q (let tid = (tags.0 q held).tid in omega (arith, tid)) ∙ here u next high row rows tags (call_at u row) refl q held),
      rows_then f threads after same rows (suc u) (next_after next (call_at u row)) (λ none. omega (arith, none)) (next_above next (call_at u row) high) tags.1
          (λ q over. drawn q (omega (arith, over)) ∙ later u next row rows tags (call_at u row) refl q over) are.1,
    )

-- ---- the messages

abbrev pub messages_after : Processes → ℕ → List RenewedCall → ℕ → (ℕ → Message) → ℕ → Message
messages_after processes version [] posted messages = messages
messages_after processes version (call ∷ calls) posted messages =
    messages_after processes version calls (suc posted) (messages_renewed (renewal_of processes version call) call.drawing (suc posted) messages)

-- the head of a call has what a renewal by this function gives it
abbrev pub IsRenewedAs : (ℕ → Option Head) → (Head → Head) → Processes → ℕ → RenewedCall → Type 0
IsRenewedAs heads renewed processes version call =
    option_map (head_renewed (renewal_of processes version call)) (heads call.drawing) ≡ option_map renewed (heads call.drawing)

-- the calls that are renewed have these heads, which a renewal changes by this function, and were given before
abbrev pub HaveHeads : (ℕ → Option Head) → (Head → Head) → Processes → ℕ → ℕ → (ℕ → Message) → List RenewedCall → Type 0
HaveHeads heads renewed processes version bound messages [] = Unit {0}
HaveHeads heads renewed processes version bound messages (call ∷ calls) =
    ((messages call.drawing).head ≡ heads call.drawing) × (call.drawing ≤ bound) × IsRenewedAs heads renewed processes version call × HaveHeads heads renewed processes version bound messages calls

module _ (heads : ℕ → Option Head) (renewed : Head → Head) (processes : Processes) (version bound : ℕ) where
  abbrev renew : RenewedCall → Head → Head
  renew call = head_renewed (renewal_of processes version call)

  heads_then : (messages : ℕ → Message) (other : RenewedCall) (posted : ℕ) → bound ≤ posted → (calls : List RenewedCall) → HaveHeads heads renewed processes version bound messages calls
      → HaveHeads heads renewed processes version bound (messages_renewed (renewal_of processes version other) other.drawing (suc posted) messages) calls
  heads_then messages other posted high [] x = tt
  heads_then messages other posted high (call ∷ calls) x =
      let low = x.1 in
      (ap (λ (b : Bool). cond b (option_map (renew other) (messages other.drawing).head) (messages call.drawing).head) (ne_eqb (suc posted) call.drawing (λ e. omega (arith, e, low, high))) ∙ x.0, low, x.2, heads_then messages other posted high calls x.3)

  -- each message has the head that the changes give it
  pub message_is : (calls : List RenewedCall) (posted : ℕ) (messages : ℕ → Message) → bound ≤ posted → HaveHeads heads renewed processes version bound messages calls → (r : ℕ)
      → messages_after processes version calls posted messages r ≡ record (messages r) { head = fold (head_after_change heads renewed r) (messages r).head (renewals_from (suc posted) calls) }
  message_is [] posted messages high x r = refl
  message_is (call ∷ calls) posted messages high x r =
      message_is calls (suc posted) (messages_renewed (renewal_of processes version call) call.drawing (suc posted) messages) (omega (arith, high)) (heads_then messages call posted high calls x.3) r
      ∙ ap (λ (h : Option Head). record (messages r) { head = fold (head_after_change heads renewed r) (cond (suc posted == r) h (messages r).head) (renewals_from (suc (suc posted)) calls) }) (ap (option_map (renew call)) x.0 ∙ x.2)

-- the messages and workers after renewals, one after the other
pub kept_all : (i : Input) (turns : ℕ → Option ℕ) (processes : Processes) (version : ℕ) (st : State) (m : ℕ) (calls : List RenewedCall) (messages : ℕ → Message) (alive : ℕ → Bool) (posted : ℕ) (workers left : UnderWay) → RepresentsMachineMessages i messages turns alive posted workers → RenewsAll processes version calls workers left
    → RepresentsMachineMessages i (messages_after processes version calls posted messages) turns (life_after_changes st m alive (renewals_from (suc posted) calls)) (fold posted_after_change posted (renewals_from (suc posted) calls)) left
kept_all i turns processes version st m [] messages alive posted workers left kept all = subst (λ (w : UnderWay). RepresentsMachineMessages i messages turns alive posted w) (sym all) kept
kept_all i turns processes version st m (call ∷ calls) messages alive posted workers left kept all =
    kept_all i turns processes version st m calls (messages_renewed (renewal_of processes version call) call.drawing (suc posted) messages) (life_after_change st m alive (Renewed call.drawing (suc posted))) (suc posted) all.0 left
    (all.1 i messages turns alive (life_after_change st m alive (Renewed call.drawing (suc posted))) posted kept (λ other. refl)) all.2
