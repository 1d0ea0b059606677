-- The numbers of a lawful run are 1, 2, 3 and so on, in the order in which they are posted.
use native.Mathlib.Omega.{arith}
use Rattle.std.proofs.Common.{◌≡◌, ℕ, zero, suc, ◌+◌, Bool, true, false, List, [], ◌∷◌, ◌++◌, length, refl, sym, ap, subst, ◌∙◌}
use Rattle.std.specs.List.{range_with_len}
use Rattle.st_base.specs.declared.ids.Ids.{Ids}
use Rattle.st_calls.specs.declared.argument.ArgText.{ArgText}
use Rattle.st_calls.specs.declared.call.SysCall.{SysCall}
use Rattle.st_effects.specs.Processes.{is_other_of, policy_changes, renewals_by}
use Rattle.st_effects.specs.System.{HeldCall}
use Rattle.st_trace.specs.declared.entry.Change.{Change}
use Rattle.st_trace.specs.declared.entry.Change.TheVariants.{Execed, Renewed}
use Rattle.st_trace.specs.declared.entry.Entry.TheVariants.{Entered, Used, Reloaded}
use Rattle.st_trace.specs.declared.entry.Way.TheVariants.{Held}
use Rattle.st_law.specs.declared.input.Input.{Input}
use Rattle.st_law.specs.Entries.{new_numbers, numbers_so_far}
use Rattle.st_law.specs.History.{looking_back}
use Rattle.st_law.specs.Lawful.{IsLawfulBack}
use Rattle.st_law.specs.Messages.{posted_at}
use Rattle.st_law.specs.State.{State, is_held_under, reload_changes, request_of, system_of}
use Rattle.st_law.specs.Threads.{History}
use Rattle.st_law.proofs.MessageHistory as messages
use Rattle.st_law.proofs.Renewals.{one_more}
use Rattle.st_law.proofs.Shapes.{IsQuiet, AreQuiet, Shape, quiet, forked, execed, renewed}
use Rattle.st_law.proofs.UsedShapes.{used_shape}

range_same : (a b m n : ℕ) → a ≡ b → m ≡ n → range_with_len a m ≡ range_with_len b n
range_same a b m n e f = λ k. range_with_len (e k) (f k)

-- a range followed by the next range is one range
range_append : (a m n : ℕ) → range_with_len a m ++ range_with_len (a + m) n ≡ range_with_len a (m + n)
range_append a zero n = range_same (a + zero) a n (zero + n) (omega arith) (omega arith)
range_append a (suc m) n =
    ap (λ row. a ∷ row) (ap (λ row. range_with_len (a + 1) m ++ row) (range_same (a + suc m) (a + 1 + m) n n (omega arith) refl) ∙ range_append (a + 1) m n)
    ∙ range_same a a (suc (m + n)) (suc m + n) refl (omega arith)

-- the new numbers that changes give are consecutive from this number on
abbrev IsRow : ℕ → List Change → Type 0
IsRow next changes = new_numbers changes ≡ range_with_len next (length (new_numbers changes))

quiet_one : (next : ℕ) (c : Change) (changes : List Change) → IsQuiet c → IsRow next changes → IsRow next (c ∷ changes)
quiet_one next (Renewed old new) changes x rest = absurd x
quiet_one next _ changes x rest = rest

quiet_row : (next : ℕ) (changes : List Change) → AreQuiet changes → IsRow next changes
quiet_row next [] x = refl
quiet_row next (c ∷ changes) x = quiet_one next c changes x.0 (quiet_row next changes x.1)

exec_row : (next space : ℕ) (binary : List ℕ) (inherit : Bool) → IsRow next (Execed binary space ∷ policy_changes inherit binary)
exec_row next space binary true = refl
exec_row next space binary false = refl

renewed_row : (is : HeldCall → Bool) (next : ℕ) (helds : List HeldCall) → IsRow next (renewals_by is next helds)
renewed_row is next [] = refl
renewed_row is next (held ∷ more) = one_more is (IsRow next) next held more
    (λ is_so. ap (λ row. next ∷ row) (renewed_row is (next + 1) more)) (λ not_so. renewed_row is next more)

reload_row : (i : Input) (st : State) (n : ℕ) (done : Bool) → IsRow (suc st.posted) (reload_changes i st n done)
reload_row i st n true = renewed_row (is_held_under i st n) (suc st.posted) (system_of i st).held
reload_row i st n false = refl

shape_row : (i : Input) (st : State) (u : ℕ) (call : SysCall) (regs : List ℕ) (args : List ArgText) (ids : Ids) (changes : List Change) → Shape (system_of i st) (request_of i st u regs args ids) call changes → IsRow (suc st.posted) changes
shape_row i st u call regs args ids changes (quiet x) = quiet_row (suc st.posted) changes x
shape_row i st u call regs args ids changes (forked is e) = subst (IsRow (suc st.posted)) (sym e) refl
shape_row i st u call regs args ids changes (execed binary e) = subst (IsRow (suc st.posted)) (sym e) (exec_row (suc st.posted) st.next_space binary i.options.inherit)
shape_row i st u call regs args ids changes (renewed set sets e) =
    subst (IsRow (suc st.posted)) (sym e) (renewed_row (is_other_of (st.threads u).owner u) (suc st.posted) (system_of i st).held)

-- the range grows by the numbers of one more entry
grown : (h : History) (more : List ℕ) (n : ℕ) → numbers_so_far h ≡ range_with_len 1 (posted_at h) → more ≡ range_with_len (suc (posted_at h)) (length more) → n ≡ posted_at h + length more → numbers_so_far h ++ more ≡ range_with_len 1 n
grown h more n before row count =
    (λ k. before k ++ row k) ∙ ap (λ later. range_with_len 1 (posted_at h) ++ later) (range_same (suc (posted_at h)) (1 + posted_at h) (length more) (length more) (omega arith) refl)
    ∙ range_append 1 (posted_at h) (length more) ∙ range_same 1 1 (posted_at h + length more) n refl (sym count)

pub numbers : (i : Input) (h : History) → IsLawfulBack i h → numbers_so_far h ≡ range_with_len 1 (posted_at h)
numbers i [] lawful = refl
numbers i (Entered t call regs (Held q) ∷ h) lawful =
    let drawn : q ≡ suc (posted_at h) = lawful.0.way_is.1 in
    grown h (q ∷ []) (suc (posted_at h)) (numbers i h lawful.1) (ap (λ n. n ∷ []) drawn) (omega arith)
numbers i (Used t seq call regs args ids result changes ∷ h) lawful =
    grown h (new_numbers changes) (posted_at (Used t seq call regs args ids result changes ∷ h)) (numbers i h lawful.1)
    (shape_row i (looking_back i h) t call regs args ids changes (used_shape i (looking_back i h) t call regs args ids result changes seq lawful.0))
    (messages.posted_changes (posted_at h) changes)
numbers i (Reloaded t n done changes ∷ h) lawful =
    grown h (new_numbers changes) (posted_at (Reloaded t n done changes ∷ h)) (numbers i h lawful.1)
    (subst (IsRow (suc (posted_at h))) (sym lawful.0.changes_are) (reload_row i (looking_back i h) n done))
    (messages.posted_changes (posted_at h) changes)
numbers i (_ ∷ h) lawful = numbers i h lawful.1
