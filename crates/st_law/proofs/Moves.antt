-- How the state of a lawful run moves: posted numbers keep their heads, and what was closed or dying stays so.
use native.Mathlib.Omega.{arith}
use Rattle.std.proofs.Common.{◌≡◌, ◌≤◌, ℕ, suc, Bool, true, false, cond, not, ◌&&◌, ◌==◌, List, [], ◌∷◌, Option, Some, None, refl, sym, ap, subst, ◌∙◌}
use Rattle.std.proofs.lemmas.Bool.{ne_eqb, or_parts, or_right, and_parts}
use Rattle.std.specs.List.{fold}
use Rattle.st_base.specs.declared.ids.Ids.{Ids}
use Rattle.st_calls.specs.declared.argument.ArgText.{ArgText}
use Rattle.st_calls.specs.declared.call.SysCall.{SysCall}
use Rattle.st_model.specs.Tree.{is_number}
use Rattle.st_trace.specs.declared.entry.CallResult.{CallResult}
use Rattle.st_trace.specs.declared.entry.Change.{Change}
use Rattle.st_trace.specs.declared.entry.Change.TheVariants.{Made, Linked, Removed, Renamed, Written, Cut, Moded, Owned, Put, Forked, Execed, SetIds, Cwd, Dying, Renewed, Policy}
use Rattle.st_trace.specs.declared.entry.Entry.{Entry}
use Rattle.st_trace.specs.declared.entry.Entry.TheVariants.{Stored, Entered, Claimed, Copied, Looked, Faulted, Answered, Used, Denied, Ended, Replied, Learned, Reloaded}
use Rattle.st_trace.specs.declared.entry.Way.{Way}
use Rattle.st_trace.specs.declared.entry.Way.TheVariants.{Fast, Barred, Held, Untraced}
use Rattle.st_law.specs.declared.input.Input.{Input}
use Rattle.st_law.specs.Lawful.{IsLawful, IsUsed, IsEntered}
use Rattle.st_law.specs.Machine.{state_after}
use Rattle.st_law.specs.Messages.{Head, new_head, is_renewed_by}
use Rattle.st_law.specs.State.{State, process_in, is_live_by, is_live, is_held_under, held_from, reload_changes, thread_count}
use Rattle.st_law.proofs.Invariant.{Invariant}
use Rattle.st_law.proofs.Preserved.{UsedKeeps, used_keeps}
use Rattle.st_law.proofs.QuietChanges.{undying_before}
use Rattle.st_law.proofs.ReloadKept.{done_stays}
use Rattle.st_law.proofs.Renewals.{posted_low}

-- how one state follows from another
pub record Moves (st new : State) : Type 0 where
  pub posted : st.posted ≤ new.posted
  pub heads : (q : ℕ) → q ≤ st.posted → (new.messages q).head ≡ (st.messages q).head
  pub open_before : (q : ℕ) → (new.messages q).closed ≡ false → (st.messages q).closed ≡ false
  pub undying_before : (t : ℕ) → (new.threads t).dying ≡ false → (st.threads t).dying ≡ false

renewed_more : (q : ℕ) (c : Change) → is_renewed_by q true c ≡ true
renewed_more q (Made name obj kind uid gid mode) = refl
renewed_more q (Linked name obj) = refl
renewed_more q (Removed name) = refl
renewed_more q (Renamed old new) = refl
renewed_more q (Written obj at bytes) = refl
renewed_more q (Cut obj len) = refl
renewed_more q (Moded obj mode) = refl
renewed_more q (Owned obj uid gid) = refl
renewed_more q (Put space at bytes) = refl
renewed_more q (Forked pid space tid) = refl
renewed_more q (Execed binary space) = refl
renewed_more q (SetIds ids) = refl
renewed_more q (Cwd name) = refl
renewed_more q (Dying pid) = refl
renewed_more q (Renewed old new) = or_right (old == q) true refl
renewed_more q (Policy binary) = refl

fold_renewed : (q : ℕ) (changes : List Change) → fold (is_renewed_by q) true changes ≡ true
fold_renewed q [] = refl
fold_renewed q (c ∷ changes) = ap (λ b. fold (is_renewed_by q) b changes) (renewed_more q c) ∙ fold_renewed q changes

-- a number that is open after changes was open before them
pub open_if : (q : ℕ) (before : Bool) (changes : List Change) → fold (is_renewed_by q) before changes ≡ false → before ≡ false
open_if q true changes e = let closed : fold (is_renewed_by q) true changes ≡ true = fold_renewed q changes in cc
open_if q false changes e = refl

-- a live number was live before, if it was posted
pub live_before : (st new : State) → Moves st new → (q : ℕ) → q ≤ st.posted → is_live new q ≡ true → is_live st q ≡ true
live_before st new moves q low live = by (st.messages q).head refl (subst (λ o. is_live_by o (new.messages q).closed (λ t. (new.threads t).dying) ≡ true) (moves.heads q low) live) where
  by : (o : Option Head) → (st.messages q).head ≡ o → is_live_by (st.messages q).head (new.messages q).closed (λ t. (new.threads t).dying) ≡ true → is_live_by (st.messages q).head (st.messages q).closed (λ t. (st.threads t).dying) ≡ true
  by None e x = absurd (none_lives (subst (λ o. is_live_by o (new.messages q).closed (λ t. (new.threads t).dying) ≡ true) e x)) where
    none_lives : false ≡ true → ⊥
    none_lives f = cc
  by (Some head) e x =
      let parts : (not (new.messages q).closed ≡ true) × (not (new.threads head.tid).dying ≡ true) =
      and_parts (not (new.messages q).closed) (not (new.threads head.tid).dying) (subst (λ o. is_live_by o (new.messages q).closed (λ t. (new.threads t).dying) ≡ true) e x) in
      subst (λ o. is_live_by o (st.messages q).closed (λ t. (st.threads t).dying) ≡ true) (sym e)
      ((λ k. not (moves.open_before q (not_so (new.messages q).closed parts.0) k) && not (moves.undying_before head.tid (not_so (new.threads head.tid).dying parts.1) k))) where
        not_so : (b : Bool) → not b ≡ true → b ≡ false
        not_so true f = cc
        not_so false f = refl

module _ (i : Input) (st : State) (inv : Invariant i st) where
  used_moves : (u : ℕ) (seq : Option ℕ) (call : SysCall) (regs : List ℕ) (args : List ArgText) (ids : Ids) (result : CallResult) (changes : List Change) → IsUsed i st u seq call regs args ids result changes → Moves st (state_after i st (Used u seq call regs args ids result changes))
  used_moves u seq call regs args ids result changes x =
      let y : UsedKeeps i st inv u seq call regs args ids result changes = used_keeps i st inv u seq call regs args ids result changes x in record {
        posted = y.keeps.posted;
        heads = y.keeps.stays;
        open_before = λ q e. open_if q (st.messages q).closed changes ((or_parts (is_number q seq) (fold (is_renewed_by q) (st.messages q).closed changes) e).1);
        undying_before = λ t e. undying_before t (st.threads t).owner u (st.threads u).owner (st.threads t).dying changes e;
      }

  entered_moves : (u : ℕ) (call : SysCall) (regs : List ℕ) (way : Way) → IsEntered i st u call regs way → Moves st (state_after i st (Entered u call regs way))
  entered_moves u call regs Fast x = record { posted = omega arith; heads = λ q low. refl; open_before = λ q e. e; undying_before = λ t e. e }
  entered_moves u call regs Untraced x = record { posted = omega arith; heads = λ q low. refl; open_before = λ q e. e; undying_before = λ t e. e }
  entered_moves u call regs (Barred n) x = record { posted = omega arith; heads = λ q low. refl; open_before = λ q e. e; undying_before = λ t e. e }
  entered_moves u call regs (Held p) x = record {
    posted = omega arith;
    heads = λ q low. let drawn : p ≡ suc st.posted = x.way_is.1 in ap (λ b. cond b (Some (new_head i u (st.threads u).owner (process_in st u) (st.versions (process_in st u).policy) call regs)) (st.messages q).head) (ne_eqb p q (λ same. omega (arith, same, drawn, low)));
    open_before = λ q e. e;
    undying_before = λ t e. e;
  }

  reloaded_moves : (u n : ℕ) (done : Bool) → Moves st (state_after i st (Reloaded u n done (reload_changes i st n done)))
  reloaded_moves u n true = record {
    posted = posted_low (is_held_under i st n) st.posted (suc st.posted) (held_from st 1 (thread_count i));
    heads = done_stays i st inv u n;
    open_before = λ q e. open_if q (st.messages q).closed (reload_changes i st n true) e;
    undying_before = λ t e. undying_before t (st.threads t).owner u (st.threads u).owner (st.threads t).dying (reload_changes i st n true) e;
  }
  reloaded_moves u n false = record { posted = omega arith; heads = λ q low. refl; open_before = λ q e. e; undying_before = λ t e. e }

  -- how a lawful entry moves the state
  pub moves : (e : Entry) → IsLawful i st e → Moves st (state_after i st e)
  moves (Entered u call regs way) x = entered_moves u call regs way x
  moves (Used u seq call regs args ids result changes) x = used_moves u seq call regs args ids result changes x
  moves (Reloaded u n done changes) x = subst (λ cs. Moves st (state_after i st (Reloaded u n done cs))) (sym x.changes_are) (reloaded_moves u n done)
  moves (Denied u seq errno cause) x = record { posted = omega arith; heads = λ q low. refl; open_before = λ q e. (or_parts (is_number q seq) (st.messages q).closed e).1; undying_before = λ t e. e }
  moves (Stored u place word) x = record { posted = omega arith; heads = λ p low. refl; open_before = λ p e. e; undying_before = λ t e. e }
  moves (Claimed w q) x = record { posted = omega arith; heads = λ p low. refl; open_before = λ p e. e; undying_before = λ t e. e }
  moves (Copied q part place word) x = record { posted = omega arith; heads = λ p low. refl; open_before = λ p e. e; undying_before = λ t e. e }
  moves (Looked q part name seen) x = record { posted = omega arith; heads = λ p low. refl; open_before = λ p e. e; undying_before = λ t e. e }
  moves (Faulted q errno) x = record { posted = omega arith; heads = λ p low. refl; open_before = λ p e. e; undying_before = λ t e. e }
  moves (Answered w s v applied) x = record { posted = omega arith; heads = λ p low. refl; open_before = λ p e. e; undying_before = λ t e. e }
  moves (Ended u) x = record { posted = omega arith; heads = λ p low. refl; open_before = λ p e. e; undying_before = λ t e. e }
  moves (Learned q n) x = record { posted = omega arith; heads = λ p low. refl; open_before = λ p e. e; undying_before = λ t e. e }
  moves (Replied q reply n) x = record { posted = omega arith; heads = λ p low. refl; open_before = λ p e. e; undying_before = λ t e. e }
