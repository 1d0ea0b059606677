-- All invariants of the state of a lawful run, together.
use native.Mathlib.Omega.{arith}
use Rattle.std.proofs.Common.{◌≡◌, ◌≤◌, ℕ, zero, suc, Bool, true, false, ◌||◌, ◌==◌, [], ◌∷◌, Option, Some, None, refl, ap, subst, ◌∙◌}
use Rattle.std.proofs.lemmas.Bool.{eqb-true}
use Rattle.st_trace.specs.declared.entry.Entry.{Entry}
use Rattle.st_trace.specs.declared.entry.Entry.TheVariants.{Stored, Entered, Claimed, Copied, Looked, Faulted, Answered, Used, Denied, Ended, Replied, Learned, Reloaded}
use Rattle.st_law.specs.declared.input.Input.{Input}
use Rattle.st_law.specs.History.{looking_back}
use Rattle.st_law.specs.Inputs.{IsStartable}
use Rattle.st_law.specs.Lawful.{IsLawful, IsLawfulBack}
use Rattle.st_law.specs.Machine.{first_state, state_after}
use Rattle.st_law.specs.Messages.{Head}
use Rattle.st_law.specs.State.{State, is_live_by, is_live}
use Rattle.st_law.specs.Threads.{History}
use Rattle.st_law.proofs.Invariant.{Invariant}
use Rattle.st_law.proofs.Laws.{at_first}
use Rattle.st_law.proofs.Moves.{Moves, moves}
use Rattle.st_law.proofs.Preserved.{following}
use Rattle.st_law.proofs.Turns.{Turns, unlike}
use Rattle.st_law.proofs.TurnsKept.{turns_after}

-- no message has the number 0, and each claimed number has a head
pub record Posted (st : State) : Type 0 where
  pub zero : (st.messages 0).head ≡ None
  pub claimed : (q : ℕ) → (st.messages q).claimed ≡ true → (head : Head) × ((st.messages q).head ≡ Some head)

-- a live number has a head
pub live_head : (st : State) (q : ℕ) → is_live st q ≡ true → (head : Head) × ((st.messages q).head ≡ Some head)
live_head st q live = by (st.messages q).head refl live where
  by : (o : Option Head) → (st.messages q).head ≡ o → is_live_by o (st.messages q).closed (λ t. (st.threads t).dying) ≡ true → (head : Head) × ((st.messages q).head ≡ Some head)
  by None e x = cc
  by (Some head) e x = (head, e)

-- a live number isn't 0
pub live_number : (st : State) → Posted st → (q : ℕ) → is_live st q ≡ true → 1 ≤ q
live_number st posted zero live = absurd (unlike (is_live st 0) live (ap (λ o. is_live_by o (st.messages 0).closed (λ t. (st.threads t).dying)) posted.zero))
live_number st posted (suc q) live = omega arith

pub record Whole (i : Input) (st : State) : Type 0 where
  pub calls : Invariant i st
  pub turns : Turns i st
  pub posted : Posted st

module _ (i : Input) (st : State) (whole : Whole i st) where
  kept_head : (new : State) → Moves st new → (q : ℕ) → (st.messages q).claimed ≡ true → (head : Head) × ((new.messages q).head ≡ Some head)
  kept_head new moved q claimed = let x : (head : Head) × ((st.messages q).head ≡ Some head) = whole.posted.claimed q claimed in
      (x.0, moved.heads q (whole.turns.low q claimed) ∙ x.1)

  claimed_head : (w q p : ℕ) → is_live st q ≡ true → (b : Bool) → (q == p) ≡ b → (b || (st.messages p).claimed) ≡ true → (head : Head) × ((st.messages p).head ≡ Some head)
  claimed_head w q p live true e claimed = subst (λ n. (head : Head) × ((st.messages n).head ≡ Some head)) (eqb-true q p e) (live_head st q live)
  claimed_head w q p live false e claimed = whole.posted.claimed p claimed

  posted_later : (e : Entry) → IsLawful i st e → Moves st (state_after i st e) → Posted (state_after i st e)
  posted_later (Claimed w q) y moved = record { zero = whole.posted.zero; claimed = λ p f. claimed_head w q p y.live (q == p) refl f }
  posted_later (Stored u place word) y moved = record { zero = moved.heads 0 (omega arith) ∙ whole.posted.zero; claimed = λ p f. kept_head (state_after i st (Stored u place word)) moved p f }
  posted_later (Entered u call regs way) y moved = record { zero = moved.heads 0 (omega arith) ∙ whole.posted.zero; claimed = λ p f. kept_head (state_after i st (Entered u call regs way)) moved p f }
  posted_later (Copied q part place word) y moved = record { zero = moved.heads 0 (omega arith) ∙ whole.posted.zero; claimed = λ p f. kept_head (state_after i st (Copied q part place word)) moved p f }
  posted_later (Looked q part name seen) y moved = record { zero = moved.heads 0 (omega arith) ∙ whole.posted.zero; claimed = λ p f. kept_head (state_after i st (Looked q part name seen)) moved p f }
  posted_later (Faulted q errno) y moved = record { zero = moved.heads 0 (omega arith) ∙ whole.posted.zero; claimed = λ p f. kept_head (state_after i st (Faulted q errno)) moved p f }
  posted_later (Answered w s v applied) y moved = record { zero = moved.heads 0 (omega arith) ∙ whole.posted.zero; claimed = λ p f. kept_head (state_after i st (Answered w s v applied)) moved p f }
  posted_later (Used u seq call regs args ids result changes) y moved = record { zero = moved.heads 0 (omega arith) ∙ whole.posted.zero; claimed = λ p f. kept_head (state_after i st (Used u seq call regs args ids result changes)) moved p f }
  posted_later (Reloaded u n done changes) y moved = record { zero = moved.heads 0 (omega arith) ∙ whole.posted.zero; claimed = λ p f. kept_head (state_after i st (Reloaded u n done changes)) moved p f }
  posted_later (Denied u seq errno cause) y moved = record { zero = moved.heads 0 (omega arith) ∙ whole.posted.zero; claimed = λ p f. kept_head (state_after i st (Denied u seq errno cause)) moved p f }
  posted_later (Ended u) y moved = record { zero = moved.heads 0 (omega arith) ∙ whole.posted.zero; claimed = λ p f. kept_head (state_after i st (Ended u)) moved p f }
  posted_later (Learned q n) y moved = record { zero = moved.heads 0 (omega arith) ∙ whole.posted.zero; claimed = λ p f. kept_head (state_after i st (Learned q n)) moved p f }
  posted_later (Replied q reply n) y moved = record { zero = moved.heads 0 (omega arith) ∙ whole.posted.zero; claimed = λ p f. kept_head (state_after i st (Replied q reply n)) moved p f }

  -- all invariants are kept by each lawful entry
  pub whole_after : (e : Entry) → IsLawful i st e → Whole i (state_after i st e)
  whole_after e y = record {
    calls = following i st whole.calls e y;
    turns = turns_after i st whole.calls whole.turns e y;
    posted = posted_later e y (moves i st whole.calls e y);
  }

turns_first : (i : Input) → Turns i (first_state i)
turns_first i = record {
  worker = λ w q e. cc;
  claimed = λ w q e. cc;
  unanswered = λ w q e. cc;
  unfaulted = λ w q e. cc;
  one = λ v w q e f. cc;
  low = λ q e. cc;
  fresh = λ q e. record { words = λ j. refl; lookups = λ j. refl; fault = refl; answered = refl };
  served = λ q e live unanswered unfaulted. cc;
  ready = λ q e. cc;
  sound = λ q e. cc;
}

-- all invariants hold after a lawful history
pub whole_of : (i : Input) → IsStartable i → (h : History) → IsLawfulBack i h → Whole i (looking_back i h)
whole_of i startable [] lawful = record { calls = at_first i startable; turns = turns_first i; posted = record { zero = refl; claimed = λ q e. cc } }
whole_of i startable (e ∷ h) lawful = whole_after i (looking_back i h) (whole_of i startable h lawful.1) e lawful.0
