-- Which numbers are live after each kind of entry, as a function of the number.
use Rattle.std.proofs.Common.{◌≡◌, ℕ, suc, Bool, true, false, cond, ◌==◌, List, [], ◌∷◌, Option, Some, None, refl, ap, ◌∙◌}
use Rattle.st_base.specs.declared.errno.Errno.{Errno}
use Rattle.st_base.specs.declared.ids.Ids.{Ids}
use Rattle.st_calls.specs.declared.argument.ArgText.{ArgText}
use Rattle.st_calls.specs.declared.call.SysCall.{SysCall}
use Rattle.st_effects.specs.Processes.{policy_changes, renewals}
use Rattle.st_trace.specs.declared.entry.CallResult.{CallResult}
use Rattle.st_trace.specs.declared.entry.Cause.{Cause}
use Rattle.st_trace.specs.declared.entry.Change.{Change}
use Rattle.st_trace.specs.declared.entry.Change.TheVariants.{Execed, SetIds, Dying, Renewed}
use Rattle.st_trace.specs.declared.entry.Entry.{Entry}
use Rattle.st_trace.specs.declared.entry.Entry.TheVariants.{Entered, Used, Denied, Reloaded}
use Rattle.st_trace.specs.declared.entry.Way.TheVariants.{Fast, Barred, Held, Untraced}
use Rattle.st_law.specs.declared.input.Input.{Input}
use Rattle.st_law.specs.Lawful.{IsEntered, IsReloaded, IsUsed}
use Rattle.st_law.specs.Machine.{state_after}
use Rattle.st_law.specs.State.{State, held_from, is_live, thread_count}
use Rattle.st_law.proofs.Shapes.{Each}
use Rattle.st_reached.specs.Reached.{is_number_of, life_after_changes, life_without}
use Rattle.st_reached.proofs.Life.{closed_life, entered_life, eqb-sym, reloaded_is, used_life}
use Rattle.st_reached.proofs.Reached.{Reached}

-- an entry that neither enters nor denies a held call, makes none and reloads nothing: the same numbers are live after it
abbrev pub LeavesNumbers : Entry → Type 0
LeavesNumbers (Entered t call regs (Held q)) = ⊥
LeavesNumbers (Used t seq call regs args ids result changes) = ⊥
LeavesNumbers (Denied t (Some q) errno cause) = ⊥
LeavesNumbers (Reloaded t n done changes) = ⊥
LeavesNumbers _ = Unit {0}

pub kept_life : (i : Input) (st : State) (e : Entry) → LeavesNumbers e → (other : ℕ) → is_live (state_after i st e) other ≡ is_live st other
kept_life i st (Entered t call regs Fast) x other = refl
kept_life i st (Entered t call regs Untraced) x other = refl
kept_life i st (Entered t call regs (Barred n)) x other = refl
kept_life i st (Entered t call regs (Held q)) x other = absurd x
kept_life i st (Used t seq call regs args ids result changes) x other = absurd x
kept_life i st (Denied t None errno cause) x other = refl
kept_life i st (Denied t (Some q) errno cause) x other = absurd x
kept_life i st (Reloaded t n done changes) x other = absurd x
kept_life i st _ x other = refl

-- the number of a call that is made or denied
pub life_without_number : (st : State) (q other : ℕ) → life_without st (Some q) other ≡ cond (other == q) false (is_live st other)
life_without_number st q other = ap (λ b. cond b false (is_live st other)) (eqb-sym q other)

-- a change that ends no process's numbers and renews none
abbrev pub IsPlain : Change → Type 0
IsPlain (Execed binary space) = ⊥
IsPlain (Dying pid) = ⊥
IsPlain (Renewed old new) = ⊥
IsPlain _ = Unit {0}

plain_same : (st : State) (m : ℕ) (alive : ℕ → Bool) (changes : List Change) → Each IsPlain changes → (other : ℕ) → life_after_changes st m alive changes other ≡ alive other
plain_same st m alive [] plain other = refl
plain_same st m alive (Execed binary space ∷ changes) plain other = absurd plain.0
plain_same st m alive (Dying pid ∷ changes) plain other = absurd plain.0
plain_same st m alive (Renewed old new ∷ changes) plain other = absurd plain.0
plain_same st m alive (_ ∷ changes) plain other = plain_same st m alive changes plain.1 other

module _ (i : Input) (st : State) (reached : Reached i st) where
  -- a held call posts its number
  pub held_life : (u p : ℕ) (call : SysCall) (regs : List ℕ) → IsEntered i st u call regs (Held p) → (other : ℕ) → is_live (state_after i st (Entered u call regs (Held p))) other ≡ cond (other == p) true (is_live st other)
  held_life u p call regs y other = entered_life i st reached.whole.calls reached.owned other u p call regs y

  -- the numbers that are live after a reload, by its changes, one after the other
  pub reloaded_life : (t n : ℕ) (done : Bool) (changes : List Change) → IsReloaded i st t n done changes → (q : ℕ) → is_live (state_after i st (Reloaded t n done changes)) q ≡ life_after_changes st (st.threads t).owner (is_live st) changes q
  reloaded_life t n done changes law q = reloaded_is i st reached.whole.calls reached.owned q t n done changes law

  module _ (u : ℕ) (seq : Option ℕ) (call : SysCall) (regs : List ℕ) (args : List ArgText) (ids : Ids) (result : CallResult) where
    abbrev Made : List Change → Type 0
    Made changes = IsUsed i st u seq call regs args ids result changes

    abbrev life_then : List Change → ℕ → Bool
    life_then changes other = is_live (state_after i st (Used u seq call regs args ids result changes)) other

    -- the numbers that are live after a call, by its changes, one after the other
    pub life_is : (changes : List Change) → Made changes → (other : ℕ) → life_then changes other ≡ life_after_changes st (st.threads u).owner (life_without st seq) changes other
    life_is changes y other = used_life i st reached.whole.calls reached.owned other u seq call regs args ids result changes y

    -- the numbers that are live after changes none of which ends a process's numbers or renews one
    pub plain_life : (changes : List Change) → Each IsPlain changes → Made changes → (other : ℕ) → life_then changes other ≡ life_without st seq other
    plain_life changes plain y other = life_is changes y other ∙ plain_same st (st.threads u).owner (life_without st seq) changes plain other

    -- exit and kill
    pub dying_life : (p : ℕ) → Made (Dying p ∷ []) → (other : ℕ) → life_then (Dying p ∷ []) other ≡ cond (is_number_of st p other) false (life_without st seq other)
    dying_life p y other = life_is (Dying p ∷ []) y other

    -- execve
    pub execed_life : (binary : List ℕ) (space : ℕ) (inherit : Bool) → Made (Execed binary space ∷ policy_changes inherit binary) → (other : ℕ)
        → life_then (Execed binary space ∷ policy_changes inherit binary) other ≡ cond (is_number_of st (st.threads u).owner other) false (life_without st seq other)
    execed_life binary space true y other = life_is (Execed binary space ∷ policy_changes true binary) y other
    execed_life binary space false y other = life_is (Execed binary space ∷ policy_changes false binary) y other

    -- calls that set ids, one renewal after the other
    pub renewed_life : (set : Ids) → Made (SetIds set ∷ renewals (st.threads u).owner u (suc st.posted) (held_from st 1 (thread_count i))) → (other : ℕ)
        → life_then (SetIds set ∷ renewals (st.threads u).owner u (suc st.posted) (held_from st 1 (thread_count i))) other
        ≡ life_after_changes st (st.threads u).owner (life_without st seq) (renewals (st.threads u).owner u (suc st.posted) (held_from st 1 (thread_count i))) other
    renewed_life set y other = life_is (SetIds set ∷ renewals (st.threads u).owner u (suc st.posted) (held_from st 1 (thread_count i))) y other

-- a call that is denied
pub denied_life : (i : Input) (st : State) (u q : ℕ) (errno : Errno) (cause : Cause) (other : ℕ) → is_live (state_after i st (Denied u (Some q) errno cause)) other ≡ cond (other == q) false (is_live st other)
denied_life i st u q errno cause other =
    closed_life (q == other) (st.messages other).closed (st.messages other).head (λ t. (st.threads t).dying) ∙ life_without_number st q other
