-- How many numbers a call posts: none or, if it sets ids, at most one for each held call.
use native.Mathlib.Omega.{arith}
use Rattle.std.proofs.Common.{◌≡◌, ◌⊎◌, ◌≤◌, ℕ, suc, ◌+◌, Bool, true, false, List, ◌∷◌, Option, refl, sym, ap, subst, inl, inr}
use Rattle.std.specs.List.{fold}
use Rattle.st_base.specs.declared.ids.Ids.{Ids}
use Rattle.st_calls.specs.declared.argument.ArgText.{ArgText}
use Rattle.st_calls.specs.declared.call.SysCall.{SysCall}
use Rattle.st_effects.specs.Processes.{is_other_of, policy_changes}
use Rattle.st_trace.specs.declared.entry.CallResult.{CallResult}
use Rattle.st_trace.specs.declared.entry.Change.{Change}
use Rattle.st_trace.specs.declared.entry.Change.TheVariants.{Execed}
use Rattle.st_law.specs.declared.input.Input.{Input}
use Rattle.st_law.specs.Lawful.{IsUsed}
use Rattle.st_law.specs.Messages.{posted_after_change}
use Rattle.st_calls.specs.Call.{sets_ids}
use Rattle.st_law.specs.State.{State, thread_count, held_from, is_held_under, reload_changes, system_of, request_of}
use Rattle.st_law.proofs.HeldCalls.{few_held}
use Rattle.st_law.proofs.QuietChanges.{mute_of_quiet, posted_mute}
use Rattle.st_law.proofs.Renewals.{posted_high}
use Rattle.st_law.proofs.Shapes.{Shape, quiet, forked, execed, renewed}
use Rattle.st_law.proofs.UsedShapes.{used_shape}

module _ (i : Input) (st : State) (few : thread_count i ≤ 64) (u : ℕ) (call : SysCall) where
  abbrev posted_by : List Change → ℕ
  posted_by changes = fold posted_after_change st.posted changes

  -- no number is posted, or ids are set and at most 64 are posted
  abbrev pub PostsFew : List Change → Type 0
  PostsFew changes = (posted_by changes ≡ st.posted) ⊎ ((sets_ids call ≡ true) × (posted_by changes ≤ st.posted + 64))

  exec_posts : (binary : List ℕ) (inherit : Bool) → PostsFew (Execed binary st.next_space ∷ policy_changes inherit binary)
  exec_posts binary true = inl refl
  exec_posts binary false = inl refl

  shape_posts : (regs : List ℕ) (args : List ArgText) (ids : Ids) (changes : List Change) → Shape (system_of i st) (request_of i st u regs args ids) call changes → PostsFew changes
  shape_posts regs args ids changes (quiet x) = inl (posted_mute st.posted changes (mute_of_quiet changes x))
  shape_posts regs args ids changes (forked is e) = inl (ap posted_by e)
  shape_posts regs args ids changes (execed binary e) = subst PostsFew (sym e) (exec_posts binary i.options.inherit)
  shape_posts regs args ids changes (renewed set sets e) = subst PostsFew (sym e)
      (inr (sets, let high = posted_high (is_other_of (st.threads u).owner u) st.posted (suc st.posted) (held_from st 1 (thread_count i)) in let held = few_held st 1 (thread_count i) in omega (arith, high, held, few)))

  -- how many numbers a call that is made posts
  pub used_posts : (regs : List ℕ) (args : List ArgText) (ids : Ids) (result : CallResult) (changes : List Change) (seq : Option ℕ) → IsUsed i st u seq call regs args ids result changes → PostsFew changes
  used_posts regs args ids result changes seq x = shape_posts regs args ids changes (used_shape i st u call regs args ids result changes seq x)

-- a reload posts at most 64 numbers
pub reload_posts : (i : Input) (st : State) → thread_count i ≤ 64 → (n : ℕ) (done : Bool) → fold posted_after_change st.posted (reload_changes i st n done) ≤ st.posted + 64
reload_posts i st few n true =
    let high = posted_high (is_held_under i st n) st.posted (suc st.posted) (held_from st 1 (thread_count i)) in let held = few_held st 1 (thread_count i) in omega (arith, high, held, few)
reload_posts i st few n false = omega arith
