-- A call that the kernel answers by itself keeps the answer of its entering: a barred call is denied with its error and is never made, and a
-- fast call is never denied.
use Rattle.std.proofs.Common.{◌≡◌, ◌≢◌, ℕ, cond, List, [], ◌∷◌, ◌++◌, Option, Some, None, refl, sym, ap, subst, ◌∙◌}
use Rattle.std.proofs.lemmas.Bool.{eq-eqb, ne_eqb}
use Rattle.std.proofs.lemmas.Option.{same_Some}
use Rattle.st_base.specs.declared.errno.Errno.{Errno}
use Rattle.st_base.specs.declared.ids.Ids.{Ids}
use Rattle.st_calls.specs.declared.argument.ArgText.{ArgText}
use Rattle.st_calls.specs.declared.call.SysCall.{SysCall}
use Rattle.st_calls.specs.declared.rule.FastAnswer.{FastAnswer}
use Rattle.st_calls.specs.declared.rule.FastAnswer.TheVariants as answer
use Rattle.st_trace.specs.declared.entry.CallResult.{CallResult}
use Rattle.st_trace.specs.declared.entry.Cause.{Cause}
use Rattle.st_trace.specs.declared.entry.Change.{Change}
use Rattle.st_trace.specs.declared.entry.Entry.{Entry}
use Rattle.st_trace.specs.declared.entry.Entry.TheVariants.{Stored, Entered, Claimed, Copied, Looked, Faulted, Answered, Used, Denied, Ended, Replied, Learned, Reloaded}
use Rattle.st_trace.specs.declared.entry.Way.{Way}
use Rattle.st_trace.specs.declared.entry.Way.TheVariants.{Fast, Barred, Held}
use Rattle.st_law.specs.declared.input.Input.{Input}
use Rattle.st_law.specs.Bars.{EndsCallOf, IsDeniedByBar, IsEnteredSince, answer_at}
use Rattle.st_law.specs.History.{looking_back}
use Rattle.st_law.specs.Lawful.{IsEntered, IsUnheld, IsLawful, IsLawfulBack}
use Rattle.st_law.specs.Machine.{state_after}
use Rattle.st_law.specs.Splits.{NoneTouches}
use Rattle.st_law.specs.State.{State, process_in, answer_in}
use Rattle.st_law.specs.Threads.{History, PendingCall, child_of_next}

module _ (i : Input) (t : ℕ) (call : SysCall) (regs : List ℕ) (way : Way) where
  abbrev Entering : ℕ → PendingCall
  Entering child = record { call = call; regs = regs; way = way; child = child }

  -- ---- one entry

  -- a thread has this call pending, and keeps this answer to it
  record Pends (st : State) (given : FastAnswer) : Type 0 where
    pub child : ℕ
    pub pending : (st.threads t).pending ≡ Some (Entering child)
    pub answer : (st.threads t).answer ≡ given

  module _ (st : State) (given : FastAnswer) (x : Pends st given) where
    -- a thread enters no call while it has one pending
    other_enters : (u : ℕ) → (st.threads u).pending ≡ None → u ≢ t
    other_enters u idle same = clash (sym idle ∙ ap (λ v. (st.threads v).pending) same ∙ x.pending) where
      clash : None ≡ Some (Entering x.child) → ⊥
      clash e = cc

    -- the call is kept by each lawful entry that neither makes nor denies it
    pends_on : (e : Entry) (h : History) → IsLawful i st e → (EndsCallOf t e h → ⊥) → Pends (state_after i st e) given
    pends_on (Used u seq made regs_given args ids result changes) h y other = record { child = x.child; pending = ap (λ b. cond b None (st.threads t).pending) (ne_eqb u t other) ∙ x.pending; answer = x.answer }
    pends_on (Denied u seq error cause) h y other = record { child = x.child; pending = ap (λ b. cond b None (st.threads t).pending) (ne_eqb u t other) ∙ x.pending; answer = x.answer }
    pends_on (Entered u made regs_given other_way) h y other = let differ = ne_eqb u t (other_enters u y.idle) in record {
      child = x.child;
      pending = ap (λ b. cond b (Some (record { call = made; regs = regs_given; way = other_way; child = child_of_next (st.threads t).left })) (st.threads t).pending) differ ∙ x.pending;
      answer = ap (λ b. cond b (answer_in i st (process_in st t) made regs_given) (st.threads t).answer) differ ∙ x.answer;
    }
    pends_on (Reloaded u n done changes) h y other = record { child = x.child; pending = x.pending; answer = x.answer }
    pends_on (Learned q number) h y other = record { child = x.child; pending = x.pending; answer = x.answer }
    pends_on (Replied q reply number) h y other = record { child = x.child; pending = x.pending; answer = x.answer }
    pends_on (Stored u place word) h y other = record { child = x.child; pending = x.pending; answer = x.answer }
    pends_on (Claimed w q) h y other = record { child = x.child; pending = x.pending; answer = x.answer }
    pends_on (Copied q part place word) h y other = record { child = x.child; pending = x.pending; answer = x.answer }
    pends_on (Looked q part name seen) h y other = record { child = x.child; pending = x.pending; answer = x.answer }
    pends_on (Faulted q error) h y other = record { child = x.child; pending = x.pending; answer = x.answer }
    pends_on (Answered w s v applied) h y other = record { child = x.child; pending = x.pending; answer = x.answer }
    pends_on (Ended u) h y other = record { child = x.child; pending = x.pending; answer = x.answer }

  entered_pends : (st : State) → Pends (state_after i st (Entered t call regs way)) (answer_in i st (process_in st t) call regs)
  entered_pends st = record {
    child = child_of_next (st.threads t).left;
    pending = ap (λ b. cond b (Some (Entering (child_of_next (st.threads t).left))) (st.threads t).pending) (eq-eqb t t refl);
    answer = ap (λ b. cond b (answer_in i st (process_in st t) call regs) (st.threads t).answer) (eq-eqb t t refl);
  }

  -- ---- all later entries

  abbrev following : History → History → History
  following later earlier = later ++ Entered t call regs way ∷ earlier

  entering : (later earlier : History) → IsLawfulBack i (following later earlier) → IsEntered i (looking_back i earlier) t call regs way
  entering [] earlier lawful = lawful.0
  entering (e ∷ later) earlier lawful = entering later earlier lawful.1

  pends_since : (later earlier : History) → IsLawfulBack i (following later earlier) → NoneTouches (EndsCallOf t) later (Entered t call regs way ∷ earlier)
      → Pends (looking_back i (following later earlier)) (answer_at i earlier t call regs)
  pends_since [] earlier lawful waits = entered_pends (looking_back i earlier)
  pends_since (e ∷ later) earlier lawful waits =
      pends_on (looking_back i (following later earlier)) (answer_at i earlier t call regs) (pends_since later earlier lawful.1 waits.1) e (following later earlier) lawful.0 waits.0

  module _ (later earlier : History) (since : IsEnteredSince i t call regs way later earlier) where
    still : Pends (looking_back i (following later earlier)) (answer_at i earlier t call regs)
    still = pends_since later earlier since.lawful since.waits

    -- the pending call is this call
    same_call : (made : SysCall) (given : List ℕ) (other : Way) (child : ℕ) → ((looking_back i (following later earlier)).threads t).pending ≡ Some (record { call = made; regs = given; way = other; child = child }) → way ≡ other
    same_call made given other child e =
        ap (λ c. c.way) (same_Some (Entering still.child) (record { call = made; regs = given; way = other; child = child }) (sym still.pending ∙ e))

-- ---- barred calls

module _ (i : Input) (t n : ℕ) (call : SysCall) (regs : List ℕ) (later earlier : History) (since : IsEnteredSince i t call regs (Barred n) later earlier) where
  abbrev barred_on : History
  barred_on = later ++ Entered t call regs (Barred n) ∷ earlier

  not_held : (q : ℕ) → Barred n ≡ Held q → ⊥
  not_held q e = cc

  pub unmade : (seq : Option ℕ) (made : SysCall) (given : List ℕ) (args : List ArgText) (ids : Ids) (result : CallResult) (changes : List Change) → IsLawfulBack i (Used t seq made given args ids result changes ∷ barred_on) → ⊥
  unmade None made given args ids result changes lawful =
      subst IsUnheld (sym (same_call i t call regs (Barred n) later earlier since made given lawful.0.way lawful.0.entered.0 lawful.0.entered.1)) lawful.0.unheld
  unmade (Some q) made given args ids result changes lawful =
      not_held lawful.0.held.first (same_call i t call regs (Barred n) later earlier since made given (Held lawful.0.held.first) lawful.0.held.entered.0 lawful.0.held.entered.1)

  pub denied : (seq : Option ℕ) (errno : Errno) (cause : Cause) → IsLawfulBack i (Denied t seq errno cause ∷ barred_on) → IsDeniedByBar i t call regs earlier seq errno cause
  denied None errno cause lawful = record {
    unheld = refl;
    refused = sym (still i t call regs (Barred n) later earlier since).answer ∙ lawful.0.refused;
    cause_is = lawful.0.cause_is;
  }
  denied (Some q) errno cause lawful =
      absurd (not_held lawful.0.held.first (same_call i t call regs (Barred n) later earlier since lawful.0.call lawful.0.regs (Held lawful.0.held.first) lawful.0.held.entered.0 lawful.0.held.entered.1))

-- a call is barred if the kernel refuses it
pub barred_by : (i : Input) (t n : ℕ) (call : SysCall) (regs : List ℕ) (h : History) → IsLawfulBack i (Entered t call regs (Barred n) ∷ h) → (errno : Errno) × (answer_at i h t call regs ≡ answer.Refuse errno)
barred_by i t n call regs h lawful = (lawful.0.way_is.2, lawful.0.way_is.3)

-- ---- fast calls

-- a call is fast if the kernel permits it
pub fast_by : (i : Input) (t : ℕ) (call : SysCall) (regs : List ℕ) (h : History) → IsLawfulBack i (Entered t call regs Fast ∷ h) → answer_at i h t call regs ≡ answer.Permit
fast_by i t call regs h lawful = lawful.0.way_is.1

pub undenied : (i : Input) (t : ℕ) (call : SysCall) (regs : List ℕ) (later earlier : History) → IsEnteredSince i t call regs Fast later earlier → (seq : Option ℕ) (errno : Errno) (cause : Cause)
    → IsLawfulBack i (Denied t seq errno cause ∷ (later ++ Entered t call regs Fast ∷ earlier)) → ⊥
undenied i t call regs later earlier since None errno cause lawful =
    not_barred (same_call i t call regs Fast later earlier since lawful.0.call lawful.0.regs (Barred 1) lawful.0.entered.0 lawful.0.entered.1) where
      not_barred : Fast ≡ Barred 1 → ⊥
      not_barred e = cc
undenied i t call regs later earlier since (Some q) errno cause lawful =
    not_held lawful.0.held.first (same_call i t call regs Fast later earlier since lawful.0.call lawful.0.regs (Held lawful.0.held.first) lawful.0.held.entered.0 lawful.0.held.entered.1) where
      not_held : (first : ℕ) → Fast ≡ Held first → ⊥
      not_held first e = cc
