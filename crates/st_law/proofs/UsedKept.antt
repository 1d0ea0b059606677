-- The invariant of the state of a lawful run is kept by a call that is made.
use native.Mathlib.Omega.{arith}
use Rattle.std.proofs.Common.{◌≡◌, ◌≢◌, ◌≤◌, ◌<◌, ℕ, Bool, true, false, cond, ◌||◌, ◌==◌, List, Option, Some, None, refl, sym, ◌∙◌}
use Rattle.std.proofs.lemmas.Bool.{eqb-false, ne_eqb}
use Rattle.st_base.specs.declared.ids.Ids.{Ids}
use Rattle.st_calls.specs.declared.argument.ArgText.{ArgText}
use Rattle.st_calls.specs.declared.call.SysCall.{SysCall}
use Rattle.st_model.specs.Tree.{is_number}
use Rattle.st_effects.specs.Changes.{process_after}
use Rattle.st_trace.specs.declared.entry.CallResult.{CallResult}
use Rattle.st_trace.specs.declared.entry.Change.{Change}
use Rattle.st_trace.specs.declared.entry.Entry.{Entry}
use Rattle.st_trace.specs.declared.entry.Entry.TheVariants.{Used}
use Rattle.st_law.specs.declared.input.Input.{Input}
use Rattle.st_law.specs.Inputs.{IsThread}
use Rattle.st_law.specs.Machine.{state_after}
use Rattle.st_law.specs.Messages.{renewed_head}
use Rattle.st_law.specs.State.{State, process_in}
use Rattle.st_law.specs.Threads.{PendingCall}
use Rattle.st_law.proofs.Carried.{open_kept, fine_by, if_pending, numbers_differ}
use Rattle.st_law.proofs.HeldCalls.{IsHolder}
use Rattle.st_law.proofs.Invariant.{IsOpen, Fine, IfPending, HasChild, Invariant}
use Rattle.st_law.proofs.QuietChanges.{AreMute, seq_mute, head_mute, renewed_mute, posted_mute, undying_before}

-- if the entry that makes or denies a call names a number, the thread's held call has it, and is open
abbrev pub IsOpenSeq : State → ℕ → Option ℕ → Type 0
IsOpenSeq st u None = Unit {0}
IsOpenSeq st u (Some r) = (call : SysCall) × (regs : List ℕ) × IsOpen st u call regs × ((st.threads u).number ≡ r)

-- the number of another thread's open call isn't that of the entry, and neither is a number that wasn't posted
pub not_closed_by : (st : State) (u t : ℕ) (seq : Option ℕ) → IsOpenSeq st u seq → t ≢ u → (call : SysCall) (regs : List ℕ) → IsOpen st t call regs → is_number (st.threads t).number seq ≡ false
not_closed_by st u t None x differ call regs y = refl
not_closed_by st u t (Some r) x differ call regs y =
    ne_eqb r (st.threads t).number (λ same. numbers_differ st t u call x.0 regs x.1 y x.2 differ (sym (x.3 ∙ same)))

pub not_closed_above : (st : State) (u q : ℕ) (seq : Option ℕ) → IsOpenSeq st u seq → st.posted < q → is_number q seq ≡ false
not_closed_above st u q None x high = refl
not_closed_above st u q (Some r) x high =
    let low = x.2.low in let is = x.3 in ne_eqb r q (λ same. omega (arith, low, is, same, high))

module _ (i : Input) (st : State) (inv : Invariant i st) (u : ℕ) (seq : Option ℕ) (open_seq : IsOpenSeq st u seq) (call : SysCall) (regs : List ℕ) (args : List ArgText) (ids : Ids) (result : CallResult) where
  abbrev pub made : List Change → Entry
  made changes = Used u seq call regs args ids result changes

  abbrev pub new : List Change → State
  new changes = state_after i st (made changes)

  -- what the changes of a call have to keep of threads, processes and numbers
  pub record Keeps (changes : List Change) : Type 0 where
    pub started : (t : ℕ) → ((new changes).threads t).owner ≢ 0 → IsThread i t
    pub owners : (t : ℕ) → ((new changes).threads t).owner < (new changes).next_process
    pub posted : st.posted ≤ (new changes).posted
    pub heads : (q : ℕ) → (new changes).posted < q → ((new changes).messages q).head ≡ None
    -- a posted number keeps its head
    pub stays : (q : ℕ) → q ≤ st.posted → ((new changes).messages q).head ≡ (st.messages q).head
    pub closed : (q : ℕ) → (new changes).posted < q → ((new changes).messages q).closed ≡ false
    -- a thread that had started keeps its process and, unless it made the call or is dying then, the process's policy
    pub owner : (t : ℕ) → (st.threads t).owner ≢ 0 → ((new changes).threads t).owner ≡ (st.threads t).owner
    pub policy : (t : ℕ) → (st.threads t).owner ≢ 0 → t ≢ u → ((new changes).threads t).dying ≡ false → (process_in (new changes) t).policy ≡ (process_in st t).policy
    -- the held call of another thread that isn't dying then stays open
    pub opened : (t : ℕ) (c : SysCall) (r : List ℕ) → (st.threads t).owner ≢ 0 → IsHolder st t → t ≢ u → ((new changes).threads t).dying ≡ false → IsOpen st t c r → IsOpen (new changes) t c r

  undying_then : (t : ℕ) (changes : List Change) → ((new changes).threads t).dying ≡ false → (st.threads t).dying ≡ false
  undying_then t changes e = undying_before t (st.threads t).owner u (st.threads u).owner (st.threads t).dying changes e

  still_fine : (changes : List Change) → Keeps changes → (t : ℕ) → t ≢ u → (entered : PendingCall) → (st.threads t).pending ≡ Some entered → Fine st t entered → Fine (new changes) t entered
  still_fine changes keeps t differ entered e x = record {
    started = λ none. x.started (sym (keeps.owner t x.started) ∙ none);
    fine = λ undying. fine_by st (new changes) t entered.call entered.regs entered.way refl
        (λ first way. keeps.opened t entered.call entered.regs x.started (record { entered = entered; pending = e; first = first; way = way; undying = undying_then t changes undying }) differ undying)
        (x.fine (undying_then t changes undying));
  }

  fine_at : (changes : List Change) → Keeps changes → (t : ℕ) (b : Bool) → (u == t) ≡ b → IfPending (Fine (new changes) t) (cond b None (st.threads t).pending)
  fine_at changes keeps t true e = tt
  fine_at changes keeps t false e = if_pending (Fine st t) (Fine (new changes) t) (st.threads t).pending (still_fine changes keeps t (λ same. eqb-false u t e (sym same))) (inv.fine t)

  child_at : (t : ℕ) (b : Bool) → IfPending (HasChild i) (cond b None (st.threads t).pending)
  child_at t true = tt
  child_at t false = inv.children t

  -- the invariant is kept by the call
  pub used_kept : (changes : List Change) → Keeps changes → Invariant i (new changes)
  used_kept changes keeps = record {
    started = keeps.started;
    bodies = inv.bodies;
    children = λ t. child_at t (u == t);
    owners = keeps.owners;
    heads = keeps.heads;
    closed = keeps.closed;
    fine = λ t. fine_at changes keeps t (u == t) refl;
  }

  -- ---- changes that renew nothing

  module _ (changes : List Change) (mute : AreMute changes) where
    mute_posted : (new changes).posted ≡ st.posted
    mute_posted = posted_mute st.posted changes mute

    mute_heads : (q : ℕ) → (new changes).posted < q → ((new changes).messages q).head ≡ None
    mute_heads q high = head_mute (λ p. (st.messages p).head) (renewed_head (λ p. process_after st.processes (st.threads u).owner p changes) st.versions) q changes mute
        ∙ inv.heads q (let same = mute_posted in omega (arith, same, high))

    mute_closed : (q : ℕ) → (new changes).posted < q → ((new changes).messages q).closed ≡ false
    mute_closed q high =
        let above : st.posted < q = (let same = mute_posted in omega (arith, same, high)) in
        (λ k. not_closed_above st u q seq open_seq above k || renewed_mute q (st.messages q).closed changes mute k) ∙ inv.closed q above

    pub mute_kept : (t : ℕ) (c : SysCall) (r : List ℕ) → t ≢ u → ((new changes).threads t).owner ≡ (st.threads t).owner → (process_in (new changes) t).ids ≡ (process_in st t).ids → (process_in (new changes) t).policy ≡ (process_in st t).policy → IsOpen st t c r → IsOpen (new changes) t c r
    mute_kept t c r differ owner ids_kept policy_kept x = open_kept st (new changes) t c r (let same = mute_posted in omega (arith, same)) (record {
      owner = owner;
      ids = ids_kept;
      policy = policy_kept;
      number = seq_mute (st.threads t).number changes mute;
      head = head_mute (λ p. (st.messages p).head) (renewed_head (λ p. process_after st.processes (st.threads u).owner p changes) st.versions) (st.threads t).number changes mute;
      closed = λ unclosed. (λ k. not_closed_by st u t seq open_seq differ c r x k || renewed_mute (st.threads t).number (st.messages (st.threads t).number).closed changes mute k) ∙ unclosed;
      version = λ head posted. refl;
    }) x

    -- by what is kept of threads and processes
    pub mute_keeps : ((t : ℕ) → ((new changes).threads t).owner ≢ 0 → IsThread i t) → ((t : ℕ) → ((new changes).threads t).owner < (new changes).next_process) → ((t : ℕ) → (st.threads t).owner ≢ 0 → ((new changes).threads t).owner ≡ (st.threads t).owner) → ((t : ℕ) → (st.threads t).owner ≢ 0 → t ≢ u → ((new changes).threads t).dying ≡ false → (process_in (new changes) t).policy ≡ (process_in st t).policy) → ((t : ℕ) → (st.threads t).owner ≢ 0 → t ≢ u → ((new changes).threads t).dying ≡ false → (process_in (new changes) t).ids ≡ (process_in st t).ids) → Keeps changes
    mute_keeps started owners owner policy ids_kept = record {
      started = started;
      owners = owners;
      posted = let same = mute_posted in omega (arith, same);
      heads = mute_heads;
      stays = λ q low. head_mute (λ p. (st.messages p).head) (renewed_head (λ p. process_after st.processes (st.threads u).owner p changes) st.versions) q changes mute;
      closed = mute_closed;
      owner = owner;
      policy = policy;
      opened = λ t c r there holder differ undying x. mute_kept t c r differ (owner t there) (ids_kept t there differ undying) (policy t there differ undying) x;
    }
