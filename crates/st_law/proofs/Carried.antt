-- What a thread's pending call keeps if its number, its head and its process's row are unchanged.
use native.Mathlib.Omega.{arith}
use Rattle.std.proofs.Common.{◌≡◌, ◌≢◌, ◌≤◌, ℕ, false, List, Option, Some, None, refl, sym, ap, ◌∙◌}
use Rattle.st_calls.specs.declared.call.SysCall.{SysCall}
use Rattle.st_trace.specs.declared.entry.Way.{Way}
use Rattle.st_trace.specs.declared.entry.Way.TheVariants.{Fast, Barred, Held, Untraced}
use Rattle.st_law.specs.Messages.{Head}
use Rattle.st_law.specs.State.{State, process_in}
use Rattle.st_law.specs.Threads.{PendingCall}
use Rattle.st_law.proofs.Invariant.{IsOpen, IsFine, IfPending}

-- a thread keeps its process with its ids and policy, its number, the number's head and openness, and the version of the head's policy
pub record IsKept (st new : State) (t : ℕ) : Type 0 where
  pub owner : (new.threads t).owner ≡ (st.threads t).owner
  pub ids : (process_in new t).ids ≡ (process_in st t).ids
  pub policy : (process_in new t).policy ≡ (process_in st t).policy
  pub number : (new.threads t).number ≡ (st.threads t).number
  pub head : (new.messages (st.threads t).number).head ≡ (st.messages (st.threads t).number).head
  pub closed : (st.messages (st.threads t).number).closed ≡ false → (new.messages (st.threads t).number).closed ≡ false
  pub version : (head : Head) → (st.messages (st.threads t).number).head ≡ Some head → new.versions head.policy ≡ st.versions head.policy

pub open_kept : (st new : State) (t : ℕ) (call : SysCall) (regs : List ℕ) → st.posted ≤ new.posted → IsKept st new t → IsOpen st t call regs → IsOpen new t call regs
open_kept st new t call regs more kept x = record {
  head = x.head;
  posted = (λ k. (new.messages (kept.number k)).head) ∙ kept.head ∙ x.posted;
  own = record {
    tid_is = x.own.tid_is;
    pid_is = x.own.pid_is ∙ sym kept.owner;
    ids_are = x.own.ids_are ∙ sym kept.ids;
    policy_is = x.own.policy_is ∙ sym kept.policy;
    version_is = x.own.version_is ∙ sym (kept.version x.head x.posted);
    call_is = x.own.call_is;
    regs_are = x.own.regs_are;
  };
  unclosed = (λ k. (new.messages (kept.number k)).closed) ∙ kept.closed x.unclosed;
  low = let low = x.low in let same = kept.number in omega (arith, low, more, same);
}

-- a pending call keeps its invariant; if it is held, by what is kept of its message
pub fine_by : (st new : State) (t : ℕ) (call : SysCall) (regs : List ℕ) (way : Way) → (new.threads t).answer ≡ (st.threads t).answer → ((first : ℕ) → way ≡ Held first → IsOpen st t call regs → IsOpen new t call regs) → IsFine st t call regs way → IsFine new t call regs way
fine_by st new t call regs Fast answer opens x = tt
fine_by st new t call regs Untraced answer opens x = tt
fine_by st new t call regs (Barred n) answer opens x = record { first = x.first; errno = x.errno; refused = answer ∙ x.refused }
fine_by st new t call regs (Held first) answer opens x = opens first refl x

-- a property of a pending call is carried over
pub if_pending : (P Q : PendingCall → Type 0) (o : Option PendingCall) → ((entered : PendingCall) → o ≡ Some entered → P entered → Q entered) → IfPending P o → IfPending Q o
if_pending P Q None f x = tt
if_pending P Q (Some entered) f x = f entered refl x

abbrev tid_of : Option Head → ℕ
tid_of None = 0
tid_of (Some head) = head.tid

-- two threads that hold calls have different numbers
pub numbers_differ : (st : State) (t u : ℕ) (c d : SysCall) (r s : List ℕ) → IsOpen st t c r → IsOpen st u d s → t ≢ u → (st.threads t).number ≢ (st.threads u).number
numbers_differ st t u c d r s x y differ same =
    differ (sym x.own.tid_is ∙ sym (ap tid_of x.posted) ∙ ap (λ q. tid_of (st.messages q).head) same ∙ ap tid_of y.posted ∙ y.own.tid_is)
