-- Which thread a live number belongs to, and what follows if each is its thread's own.
use Rattle.std.proofs.Common.{◌≡◌, ◌≢◌, ℕ, Bool, true, false, not, List, Option, Some, None, refl, sym, ap, subst, ◌∙◌}
use Rattle.std.proofs.lemmas.Bool.{and_parts, eq-eqb, false_from_ne_true}
use Rattle.std.proofs.lemmas.Option.{same_Some}
use Rattle.st_base.specs.declared.errno.Errno.{Errno}
use Rattle.st_base.specs.declared.ids.Ids.{Ids}
use Rattle.st_calls.specs.declared.argument.ArgText.{ArgText}
use Rattle.st_calls.specs.declared.call.SysCall.{SysCall}
use Rattle.st_model.specs.Tree.{is_number}
use Rattle.st_trace.specs.declared.entry.CallResult.{CallResult}
use Rattle.st_trace.specs.declared.entry.Cause.{Cause}
use Rattle.st_trace.specs.declared.entry.Change.{Change}
use Rattle.st_trace.specs.declared.entry.Way.{Way}
use Rattle.st_trace.specs.declared.entry.Way.TheVariants.{Barred, Held}
use Rattle.st_law.specs.declared.input.Input.{Input}
use Rattle.st_law.specs.Lawful.{IsUnheld, IsPending, IsUsed, IsDenied}
use Rattle.st_law.specs.Messages.{Head}
use Rattle.st_law.specs.State.{State, is_live_by, is_live, process_in}
use Rattle.st_law.specs.Threads.{PendingCall}
use Rattle.st_law.proofs.HeldCalls.{IsHolder}
use Rattle.st_law.proofs.Invariant.{IsOwn, IsOpen, Invariant}
use Rattle.st_law.proofs.HeldRenewals.{open_of}
use Rattle.st_reached.specs.Reached.{IsHolding, LiveNumbersAreOwn}

pub not_so : (b : Bool) → not b ≡ true → b ≡ false
not_so true e = cc
not_so false e = refl

-- ---- what is live

-- a live number is open, and its thread isn't dying
pub live_parts : (st : State) (q : ℕ) (head : Head) → is_live st q ≡ true → (st.messages q).head ≡ Some head → ((st.messages q).closed ≡ false) × ((st.threads head.tid).dying ≡ false)
live_parts st q head live posted =
    let parts = and_parts (not (st.messages q).closed) (not (st.threads head.tid).dying) (subst (λ o. is_live_by o (st.messages q).closed (λ t. (st.threads t).dying) ≡ true) posted live) in
    (not_so (st.messages q).closed parts.0, not_so (st.threads head.tid).dying parts.1)

-- an open number whose thread isn't dying is live
pub lives_by : (st : State) (q : ℕ) (head : Head) → (st.messages q).head ≡ Some head → (st.messages q).closed ≡ false → (st.threads head.tid).dying ≡ false → is_live st q ≡ true
lives_by st q head posted unclosed undying = (λ k. is_live_by (posted k) (unclosed k) (λ t. (st.threads t).dying)) ∙ ap not undying

-- the number of a held call is live, while its thread isn't dying
pub held_lives : (i : Input) (st : State) → Invariant i st → (t : ℕ) → IsHolder st t → is_live st (st.threads t).number ≡ true
held_lives i st inv t x = let y : IsOpen st t x.entered.call x.entered.regs = open_of i st inv t x in
    lives_by st (st.threads t).number y.head y.posted y.unclosed (ap (λ n. (st.threads n).dying) y.own.tid_is ∙ x.undying)

module _ (st : State) (owned : LiveNumbersAreOwn st) where
  -- the thread of a live number holds a call, and isn't dying
  pub holder_of : (q : ℕ) (head : Head) → is_live st q ≡ true → (st.messages q).head ≡ Some head → IsHolder st head.tid
  holder_of q head live posted = let x : IsHolding st head.tid q = owned.own q head live posted in
      record { entered = x.entered; pending = x.pending; first = x.first; way = x.way; undying = (live_parts st q head live posted).1 }

  -- the head of a live number is that of its thread's pending call
  pub own_head : (i : Input) → Invariant i st → (q : ℕ) (head : Head) → is_live st q ≡ true → (st.messages q).head ≡ Some head → (entered : PendingCall) → (st.threads head.tid).pending ≡ Some entered → IsOwn st head.tid entered.call entered.regs head
  own_head i inv q head live posted entered pending =
      let x : IsHolding st head.tid q = owned.own q head live posted in
      let holder : IsHolder st head.tid = record { entered = entered; pending = pending; first = x.first; way = ap (λ (call : PendingCall). call.way) (same_Some entered x.entered (sym pending ∙ x.pending)) ∙ x.way; undying = (live_parts st q head live posted).1 } in
      let y : IsOpen st head.tid entered.call entered.regs = open_of i st inv head.tid holder in
      subst (IsOwn st head.tid entered.call entered.regs) (same_Some y.head head (sym y.posted ∙ ap (λ n. (st.messages n).head) x.number ∙ posted)) y.own

  -- the process of a live number's thread is that of its head
  pub own_process : (i : Input) → Invariant i st → (q : ℕ) (head : Head) → is_live st q ≡ true → (st.messages q).head ≡ Some head → head.pid ≡ (st.threads head.tid).owner
  own_process i inv q head live posted = let x : IsHolding st head.tid q = owned.own q head live posted in (own_head i inv q head live posted x.entered x.pending).pid_is

  -- the policy of a live number is that of its thread's process
  pub own_policy : (i : Input) → Invariant i st → (q : ℕ) (head : Head) → is_live st q ≡ true → (st.messages q).head ≡ Some head → head.policy ≡ (process_in st head.tid).policy
  own_policy i inv q head live posted = let x : IsHolding st head.tid q = owned.own q head live posted in (own_head i inv q head live posted x.entered x.pending).policy_is

  -- the version of a live number is that of its policy that is in force
  pub own_version : (i : Input) → Invariant i st → (q : ℕ) (head : Head) → is_live st q ≡ true → (st.messages q).head ≡ Some head → head.version ≡ st.versions head.policy
  own_version i inv q head live posted = let x : IsHolding st head.tid q = owned.own q head live posted in (own_head i inv q head live posted x.entered x.pending).version_is

  -- two live numbers of one thread are equal
  pub one_number : (p q : ℕ) (head other : Head) → is_live st p ≡ true → is_live st q ≡ true → (st.messages p).head ≡ Some head → (st.messages q).head ≡ Some other → head.tid ≡ other.tid → p ≡ q
  one_number p q head other lives live posted other_posted same =
      sym (owned.own p head lives posted).number ∙ ap (λ t. (st.threads t).number) same ∙ (owned.own q other live other_posted).number

  -- a thread whose call isn't held has no live number
  pub none_by : (t : ℕ) → ((entered : PendingCall) (first : ℕ) → (st.threads t).pending ≡ Some entered → entered.way ≢ Held first) → (q : ℕ) (head : Head) → (st.messages q).head ≡ Some head → head.tid ≡ t → is_live st q ≡ false
  none_by t none q head posted same = false_from_ne_true (is_live st q) (λ live.
      let x : IsHolding st t q = subst (λ n. IsHolding st n q) same (owned.own q head live posted) in none x.entered x.first x.pending x.way)

  -- a thread without a pending call has no live number
  pub none_pending : (t : ℕ) → (st.threads t).pending ≡ None → (q : ℕ) (head : Head) → (st.messages q).head ≡ Some head → head.tid ≡ t → is_live st q ≡ false
  none_pending t idle q head posted same = none_by t (λ entered first pending. absurd (clash entered (sym idle ∙ pending))) q head posted same where
    clash : (entered : PendingCall) → None ≡ Some entered → ⊥
    clash entered e = cc

  -- a thread whose pending call goes another way has no live number
  pub none_unheld : (t : ℕ) (entered : PendingCall) → (st.threads t).pending ≡ Some entered → ((first : ℕ) → entered.way ≢ Held first) → (q : ℕ) (head : Head) → (st.messages q).head ≡ Some head → head.tid ≡ t → is_live st q ≡ false
  none_unheld t entered pending unheld q head posted same = none_by t (λ other first is way. unheld first (ap (λ (call : PendingCall). call.way) (same_Some entered other (sym pending ∙ is)) ∙ way)) q head posted same

-- ---- a thread's number is that of the call that it makes or is denied

module _ (i : Input) (st : State) (u q : ℕ) (holding : IsHolding st u q) where
  way_is : (call : SysCall) (regs : List ℕ) (way : Way) → IsPending st u call regs way → way ≡ Held holding.first
  way_is call regs way x = ap (λ (entered : PendingCall). entered.way) (same_Some (record { call = call; regs = regs; way = way; child = x.0 }) holding.entered (sym x.1 ∙ holding.pending)) ∙ holding.way

  pub used_number : (seq : Option ℕ) (call : SysCall) (regs : List ℕ) (args : List ArgText) (ids : Ids) (result : CallResult) (changes : List Change) → IsUsed i st u seq call regs args ids result changes → is_number q seq ≡ true
  used_number None call regs args ids result changes x = absurd (subst IsUnheld (way_is call regs x.way x.entered) x.unheld)
  used_number (Some r) call regs args ids result changes x = eq-eqb r q (sym x.held.number ∙ holding.number)

  pub denied_number : (seq : Option ℕ) (errno : Errno) (cause : Cause) → IsDenied i st u seq errno cause → is_number q seq ≡ true
  denied_number None errno cause x = absurd (clash holding.first (way_is x.call x.regs (Barred 1) x.entered)) where
    clash : (first : ℕ) → Barred 1 ≡ Held first → ⊥
    clash first e = cc
  denied_number (Some r) errno cause x = eq-eqb r q (sym x.held.number ∙ holding.number)
