-- A call that sets ids renews every other held call of its process, and each stays open under its new number.
use native.Mathlib.Omega.{arith}
use Rattle.std.proofs.Common.{◌≡◌, ◌≢◌, ◌≤◌, ◌<◌, ℕ, Bool, true, false, cond, not, ◌&&◌, ◌||◌, ◌==◌, List, ◌∷◌, Option, refl, sym, ap, ◌∙◌, option_map}
use Rattle.std.proofs.lemmas.Bool.{eqb-true, eqb-false, eq-eqb, ne_eqb, and_from}
use Rattle.st_base.specs.declared.ids.Ids.{Ids}
use Rattle.st_calls.specs.declared.argument.ArgText.{ArgText}
use Rattle.st_calls.specs.declared.call.SysCall.{SysCall}
use Rattle.st_effects.specs.Changes.{owner_after_change, next_process_after_change, process_after_change, process_after}
use Rattle.st_effects.specs.Processes.{is_other_of, renewals}
use Rattle.st_effects.specs.System.{HeldCall}
use Rattle.st_trace.specs.declared.entry.CallResult.{CallResult}
use Rattle.st_trace.specs.declared.entry.Change.{Change}
use Rattle.st_trace.specs.declared.entry.Change.TheVariants.{SetIds}
use Rattle.st_law.specs.declared.input.Input.{Input}
use Rattle.st_law.specs.Messages.{Head, renewed_head}
use Rattle.st_law.specs.State.{State, process_in}
use Rattle.st_law.proofs.Carried.{open_kept}
use Rattle.st_law.proofs.HeldCalls.{IsHolder, held_of}
use Rattle.st_law.proofs.HeldRenewals.{helds, next, fresh_other, kept_other, renewal}
use Rattle.st_law.proofs.Invariant.{IsOpen, Invariant}
use Rattle.st_law.proofs.Renewals.{EachHeld, IsOther, renewals_same, seq_other, renewed_other, posted_low, head_below, head_above, IsRenewal}
use Rattle.st_law.proofs.UsedKept.{IsOpenSeq, not_closed_by, not_closed_above, new, Keeps}

module _ (i : Input) (st : State) (inv : Invariant i st) (u : ℕ) (seq : Option ℕ) (open_seq : IsOpenSeq st u seq) (call : SysCall) (regs : List ℕ) (args : List ArgText) (ids : Ids) (result : CallResult) (set : Ids) where
  abbrev m : ℕ
  m = (st.threads u).owner

  abbrev is : HeldCall → Bool
  is = is_other_of m u

  abbrev some : List HeldCall
  some = helds i st inv is

  abbrev fresh : ℕ
  fresh = next i st inv is

  abbrev changes : List Change
  changes = SetIds set ∷ renewals m u fresh some

  abbrev after : State
  after = new i st inv u seq open_seq call regs args ids result changes

  abbrev heads : ℕ → Option Head
  heads q = (st.messages q).head

  abbrev renewed : Head → Head
  renewed = renewed_head (λ p. process_after st.processes m p changes) st.versions

  -- ---- threads and processes

  same_owner : (t : ℕ) → (after.threads t).owner ≡ (st.threads t).owner
  same_owner t = renewals_same is (owner_after_change t) (λ o old fresh. refl) (st.threads t).owner fresh some

  same_next : after.next_process ≡ st.next_process
  same_next = renewals_same is next_process_after_change (λ n old fresh. refl) st.next_process fresh some

  process_at : (p : ℕ) → process_after st.processes m p changes ≡ cond (m == p) (record (st.processes p) { ids = set }) (st.processes p)
  process_at p = renewals_same is (process_after_change st.processes m p) (λ before old fresh. refl) (cond (m == p) (record (st.processes p) { ids = set }) (st.processes p)) fresh some

  same_policy : (p : ℕ) (b : Bool) → (cond b (record (st.processes p) { ids = set }) (st.processes p)).policy ≡ (st.processes p).policy
  same_policy p true = refl
  same_policy p false = refl

  policy_kept : (t : ℕ) → (process_in after t).policy ≡ (process_in st t).policy
  policy_kept t = ap (λ p. (process_after st.processes m p changes).policy) (same_owner t) ∙ ap (λ row. row.policy) (process_at (st.threads t).owner) ∙ same_policy (st.threads t).owner (m == (st.threads t).owner)

  more_posted : st.posted ≤ after.posted
  more_posted = posted_low is st.posted fresh some

  pub unclosed_fresh : (q : ℕ) → fresh ≤ q → (after.messages q).closed ≡ false
  unclosed_fresh q high =
      let above : st.posted < q = omega (arith, high) in
      (λ k. not_closed_above st u q seq open_seq above k || renewed_other is q (st.messages q).closed fresh some (fresh_other i st inv is q high) k) ∙ inv.closed q above

  -- ---- the held calls of other processes

  away_kept : (t : ℕ) (c : SysCall) (r : List ℕ) → t ≢ u → (m == (st.threads t).owner) ≡ false → IsOpen st t c r → IsOpen after t c r
  away_kept t c r differ away x =
      let not_so : is (held_of st t) ≡ false = ap (λ b. b && not (t == u)) (ne_eqb (st.threads t).owner m (λ same. eqb-false m (st.threads t).owner away (sym same))) in
      let other : EachHeld (IsOther is (st.threads t).number) some = kept_other i st inv is t c r x not_so in
      open_kept st after t c r more_posted (record {
        owner = same_owner t;
        ids = ap (λ p. (process_after st.processes m p changes).ids) (same_owner t) ∙ ap (λ row. row.ids) (process_at (st.threads t).owner) ∙ ap (λ b. (cond b (record (st.processes (st.threads t).owner) { ids = set }) (process_in st t)).ids) away;
        policy = policy_kept t;
        number = seq_other is (st.threads t).number fresh some other;
        head = head_below is heads renewed (st.threads t).number (heads (st.threads t).number) fresh some (let low = x.low in omega (arith, low));
        closed = λ unclosed. (λ k. not_closed_by st u t seq open_seq differ c r x k || renewed_other is (st.threads t).number (st.messages (st.threads t).number).closed fresh some other k) ∙ unclosed;
        version = λ head posted. refl;
      }) x

  -- ---- the held calls of this process

  renewed_open : (t : ℕ) (c : SysCall) (r : List ℕ) → (m == (st.threads t).owner) ≡ true → IsOpen st t c r → IsRenewal is heads renewed (st.threads t).number st.posted fresh (renewals m u fresh some) → IsOpen after t c r
  renewed_open t c r own x y = record {
    head = renewed x.head;
    posted = (λ k. (after.messages (y.drawn k)).head) ∙ y.head (heads y.number) ∙ ap (option_map renewed) x.posted;
    own = record {
      tid_is = x.own.tid_is;
      pid_is = x.own.pid_is ∙ sym (same_owner t);
      ids_are = ap (λ p. (process_after st.processes m p changes).ids) (x.own.pid_is ∙ sym (same_owner t));
      policy_is = x.own.policy_is ∙ sym (policy_kept t);
      version_is = refl;
      call_is = x.own.call_is;
      regs_are = x.own.regs_are;
    };
    unclosed = (λ k. (after.messages (y.drawn k)).closed) ∙ unclosed_fresh y.number y.low;
    low = let high = y.high in let same = y.drawn in omega (arith, high, same);
  }

  opened_at : (t : ℕ) (c : SysCall) (r : List ℕ) → (st.threads t).owner ≢ 0 → IsHolder st t → t ≢ u → IsOpen st t c r → (b : Bool) → (m == (st.threads t).owner) ≡ b → IsOpen after t c r
  opened_at t c r owned holder differ x true own =
      let is_so : is (held_of st t) ≡ true =
      and_from ((st.threads t).owner == m) (not (t == u)) (eq-eqb (st.threads t).owner m (sym (eqb-true m (st.threads t).owner own))) (ap not (ne_eqb t u differ)) in
      renewed_open t c r own x (renewal i st inv is heads renewed t owned holder is_so c r x)
  opened_at t c r owned holder differ x false own = away_kept t c r differ own x

  -- what a call that sets ids keeps
  pub renewal_keeps : Keeps i st inv u seq open_seq call regs args ids result changes
  renewal_keeps = record {
    started = λ t owned. inv.started t (λ none. owned (same_owner t ∙ none));
    owners = λ t. let low = inv.owners t in let same = same_owner t in let next = same_next in omega (arith, low, same, next);
    posted = more_posted;
    heads = λ q high. head_above is heads renewed q (heads q) st.posted fresh some refl high ∙ inv.heads q (let low = more_posted in omega (arith, low, high));
    stays = λ q low. head_below is heads renewed q (heads q) fresh some (omega (arith, low));
    closed = λ q high. unclosed_fresh q (let low = more_posted in omega (arith, low, high));
    owner = λ t owned. same_owner t;
    policy = λ t owned differ undying. policy_kept t;
    opened = λ t c r owned holder differ undying x. opened_at t c r owned holder differ x (m == (st.threads t).owner) refl;
  }
