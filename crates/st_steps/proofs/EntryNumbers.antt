-- Each entry of the machine has the numbers that the law gives its drawings.
use Rattle.std.proofs.Common.{◌≡◌, ◌∙◌, ◌<◌, ℕ, arith, Bool, true, false, cond, List, [], ◌∷◌, map, Option, Some, None, refl, ap, sym, true≢false}
use Rattle.std.proofs.lemmas.Bool.{eq-eqb}
use Rattle.std.specs.List.{fold}
use Rattle.std.specs.Option.{option_map}
use Rattle.std.specs.Prelude.{is_some, IfSome}
use Rattle.st_base.specs.declared.errno.Errno.{Errno}
use Rattle.st_base.specs.declared.ids.Ids.{Ids}
use Rattle.st_calls.specs.declared.argument.ArgText.{ArgText}
use Rattle.st_calls.specs.declared.call.SysCall.{SysCall}
use Rattle.st_calls.specs.declared.judged.Snapshot.{Snapshot}
use Rattle.st_calls.specs.declared.judged.Verdict.{Verdict}
use Rattle.st_messages.specs.Messages.{is_live_drawing, next_seq, seq_of, AreValidCalls, HeldCalls}
use Rattle.st_names.specs.Name.{Components}
use Rattle.st_names.specs.declared.seen.SeenText.{SeenText}
use Rattle.st_trace.specs.declared.entry.CallResult.{CallResult}
use Rattle.st_trace.specs.declared.entry.Cause.{Cause}
use Rattle.st_trace.specs.declared.entry.Change.{Change}
use Rattle.st_trace.specs.declared.entry.Change.TheVariants.{Renewed, SetIds}
use Rattle.st_trace.specs.declared.entry.Entry.TheVariants.{Answered, Claimed, Copied, Denied, Entered, Faulted, Learned, Looked, Reloaded, Replied, Used}
use Rattle.st_trace.specs.declared.entry.Way.{Way}
use Rattle.st_trace.specs.declared.entry.Way.TheVariants.{Barred, Fast, Held, Untraced}
use Rattle.st_decide.specs.Entering.{IsUnposted}
use Rattle.st_law.proofs.QuietChanges.{AreMute, IsMute}
use Rattle.st_law.specs.Numbers.{largest_number, number_drawn, numbered_change, numbers_after_change, Numbers}
use Rattle.st_workers.specs.Numbers.{seq_if, HasNumbers, IsNumbered}
use Rattle.st_workers.specs.Refinement.{drawn_copies}
use Rattle.st_workers.specs.UnderWay.{UnderWay}
use Rattle.st_workers.proofs.Carried.{draws_next}
use Rattle.st_workers.proofs.Numbered.{live_has_seq}
use Rattle.st_threads.specs.Renewing.{renewals_from, AreNumberedFrom}
use Rattle.st_threads.specs.declared.renewing.RenewedCall.{RenewedCall}
use Rattle.st_threads.proofs.Renewed.{later_same}
use Rattle.st_steps.proofs.MadeSteps.{numbers_mute}

module _ (workers : UnderWay) (q n : ℕ) (is : seq_of workers.calls q ≡ Some n) where
  pub claimed_has : (w : ℕ) → IsNumbered (Claimed w q) (Claimed w n) workers
  claimed_has w = λ ready are numbers has. ap (Claimed w) (sym (has.seqs q n is))

  pub copied_has : (part place word : ℕ) → IsNumbered (Copied q part place word) (Copied n part place word) workers
  copied_has part place word = λ ready are numbers has. ap (λ (k : ℕ). Copied k part place word) (sym (has.seqs q n is))

  pub looked_has : (part : ℕ) (name : Components) (seen : SeenText) → IsNumbered (Looked q part name seen) (Looked n part name seen) workers
  looked_has part name seen = λ ready are numbers has. ap (λ (k : ℕ). Looked k part name seen) (sym (has.seqs q n is))

  pub faulted_has : (errno : Errno) → IsNumbered (Faulted q errno) (Faulted n errno) workers
  faulted_has errno = λ ready are numbers has. ap (λ (k : ℕ). Faulted k errno) (sym (has.seqs q n is))

  pub replied_has : (reply filter : ℕ) → IsNumbered (Replied q reply filter) (Replied n reply filter) workers
  replied_has reply filter = λ ready are numbers has. ap (λ (k : ℕ). Replied k reply filter) (sym (has.seqs q n is))

  pub learned_has : (filter : ℕ) → IsNumbered (Learned q filter) (Learned n filter) workers
  learned_has filter = λ ready are numbers has. ap (λ (k : ℕ). Learned k filter) (sym (has.seqs q n is))

-- a worker answers with copies that have the number of their drawing
pub answered_has : (workers : UnderWay) (w q : ℕ) (s : Snapshot) (v : Verdict) (applied : Bool) → seq_of workers.calls q ≡ Some s.seq → IsNumbered (Answered w (drawn_copies q s) v applied) (Answered w s v applied) workers
answered_has workers w q s v applied is = λ ready are numbers has. ap (λ (n : ℕ). Answered w (record s { seq = n }) v applied) (sym (has.seqs q s.seq is))

-- a call that isn't held has no number
pub unheld_has : (workers : UnderWay) (t : ℕ) (call : SysCall) (regs : List ℕ) (way : Way) → IsUnposted way → IsNumbered (Entered t call regs way) (Entered t call regs way) workers
unheld_has workers t call regs Fast unposted = λ ready are numbers has. refl
unheld_has workers t call regs (Barred n) unposted = λ ready are numbers has. refl
unheld_has workers t call regs Untraced unposted = λ ready are numbers has. refl
unheld_has workers t call regs (Held q) unposted = absurd unposted

-- a call that is held has the number that is drawn next
pub held_has : (workers : UnderWay) → AreValidCalls workers.calls → (t q n : ℕ) (call : SysCall) (regs : List ℕ) → n ≡ next_seq workers.calls → IsNumbered (Entered t call regs (Held q)) (Entered t call regs (Held n)) workers
held_has workers valid t q n call regs is = λ ready are numbers has.
    ap (λ (k : ℕ). Entered t call regs (Held k))
    (is ∙ sym (draws_next numbers workers.calls has valid) ∙ sym (ap (λ (b : Bool). cond b (number_drawn largest_number numbers) (numbers.number_of q)) (eq-eqb q q refl)))

-- ---- changes that renew nothing

mute_change : (number_of : ℕ → ℕ) (c : Change) → IsMute c → c ≡ numbered_change number_of c
mute_change number_of (Renewed old new) x = let up : 1 ≡ 0 = x.posted 0 in absurd (omega (arith, up))
mute_change number_of _ x = refl

mute_changes : (number_of : ℕ → ℕ) (changes : List Change) → AreMute changes → changes ≡ map (numbered_change number_of) changes
mute_changes number_of [] x = refl
mute_changes number_of (c ∷ changes) x = λ k. mute_change number_of c x.0 k ∷ mute_changes number_of changes x.1 k

-- ---- an optional drawing

-- a drawing that may be none has its number, if it has one
seqs_are : (calls : HeldCalls) (numbers : Numbers) → HasNumbers numbers calls → (drawing : Option ℕ) → IfSome drawing (λ q. is_live_drawing calls q ≡ true) → seq_if calls drawing ≡ option_map numbers.number_of drawing
seqs_are calls numbers has None live = refl
seqs_are calls numbers has (Some q) live = by (seq_of calls q) refl (live_has_seq calls q live) where
  by : (o : Option ℕ) → seq_of calls q ≡ o → is_some o ≡ true → o ≡ Some (numbers.number_of q)
  by None e is = absurd (true≢false (sym is))
  by (Some n) e is = ap Some (sym (has.seqs q n e))

module _ (workers : UnderWay) (drawing seq : Option ℕ) (live : IfSome drawing (λ q. is_live_drawing workers.calls q ≡ true)) (is : seq ≡ seq_if workers.calls drawing) where
  pub denied_has : (t : ℕ) (errno : Errno) (why : Cause) → IsNumbered (Denied t drawing errno why) (Denied t seq errno why) workers
  denied_has t errno why = λ ready are numbers has. ap (λ (o : Option ℕ). Denied t o errno why) (is ∙ seqs_are workers.calls numbers has drawing live)

  module _ (t : ℕ) (call : SysCall) (regs : List ℕ) (args : List ArgText) (ids : Ids) (result : CallResult) where
    -- a call that renews nothing
    pub used_has : (changes : List Change) → AreMute changes → IsNumbered (Used t drawing call regs args ids result changes) (Used t seq call regs args ids result changes) workers
    used_has changes mute = λ ready are numbers has.
        let same = numbers_mute ready numbers changes mute in
        (λ k. Used t ((is ∙ seqs_are workers.calls numbers has drawing live) k) call regs args ids result (mute_changes numbers.number_of changes mute k))
        ∙ (λ k. Used t (option_map (sym same k).number_of drawing) call regs args ids result (map (numbered_change (sym same k).number_of) changes))

    later_if : (ready : ℕ → Bool) (ns : List RenewedCall) (next : ℕ) (numbers : Numbers) (o : Option ℕ) → IfSome o (λ q. q < next) → option_map numbers.number_of o ≡ option_map (fold (numbers_after_change largest_number ready) numbers (renewals_from next ns)).number_of o
    later_if ready ns next numbers None low = refl
    later_if ready ns next numbers (Some q) low = ap Some (sym (later_same ready ns next q low numbers))

    -- a call that sets ids, and renews these held calls
    pub renewed_has : (given : Ids) (ns : List RenewedCall) (next : ℕ) (changes : List Change) → IfSome drawing (λ q. q < next) → AreNumberedFrom workers (renewals_from next ns) changes
        → IsNumbered (Used t drawing call regs args ids result (SetIds given ∷ renewals_from next ns)) (Used t seq call regs args ids result (SetIds given ∷ changes)) workers
    renewed_has given ns next changes low numbered = λ ready are numbers has. λ k.
        Used t ((is ∙ seqs_are workers.calls numbers has drawing live ∙ later_if ready ns next numbers drawing low) k) call regs args ids result (SetIds given ∷ numbered ready are numbers has k)

-- a reload, and the renewals that it makes
pub reloaded_has : (workers : UnderWay) (t n next : ℕ) (calls : List RenewedCall) (changes : List Change) → AreNumberedFrom workers (renewals_from next calls) changes
    → IsNumbered (Reloaded t n true (renewals_from next calls)) (Reloaded t n true changes) workers
reloaded_has workers t n next calls changes numbered = λ ready are numbers has. ap (Reloaded t n true) (numbered ready are numbers has)

-- a reload that is refused
pub refused_has : (workers : UnderWay) (t n : ℕ) → IsNumbered (Reloaded t n false []) (Reloaded t n false []) workers
refused_has workers t n = λ ready are numbers has. refl
