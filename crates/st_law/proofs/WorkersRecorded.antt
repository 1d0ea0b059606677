-- A lawful entry of a worker is the one that its worker's step adds.
use native.Mathlib.Omega.{arith}
use Rattle.std.proofs.Common.{◌≡◌, ℕ, Bool, true, false, cond, not, ◌&&◌, List, Option, Some, None, refl, sym, ap, ◌∙◌}
use Rattle.std.specs.Prelude.{nat_lt, nat_le, unwrap_or}
use Rattle.std.proofs.lemmas.Bool.{and_from, le-leb, lt-ltb, true≢false}
use Rattle.st_base.specs.declared.errno.Errno.{Errno}
use Rattle.st_calls.specs.declared.judged.Snapshot.{Snapshot}
use Rattle.st_calls.specs.declared.judged.Verdict.{Verdict}
use Rattle.st_calls.specs.declared.argument.ArgText.{ArgText}
use Rattle.st_model.specs.Tree.{is_number}
use Rattle.st_names.specs.Name.{Components}
use Rattle.st_names.specs.declared.seen.SeenText.{SeenText}
use Rattle.st_effects.specs.Progress.{Progress, Word, Look, Stuck, Ready}
use Rattle.st_trace.specs.declared.entry.Entry.TheVariants.{Claimed, Copied, Looked, Faulted, Answered}
use Rattle.st_law.specs.declared.input.Input.{Input}
use Rattle.st_law.specs.Lawful.{IsClaimed, IsServed, IsCopied, IsLooked, IsFaulted, IsAnswered}
use Rattle.st_law.specs.Machine.{claimed_entry, answer_entry, working_entry, turn_entry, worker_entry}
use Rattle.st_law.specs.Messages.{Head}
use Rattle.st_law.specs.State.{State, is_live, is_waiting, is_worker, progress_in, snapshot_of_progress, worker_at}
use Rattle.st_law.specs.Recorded.{worker_for}
use Rattle.st_law.proofs.Least.{least, least_is}
use Rattle.st_law.proofs.MessageHistory.{number_is, number_only}
use Rattle.st_law.proofs.Turns.{live_low, worker_range}
use Rattle.st_law.proofs.Whole.{Whole, live_number}

-- a number that was claimed if it is live isn't waiting
not_waiting : (live claimed : Bool) → (live ≡ true → claimed ≡ true) → (live && not claimed) ≡ false
not_waiting true claimed given = ap not (given refl)
not_waiting false claimed given = refl

-- if there are copies, all arguments are complete
ready_of : (q : ℕ) (o : Option Head) (pr : Progress) (s : Snapshot) → snapshot_of_progress q o pr ≡ Some s → (args : List ArgText) × (pr ≡ Ready args)
ready_of q None pr s e = cc
ready_of q (Some head) (Word part place) s e = cc
ready_of q (Some head) (Look part name) s e = cc
ready_of q (Some head) (Stuck errno) s e = cc
ready_of q (Some head) (Ready args) s e = (args, refl)

module _ (i : Input) (st : State) where
  -- a worker goes on, by the number that it is at
  goes_on : (w : ℕ) → is_worker i w ≡ true → (o : Option ℕ) → worker_at st w ≡ o → worker_entry i st w ≡ turn_entry i st w o
  goes_on w worker o at = λ k. cond (worker k) (turn_entry i st w (at k)) None

  pub claimed_recorded : Whole i st → (w q : ℕ) → IsClaimed i st w q → worker_entry i st w ≡ Some (Claimed w q)
  claimed_recorded whole w q x = goes_on w x.worker None x.idle ∙ ap (claimed_entry w) (least_is (is_waiting st) 1 st.posted q (record {
    holds = and_from (is_live st q) (not (st.messages q).claimed) x.live (ap not x.unclaimed);
    low = live_number st whole.posted q x.live;
    high = let low = live_low i st whole.calls q x.live in omega (arith, low);
    least = λ p low below. not_waiting (is_live st p) (st.messages p).claimed (x.least p low below);
  }))

  -- ---- a worker that is at a number

  module _ (q : ℕ) (served : IsServed i st q) where
    abbrev IsAt : ℕ → Type 0
    IsAt w = (is_worker i w ≡ true) × (worker_at st w ≡ Some q)

    serves : IsAt (worker_for i st q)
    serves = least (λ o. IsAt (unwrap_or o 0)) (λ w. is_number q (worker_at st w)) 1 i.options.workers
        (λ w x. (
          and_from (nat_lt 0 w) (nat_le w i.options.workers) (lt-ltb 0 w (let low = x.low in omega (arith, low))) (le-leb w i.options.workers (let high = x.high in omega (arith, high))),
          number_only q (worker_at st w) x.holds,
        ))
        (λ none. let range = worker_range i served.number served.worker in let high = range.1 in
        absurd (true≢false (sym (number_is q (worker_at st served.number) served.at) ∙ none served.number range.0 (omega (arith, high)))))

    working_recorded : (pr : Progress) → progress_in st q ≡ pr → worker_entry i st (worker_for i st q) ≡ working_entry i st (worker_for i st q) q pr
    working_recorded pr due = goes_on (worker_for i st q) serves.0 (Some q) serves.1 ∙ ap (working_entry i st (worker_for i st q) q) due

  pub copied_recorded : (q part place word : ℕ) → IsCopied i st q part place word → worker_entry i st (worker_for i st q) ≡ Some (Copied q part place word)
  copied_recorded q part place word x = working_recorded q x.served (Word part place) x.due ∙ ap (λ given. Some (Copied q part place given)) (sym x.word_is)

  pub looked_recorded : (q part : ℕ) (name : Components) (seen : SeenText) → IsLooked i st q part name seen → worker_entry i st (worker_for i st q) ≡ Some (Looked q part name seen)
  looked_recorded q part name seen x = working_recorded q x.served (Look part name) x.due ∙ ap (λ given. Some (Looked q part name given)) (sym x.seen_is)

  pub faulted_recorded : (q : ℕ) (errno : Errno) → IsFaulted i st q errno → worker_entry i st (worker_for i st q) ≡ Some (Faulted q errno)
  faulted_recorded q errno x = working_recorded q x.served (Stuck errno) x.due

  pub answered_recorded : (w : ℕ) (s : Snapshot) (v : Verdict) (applied : Bool) → IsAnswered i st w s v applied → worker_entry i st w ≡ Some (Answered w s v applied)
  answered_recorded w s v applied x =
      let ready : (args : List ArgText) × (progress_in st s.seq ≡ Ready args) = ready_of s.seq (st.messages s.seq).head (progress_in st s.seq) s x.copies in
      goes_on w x.worker (Some s.seq) x.at ∙ ap (working_entry i st w s.seq) ready.1
      ∙ ap (answer_entry i st w s.seq) (ap (snapshot_of_progress s.seq (st.messages s.seq).head) (sym ready.1) ∙ x.copies)
      ∙ (λ k. Some (Answered w s (sym x.verdict_is k) (sym x.applied_is k)))
