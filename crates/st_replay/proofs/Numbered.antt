-- The choice that an entry tells by its numbers is the one that its drawings imply.
use Rattle.std.proofs.Common.{◌≡◌, ◌≤◌, ◌<◌, ℕ, suc, zero, ◌+◌, Bool, true, false, cond, ◌==◌, Option, Some, None, refl, sym, ap, ◌∙◌, arith}
use Rattle.std.proofs.lemmas.Bool.{eq-eqb, eqb-true, eqb-false, ne_eqb, lt-ltb, le-leb, and_from}
use Rattle.std.specs.Option.{option_map}
use Rattle.std.specs.Prelude.{nat_lt, nat_le, unwrap_or}
use Rattle.st_model.specs.Tree.{is_number}
use Rattle.st_trace.specs.declared.entry.Choice.TheVariants.{Worker}
use Rattle.st_trace.specs.declared.entry.Entry.{Entry}
use Rattle.st_trace.specs.declared.entry.Entry.TheVariants.{Stored, Entered, Claimed, Copied, Looked, Faulted, Answered, Used, Denied, Ended, Replied, Learned, Reloaded}
use Rattle.st_law.specs.declared.input.Input.{Input}
use Rattle.st_law.specs.History.{looking_back}
use Rattle.st_law.specs.Inputs.{IsStartable}
use Rattle.st_law.specs.Lawful.{IsLawful, IsLawfulBack, IsServed}
use Rattle.st_law.specs.Numbers.{largest_number, numbers_at}
use Rattle.st_law.specs.Recorded.{choice_of, worker_for}
use Rattle.st_law.specs.Sessions.{least_from}
use Rattle.st_law.specs.State.{State, worker_at}
use Rattle.st_law.specs.Threads.{History}
use Rattle.st_reached.proofs.InUse.{used_served}
use Rattle.st_reached.proofs.NumbersBack.{one_drawing, roomy}
use Rattle.st_replay.specs.Told.{choice_numbered, numbered_after, worker_numbered}

-- searches by two properties that agree find the same
least_same : (is js : ℕ → Bool) (a count : ℕ) → ((w : ℕ) → a ≤ w → w < a + count → is w ≡ js w) → least_from is a count ≡ least_from js a count
least_same is js a zero same = refl
least_same is js a (suc count) same =
    ap (λ b. cond b (Some a) (least_from is (suc a) count)) (same a (omega arith) (omega arith))
    ∙ ap (λ o. cond (js a) (Some a) o) (least_same is js (suc a) count (λ w low high. same w (omega (arith, low)) (omega (arith, high))))

module _ (i : Input) (startable : IsStartable i) (h : History) (lawful : IsLawfulBack i h) where
  abbrev st : State
  st = looking_back i h

  abbrev number_of : ℕ → ℕ
  number_of = (numbers_at largest_number i h).number_of

  served_at : (w p : ℕ) → 1 ≤ w → w < 1 + i.options.workers → worker_at st w ≡ Some p → IsServed i st p
  served_at w p low high e = record {
    number = w;
    worker = and_from (nat_lt 0 w) (nat_le w i.options.workers) (lt-ltb 0 w (omega (arith, low))) (le-leb w i.options.workers (omega (arith, high)));
    at = e;
  }

  -- a worker is at a drawing exactly if it is at its number
  same_at : (q w : ℕ) → IsServed i st q → 1 ≤ w → w < 1 + i.options.workers → (o : Option ℕ) → worker_at st w ≡ o → is_number (number_of q) (option_map number_of o) ≡ is_number q o
  same_at q w x low high None e = refl
  same_at q w x low high (Some p) e = by (p == q) refl where
    by : (b : Bool) → (p == q) ≡ b → (number_of p == number_of q) ≡ (p == q)
    by true f = eq-eqb (number_of p) (number_of q) (ap number_of (eqb-true p q f)) ∙ sym f
    by false f = ne_eqb (number_of p) (number_of q)
        (λ same. eqb-false p q f (one_drawing largest_number i startable (roomy i startable) h lawful p q (used_served i st p (served_at w p low high e)) (used_served i st q x) same)) ∙ sym f

  worker_same : (q : ℕ) → IsServed i st q → worker_numbered i st number_of (number_of q) ≡ worker_for i st q
  worker_same q x = ap (λ (o : Option ℕ). unwrap_or o 0)
      (least_same (λ w. is_number (number_of q) (option_map number_of (worker_at st w))) (λ w. is_number q (worker_at st w)) 1 i.options.workers
      (λ w low high. same_at q w x low high (worker_at st w) refl))

  -- the choice that a lawful entry implies is the one that it tells by its numbers
  pub choice_same : (d : Entry) → IsLawful i st d → choice_numbered i st number_of (numbered_after i h d) ≡ choice_of i st d
  choice_same (Copied q part place word) y = ap Worker (worker_same q y.served)
  choice_same (Looked q part name seen) y = ap Worker (worker_same q y.served)
  choice_same (Faulted q errno) y = ap Worker (worker_same q y.served)
  choice_same (Stored t place word) y = refl
  choice_same (Entered t call regs way) y = refl
  choice_same (Claimed w q) y = refl
  choice_same (Answered w s v applied) y = refl
  choice_same (Used t seq call regs args ids result changes) y = refl
  choice_same (Denied t seq errno cause) y = refl
  choice_same (Ended t) y = refl
  choice_same (Replied q reply n) y = refl
  choice_same (Learned q n) y = refl
  choice_same (Reloaded t n done changes) y = refl
