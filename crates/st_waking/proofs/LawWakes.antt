-- An entry of numbers wakes the threads that the law's entry of drawings does: the machine has no other drawing of a number that it names.
use Rattle.std.proofs.Common.{◌≡◌, ◌∙◌, ◌||◌, ℕ, Bool, true, false, cond, List, [], ◌∷◌, map, Option, Some, None, refl, ap, sym, subst, true≢false}
use Rattle.std.proofs.lemmas.Bool.{eq-eqb, eqb-true}
use Rattle.std.proofs.lemmas.Option.{same_Some}
use Rattle.std.specs.Option.{option_map}
use Rattle.std.specs.List.{list_any}
use Rattle.st_messages.specs.Messages.{HeldCalls, drawing_of, thread_of_drawing}
use Rattle.st_trace.specs.declared.entry.Change.{Change}
use Rattle.st_trace.specs.declared.entry.Change.TheVariants.{Renewed}
use Rattle.st_trace.specs.declared.entry.Entry.{Entry}
use Rattle.st_trace.specs.declared.entry.Entry.TheVariants.{Answered, Faulted, Learned, Replied, Used}
use Rattle.st_law.specs.Messages.{Head}
use Rattle.st_law.specs.Numbers.{NamesDrawing, Numbers, largest_number, numbered_change, numbered_entry, numbers_after}
use Rattle.st_law.specs.State.{State}
use Rattle.st_reached.specs.Waiting.{holds_alike, is_head_by, is_message_by, wakes, wakes_all}
use Rattle.st_workers.proofs.States.{is_held_by}
use Rattle.st_decide.specs.Machine.{Refines, Running}
use Rattle.st_decide.proofs.SameRule.{held_alike}
use Rattle.st_waking.specs.Waking.{alike_woken, holder_woken, is_woken, thread_if, woken_by}
use Rattle.st_waking.specs.declared.waking.Woken.TheVariants.{Everybody, Nobody}

-- the calls have no other drawing of a number that an entry names than the one that it names
abbrev pub MeansDrawings : HeldCalls → (ℕ → ℕ) → Entry → Type 0
MeansDrawings calls number_of e = (q p : ℕ) → NamesDrawing q e → drawing_of calls (number_of q) ≡ Some p → p ≡ q

-- the numbers of renewals make no difference
wakes_numbered : (number_of : ℕ → ℕ) (changes : List Change) → list_any wakes_all (map (numbered_change number_of) changes) ≡ list_any wakes_all changes
wakes_numbered number_of [] = refl
wakes_numbered number_of (Renewed old new ∷ changes) = wakes_numbered number_of changes
wakes_numbered number_of (change ∷ changes) = ap (λ (b : Bool). wakes_all change || b) (wakes_numbered number_of changes)

same_thread : (t u : ℕ) (o : Option Head) → is_head_by t o ≡ true → option_map (λ (head : Head). head.tid) o ≡ Some u → t ≡ u
same_thread t u None by held = absurd (true≢false (sym by))
same_thread t u (Some head) by held = sym (eqb-true head.tid t by) ∙ same_Some head.tid u held

module _ (m : Running) (st : State) (is : Refines m st) where
  holder_law : (q : ℕ) (found : Option ℕ) → ((p : ℕ) → found ≡ Some p → p ≡ q) → (t : ℕ) → is_message_by st t q ≡ true → is_woken m (holder_woken (thread_if m.workers.calls found)) t ≡ true
  holder_law q None means t by = refl
  holder_law q (Some p) means t by = of (thread_of_drawing m.workers.calls p) refl where
    of : (o : Option ℕ) → thread_of_drawing m.workers.calls p ≡ o → is_woken m (holder_woken o) t ≡ true
    of None e = refl
    of (Some tid) e = eq-eqb t tid (same_thread t tid (st.messages p).head (subst (λ (n : ℕ). is_message_by st t n ≡ true) (sym (means p refl)) by) (is_held_by m.input st m.workers is.workers p tid e))

  alike_law : (q : ℕ) (found : Option ℕ) → ((p : ℕ) → found ≡ Some p → p ≡ q) → (t : ℕ) → holds_alike st q t ≡ true → is_woken m (alike_woken found) t ≡ true
  alike_law q None means t alike = refl
  alike_law q (Some p) means t alike = held_alike m st is p t (subst (λ (n : ℕ). holds_alike st n t ≡ true) (sym (means p refl)) alike)

  -- an entry that draws no number means the drawings that it names
  abbrev pub MeansIfQuiet : (ℕ → Bool) → Numbers → Entry → Type 0
  MeansIfQuiet ready numbers e = numbers_after largest_number ready numbers e ≡ numbers → MeansDrawings m.workers.calls numbers.number_of e

  pub law_wakes : (ready : ℕ → Bool) (numbers : Numbers) (e : Entry) → MeansIfQuiet ready numbers e → (t : ℕ) → wakes st e t ≡ true → is_woken m (woken_by m.workers.calls (numbered_entry (numbers_after largest_number ready numbers e).number_of e)) t ≡ true
  law_wakes ready numbers (Used u seq call regs args ids result changes) means t woken =
      ap (λ (b : Bool). is_woken m (cond b Everybody Nobody) t) (wakes_numbered (numbers_after largest_number ready numbers (Used u seq call regs args ids result changes)).number_of changes ∙ woken)
  law_wakes ready numbers (Faulted q errno) means t woken = holder_law q (drawing_of m.workers.calls (numbers.number_of q)) (λ p found. means refl q p refl found) t woken
  law_wakes ready numbers (Answered w s v true) means t woken = holder_law s.seq (drawing_of m.workers.calls (numbers.number_of s.seq)) (λ p found. means refl s.seq p refl found) t woken
  law_wakes ready numbers (Answered w s v false) means t woken = absurd (true≢false (sym woken))
  law_wakes ready numbers (Learned q n) means t woken = alike_law q (drawing_of m.workers.calls (numbers.number_of q)) (λ p found. means refl q p refl found) t woken
  law_wakes ready numbers (Replied q reply n) means t woken = alike_law q (drawing_of m.workers.calls (numbers.number_of q)) (λ p found. means refl q p refl found) t woken
  law_wakes ready numbers _ means t woken = absurd (true≢false (sym woken))
