-- What a thread has begun, followed by what it has left, is its body. Also what a stale answer leaves.
use Rattle.std.proofs.Common.{◌≡◌, ℕ, Bool, true, false, cond, ◌&&◌, ◌||◌, ◌==◌, List, [], ◌∷◌, ◌++◌, drop, None, refl, sym, ap, subst, ◌∙◌, inl, inr}
use Rattle.std.proofs.lemmas.Bool.{eqb-true, eqb-false, eq-eqb, ne_eqb, and_right}
use Rattle.std.proofs.lemmas.List.{append_assoc}
use Rattle.st_calls.specs.declared.judged.Snapshot.{Snapshot}
use Rattle.st_calls.specs.declared.judged.Verdict.{Verdict}
use Rattle.st_trace.specs.Instructions.{IsCallOf}
use Rattle.st_trace.specs.declared.entry.Entry.TheVariants.{Stored, Entered, Claimed, Copied, Looked, Faulted, Answered, Used, Denied, Ended, Replied, Learned, Reloaded}
use Rattle.st_trace.specs.declared.start.Instr.{Instr}
use Rattle.st_trace.specs.declared.start.Instr.TheVariants.{Store, Reload}
use Rattle.st_law.specs.declared.input.Input.{Input}
use Rattle.st_law.specs.History.{looking_back, message_at}
use Rattle.st_law.specs.Lawful.{IsLawfulBack}
use Rattle.st_law.specs.Laws.{IsStale, IsBegun, HasBegun}
use Rattle.st_law.specs.Messages.{turn_at, is_answered_at}
use Rattle.st_law.specs.Threads.{History, body_of, left_at}

-- ---- instructions

-- the instructions that a thread has begun, followed by those that it has left, are its body
abbrev Goes : Input → History → ℕ → Type 0
Goes i h t = (begun : List Instr) × HasBegun t h begun × (begun ++ left_at i h t ≡ body_of i t)

-- the instructions left after the first is taken
module _ (i : Input) (h : History) (u t : ℕ) (Is : Instr → Type 0) (x : Instr) (later : List Instr) (next : left_at i h u ≡ x ∷ later) (is : Is x) (before : Goes i h t) where
  begun_by : (b : Bool) → (u == t) ≡ b → (begun : List Instr) × IsBegun u t Is (HasBegun t h) begun × (begun ++ cond b (drop 1 (left_at i h t)) (left_at i h t) ≡ body_of i t)
  begun_by true e =
      let same : u ≡ t = eqb-true u t e in
      let left : left_at i h t ≡ x ∷ later = subst (λ n. left_at i h n ≡ x ∷ later) same next in (
        before.0 ++ x ∷ [],
        inl (same, (before.0, x, is, before.1, refl)),
        append_assoc before.0 (x ∷ []) (drop 1 (left_at i h t)) ∙ ap (λ rest. before.0 ++ x ∷ drop 1 rest) left ∙ ap (λ rest. before.0 ++ rest) (sym left) ∙ before.2,
      )
  begun_by false e = (before.0, inr (eqb-false u t e, before.1), before.2)

pub goes_through : (i : Input) (h : History) (t : ℕ) → IsLawfulBack i h → Goes i h t
goes_through i [] t lawful = ([], refl, refl)
goes_through i (Stored u place word ∷ h) t lawful = begun_by i h u t (λ instruction. instruction ≡ Store place word) (Store place word) lawful.0.later lawful.0.next refl (goes_through i h t lawful.1) (u == t) refl
goes_through i (Entered u call regs way ∷ h) t lawful = begun_by i h u t (λ instruction. IsCallOf instruction call regs) lawful.0.instruction lawful.0.later lawful.0.next lawful.0.makes (goes_through i h t lawful.1) (u == t) refl
goes_through i (Reloaded u n done changes ∷ h) t lawful = begun_by i h u t (λ instruction. instruction ≡ Reload n) (Reload n) lawful.0.later lawful.0.next refl (goes_through i h t lawful.1) (u == t) refl
goes_through i (Claimed w q ∷ h) t lawful = goes_through i h t lawful.1
goes_through i (Copied q part place word ∷ h) t lawful = goes_through i h t lawful.1
goes_through i (Looked q part name seen ∷ h) t lawful = goes_through i h t lawful.1
goes_through i (Faulted q errno ∷ h) t lawful = goes_through i h t lawful.1
goes_through i (Answered w s v applied ∷ h) t lawful = goes_through i h t lawful.1
goes_through i (Used u seq call regs args ids result changes ∷ h) t lawful = goes_through i h t lawful.1
goes_through i (Denied u seq errno cause ∷ h) t lawful = goes_through i h t lawful.1
goes_through i (Ended u ∷ h) t lawful = goes_through i h t lawful.1
goes_through i (Learned q n ∷ h) t lawful = goes_through i h t lawful.1
goes_through i (Replied q reply n ∷ h) t lawful = goes_through i h t lawful.1

-- ---- a stale answer

unapplied : (b before : Bool) → ((b && false) || before) ≡ before
unapplied b before = ap (λ c. c || before) (and_right b false refl)

pub stale : (i : Input) (h : History) (w : ℕ) (s : Snapshot) (v : Verdict) → IsStale i h w (Answered w s v false)
stale i h w s v = record {
  record_stays = λ k. record (looking_back i h) {
    messages = λ q. record (message_at i h q) { answered = unapplied (s.seq == q) (is_answered_at h q) k };
    turns = turn_at (Answered w s v false ∷ h);
  };
  own = ap (λ b. cond b None (turn_at h w)) (eq-eqb w w refl);
  others = λ u differ. ap (λ b. cond b None (turn_at h u)) (ne_eqb w u (λ same. differ (sym same)));
}
