-- Places of the grammar are determined by what may occur there.
use Rattle.std.proofs.Common.{◌≡◌, Bool, true, false, List, [], ◌∷◌, ℕ, None, Some, option_map, refl, Ok, Err, codes, subst}
use Rattle.std.specs.Str.{bytes_eq}
use Rattle.st_grammar.proofs.Common.{BinaryPolicy, Close, filter_name, GrammarState, grants, id_in, Line, may_test, names_for, OpenBracket, Quoted, Reading, Symbol, with_group, Word}
use Rattle.st_emulation.specs.Words.{word_of}
use Rattle.st_emulation.specs.declared.emulation.Emulation.{Emulation}
use Rattle.st_emulation.specs.declared.emulation.Emulation.TheVariants.{Native, Linux}
use Rattle.st_grammar.specs.declared.env.Env.{Env}
use Rattle.st_grammar.specs.declared.place.Place.{Place}
use Rattle.st_grammar.specs.declared.place.Place.TheVariants as place
use Rattle.st_grammar.proofs.Fronts.{by-some, by-test}
use Rattle.st_grammar.proofs.Readings.{Read, read_over, reading_followed, reading_at}
use Rattle.st_grammar.proofs.Sound.{IsFault}
use Rattle.st_fault_laws.proofs.WaysOn.{anywhere}

-- ---- symbols that may not occur at some places

pub unless : (P : Type 0) (x : Read) (q : Reading) → x ≡ Ok q → IsFault x → P
unless P x q e h = absurd (subst IsFault e h)

pub fault-follows : (f : Reading → Read) (x : Read) → IsFault x → IsFault (reading_followed f x)
fault-follows f (Ok r) h = absurd h
fault-follows f (Err fault) h = tt

-- a word that names no filter under either emulation
pub no-name : (word : List ℕ) (emulation : Emulation) → filter_name word Native ≡ None → filter_name word Linux ≡ None → filter_name word emulation ≡ None
no-name word Native n l = n
no-name word Linux n l = l

-- a word that names neither emulation
pub no-emulation : (word : List ℕ) (emulation : Emulation) → bytes_eq word (word_of Native) ≡ false → bytes_eq word (word_of Linux) ≡ false → bytes_eq word (word_of emulation) ≡ false
no-emulation word Native n l = n
no-emulation word Linux n l = l

-- the reading after these symbols
abbrev pub over : Env → List Symbol → Reading → Read
over env xs = λ r. read_over env r (anywhere xs)

-- ---- places, by what may occur there

abbrev pub IsActionPlace : Place → Type 0
IsActionPlace place.Clause = Unit {0}
IsActionPlace place.Action = Unit {0}
IsActionPlace p = ⊥

abbrev pub IsOperandPlace : Place → Type 0
IsOperandPlace place.Clause = Unit {0}
IsOperandPlace place.Operand = Unit {0}
IsOperandPlace p = ⊥

abbrev pub IsJointPlace : Place → Type 0
IsJointPlace place.Joint = Unit {0}
IsJointPlace p = ⊥

abbrev pub IsIdPlace : Place → Type 0
IsIdPlace (place.Grant log) = Unit {0}
IsIdPlace (place.Group log) = Unit {0}
IsIdPlace (place.Id who) = Unit {0}
IsIdPlace p = ⊥

-- the place of an operator, or after a label that may be tested with index 0
abbrev pub IsOperatorPlace : Place → GrammarState → Type 0
IsOperatorPlace place.Operator w = Unit {0}
IsOperatorPlace place.Label w = may_test w.name w.label 0 ≡ true
IsOperatorPlace p w = ⊥

module _ (env : Env) (w : GrammarState) (set : List BinaryPolicy) (q : Reading) where
  pub action-place : (p : Place) → over env (Word (codes "deny") ∷ OpenBracket ∷ []) (reading_at p w set) ≡ Ok q → IsActionPlace p
  action-place place.Clause e = tt
  action-place place.Action e = tt
  action-place place.Label e = unless ⊥ _ q e (by-test (may_test w.name w.label 0) (λ m. rw m tt) (λ m. rw m tt))
  action-place (place.Grant log) e = unless ⊥ _ q e (by-some (id_in env.users (codes "deny")) (λ id u. rw u tt) (λ u. rw u tt))
  action-place (place.Group log) e = unless ⊥ _ q e (by-some (id_in env.groups (codes "deny")) (λ id u. rw u tt) (λ u. rw u tt))
  action-place (place.Id who) e = unless ⊥ _ q e (by-some (id_in (names_for env who) (codes "deny")) (λ id u. rw u tt) (λ u. rw u tt))
  action-place place.Row e = unless ⊥ _ q e (rw (no-name (codes "deny") env.emulation refl refl) tt)
  action-place place.System e = unless ⊥ _ q e (rw (no-emulation (codes "deny") env.emulation refl refl) tt)
  action-place p e = unless ⊥ _ q e tt

  pub operand-place : (s : Symbol) (xs : List Symbol) → ((log : Bool) (v : GrammarState) → IsFault (over env (s ∷ xs) (reading_at (place.User log) v set))) → ((log : Bool) (v : GrammarState) → IsFault (over env (s ∷ xs) (reading_at (place.Tail false log) v set))) →
      ((v : GrammarState) → IsFault (over env (s ∷ xs) (reading_at place.FilterEnd v set))) → (p : Place) → over env (Word (codes "true") ∷ s ∷ xs) (reading_at p w set) ≡ Ok q → IsOperandPlace p
  operand-place s xs f g h place.Clause e = tt
  operand-place s xs f g h place.Operand e = tt
  operand-place s xs f g h place.Label e = unless ⊥ _ q e (by-test (may_test w.name w.label 0) (λ m. rw m tt) (λ m. rw m tt))
  operand-place s xs f g h (place.Grant log) e = unless ⊥ _ q e (by-some (id_in env.users (codes "true")) (λ id u. rw u (f log (grants (Some id) (place.User log) w))) (λ u. rw u tt))
  operand-place s xs f g h (place.Group log) e = unless ⊥ _ q e (by-some (id_in env.groups (codes "true")) (λ id u. rw u (g log (record w { grant = option_map (with_group id) w.grant }))) (λ u. rw u tt))
  operand-place s xs f g h (place.Id who) e = unless ⊥ _ q e (by-some (id_in (names_for env who) (codes "true")) (λ id u. rw u (h (record w { predicate = Some (record { who = who; cmp = w.cmp; id = id }) }))) (λ u. rw u tt))
  operand-place s xs f g h place.Row e = unless ⊥ _ q e (rw (no-name (codes "true") env.emulation refl refl) tt)
  operand-place s xs f g h place.System e = unless ⊥ _ q e (rw (no-emulation (codes "true") env.emulation refl refl) tt)
  operand-place s xs f g h p e = unless ⊥ _ q e tt

  pub close-place : (p : Place) → over env (Close ∷ []) (reading_at p w set) ≡ Ok q → IsJointPlace p
  close-place place.Joint e = tt
  close-place p e = unless ⊥ _ q e tt

  pub then-place : (p : Place) → over env (Word (codes "then") ∷ Word (codes "permit") ∷ []) (reading_at p w set) ≡ Ok q → IsJointPlace p
  then-place place.Joint e = tt
  then-place place.Label e = unless ⊥ _ q e (by-test (may_test w.name w.label 0) (λ m. rw m tt) (λ m. rw m tt))
  then-place (place.Grant log) e = unless ⊥ _ q e (by-some (id_in env.users (codes "then")) (λ id u. rw u tt) (λ u. rw u tt))
  then-place (place.Group log) e = unless ⊥ _ q e (by-some (id_in env.groups (codes "then")) (λ id u. rw u tt) (λ u. rw u tt))
  then-place (place.Id who) e = unless ⊥ _ q e (by-some (id_in (names_for env who) (codes "then")) (λ id u. rw u tt) (λ u. rw u tt))
  then-place place.Row e = unless ⊥ _ q e (rw (no-name (codes "then") env.emulation refl refl) tt)
  then-place place.System e = unless ⊥ _ q e (rw (no-emulation (codes "then") env.emulation refl refl) tt)
  then-place p e = unless ⊥ _ q e tt

  pub id-place : (p : Place) → over env (Word (codes "0") ∷ Line ∷ []) (reading_at p w set) ≡ Ok q → IsIdPlace p
  id-place (place.Grant log) e = tt
  id-place (place.Group log) e = tt
  id-place (place.Id who) e = tt
  id-place place.Label e = unless ⊥ _ q e (by-test (may_test w.name w.label 0) (λ m. rw m tt) (λ m. rw m tt))
  id-place place.Index e = unless ⊥ _ q e (by-test (may_test w.name w.label 0) (λ m. rw m tt) (λ m. rw m tt))
  id-place place.Row e = unless ⊥ _ q e (rw (no-name (codes "0") env.emulation refl refl) tt)
  id-place place.System e = unless ⊥ _ q e (rw (no-emulation (codes "0") env.emulation refl refl) tt)
  id-place p e = unless ⊥ _ q e tt

  pub operator-place : (p : Place) → over env (Word (codes "eq") ∷ Quoted (codes "\"\"") ∷ []) (reading_at p w set) ≡ Ok q → IsOperatorPlace p w
  operator-place place.Operator e = tt
  operator-place place.Label e = by-test (may_test w.name w.label 0) (λ m. m) (λ m. unless (may_test w.name w.label 0 ≡ true) _ q e (rw m tt))
  operator-place (place.Grant log) e = unless ⊥ _ q e (by-some (id_in env.users (codes "eq")) (λ id u. rw u tt) (λ u. rw u tt))
  operator-place (place.Group log) e = unless ⊥ _ q e (by-some (id_in env.groups (codes "eq")) (λ id u. rw u tt) (λ u. rw u tt))
  operator-place (place.Id who) e = unless ⊥ _ q e (by-some (id_in (names_for env who) (codes "eq")) (λ id u. rw u tt) (λ u. rw u tt))
  operator-place place.Row e = unless ⊥ _ q e (rw (no-name (codes "eq") env.emulation refl refl) tt)
  operator-place place.System e = unless ⊥ _ q e (rw (no-emulation (codes "eq") env.emulation refl refl) tt)
  operator-place p e = unless ⊥ _ q e tt
