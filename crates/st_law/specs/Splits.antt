-- How a part of the state is read off the history without the machine's own steps: the history is split at the entry that decides, and no
-- later entry touches the part. Histories have the newest entry first, so `later ++ e ∷ earlier` is e with the entries after and before it.
use Rattle.std.specs.Prelude.{◌≡◌, ◌⊎◌, ℕ, Bool, true, List, [], ◌∷◌, ◌++◌}
use Rattle.st_trace.specs.declared.entry.Change.{Change}
use Rattle.st_trace.specs.declared.entry.Entry.{Entry}
use Rattle.st_trace.specs.declared.entry.Entry.TheVariants.{Used, Reloaded}
use Rattle.st_law.specs.Threads.{History}

-- ---- changes of one entry, the oldest first

-- none of these changes is of the kind
abbrev pub NoneIn : (Change → Type 0) → List Change → Type 0
NoneIn Is [] = Unit {0}
NoneIn Is (c ∷ changes) = (Is c → ⊥) × NoneIn Is changes

-- some of these changes is of the kind
abbrev pub SomeIn : (Change → Type 0) → List Change → Type 0
SomeIn Is [] = ⊥
SomeIn Is (c ∷ changes) = Is c ⊎ SomeIn Is changes

-- the last of these changes that is of the kind gives this value, by the changes before it
pub record LastGives {V : Type 0} (Is : Change → Type 0) (Gives : List Change → Change → V → Type 0) (changes : List Change) (v : V) : Type 0 where
  pub before : List Change
  pub change : Change
  pub after : List Change
  pub split : changes ≡ before ++ change ∷ after
  pub gives : Gives before change v
  pub last : NoneIn Is after

-- ---- entries of a history, the newest first

-- none of the later entries touches the part, each seen with the entries before it
abbrev pub NoneTouches : (Entry → History → Type 0) → History → History → Type 0
NoneTouches Touches [] earlier = Unit {0}
NoneTouches Touches (e ∷ later) earlier = (Touches e (later ++ earlier) → ⊥) × NoneTouches Touches later earlier

-- the part has the value that the last entry touching it gives; if none touches it, it has its first value
pub record IsLastGiven {V : Type 0} (value : History → V) (first : V) (Touches : Entry → History → Type 0) (Gives : Entry → History → V → Type 0) : Type 0 where
  pub at_first : value [] ≡ first
  -- an entry gives it a value, and no later one touches it
  pub given : (later earlier : History) (e : Entry) (v : V) → Gives e earlier v → NoneTouches Touches later (e ∷ earlier) → value (later ++ e ∷ earlier) ≡ v
  -- entries that don't touch it leave it unchanged
  pub kept : (later earlier : History) → NoneTouches Touches later earlier → value (later ++ earlier) ≡ value earlier

-- an entry touches what it gives some value
abbrev pub GivesSome : {V : Type 0} → (Entry → History → V → Type 0) → Entry → History → Type 0
GivesSome {V} Gives e h = (v : V) × Gives e h v

-- the part has the last value that any entry gives it
abbrev pub IsLastOf : {V : Type 0} → (History → V) → V → (Entry → History → V → Type 0) → Type 0
IsLastOf value first Gives = IsLastGiven value first (GivesSome Gives) Gives

-- the changes of an entry touch the part, by the thread that makes them and the entries before it
abbrev pub ChangeTouches : {V : Type 0} → (ℕ → History → Change → V → Type 0) → Entry → History → Type 0
ChangeTouches {V} Gives (Used t seq call regs args ids result changes) h = SomeIn (λ c. (v : V) × Gives t h c v) changes
ChangeTouches {V} Gives (Reloaded t n done changes) h = SomeIn (λ c. (v : V) × Gives t h c v) changes
ChangeTouches Gives _ h = ⊥

-- the last change of an entry that touches the part gives it this value
abbrev pub ChangeGives : {V : Type 0} → (ℕ → History → Change → V → Type 0) → Entry → History → V → Type 0
ChangeGives {V} Gives (Used t seq call regs args ids result changes) h v = LastGives (λ c. (w : V) × Gives t h c w) (λ before. Gives t h) changes v
ChangeGives {V} Gives (Reloaded t n done changes) h v = LastGives (λ c. (w : V) × Gives t h c w) (λ before. Gives t h) changes v
ChangeGives Gives _ h v = ⊥

-- the part has the last value that any change gives it
abbrev pub IsLastChanged : {V : Type 0} → (History → V) → V → (ℕ → History → Change → V → Type 0) → Type 0
IsLastChanged value first Gives = IsLastGiven value first (ChangeTouches Gives) (ChangeGives Gives)

-- the history has an entry of the kind, by the entries before that entry
pub record Contains (Is : Entry → History → Type 0) (h : History) : Type 0 where
  pub later : History
  pub entry : Entry
  pub earlier : History
  pub split : h ≡ later ++ entry ∷ earlier
  pub is : Is entry earlier

-- the part is true after an entry of the kind, and nowhere else
pub record IsTrueAfter (value : History → Bool) (Is : Entry → History → Type 0) : Type 0 where
  pub following : (later earlier : History) (e : Entry) → Is e earlier → value (later ++ e ∷ earlier) ≡ true
  pub nowhere_else : (h : History) → value h ≡ true → Contains Is h
