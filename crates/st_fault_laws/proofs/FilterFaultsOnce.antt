-- A text that should be one filter has at most one first fault.
use Rattle.std.proofs.Common.{◌≡◌, ◌≢◌, ℕ, List, [], ◌∷◌, ◌++◌, length, codes, refl, ap, sym, ◌∙◌, arith}
use Rattle.st_grammar.proofs.Common.{FilterValue, IsFilter, lexed_text, Line, symbol_of, Token, Word}
use Rattle.st_grammar.specs.declared.env.Env.{Env}
use Rattle.st_grammar.specs.declared.fault.PolicyFault.{PolicyFault}
use Rattle.st_grammar.specs.declared.fault.PolicyFault.TheVariants.{UnknownCall}
use Rattle.st_fault_laws.specs.FilterFault.{header, BeginsWithWord, AreInLine, EndsEarly, IsFirstFilterFault, NoName, Headed, AfterRow, InRow}
use Rattle.st_fault_laws.specs.FirstFault.{plain_fault, symbols_at}
use Rattle.st_fault_laws.proofs.FaultsOnce.{first-once}
use Rattle.st_fault_laws.proofs.FilterFaults.{no-policy}
use Rattle.st_fault_laws.proofs.MovedFaults.{moved-once}

-- a text begins with at most one Word
first-same : (text v w : List ℕ) (a : BeginsWithWord text v) (b : BeginsWithWord text w) → a.first ≡ b.first
first-same text v w a b = let same : a.first ∷ a.others ≡ b.first ∷ b.others = sym a.parts ∙ b.parts in cc

pub word-same : (text v w : List ℕ) → BeginsWithWord text v → BeginsWithWord text w → v ≡ w
word-same text v w a b = let same : Word v ≡ Word w = sym a.is_word ∙ ap (symbol_of text) (first-same text v w a b) ∙ b.is_word in cc

-- a filter's row begins with its name
record BeginsName (text : List ℕ) : Type 0 where
  word : List ℕ
  begins : BeginsWithWord text word
  other : word ≢ codes "Policy"

row-begins : (text : List ℕ) (env : Env) (row : List Token) (line : Token) (following : List Token) (f : FilterValue) → (lexed_text text).tokens ≡ row ++ line ∷ following → IsFilter env (symbols_at text row) f → BeginsName text
row-begins text env [] line following f parts is = let p : [] ≡ Word is.spelled ∷ _ = is.parts in absurd (cc)
row-begins text env (t ∷ ts) line following f parts is =
    let p = is.parts in
    let first : symbol_of text t ≡ Word is.spelled = cc in
    record { word = is.spelled; begins = record { first = t; others = ts ++ line ∷ following; parts = parts; is_word = first }; other = no-policy env.emulation is.spelled f.name is.name_is }

early-begins : (text : List ℕ) (env : Env) → EndsEarly text env → BeginsName text
early-begins text env e = row-begins text env e.row e.line e.following e.filter e.parts e.is_filter

-- the end of the first line is unique
line-once : (text : List ℕ) (xs ys : List Token) (l m : Token) (b c : List Token) → xs ++ l ∷ b ≡ ys ++ m ∷ c → AreInLine (symbols_at text xs) → AreInLine (symbols_at text ys) → symbol_of text l ≡ Line → symbol_of text m ≡ Line → b ≡ c
line-once text [] [] l m b c e p q f g = cc
line-once text [] (y ∷ ys) l m b c e p q f g = let same : l ≡ y = cc in absurd (q.0 (ap (symbol_of text) (sym same) ∙ f))
line-once text (x ∷ xs) [] l m b c e p q f g = let same : x ≡ m = cc in absurd (p.0 (ap (symbol_of text) same ∙ g))
line-once text (x ∷ xs) (y ∷ ys) l m b c e p q f g = let others : xs ++ l ∷ b ≡ ys ++ m ∷ c = cc in line-once text xs ys l m b c others p.1 q.1 f g

following-once : (text : List ℕ) (env : Env) (d e : EndsEarly text env) → d.following ≡ e.following
following-once text env d e = line-once text d.row e.row d.line e.line d.following e.following (sym d.parts ∙ e.parts) d.in_line e.in_line d.ends e.ends

module _ (text : List ℕ) (env : Env) where
  no-name : ((word : List ℕ) → BeginsWithWord text word → ⊥) → EndsEarly text env → ⊥
  no-name none e = let b : BeginsName text = early-begins text env e in none b.word b.begins

  no-header : BeginsWithWord text (codes "Policy") → EndsEarly text env → ⊥
  no-header h e = let b : BeginsName text = early-begins text env e in b.other (word-same text b.word (codes "Policy") b.begins h)

  -- a text that should be one filter has at most one first fault
  pub filter-once : (a b : PolicyFault) → IsFirstFilterFault text env a → IsFirstFilterFault text env b → a ≡ b
  filter-once _ _ (NoName p) (NoName q) = refl
  filter-once _ _ (NoName p) (Headed h) = absurd (p (codes "Policy") h)
  filter-once _ _ (NoName p) (AfterRow e) = absurd (no-name p e)
  filter-once _ _ (NoName p) (InRow word b begins other whole is) = absurd (p word begins)
  filter-once _ _ (Headed h) (NoName q) = absurd (q (codes "Policy") h)
  filter-once _ _ (Headed h) (Headed k) = ap (λ (t : Token). UnknownCall t.at) (first-same text (codes "Policy") (codes "Policy") h k)
  filter-once _ _ (Headed h) (AfterRow e) = absurd (no-header h e)
  filter-once _ _ (Headed h) (InRow word b begins other whole is) = absurd (other (word-same text word (codes "Policy") begins h))
  filter-once _ _ (AfterRow d) (NoName q) = absurd (no-name q d)
  filter-once _ _ (AfterRow d) (Headed h) = absurd (no-header h d)
  filter-once _ _ (AfterRow d) (AfterRow e) = ap (plain_fault text) (following-once text env d e)
  filter-once _ _ (AfterRow d) (InRow word b begins other whole is) = absurd (whole d)
  filter-once _ _ (InRow word a begins other whole is) (NoName q) = absurd (q word begins)
  filter-once _ _ (InRow word a begins other whole is) (Headed h) = absurd (other (word-same text word (codes "Policy") begins h))
  filter-once _ _ (InRow word a begins other whole is) (AfterRow e) = absurd (whole e)
  filter-once _ _ (InRow word a begins other whole is) (InRow word' b begins' other' whole' is') =
      moved-once (length (header env.emulation)) a b (first-once (header env.emulation ++ text) env [] (omega arith) _ _ is is')
