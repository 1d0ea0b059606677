-- Readings of symbols with their offsets, joined end to end.
use Rattle.std.proofs.Common.{◌≡◌, ℕ, List, [], ◌∷◌, ◌++◌, map, Result, Ok, Err, refl, ap, sym, ◌∙◌}
use Rattle.st_grammar.proofs.Common.{BinaryPolicy, Env, GrammarState, Place, PolicyFault, read_step, Reading, Symbol}

-- a symbol, and its offset
pub record Placed : Type 0 where
  pub at : ℕ
  pub symbol : Symbol

abbrev pub symbols : List Placed → List Symbol
symbols zs = map (λ z. z.symbol) zs

abbrev pub Read : Type 0
Read = Result Reading PolicyFault

abbrev pub reading_followed : (Reading → Read) → Read → Read
reading_followed f (Ok r) = f r
reading_followed f (Err fault) = Err fault

abbrev pub read_over : Env → Reading → List Placed → Read
read_over env r [] = Ok r
read_over env r (z ∷ zs) = reading_followed (λ r. read_over env r zs) (read_step env r z.at z.symbol)

followed-step : (env : Env) (ys : List Placed) (f : Reading → Read) (g : Reading → Read) → ((r : Reading) → f r ≡ reading_followed (λ r. read_over env r ys) (g r)) → (x : Read) → reading_followed f x ≡ reading_followed (λ r. read_over env r ys) (reading_followed g x)
followed-step env ys f g h (Ok r) = h r
followed-step env ys f g h (Err fault) = refl

pub over-append : (env : Env) (xs ys : List Placed) (r : Reading) → read_over env r (xs ++ ys) ≡ reading_followed (λ r. read_over env r ys) (read_over env r xs)
over-append env [] ys r = refl
over-append env (x ∷ xs) ys r = followed-step env ys (λ r. read_over env r (xs ++ ys)) (λ r. read_over env r xs) (over-append env xs ys) (read_step env r x.at x.symbol)

-- ---- parts of symbols with offsets

record Cut (zs : List Placed) (ts us : List Symbol) : Type 0 where
  front : List Placed
  back : List Placed
  parts : zs ≡ front ++ back
  front_is : symbols front ≡ ts
  back_is : symbols back ≡ us

cut : (ts us : List Symbol) (zs : List Placed) → symbols zs ≡ ts ++ us → Cut zs ts us
cut [] us zs e = record { front = []; back = zs; parts = refl; front_is = refl; back_is = e }
cut (t ∷ ts) us [] e = absurd (cc)
cut (t ∷ ts) us (z ∷ zs) e =
    let same : symbols zs ≡ ts ++ us = cc in
    let first : z.symbol ≡ t = cc in
    let c : Cut zs ts us = cut ts us zs same in
    record { front = z ∷ c.front; back = c.back; parts = ap (λ (xs : List Placed). z ∷ xs) c.parts; front_is = ap (λ (xs : List Symbol). z.symbol ∷ xs) c.front_is ∙ ap (λ (s : Symbol). s ∷ ts) first; back_is = c.back_is }

-- ---- what symbols lead to, at any offset

pub record Steps (env : Env) (r : Reading) (at : ℕ) (s : Symbol) (Q : Reading → Type 0) : Type 0 where
  pub reading : Reading
  pub step : read_step env r at s ≡ Ok reading
  pub holds : Q reading

pub record Leads (env : Env) (r : Reading) (zs : List Placed) (Q : Reading → Type 0) : Type 0 where
  pub reading : Reading
  pub over : read_over env r zs ≡ Ok reading
  pub holds : Q reading

-- a symbol, or some symbols, lead from any reading of one kind to a reading of another
abbrev pub Step1 : Env → (Reading → Type 0) → Symbol → (Reading → Type 0) → Type 0
Step1 env P s Q = (at : ℕ) (r : Reading) → P r → Steps env r at s Q

pub record Passes (env : Env) (P : Reading → Type 0) (ts : List Symbol) (Q : Reading → Type 0) : Type 0 where
  pub pass : (zs : List Placed) → symbols zs ≡ ts → (r : Reading) → P r → Leads env r zs Q

pub passes-none : {env : Env} {P Q : Reading → Type 0} → ((r : Reading) → P r → Q r) → Passes env P [] Q
passes-none {env} {P} {Q} f = record { pass = none } where
  none : (zs : List Placed) → symbols zs ≡ [] → (r : Reading) → P r → Leads env r zs Q
  none [] e r p = record { reading = r; over = refl; holds = f r p }
  none (z ∷ zs) e r p = absurd (cc)

pub passes-append : {env : Env} {P Q R : Reading → Type 0} {ts us : List Symbol} → Passes env P ts Q → Passes env Q us R → Passes env P (ts ++ us) R
passes-append {env} {P} {Q} {R} {ts} {us} p q = record {
  pass = λ zs e r h.
      let c : Cut zs ts us = cut ts us zs e in
      let a : Leads env r c.front Q = p.pass c.front c.front_is r h in
      let b : Leads env a.reading c.back R = q.pass c.back c.back_is a.reading a.holds in
      record {
        reading = b.reading;
        over = ap (read_over env r) c.parts ∙ over-append env c.front c.back r ∙ ap (reading_followed (λ r. read_over env r c.back)) a.over ∙ b.over;
        holds = b.holds;
      };
}

pub passes-one : {env : Env} {P Q : Reading → Type 0} {s : Symbol} → Step1 env P s Q → Passes env P (s ∷ []) Q
passes-one {env} {P} {Q} {s} f = record { pass = one } where
  one : (zs : List Placed) → symbols zs ≡ s ∷ [] → (r : Reading) → P r → Leads env r zs Q
  one [] e r p = absurd (cc)
  one (z ∷ []) e r p =
      let same : z.symbol ≡ s = cc in
      let a : Steps env r z.at s Q = f z.at r p in
      record { reading = a.reading; over = ap (λ (s : Symbol). reading_followed (λ r. Ok r) (read_step env r z.at s)) same ∙ ap (reading_followed (λ r. Ok r)) a.step; holds = a.holds }
  one (z ∷ y ∷ zs) e r p = absurd (cc)

pub passes-step : {env : Env} {P Q R : Reading → Type 0} {s : Symbol} {ts : List Symbol} → Step1 env P s Q → Passes env Q ts R → Passes env P (s ∷ ts) R
passes-step f q = passes-append (passes-one f) q

pub passes-more : {env : Env} {P Q R : Reading → Type 0} {ts : List Symbol} → Passes env P ts Q → ((r : Reading) → Q r → R r) → Passes env P ts R
passes-more {env} {P} {Q} p f = record {
  pass = λ zs e r h.
      let a : Leads env r zs Q = p.pass zs e r h in
      record { reading = a.reading; over = a.over; holds = f a.reading a.holds };
}

pub passes-from : {env : Env} {P Q R : Reading → Type 0} {ts : List Symbol} → ((r : Reading) → Q r → P r) → Passes env P ts R → Passes env Q ts R
passes-from f p = record { pass = λ zs e r h. p.pass zs e r (f r h) }

-- at this reading the symbol is read as at some reading of this kind
pub record Alike (env : Env) (r : Reading) (s : Symbol) (P : Reading → Type 0) : Type 0 where
  pub other : Reading
  pub holds : P other
  pub same : (at : ℕ) → read_step env r at s ≡ read_step env other at s

pub passes-alike : {env : Env} {P Q R : Reading → Type 0} {s : Symbol} {ts : List Symbol} → ((r : Reading) → Q r → Alike env r s P) → Passes env P (s ∷ ts) R → Passes env Q (s ∷ ts) R
passes-alike {env} {P} {Q} {R} {s} {ts} f p = record { pass = alike } where
  alike : (zs : List Placed) → symbols zs ≡ s ∷ ts → (r : Reading) → Q r → Leads env r zs R
  alike [] e r q = absurd (cc)
  alike (z ∷ zs) e r q =
      let first : z.symbol ≡ s = cc in
      let a : Alike env r s P = f r q in
      let l : Leads env a.other (z ∷ zs) R = p.pass (z ∷ zs) e a.other a.holds in
      let same : read_step env r z.at z.symbol ≡ read_step env a.other z.at z.symbol = ap (read_step env r z.at) first ∙ a.same z.at ∙ ap (read_step env a.other z.at) (sym first) in
      record { reading = l.reading; over = ap (reading_followed (λ r. read_over env r zs)) same ∙ l.over; holds = l.holds }

-- ---- readings by their place

abbrev pub reading_at : Place → GrammarState → List BinaryPolicy → Reading
reading_at p w set = record { walk = record w { place = p }; set = set }

-- a reading at this place, with this set and a state of this kind
pub data At (p : Place) (set : List BinaryPolicy) (H : GrammarState → Type 0) : Reading → Type 0 where
  stands : (w : GrammarState) → H w → At p set H (reading_at p w set)

-- a step to a place, with this set and a state of this kind
pub record Goes (env : Env) (r : Reading) (at : ℕ) (s : Symbol) (q : Place) (next : List BinaryPolicy) (K : GrammarState → Type 0) : Type 0 where
  pub walk : GrammarState
  pub step : read_step env r at s ≡ Ok (reading_at q walk next)
  pub holds : K walk

pub goes : {env : Env} {p q : Place} {set next : List BinaryPolicy} {H K : GrammarState → Type 0} {s : Symbol} → ((at : ℕ) (w : GrammarState) → H w → Goes env (reading_at p w set) at s q next K) → Step1 env (At p set H) s (At q next K)
goes {q} {next} f at r (stands w h) = let g = f at w h in record { reading = reading_at q g.walk next; step = g.step; holds = stands g.walk g.holds }

-- a symbol that changes nothing but the place
pub steady : {env : Env} {p q : Place} {set : List BinaryPolicy} {H : GrammarState → Type 0} {s : Symbol} → ((w : GrammarState) (at : ℕ) → read_step env (reading_at p w set) at s ≡ Ok (reading_at q w set)) → Step1 env (At p set H) s (At q set H)
steady f = goes (λ at w h. record { walk = w; step = f w at; holds = h })
