-- A text has at most one first fault.
use Rattle.std.proofs.Common.{◌≡◌, inl, inr, ℕ, ◌≤◌, List, [], ◌∷◌, ◌++◌, length, Option, None, Some, Ok, Err, refl, ap, sym, subst, ◌∙◌, append_assoc}
use Rattle.std.proofs.lemmas.List.{map-append}
use Rattle.st_grammar.proofs.Common.{BinaryPolicy, filters_in, lexed_text, LexFault, Line, MOST_FILTERS, read_step, Reading, Symbol, symbol_of, Token}
use Rattle.st_grammar.specs.declared.env.Env.{Env}
use Rattle.st_grammar.specs.declared.fault.PolicyFault.{PolicyFault}
use Rattle.st_fault_laws.specs.FirstFault.{symbol_at_end, symbol_here, place_here, symbols_at, MayContinue, IsSpecial, Reports, Specially, Otherwise, IsFirstFault}
use Rattle.st_fault_laws.proofs.Completions.{Ending, MayEnd, a-line, ends-place}
use Rattle.st_fault_laws.proofs.MayStand.{goes-here}
use Rattle.st_grammar.proofs.Readings.{Read}
use Rattle.st_grammar.proofs.Sound.{IsFault, Stands, StandsAfter, stands-step, broken-step}
use Rattle.st_fault_laws.proofs.SpecialFaults.{Only, special-only}
use Rattle.st_fault_laws.proofs.WaysOn.{text-goes_on, goes-read, stands-following}

-- ---- two ways to cut the same tokens

data Cuts (xs following ys rest : List Token) : Type 0 where
  Same : xs ≡ ys → following ≡ rest → Cuts xs following ys rest
  Longer : (t : Token) (more : List Token) → ys ≡ xs ++ t ∷ more → following ≡ t ∷ (more ++ rest) → Cuts xs following ys rest
  Shorter : (t : Token) (more : List Token) → xs ≡ ys ++ t ∷ more → rest ≡ t ∷ (more ++ following) → Cuts xs following ys rest

cuts-more : (x y : Token) (xs following ys rest : List Token) → x ≡ y → Cuts xs following ys rest → Cuts (x ∷ xs) following (y ∷ ys) rest
cuts-more x y xs following ys rest e (Same p q) = Same (ap (λ (ts : List Token). x ∷ ts) p ∙ ap (λ (t : Token). t ∷ ys) e) q
cuts-more x y xs following ys rest e (Longer t more p q) = Longer t more (ap (λ (ts : List Token). y ∷ ts) p ∙ ap (λ (t' : Token). t' ∷ (xs ++ t ∷ more)) (sym e)) q
cuts-more x y xs following ys rest e (Shorter t more p q) = Shorter t more (ap (λ (ts : List Token). x ∷ ts) p ∙ ap (λ (t' : Token). t' ∷ (ys ++ t ∷ more)) e) q

cuts : (xs following ys rest : List Token) → xs ++ following ≡ ys ++ rest → Cuts xs following ys rest
cuts [] following [] rest e = Same refl e
cuts [] following (y ∷ ys) rest e = Longer y ys refl e
cuts (x ∷ xs) following [] rest e = Shorter x xs refl (sym e)
cuts (x ∷ xs) following (y ∷ ys) rest e =
    let others : xs ++ following ≡ ys ++ rest = cc in
    let first : x ≡ y = cc in
    cuts-more x y xs following ys rest first (cuts xs following ys rest others)

-- ---- what may follow

goes-shorter : (env : Env) (old : List BinaryPolicy) (xs ys : List Symbol) → MayContinue env old (xs ++ ys) → MayContinue env old xs
goes-shorter env old xs ys g = record { other = g.other; more = ys ++ g.more; set = g.set; parts = g.parts ∙ append_assoc xs ys g.more; reads = g.reads }

module _ (text : List ℕ) (env : Env) (old : List BinaryPolicy) where
  -- if more tokens may follow, the first of them may follow
  goes-first : (xs following ys rest : List Token) (t : Token) (more : List Token) → ys ≡ xs ++ t ∷ more → following ≡ t ∷ (more ++ rest) → MayContinue env old (symbols_at text ys) → MayContinue env old (symbols_at text xs ++ symbol_here text following ∷ [])
  goes-first xs following ys rest t more p q g =
      let front : List Symbol = symbols_at text xs in
      let whole : symbols_at text ys ≡ (front ++ symbol_of text t ∷ []) ++ symbols_at text more =
      ap (symbols_at text) p ∙ map-append (symbol_of text) xs (t ∷ more) ∙ sym (append_assoc front (symbol_of text t ∷ []) (symbols_at text more)) in
      let here : symbol_of text t ≡ symbol_here text following = ap (symbol_here text) (sym q) in
      subst (λ (s : Symbol). MayContinue env old (front ++ s ∷ [])) here (goes-shorter env old (front ++ symbol_of text t ∷ []) (symbols_at text more) (subst (MayContinue env old) whole g))

  end-goes : (before : List Token) → (lexed_text text).tokens ≡ before ++ [] → (broken : Option LexFault) (r q : Reading) (at : ℕ) → read_step env r at (symbol_at_end broken) ≡ Ok q → Ending env old (symbols_at text before ++ symbol_at_end broken ∷ []) → MayContinue env old (symbols_at text before ++ symbol_at_end broken ∷ [])
  end-goes before parts None r q at e ending = text-goes_on text env old before [] parts (Line ∷ []) a-line ending
  end-goes before parts (Some broken) r q at e ending = absurd (subst IsFault e (broken-step env r.walk.place r.walk r.set at))

  -- a text that is read begins with the tokens before and a symbol after which a row can be completed
  fits-on : (before following : List Token) → (lexed_text text).tokens ≡ before ++ following → (r q : Reading) → Stands env old (symbols_at text before) r → read_step env r (place_here text following) (symbol_here text following) ≡ Ok q → MayEnd q.walk.place q.walk → MayContinue env old (symbols_at text before ++ symbol_here text following ∷ [])
  fits-on before [] parts r q h e m =
      let s : Symbol = symbol_here text [] in
      let k : Stands env old (symbols_at text before ++ s ∷ []) q = subst (StandsAfter env old (symbols_at text before ++ s ∷ [])) e (stands-step env old (symbols_at text before) r (length text) s h) in
      end-goes before parts (lexed_text text).fault r q (length text) e (subst (Ending env old) (sym k.parts) (ends-place env old k.rows k.front q.walk.place q.walk q.set m k.facts))
  fits-on before (t ∷ ts) parts r q h e m =
      let s : Symbol = symbol_of text t in
      let k : Stands env old (symbols_at text before ++ s ∷ []) q = subst (StandsAfter env old (symbols_at text before ++ s ∷ [])) e (stands-step env old (symbols_at text before) r t.at s h) in
      let same : symbols_at text (before ++ t ∷ []) ≡ symbols_at text before ++ s ∷ [] = map-append (symbol_of text) before (t ∷ []) in
      let cut : (lexed_text text).tokens ≡ (before ++ t ∷ []) ++ ts = parts ∙ sym (append_assoc before (t ∷ []) ts) in
      subst (MayContinue env old) same (goes-here text env old (before ++ t ∷ []) ts cut k.rows k.front (same ∙ k.parts) (ends-place env old k.rows k.front q.walk.place q.walk q.set m k.facts))

  -- ---- the reported fault

  reported-by : (at : ℕ) (a b : PolicyFault) (x : Read) → ((q : Reading) → x ≡ Ok q → MayEnd q.walk.place q.walk → ⊥) → Only at a x → Only at b x → a ≡ b
  reported-by at a b (Err found) stops h k = sym h ∙ k
  reported-by at a b (Ok q) stops (inl m) k = absurd (stops q refl m)
  reported-by at a b (Ok q) stops (inr h) (inl m) = absurd (stops q refl m)
  reported-by at a b (Ok q) stops (inr h) (inr k) = h ∙ sym k

  special-once : filters_in old ≤ MOST_FILTERS → (before following : List Token) → (lexed_text text).tokens ≡ before ++ following → MayContinue env old (symbols_at text before) → (MayContinue env old (symbols_at text before ++ symbol_here text following ∷ []) → ⊥) → (a b : PolicyFault) →
      IsSpecial text env old before (place_here text following) (symbol_here text following) a → IsSpecial text env old before (place_here text following) (symbol_here text following) b → a ≡ b
  special-once few before following parts goes stops a b h k =
      let g = goes-read text env old before goes in
      let at : ℕ = place_here text following in
      let s : Symbol = symbol_here text following in
      let stands : Stands env old (symbols_at text before) g.0 = stands-following text env old before g.0 few g.1 in
      reported-by at a b (read_step env g.0 at s) (λ q e m. stops (fits-on before following parts g.0 q stands e m))
      (special-only text env old before g.0 g.1 at s a h) (special-only text env old before g.0 g.1 at s b k)

  reported-once : filters_in old ≤ MOST_FILTERS → (before following : List Token) → (lexed_text text).tokens ≡ before ++ following → MayContinue env old (symbols_at text before) → (MayContinue env old (symbols_at text before ++ symbol_here text following ∷ []) → ⊥) → (a b : PolicyFault) →
      Reports text env old before following a → Reports text env old before following b → a ≡ b
  reported-once few before following parts goes stops a b (Specially fault h) (Specially other k) = special-once few before following parts goes stops fault other h k
  reported-once few before following parts goes stops a b (Specially fault h) (Otherwise none) = absurd (none fault h)
  reported-once few before following parts goes stops a b (Otherwise none) (Specially other k) = absurd (none other k)
  reported-once few before following parts goes stops a b (Otherwise none) (Otherwise no_other) = refl

  once-by : filters_in old ≤ MOST_FILTERS → (a b : PolicyFault) (f : IsFirstFault text env old a) (g : IsFirstFault text env old b) → Cuts f.before f.following g.before g.following → a ≡ b
  once-by few a b f g (Same p q) =
      reported-once few f.before f.following f.parts f.goes_on f.stops a b f.reported
      (subst (λ (ts : List Token). Reports text env old ts f.following b) (sym p) (subst (λ (ts : List Token). Reports text env old g.before ts b) (sym q) g.reported))
  once-by few a b f g (Longer t more p q) = absurd (f.stops (goes-first f.before f.following g.before g.following t more p q g.goes_on))
  once-by few a b f g (Shorter t more p q) = absurd (g.stops (goes-first g.before g.following f.before f.following t more p q f.goes_on))

  -- a text has at most one first fault
  pub first-once : filters_in old ≤ MOST_FILTERS → (a b : PolicyFault) → IsFirstFault text env old a → IsFirstFault text env old b → a ≡ b
  first-once few a b f g = once-by few a b f g (cuts f.before f.following g.before g.following (sym f.parts ∙ g.parts))
