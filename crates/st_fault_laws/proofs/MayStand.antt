-- What may occur at a place of the grammar.
use Rattle.std.proofs.Common.{◌≡◌, ℕ, zero, suc, true, List, [], ◌∷◌, ◌++◌, codes, refl, ap, sym, subst, ◌∙◌, arith, append_assoc, append-nil}
use Rattle.st_grammar.proofs.Common.{BinaryPolicy, Close, completed, concluded, True, GrammarState, lexed_text, Line, OpenBracket, Quoted, Reading, Symbol, symbol_of, Token, Word}
use Rattle.st_grammar.specs.declared.env.Env.{Env}
use Rattle.st_grammar.specs.declared.place.Place.TheVariants as place
use Rattle.st_fault_laws.specs.FirstFault.{symbols_at, MayContinue, EndsOperand, InParens, Whole, TakesOperand, TakesOperator, TakesAction, TakesId}
use Rattle.st_fault_laws.proofs.Completions.{Ending, Printed, closed, led, printed-more, a-word, a-quoted, a-close, an-open_bracket, a-line, line-ends, facts-close, facts-then, facts-true, ends-tail, ends-joint, ends-error}
use Rattle.st_grammar.proofs.Fronts.{Facts}
use Rattle.st_grammar.proofs.Kept.{line-keeps}
use Rattle.st_grammar.proofs.Sound.{RowEnded}
use Rattle.st_fault_laws.proofs.WaysOn.{text-goes_on}

nothing : Printed []
nothing = record { pieces = []; spelled = λ ps. refl; well = λ ps h. h }

-- ---- tokens of symbols

pub record TokenCut (text : List ℕ) (tokens : List Token) (ts us : List Symbol) : Type 0 where
  pub front : List Token
  pub back : List Token
  pub parts : tokens ≡ front ++ back
  pub front_is : symbols_at text front ≡ ts
  pub back_is : symbols_at text back ≡ us

-- if the symbols have two parts, the tokens have two parts too
pub token-cut : (text : List ℕ) (ts us : List Symbol) (tokens : List Token) → symbols_at text tokens ≡ ts ++ us → TokenCut text tokens ts us
token-cut text [] us tokens e = record { front = []; back = tokens; parts = refl; front_is = refl; back_is = e }
token-cut text (t ∷ ts) us [] e = absurd (cc)
token-cut text (t ∷ ts) us (x ∷ xs) e =
    let same : symbols_at text xs ≡ ts ++ us = cc in
    let first : symbol_of text x ≡ t = cc in
    let c : TokenCut text xs ts us = token-cut text ts us xs same in
    record { front = x ∷ c.front; back = c.back; parts = ap (λ (ys : List Token). x ∷ ys) c.parts; front_is = ap (λ (ys : List Symbol). symbol_of text x ∷ ys) c.front_is ∙ ap (λ (s : Symbol). s ∷ ts) first; back_is = c.back_is }

-- ---- what may follow tokens

module _ (text : List ℕ) (env : Env) (old : List BinaryPolicy) (before following : List Token) (parts : (lexed_text text).tokens ≡ before ++ following) (rows front : List Symbol) (is : symbols_at text before ≡ rows ++ front) where
  goes : (xs : List Symbol) → Printed xs → Ending env old (rows ++ (front ++ xs)) → MayContinue env old (symbols_at text before ++ xs)
  goes xs p e = text-goes_on text env old before following parts xs p (subst (Ending env old) (sym (append_assoc rows front xs) ∙ ap (λ (ts : List Symbol). ts ++ xs) (sym is)) e)

  pub goes-here : Ending env old (rows ++ front) → MayContinue env old (symbols_at text before)
  goes-here e = subst (MayContinue env old) (append-nil (symbols_at text before)) (text-goes_on text env old before following parts [] nothing (subst (Ending env old) (sym is ∙ sym (append-nil (symbols_at text before))) e))

  goes-two : (s t : Symbol) → Printed (s ∷ []) → Printed (t ∷ []) → Ending env old (rows ++ ((front ++ s ∷ []) ++ t ∷ [])) → MayContinue env old (symbols_at text before ++ s ∷ t ∷ [])
  goes-two s t p q e = goes (s ∷ t ∷ []) (printed-more (s ∷ []) (t ∷ []) p q) (subst (Ending env old) (ap (λ (ts : List Symbol). rows ++ ts) (append_assoc front (s ∷ []) (t ∷ []))) e)

  -- an id, and the end of the row
  pub id-line : (r : Reading) → RowEnded env old ((rows ++ (front ++ Word (codes "0") ∷ [])) ++ Line ∷ []) r → TakesId env old (symbols_at text before)
  id-line r h =
      let s : Symbol = Word (codes "0") in
      goes-two s Line (a-word (codes "0") refl) a-line (subst (Ending env old) (append_assoc rows (front ++ s ∷ []) (Line ∷ [])) (line-ends env old ((rows ++ (front ++ s ∷ [])) ++ Line ∷ []) r h))

  -- the text of a test, after its operator
  pub operator-text : (w : GrammarState) (set : List BinaryPolicy) → Facts env old rows (front ++ Word (codes "eq") ∷ []) place.Text w set → TakesOperator env old (symbols_at text before)
  operator-text w set h =
      let s : Symbol = Word (codes "eq") in
      let t : Symbol = Quoted (codes "\"\"") in
      goes-two s t (a-word (codes "eq") refl) a-quoted (ends-joint env old rows w.parens ((front ++ s ∷ []) ++ t ∷ []) (led env w set t place.Text) set refl (line-keeps env old rows (front ++ s ∷ []) w set 0 place.Text t refl h))

  -- the bracket after `deny`
  pub denial-bracket : (w : GrammarState) (set : List BinaryPolicy) → Facts env old rows (front ++ Word (codes "deny") ∷ []) place.Denial w set → TakesAction env old (symbols_at text before)
  denial-bracket w set h =
      let s : Symbol = Word (codes "deny") in
      goes-two s OpenBracket (a-word (codes "deny") refl) an-open_bracket (ends-error env old rows ((front ++ s ∷ []) ++ OpenBracket ∷ []) (led env w set OpenBracket place.Denial) set (line-keeps env old rows (front ++ s ∷ []) w set 0 place.Denial OpenBracket refl h))

  -- what may follow symbols that end an operand
  joint-whole : (ys : List Symbol) → Printed ys → (w : GrammarState) (set : List BinaryPolicy) → w.parens ≡ 0 → Facts env old rows (front ++ ys) place.Joint w set → EndsOperand env old (symbols_at text before ++ ys)
  joint-whole ys p w set e h =
      let s : Symbol = Word (codes "then") in
      let t : Symbol = Word (codes "permit") in
      let v : GrammarState = concluded w in
      let acted : Facts env old rows ((front ++ ys) ++ s ∷ []) place.Action v set = facts-then env old rows (front ++ ys) w set e h in
      let ending : Ending env old (rows ++ (((front ++ ys) ++ s ∷ []) ++ t ∷ [])) = ends-tail env old rows (((front ++ ys) ++ s ∷ []) ++ t ∷ []) (led env v set t place.Action) set true true (line-keeps env old rows ((front ++ ys) ++ s ∷ []) v set 0 place.Action t refl acted) in
      let same : ((front ++ ys) ++ s ∷ []) ++ t ∷ [] ≡ front ++ (ys ++ s ∷ t ∷ []) = append_assoc (front ++ ys) (s ∷ []) (t ∷ []) ∙ append_assoc front ys (s ∷ t ∷ []) in
      let two : Printed (s ∷ t ∷ []) = printed-more (s ∷ []) (t ∷ []) (a-word (codes "then") refl) (a-word (codes "permit") refl) in
      Whole (subst (MayContinue env old) (sym (append_assoc (symbols_at text before) ys (s ∷ t ∷ []))) (goes (ys ++ s ∷ t ∷ []) (printed-more ys (s ∷ t ∷ []) p two) (subst (Ending env old) (ap (λ (ts : List Symbol). rows ++ ts) same) ending)))

  joint-in_parens : (n : ℕ) (ys : List Symbol) → Printed ys → (w : GrammarState) (set : List BinaryPolicy) → w.parens ≡ suc n → Facts env old rows (front ++ ys) place.Joint w set → EndsOperand env old (symbols_at text before ++ ys)
  joint-in_parens n ys p w set e h =
      let ending : Ending env old (rows ++ ((front ++ ys) ++ Close ∷ [])) = ends-joint env old rows n ((front ++ ys) ++ Close ∷ []) (closed w) set (omega (arith, e)) (facts-close env old rows (front ++ ys) w set (omega (arith, e)) h) in
      InParens (subst (MayContinue env old) (sym (append_assoc (symbols_at text before) ys (Close ∷ []))) (goes (ys ++ Close ∷ []) (printed-more ys (Close ∷ []) p a-close) (subst (Ending env old) (ap (λ (ts : List Symbol). rows ++ ts) (append_assoc front ys (Close ∷ []))) ending)))

  joint-by : (n : ℕ) (ys : List Symbol) → Printed ys → (w : GrammarState) (set : List BinaryPolicy) → w.parens ≡ n → Facts env old rows (front ++ ys) place.Joint w set → EndsOperand env old (symbols_at text before ++ ys)
  joint-by zero ys p w set e h = joint-whole ys p w set e h
  joint-by (suc n) ys p w set e h = joint-in_parens n ys p w set e h

  pub joint-ends : (w : GrammarState) (set : List BinaryPolicy) → Facts env old rows front place.Joint w set → EndsOperand env old (symbols_at text before)
  joint-ends w set h =
      subst (EndsOperand env old) (append-nil (symbols_at text before))
      (joint-by w.parens [] nothing w set refl (subst (λ (ts : List Symbol). Facts env old rows ts place.Joint w set) (sym (append-nil front)) h))

  pub operand-taken : (w : GrammarState) (set : List BinaryPolicy) → Facts env old rows front place.Operand w set → TakesOperand env old (symbols_at text before)
  operand-taken w set h =
      let s : Symbol = Word (codes "true") in
      joint-by w.parens (s ∷ []) (a-word (codes "true") refl) (completed True w) set refl (facts-true env old rows front w set h)
