-- The first fault of a text is the fault reported of the first token that doesn't fit.
use Rattle.std.proofs.Common.{◌≡◌, inl, inr, ℕ, ◌≤◌, false, List, [], ◌∷◌, ◌++◌, length, Option, None, Some, Ok, Err, refl, ap, sym, subst, ◌∙◌, append_assoc, append-nil}
use Rattle.std.proofs.lemmas.List.{map-append}
use Rattle.st_grammar.proofs.Common.{binaries, BinaryPolicy, fault_in, filters_in, first_reading, lexed_text, LexFault, lexical, may_test_label, MOST_FILTERS, next, read_step, Reading, reading_step, StepResult, Symbol, symbol_of, Token, Word}
use Rattle.st_grammar.specs.declared.env.Env.{Env}
use Rattle.st_grammar.specs.declared.fault.PolicyFault.TheVariants.{Expected, UnknownArgument}
use Rattle.st_grammar.specs.declared.place.Place.{Place}
use Rattle.st_grammar.specs.declared.fault.PolicyFault.{PolicyFault}
use Rattle.st_grammar.specs.declared.place.Place.TheVariants as place
use Rattle.st_fault_laws.specs.FirstFault.{symbol_here, place_here, fault_at_end, plain_fault, symbols_at, MayContinue, IsLabelAt, IsSpecial, NoCall, ManyFilters, Twice, OtherEmulation, ManyOpening, ManyJoining, NoLabel, NoIndex, NoRe, Learns, NoError, NoIds, SetsIds, NoUser, Reports, Specially, Otherwise, IsFirstFault}
use Rattle.st_grammar.proofs.Complete.{placed}
use Rattle.st_fault_laws.proofs.Completions.{ends-place}
use Rattle.st_fault_laws.proofs.FaultKinds.{Outcome, IsPlain, IsReportedOf, Unlabelled, IndexAsked, outcome-of, judged}
use Rattle.st_fault_laws.proofs.LabelsRead.{LabelAt, BracketAt, label-at, bracket-at, label-ends}
use Rattle.st_fault_laws.proofs.MayStand.{goes-here, operand-taken}
use Rattle.st_grammar.proofs.Readings.{read_over, reading_followed, reading_at}
use Rattle.st_grammar.proofs.Sound.{Stands}
use Rattle.st_fault_laws.proofs.SpecialFaults.{Only, special-only}
use Rattle.st_fault_laws.proofs.WaysOn.{Accepted, accepted, accepted-at, anywhere, end_fault, reported_fault, StopsIn, fault-stops, stands-following}

-- ---- the fault at the end of a text

-- every fault but `Expected`
abbrev pub IsOther : PolicyFault → Type 0
IsOther (Expected at) = ⊥
IsOther fault = Unit {0}

lexical-other : (broken : LexFault) (fault : PolicyFault) → IsOther fault → lexical broken fault ≡ fault
lexical-other broken (Expected at) h = absurd h
lexical-other broken fault h = refl

end-other : (broken : Option LexFault) (fault : PolicyFault) → IsOther fault → end_fault broken fault ≡ fault
end-other None fault h = refl
end-other (Some broken) fault h = lexical-other broken fault h

reported-other : (text : List ℕ) (following : List Token) (fault : PolicyFault) → IsOther fault → reported_fault text following fault ≡ fault
reported-other text [] fault h = end-other (lexed_text text).fault fault h
reported-other text (t ∷ ts) fault h = refl

end-plain : (broken : Option LexFault) (at : ℕ) → end_fault broken (Expected at) ≡ fault_at_end at broken
end-plain None at = refl
end-plain (Some broken) at = refl

reported-plain : (text : List ℕ) (following : List Token) → reported_fault text following (Expected (place_here text following)) ≡ plain_fault text following
reported-plain text [] = end-plain (lexed_text text).fault (length text)
reported-plain text (t ∷ ts) = refl

is-other : {text : List ℕ} {env : Env} {old : List BinaryPolicy} {before : List Token} {at : ℕ} {s : Symbol} {fault : PolicyFault} → IsSpecial text env old before at s fault → IsOther fault
is-other (NoCall ps p word a n) = tt
is-other (ManyFilters ps p word name a n m) = tt
is-other (Twice rows ps here binary e a b h) = tt
is-other (OtherEmulation front word e) = tt
is-other (ManyOpening here o t) = tt
is-other (ManyJoining here o t) = tt
is-other (NoLabel word l t) = tt
is-other (NoIndex front label bracket word index e l b i) = tt
is-other (NoRe g) = tt
is-other (Learns l t) = tt
is-other (NoError front word e) = tt
is-other (NoIds n p) = tt
is-other (SetsIds n p) = tt
is-other (NoUser word g) = tt

failed : (env : Env) (r : Reading) (s : Symbol) (x : StepResult) (found : PolicyFault) → reading_step env r s x ≡ Err found → x ≡ Err found
failed env r s (Ok v) found e = absurd (cc)
failed env r s (Err fault) found e = cc

-- ---- the parts of the theorem

module _ (text : List ℕ) (env : Env) (old : List BinaryPolicy) (few : filters_in old ≤ MOST_FILTERS) where
  -- no text that is read begins with the tokens before and a symbol at which the reading stops
  stops-here : (before : List Token) (r : Reading) → read_over env (first_reading old) (placed text before) ≡ Ok r → (at : ℕ) (s : Symbol) (found : PolicyFault) → read_step env r at s ≡ Err found → MayContinue env old (symbols_at text before ++ s ∷ []) → ⊥
  stops-here before r read at s found e g =
      let a : Accepted env old r (at ∷ []) (s ∷ []) = accepted-at text env old before r read (at ∷ []) (s ∷ []) g in
      let two : Err found ≡ Ok a.reading = ap (reading_followed (λ r. Ok r)) (sym e) ∙ a.over in
      absurd (cc)

  -- no text that is read begins with a label that no argument has
  stops-label : (before : List Token) (r : Reading) → read_over env (first_reading old) (placed text before) ≡ Ok r → r.walk.place ≡ place.Label → may_test_label r.walk.name r.walk.label ≡ false → (l : LabelAt text env old before r) → MayContinue env old (symbols_at text l.front ++ symbol_of text l.label ∷ []) → ⊥
  stops-label before r read e none l g =
      let cut : symbols_at text l.front ++ symbol_of text l.label ∷ [] ≡ symbols_at text before ++ [] = sym (append-nil (symbols_at text before) ∙ ap (symbols_at text) l.parts ∙ map-append (symbol_of text) l.front (l.label ∷ [])) in
      let a : Accepted env old r [] [] = accepted text env old before r read [] (subst (MayContinue env old) cut g) in
      let same : r ≡ a.reading = cc (a.over) in
      let over : read_over env r (anywhere a.more) ≡ Ok a.last = ap (λ (q : Reading). read_over env q (anywhere a.more)) same ∙ a.over_more in
      label-ends env r.walk r.set none a.policies old a.more a.last a.at_rows (subst (λ (p : Place). read_over env (reading_at p r.walk r.set) (anywhere a.more) ≡ Ok a.last) e over)

  -- an operand may occur at the place of the label
  label-takes : (before following : List Token) (r : Reading) → (lexed_text text).tokens ≡ before ++ following → (l : LabelAt text env old before r) → IsLabelAt text env old l.front l.label
  label-takes before following r parts l =
      let cut : (lexed_text text).tokens ≡ l.front ++ (l.label ∷ following) = parts ∙ ap (λ (ts : List Token). ts ++ following) l.parts ∙ append_assoc l.front (l.label ∷ []) following in
      record { word = r.walk.label; symbol_is = l.symbol_is; labels = l.labels; takes = operand-taken text env old l.front (l.label ∷ following) cut l.rows l.us l.front_is r.walk r.set l.facts }

  -- a label that no argument has is the first token that doesn't fit
  first-label : (before following : List Token) (r : Reading) → (lexed_text text).tokens ≡ before ++ following → read_over env (first_reading old) (placed text before) ≡ Ok r → r.walk.place ≡ place.Label → may_test_label r.walk.name r.walk.label ≡ false → (l : LabelAt text env old before r) → IsFirstFault text env old (UnknownArgument l.label.at)
  first-label before following r parts read e none l =
      let t : IsLabelAt text env old l.front l.label = label-takes before following r parts l in
      let cut : (lexed_text text).tokens ≡ l.front ++ (l.label ∷ following) = parts ∙ ap (λ (ts : List Token). ts ++ following) l.parts ∙ append_assoc l.front (l.label ∷ []) following in
      record {
        before = l.front;
        following = l.label ∷ following;
        parts = cut;
        goes_on = goes-here text env old l.front (l.label ∷ following) cut l.rows l.us l.front_is (ends-place env old l.rows l.us place.Operand r.walk r.set tt l.facts);
        stops = stops-label before r read e none l;
        reported = Specially (UnknownArgument l.label.at) (subst (λ (s : Symbol). IsSpecial text env old l.front l.label.at s (UnknownArgument l.label.at)) (sym t.symbol_is) (NoLabel t.word t.labels t.takes));
      }

  index-asked : (before following : List Token) (at : ℕ) (r : Reading) → (lexed_text text).tokens ≡ before ++ following → BracketAt text env old before r → IndexAsked text env old before r.walk at place.Index
  index-asked before following at r parts b word index i =
      let l : LabelAt text env old b.front b.reading = b.label in
      let cut : (lexed_text text).tokens ≡ b.front ++ (b.bracket ∷ following) = parts ∙ ap (λ (ts : List Token). ts ++ following) b.parts ∙ append_assoc b.front (b.bracket ∷ []) following in
      let whole : before ≡ l.front ++ l.label ∷ b.bracket ∷ [] = b.parts ∙ ap (λ (ts : List Token). ts ++ b.bracket ∷ []) l.parts ∙ append_assoc l.front (l.label ∷ []) (b.bracket ∷ []) in
      subst (λ (n : ℕ). IsSpecial text env old before at (Word word) (UnknownArgument n)) (sym (b.at_is ∙ l.at_is))
      (NoIndex l.front l.label b.bracket word index whole (label-takes b.front (b.bracket ∷ following) b.reading cut l) b.bracket_is i)

  asked : (before following : List Token) (at : ℕ) (r : Reading) → (lexed_text text).tokens ≡ before ++ following → read_over env (first_reading old) (placed text before) ≡ Ok r → (p : Place) → r.walk.place ≡ p → IndexAsked text env old before r.walk at p
  asked before following at r parts read place.Index e = index-asked before following at r parts (bracket-at text env old few before r read e)
  asked before following at r parts read p e = tt

  -- no special fault applies to a symbol that was not expected
  not-plain : (before following : List Token) (r : Reading) → read_over env (first_reading old) (placed text before) ≡ Ok r → read_step env r (place_here text following) (symbol_here text following) ≡ Err (Expected (place_here text following)) →
      (fault : PolicyFault) → IsSpecial text env old before (place_here text following) (symbol_here text following) fault → ⊥
  not-plain before following r read stops fault s =
      let same : Expected (place_here text following) ≡ fault = subst (Only (place_here text following) fault) stops (special-only text env old before r read (place_here text following) (symbol_here text following) fault s) in
      subst IsOther (sym same) (is-other s)

  -- the first fault where the reading stops, by its kind
  first-by : (before following : List Token) (r : Reading) (found fault : PolicyFault) → (lexed_text text).tokens ≡ before ++ following → read_over env (first_reading old) (placed text before) ≡ Ok r → (h : Stands env old (symbols_at text before) r) →
      read_step env r (place_here text following) (symbol_here text following) ≡ Err found → fault ≡ reported_fault text following found → Outcome text env old before r.walk.place r.walk (place_here text following) (symbol_here text following) found → IsFirstFault text env old fault
  first-by before following r found fault parts read h stops reported (IsPlain m) = record {
    before = before;
    following = following;
    parts = parts;
    goes_on = goes-here text env old before following parts h.rows h.front h.parts (ends-place env old h.rows h.front r.walk.place r.walk r.set m h.facts);
    stops = stops-here before r read (place_here text following) (symbol_here text following) (Expected (place_here text following)) stops;
    reported = subst (Reports text env old before following) (sym (reported ∙ reported-plain text following)) (Otherwise (λ f s. not-plain before following r read stops f s));
  }
  first-by before following r found fault parts read h stops reported (IsReportedOf special m s) = record {
    before = before;
    following = following;
    parts = parts;
    goes_on = goes-here text env old before following parts h.rows h.front h.parts (ends-place env old h.rows h.front r.walk.place r.walk r.set m h.facts);
    stops = stops-here before r read (place_here text following) (symbol_here text following) special stops;
    reported = subst (Reports text env old before following) (sym (reported ∙ reported-other text following special (is-other s))) (Specially special s);
  }
  first-by before following r found fault parts read h stops reported (Unlabelled (inl e) none) =
      let l : LabelAt text env old before r = label-at text env old few before r read e in
      subst (IsFirstFault text env old) (sym (reported ∙ reported-other text following (UnknownArgument r.walk.label_at) tt ∙ ap (λ (n : ℕ). UnknownArgument n) l.at_is)) (first-label before following r parts read e none l)
  first-by before following r found fault parts read h stops reported (Unlabelled (inr e) none) =
      let b : BracketAt text env old before r = bracket-at text env old few before r read e in
      let cut : (lexed_text text).tokens ≡ b.front ++ (b.bracket ∷ following) = parts ∙ ap (λ (ts : List Token). ts ++ following) b.parts ∙ append_assoc b.front (b.bracket ∷ []) following in
      let named : may_test_label b.reading.walk.name b.reading.walk.label ≡ false = ap (may_test_label b.reading.walk.name) (sym b.label_is) ∙ ap (λ n. may_test_label n r.walk.label) (sym b.name_is) ∙ none in
      subst (IsFirstFault text env old) (sym (reported ∙ reported-other text following (UnknownArgument r.walk.label_at) tt ∙ ap (λ (n : ℕ). UnknownArgument n) (b.at_is ∙ b.label.at_is))) (first-label b.front (b.bracket ∷ following) b.reading cut b.read b.place_is named b.label)

  pub first-fault : (fault : PolicyFault) → fault_in text env old ≡ Some fault → IsFirstFault text env old fault
  first-fault fault e =
      let st : StopsIn env text (first_reading old) (lexed_text text).tokens fault = fault-stops text env old fault e in
      let r : Reading = st.reading in
      let at : ℕ = place_here text st.following in
      let s : Symbol = symbol_here text st.following in
      let h : Stands env old (symbols_at text st.before) r = stands-following text env old st.before r few st.read in
      let o : Outcome text env old st.before r.walk.place r.walk at s st.found =
      outcome-of st.found
      (judged text env old st.before st.following st.parts h.rows h.front h.parts r.walk r.set at r.walk.place (asked st.before st.following at r st.parts st.read r.walk.place refl) h.facts s)
      (failed env r s (next env (binaries r.set) r.walk at s) st.found st.stops) in
      first-by st.before st.following r st.found fault st.parts st.read h st.stops st.reported o
