-- How a text may continue, and where a reading of it stops.
use Rattle.std.proofs.Common.{◌≡◌, ℕ, ◌≤◌, List, [], ◌∷◌, ◌++◌, length, take, map, Option, None, Some, Ok, Err, refl, ap, sym, subst, ◌∙◌, append_assoc, append-nil}
use Rattle.std.proofs.lemmas.List.{map-append}
use Rattle.st_grammar.proofs.Common.{AreRows, BinaryPolicy, Broken, fault_in, fault_of, filters_in, first_reading, lexed_text, LexFault, lexical, Line, MOST_FILTERS, or_refused, Piece, piece_tokens, print, read_end, read_from, read_step, Reading, Space, spelled_tokens, Symbol, symbol_of, symbols_in, Token, unless_lexical}
use Rattle.st_grammar.specs.declared.env.Env.{Env}
use Rattle.st_grammar.specs.declared.fault.PolicyFault.{PolicyFault}
use Rattle.st_fault_laws.specs.Cuts.{end_of_tokens}
use Rattle.st_lex.specs.Pieces.{IsReadAs}
use Rattle.st_fault_laws.proofs.Cuts.{cut_is_read}
use Rattle.st_fault_laws.specs.FirstFault.{symbol_at_end, symbol_here, place_here, symbols_at, MayContinue}
use Rattle.st_grammar.proofs.Complete.{AtRows, placed, rows-read}
use Rattle.st_fault_laws.proofs.Completions.{Ending, Printed}
use Rattle.st_grammar.proofs.Texts.{result_after}
use Rattle.st_reread.proofs.PrintedTexts.{spelled-symbols}
use Rattle.st_grammar.proofs.Readings.{Placed, symbols, Read, read_over, reading_followed, over-append, Leads}
use Rattle.st_grammar.proofs.Sound.{Stands, StandsAfter, stands-step, first-stands}
use Rattle.st_reread.proofs.Symbols.{spelled_symbol, piece_symbols}

-- ---- texts that continue

-- if rows can be completed after tokens of a text and some symbols, a text that is read begins with these
pub text-goes_on : (text : List ℕ) (env : Env) (old : List BinaryPolicy) (before following : List Token) → (lexed_text text).tokens ≡ before ++ following → (xs : List Symbol) → Printed xs → Ending env old (symbols_at text before ++ xs) → MayContinue env old (symbols_at text before ++ xs)
text-goes_on text env old before following parts xs p e =
    let pieces : List Piece = p.pieces ++ e.pieces in
    let cut : List ℕ = take (end_of_tokens 0 before) text ++ print (Space ∷ pieces) in
    let is : IsReadAs cut (spelled_tokens text before ++ piece_tokens pieces) = cut_is_read text before following pieces parts (p.well e.pieces e.well) in
    let front : List Symbol = symbols_at text before in
    let same : symbols_in cut ≡ front ++ (xs ++ piece_symbols e.pieces) =
    spelled-symbols cut (lexed_text cut).tokens ∙ ap (map spelled_symbol) is.in_order ∙ map-append spelled_symbol (spelled_tokens text before) (piece_tokens pieces)
    ∙ ap (λ (ts : List Symbol). ts ++ piece_symbols pieces) (sym (spelled-symbols text before)) ∙ ap (λ (ts : List Symbol). front ++ ts) (p.spelled e.pieces) in
    let whole : symbols_in cut ++ Line ∷ [] ≡ (front ++ xs) ++ (piece_symbols e.pieces ++ Line ∷ []) =
    ap (λ (ts : List Symbol). ts ++ Line ∷ []) (same ∙ sym (append_assoc front xs (piece_symbols e.pieces))) ∙ append_assoc (front ++ xs) (piece_symbols e.pieces) (Line ∷ []) in
    record {
      other = cut;
      more = piece_symbols e.pieces ++ Line ∷ [];
      set = old ++ e.policies;
      parts = whole;
      reads = record { whole = is.faultless; policies = e.policies; rows = subst (λ (ts : List Symbol). AreRows env ts e.policies) (sym whole) e.rows; set_is = refl; new = e.new; few = e.few };
    }

-- ---- what may continue is read

-- the first of some offsets
abbrev pub first_place : List ℕ → ℕ
first_place [] = 0
first_place (at ∷ places) = at

abbrev pub other_places : List ℕ → List ℕ
other_places [] = []
other_places (at ∷ places) = places

-- symbols at these offsets
abbrev pub spread : List ℕ → List Symbol → List Placed
spread places [] = []
spread places (s ∷ xs) = record { at = first_place places; symbol = s } ∷ spread (other_places places) xs

symbols-spread : (places : List ℕ) (ts : List Symbol) → symbols (spread places ts) ≡ ts
symbols-spread places [] = refl
symbols-spread places (t ∷ ts) = ap (λ (us : List Symbol). t ∷ us) (symbols-spread (other_places places) ts)

-- symbols at any offsets
abbrev pub anywhere : List Symbol → List Placed
anywhere ts = spread [] ts

-- tokens are their symbols at their offsets
pub placed-spread : (text : List ℕ) (ts : List Token) → placed text ts ≡ spread (map (λ t. t.at) ts) (symbols_at text ts)
placed-spread text [] = refl
placed-spread text (t ∷ ts) = ap (λ (zs : List Placed). record { at = t.at; symbol = symbol_of text t } ∷ zs) (placed-spread text ts)

pub symbols-placed : (text : List ℕ) (ts : List Token) → symbols (placed text ts) ≡ symbols_at text ts
symbols-placed text [] = refl
symbols-placed text (t ∷ ts) = ap (λ (us : List Symbol). symbol_of text t ∷ us) (symbols-placed text ts)

pub followed-parts : (f : Reading → Read) (x : Read) (q : Reading) → reading_followed f x ≡ Ok q → (r : Reading) × (x ≡ Ok r) × (f r ≡ Ok q)
followed-parts f (Ok r) q e = (r, refl, e)
followed-parts f (Err fault) q e = absurd (cc)

-- placed symbols that are read are read part by part
pub over-parts : (env : Env) (xs ys : List Placed) (r q : Reading) → read_over env r (xs ++ ys) ≡ Ok q → (m : Reading) × (read_over env r xs ≡ Ok m) × (read_over env m ys ≡ Ok q)
over-parts env xs ys r q e = followed-parts (λ r. read_over env r ys) (read_over env r xs) q (sym (over-append env xs ys r) ∙ e)

-- tokens that are read, and symbols at these offsets after them
pub record ReadTo (text : List ℕ) (env : Env) (old : List BinaryPolicy) (front : List Token) (places : List ℕ) (xs : List Symbol) (r : Reading) : Type 0 where
  pub reading : Reading
  pub read : read_over env (first_reading old) (placed text front) ≡ Ok reading
  pub over : read_over env reading (spread places xs) ≡ Ok r

-- tokens that are read are read part by part
pub read-to : (text : List ℕ) (env : Env) (old : List BinaryPolicy) (before front back : List Token) (xs : List Symbol) (r : Reading) → before ≡ front ++ back → symbols_at text back ≡ xs → read_over env (first_reading old) (placed text before) ≡ Ok r → ReadTo text env old front (map (λ t. t.at) back) xs r
read-to text env old before front back xs r e f read =
    let cut : placed text before ≡ placed text front ++ placed text back = ap (placed text) e ∙ map-append (λ (t : Token). record { at = t.at; symbol = symbol_of text t }) front back in
    let two = over-parts env (placed text front) (placed text back) (first_reading old) r (ap (read_over env (first_reading old)) (sym cut) ∙ read) in
    record { reading = two.0; read = two.1; over = ap (read_over env two.0) (ap (spread (map (λ t. t.at) back)) (sym f) ∙ sym (placed-spread text back)) ∙ two.2 }

read-from : (env : Env) (ys : List Placed) (m r q : Reading) → m ≡ r → read_over env m ys ≡ Ok q → read_over env r ys ≡ Ok q
read-from env ys m r q e h = subst (λ (x : Reading). read_over env x ys ≡ Ok q) e h

-- some symbols that are read at these offsets, and others after them up to the end of a row
pub record Accepted (env : Env) (old : List BinaryPolicy) (r : Reading) (places : List ℕ) (xs : List Symbol) : Type 0 where
  pub reading : Reading
  pub over : read_over env r (spread places xs) ≡ Ok reading
  pub more : List Symbol
  pub last : Reading
  pub over_more : read_over env reading (anywhere more) ≡ Ok last
  pub policies : List BinaryPolicy
  pub at_rows : AtRows old policies last

-- the symbols that a text that is read has after symbols that were read
pub accepted-at : (text : List ℕ) (env : Env) (old : List BinaryPolicy) (before : List Token) (r : Reading) → read_over env (first_reading old) (placed text before) ≡ Ok r → (places : List ℕ) (xs : List Symbol) → MayContinue env old (symbols_at text before ++ xs) → Accepted env old r places xs
accepted-at text env old before r read places xs g =
    let ys : List Placed = spread places xs ++ anywhere g.more in
    let zs : List Placed = placed text before ++ ys in
    let same : symbols zs ≡ symbols_in g.other ++ Line ∷ [] =
    map-append (λ (z : Placed). z.symbol) (placed text before) ys ∙ ap (λ (us : List Symbol). us ++ symbols ys) (symbols-placed text before)
    ∙ ap (λ (us : List Symbol). symbols_at text before ++ us) (map-append (λ (z : Placed). z.symbol) (spread places xs) (anywhere g.more) ∙ ap (λ (us : List Symbol). us ++ symbols (anywhere g.more)) (symbols-spread places xs) ∙ ap (λ (us : List Symbol). xs ++ us) (symbols-spread [] g.more))
    ∙ sym (append_assoc (symbols_at text before) xs g.more) ∙ sym g.parts in
    let l : Leads env (first_reading old) zs (AtRows old g.reads.policies) = rows-read g.other env old g.set g.reads zs same in
    let one = over-parts env (placed text before) ys (first_reading old) l.reading l.over in
    let here : one.0 ≡ r = cc (one.1, read) in
    let ends : read_over env r ys ≡ Ok l.reading = read-from env ys one.0 r l.reading here one.2 in
    let two = over-parts env (spread places xs) (anywhere g.more) r l.reading ends in
    record { reading = two.0; over = two.1; more = g.more; last = l.reading; over_more = two.2; policies = g.reads.policies; at_rows = l.holds }

-- tokens with which a text that is read begins are read
pub goes-read : (text : List ℕ) (env : Env) (old : List BinaryPolicy) (before : List Token) → MayContinue env old (symbols_at text before) → (r : Reading) × (read_over env (first_reading old) (placed text before) ≡ Ok r)
goes-read text env old before g =
    let zs : List Placed = placed text before ++ anywhere g.more in
    let same : symbols zs ≡ symbols_in g.other ++ Line ∷ [] =
    map-append (λ (z : Placed). z.symbol) (placed text before) (anywhere g.more) ∙ ap (λ (us : List Symbol). us ++ symbols (anywhere g.more)) (symbols-placed text before)
    ∙ ap (λ (us : List Symbol). symbols_at text before ++ us) (symbols-spread [] g.more) ∙ sym g.parts in
    let l : Leads env (first_reading old) zs (AtRows old g.reads.policies) = rows-read g.other env old g.set g.reads zs same in
    let one = over-parts env (placed text before) (anywhere g.more) (first_reading old) l.reading l.over in
    (one.0, one.1)

-- the same at any offsets of the symbols
pub accepted : (text : List ℕ) (env : Env) (old : List BinaryPolicy) (before : List Token) (r : Reading) → read_over env (first_reading old) (placed text before) ≡ Ok r → (xs : List Symbol) → MayContinue env old (symbols_at text before ++ xs) → Accepted env old r [] xs
accepted text env old before r read xs g = accepted-at text env old before r read [] xs g

-- ---- where a reading stops

-- the fault of the symbol at the end, which is the lexical one if no token begins there
abbrev pub end_fault : Option LexFault → PolicyFault → PolicyFault
end_fault None found = found
end_fault (Some fault) found = lexical fault found

abbrev pub reported_fault : List ℕ → List Token → PolicyFault → PolicyFault
reported_fault text [] found = end_fault (lexed_text text).fault found
reported_fault text (t ∷ ts) found = found

-- tokens that are read, and the first that isn't
pub record StopsIn (env : Env) (text : List ℕ) (r : Reading) (tokens : List Token) (fault : PolicyFault) : Type 0 where
  pub before : List Token
  pub following : List Token
  pub parts : tokens ≡ before ++ following
  pub reading : Reading
  pub read : read_over env r (placed text before) ≡ Ok reading
  pub found : PolicyFault
  pub stops : read_step env reading (place_here text following) (symbol_here text following) ≡ Err found
  pub reported : fault ≡ reported_fault text following found

unless-parts : (fault : LexFault) (x : Read) (reported : PolicyFault) → unless_lexical fault x ≡ Err reported → (found : PolicyFault) × (x ≡ Err found) × (reported ≡ lexical fault found)
unless-parts fault (Ok r) reported e = absurd (cc)
unless-parts fault (Err found) reported e = (found, refl, cc)

end-stops : (env : Env) (text : List ℕ) (broken : Option LexFault) (r : Reading) (reported : PolicyFault) → read_end env text broken r ≡ Err reported →
    (found : PolicyFault) × (read_step env r (length text) (symbol_at_end broken) ≡ Err found) × (reported ≡ end_fault broken found)
end-stops env text None r reported e = (reported, e, refl)
end-stops env text (Some fault) r reported e = unless-parts fault (read_step env r (length text) Broken) reported e

reported-by : (r : Reading) (reported : PolicyFault) (x : Read) → fault_of (or_refused r x) ≡ Some reported → x ≡ Err reported
reported-by r reported (Ok q) e = absurd (cc)
reported-by r reported (Err found) e = let same : found ≡ reported = cc in ap (λ fault. Err fault) same

stops-first : (env : Env) (text : List ℕ) (r : Reading) (t : Token) (ts : List Token) (reported : PolicyFault) → ((r : Reading) → fault_of (read_from env text (lexed_text text).fault r ts) ≡ Some reported → StopsIn env text r ts reported) →
    (x : Read) → read_step env r t.at (symbol_of text t) ≡ x → fault_of (result_after env text (lexed_text text).fault r ts x) ≡ Some reported → StopsIn env text r (t ∷ ts) reported
stops-first env text r t ts reported ih (Err found) e h = record { before = []; following = t ∷ ts; parts = refl; reading = r; read = refl; found = found; stops = e; reported = cc }
stops-first env text r t ts reported ih (Ok next) e h =
    let s : StopsIn env text next ts reported = ih next h in
    record {
      before = t ∷ s.before;
      following = s.following;
      parts = ap (λ (us : List Token). t ∷ us) s.parts;
      reading = s.reading;
      read = ap (reading_followed (λ r. read_over env r (placed text s.before))) e ∙ s.read;
      found = s.found;
      stops = s.stops;
      reported = s.reported;
    }

stops-in : (env : Env) (text : List ℕ) (ts : List Token) (reported : PolicyFault) (r : Reading) → fault_of (read_from env text (lexed_text text).fault r ts) ≡ Some reported → StopsIn env text r ts reported
stops-in env text [] reported r e =
    let s = end-stops env text (lexed_text text).fault r reported (reported-by r reported (read_end env text (lexed_text text).fault r) e) in
    record { before = []; following = []; parts = refl; reading = r; read = refl; found = s.0; stops = s.1; reported = s.2 }
stops-in env text (t ∷ ts) reported r e = stops-first env text r t ts reported (stops-in env text ts reported) (read_step env r t.at (symbol_of text t)) refl e

-- the reading of a text with a fault stops there
pub fault-stops : (text : List ℕ) (env : Env) (old : List BinaryPolicy) (fault : PolicyFault) → fault_in text env old ≡ Some fault → StopsIn env text (first_reading old) (lexed_text text).tokens fault
fault-stops text env old fault e = stops-in env text (lexed_text text).tokens fault (first_reading old) e

-- ---- what has been spelled up to there

stands-by : (env : Env) (old : List BinaryPolicy) (done : List Symbol) (s : Symbol) (zs : List Placed) (q : Reading) → ((r : Reading) → Stands env old (done ++ s ∷ []) r → read_over env r zs ≡ Ok q → Stands env old ((done ++ s ∷ []) ++ symbols zs) q) →
    (x : Read) → StandsAfter env old (done ++ s ∷ []) x → reading_followed (λ r. read_over env r zs) x ≡ Ok q → Stands env old (done ++ s ∷ symbols zs) q
stands-by env old done s zs q ih (Err fault) h e = absurd (cc)
stands-by env old done s zs q ih (Ok r) h e = subst (λ (ts : List Symbol). Stands env old ts q) (append_assoc done (s ∷ []) (symbols zs)) (ih r h e)

stands-over : (env : Env) (old : List BinaryPolicy) (zs : List Placed) (done : List Symbol) (r q : Reading) → Stands env old done r → read_over env r zs ≡ Ok q → Stands env old (done ++ symbols zs) q
stands-over env old [] done r q h e = let same : r ≡ q = cc in subst (Stands env old (done ++ [])) same (subst (λ (ts : List Symbol). Stands env old ts r) (sym (append-nil done)) h)
stands-over env old (z ∷ zs) done r q h e =
    stands-by env old done z.symbol zs q (λ m k f. stands-over env old zs (done ++ z.symbol ∷ []) m q k f) (read_step env r z.at z.symbol) (stands-step env old done r z.at z.symbol h) e

-- the symbols of tokens that are read are whole rows and the beginning of one
pub stands-following : (text : List ℕ) (env : Env) (old : List BinaryPolicy) (before : List Token) (r : Reading) → filters_in old ≤ MOST_FILTERS → read_over env (first_reading old) (placed text before) ≡ Ok r → Stands env old (symbols_at text before) r
stands-following text env old before r few read =
    subst (λ (ts : List Symbol). Stands env old ts r) (symbols-placed text before) (stands-over env old (placed text before) [] (first_reading old) r (first-stands env text old few) read)
