-- A row can be completed from each place of the grammar.
use Rattle.std.proofs.Common.{◌≡◌, ℕ, zero, suc, ◌+◌, ◌-◌, ◌<◌, ◌≤◌, Bool, true, false, ◌&&◌, ◌||◌, ◌==◌, nat_lt, List, [], ◌∷◌, ◌++◌, length, replicate, Some, Ok, Err, if◌then◌else◌, codes, refl, ap, sym, subst, ◌∙◌, arith, append_assoc}
use Rattle.std.specs.List.{list_any, list_all}
use Rattle.std.specs.Str.{bytes_eq}
use Rattle.std.proofs.lemmas.Bool.{eq-eqb, lt-ltb, false_from_ne_true}
use Rattle.std.proofs.lemmas.Slice.Eq.{bytes_eq-Decides}
use Rattle.std.proofs.lemmas.List.{length-replicate}
use Rattle.st_calls.specs.declared.call.SysCall.TheVariants as call
use Rattle.st_grammar.proofs.Common.{completed, concluded, close_group, without_either, step, True, AreNew, AreRows, binaries, binary_of, BinaryPolicy, Blank, Call, Close, CloseBracket, Colon, Comma, Equal, FilterName, filters_in, FsRead, GrammarState, is_word_text, Line, may_test, may_test_label, MOST_FILTERS, new_policy, OpenBracket, Piece, PlainWord, Quoted, QuotedText, Reading, reading_step, Sign, Space, CanBeReadBack, StepResult, Symbol, Who, Word}
use Rattle.st_grammar.specs.declared.fault.PolicyFault.TheVariants.{Expected, UnknownArgument}
use Rattle.st_grammar.specs.declared.env.Env.{Env}
use Rattle.st_grammar.specs.declared.place.Place.{Place}
use Rattle.st_calls.specs.declared.rule.Rule.{Rule}
use Rattle.st_calls.specs.declared.rule.Rule.TheVariants.{FsWrite}
use Rattle.st_calls.specs.Argument.{has_label, has_argument}
use Rattle.st_emulation.specs.Words.{word_of}
use Rattle.st_reread.proofs.Headers.{emulation_is_word}
use Rattle.st_grammar.proofs.Keywords.{same-bytes}
use Rattle.st_lex.specs.declared.token.TokenKind.TheVariants as kind
use Rattle.st_lex.specs.Tokens.{is_word_byte}
use Rattle.st_filter.specs.declared.filter.FilterName.TheVariants as name
use Rattle.st_filter.specs.declared.filter.Op.TheVariants.{Eq}
use Rattle.st_filter.specs.declared.filter.Who.TheVariants as whose
use Rattle.st_grammar.specs.declared.place.Place.TheVariants as place
use Rattle.st_grammar.proofs.Fronts.{Facts, HasFacts}
use Rattle.st_grammar.proofs.Readings.{reading_at}
use Rattle.st_grammar.proofs.Kept.{line-keeps}
use Rattle.st_grammar.proofs.Sound.{line-is_sound, RowEnded}
use Rattle.st_reread.proofs.Symbols.{piece_symbols}

-- ---- labels without an index

one_label : (b : Bool) → (b || false) ≡ true → ((b && true) || false) ≡ true
one_label true e = refl
one_label false e = absurd (cc)

two_labels : (b c : Bool) → (b || (c || false)) ≡ true → ((b && true) || ((c && true) || false)) ≡ true
two_labels true c e = refl
two_labels false c e = one_label c e

three_labels : (b c d : Bool) → (b || (c || (d || false))) ≡ true → ((b && true) || ((c && true) || ((d && true) || false))) ≡ true
three_labels true c d e = refl
three_labels false c d e = two_labels c d e

same_labels : (b : Bool) → (b || (b || false)) ≡ true → ((b && true) || ((b && false) || false)) ≡ true
same_labels true e = refl
same_labels false e = absurd (cc)

-- a rule that has an argument of a label has one with index 0
rule-first : (rule : Rule) (label : List ℕ) → has_label rule label ≡ true → has_argument rule label 0 ≡ true
rule-first FsRead label e = one_label (bytes_eq (codes "filename") label) e
rule-first FsWrite label e = one_label (bytes_eq (codes "filename") label) e
rule-first (Call call.Open) label e = one_label (bytes_eq (codes "filename") label) e
rule-first (Call call.Stat) label e = one_label (bytes_eq (codes "filename") label) e
rule-first (Call call.Lstat) label e = one_label (bytes_eq (codes "filename") label) e
rule-first (Call call.Access) label e = one_label (bytes_eq (codes "filename") label) e
rule-first (Call call.Readlink) label e = one_label (bytes_eq (codes "filename") label) e
rule-first (Call call.Unlink) label e = one_label (bytes_eq (codes "filename") label) e
rule-first (Call call.Link) label e = same_labels (bytes_eq (codes "filename") label) e
rule-first (Call call.Symlink) label e = two_labels (bytes_eq (codes "string") label) (bytes_eq (codes "filename") label) e
rule-first (Call call.Rename) label e = same_labels (bytes_eq (codes "filename") label) e
rule-first (Call call.Mkdir) label e = one_label (bytes_eq (codes "filename") label) e
rule-first (Call call.Rmdir) label e = one_label (bytes_eq (codes "filename") label) e
rule-first (Call call.Chdir) label e = one_label (bytes_eq (codes "filename") label) e
rule-first (Call call.Chmod) label e = two_labels (bytes_eq (codes "filename") label) (bytes_eq (codes "mode") label) e
rule-first (Call call.Chown) label e = three_labels (bytes_eq (codes "filename") label) (bytes_eq (codes "uid") label) (bytes_eq (codes "gid") label) e
rule-first (Call call.Truncate) label e = one_label (bytes_eq (codes "filename") label) e
rule-first (Call call.Execve) label e = two_labels (bytes_eq (codes "filename") label) (bytes_eq (codes "argv") label) e
rule-first (Call call.Kill) label e = two_labels (bytes_eq (codes "pid") label) (bytes_eq (codes "signum") label) e
rule-first (Call call.SetUid) label e = one_label (bytes_eq (codes "uid") label) e
rule-first (Call call.SetEuid) label e = one_label (bytes_eq (codes "uid") label) e
rule-first (Call call.SetGid) label e = one_label (bytes_eq (codes "gid") label) e
rule-first (Call call.SetEgid) label e = one_label (bytes_eq (codes "gid") label) e
rule-first (Call call.Socket) label e = two_labels (bytes_eq (codes "sockdom") label) (bytes_eq (codes "socktype") label) e
rule-first (Call call.Bind) label e = one_label (bytes_eq (codes "sockaddr") label) e
rule-first (Call call.Connect) label e = one_label (bytes_eq (codes "sockaddr") label) e
rule-first (Call c) label e = absurd (cc)

-- a filter that may test an argument of a label may test the one with index 0
pub label-first : (n : FilterName) (label : List ℕ) → may_test_label n label ≡ true → may_test n label 0 ≡ true
label-first (name.Rule rule) label e = rule-first rule label e
label-first (name.Other word) label e = refl

-- ---- a binary without a policy yet

-- the number of bytes of all these texts
bytes_in : List (List ℕ) → ℕ
bytes_in [] = 0
bytes_in (b ∷ known) = length b + bytes_in known

no-longer : (x b : List ℕ) → length b < length x → bytes_eq b x ≡ false
no-longer x b h = false_from_ne_true (bytes_eq b x) (λ e. let same : b ≡ x = (bytes_eq-Decides b x).0 e in let sizes : length b ≡ length x = ap length same in absurd (omega (arith, h, sizes)))

is-new : (x : List ℕ) (known : List (List ℕ)) → bytes_in known < length x → list_any (λ b. bytes_eq b x) known ≡ false
unfolding bytes_in
is-new x [] h = refl
is-new x (b ∷ known) h =
    let short : length b < length x = omega (arith, h) in
    let others : bytes_in known < length x = omega (arith, h) in
    ap (λ (t : Bool). t || list_any (λ b. bytes_eq b x) known) (no-longer x b short) ∙ is-new x known others

-- a path that is longer than all these
new_path : List (List ℕ) → List ℕ
new_path known = 47 ∷ replicate (bytes_in known) 97

path-long : (known : List (List ℕ)) → bytes_in known < length (new_path known)
unfolding new_path
path-long known = let a : ℕ = 97 in let size : length (replicate (bytes_in known) a) ≡ bytes_in known = length-replicate (bytes_in known) a in omega (arith, size)

path-new : (known : List (List ℕ)) → list_any (λ b. bytes_eq b (new_path known)) known ≡ false
path-new known = is-new (new_path known) known (path-long known)

all-letters : (n : ℕ) → list_all is_word_byte (replicate n 97) ≡ true
all-letters zero = refl
all-letters (suc n) = all-letters n

path-word : (known : List (List ℕ)) → is_word_text (new_path known) ≡ true
unfolding new_path
path-word known = all-letters (bytes_in known)

path-binary : (env : Env) (known : List (List ℕ)) → binary_of env (Word (new_path known)) ≡ Some (new_path known)
unfolding new_path
path-binary env known = refl

-- ---- endings

-- some pieces after these symbols end a row, and all rows are read
pub record Ending (env : Env) (old : List BinaryPolicy) (done : List Symbol) : Type 0 where
  pub pieces : List Piece
  pub well : CanBeReadBack pieces
  pub policies : List BinaryPolicy
  pub rows : AreRows env (done ++ (piece_symbols pieces ++ Line ∷ [])) policies
  pub new : AreNew old policies
  pub few : filters_in (old ++ policies) ≤ MOST_FILTERS

-- some symbols, as they are spelled by pieces
pub record Printed (xs : List Symbol) : Type 0 where
  pub pieces : List Piece
  pub spelled : (more : List Piece) → piece_symbols (pieces ++ more) ≡ xs ++ piece_symbols more
  pub well : (more : List Piece) → CanBeReadBack more → CanBeReadBack (pieces ++ more)

-- symbols that can be printed can be moved to the ending
pub ends-before : (env : Env) (old : List BinaryPolicy) (done xs : List Symbol) → Printed xs → Ending env old (done ++ xs) → Ending env old done
ends-before env old done xs p e = record {
  pieces = p.pieces ++ e.pieces;
  well = p.well e.pieces e.well;
  policies = e.policies;
  rows = subst (λ (ts : List Symbol). AreRows env ts e.policies)
      (append_assoc done xs (piece_symbols e.pieces ++ Line ∷ []) ∙ ap (λ (ts : List Symbol). done ++ ts) (sym (append_assoc xs (piece_symbols e.pieces) (Line ∷ [])) ∙ ap (λ (ts : List Symbol). ts ++ Line ∷ []) (sym (p.spelled e.pieces))))
      e.rows;
  new = e.new;
  few = e.few;
}

pub a-word : (w : List ℕ) → is_word_text w ≡ true → Printed (Word w ∷ [])
a-word w e = record { pieces = PlainWord w ∷ Space ∷ []; spelled = λ ps. refl; well = λ ps h. (e, tt, h) }

pub a-quoted : Printed (Quoted (codes "\"\"") ∷ [])
a-quoted = record { pieces = QuotedText [] ∷ []; spelled = λ ps. refl; well = λ ps h. (tt, h) }

pub a-colon : Printed (Colon ∷ [])
a-colon = record { pieces = Sign kind.Colon ∷ []; spelled = λ ps. refl; well = λ ps h. (refl, h) }

pub a-comma : Printed (Comma ∷ [])
a-comma = record { pieces = Sign kind.Comma ∷ []; spelled = λ ps. refl; well = λ ps h. (refl, h) }

pub a-close : Printed (Close ∷ [])
a-close = record { pieces = Sign kind.Close ∷ []; spelled = λ ps. refl; well = λ ps h. (refl, h) }

pub an-open_bracket : Printed (OpenBracket ∷ [])
an-open_bracket = record { pieces = Sign kind.OpenBracket ∷ []; spelled = λ ps. refl; well = λ ps h. (refl, h) }

pub a-close_bracket : Printed (CloseBracket ∷ [])
a-close_bracket = record { pieces = Sign kind.CloseBracket ∷ []; spelled = λ ps. refl; well = λ ps h. (refl, h) }

pub an-equal : Printed (Equal ∷ [])
an-equal = record { pieces = Sign kind.Equal ∷ []; spelled = λ ps. refl; well = λ ps h. (refl, h) }

pub a-line : Printed (Line ∷ [])
a-line = record { pieces = Sign kind.Line ∷ []; spelled = λ ps. refl; well = λ ps h. (refl, h) }

pub printed-more : (xs ys : List Symbol) → Printed xs → Printed ys → Printed (xs ++ ys)
printed-more xs ys p q = record {
  pieces = p.pieces ++ q.pieces;
  spelled = λ more. ap piece_symbols (append_assoc p.pieces q.pieces more) ∙ p.spelled (q.pieces ++ more) ∙ ap (λ (ts : List Symbol). xs ++ ts) (q.spelled more) ∙ sym (append_assoc xs ys (piece_symbols more));
  well = λ more h. subst CanBeReadBack (sym (append_assoc p.pieces q.pieces more)) (p.well (q.pieces ++ more) (q.well more h));
}

-- the state that a step leads to, if it succeeds
abbrev led-by : GrammarState → StepResult → GrammarState
led-by w (Ok v) = v
led-by w (Err fault) = w

-- the state after a symbol that may occur here
abbrev pub led : Env → GrammarState → List BinaryPolicy → Symbol → Place → GrammarState
led env w set s p = led-by w (step env (binaries set) (record w { place = p }) 0 s p)

-- the state after a closing parenthesis
abbrev pub closed : GrammarState → GrammarState
closed w = record w { parens = w.parens - 1; expression = close_group (without_either w.expression) }

-- if a label was just read, the filter may test it with index 0
abbrev pub MayEnd : Place → GrammarState → Type 0
MayEnd place.Label w = may_test w.name w.label 0 ≡ true
MayEnd place.Index w = may_test w.name w.label 0 ≡ true
MayEnd p w = Unit {0}

module _ (env : Env) (old : List BinaryPolicy) (rows : List Symbol) where
  -- a row that a Line ends
  pub row-ends : (front : List Symbol) (r : Reading) → RowEnded env old ((rows ++ front) ++ Line ∷ []) r → Ending env old (rows ++ front)
  row-ends front r h = record {
    pieces = [];
    well = tt;
    policies = h.rowed.policies;
    rows = h.rowed.are_rows;
    new = h.rowed.new;
    few = omega (arith, ap filters_in h.rowed.set_is, h.rowed.filters_are, h.rowed.few);
  }

  -- after a row that has ended, an empty row may follow
  pub line-ends : (r : Reading) → RowEnded env old rows r → Ending env old rows
  line-ends r h = record {
    pieces = [];
    well = tt;
    policies = h.rowed.policies;
    rows = Blank rows h.rowed.policies h.rowed.are_rows;
    new = h.rowed.new;
    few = omega (arith, ap filters_in h.rowed.set_is, h.rowed.filters_are, h.rowed.few);
  }

  -- one more symbol
  pub on : (front : List Symbol) (s : Symbol) → Printed (s ∷ []) → Ending env old (rows ++ (front ++ s ∷ [])) → Ending env old (rows ++ front)
  on front s p e = ends-before env old (rows ++ front) (s ∷ []) p (subst (Ending env old) (sym (append_assoc rows front (s ∷ []))) e)

  -- the facts after a symbol that may occur here if a test succeeds
  pub facts-if : (front : List Symbol) (r : Reading) (s : Symbol) (b : Bool) (x y : StepResult) → b ≡ true → HasFacts env old rows front (reading_step env r s (if b then x else y)) → HasFacts env old rows front (reading_step env r s x)
  facts-if front r s b x y e h = subst (λ (c : Bool). HasFacts env old rows front (reading_step env r s (if c then x else y))) e h

  pub ends-tail : (front : List Symbol) (w : GrammarState) (set : List BinaryPolicy) (grant log : Bool) → Facts env old rows front (place.Tail grant log) w set → Ending env old (rows ++ front)
  ends-tail front w set grant log h = row-ends front _ (line-is_sound env old rows front w set (place.Tail grant log) 0 h)

  ends-action : (front : List Symbol) (w : GrammarState) (set : List BinaryPolicy) → Facts env old rows front place.Action w set → Ending env old (rows ++ front)
  ends-action front w set h =
      let s : Symbol = Word (codes "permit") in
      on front s (a-word (codes "permit") refl) (ends-tail (front ++ s ∷ []) (led env w set s place.Action) set true true (line-keeps env old rows front w set 0 place.Action s refl h))

  -- the ending after an operand: the parentheses are closed, and `then` follows
  pub facts-close : (front : List Symbol) (w : GrammarState) (set : List BinaryPolicy) → 0 < w.parens → Facts env old rows front place.Joint w set →
      Facts env old rows (front ++ Close ∷ []) place.Joint (closed w) set
  facts-close front w set e h =
      facts-if (front ++ Close ∷ []) (reading_at place.Joint w set) Close (nat_lt 0 w.parens) (Ok (record (closed w) { place = place.Joint })) (Err (Expected 0)) (lt-ltb 0 w.parens e)
      (line-keeps env old rows front w set 0 place.Joint Close refl h)

  pub facts-then : (front : List Symbol) (w : GrammarState) (set : List BinaryPolicy) → w.parens ≡ 0 → Facts env old rows front place.Joint w set →
      Facts env old rows (front ++ Word (codes "then") ∷ []) place.Action (concluded w) set
  facts-then front w set e h =
      let s : Symbol = Word (codes "then") in
      facts-if (front ++ s ∷ []) (reading_at place.Joint w set) s (w.parens == 0) (Ok (record (concluded w) { place = place.Action })) (Err (Expected 0)) (eq-eqb w.parens 0 e)
      (line-keeps env old rows front w set 0 place.Joint s refl h)

  pub ends-joint : (n : ℕ) (front : List Symbol) (w : GrammarState) (set : List BinaryPolicy) → w.parens ≡ n → Facts env old rows front place.Joint w set → Ending env old (rows ++ front)
  ends-joint zero front w set e h =
      let s : Symbol = Word (codes "then") in
      on front s (a-word (codes "then") refl) (ends-action (front ++ s ∷ []) (concluded w) set (facts-then front w set e h))
  ends-joint (suc n) front w set e h =
      on front Close a-close (ends-joint n (front ++ Close ∷ []) (closed w) set (omega (arith, e)) (facts-close front w set (omega (arith, e)) h))

  ends-text : (front : List Symbol) (w : GrammarState) (set : List BinaryPolicy) → Facts env old rows front place.Text w set → Ending env old (rows ++ front)
  ends-text front w set h =
      let s : Symbol = Quoted (codes "\"\"") in
      on front s a-quoted (ends-joint w.parens (front ++ s ∷ []) (led env w set s place.Text) set refl (line-keeps env old rows front w set 0 place.Text s refl h))

  ends-operator : (front : List Symbol) (w : GrammarState) (set : List BinaryPolicy) → Facts env old rows front place.Operator w set → Ending env old (rows ++ front)
  ends-operator front w set h =
      let s : Symbol = Word (codes "eq") in
      on front s (a-word (codes "eq") refl) (ends-text (front ++ s ∷ []) (led env w set s place.Operator) set (line-keeps env old rows front w set 0 place.Operator s refl h))

  ends-index_end : (front : List Symbol) (w : GrammarState) (set : List BinaryPolicy) → Facts env old rows front place.IndexEnd w set → Ending env old (rows ++ front)
  ends-index_end front w set h = on front CloseBracket a-close_bracket (ends-operator (front ++ CloseBracket ∷ []) w set (line-keeps env old rows front w set 0 place.IndexEnd CloseBracket refl h))

  ends-index : (front : List Symbol) (w : GrammarState) (set : List BinaryPolicy) → may_test w.name w.label 0 ≡ true → Facts env old rows front place.Index w set → Ending env old (rows ++ front)
  ends-index front w set e h =
      let s : Symbol = Word (codes "0") in
      on front s (a-word (codes "0") refl)
      (ends-index_end (front ++ s ∷ []) (record w { index = 0 }) set
      (facts-if (front ++ s ∷ []) (reading_at place.Index w set) s (may_test w.name w.label 0) (Ok (record w { place = place.IndexEnd; index = 0 })) (Err (UnknownArgument w.label_at)) e
      (line-keeps env old rows front w set 0 place.Index s refl h)))

  pub facts-operator : (front : List Symbol) (w : GrammarState) (set : List BinaryPolicy) → may_test w.name w.label 0 ≡ true → Facts env old rows front place.Label w set →
      Facts env old rows (front ++ Word (codes "eq") ∷ []) place.Text (record w { op = Eq }) set
  facts-operator front w set e h =
      let s : Symbol = Word (codes "eq") in
      facts-if (front ++ s ∷ []) (reading_at place.Label w set) s (may_test w.name w.label 0) (Ok (record w { place = place.Text; op = Eq })) (Err (UnknownArgument w.label_at)) e
      (line-keeps env old rows front w set 0 place.Label s refl h)

  ends-label : (front : List Symbol) (w : GrammarState) (set : List BinaryPolicy) → may_test w.name w.label 0 ≡ true → Facts env old rows front place.Label w set → Ending env old (rows ++ front)
  ends-label front w set e h =
      let s : Symbol = Word (codes "eq") in
      on front s (a-word (codes "eq") refl) (ends-text (front ++ s ∷ []) (record w { op = Eq }) set (facts-operator front w set e h))

  pub facts-true : (front : List Symbol) (w : GrammarState) (set : List BinaryPolicy) → Facts env old rows front place.Operand w set → Facts env old rows (front ++ Word (codes "true") ∷ []) place.Joint (completed True w) set
  facts-true front w set h = line-keeps env old rows front w set 0 place.Operand (Word (codes "true")) refl h

  ends-operand : (front : List Symbol) (w : GrammarState) (set : List BinaryPolicy) → Facts env old rows front place.Operand w set → Ending env old (rows ++ front)
  ends-operand front w set h =
      let s : Symbol = Word (codes "true") in
      on front s (a-word (codes "true") refl) (ends-joint w.parens (front ++ s ∷ []) (completed True w) set refl (facts-true front w set h))

  ends-clause : (front : List Symbol) (w : GrammarState) (set : List BinaryPolicy) → Facts env old rows front place.Clause w set → Ending env old (rows ++ front)
  ends-clause front w set h =
      let s : Symbol = Word (codes "permit") in
      on front s (a-word (codes "permit") refl) (ends-tail (front ++ s ∷ []) (led env w set s place.Clause) set true true (line-keeps env old rows front w set 0 place.Clause s refl h))

  ends-error_end : (front : List Symbol) (w : GrammarState) (set : List BinaryPolicy) → Facts env old rows front place.ErrorEnd w set → Ending env old (rows ++ front)
  ends-error_end front w set h = on front CloseBracket a-close_bracket (ends-tail (front ++ CloseBracket ∷ []) w set false true (line-keeps env old rows front w set 0 place.ErrorEnd CloseBracket refl h))

  pub ends-error : (front : List Symbol) (w : GrammarState) (set : List BinaryPolicy) → Facts env old rows front place.Error w set → Ending env old (rows ++ front)
  ends-error front w set h =
      let s : Symbol = Word (codes "eperm") in
      on front s (a-word (codes "eperm") refl) (ends-error_end (front ++ s ∷ []) (led env w set s place.Error) set (line-keeps env old rows front w set 0 place.Error s refl h))

  ends-user : (front : List Symbol) (w : GrammarState) (set : List BinaryPolicy) (log : Bool) → Facts env old rows front (place.User log) w set → Ending env old (rows ++ front)
  ends-user front w set log h = row-ends front _ (line-is_sound env old rows front w set (place.User log) 0 h)

  ends-grant : (front : List Symbol) (w : GrammarState) (set : List BinaryPolicy) (log : Bool) → Facts env old rows front (place.Grant log) w set → Ending env old (rows ++ front)
  ends-grant front w set log h =
      let s : Symbol = Word (codes "0") in
      on front s (a-word (codes "0") refl) (ends-user (front ++ s ∷ []) (led env w set s (place.Grant log)) set log (line-keeps env old rows front w set 0 (place.Grant log) s refl h))

  ends-group : (front : List Symbol) (w : GrammarState) (set : List BinaryPolicy) (log : Bool) → Facts env old rows front (place.Group log) w set → Ending env old (rows ++ front)
  ends-group front w set log h =
      let s : Symbol = Word (codes "0") in
      on front s (a-word (codes "0") refl) (ends-tail (front ++ s ∷ []) (led env w set s (place.Group log)) set false log (line-keeps env old rows front w set 0 (place.Group log) s refl h))

  ends-filter : (front : List Symbol) (w : GrammarState) (set : List BinaryPolicy) → Facts env old rows front place.FilterEnd w set → Ending env old (rows ++ front)
  ends-filter front w set h = row-ends front _ (line-is_sound env old rows front w set place.FilterEnd 0 h)

  ends-id : (front : List Symbol) (w : GrammarState) (set : List BinaryPolicy) (who : Who) → Facts env old rows front (place.Id who) w set → Ending env old (rows ++ front)
  ends-id front w set who h =
      let s : Symbol = Word (codes "0") in
      on front s (a-word (codes "0") refl) (ends-filter (front ++ s ∷ []) (led env w set s (place.Id who)) set (line-keeps env old rows front w set 0 (place.Id who) s refl h))

  ends-comparison : (front : List Symbol) (w : GrammarState) (set : List BinaryPolicy) (who : Who) → Facts env old rows front (place.Comparison who) w set → Ending env old (rows ++ front)
  ends-comparison front w set who h =
      on front Equal an-equal (ends-id (front ++ Equal ∷ []) (led env w set Equal (place.Comparison who)) set who (line-keeps env old rows front w set 0 (place.Comparison who) Equal refl h))

  ends-who : (front : List Symbol) (w : GrammarState) (set : List BinaryPolicy) → Facts env old rows front place.Who w set → Ending env old (rows ++ front)
  ends-who front w set h =
      let s : Symbol = Word (codes "user") in
      on front s (a-word (codes "user") refl) (ends-comparison (front ++ s ∷ []) w set whose.User (line-keeps env old rows front w set 0 place.Who s refl h))

  ends-if : (front : List Symbol) (w : GrammarState) (set : List BinaryPolicy) → Facts env old rows front place.If w set → Ending env old (rows ++ front)
  ends-if front w set h =
      let s : Symbol = Word (codes "if") in
      on front s (a-word (codes "if") refl) (ends-who (front ++ s ∷ []) w set (line-keeps env old rows front w set 0 place.If s refl h))

  ends-header : (front : List Symbol) (w : GrammarState) (set : List BinaryPolicy) → Facts env old rows front place.HeaderEnd w set → Ending env old (rows ++ front)
  ends-header front w set h = row-ends front _ (line-is_sound env old rows front w set place.HeaderEnd 0 h)

  ends-system : (front : List Symbol) (w : GrammarState) (set : List BinaryPolicy) → Facts env old rows front place.System w set → Ending env old (rows ++ front)
  ends-system front w set h =
      let word : List ℕ = word_of env.emulation in
      let s : Symbol = Word word in
      let kept = line-keeps env old rows front w set 0 place.System s refl h in
      on front s (a-word word (emulation_is_word env.emulation)) (ends-header (front ++ s ∷ []) w set (rw (same-bytes word) at kept))

  ends-emulation_colon : (front : List Symbol) (w : GrammarState) (set : List BinaryPolicy) → Facts env old rows front place.EmulationColon w set → Ending env old (rows ++ front)
  ends-emulation_colon front w set h = on front Colon a-colon (ends-system (front ++ Colon ∷ []) w set (line-keeps env old rows front w set 0 place.EmulationColon Colon refl h))

  ends-emulation : (front : List Symbol) (w : GrammarState) (set : List BinaryPolicy) → Facts env old rows front place.Emulation w set → Ending env old (rows ++ front)
  ends-emulation front w set h =
      let s : Symbol = Word (codes "Emulation") in
      on front s (a-word (codes "Emulation") refl) (ends-emulation_colon (front ++ s ∷ []) w set (line-keeps env old rows front w set 0 place.Emulation s refl h))

  ends-comma : (front : List Symbol) (w : GrammarState) (set : List BinaryPolicy) → Facts env old rows front place.Comma w set → Ending env old (rows ++ front)
  ends-comma front w set h = on front Comma a-comma (ends-emulation (front ++ Comma ∷ []) w set (line-keeps env old rows front w set 0 place.Comma Comma refl h))

  ends-binary : (front : List Symbol) (w : GrammarState) (set : List BinaryPolicy) → Facts env old rows front place.Binary w set → Ending env old (rows ++ front)
  ends-binary front w set h =
      let path : List ℕ = new_path (binaries set) in
      let s : Symbol = Word path in
      let is : binary_of env s ≡ Some path = path-binary env (binaries set) in
      let new : list_any (λ b. bytes_eq b path) (binaries set) ≡ false = path-new (binaries set) in
      on front s (a-word path (path-word (binaries set)))
      (ends-comma (front ++ s ∷ []) w (set ++ new_policy (binary_of env s)) (rw (is, new) at (line-keeps env old rows front w set 0 place.Binary s refl h)))

  -- a row can be completed from each place
  pub ends-place : (front : List Symbol) (p : Place) (w : GrammarState) (set : List BinaryPolicy) → MayEnd p w → Facts env old rows front p w set → Ending env old (rows ++ front)
  ends-place front place.Start w set m h = row-ends front _ (line-is_sound env old rows front w set place.Start 0 h)
  ends-place front place.Row w set m h = row-ends front _ (line-is_sound env old rows front w set place.Row 0 h)
  ends-place front place.PolicyColon w set m h = on front Colon a-colon (ends-binary (front ++ Colon ∷ []) w set (line-keeps env old rows front w set 0 place.PolicyColon Colon refl h))
  ends-place front place.Binary w set m h = ends-binary front w set h
  ends-place front place.Comma w set m h = ends-comma front w set h
  ends-place front place.Emulation w set m h = ends-emulation front w set h
  ends-place front place.EmulationColon w set m h = ends-emulation_colon front w set h
  ends-place front place.System w set m h = ends-system front w set h
  ends-place front place.HeaderEnd w set m h = ends-header front w set h
  ends-place front place.NameColon w set m h = on front Colon a-colon (ends-clause (front ++ Colon ∷ []) (record w { place = place.Clause }) set (line-keeps env old rows front w set 0 place.NameColon Colon refl h))
  ends-place front place.Clause w set m h = ends-clause front w set h
  ends-place front place.Operand w set m h = ends-operand front w set h
  ends-place front place.Label w set m h = ends-label front w set m h
  ends-place front place.Index w set m h = ends-index front w set m h
  ends-place front place.IndexEnd w set m h = ends-index_end front w set h
  ends-place front place.Operator w set m h = ends-operator front w set h
  ends-place front place.Text w set m h = ends-text front w set h
  ends-place front place.Joint w set m h = ends-joint w.parens front w set refl h
  ends-place front place.Action w set m h = ends-action front w set h
  ends-place front place.Denial w set m h = row-ends front _ (line-is_sound env old rows front w set place.Denial 0 h)
  ends-place front place.Error w set m h = ends-error front w set h
  ends-place front place.ErrorEnd w set m h = ends-error_end front w set h
  ends-place front (place.Tail grant log) w set m h = ends-tail front w set grant log h
  ends-place front (place.Grant log) w set m h = ends-grant front w set log h
  ends-place front (place.User log) w set m h = ends-user front w set log h
  ends-place front (place.Group log) w set m h = ends-group front w set log h
  ends-place front place.If w set m h = ends-if front w set h
  ends-place front place.Who w set m h = ends-who front w set h
  ends-place front (place.Comparison who) w set m h = ends-comparison front w set who h
  ends-place front (place.Id who) w set m h = ends-id front w set who h
  ends-place front place.FilterEnd w set m h = ends-filter front w set h
