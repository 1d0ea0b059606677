-- The canonical text of policies, piece by piece.
use Rattle.std.specs.Prelude.{ℕ, ◌==◌, if◌then◌else◌, Bool, true, false, List, [], ◌∷◌, ◌++◌, codes, decimal, Option, Some, None}
use Rattle.std.specs.List.{flat_map}
use Rattle.st_base.specs.declared.errno.Errno.{Errno}
use Rattle.st_base.specs.declared.errno.Errno.TheVariants.{EPERM}
use Rattle.st_base.specs.Errno.{word_of_error}
use Rattle.st_calls.specs.Call.{name_of_rule}
use Rattle.st_emulation.specs.Words.{prefix_of, word_of}
use Rattle.st_emulation.specs.declared.emulation.Emulation.{Emulation}
use Rattle.st_lex.specs.declared.token.TokenKind.TheVariants as kind
use Rattle.st_lex.specs.Pieces.{Piece, PlainWord, QuotedText, Sign, Space, print, is_word_text}
use Rattle.st_filter.specs.declared.filter.Action.{Action}
use Rattle.st_filter.specs.declared.filter.Action.TheVariants.{Permit, Deny, Ask}
use Rattle.st_filter.specs.declared.filter.Cmp.{Cmp}
use Rattle.st_filter.specs.declared.filter.Cmp.TheVariants as cmp
use Rattle.st_filter.specs.declared.filter.FilterName.{FilterName}
use Rattle.st_filter.specs.declared.filter.FilterName.TheVariants as name
use Rattle.st_filter.specs.declared.filter.Grant.{Grant}
use Rattle.st_filter.specs.declared.filter.Op.{Op}
use Rattle.st_filter.specs.declared.filter.Op.TheVariants as op
use Rattle.st_filter.specs.declared.filter.Predicate.{Predicate}
use Rattle.st_filter.specs.declared.filter.Who.{Who}
use Rattle.st_filter.specs.declared.filter.Who.TheVariants as who
use Rattle.st_filter.specs.declared.set.BinaryPolicy.{BinaryPolicy}
use Rattle.st_filter.specs.Formula.{Formula, True, Test, Not, And, Or, FilterValue, Level, Operand, Conjunction, Disjunction}

-- ---- expressions

-- the word for an operator in a policy
abbrev pub word_of_op : Op → List ℕ
word_of_op op.Match = codes "match"
word_of_op op.Eq = codes "eq"
word_of_op op.Neq = codes "neq"
word_of_op op.Sub = codes "sub"
word_of_op op.Nsub = codes "nsub"
word_of_op op.Inpath = codes "inpath"

-- the pieces of an index; 0 isn't printed
abbrev pub index_pieces : ℕ → List Piece
index_pieces index =
    if index == 0 then [] else Sign kind.OpenBracket ∷ PlainWord (decimal index) ∷ Sign kind.CloseBracket ∷ []

-- the pieces of a test
abbrev pub test_pieces : List ℕ → ℕ → Op → List ℕ → List Piece
test_pieces label index op text =
    PlainWord label ∷ index_pieces index ++ Space ∷ PlainWord (word_of_op op) ∷ Space ∷ QuotedText text ∷ []

-- whether an expression needs no parentheses at a level
abbrev pub needs_no_parens : Level → Formula → Bool
needs_no_parens Operand (And f g) = false
needs_no_parens Operand (Or f g) = false
needs_no_parens Conjunction (Or f g) = false
needs_no_parens level f = true

-- the pieces of an expression, in parentheses unless it needs none
abbrev pub in_parens : Bool → List Piece → List Piece
in_parens true pieces = pieces
in_parens false pieces = Sign kind.Open ∷ pieces ++ Sign kind.Close ∷ []

-- the pieces of an expression; `and` and `or` bind to the left, so a right operand of the same operator has parentheses
abbrev pub expression_pieces : Formula → List Piece
expression_pieces True = PlainWord (codes "true") ∷ []
expression_pieces (Test label index op text) = test_pieces label index op text
expression_pieces (Not f) = PlainWord (codes "not") ∷ Space ∷ in_parens (needs_no_parens Operand f) (expression_pieces f)
expression_pieces (And f g) =
    in_parens (needs_no_parens Conjunction f) (expression_pieces f) ++ Space ∷ PlainWord (codes "and") ∷ Space ∷
    in_parens (needs_no_parens Operand g) (expression_pieces g)
expression_pieces (Or f g) =
    in_parens (needs_no_parens Disjunction f) (expression_pieces f) ++ Space ∷ PlainWord (codes "or") ∷ Space ∷
    in_parens (needs_no_parens Conjunction g) (expression_pieces g)

-- the pieces of a condition; there are none for a filter that is for every call
abbrev pub condition_pieces : Formula → List Piece
condition_pieces True = []
condition_pieces f = expression_pieces f ++ Space ∷ PlainWord (codes "then") ∷ Space ∷ []

-- ---- actions and what follows them

-- whether an error is EPERM
abbrev pub is_eperm : Errno → Bool
is_eperm EPERM = true
is_eperm _ = false

-- the pieces of a denial; EPERM isn't printed
abbrev pub deny_pieces : Errno → List Piece
deny_pieces errno =
    if is_eperm errno then PlainWord (codes "deny") ∷ []
    else PlainWord (codes "deny") ∷ Sign kind.OpenBracket ∷ PlainWord (word_of_error errno) ∷ Sign kind.CloseBracket ∷ []

-- the pieces of an action
abbrev pub action_pieces : Action → List Piece
action_pieces Permit = PlainWord (codes "permit") ∷ []
action_pieces (Deny errno) = deny_pieces errno
action_pieces Ask = PlainWord (codes "ask") ∷ []

-- the user of a grant, if there is one
abbrev pub user_pieces : Option ℕ → List Piece
user_pieces None = []
user_pieces (Some id) = PlainWord (decimal id) ∷ []

-- the group of a grant after a colon, if there is one
abbrev pub group_pieces : Option ℕ → List Piece
group_pieces None = []
group_pieces (Some id) = Sign kind.Colon ∷ PlainWord (decimal id) ∷ []

-- a grant after `as`, if there is one
abbrev pub grant_pieces : Option Grant → List Piece
grant_pieces None = []
grant_pieces (Some g) = Space ∷ PlainWord (codes "as") ∷ Space ∷ user_pieces g.user ++ group_pieces g.group

-- `log`, if a filter has it
abbrev pub log_pieces : Bool → List Piece
log_pieces false = []
log_pieces true = Space ∷ PlainWord (codes "log") ∷ []

-- the word for whose id a predicate looks at
abbrev pub word_of_who : Who → List ℕ
word_of_who who.User = codes "user"
word_of_who who.Group = codes "group"

-- the sign of a comparison of ids
abbrev pub cmp_piece : Cmp → Piece
cmp_piece cmp.Same = Sign kind.Equal
cmp_piece cmp.Other = Sign kind.NotEqual
cmp_piece cmp.Below = Sign kind.Less
cmp_piece cmp.Above = Sign kind.Greater

-- a predicate after `if`, if there is one
abbrev pub predicate_pieces : Option Predicate → List Piece
predicate_pieces None = []
predicate_pieces (Some p) =
    Sign kind.Comma ∷ Space ∷ PlainWord (codes "if") ∷ Space ∷ PlainWord (word_of_who p.who) ∷ Space ∷ cmp_piece p.cmp ∷ Space ∷
    PlainWord (decimal p.id) ∷ []

-- ---- rows

-- the rule or the call that a filter is for, as it is written after the emulation's prefix
abbrev pub call_word : FilterName → List ℕ
call_word (name.Rule rule) = name_of_rule rule
call_word (name.Other word) = word

-- the pieces of a filter in its row, with the emulation's prefix
abbrev pub filter_pieces : FilterValue → Emulation → List Piece
filter_pieces f emulation =
    PlainWord (prefix_of emulation ++ call_word f.name) ∷ Sign kind.Colon ∷ Space ∷
    condition_pieces f.formula ++ action_pieces f.action ++ grant_pieces f.grant ++ log_pieces f.log ++ predicate_pieces f.predicate

-- the canonical text of one filter
abbrev pub canon_filter : FilterValue → Emulation → List ℕ
canon_filter f emulation = print (filter_pieces f emulation)

-- the piece of a binary: a Word if its bytes allow that, otherwise a quoted text
abbrev pub binary_piece : List ℕ → Piece
binary_piece binary = if is_word_text binary then PlainWord binary else QuotedText binary

-- the pieces of the header of a binary's policy in its row, with the emulation's word
abbrev pub header_pieces : List ℕ → Emulation → List Piece
header_pieces binary emulation =
    PlainWord (codes "Policy") ∷ Sign kind.Colon ∷ Space ∷ binary_piece binary ∷ Sign kind.Comma ∷ Space ∷
    PlainWord (codes "Emulation") ∷ Sign kind.Colon ∷ Space ∷ PlainWord (word_of emulation) ∷ []

-- the pieces of a row, which ends with a newline
abbrev pub row_pieces : List Piece → List Piece
row_pieces pieces = pieces ++ Sign kind.Line ∷ []

-- the pieces of the rows of filters
abbrev pub rows_pieces : List FilterValue → Emulation → List Piece
rows_pieces filters emulation = flat_map (λ f. row_pieces (filter_pieces f emulation)) filters

-- the pieces of a policy: the row of its header, then the rows of its filters
abbrev pub policy_pieces : BinaryPolicy → Emulation → List Piece
policy_pieces p emulation = row_pieces (header_pieces p.binary emulation) ++ rows_pieces p.filters emulation

-- the pieces of the policies of a set, in order
abbrev pub set_pieces : List BinaryPolicy → Emulation → List Piece
set_pieces policies emulation = flat_map (λ p. policy_pieces p emulation) policies

-- the canonical text of a set of policies, with the words of an emulation
abbrev pub canon : List BinaryPolicy → Emulation → List ℕ
canon policies emulation = print (set_pieces policies emulation)
