-- A formula as a list of marks, operands before their operators, so that a proof can tell formulas apart.
use Rattle.std.proofs.Common.{◌≡◌, ℕ, List, [], ◌∷◌, refl, ◌∙◌}
use Rattle.std.specs.Coded.{Coded, codes, code_by, coded_list}
use Rattle.st_filter.specs.declared.filter.Op.{Op}
use Rattle.st_filter.specs.Formula.{Formula, True, Test, Not, And, Or}

-- one part of a formula: what is always true, a test, or an operator
pub data Mark : Type 0 where
  Always : Mark
  Compare : List ℕ → ℕ → Op → List ℕ → Mark
  Negate : Mark
  Both : Mark
  Either : Mark

-- the marks of a formula, followed by others
abbrev pub marks_before : Formula → List Mark → List Mark
marks_before True rest = Always ∷ rest
marks_before (Test label index op text) rest = Compare label index op text ∷ rest
marks_before (Not f) rest = marks_before f (Negate ∷ rest)
marks_before (And f g) rest = marks_before f (marks_before g (Both ∷ rest))
marks_before (Or f g) rest = marks_before f (marks_before g (Either ∷ rest))

-- the marks of a formula
abbrev pub marks : Formula → List Mark
marks f = marks_before f []

-- a stack of formulas after a mark, with the mark's formula on top in place of the mark's operands
abbrev pub onto : Mark → List Formula → List Formula
onto Always stack = True ∷ stack
onto (Compare label index op text) stack = Test label index op text ∷ stack
onto Negate [] = []
onto Negate (f ∷ stack) = Not f ∷ stack
onto Both [] = []
onto Both (g ∷ []) = []
onto Both (g ∷ f ∷ stack) = And f g ∷ stack
onto Either [] = []
onto Either (g ∷ []) = []
onto Either (g ∷ f ∷ stack) = Or f g ∷ stack

-- a stack of formulas after these marks are read
abbrev pub stacked : List Mark → List Formula → List Formula
stacked [] stack = stack
stacked (mark ∷ marks) stack = stacked marks (onto mark stack)

-- the formula on top of a stack
abbrev pub top_of : List Formula → Formula
top_of [] = True
top_of (f ∷ stack) = f

-- the formula that marks spell
abbrev pub unmarked : List Mark → Formula
unmarked marks = top_of (stacked marks [])

marks-stacked : (f : Formula) (rest : List Mark) (stack : List Formula) → stacked (marks_before f rest) stack ≡ stacked rest (f ∷ stack)
marks-stacked True rest stack = refl
marks-stacked (Test label index op text) rest stack = refl
marks-stacked (Not f) rest stack = marks-stacked f (Negate ∷ rest) stack
marks-stacked (And f g) rest stack = marks-stacked f (marks_before g (Both ∷ rest)) stack ∙ marks-stacked g (Both ∷ rest) (f ∷ stack)
marks-stacked (Or f g) rest stack = marks-stacked f (marks_before g (Either ∷ rest)) stack ∙ marks-stacked g (Either ∷ rest) (f ∷ stack)

pub marks-unmarked : (f : Formula) → unmarked (marks f) ≡ f
marks-unmarked f = λ k. top_of (marks-stacked f [] [] k)

pub formula_code : Coded Formula
formula_code = code_by (List Mark) (coded_list (hlevel codes)) marks unmarked marks-unmarked
