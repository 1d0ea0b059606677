-- A property of each element of two lists is one of each element of their concatenation.
use Rattle.std.proofs.Common.{List, [], ◌∷◌, ◌++◌}
use Rattle.std.specs.List.{AllByRecursion}

pub each-append : {A : Type 0} (P : A → Type 0) (xs ys : List A) → AllByRecursion P xs → AllByRecursion P ys → AllByRecursion P (xs ++ ys)
each-append P [] ys a b = b
each-append P (x ∷ xs) ys a b = (a.0, each-append P xs ys a.1 b)

pub each-parts : {A : Type 0} (P : A → Type 0) (xs ys : List A) → AllByRecursion P (xs ++ ys) → AllByRecursion P xs × AllByRecursion P ys
each-parts P [] ys a = (tt, a)
each-parts P (x ∷ xs) ys a =
    let rest : AllByRecursion P xs × AllByRecursion P ys = each-parts P xs ys a.1 in
    ((a.0, rest.0), rest.1)
