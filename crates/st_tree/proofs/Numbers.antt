-- Objects by their numbers, as they are read at their indices.
use Rattle.std.proofs.Common.{◌≡◌, ap, sym, ◌∙◌, ℕ, zero, suc, ◌-◌, List, get_or, Some, arith}
use Rattle.std.proofs.lemmas.Option.{slice_get-get_or}
use Rattle.st_tree.specs.Objects.{dirs_of, is_dir_of, entries_at, is_dir_at, entries_of_body, kind_of_body, IsNumber}
use Rattle.st_base.specs.Numbered.{item_at_number}
use Rattle.st_model.specs.Tree.{is_directory}
use Rattle.st_tree.specs.declared.object.Object.{Object}

pub numbered-get : (objects : List Object) (number : ℕ) (d : Object) → IsNumber objects number → item_at_number objects number ≡ Some (get_or objects (number - 1) d)
numbered-get objects zero d is = absurd (omega (arith, is.0))
numbered-get objects (suc before) d is =
    let at : suc before - 1 ≡ before = omega arith in
    rw at (slice_get-get_or objects before d (omega (arith, is.1)))

-- the entries of the object with a number, as it is read at its index
pub dirs_at : (objects : List Object) (number : ℕ) (object d : Object) → IsNumber objects number → object ≡ get_or objects (number - 1) d → dirs_of objects number ≡ entries_of_body object.body
dirs_at objects number object d is read = ap entries_at (numbered-get objects number d is) ∙ ap (λ (o : Object). entries_of_body o.body) (sym read)

pub is_dir_at_number : (objects : List Object) (number : ℕ) (object d : Object) → IsNumber objects number → object ≡ get_or objects (number - 1) d → is_dir_of objects number ≡ is_directory (kind_of_body object.body)
is_dir_at_number objects number object d is read = ap is_dir_at (numbered-get objects number d is) ∙ ap (λ (o : Object). is_directory (kind_of_body o.body)) (sym read)
