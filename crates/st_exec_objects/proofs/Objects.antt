-- Objects by their numbers.
use Rattle.std.proofs.Common.{◌≡◌, ◌∙◌, ap, sym, subst, ℕ, zero, suc, ◌-◌, Bool, Option, Some, IfSome, if◌then◌else◌, arith}
use Rattle.std.proofs.lemmas.Option.{slice_get-get_or}
use Rattle.st_base.specs.declared.errno.Errno.{Errno}
use Rattle.st_base.specs.declared.errno.Errno.TheVariants.{ENOTDIR, EACCES}
use Rattle.st_base.specs.declared.ids.Ids.{Ids}
use Rattle.st_model.specs.Permission.{allowed}
use Rattle.st_model.specs.Tree.{Tree, is_directory, node_of_number, node_with_number, root_node}
use Rattle.st_model.specs.declared.permission.Want.TheVariants.{Search}
use Rattle.st_tree.specs.Refusals.{IsObjectNumber}
use Rattle.st_effects.specs.NameTests.{search_error}

-- the number of an object that was made has an object
pub numbered : (tree : Tree) (number : ℕ) → IsObjectNumber tree number → node_of_number tree number ≡ Some (node_with_number tree number)
numbered tree zero made = absurd (omega (arith, made.0))
numbered tree (suc before) made =
    let at : suc before - 1 ≡ before = omega arith in
    rw at (slice_get-get_or tree.objects before root_node (omega (arith, made.1)))

-- the error of a walk at an object
pub searched : (tree : Tree) (ids : Ids) (number : ℕ) (directory may : Bool) (rest : Option Errno) → IsObjectNumber tree number
    → directory ≡ is_directory (node_with_number tree number).kind → may ≡ allowed (node_with_number tree number) ids.euid ids.egid Search
    → search_error (node_of_number tree number) ids rest ≡ (if directory then (if may then rest else Some EACCES) else Some ENOTDIR)
searched tree ids number directory may rest made dir can =
    ap (λ found. search_error found ids rest) (numbered tree number made)
    ∙ ap (λ (d : Bool). if d then (if allowed (node_with_number tree number) ids.euid ids.egid Search then rest else Some EACCES) else Some ENOTDIR) (sym dir)
    ∙ ap (λ (m : Bool). if directory then (if m then rest else Some EACCES) else Some ENOTDIR) (sym can)

-- an object that a walk found was made
pub found_made : (tree : Tree) (object : Option ℕ) (number : ℕ) → object ≡ Some number → IfSome object (IsObjectNumber tree) → IsObjectNumber tree number
found_made tree object number is made = let P : Option ℕ → Type 0 = λ found. IfSome found (IsObjectNumber tree) in subst P is made
