-- When a change of the tree fails with an error, and which changes keep the kinds of objects.
use Rattle.std.specs.Prelude.{◌≡◌, ◌↔◌, ℕ, length, Option, Some, Result, Err}
use Rattle.st_base.specs.declared.errno.Errno.{Errno}
use Rattle.st_model.specs.Tree.{Tree, node_with_number}
use Rattle.st_tree.specs.declared.tree.TreeFault.{TreeFault}
use Rattle.st_tree.specs.declared.tree.TreeFault.TheVariants.{Os}

-- the result is an error exactly when this error is the reason for refusal
abbrev pub Refuses : {T : Type 0} → Option Errno → Result T TreeFault → Type 0
Refuses refused result = (errno : Errno) → (refused ≡ Some errno) ↔ (result ≡ Err (Os errno))

-- no object is made, and each object keeps its kind
abbrev pub KeepsKinds : Tree → Tree → Type 0
KeepsKinds old new = (length new.objects ≡ length old.objects) × ((number : ℕ) → (node_with_number new number).kind ≡ (node_with_number old number).kind)
