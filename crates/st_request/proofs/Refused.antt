-- Changes of the tree that can't be refused.
use Rattle.std.proofs.Common.{◌≡◌, ◌≢◌, Option, Some, None, Result, Err}
use Rattle.st_base.specs.declared.errno.Errno.{Errno}
use Rattle.st_tree.specs.Answers.{Refuses}
use Rattle.st_tree.specs.declared.tree.TreeFault.{TreeFault}
use Rattle.st_tree.specs.declared.tree.TreeFault.TheVariants.{Os}

-- a change that isn't refused has no error
pub never_refused : {T : Type 0} (refused : Option Errno) (result : Result T TreeFault) → refused ≡ None → Refuses refused result → (errno : Errno) → result ≢ Err (Os errno)
never_refused refused result none refuses errno is =
    let some : refused ≡ Some errno = (refuses errno).1 is in
    cc
