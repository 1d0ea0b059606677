-- Calls with their expected results: each line of a list is one call, and the whole list is computed at once.
use Prim.Native.String.{String}
use Rattle.std.proofs.Common.{◌≡◌, ℕ, List, [], ◌∷◌, map, codes}
use Rattle.st_base.specs.declared.errno.Errno.{Errno}
use Rattle.st_base.specs.declared.ids.Ids.{Ids}
use Rattle.st_calls.specs.declared.call.SysCall.{SysCall}
use Rattle.st_model.specs.Tree.{Tree, set_mode}
use Rattle.st_effects.specs.Changes.{tree_after}
use Rattle.st_effects.specs.System.{System}
use Rattle.st_trace.specs.declared.entry.CallResult.{CallResult}
use Rattle.st_trace.specs.declared.entry.CallResult.TheVariants.{Value, Failed}
use Rattle.st_trace.specs.declared.entry.Change.{Change}
use Rattle.st_effects.proofs.World.{world, made}

-- a call: its texts, its registers, its result and all its changes
pub record Try : Type 0 where
  pub texts : List (List ℕ)
  pub regs : List ℕ
  pub result : CallResult
  pub changes : List Change

-- a call on a name that is refused and changes nothing; the registers are those after the name's
abbrev pub refused : String → List ℕ → Errno → Try
refused name regs errno = record { texts = codes name ∷ []; regs = 24 ∷ regs; result = Failed errno; changes = [] }

-- a call on a name that returns a number, with these changes
abbrev pub gives : String → List ℕ → ℕ → List Change → Try
gives name regs number changes = record { texts = codes name ∷ []; regs = 24 ∷ regs; result = Value number; changes = changes }

-- a call with two texts that is refused
abbrev pub refused_both : String → String → Errno → Try
refused_both first second errno =
    record { texts = codes first ∷ codes second ∷ []; regs = 24 ∷ 48 ∷ []; result = Failed errno; changes = [] }

abbrev pub gives_both : String → String → List Change → Try
gives_both first second changes =
    record { texts = codes first ∷ codes second ∷ []; regs = 24 ∷ 48 ∷ []; result = Value 0; changes = changes }

-- the outcome for process 1 over this system, under these ids, is that of each line; no call on names changes a descriptor
abbrev pub Answer : System → Ids → SysCall → List Try → Type 0
Answer system ids call tries =
    map (λ each. made system 1 ids call each.texts each.regs) tries ≡
    map (λ each. record { result = each.result; changes = each.changes; descriptors = system.descriptors }) tries

-- the world in which this object has another mode
abbrev pub with_mode : ℕ → ℕ → System
with_mode number mode = record world { tree = set_mode world.tree number mode }

-- the tree of the world after a call under these ids
abbrev pub tree_by : Ids → SysCall → List String → List ℕ → Tree
tree_by ids call texts regs = tree_after world.tree (made world 1 ids call (map codes texts) regs).changes
