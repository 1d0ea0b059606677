-- The state that the machine keeps is the state that looking back gives.
use Rattle.std.proofs.Common.{◌≡◌, refl, [], ◌∷◌}
use Rattle.st_law.specs.declared.input.Input.{Input}
use Rattle.st_law.specs.History.{looking_back}
use Rattle.st_law.specs.Machine.{state_after, state_at}
use Rattle.st_law.specs.Threads.{History}

pub state-is : (i : Input) (h : History) → state_at i h ≡ looking_back i h
state-is i [] = refl
state-is i (e ∷ h) = λ k. state_after i (state-is i h k) e
