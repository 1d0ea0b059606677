use Rattle.std.proofs.Common.{◌≡◌, take}
use Rattle.st_printing.specs.Canon.{canon}
use Rattle.st_printing.proofs.print.print_policies.Given as goal

-- the policies so far are printed
abbrev pub invariant-loop-i : goal.invariant-loop-i
invariant-loop-i l = l.out ≡ canon (take l.i l.set) l.emulation
