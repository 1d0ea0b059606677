use Rattle.std.proofs.Common.{◌≡◌, ◌++◌, map, take}
use Rattle.st_filter.specs.declared.set.BinaryPolicy.{BinaryPolicy}
use Rattle.st_learn.specs.Learnt.{learnt_policy}
use Rattle.st_learn.specs.Sessions.{version_of}
use Rattle.st_printing.specs.Canon.{canon}
use Rattle.st_audit.proofs.learnt.append_policies.Given as goal

-- the policies so far are appended to the text
abbrev pub invariant-loop-i : goal.invariant-loop-i
invariant-loop-i l = l.out ≡ l.initial.out ++ canon (map (learnt_policy l.learnt.policies.now (version_of l.learnt.session.now.reloads) l.learnt.session.now.filters) (take l.i (map (λ (p : BinaryPolicy). p.binary) l.learnt.policies.now.read))) l.emulation
