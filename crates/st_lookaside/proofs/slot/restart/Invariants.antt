use Rattle.std.proofs.Common.{◌≡◌, ◌<◌, ◌≤◌, ℕ, map, get_or}
use Rattle.st_lookaside.specs.Head.{arg_request}
use Rattle.st_lookaside.specs.Part.{filled_of, nothing_filled, IsPart}
use Rattle.st_lookaside.specs.declared.part.Part.{Part}
use Rattle.st_lookaside.proofs.slot.restart.Given as goal

abbrev pub invariant-loop-part : goal.invariant-loop-part
invariant-loop-part l = record {
  specs : map (λ part. part.spec) l.part-items ≡ map (λ part. part.spec) l.fn.parts;
  ahead : (k : ℕ) (d : Part) → l.part-index ≤ k → get_or l.part-items k d ≡ get_or l.fn.parts k d;
  parts : (k : ℕ) (d : Part) → k < l.part-index → IsPart (arg_request l.head) (get_or l.part-items k d);
  filled : (k : ℕ) (d : Part) → k < l.part-index → filled_of (get_or l.part-items k d) ≡ nothing_filled;
}
