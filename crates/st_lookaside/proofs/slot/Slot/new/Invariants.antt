use Rattle.std.proofs.Common.{◌≡◌, map, take}
use Rattle.std.specs.Prelude.{All}
use Rattle.st_calls.specs.Argument.{args_of}
use Rattle.st_lookaside.specs.Head.{arg_request}
use Rattle.st_lookaside.specs.Part.{filled_of, nothing_filled, IsPart}
use Rattle.st_lookaside.proofs.slot.Slot.new.Given as goal

abbrev pub invariant-loop-spec : goal.invariant-loop-spec
invariant-loop-spec l = record {
  specs : map (λ part. part.spec) l.parts.items ≡ take l.spec-index (args_of l.head.rule);
  parts : All (IsPart (arg_request l.head)) l.parts.items;
  filled : All (λ part. filled_of part ≡ nothing_filled) l.parts.items;
}
