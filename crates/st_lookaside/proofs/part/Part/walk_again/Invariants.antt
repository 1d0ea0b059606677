use Rattle.std.proofs.Common.{take}
use Rattle.st_lookaside.specs.Head.{arg_request}
use Rattle.st_lookaside.specs.Part.{words_in, IsWalk}
use Rattle.st_lookaside.proofs.part.Part.walk_again.Given as goal

abbrev pub invariant-loop-seen : goal.invariant-loop-seen
invariant-loop-seen l = IsWalk (arg_request l.head) l.self.spec (words_in l.self.copying) (take l.seen-index l.self.lookups.items) l.walk
