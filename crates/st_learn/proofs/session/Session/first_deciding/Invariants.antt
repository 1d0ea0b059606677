use Rattle.std.proofs.Common.{◌≡◌, ◌&&◌, [], drop}
use Rattle.std.specs.List.{fold}
use Rattle.st_law.specs.Sessions.{SessionFilter}
use Rattle.st_learn.specs.Deciding.{asks_first, decides, first_at}
use Rattle.st_learn.proofs.FirstDeciding.{earlier_with}
use Rattle.st_learn.proofs.session.Session.first_deciding.Given as goal

-- the least so far, with the filters of the arguments that are left, gives the first of all
abbrev pub invariant-loop-part : goal.invariant-loop-part
invariant-loop-part l = record {
  items : l.part-items ≡ l.copies.parts;
  same : fold (earlier_with l.copies l.self.filters) l.first (drop l.part-index l.part-items)
      ≡ fold (earlier_with l.copies l.self.filters) (first_at (λ (kept : SessionFilter). asks_first [] kept && decides l.copies kept) l.self.filters) l.part-items;
}
