use Rattle.std.proofs.Common.{◌≡◌, drop}
use Rattle.st_learn.specs.Deciding.{decides}
use Rattle.st_learn.specs.Sessions.{places_asking}
use Rattle.st_learn.proofs.First.{first_in}
use Rattle.st_learn.proofs.session.Session.first_asking.Given as goal

-- the first filter among those that are left is the first of all
abbrev pub invariant-loop-place : goal.invariant-loop-place
invariant-loop-place l = record {
  items : l.place-items ≡ places_asking l.self.filters l.text;
  same : first_in l.self.filters (decides l.copies) (drop l.place-index l.place-items) ≡ first_in l.self.filters (decides l.copies) l.place-items;
}
