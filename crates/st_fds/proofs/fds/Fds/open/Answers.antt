use Rattle.std.proofs.Common.{refl, Some, length, arith, rules, subst}
use Rattle.std.specs.List.Sorted.{IsStrictlySortedBy}
use Rattle.std.specs.Map.{keys_of}
use Rattle.std.specs.Ordering.{nat_cmp}
use Rattle.st_model.specs.Descriptors.{Table}
use Rattle.st_fds.specs.Table.{IsValidTable}
use Rattle.st_fds.proofs.Whole.{one_place, fields_have}
use Rattle.st_fds.proofs.fds.Fds.open.Goals as goal

pub invariant_of-self-2 : goal.invariant_of-self-2
invariant_of-self-2 c =
    one_place (length c.self.inside.files.items) (length c.push_reserved.new.self.items) c.self.inside.processes.entries _ _ _ (Some c.len-fresh.result) _
    c.self.invariant (fields_have _ _ c.args.pid c.self.view_is c.requires) refl c.set_place.ensures.entries
    (omega (arith, c.push_reserved.ensures.len, c.in_ok-reserve.ensures.len))
    (omega (arith, c.push_reserved.ensures.len, c.in_ok-reserve.ensures.len, c.len-fresh.ensures))

pub returns-clause-opened : goal.returns-clause-opened
returns-clause-opened c = record {
  has = c.requires;
  whole = subst (λ (t : Table). IsValidTable t.processes (length t.files)) c.self.view_is c.self.invariant;
  ordered = subst (λ (t : Table). IsStrictlySortedBy nat_cmp (keys_of t.processes)) c.self.view_is c.set_place.ensures.ordered;
  descriptor = search rules;
  file = c.args.file;
  is = search rules;
}
