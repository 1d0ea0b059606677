use Rattle.std.proofs.Common.{◌≡◌, [], ap, sym, ◌∙◌, rules}
use Rattle.st_model.specs.Walk.{Fault, needs_lookup, most_lookups}
use Rattle.st_resolve.specs.Walk.{walk_from}
use Rattle.st_exec_objects.proofs.Resolutions.{end_is, end_now, end_at_start, same_end, fewer_looks, goes_onward, fault_if, quiet_end}
use Rattle.st_exec_objects.proofs.resolution.resolve.Goals as goal

pub returns-in_err-walk-clause-fault : goal.returns-in_err-walk-clause-fault
returns-in_err-walk-clause-fault c errno h =
    end_at_start c.args.tree.now c.args.cwd.now c.args.text.now c.args.follow (c.begin.ensures.fault errno (search (rules, c, h)))

pub loop-walk-init : goal.loop-walk-init
loop-walk-init c = record {
  ends = end_is c.args.tree.now c.args.cwd.now c.args.text.now c.args.follow (walk_from c.in_ok-walk.walk) c.in_ok-walk.ensures.walk;
  goes_on = λ errno e. c.in_ok-walk.ensures.may errno (sym (c.in_ok-walk.ensures.walk []) ∙ fault_if (walk_from c.in_ok-walk.walk []) errno e);
}

pub next_look-requires : goal.next_look-requires
next_look-requires c = c.loop-walk.invariant.goes_on

pub loop-walk-smaller : goal.loop-walk-smaller
loop-walk-smaller c =
    fewer_looks c.args.tree.now c.in-Some.name (walk_from c.loop-walk.walk) (walk_from c.advance.new.self)
    (goes_onward c.args.tree.now c.in-Some.name _ (walk_from c.loop-walk.walk) (walk_from c.advance.new.self) (search (rules, c)) c.look.ensures c.in_ok-errno.ensures.walk)
    (most_lookups c.args.tree.now c.args.text.now)
    (quiet_end c.args.tree.now c.args.cwd.now c.args.text.now c.args.follow _ c.loop-walk.invariant.ends)

pub loop-walk-preserved : goal.loop-walk-preserved
loop-walk-preserved c = record {
  ends =
      same_end c.args.tree.now c.in-Some.name (walk_from c.loop-walk.walk) (walk_from c.advance.new.self)
      (goes_onward c.args.tree.now c.in-Some.name _ (walk_from c.loop-walk.walk) (walk_from c.advance.new.self) (search (rules, c)) c.look.ensures c.in_ok-errno.ensures.walk)
      (most_lookups c.args.tree.now c.args.text.now)
      (quiet_end c.args.tree.now c.args.cwd.now c.args.text.now c.args.follow _ c.loop-walk.invariant.ends) ∙ c.loop-walk.invariant.ends;
  goes_on = λ errno e. c.in_default-2.not-Fault errno (c.in_ok-errno.ensures.step ∙ e);
}

pub returns-in-Fault-clause-fault : goal.returns-in-Fault-clause-fault
returns-in-Fault-clause-fault c errno h =
    let ended : walk_from c.advance.new.self [] ≡ Fault errno = fault_if (walk_from c.advance.new.self []) errno (sym c.in_ok-errno.ensures.step ∙ search (rules, c, h)) in
    sym c.loop-walk.invariant.ends ∙
    sym (same_end c.args.tree.now c.in-Some.name (walk_from c.loop-walk.walk) (walk_from c.advance.new.self)
    (goes_onward c.args.tree.now c.in-Some.name _ (walk_from c.loop-walk.walk) (walk_from c.advance.new.self) (search (rules, c)) c.look.ensures c.in_ok-errno.ensures.walk)
    (most_lookups c.args.tree.now c.args.text.now)
    (quiet_end c.args.tree.now c.args.cwd.now c.args.text.now c.args.follow _ c.loop-walk.invariant.ends)) ∙
    end_now (most_lookups c.args.tree.now c.args.text.now) c.args.tree.now (walk_from c.advance.new.self) (ap needs_lookup ended) ∙ ended

pub returns-clause-name : goal.returns-clause-name
returns-clause-name c =
    sym c.loop-walk.invariant.ends ∙
    end_now (most_lookups c.args.tree.now c.args.text.now) c.args.tree.now (walk_from c.loop-walk.walk) (ap needs_lookup c.into_name.ensures) ∙ c.into_name.ensures
