use Rattle.std.proofs.Common.{◌∙◌, ap, inl, inr, subst, sym}
use Rattle.st_threads.specs.Ways.{drawn_way}
use Rattle.st_threads.specs.declared.way.CallWay.{CallWay}
use Rattle.st_trace.specs.declared.entry.Way.TheVariants.{Held}
use Rattle.st_decide.specs.Entering.{IsKeptAnswer, IsUnposted, IsWayOf}
use Rattle.st_decide.specs.Machine.{Running}
use Rattle.st_steps.proofs.Entered.{next_number}
use Rattle.st_machine.proofs.machine.Machine.enter.Goals as goal

pub enter_held-requires-clause-way : goal.enter_held-requires-clause-way
enter_held-requires-clause-way c =
    let found : IsWayOf c.args.self.now c.args.tid c.args.new.now (drawn_way c.way_of-chosen.result.way) = subst (λ (k : Running). IsWayOf k c.args.tid c.args.new.now (drawn_way c.way_of-chosen.result.way)) c.view.ensures c.way_of-chosen.ensures.way in
    let goes : IsWayOf c.args.self.now c.args.tid c.args.new.now (Held c.in-Held.field-0) = subst (λ (w : CallWay). IsWayOf c.args.self.now c.args.tid c.args.new.now (drawn_way w)) c.in-Held.is found in
    λ st is. goes st is ∙ ap Held (next_number c.args.self.now c.args.tid c.args.new.now c.requires.next c.in-Held.field-0 goes st is)

pub enter_unheld-requires : goal.enter_unheld-requires
enter_unheld-requires c = record {
  next = c.requires.next;
  way = subst (λ (k : Running). IsWayOf k c.args.tid c.args.new.now (drawn_way c.way_of-chosen.result.way)) c.view.ensures c.way_of-chosen.ensures.way;
  answer = subst (λ (k : Running). IsKeptAnswer k c.args.tid c.args.new.now (drawn_way c.way_of-chosen.result.way) c.way_of-chosen.result.answer) c.view.ensures c.way_of-chosen.ensures.answer;
  unposted = elim c.in-Fast.is [
    | inl e ↦ subst (λ (w : CallWay). IsUnposted (drawn_way w)) (sym e) tt
    | inr rest ↦ elim rest [
      | inl x ↦ subst (λ (w : CallWay). IsUnposted (drawn_way w)) (sym x.1) tt
      | inr e ↦ subst (λ (w : CallWay). IsUnposted (drawn_way w)) (sym e) tt
    ]
  ];
}
