use Rattle.std.proofs.Common.{◌∙◌, is_some, ap, sym}
use Rattle.st_lookaside.proofs.Progress.{all_finished, next_at, not_finished, open_at}
use Rattle.st_lookaside.proofs.Turns.{few_args, here_next}
use Rattle.st_lookaside.proofs.slot.Slot.next.Goals as goal

pub returns-in_default-clause-value : goal.returns-in_default-clause-value
returns-in_default-clause-value c = (all_finished c.self.inside.head c.self.inside.parts.items c.deref.result.now (is_some c.self.inside.sealed) c.args.self.now c.self.invariant.slot c.self.view_is c.deref.ensures.value c.in_default.ensures).ready

pub overflow_cast-result : goal.overflow_cast-result
overflow_cast-result c =
    let at = open_at c.self.inside.head c.self.inside.parts.items c.deref.result.now c.in-Some.j c.index.result.now c.self.invariant.slot c.deref.ensures.value c.in-Some.ensures c.index.ensures in
    few_args c.self.inside.head c.self.inside.parts.items (is_some c.self.inside.sealed) c.args.self.now c.in-Some.j c.index.result.now c.self.invariant.slot c.self.view_is at

pub overflow_cast-result-in-Look : goal.overflow_cast-result-in-Look
overflow_cast-result-in-Look c =
    let at = open_at c.self.inside.head c.self.inside.parts.items c.deref.result.now c.in-Some.j c.index.result.now c.self.invariant.slot c.deref.ensures.value c.in-Some.ensures c.index.ensures in
    few_args c.self.inside.head c.self.inside.parts.items (is_some c.self.inside.sealed) c.args.self.now c.in-Some.j c.index.result.now c.self.invariant.slot c.self.view_is at

pub unreachable-requires : goal.unreachable-requires
unreachable-requires c =
    let at = open_at c.self.inside.head c.self.inside.parts.items c.deref.result.now c.in-Some.j c.index.result.now c.self.invariant.slot c.deref.ensures.value c.in-Some.ensures c.index.ensures in
    not_finished c.self.inside.head c.self.inside.parts.items c.in-Some.j c.index.result.now at c.in-Nothing.is

pub returns-in-Word-clause-value : goal.returns-in-Word-clause-value
returns-in-Word-clause-value c =
    let at = open_at c.self.inside.head c.self.inside.parts.items c.deref.result.now c.in-Some.j c.index.result.now c.self.invariant.slot c.deref.ensures.value c.in-Some.ensures c.index.ensures in
    ap (next_at c.in-Some.j) (sym c.in-Word.is) ∙ here_next c.self.inside.head c.self.inside.parts.items (is_some c.self.inside.sealed) c.args.self.now c.in-Some.j c.index.result.now c.self.invariant.slot c.self.view_is at

pub returns-in-Look-clause-value : goal.returns-in-Look-clause-value
returns-in-Look-clause-value c =
    let at = open_at c.self.inside.head c.self.inside.parts.items c.deref.result.now c.in-Some.j c.index.result.now c.self.invariant.slot c.deref.ensures.value c.in-Some.ensures c.index.ensures in
    ap (next_at c.in-Some.j) (sym c.in-Look.is) ∙ here_next c.self.inside.head c.self.inside.parts.items (is_some c.self.inside.sealed) c.args.self.now c.in-Some.j c.index.result.now c.self.invariant.slot c.self.view_is at

pub returns-in-Fault-clause-value : goal.returns-in-Fault-clause-value
returns-in-Fault-clause-value c =
    let at = open_at c.self.inside.head c.self.inside.parts.items c.deref.result.now c.in-Some.j c.index.result.now c.self.invariant.slot c.deref.ensures.value c.in-Some.ensures c.index.ensures in
    ap (next_at c.in-Some.j) (sym c.in-Fault.is) ∙ here_next c.self.inside.head c.self.inside.parts.items (is_some c.self.inside.sealed) c.args.self.now c.in-Some.j c.index.result.now c.self.invariant.slot c.self.view_is at
