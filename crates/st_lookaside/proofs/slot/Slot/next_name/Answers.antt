use Rattle.std.proofs.Common.{◌∙◌, is_some, sym}
use Rattle.std.proofs.lemmas.Result.{IfOk-weaker}
use Rattle.st_lookaside.specs.Head.{arg_request}
use Rattle.st_lookaside.specs.Part.{progress_of_arg}
use Rattle.st_names.specs.Name.{Components}
use Rattle.st_lookaside.proofs.Progress.{all_finished, open_at}
use Rattle.st_lookaside.proofs.Sealed.{still_unsealed}
use Rattle.st_lookaside.proofs.Turns.{here_look, here_same, look_found, look_is_due, slot_kept, turn}
use Rattle.st_lookaside.proofs.slot.Slot.next_name.Goals as goal

pub unreachable-requires : goal.unreachable-requires
unreachable-requires c = (all_finished c.self.inside.head c.self.inside.parts.items c.deref.result.now (is_some c.self.inside.sealed) c.args.self.now c.self.invariant.slot c.self.view_is c.deref.ensures.value c.in_default.ensures).no_look c.requires

pub next_name-requires-clause-need : goal.next_name-requires-clause-need
next_name-requires-clause-need c =
    let at = open_at c.self.inside.head c.self.inside.parts.items c.deref.result.now c.in-Some.j c.index_mut-part.result.now c.self.invariant.slot c.deref.ensures.value c.in-Some.ensures c.index_mut-part.ensures.value in
    here_look c.self.inside.head c.self.inside.parts.items (is_some c.self.inside.sealed) c.args.self.now c.in-Some.j c.index_mut-part.result.now c.self.invariant.slot c.self.view_is at c.requires

pub invariant_of-self : goal.invariant_of-self
invariant_of-self c =
    let at = open_at c.self.inside.head c.self.inside.parts.items c.deref.result.now c.in-Some.j c.index_mut-part.result.now c.self.invariant.slot c.deref.ensures.value c.in-Some.ensures c.index_mut-part.ensures.value in
    still_unsealed c.self.inside.head c.self.inside.parts.items _ c.args.self.now c.self.inside.sealed c.self.invariant c.self.view_is (look_is_due _ c.requires)
    (slot_kept c.self.inside.head c.self.inside.parts.items c.in-Some.j c.index_mut-part.result.now c.next_name.new.self c.self.invariant.slot
    (turn c.self.inside.head c.self.inside.parts.items (is_some c.self.inside.sealed) c.args.self.now c.in-Some.j c.index_mut-part.result.now c.self.invariant.slot c.self.view_is at) c.index_mut-part.ensures.value c.next_name.ensures.part c.next_name.ensures.spec)

pub returns-clause-same : goal.returns-clause-same
returns-clause-same c =
    let at = open_at c.self.inside.head c.self.inside.parts.items c.deref.result.now c.in-Some.j c.index_mut-part.result.now c.self.invariant.slot c.deref.ensures.value c.in-Some.ensures c.index_mut-part.ensures.value in
    here_same c.self.inside.head c.self.inside.parts.items (is_some c.self.inside.sealed) c.args.self.now c.in-Some.j c.index_mut-part.result.now c.self.invariant.slot c.self.view_is at c.next_name.new.self c.next_name.ensures.filled

pub returns-clause-name : goal.returns-clause-name
returns-clause-name c =
    let at = open_at c.self.inside.head c.self.inside.parts.items c.deref.result.now c.in-Some.j c.index_mut-part.result.now c.self.invariant.slot c.deref.ensures.value c.in-Some.ensures c.index_mut-part.ensures.value in
    IfOk-weaker c.next_name.result _ _
    (λ (name : Components) is. look_found c.self.inside.head c.self.inside.parts.items (is_some c.self.inside.sealed) c.args.self.now c.in-Some.j c.index_mut-part.result.now c.self.invariant.slot c.self.view_is at name
    (sym (λ k. progress_of_arg (arg_request c.self.inside.head) (c.next_name.ensures.spec k) (c.next_name.ensures.filled k).words (c.next_name.ensures.filled k).lookups) ∙ is)) c.next_name.ensures.name
