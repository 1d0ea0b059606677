use Rattle.std.proofs.Common.{◌≡◌, ◌∙◌, ◌<◌, ◌++◌, ◌∷◌, [], ℕ, List, length, take, get_or, ap, sym, subst, arith}
use Rattle.std.proofs.lemmas.List.{take_more}
use Rattle.std.proofs.Math.Seq.{take-length}
use Rattle.st_calls.specs.declared.argument.ArgText.{ArgText}
use Rattle.st_lookaside.specs.Head.{arg_request}
use Rattle.st_lookaside.specs.Slot.{Slot, slot_progress, HasAllArguments}
use Rattle.st_lookaside.specs.declared.part.Part.{Part}
use Rattle.st_lookaside.proofs.Progress.{ready_args, ready_finished, AreArgs, AreArgs-push}
use Rattle.st_lookaside.proofs.slot.Slot.snapshot.Goals as goal

pub arg-requires-clause-need : goal.arg-requires-clause-need
arg-requires-clause-need c =
    let parts : List Part = c.self.inside.parts.items in
    let i = c.loop-part.part-index in
    let within : i < length parts = subst (λ (l : List Part). i < length l) c.deref-part-items.ensures.value c.loop-part-test.true in
    ap (λ (p : Part). p.need) (c.part-item.is ∙ ap (λ (l : List Part). get_or l i c.part-item.result) c.deref-part-items.ensures.value)
    ∙ ready_finished c.self.inside.head parts i c.part-item.result c.self.invariant.slot.specs c.self.invariant.slot.parts (subst (λ (s : Slot). HasAllArguments (slot_progress s)) (sym c.self.view_is) c.requires) within

pub loop-part-preserved : goal.loop-part-preserved
loop-part-preserved c =
    let asked = arg_request c.self.inside.head in
    let parts : List Part = c.self.inside.parts.items in
    let i = c.loop-part.part-index in
    let part : Part = c.part-item.result in
    let arg : ArgText = c.in_ok-arg.field-0 in
    let within : i < length parts = subst (λ (l : List Part). i < length l) c.deref-part-items.ensures.value c.loop-part-test.true in
    let here : part ≡ get_or parts i part = c.part-item.is ∙ ap (λ (l : List Part). get_or l i part) c.deref-part-items.ensures.value in
    subst (λ (l : List Part). AreArgs asked l c.push.new.self) (ap (λ (p : Part). take i parts ++ p ∷ []) here ∙ sym (take_more parts i part within))
    (subst (AreArgs asked (take i parts ++ part ∷ [])) (sym c.in_ok-push.ensures.ok) (AreArgs-push asked (take i parts) c.loop-part.args part arg c.loop-part.invariant c.in_ok-arg.ensures))

pub returns-clause-args : goal.returns-clause-args
returns-clause-args c =
    let parts : List Part = c.self.inside.parts.items in
    let len = ap length c.deref-part-items.ensures.value in
    let all : c.loop-part.part-index ≡ length parts = omega (arith, len, c.loop-part-test.false, c.loop-part.auto.part-index-end) in
    sym (ap slot_progress c.self.view_is)
    ∙ ready_args c.self.inside.head parts c.loop-part.args c.self.invariant.slot.specs
    (subst (λ (l : List Part). AreArgs (arg_request c.self.inside.head) l c.loop-part.args) (ap (λ (n : ℕ). take n parts) all ∙ take-length parts) c.loop-part.invariant)
