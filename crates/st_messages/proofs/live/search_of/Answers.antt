use Rattle.std.proofs.Common.{◌≡◌, ◌∙◌, ◌<◌, ◌≤◌, inl, inr, ap, arith, get_or, length, nat_lt, rules, subst, sym}
use borrow.Author.Tests.{tests}
use Rattle.std.proofs.lemmas.Bool.{cases_lt, true≢false}
use Rattle.std.proofs.lemmas.List.Sorted.{IsPartitionPoint-from_clause}
use Rattle.std.specs.Option.{IsSome}
use Rattle.st_messages.specs.declared.message.Message.{Message}
use Rattle.st_messages.proofs.Lookups.{parted, position_between, position_past, position_there}
use Rattle.st_messages.proofs.live.search_of.Goals as goal

pub returns-in_err-message : goal.returns-in_err-message
returns-in_err-message c =
    let live = c.args.live.now.items in
    let place = c.partition_point-place.result in
    let point = IsPartitionPoint-from_clause (λ (m : Message). nat_lt m.drawing c.args.drawing) live place c.partition_point-place.ensures.partitioned (parted live 1 c.requires.0 c.args.drawing c.requires.1) (λ a r f' k. search (rules, tests)) in
    let end : length live ≤ place = elim (cases_lt place (length live)) [
      | inl lt ↦ absurd (true≢false (sym (subst IsSome c.in_err-message.was (c.get.ensures.variant.1 (omega (arith, lt, c.args.live.now.ok.0))))))
      | inr ge ↦ ge
    ] in
    c.from_residual.ensures ∙ sym (position_past live 1 c.requires.0 c.args.drawing c.requires.1 place point end)

pub returns-then-message-drawing : goal.returns-then-message-drawing
returns-then-message-drawing c =
    let live = c.args.live.now.items in
    let m = c.in_ok-message.message.now in
    let inside : c.partition_point-place.result < length live = search rules in
    let is : m ≡ get_or live c.partition_point-place.result m = search rules in
    sym (position_there live 1 c.requires.0 c.args.drawing c.requires.1 c.partition_point-place.result m inside (ap (λ (m : Message). m.drawing) (sym is) ∙ c.if-message-drawing.true))

pub returns-else-message-drawing : goal.returns-else-message-drawing
returns-else-message-drawing c =
    let live = c.args.live.now.items in
    let place = c.partition_point-place.result in
    let m = c.in_ok-message.message.now in
    let inside : place < length live = search rules in
    let is : m ≡ get_or live place m = search rules in
    let point = IsPartitionPoint-from_clause (λ (m : Message). nat_lt m.drawing c.args.drawing) live place c.partition_point-place.ensures.partitioned (parted live 1 c.requires.0 c.args.drawing c.requires.1) (λ a r f' k. search (rules, tests)) in
    sym (position_between live 1 c.requires.0 c.args.drawing c.requires.1 place point m inside (λ same. c.if-message-drawing.false (ap (λ (m : Message). m.drawing) is ∙ same)))
