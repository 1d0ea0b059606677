use Rattle.std.proofs.Common.{◌≡◌, ◌∙◌, ◌<◌, ◌≤◌, ◌+◌, ◌-◌, ◌++◌, ap, List, ℕ, length, take, drop, replicate, arith}
use Rattle.std.proofs.lemmas.Grind.{common_steps}
use Rattle.std.proofs.lemmas.List.{with_items_is}
use Rattle.st_tree.proofs.Bytes.{overwritten_is}
use Rattle.st_tree.proofs.content.overwrite.Goals as goal

pub returns-clause-ok : goal.returns-clause-ok
returns-clause-ok c =
    let some : 0 < length c.args.new.now = grind (arith, common_steps) in
    let larger : length c.args.bytes.now.items ≤ c.max.result = omega (arith, c.max.ensures, c.len.ensures) in
    let zeros : c.max.result - length c.args.bytes.now.items ≡ c.args.at + length c.args.new.now - length c.args.bytes.now.items = omega (arith, c.max.ensures, c.len.ensures) in
    with_items_is c.resize.new.self c.put.new.bytes (omega (arith, c.deref_mut.ensures.len, c.resize.new.self.ok.0))
    ∙ c.put.ensures
    ∙ ap (λ (bytes : List ℕ). take c.args.at bytes ++ c.args.new.now ++ drop (c.args.at + length c.args.new.now) bytes) c.deref_mut.ensures.value
    ∙ overwritten_is c.args.bytes.now.items c.args.new.now c.resize.new.self.items c.args.at c.max.result some larger zeros
    (c.in_ok-resize.ensures.items ∙ ap (λ (len : ℕ). take c.max.result c.args.bytes.now.items ++ replicate (c.max.result - len) 0) c.args.bytes.now.ok.0)
