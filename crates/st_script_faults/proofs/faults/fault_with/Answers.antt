use Rattle.std.proofs.Common.{rules, sym, ◌∙◌}
use Rattle.st_script_faults.proofs.RepliesRead.{has_binary}
use Rattle.st_script_faults.proofs.faults.fault_with.Goals as goal

pub returns-then-is_too_many : goal.returns-then-is_too_many
returns-then-is_too_many c =
    let expected = sym c.expects_other.ensures ∙ c.if-expects_other.false in
    let many = c.is_too_many.ensures c.args.whole.now (has_binary c.args.whole.now c.args.row.now.below.now c.args.row.now.statement.now c.args.value.now c.requires.value expected) in
    search rules

pub returns-then-reloads_while_learning : goal.returns-then-reloads_while_learning
returns-then-reloads_while_learning c =
    let expected = sym c.expects_other.ensures ∙ c.if-expects_other.false in
    let few = c.is_too_many.ensures c.args.whole.now (has_binary c.args.whole.now c.args.row.now.below.now c.args.row.now.statement.now c.args.value.now c.requires.value expected) in
    search rules

pub returns : goal.returns
returns c =
    let expected = sym c.expects_other.ensures ∙ c.if-expects_other.false in
    let few = c.is_too_many.ensures c.args.whole.now (has_binary c.args.whole.now c.args.row.now.below.now c.args.row.now.statement.now c.args.value.now c.requires.value expected) in
    search rules
