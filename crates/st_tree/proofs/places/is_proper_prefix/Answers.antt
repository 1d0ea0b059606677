use Rattle.std.proofs.Common.{◌∙◌, Bool, ap, sym}
use Rattle.std.specs.Prelude.{◌&&◌, nat_lt, length}
use Rattle.st_tree.proofs.Reasons.{leads_on_by}
use Rattle.st_tree.proofs.places.is_proper_prefix.Goals as goal

pub returns-then-begins : goal.returns-then-begins
returns-then-begins c =
    rw (c.len.ensures, c.len-then-begins.ensures) (ap (λ (b : Bool). b && nat_lt (length c.args.old.now) (length c.args.new.now)) (sym c.if-begins.true ∙ leads_on_by c.args.old.now c.args.new.now c.begins.result c.begins.ensures))

pub returns-else-begins : goal.returns-else-begins
returns-else-begins c =
    c.if-begins.false ∙ ap (λ (b : Bool). b && nat_lt (length c.args.old.now) (length c.args.new.now)) (sym c.if-begins.false ∙ leads_on_by c.args.old.now c.args.new.now c.begins.result c.begins.ensures)
