use Rattle.std.proofs.Common.{arith, ap, sym, ◌∙◌, ◌+◌, List, ℕ}
use Rattle.std.proofs.lemmas.List.{take_rest, length-drop}
use Rattle.st_glob.specs.Items.{farther_by, to_bracket}
use Rattle.st_glob.proofs.Classes.{further-none, bracket-more}
use Rattle.st_glob.proofs.class.to_bracket.Goals as goal

pub loop-rest-init : goal.loop-rest-init
loop-rest-init c = record { is = further-none (to_bracket c.args.bytes.now); within = omega arith }

pub loop-rest-preserved : goal.loop-rest-preserved
loop-rest-preserved c = record {
  is = bracket-more c.args.bytes.now c.loop-rest.rest.now c.loop-rest.count c.member-len.result.1 (omega arith) c.if-rest-eq93.false c.member-len.ensures.len c.loop-rest.invariant.is ∙ ap (λ (bytes : List ℕ). farther_by (c.loop-rest.count + c.member-len.result.1) (to_bracket bytes)) (sym (take_rest c.loop-rest.rest.now c.member-len.result.1));
  within = simp (take_rest, length-drop) (omega arith);
}
