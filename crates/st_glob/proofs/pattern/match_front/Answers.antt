use Rattle.std.proofs.Common.{arith, rules, sym, ◌∙◌}
use Rattle.std.proofs.lemmas.Bool.Decides.{nat_tests}
use Rattle.std.proofs.lemmas.List.{take_rest}
use Rattle.st_glob.proofs.Steps.{star-after, text-too-short, byte-not-taken_len, byte-taken_len, unclosed-after, none-found}
use Rattle.st_glob.proofs.pattern.match_front.Goals as goal
use Rattle.st_glob.proofs.pattern.match_front.Goals.{then-unclosed, else-unclosed+then-first-eq91, else-unclosed+else-first-eq91}

pub returns-then-first-eq42-clause-is : goal.returns-then-first-eq42-clause-is
returns-then-first-eq42-clause-is c =
    simp take_rest (star-after c.args.pattern.now c.args.text.now c.loop-items.items.now c.loop-items.left.now c.in-len1-up.len_at_least c.if-first-eq42.true c.loop-items.invariant.kept)

pub returns-in_default-left-clause-is : goal.returns-in_default-left-clause-is
returns-in_default-left-clause-is c =
    text-too-short c.args.pattern.now c.args.text.now c.loop-items.items.now c.loop-items.left.now c.in-len1-up.len_at_least c.if-first-eq42.false c.in_default-left.len_below c.loop-items.invariant.kept

pub returns-in_default-taken_len-clause-is : goal.returns-in_default-taken_len-clause-is
returns-in_default-taken_len-clause-is c =
    byte-not-taken_len c.args.pattern.now c.args.text.now c.loop-items.items.now c.loop-items.left.now c.in-len1-up.len_at_least c.if-first-eq42.false c.in-len1-up-left.len_at_least (simp take_rest at (sym c.taken_len.ensures.is ∙ c.in_default-taken_len.is)) c.loop-items.invariant.kept

pub loop-items-preserved : goal.loop-items-preserved
loop-items-preserved c = record {
  unclosed = λ h. simp take_rest (unclosed-after c.loop-items.items.now c.loop-items.left.now c.in-Some.len c.in-len1-up.len_at_least (simp take_rest at (sym c.in-Some.ensures.is)) (elim c.if-unclosed.branch [
    | then-unclosed w ↦ c.loop-items.invariant.unclosed w.if-unclosed.true
    | else-unclosed+then-first-eq91 w ↦ none-found w.to_bracket.result _ _ _ w.to_bracket.ensures.is w.is_none.ensures w.unclosed-is h
    | else-unclosed+else-first-eq91 w ↦ absurd (grind (arith, nat_tests))
  ]));
  kept = simp take_rest (byte-taken_len c.args.pattern.now c.args.text.now c.loop-items.items.now c.loop-items.left.now c.in-Some.len c.in-len1-up.len_at_least c.in-len1-up-left.len_at_least (simp take_rest at (sym c.in-Some.ensures.is)) c.loop-items.invariant.kept);
  items_within = search rules;
  left_within = search rules;
}
