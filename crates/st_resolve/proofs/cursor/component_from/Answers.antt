use Rattle.std.proofs.Common.{◌≡◌, ◌∙◌, ◌-◌, ap, sym, List, ℕ, take, drop, arith}
use Rattle.st_names.specs.Name.{components_of}
use Rattle.st_resolve.specs.Cursor.{first_part}
use Rattle.st_resolve.proofs.Texts.{part_skipped}
use Rattle.st_resolve.proofs.cursor.component_from.Goals as goal

pub loop-at-preserved : goal.loop-at-preserved
loop-at-preserved c =
    let rest : List ℕ = drop c.loop-at.at c.args.text.now in
    let part : take (c.part_end-end.result - c.loop-at.at) rest ≡ first_part rest = ap (λ (n : ℕ). take n rest) (omega (arith, c.part_end-end.ensures.place)) in
    record {
      within = omega (arith, c.min-at.ensures);
      same = ap (λ (n : ℕ). components_of (drop n c.args.text.now)) c.min-at.ensures
          ∙ part_skipped c.args.text.now _ c.loop-at.at c.part_end-end.result c.part_end-end.ensures.place part (sym c.is_component.ensures ∙ c.if-is_component.false)
          ∙ c.loop-at.invariant.same;
    }
