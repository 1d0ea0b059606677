use Rattle.std.proofs.Common.{ℕ, List, ◌+◌, ◌||◌, drop, ap, ◌∙◌}
use Rattle.std.proofs.lemmas.List.{drop-drop, take_rest}
use Rattle.st_glob.specs.Items.{in_range, is_listed}
use Rattle.st_glob.proofs.Classes.{listed-short, listed-plain, listed-range}
use Rattle.st_glob.proofs.class.first_range.Goals as goal
use Rattle.st_glob.proofs.class.first_range.Goals.{then-following-lt2-via-then-following-lt2, then-following-lt2-via-else-following-lt2+then-following-ne45}

pub returns-then-following-lt2-clause-first : goal.returns-then-following-lt2-clause-first
returns-then-following-lt2-clause-first c =
    elim c.then-following-lt2.branch [
      | then-following-lt2-via-then-following-lt2 w ↦ listed-short c.args.class.now (drop c.member-low.result.1 c.args.class.now) _ c.member-low.ensures.first (rw take_rest at w.if-following-lt2.true)
      | then-following-lt2-via-else-following-lt2+then-following-ne45 w ↦ listed-plain c.args.class.now (drop c.member-low.result.1 c.args.class.now) _ c.member-low.ensures.first (rw take_rest at w.if-following-ne45.true)
    ]

pub returns-clause-first : goal.returns-clause-first
returns-clause-first c = λ x.
    listed-range c.args.class.now (drop c.member-low.result.1 c.args.class.now) _ _ c.member-high.result.1 c.member-low.ensures.first (rw take_rest at c.if-following-lt2.false) (rw take_rest at c.if-following-ne45.false) (simp take_rest at c.member-high.ensures.first) x ∙
    ap (λ (bytes : List ℕ). in_range c.member-low.result.0 c.member-high.result.0 x || is_listed bytes x) (ap (drop c.member-high.result.1) (drop-drop 1 c.member-low.result.1 c.args.class.now) ∙ drop-drop c.member-high.result.1 (c.member-low.result.1 + 1) c.args.class.now)
