use Rattle.std.proofs.Common.{◌≡◌, ◌∙◌, ◌-◌, ℕ, ap, arith, get_or, length, subst, sym}
use Rattle.std.proofs.lemmas.Bool.{true≢false}
use Rattle.std.specs.Option.{IsSome}
use Rattle.st_lookaside.specs.Slots.{IsGap}
use Rattle.st_lookaside.proofs.Keys.{gap_at_end, gap_of_none}
use Rattle.st_lookaside.proofs.slots.gap_of.Goals as goal

pub returns-in_default : goal.returns-in_default
returns-in_default c = gap_of_none c.args.keys.now.items c.args.drawing (λ some. true≢false (sym (subst IsSome c.in_default.is (c.back.ensures.variant.1 (omega (arith, some, c.args.keys.now.ok.0))))))

pub returns-then-last-drawing : goal.returns-then-last-drawing
returns-then-last-drawing c =
    let keys = c.args.keys.now.items in
    let last = c.in-Some.last.now in
    let is : last ≡ get_or keys (length keys - 1) last = c.in-Some.ensures.lookup ∙ ap (λ (n : ℕ). get_or keys (n - 1) last) c.args.keys.now.ok.0 in
    let end : length keys ≡ c.len.result = omega (arith, c.len.ensures, c.args.keys.now.ok.0) in
    subst (IsGap keys c.args.drawing) end (gap_at_end keys c.args.drawing last c.requires.ascending is c.if-last-drawing.true)
