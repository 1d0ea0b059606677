use Rattle.std.proofs.Common.{◌≡◌, ◌∙◌, ◌<◌, ◌+◌, ℕ, List, length, get_or, set, inl, inr, ap, sym, subst, arith}
use Rattle.std.proofs.lemmas.Bool.{cases_eq}
use Rattle.std.proofs.lemmas.List.{get_or-set_other, get_or-set_same}
use Rattle.std.proofs.Math.Seq.{map-set_same}
use Rattle.st_lookaside.specs.Head.{arg_request}
use Rattle.st_lookaside.specs.Part.{filled_of, nothing_filled, IsPart}
use Rattle.st_lookaside.specs.declared.part.Part.{Part}
use Rattle.st_lookaside.proofs.slot.restart.Goals as goal

-- what holds of the items before this one, and of this one, holds of all up to it
further : (P : Part → Type 0) (parts : List Part) (i : ℕ) (after : Part) → i < length parts → ((k : ℕ) (d : Part) → k < i → P (get_or parts k d)) → P after → (k : ℕ) (d : Part) → k < i + 1 → P (get_or (set parts i after) k d)
further P parts i after within before here k d lt = elim (cases_eq k i) [
  | inl e ↦ subst P (sym (ap (λ (n : ℕ). get_or (set parts i after) n d) e ∙ get_or-set_same parts i after d within)) here
  | inr ne ↦ subst P (sym (get_or-set_other parts i k after d ne)) (before k d (omega (arith, lt, ne)))
]

pub loop-part-preserved : goal.loop-part-preserved
loop-part-preserved c =
    let i = c.loop-part.part-index in
    let parts : List Part = c.loop-part.part-items in
    let after : Part = c.restart.new.self in
    let within : i < length parts = omega (arith, c.loop-part-test.true, c.loop-part.auto.part-items) in
    record {
      specs = map-set_same (λ (p : Part). p.spec) parts i after c.part-item.result c.restart.ensures.spec ∙ c.loop-part.invariant.specs;
      ahead = λ k d lt. get_or-set_other parts i k after d (λ e. let here : k ≡ i = e in omega (arith, here, lt)) ∙ c.loop-part.invariant.ahead k d (omega (arith, lt));
      parts = further (IsPart (arg_request c.args.head.now)) parts i after within c.loop-part.invariant.parts c.restart.ensures.part;
      filled = further (λ p. filled_of p ≡ nothing_filled) parts i after within c.loop-part.invariant.filled c.restart.ensures.filled;
    }
