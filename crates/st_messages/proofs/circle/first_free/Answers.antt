use Rattle.std.proofs.Common.{suc, ◌≡◌, ◌∙◌, ◌<◌, ◌≤◌, true, false, cond, inl, inr, add-one, ap, arith, length, nat_lt, subst, sym}
use Rattle.std.proofs.lemmas.Bool.{cases_eq}
use Rattle.st_messages.specs.Circle.{is_among}
use Rattle.st_messages.specs.Messages.{seqs_in}
use Rattle.st_messages.proofs.CircleSearch.{at, at_first, at_next, first_free_at, free_after_all}
use Rattle.st_messages.proofs.Seqs.{length_seqs}
use Rattle.st_messages.proofs.circle.first_free.Goals as goal

pub loop-init : goal.loop-init
loop-init c =
    let within : c.args.last ≤ 65535 = omega (arith, c.ranges.last.fits) in
    (c.number_after-seq.ensures ∙ sym (at_first 65535 c.args.last within (omega arith)), λ k below. absurd (omega (arith, below)))

pub returns-then-not-is_in_use : goal.returns-then-not-is_in_use
returns-then-not-is_in_use c =
    let used = seqs_in c.args.live.now.items c.args.kept.now in
    let k = c.loop.counter in
    let within : c.args.last ≤ 65535 = omega (arith, c.ranges.last.fits) in
    let here : is_among used (at 65535 c.args.last k) ≡ false = ap (is_among used) (sym c.loop.invariant.0) ∙ sym c.is_in_use.ensures ∙ c.if-not-is_in_use.true in
    c.loop.invariant.0 ∙ sym (first_free_at 65535 c.args.last within used k (omega (arith, c.loop-test.true, c.len.ensures, c.len-2.ensures, c.requires)) c.loop.invariant.1 here)

pub loop-preserved : goal.loop-preserved
loop-preserved c =
    let used = seqs_in c.args.live.now.items c.args.kept.now in
    let k = c.loop.counter in
    let within : c.args.last ≤ 65535 = omega (arith, c.ranges.last.fits) in
    let here : is_among used (at 65535 c.args.last k) ≡ true = ap (is_among used) (sym c.loop.invariant.0) ∙ sym c.is_in_use.ensures ∙ c.if-not-is_in_use.false in
    let next = at_next 65535 c.args.last within k (omega (arith, c.loop-test.true, c.len.ensures, c.len-2.ensures, c.requires)) in (
      c.number_after-seq-in-loop.ensures ∙ ap (λ n. cond (nat_lt n 65535) (suc n) 1) c.loop.invariant.0 ∙ sym next ∙ ap (at 65535 c.args.last) (sym (add-one k)),
      λ j below. elim (cases_eq j k) [
        | inl e ↦ subst (λ n. is_among used (at 65535 c.args.last n) ≡ true) (sym e) here
        | inr ne ↦ c.loop.invariant.1 j (omega (arith, below, ne))
      ],
    )

pub returns : goal.returns
returns c =
    let used = seqs_in c.args.live.now.items c.args.kept.now in
    let k = c.loop.counter in
    let within : c.args.last ≤ 65535 = omega (arith, c.ranges.last.fits) in
    let count = length_seqs c.args.live.now.items c.args.kept.now in
    let all : k ≡ length used = omega (arith, count, c.loop-test.false, c.loop.auto.counter-end, c.len.ensures, c.len-2.ensures) in
    let few : length used < 65535 = omega (arith, count, c.requires) in
    let here = free_after_all 65535 c.args.last within used few (λ j below. c.loop.invariant.1 j (omega (arith, below, all))) in
    c.loop.invariant.0 ∙ sym (first_free_at 65535 c.args.last within used k (omega (arith, all, few)) c.loop.invariant.1 (subst (λ n. is_among used (at 65535 c.args.last n) ≡ false) (sym all) here))
