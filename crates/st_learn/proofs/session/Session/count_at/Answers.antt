use Rattle.std.proofs.Common.{◌≡◌, ◌<◌, ◌-◌, ◌+◌, ◌∙◌, suc, length, take, get_or, ap, sym, arith}
use Rattle.std.proofs.Math.Seq.{take-length}
use Rattle.std.proofs.lemmas.Slice.Eq.{bytes_eq-Decides}
use Rattle.st_calls.proofs.Rules.{same_rule-Decides}
use Rattle.st_calls.specs.Rules.{same_rule}
use Rattle.st_law.specs.Sessions.{session_filters}
use Rattle.st_learn.specs.Sessions.{is_filter_for}
use Rattle.st_learn.proofs.Counting.{filters_before, filters_with, filters_without, own_policy}
use Rattle.st_learn.proofs.Filters.{filters_at, filters_found, is_of_rule, item_inside}
use Rattle.st_learn.proofs.session.Session.count_at.Goals as goal

pub loop-left-init : goal.loop-left-init
loop-left-init c = record {
  within = omega arith;
  counted = λ policy are.
      ap (λ items. length (filters_at c.args.self.now.filters (is_of_rule c.args.rule) items)) (take-length c.args.places.now)
      ∙ ap length (filters_found c.args.self.now.filters policy c.args.rule c.args.places.now are);
}

pub kept-requires : goal.kept-requires
kept-requires c =
    item_inside c.args.self.now.filters (is_filter_for c.requires.0) c.args.places.now (c.loop-left.left - 1) 0 c.requires.1 (omega (arith, c.loop-left.invariant.within, c.loop-left-test.true))

pub number_before-requires : goal.number_before-requires
number_before-requires c =
    item_inside c.args.self.now.filters (is_filter_for c.requires.0) c.args.places.now (c.loop-left.left - 1) 0 c.requires.1 (omega (arith, c.loop-left.invariant.within, c.loop-left-test.true))

pub returns-then-eq-clause-is : goal.returns-then-eq-clause-is
returns-then-eq-clause-is c = λ wanted are.
    let inside : c.loop-left.left - 1 < length c.args.places.now = omega (arith, c.loop-left.invariant.within, c.loop-left-test.true) in
    let last : suc (c.loop-left.left - 1) ≡ c.loop-left.left = omega (arith, c.loop-left-test.true) in
    let of_rule = sym (c.if-eq.ensures ∙ ap (λ rule. same_rule rule c.args.rule) c.rule.ensures) in
    let rule = (same_rule-Decides c.kept.result.now.rule c.args.rule).0 of_rule in
    let policy = (bytes_eq-Decides c.kept.result.now.policy wanted).0 (own_policy c.args.self.now.filters wanted c.args.places.now (c.loop-left.left - 1) c.kept.result.now are inside c.kept.ensures) in
    let before = c.number_before.ensures.is c.kept.result.now c.kept.ensures ∙ (λ k. length (session_filters (take (get_or c.args.places.now (c.loop-left.left - 1) 0) c.args.self.now.filters) (policy k) (rule k))) in
    let same = filters_before c.args.self.now.filters wanted c.args.rule c.args.places.now (c.loop-left.left - 1) are inside in
    let one = filters_with c.args.self.now.filters (is_of_rule c.args.rule) c.args.places.now (c.loop-left.left - 1) c.kept.result.now inside c.kept.ensures of_rule in
    let sum : c.number_before.result + 1 ≡ suc c.number_before.result = omega arith in
    sum ∙ ap suc (before ∙ sym (ap length same)) ∙ sym one
    ∙ ap (λ left. length (filters_at c.args.self.now.filters (is_of_rule c.args.rule) (take left c.args.places.now))) last
    ∙ c.loop-left.invariant.counted wanted are

pub returns-clause-is : goal.returns-clause-is
returns-clause-is c = λ wanted are.
    let none : 0 ≡ c.loop-left.left = omega (arith, c.loop-left-test.false) in
    ap (λ left. length (filters_at c.args.self.now.filters (is_of_rule c.args.rule) (take left c.args.places.now))) none ∙ c.loop-left.invariant.counted wanted are

pub loop-left-preserved : goal.loop-left-preserved
loop-left-preserved c =
    let inside : c.loop-left.left - 1 < length c.args.places.now = omega (arith, c.loop-left.invariant.within, c.loop-left-test.true) in
    let last : suc (c.loop-left.left - 1) ≡ c.loop-left.left = omega (arith, c.loop-left-test.true) in
    record {
      within = omega (arith, inside);
      counted = λ wanted are.
          ap length (sym (filters_without c.args.self.now.filters (is_of_rule c.args.rule) c.args.places.now (c.loop-left.left - 1) c.kept.result.now inside c.kept.ensures (sym (c.if-eq.ensures ∙ ap (λ rule. same_rule rule c.args.rule) c.rule.ensures))))
          ∙ ap (λ left. length (filters_at c.args.self.now.filters (is_of_rule c.args.rule) (take left c.args.places.now))) last
          ∙ c.loop-left.invariant.counted wanted are;
    }
