use Rattle.std.proofs.Common.{◌∙◌, [], cond, ap, sym}
use Rattle.std.specs.Str.{bytes_eq}
use Rattle.std.proofs.lemmas.Option.{get_or_from_slice_get}
use Rattle.st_base.specs.Numbered.{item_at_number}
use Rattle.st_filter.specs.Policies.{PoliciesValue, filters_of, filters_of_block}
use Rattle.st_compile.proofs.Lists.{block_there}
use Rattle.st_compile.proofs.compiled.Compiled.block_filters.Goals as goal

pub returns : goal.returns
returns c =
    let block = c.in-Some.block.now in
    let there = block_there c.self.inside.policies.now.blocks c.self.inside.blocks.items c.args.version block c.self.invariant.2 c.in-Some.ensures.some in
    let same = ap (λ binary. bytes_eq binary c.args.policy.now) (sym c.bytes.ensures) ∙ sym c.is_same_text.ensures ∙ c.if-not-is_same_text.false in
    c.of_rule.ensures
    ∙ ap (filters_of c.args.rule) (c.index.ensures ∙ get_or_from_slice_get c.self.inside.blocks.items _ block.filters c.index.result.now there ∙ (λ k. cond (sym same k) block.filters []) ∙ (λ k. filters_of_block (sym c.in-Some.ensures.some k) c.args.policy.now))
    ∙ ap (λ (ps : PoliciesValue). filters_of c.args.rule (filters_of_block (item_at_number ps.blocks c.args.version) c.args.policy.now)) c.self.view_is
