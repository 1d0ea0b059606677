use Rattle.std.proofs.Common.{◌≡◌, ◌∙◌, ◌&&◌, ◌+◌, suc, [], ap, sym, arith, drop}
use Rattle.std.proofs.lemmas.List.{drop_all}
use Rattle.std.specs.List.{fold}
use Rattle.st_calls.specs.declared.argument.ArgText.{ArgText}
use Rattle.st_law.specs.Sessions.{SessionFilter}
use Rattle.st_learn.specs.Deciding.{asks_first, decides, first_at, lesser}
use Rattle.st_learn.proofs.First.{fold_next}
use Rattle.st_learn.proofs.FirstDeciding.{earlier_with, earliest}
use Rattle.st_learn.proofs.session.Session.first_deciding.Goals as goal

pub loop-part-preserved : goal.loop-part-preserved
loop-part-preserved c =
    let next : c.loop-part.part-index + 1 ≡ suc c.loop-part.part-index = omega arith in
    let text = c.bytes.ensures ∙ ap (λ (arg : ArgText). arg.text) c.part-item.is in
    let step = c.lesser-first.ensures ∙ ap (lesser c.loop-part.first) (c.first_asking-other.ensures ∙ ap (λ text. first_at (λ (kept : SessionFilter). asks_first text kept && decides c.args.copies.now kept) c.args.self.now.filters) text) in
    record {
      items = c.loop-part.invariant.items;
      same =
          (λ k. fold (earlier_with c.args.copies.now c.args.self.now.filters) (step k) (drop (next k) c.as_slice-part-items.result.now))
          ∙ fold_next (earlier_with c.args.copies.now c.args.self.now.filters) c.loop-part.first c.as_slice-part-items.result.now c.loop-part.part-index c.part-item.result c.loop-part-test.true
          ∙ c.loop-part.invariant.same;
    }

pub returns : goal.returns
returns c =
    sym (ap (fold (earlier_with c.args.copies.now c.args.self.now.filters) c.loop-part.first) (drop_all c.loop-part.part-index c.as_slice-part-items.result.now c.loop-part-test.false))
    ∙ c.loop-part.invariant.same
    ∙ ap (fold (earlier_with c.args.copies.now c.args.self.now.filters) (first_at (λ (kept : SessionFilter). asks_first [] kept && decides c.args.copies.now kept) c.args.self.now.filters)) c.loop-part.invariant.items
    ∙ earliest c.args.copies.now c.args.self.now.filters
