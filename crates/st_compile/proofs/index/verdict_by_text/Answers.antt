use Rattle.std.proofs.Common.{◌≡◌, ◌+◌, ◌∙◌, length, ap, refl, sym, arith}
use Rattle.std.proofs.lemmas.Bool.{ltb-false}
use Rattle.std.proofs.lemmas.Bool.Decides.{Decides-ltb}
use Rattle.std.proofs.lemmas.Option.{slice_get_read}
use Rattle.st_filter.specs.Judging.{verdict_by}
use Rattle.st_compile.proofs.Holding.{says_first, says_nothing}
use Rattle.st_compile.proofs.index.verdict_by_text.Goals as goal

pub returns-in-Some : goal.returns-in-Some
returns-in-Some c =
    let filters = c.args.filters.now in
    let first = c.first_holding-first.result in
    let filter = c.in-Some.filter.now in
    let sum : first + 1 ≡ 1 + first = omega arith in
    let within = (Decides-ltb first (length filters)).0 (sym c.in-Some.ensures.lookup.0) in
    let at = slice_get_read filters (length filters) first filter refl within c.in-Some.ensures.lookup.1 in
    c.verdict.ensures
    ∙ ap (λ n. verdict_by n filter.grant c.args.copies.now.ids filter.action) sum
    ∙ sym (says_first c.args.copies.now filters 1 first filter at (c.first_holding-first.ensures.holds_of_call within filter at) c.first_holding-first.ensures.none_before)

pub returns-in-None : goal.returns-in-None
returns-in-None c =
    let first = c.first_holding-first.result in
    says_nothing c.args.copies.now c.args.filters.now first (ltb-false first (length c.args.filters.now) (sym c.in-None.ensures.lookup.0)) c.first_holding-first.ensures
