use Rattle.std.proofs.Common.{◌∙◌, ap, sym}
use Rattle.st_filter.specs.Judging.{holds}
use Rattle.st_law.specs.Sessions.{is_kept_for}
use Rattle.st_learn.specs.Deciding.{asks_first, decides}
use Rattle.st_compile.proofs.Asking.{both_of}
use Rattle.st_learn.proofs.Filters.{item_inside}
use Rattle.st_learn.proofs.First.{first_found, here_first, is_there, none_left}
use Rattle.st_learn.proofs.session.Session.first_asking.Goals as goal

pub kept-kept-requires : goal.kept-kept-requires
kept-kept-requires c = item_inside c.args.self.now.filters (asks_first c.args.text.now) c.places_asking-place-items.result.now c.loop-place.place-index 0 c.loop-place.invariant.items c.loop-place-test.true

pub returns-then-holds : goal.returns-then-holds
returns-then-holds c =
    here_first c.args.self.now.filters (decides c.args.copies.now) c.places_asking-place-items.result.now c.loop-place.place-index c.loop-place-test.true
    (ap (is_there (decides c.args.copies.now)) c.kept-kept.ensures
    ∙ both_of (is_kept_for c.args.copies.now.policy c.args.copies.now.rule c.kept-kept.result.now) (holds c.kept-kept.result.now.filter c.args.copies.now)
    (sym (c.if-is_for.ensures ∙ ap (λ policy. is_kept_for policy c.args.copies.now.rule c.kept-kept.result.now) (c.bytes-policy.ensures ∙ c.get.ensures)))
    (sym (c.if-holds.ensures ∙ ap (λ filter. holds filter c.args.copies.now) c.filter.ensures)))
    ∙ c.loop-place.invariant.same ∙ first_found c.args.self.now.filters (asks_first c.args.text.now) (decides c.args.copies.now) c.places_asking-place-items.result.now c.places_asking-place-items.ensures

pub returns : goal.returns
returns c =
    none_left c.args.self.now.filters (decides c.args.copies.now) c.places_asking-place-items.result.now c.loop-place.place-index c.loop-place-test.false
    ∙ c.loop-place.invariant.same ∙ first_found c.args.self.now.filters (asks_first c.args.text.now) (decides c.args.copies.now) c.places_asking-place-items.result.now c.places_asking-place-items.ensures
