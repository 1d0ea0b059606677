use Rattle.std.proofs.Common.{◌∙◌, sym, subst}
use Rattle.st_learn.specs.Deciding.{decides, IsDeciding}
use Rattle.st_law.specs.Sessions.{session_filters}
use Rattle.st_learn.proofs.First.{first_inside}
use Rattle.st_learn.proofs.FirstDeciding.{deciding, none_holds, unmatched}
use Rattle.st_learn.proofs.session.Session.deciding.Goals as goal

pub returns-in_err-place-clause-none : goal.returns-in_err-place-clause-none
returns-in_err-place-clause-none c = λ none. none_holds c.args.copies.now c.args.self.now.filters (sym c.first_deciding.ensures ∙ c.in_err-place.was)

pub returns-in_err-place-clause-unmatched : goal.returns-in_err-place-clause-unmatched
returns-in_err-place-clause-unmatched c = λ none read.
    unmatched c.args.copies.now (session_filters c.args.self.now.filters c.args.copies.now.policy c.args.copies.now.rule) read
    (none_holds c.args.copies.now c.args.self.now.filters (sym c.first_deciding.ensures ∙ c.in_err-place.was))

pub number_before-requires : goal.number_before-requires
number_before-requires c = first_inside (decides c.args.copies.now) c.args.self.now.filters c.in_ok-place.place (sym c.first_deciding.ensures ∙ c.in_ok-place.was)

pub kept-requires : goal.kept-requires
kept-requires c = first_inside (decides c.args.copies.now) c.args.self.now.filters c.in_ok-place.place (sym c.first_deciding.ensures ∙ c.in_ok-place.was)

pub returns-clause-some : goal.returns-clause-some
returns-clause-some c =
    subst (IsDeciding (session_filters c.args.self.now.filters c.args.copies.now.policy c.args.copies.now.rule) c.args.copies.now _) (sym c.filter.ensures)
    (deciding c.args.copies.now c.args.self.now.filters c.in_ok-place.place c.number_before.result c.kept.result.now (sym c.first_deciding.ensures ∙ c.in_ok-place.was) c.kept.ensures (c.number_before.ensures.is c.kept.result.now c.kept.ensures))
