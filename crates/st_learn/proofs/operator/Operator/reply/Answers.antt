use Rattle.std.proofs.Common.{◌≡◌, ◌<◌, ◌∙◌, ◌++◌, ◌∷◌, [], ℕ, Some, length, get_or, List, ap, sym, subst}
use Rattle.std.proofs.lemmas.Option.{slice_get-get_or}
use Rattle.st_filter.specs.Formula.{FilterValue}
use Rattle.st_filter.specs.declared.set.Reply.{Reply}
use Rattle.st_law.specs.Sessions.{kept_for}
use Rattle.st_compile.specs.Answers.{AllFilters, AreAnswersUnder, with_appended}
use Rattle.st_compile.specs.Places.{LosesPlace, PolicyPlaces, policy_places, policy_row}
use Rattle.st_learn.specs.Operator.{Added}
use Rattle.st_learn.proofs.Replies.{is_replied, place_there, place_within}
use Rattle.st_learn.proofs.operator.Operator.reply.Goals as goal

pub returns-clause-law : goal.returns-clause-law
returns-clause-law c = λ input st is are copies.
    let s = c.args.copies.now in
    let added = c.args.self.now in
    let reply = c.index-replies-place.result in
    let place = get_or c.at.result.now c.args.index 0 in
    let rows : c.self.inside.left ≡ added.left = ap (λ (a : Added). a.left) c.self.view_is in
    let read : c.at.result.now ≡ policy_places added.left s.policy = c.at.ensures s.policy (subst (λ rows. policy_row rows s.policy ≡ Some c.args.row) (sym rows) c.requires.row) ∙ ap (λ rows. policy_places rows s.policy) rows in
    let at : get_or (policy_places added.left s.policy) c.args.index 0 ≡ place = ap (λ (places : List ℕ). get_or places c.args.index 0) (sym read) in
    let replies : c.self.inside.replies.now ≡ added.replies = ap (λ (a : Added). a.replies) c.self.view_is in
    let within : place < length added.replies = subst (λ (n : ℕ). n < length added.replies) at (place_within added s.policy s.rule c.args.index c.requires.next) in
    let left : c.self-2.inside.left ≡ added.left = ap (λ (a : Added). a.left) c.self-2.view_is ∙ c.in_ok-number.ensures.left in
    is_replied input st added is s copies c.args.answering.now c.keep.new.answering are c.keep.ensures.policies _ c.in_ok-number.number c.in_ok-number.ensures.number
    (ap (λ (a : Added). a.changed) c.self-2.view_is ∙ c.in_ok-number.ensures.changed) (ap (λ (a : Added). a.reloads) c.self-2.view_is ∙ c.keep.ensures.reloads) c.args.index place reply c.requires.next
    (place_there added s.policy s.rule c.args.index c.requires.next ∙ ap Some at)
    (slice_get-get_or added.replies place reply within ∙ ap Some (sym (c.index-replies-place.is ∙ ap (λ (all : List Reply). get_or all place reply) replies)))
    (ap (λ (a : Added). a.filters) c.self-2.view_is ∙ c.in_ok-number.ensures.filters ∙ ap (λ (f : FilterValue). added.filters ++ kept_for f s ∷ []) (ap (λ (r : Reply). r.filter) (sym c.index-replies-place.is)))
    (ap (λ (a : Added). a.replies) c.self-2.view_is ∙ c.in_ok-number.ensures.replies)
    (subst (λ (rows : List PolicyPlaces). LosesPlace rows s.policy c.args.index c.take_out_at.new.self) left
    (c.take_out_at.ensures s.policy (subst (λ (rows : List PolicyPlaces). policy_row rows s.policy ≡ Some c.args.row) (sym left) c.requires.row)))
    (subst (λ (f : FilterValue). (filters : AllFilters) → AreAnswersUnder filters c.args.answering.now.own → AreAnswersUnder (with_appended filters s.policy s.rule f) c.keep.new.answering.own)
    (ap (λ (r : Reply). r.filter) (sym c.index-replies-place.is)) c.in_ok-number.ensures.own)
