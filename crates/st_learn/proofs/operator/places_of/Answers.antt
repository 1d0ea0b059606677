use Rattle.std.proofs.Common.{◌∙◌, Some, false, ap, refl, subst, sym}
use Rattle.std.proofs.lemmas.Option.{slice_get-get_or}
use Rattle.st_compile.specs.Places.{GainsPlace}
use Rattle.st_learn.proofs.Replies.{left_more}
use Rattle.st_learn.proofs.operator.places_of.Goals as goal

pub loop-place-preserved : goal.loop-place-preserved
loop-place-preserved c =
    let reply = c.index-replies-place.result in
    left_more c.args.replies.now (λ number. false) c.loop-place.place reply c.loop-place.places c.add.new.self c.loop-place.invariant
    (slice_get-get_or c.args.replies.now c.loop-place.place reply c.loop-place-test.true ∙ ap Some (sym c.index-replies-place.is)) refl
    (subst (λ policy. GainsPlace c.loop-place.places policy c.loop-place.place c.add.new.self) c.bytes-policy.ensures c.in_ok-add.ensures.ok)
