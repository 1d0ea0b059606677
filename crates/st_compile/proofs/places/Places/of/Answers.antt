use Rattle.std.proofs.Common.{◌∙◌, ap, sym}
use Rattle.indexmap.proofs.MapLemmas.{Missing-position}
use Rattle.st_filter.proofs.Entries.{is_key}
use Rattle.st_compile.specs.Places.{policy_places, places_with}
use Rattle.st_compile.proofs.Rows.{listing_kept, shown}
use Rattle.st_compile.proofs.places.Places.of.Goals as goal

pub returns-in-Some : goal.returns-in-Some
returns-in-Some c =
    c.as_slice.ensures.value ∙ ap (λ o. places_with (shown o)) (sym c.index.ensures ∙ c.in-Some.ensures.value) ∙ ap places_with (listing_kept c.self.inside.rows.entries c.args.policy.now) ∙ ap (λ rows. policy_places rows c.args.policy.now) c.self.view_is

pub returns-in-None : goal.returns-in-None
returns-in-None c =
    ap (λ o. places_with (shown o)) (sym (Missing-position (is_key c.args.policy.now) c.self.inside.rows.entries (sym c.in-None.ensures.index)).value) ∙ ap places_with (listing_kept c.self.inside.rows.entries c.args.policy.now) ∙ ap (λ rows. policy_places rows c.args.policy.now) c.self.view_is
