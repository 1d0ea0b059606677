use Rattle.std.proofs.Common.{ap, sym, ◌∙◌, ◌≡◌, slice_set, []}
use Rattle.std.proofs.lemmas.Cmp.{nat_cmp_total}
use Rattle.std.specs.Option.{unwrap_or, option_copied_mut}
use Rattle.std.specs.BTreeMap.{insert_entry}
use Rattle.std.specs.Ordering.{nat_cmp}
use Rattle.st_model.specs.Descriptors.{places_in}
use Rattle.st_fds.proofs.Entries.{written}
use Rattle.st_fds.proofs.places.set_place.Goals as goal

pub returns-in-Some-clause-entries : goal.returns-in-Some-clause-entries
returns-in-Some-clause-entries c =
    let es = c.args.processes.now.entries in
    let new = slice_set c.in-Some.places.now c.args.fd c.args.number in
    let found : c.in-Some.places.now ≡ places_in es c.args.pid = ap (λ o. unwrap_or o []) (sym (ap option_copied_mut c.in-Some.is) ∙ c.get_mut.ensures.value) in
    (c.get_mut.follows.holds new).0 ∙ written nat_cmp_total c.args.pid new es c.get_mut.ensures.ordered c.requires.has ∙
    ap (λ places. insert_entry nat_cmp es c.args.pid (slice_set places c.args.fd c.args.number)) found
