use Rattle.std.proofs.Common.{length, ap, sym, ◌∙◌}
use Rattle.std.specs.Prelude.{is_none}
use Rattle.std.specs.List.{position}
use Rattle.st_fds.proofs.Whole.{least_of, full_of, places_at, fields_have}
use Rattle.st_fds.proofs.fds.Fds.least_free.Goals as goal

pub returns-clause-least : goal.returns-clause-least
returns-clause-least c =
    let are = places_at (length c.self.inside.files.items) c.self.inside.processes.entries c.args.pid (fields_have _ _ c.args.pid c.self.view_is c.requires) c.self.invariant in
    least_of _ _ c.args.pid c.least_free.result c.self.view_is are (sym (c.least_free.ensures ∙ ap (position is_none) c.places_of.ensures))

pub returns-clause-full : goal.returns-clause-full
returns-clause-full c =
    let are = places_at (length c.self.inside.files.items) c.self.inside.processes.entries c.args.pid (fields_have _ _ c.args.pid c.self.view_is c.requires) c.self.invariant in
    full_of _ _ c.args.pid c.least_free.result c.self.view_is are (sym (c.least_free.ensures ∙ ap (position is_none) c.places_of.ensures))
