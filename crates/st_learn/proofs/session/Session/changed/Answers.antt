use Rattle.std.proofs.Common.{◌<◌, ◌∙◌, ap, length, subst, sym, take}
use Rattle.std.specs.List.{list_any}
use Rattle.std.specs.Prelude.{slice_get}
use Rattle.std.specs.Str.{bytes_eq}
use Rattle.st_learn.specs.Sessions.{Session}
use Rattle.st_learn.proofs.session.Session.changed.Goals as goal

pub binary-requires : goal.binary-requires
binary-requires c = subst (λ (session : Session). c.args.row < length session.changed) (sym c.self.view_is) c.requires

pub returns-clause-is : goal.returns-clause-is
returns-clause-is c = ap (λ (session : Session). slice_get session.changed c.args.row) (sym c.self.view_is) ∙ c.binary.ensures

pub returns-clause-once : goal.returns-clause-once
returns-clause-once c =
    ap (λ (session : Session). list_any (bytes_eq c.binary.result.now) (take c.args.row session.changed)) (sym c.self.view_is)
    ∙ c.self.invariant.apart c.args.row c.binary.result.now c.binary.ensures
