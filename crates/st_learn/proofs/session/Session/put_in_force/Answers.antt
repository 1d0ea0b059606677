use Rattle.std.proofs.Common.{◌∙◌, ap, arith, cond, subst, sym}
use Rattle.std.specs.Str.{bytes_eq}
use Rattle.st_compile.specs.Places.{HasRoomAt}
use Rattle.st_learn.specs.Sessions.{Session, version_of}
use Rattle.st_learn.proofs.Rooms.{version_put, versions_fit}
use Rattle.st_learn.proofs.session.Session.put_in_force.Goals as goal

pub push_at-requires : goal.push_at-requires
push_at-requires c = (c.requires.0, subst (λ (session : Session). HasRoomAt c.args.row session.reloads c.requires.0) (sym c.self.view_is) c.requires.1)

pub invariant_of-self : goal.invariant_of-self
invariant_of-self c =
    let room = subst (λ (session : Session). HasRoomAt c.args.row session.reloads c.requires.0) (sym c.self.view_is) c.requires.1 in record {
      policies_are = c.self.invariant.policies_are;
      texts_are = c.self.invariant.texts_are;
      textless = c.self.invariant.textless;
      numbers_are = c.self.invariant.numbers_are;
      few = c.self.invariant.few;
      versions_few = versions_fit c.self.inside.reloads c.push_at.new.self c.requires.0 c.args.version (c.push_at.ensures.gains c.requires.0 room) (let fits = c.ranges.version.fits in omega (arith, fits)) c.self.invariant.versions_few;
      apart = c.self.invariant.apart;
    }

pub returns-clause-versions : goal.returns-clause-versions
returns-clause-versions c = λ binary had other.
    let room = subst (λ (session : Session). HasRoomAt c.args.row session.reloads binary) (sym c.self.view_is) had in
    version_put c.self.inside.reloads c.push_at.new.self binary c.args.version (c.push_at.ensures.gains binary room) other
    ∙ ap (λ (session : Session). cond (bytes_eq binary other) c.args.version (version_of session.reloads other)) c.self.view_is
