use Rattle.std.proofs.Common.{refl, subst, sym}
use Rattle.st_compile.proofs.Rows.{keeps}
use Rattle.st_compile.specs.Places.{binaries_of}
use Rattle.st_learn.specs.Sessions.{AreApart}
use Rattle.st_learn.proofs.Binaries.{apart_more}
use Rattle.st_learn.proofs.Rooms.{room_made}
use Rattle.st_learn.proofs.session.Session.reserve_reload.Goals as goal

pub invariant_of-self-2 : goal.invariant_of-self-2
invariant_of-self-2 c =
    room_made c.self.inside.kept.items c.self.inside.kept.items c.self.inside.numbers.items c.self.inside.numbers.items c.self.inside.policies c.reserve-2.new.self c.self.inside.texts c.self.inside.texts c.self.inside.reloads c.reserve.new.self c.self.inside.has_textless
    c.self.invariant refl refl c.reserve-2.ensures.kept (keeps c.self.inside.texts) c.reserve.ensures.kept
    (subst AreApart (sym c.in_ok-reserve.ensures.row) (apart_more (binaries_of c.self.inside.policies) c.args.binary.now c.self.invariant.apart))
