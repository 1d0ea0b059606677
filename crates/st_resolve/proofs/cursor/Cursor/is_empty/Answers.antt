use Rattle.std.proofs.Common.{refl}
use Rattle.st_resolve.proofs.Texts.{ended}
use Rattle.st_resolve.proofs.cursor.Cursor.is_empty.Goals as goal

pub returns : goal.returns
returns c = ended c.self.inside.text c.self.inside.at c.len.result c.args.self.now _ c.self.view_is c.self.invariant.place c.len.ensures refl
