use Rattle.std.proofs.Common.{subst, sym}
use Rattle.st_names.specs.Name.{AreParts}
use Rattle.st_names.proofs.Spelled.{plain-components}
use Rattle.st_names.proofs.parts.components.Goals as goal

pub returns-clause-plain : goal.returns-clause-plain
returns-clause-plain c = subst AreParts (sym c.in_ok-parts.ensures) (plain-components c.args.text.now)
