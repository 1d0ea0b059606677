use Rattle.st_translate.proofs.Stages.{begins_outside}
use Rattle.st_translate.proofs.stage.Stage.start.Goals as goal

pub returns-then-at-ge-SPACE_BYTES : goal.returns-then-at-ge-SPACE_BYTES
returns-then-at-ge-SPACE_BYTES c = begins_outside c.args.kind c.args.at c.requires c.if-at-ge-SPACE_BYTES.true
