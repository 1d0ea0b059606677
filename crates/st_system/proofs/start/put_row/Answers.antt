use Rattle.st_request.proofs.Refused.{never_refused}
use Rattle.st_system.proofs.start.put_row.Goals as goal

pub unrefused-requires : goal.unrefused-requires
unrefused-requires c = never_refused _ c.add.result c.requires c.add.ensures.refused
