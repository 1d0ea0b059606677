use Rattle.st_request.proofs.Refused.{never_refused}
use Rattle.st_exec_names.proofs.entries.remove.Goals as goal

pub unrefused-requires : goal.unrefused-requires
unrefused-requires c = never_refused _ c.remove.result c.requires c.remove.ensures.refused
