use Rattle.st_request.proofs.Refused.{never_refused}
use Rattle.st_exec_names.proofs.renaming.rename.Goals as goal

pub unrefused-requires : goal.unrefused-requires
unrefused-requires c = never_refused _ c.rename.result c.in-Ok.ensures.may c.rename.ensures.refused
