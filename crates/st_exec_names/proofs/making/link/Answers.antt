use Rattle.st_request.proofs.Refused.{never_refused}
use Rattle.st_exec_names.proofs.making.link.Goals as goal

pub unrefused-requires : goal.unrefused-requires
unrefused-requires c = never_refused _ c.link.result c.in-Ok.ensures.may c.link.ensures.refused
