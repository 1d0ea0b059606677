use Rattle.st_request.proofs.Refused.{never_refused}
use Rattle.st_exec_fs.proofs.Fits.{cut_fits}
use Rattle.st_exec_fs.proofs.opening.cut.Goals as goal

pub unrefused-requires : goal.unrefused-requires
unrefused-requires c = never_refused _ c.cut.result (cut_fits c.args.len c.requires.fits) c.cut.ensures.refused
