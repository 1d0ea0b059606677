use Rattle.st_script_names.specs.Names.{no_names}
use Rattle.st_script_faults.proofs.FirstFaults.{is_first}
use Rattle.st_script_faults.proofs.faults.the_fault_is_the_first.Goals as goal

pub returns : goal.returns
returns c = λ whole lines fault is. is_first whole no_names lines fault is
