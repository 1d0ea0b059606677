use Rattle.st_fault_laws.proofs.Cuts.{cut_is_read}
use Rattle.st_fault_laws.proofs.law.a_cut_text_keeps_its_tokens.Goals as goal

pub returns : goal.returns
returns c = cut_is_read
