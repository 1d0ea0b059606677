use Rattle.st_law.proofs.Numbering as numbering
use Rattle.st_law.proofs.looking_back.numbers_come_in_order.Goals as goal

pub returns : goal.returns
returns c = numbering.numbers
