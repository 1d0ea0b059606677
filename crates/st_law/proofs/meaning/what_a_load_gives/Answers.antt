use Rattle.st_law.proofs.OwnWords as own
use Rattle.st_law.proofs.meaning.what_a_load_gives.Goals as goal

pub returns : goal.returns
returns c start t made place word = own.load_explained start t place made word
