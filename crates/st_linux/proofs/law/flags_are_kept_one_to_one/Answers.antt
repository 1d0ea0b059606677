use Rattle.st_linux.proofs.FlagBits.{read, write, append_bit, create_bit, truncate_bit, exclusive_bit, no_more_bits}
use Rattle.st_linux.proofs.law.flags_are_kept_one_to_one.Goals as goal

pub returns-clause-read : goal.returns-clause-read
returns-clause-read c = read

pub returns-clause-write : goal.returns-clause-write
returns-clause-write c = write

pub returns-clause-create : goal.returns-clause-create
returns-clause-create c = create_bit

pub returns-clause-exclusive : goal.returns-clause-exclusive
returns-clause-exclusive c = exclusive_bit

pub returns-clause-truncate : goal.returns-clause-truncate
returns-clause-truncate c = truncate_bit

pub returns-clause-append : goal.returns-clause-append
returns-clause-append c = append_bit

pub returns-clause-no_more : goal.returns-clause-no_more
returns-clause-no_more c = no_more_bits
