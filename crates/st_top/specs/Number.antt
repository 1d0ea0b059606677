use Rattle.std.specs.Prelude.{ℕ}
use Rattle.st_top.specs.declared.status.Status.{Status}
use Rattle.st_top.specs.declared.status.Status.TheVariants.{Done, Missing, Usage, Policy, Script, ReadFault, WriteFault, NoMemory, Schedule, TooLong, Illegal}

-- the exit status of the program, as a number
abbrev pub number_of_status : Status → ℕ
number_of_status Done = 0
number_of_status (Missing which) = 1
number_of_status Usage = 2
number_of_status (Policy file fault) = 3
number_of_status (Script fault) = 4
number_of_status ReadFault = 5
number_of_status WriteFault = 6
number_of_status NoMemory = 7
number_of_status (Schedule line) = 8
number_of_status (TooLong which) = 9
number_of_status (Illegal line) = 10
