-- The machine that runs, by the fields of the code.
use Rattle.st_decide.specs.Machine.{Running}
use Rattle.st_machine.specs.declared.machine.Machine.TheInside.{Inside}

abbrev pub running_of : Inside → Running
running_of m = record { input = m.input.now; system = m.system; workers = m.workers; threads = m.threads.items; answers = m.answers; operator = m.operator }
