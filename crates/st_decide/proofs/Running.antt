-- The machine that runs, by the fields of a view.
use Rattle.st_decide.specs.Machine.{Running}
use Rattle.st_decide.specs.declared.view.View.TheInside.{Inside}

abbrev pub running_of : Inside → Running
running_of v = record { input = v.input.now; system = v.system.now; workers = v.workers.now; threads = v.threads.now; answers = v.answers.now; operator = v.operator.now }
