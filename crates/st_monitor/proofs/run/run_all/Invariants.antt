use Rattle.st_monitor.proofs.run.run_all.Given as goal

-- the input of the kernel that is to run, and the queue of its tickets
abbrev pub ghosts-run_named : goal.ghosts-run_named
ghosts-run_named g a = record { input = a.both.0.input; queue = a.tickets.0.queue }
