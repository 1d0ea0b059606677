use Rattle.std.proofs.Common.{◌+◌, ◌*◌, length}
use Rattle.st_monitor.proofs.run.+fn-run_servers-join+arg2+run_servers.Given as goal

abbrev pub decreases-join+arg2 : goal.decreases-join+arg2
decreases-join+arg2 g l = 2 * length l.takers.items + 1

abbrev pub decreases-run_servers : goal.decreases-run_servers
decreases-run_servers g l = 2 * length l.takers.items
