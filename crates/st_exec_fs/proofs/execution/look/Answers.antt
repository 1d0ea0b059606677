use Rattle.st_exec_fs.proofs.Executed.{access_leaves, access_looks}
use Rattle.st_exec_fs.proofs.execution.look.Goals as goal

pub returns-in-Access-clause-outcome : goal.returns-in-Access-clause-outcome
returns-in-Access-clause-outcome c = access_looks c.args.request.now c.args.tree.now c.args.procs.now c.args.call c.access.result c.in-Access.is c.access.ensures

pub returns-in-Access-clause-memory : goal.returns-in-Access-clause-memory
returns-in-Access-clause-memory c = access_leaves c.args.request.now c.args.tree.now c.args.procs.now c.args.spaces.now c.access.result c.access.ensures
