use Rattle.std.proofs.Common.{refl}
use Rattle.st_linux.proofs.NativeStarts.{as_many_threads, threads_native}
use Rattle.st_linux.proofs.law.only_flags_of_opens_change.Goals as goal

pub returns-clause-users : goal.returns-clause-users
returns-clause-users c = λ start. refl

pub returns-clause-groups : goal.returns-clause-groups
returns-clause-groups c = λ start. refl

pub returns-clause-tree : goal.returns-clause-tree
returns-clause-tree c = λ start. refl

pub returns-clause-processes : goal.returns-clause-processes
returns-clause-processes c = λ start. refl

pub returns-clause-as_many : goal.returns-clause-as_many
returns-clause-as_many c = as_many_threads

pub returns-clause-threads : goal.returns-clause-threads
returns-clause-threads c = threads_native
