use Rattle.st_calls.specs.Call.{rule_of}
use Rattle.st_law.proofs.LinksMet as links
use Rattle.st_law.proofs.Asked as asked
use Rattle.st_law.proofs.meaning.what_a_call_is_made_with.Goals as goal

pub returns-clause-request : goal.returns-clause-request
returns-clause-request c = asked.made_with

pub returns-clause-link : goal.returns-clause-link
returns-clause-link c = λ i st call regs args. links.call_meets st.tree (rule_of call regs i.options.aliasing) call regs args

pub returns-clause-system : goal.returns-clause-system
returns-clause-system c = asked.found_as

pub returns-clause-arguments : goal.returns-clause-arguments
returns-clause-arguments c = asked.arguments
