use Rattle.st_grammar.proofs.Results.{policies_read, refusal_found}
use Rattle.st_policy.proofs.reader.read_policies.Goals as goal

pub returns-in-Ok-clause-ok : goal.returns-in-Ok-clause-ok
returns-in-Ok-clause-ok c =
    policies_read c.args.text.now c.args.env.now c.args.set.now c.read_text.new.set
    c.in-Ok.ensures.few c.in-Ok.ensures.ok

pub returns-in-Err-clause-fault : goal.returns-in-Err-clause-fault
returns-in-Err-clause-fault c memory = refusal_found c.args.text.now c.args.env.now c.args.set.now c.in-Err.refused (c.in-Err.ensures.fault memory)
