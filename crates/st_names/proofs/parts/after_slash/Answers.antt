use Rattle.st_names.proofs.Spelled.{after_slash}
use Rattle.st_names.proofs.parts.after_slash.Goals as goal

pub returns : goal.returns
returns c = λ spelled. after_slash c.args.text.now c.in_ok-rest.rest.now c.in_ok-rest.field-0-0.now c.in_ok-rest.ensures.cases.0 spelled
