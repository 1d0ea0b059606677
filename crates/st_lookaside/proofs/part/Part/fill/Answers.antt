use Rattle.st_lookaside.specs.Head.{arg_request}
use Rattle.st_lookaside.proofs.Parts.{unseen}
use Rattle.st_lookaside.proofs.part.Part.fill.Goals as goal

pub note_need-requires-clause-unseen : goal.note_need-requires-clause-unseen
note_need-requires-clause-unseen c = unseen (arg_request c.args.head.now) c.args.self.now c.requires.part c.requires.need
