use Rattle.std.proofs.Common.{sym}
use Rattle.st_noted.proofs.Recording.{entry_added}
use Rattle.st_noted.proofs.steps.advance.Goals as goal

-- a choice that is enabled adds an entry
pub note_last-requires : goal.note_last-requires
note_last-requires g c = entry_added c.args.kernel.now c.args.choice c.advance.new.added c.in-Ok.ensures.entry c.in-Ok.ensures.enabled

pub returns-clause-noted : goal.returns-clause-noted
returns-clause-noted g c = c.in_ok-note_last.ensures c.args.kernel.now c.args.choice c.in-Ok.ensures.ok (sym c.in-Ok.ensures.entry)
