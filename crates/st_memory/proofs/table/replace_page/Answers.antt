use Rattle.st_memory.proofs.Counts.{replaced-step}
use Rattle.st_memory.proofs.table.replace_page.Goals as goal

pub returns-clause-row : goal.returns-clause-row
returns-clause-row c = (c.insert_reserved-number.result, replaced-step c.args.pages.now c.insert_reserved-number.new.pages c.release_page.new.pages c.args.row.now c.args.index c.insert_reserved-number.result c.args.page c.requires.there c.insert_reserved-number.ensures.fresh c.insert_reserved-number.ensures.added c.insert_reserved-number.ensures.words c.release_page.ensures.released)

pub returns-clause-room : goal.returns-clause-room
returns-clause-room c = λ more enough. c.release_page.ensures.room more (c.insert_reserved-number.ensures.room more enough)
