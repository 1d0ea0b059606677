use Rattle.st_outside.proofs.ContentsLemmas.{held_of-added, held_of-others}
use Rattle.st_outside.proofs.memory_files.MemoryFiles.add.Goals as goal

pub returns-clause-later : goal.returns-clause-later
returns-clause-later c =
    rw c.in_ok-push.ensures.items (held_of-added c.self.inside.files.items record { name = c.args.name; content = c.args.content })

pub returns-clause-others : goal.returns-clause-others
returns-clause-others c n other =
    rw (c.in_ok-push.ensures.items, ← c.self.view_is) (held_of-others c.self.inside.files.items record { name = c.args.name; content = c.args.content } n other)
