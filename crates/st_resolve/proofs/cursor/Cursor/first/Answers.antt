use Rattle.std.proofs.Common.{◌∙◌, ◌+◌, ap, sym, List, ℕ, drop}
use Rattle.st_resolve.specs.Cursor.{first_part_len}
use Rattle.st_resolve.proofs.Texts.{first_here, plain_first}
use Rattle.st_resolve.proofs.cursor.Cursor.first.Goals as goal

pub returns-clause-first : goal.returns-clause-first
returns-clause-first c =
    let at = c.self.inside.at in
    first_here c.self.inside.text c.bytes.result.now at c.self.inside.end c.args.self.now c.self.view_is c.self.invariant.place c.bytes.ensures
    (c.self.invariant.ends ∙ ap (λ (text : List ℕ). at + first_part_len (drop at text)) (sym c.bytes.ensures)) c.requires

pub returns-clause-plain : goal.returns-clause-plain
returns-clause-plain c =
    plain_first (drop c.self.inside.at c.self.inside.text) _ (drop 1 c.args.self.now) (c.self.view_is ∙ returns-clause-first c)
