use Rattle.std.proofs.Common.{◌∙◌, sym}
use Rattle.st_tree.proofs.Entries.{lookup-sorted}
use Rattle.st_tree.proofs.object.entry_in.Goals as goal

pub returns-then-len-le-FEW_ENTRIES : goal.returns-then-len-le-FEW_ENTRIES
returns-then-len-le-FEW_ENTRIES c = c.compared.ensures ∙ sym (lookup-sorted c.args.part.now c.args.entries.now.entries)

pub returns-else-len-le-FEW_ENTRIES : goal.returns-else-len-le-FEW_ENTRIES
returns-else-len-le-FEW_ENTRIES c = c.copied.ensures ∙ c.get.ensures.value ∙ sym (lookup-sorted c.args.part.now c.args.entries.now.entries)
