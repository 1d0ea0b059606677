use Rattle.st_tree.proofs.Changes.{written_removed}
use Rattle.st_tree.proofs.tree.Tree.remove.Goals as goal

pub invariant_of-self : goal.invariant_of-self
invariant_of-self c =
    (written_removed c.self.inside.objects c.deref.result.now c.deref_mut.result.now c.take_entry.new.objects c.args.self.now c.args.name.now c.in_ok-holder.holder c.last.result.now
    c.self.invariant c.self.view_is c.deref.ensures.value c.deref_mut.ensures.value c.in_ok-holder.ensures.empty c.last.ensures c.take_entry.ensures.nodes c.take_entry.ensures.entries).whole

pub returns-clause-ok : goal.returns-clause-ok
returns-clause-ok c =
    (written_removed c.self.inside.objects c.deref.result.now c.deref_mut.result.now c.take_entry.new.objects c.args.self.now c.args.name.now c.in_ok-holder.holder c.last.result.now
    c.self.invariant c.self.view_is c.deref.ensures.value c.deref_mut.ensures.value c.in_ok-holder.ensures.empty c.last.ensures c.take_entry.ensures.nodes c.take_entry.ensures.entries).view
