use Rattle.std.proofs.Common.{◌-◌}
use Rattle.std.proofs.Math.Seq.{map-set_same}
use Rattle.st_tree.specs.Objects.{object_node}
use Rattle.st_tree.proofs.table.put_entry.Goals as goal

pub returns-clause-nodes : goal.returns-clause-nodes
returns-clause-nodes c = map-set_same object_node c.args.objects.now (c.args.holder - 1) c.put.new.self c.index-objects-holder.result c.put.ensures.node
