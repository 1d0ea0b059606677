use Rattle.st_model.proofs.Objects.{number_added, node_added, names_kept, objects_kept}
use Rattle.st_model.proofs.tree.a_tree_is_a_map.Goals as goal

pub returns : goal.returns
returns c = record {
  number = number_added;
  new = node_added;
  names = names_kept;
  objects = objects_kept;
}
