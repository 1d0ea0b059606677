use Rattle.std.proofs.Common.{◌≡◌, ◌∙◌, ap, sym, subst, List, [], ◌∷◌, ◌++◌}
use Rattle.st_model.specs.Tree.{root_only}
use Rattle.st_tree.specs.declared.object.Object.{Object}
use Rattle.st_tree.proofs.Changes.{Makes, root_tree}
use Rattle.st_tree.proofs.tree.Tree.new.Goals.{In_ok-push}
use Rattle.st_tree.proofs.tree.Tree.new.Goals as goal

makes : (c : In_ok-push) → Makes c.push.new.self.items root_only
makes c =
    let items : c.push.new.self.items ≡ c.of.result ∷ [] = c.in_ok-push.ensures.items ∙ ap (λ (objects : List Object). objects ++ c.of.result ∷ []) c.new-objects.ensures.items in
    subst (λ (objects : List Object). Makes objects root_only) (sym items) (root_tree c.of.result c.of.ensures.node c.of.ensures.entries)

pub invariant_of-result : goal.invariant_of-result
invariant_of-result c = (makes c).whole

pub returns : goal.returns
returns c = (makes c).view
