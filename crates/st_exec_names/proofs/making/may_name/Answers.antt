use Rattle.std.proofs.Common.{◌∙◌, sym}
use Rattle.st_exec_names.proofs.Allowed.{nothing, place_free}
use Rattle.st_exec_names.proofs.making.may_name.Goals as goal

pub returns-clause-free : goal.returns-clause-free
returns-clause-free c =
    place_free c.args.tree.now _ c.args.name.now (sym c.in_ok-place.ensures.refused) (sym c.in_ok-place.ensures.place.object ∙ nothing c.in_ok-place.place.object c.is_some.result c.is_some.ensures c.if-is_some.false)
