use Rattle.std.proofs.Common.{◌∙◌, ap, sym, length}
use Rattle.std.specs.List.{count_by}
use Rattle.st_names.specs.Name.{is_slash}
use Rattle.st_names.proofs.Spelled.{length-parts_after}
use Rattle.st_names.proofs.name.AbsName.len.Goals as goal

pub returns : goal.returns
returns c = c.slash_count.ensures ∙ ap (count_by is_slash) c.deref.ensures.value ∙ sym (length-parts_after c.self.inside.text.items) ∙ ap length c.self.view_is
