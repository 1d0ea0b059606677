use Rattle.std.proofs.Common.{ap, ◌∙◌}
use Rattle.st_script_names.specs.Names.{with_new_name}
use Rattle.st_script_names.proofs.Indexed.{shown, added_shown}
use Rattle.st_script_names.proofs.names.NameIndex.add.Goals as goal

pub returns : goal.returns
returns c = ap shown c.in_ok-insert.ensures.keys ∙ added_shown c.self.inside.names.keys c.args.name ∙ ap (λ names. with_new_name names c.args.name.now) c.self.view_is
