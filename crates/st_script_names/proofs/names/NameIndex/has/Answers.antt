use Rattle.std.proofs.Common.{ap, ◌∙◌}
use Rattle.std.specs.List.{list_any}
use Rattle.std.specs.Str.{bytes_eq}
use Rattle.st_script_names.specs.Names.{is_name_among}
use Rattle.st_script_names.proofs.Indexed.{has_shown}
use Rattle.st_script_names.proofs.names.NameIndex.has.Goals as goal

pub returns-then-len-gt-FEW_NAMES : goal.returns-then-len-gt-FEW_NAMES
returns-then-len-gt-FEW_NAMES c = c.contains.ensures ∙ has_shown c.self.inside.names.keys c.args.name.now ∙ ap (λ names. is_name_among names c.args.name.now) c.self.view_is

pub returns : goal.returns
returns c = c.is_among.ensures ∙ ap (list_any (λ other. bytes_eq c.args.name.now other.now)) c.as_slice.ensures.keys ∙ has_shown c.self.inside.names.keys c.args.name.now ∙ ap (λ names. is_name_among names c.args.name.now) c.self.view_is
