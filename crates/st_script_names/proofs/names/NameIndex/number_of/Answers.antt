use Rattle.std.proofs.Common.{◌+◌, ap, ◌∙◌}
use Rattle.std.specs.Prelude.{unwrap_or}
use Rattle.st_statements.specs.Lines.{saturated}
use Rattle.st_script_names.specs.Names.{name_number}
use Rattle.st_script_names.proofs.Indexed.{place_shown}
use Rattle.st_script_names.proofs.names.NameIndex.number_of.Goals as goal

pub returns : goal.returns
returns c =
    let place = c.unwrap_or-place.ensures ∙ (λ k. unwrap_or (c.get_index_of.ensures.index k) (c.len.ensures.len k)) ∙ place_shown c.self.inside.names.keys c.args.name.now in
    c.saturated.ensures ∙ ap (λ n. saturated (n + 1)) place ∙ ap (λ names. name_number names c.args.name.now) c.self.view_is
