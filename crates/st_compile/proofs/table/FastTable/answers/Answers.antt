use Rattle.std.proofs.Common.{◌∙◌, [], ap, sym}
use Rattle.std.specs.Prelude.{unwrap_or}
use Rattle.indexmap.proofs.MapLemmas.{Missing-position}
use Rattle.st_filter.proofs.Entries.{is_key}
use Rattle.st_compile.specs.Answers.{answers_in}
use Rattle.st_compile.proofs.Tables.{answers_kept, items_of}
use Rattle.st_compile.proofs.table.FastTable.answers.Goals as goal

pub returns-in-Some : goal.returns-in-Some
returns-in-Some c =
    c.as_slice.ensures.value
    ∙ ap (λ o. unwrap_or (items_of o) []) (sym c.index.ensures ∙ c.in-Some.ensures.value)
    ∙ ap (λ o. unwrap_or o []) (answers_kept c.self.inside.tables.entries c.args.binary.now)
    ∙ ap (λ rows. answers_in rows c.args.binary.now) c.self.view_is

pub returns-in-None : goal.returns-in-None
returns-in-None c =
    ap (λ o. unwrap_or (items_of o) []) (sym (Missing-position (is_key c.args.binary.now) c.self.inside.tables.entries (sym c.in-None.ensures.index)).value)
    ∙ ap (λ o. unwrap_or o []) (answers_kept c.self.inside.tables.entries c.args.binary.now)
    ∙ ap (λ rows. answers_in rows c.args.binary.now) c.self.view_is
