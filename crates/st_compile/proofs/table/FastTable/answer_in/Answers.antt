use Rattle.std.proofs.Common.{◌≡◌, ◌∙◌, [], Some, ap, subst, sym}
use Rattle.std.specs.Prelude.{unwrap_or}
use Rattle.st_compile.specs.Answers.{answer_at, answer_in}
use Rattle.st_compile.specs.Table.{answer_row}
use Rattle.st_compile.proofs.Answering.{row_inside, row_there}
use Rattle.st_compile.proofs.table.FastTable.answer_in.Goals as goal

pub index-requires : goal.index-requires
index-requires c = row_inside c.self.inside.tables.entries c.requires.0 c.args.row (subst (λ rows. answer_row rows c.requires.0 ≡ Some c.args.row) (sym c.self.view_is) c.requires.1)

pub returns : goal.returns
returns c = λ binary at.
    let es = c.self.inside.tables.entries in
    let here = subst (λ rows. answer_row rows binary ≡ Some c.args.row) (sym c.self.view_is) at in
    c.answer_at.ensures
    ∙ ap (λ answers. answer_at answers c.args.rule) c.as_slice.ensures.value
    ∙ sym (ap (λ o. answer_at (unwrap_or o []) c.args.rule) (row_there es binary c.args.row here c.index.result.now c.index.ensures))
    ∙ ap (λ rows. answer_in rows binary c.args.rule) c.self.view_is
