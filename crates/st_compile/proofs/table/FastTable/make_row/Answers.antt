use Rattle.std.proofs.Common.{◌≡◌, ◌∙◌, Some, ap, length, sym, subst}
use Rattle.st_compile.specs.Answers.{KeepsAnswers}
use Rattle.st_compile.specs.Table.{AreTables, answer_row, represented_table}
use Rattle.st_compile.proofs.Answering.{row_keeps, row_kept, row_made}
use Rattle.st_compile.proofs.Tables.{inserted_whole}
use Rattle.st_compile.proofs.table.FastTable.make_row.Goals as goal

pub returns-in-Some-clause-row : goal.returns-in-Some-clause-row
returns-in-Some-clause-row c =
    ap (λ rows. answer_row rows c.args.binary.now) (sym c.self.view_is) ∙ row_kept c.self.inside.tables.entries c.args.binary.now ∙ sym c.in-Some.ensures.index

pub invariant_of-self-in-None : goal.invariant_of-self-in-None
invariant_of-self-in-None c =
    let v = c.in_ok-answers-in-None.answers in
    subst (λ es. AreTables (represented_table es)) (sym c.in_ok-row-in-None.ensures.entries)
    (inserted_whole c.self.inside.tables.entries c.into_bytes-key.result v (ap length c.in_ok-answers-in-None.ensures) c.self.invariant)

pub returns-in_ok-row-in-None-clause-row : goal.returns-in_ok-row-in-None-clause-row
returns-in_ok-row-in-None-clause-row c =
    subst (λ es. answer_row (represented_table es) c.args.binary.now ≡ Some c.in_ok-row-in-None.row) (sym c.in_ok-row-in-None.ensures.entries)
    (row_made c.self.inside.tables.entries c.into_bytes-key.result c.in_ok-answers-in-None.answers c.args.binary.now (c.into_bytes-key.ensures ∙ c.in_ok-of-in-None.ensures) c.in_ok-row-in-None.row c.in_ok-row-in-None.ensures.index)

pub returns-in_ok-row-in-None-clause-kept : goal.returns-in_ok-row-in-None-clause-kept
returns-in_ok-row-in-None-clause-kept c =
    subst (λ rows. KeepsAnswers rows (represented_table c.insert_full.new.self.entries)) c.self.view_is
    (subst (λ es. KeepsAnswers (represented_table c.self.inside.tables.entries) (represented_table es)) (sym c.in_ok-row-in-None.ensures.entries)
    (row_keeps c.self.inside.tables.entries c.into_bytes-key.result c.in_ok-answers-in-None.answers c.args.binary.now (c.into_bytes-key.ensures ∙ c.in_ok-of-in-None.ensures) (sym c.in-None.ensures.found) c.in_ok-answers-in-None.ensures))
