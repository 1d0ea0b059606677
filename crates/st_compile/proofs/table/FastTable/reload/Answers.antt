use Rattle.std.proofs.Common.{◌≡◌, ◌∙◌, Some, sym, subst}
use Rattle.st_compile.specs.Answers.{AreAnswersBy, AreAnswersUnder, with_policy_filters}
use Rattle.st_compile.specs.Table.{answer_row, represented_table}
use Rattle.st_compile.proofs.Answering.{answers_replaced, row_inside}
use Rattle.st_compile.proofs.Tables.{set_whole}
use Rattle.st_compile.proofs.table.FastTable.reload.Goals as goal

pub index_mut-requires : goal.index_mut-requires
index_mut-requires c = row_inside c.self.inside.tables.entries c.requires.0 c.args.row (subst (λ rows. answer_row rows c.requires.0 ≡ Some c.args.row) (sym c.self.view_is) c.requires.1)

pub invariant_of-self : goal.invariant_of-self
invariant_of-self c = set_whole c.self.inside.tables.entries c.args.row c.into_vec.result c.into_vec.ensures.whole c.self.invariant

pub returns : goal.returns
returns c = λ filters binary own at by are.
    let here = subst (λ rows. answer_row rows binary ≡ Some c.args.row) (sym c.self.view_is) at in
    answers_replaced c.self.inside.tables.entries binary c.args.row here filters own c.into_vec.result
    (subst (AreAnswersBy own) (sym c.into_vec.ensures.are) by)
    (subst (AreAnswersUnder filters) (sym c.self.view_is) are)
