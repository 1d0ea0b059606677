use Rattle.std.proofs.Common.{◌≡◌, ◌<◌, ◌∙◌, Some, length, set, ap, arith, subst, sym}
use Rattle.std.proofs.lemmas.List.{length-set}
use Rattle.std.specs.Vec.{with_item}
use Rattle.indexmap.specs.IndexMap.{set_value_at}
use Rattle.st_calls.specs.Call.{every_rule, index_of_rule}
use Rattle.st_compile.specs.Answers.{ChangesAnswer}
use Rattle.st_compile.specs.Table.{answer_row, represented_table}
use Rattle.st_compile.proofs.Answering.{answer_changed, row_inside, row_length}
use Rattle.st_compile.proofs.Tables.{set_whole}
use Rattle.st_compile.proofs.table.FastTable.set_answer.Goals as goal

pub index_mut-answers-requires : goal.index_mut-answers-requires
index_mut-answers-requires c = row_inside c.self.inside.tables.entries c.requires.0 c.args.row (subst (λ rows. answer_row rows c.requires.0 ≡ Some c.args.row) (sym c.self.view_is) c.requires.1)

pub index_mut-requires : goal.index_mut-requires
index_mut-requires c =
    let here = subst (λ rows. answer_row rows c.requires.0 ≡ Some c.args.row) (sym c.self.view_is) c.requires.1 in
    let whole : length c.index_mut-answers.result.now.items ≡ length every_rule = row_length c.self.inside.tables.entries c.requires.0 c.args.row here c.index_mut-answers.result.now c.index_mut-answers.ensures.value c.self.invariant in
    omega (arith, whole, c.index.ensures.within, c.index_mut-answers.result.now.ok.0)

pub invariant_of-self : goal.invariant_of-self
invariant_of-self c =
    let here = subst (λ rows. answer_row rows c.requires.0 ≡ Some c.args.row) (sym c.self.view_is) c.requires.1 in
    let whole : length c.index_mut-answers.result.now.items ≡ length every_rule = row_length c.self.inside.tables.entries c.requires.0 c.args.row here c.index_mut-answers.result.now c.index_mut-answers.ensures.value c.self.invariant in
    set_whole c.self.inside.tables.entries c.args.row _
    (length-set c.index_mut-answers.result.now.items c.index.result (Some c.args.answer) ∙ whole) c.self.invariant

pub returns : goal.returns
returns c = λ binary at.
    let here = subst (λ rows. answer_row rows c.requires.0 ≡ Some c.args.row) (sym c.self.view_is) c.requires.1 in
    let whole : length c.index_mut-answers.result.now.items ≡ length every_rule = row_length c.self.inside.tables.entries c.requires.0 c.args.row here c.index_mut-answers.result.now c.index_mut-answers.ensures.value c.self.invariant in
    let es = c.self.inside.tables.entries in
    let there = subst (λ rows. answer_row rows binary ≡ Some c.args.row) (sym c.self.view_is) at in
    let inside : index_of_rule c.args.rule < length c.index_mut-answers.result.now.items = omega (arith, whole, c.index.ensures.within, c.index.ensures.value) in
    let new = with_item c.index_mut-answers.result.now c.index.result (Some c.args.answer) in
    subst (λ rows. ChangesAnswer rows binary c.args.rule c.args.answer (represented_table (set_value_at es c.args.row new))) c.self.view_is
    (answer_changed es binary c.args.row there c.index_mut-answers.result.now c.index_mut-answers.ensures.value c.args.rule c.args.answer new inside
    (ap (λ n. set c.index_mut-answers.result.now.items n (Some c.args.answer)) c.index.ensures.value))
