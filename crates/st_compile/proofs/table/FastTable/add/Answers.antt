use Rattle.std.proofs.Common.{◌∙◌, ap, sym, subst, length}
use Rattle.st_compile.specs.Table.{AreTables, Gains, first_answers, represented_table}
use Rattle.st_compile.proofs.Tables.{gains, had, inserted_whole}
use Rattle.st_compile.proofs.table.FastTable.add.Goals as goal

pub returns-then-contains_key : goal.returns-then-contains_key
returns-then-contains_key c =
    subst (λ rows. Gains rows c.args.binary.now (first_answers c.args.policy.now) rows) c.self.view_is
    (had c.self.inside.tables.entries c.args.binary.now (first_answers c.args.policy.now) (sym c.if-contains_key.ensures))

pub invariant_of-self-2 : goal.invariant_of-self-2
invariant_of-self-2 c =
    subst (λ es. AreTables (represented_table es)) (sym c.in_ok-insert.ensures.entries)
    (inserted_whole c.self.inside.tables.entries c.into_bytes.result c.in_ok-answers.answers (ap length c.in_ok-answers.ensures) c.self.invariant)

pub returns : goal.returns
returns c =
    subst (λ rows. Gains rows c.args.binary.now (first_answers c.args.policy.now) (represented_table c.insert.new.self.entries)) c.self.view_is
    (subst (λ es. Gains (represented_table c.self.inside.tables.entries) c.args.binary.now (first_answers c.args.policy.now) (represented_table es)) (sym c.in_ok-insert.ensures.entries)
    (gains c.self.inside.tables.entries c.into_bytes.result c.in_ok-answers.answers c.args.binary.now (first_answers c.args.policy.now) (sym c.if-contains_key.ensures) (c.into_bytes.ensures ∙ c.in_ok-of.ensures) c.in_ok-answers.ensures))
