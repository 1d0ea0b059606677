use Rattle.std.proofs.Common.{◌∙◌, ◌++◌, ap, cond, subst, sym}
use Rattle.std.specs.Str.{bytes_eq}
use Rattle.st_compile.specs.Answers.{AreAnswersBy, AreAnswersUnder, with_policy_filters}
use Rattle.st_filter.specs.Policies.{filters_of, with_binary}
use Rattle.st_law.specs.Sessions.{session_filters}
use Rattle.st_learn.specs.Answers.{Answers}
use Rattle.st_learn.specs.Operator.{Added}
use Rattle.st_learn.specs.Sessions.{version_of}
use Rattle.st_learn.proofs.InForce.{answers_reload, same_block}
use Rattle.st_learn.proofs.Replies.{is_reloaded}
use Rattle.st_learn.proofs.operator.Operator.reload.Goals as goal

pub returns-clause-law : goal.returns-clause-law
returns-clause-law c = λ input st t changes is are.
    let block = c.in-Some.block.now in
    let policies = ap (λ (a : Answers). a.policies) c.answering.view_is in
    let own = ap (λ (a : Answers). a.own) c.answering.view_is in
    let there = same_block c.policies.result.now input.policies c.args.version block (sym are.policies ∙ sym policies ∙ sym c.policies.ensures) c.in-Some.ensures.some in
    let filters = ap (λ (a : Added). a.filters) c.self.view_is in (
      is_reloaded input st c.args.self.now is t c.args.version changes block _ there
          (c.put_in_force.ensures.filters ∙ c.reserve_reload.ensures.filters ∙ filters)
          (c.put_in_force.ensures.changed ∙ c.in_ok-place.ensures.changed ∙ (λ k. with_binary ((ap (λ (a : Added). a.changed) c.self.view_is) k) (c.bytes-binary.ensures k)))
          (λ other.
          c.put_in_force.ensures.versions c.bytes-binary.result.now c.in_ok-place.ensures.room other
          ∙ (λ k. cond (bytes_eq (c.bytes-binary.ensures k) other) c.args.version ((c.reserve_reload.ensures.versions other ∙ ap (λ (a : Added). version_of a.reloads other) c.self.view_is) k)))
          (ap (λ (a : Added). a.replies) c.self.view_is) (ap (λ (a : Added). a.left) c.self.view_is),
      answers_reload input st t c.args.version changes block there c.args.answering.now _ policies
          (λ fs under.
          subst (λ binary. AreAnswersUnder (with_policy_filters fs binary (λ rule. filters_of rule block.filters ++ session_filters st.session block.binary rule)) c.reload.new.self) c.bytes-binary.ensures
          (c.reload.ensures fs c.bytes-binary.result.now (λ rule. filters_of rule block.filters ++ session_filters st.session block.binary rule) c.in_ok-row.ensures.row
          (subst (λ session. AreAnswersBy (λ rule. filters_of rule block.filters ++ session_filters session block.binary rule) c.in_ok-answers.answers) (filters ∙ sym is.session) c.in_ok-answers.ensures)
          (λ binary rule. c.make_row.ensures.kept binary rule ∙ subst (AreAnswersUnder fs) (sym own) under binary rule)))
          are,
    )
