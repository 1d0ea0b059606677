use Rattle.std.proofs.Common.{◌≡◌, ◌∙◌, [], ◌∷◌, Some, ap, sym, subst}
use Rattle.st_model.specs.Descriptors.{Table}
use Rattle.st_model.specs.DescriptorCalls.{dup_refused, table_after_dup}
use Rattle.st_effects.specs.Descriptors.{next_descriptor}
use Rattle.st_effects.specs.System as effects
use Rattle.st_request.specs.Ready.{AreValidOpenFiles}
use Rattle.st_request.specs.Outcome.{with_descriptors}
use Rattle.st_exec_fds.proofs.Duplicates.{failed, refused}
use Rattle.st_exec_fds.proofs.descriptors.dup.Goals.{After-failure}
use Rattle.st_exec_fds.proofs.descriptors.dup.Goals as goal

refusal : (c : After-failure) → (dup_refused c.args.fds.now c.request.inside.pid c.register.result ≡ Some c.in-Err-Os.errno) × (c.dup.new.self ≡ c.args.fds.now)
refusal c =
    let r = refused c.args.fds.now c.request.inside.pid c.register.result c.in-Err-Os.field-0 c.in-Err-Os.errno c.in-Err-Os.ensures.answer c.in-Err-Os.field-0-is in
    (r.0, c.dup.ensures.table ∙ r.1)

pub returns-in-Err-Os-clause-outcome : goal.returns-in-Err-Os-clause-outcome
returns-in-Err-Os-clause-outcome c = λ system.
    let before = with_descriptors system c.args.fds.now in
    let request = c.args.request.now in
    let table = c.args.fds.now in
    let made = effects.success_with_table (next_descriptor before request) [] (table_after_dup table request.pid (effects.register request 0)) in
    let reason : dup_refused table request.pid (effects.register request 0) ≡ Some c.in-Err-Os.errno =
    ap (λ fd. dup_refused table request.pid fd) (sym c.register.ensures) ∙ ap (λ (r : effects.Request). dup_refused table r.pid c.register.result) (sym c.request.view_is) ∙ (refusal c).0 in
    failed before c.in-Err-Os.errno c.failure.result c.dup.new.self c.failure.ensures.result c.failure.ensures.changes (refusal c).1
    ∙ sym (ap (λ reason. effects.unless_refused before (reason ∷ []) made) reason)

pub returns-in-Err-Os-clause-real : goal.returns-in-Err-Os-clause-real
returns-in-Err-Os-clause-real c = λ tree real. subst (λ (t : Table). AreValidOpenFiles tree t) (sym (refusal c).1) real
