use Rattle.std.proofs.Common.{◌≡◌, ◌∙◌, ℕ, List, reverse}
use Rattle.std.proofs.lemmas.Result.{IfOk-weaker}
use Rattle.st_law.specs.History.{looking_back}
use Rattle.st_learn.specs.Learnt.{learnt_policies}
use Rattle.st_learn.specs.SessionIn.{IsSessionIn}
use Rattle.st_learn.specs.Sessions.{version_of}
use Rattle.st_printing.specs.Canon.{canon}
use Rattle.st_trace.specs.declared.entry.Entry.{Entry}
use Rattle.st_audit.specs.PolicyText.{policy_text}
use Rattle.st_audit.proofs.policies.policies_text.Goals as goal

pub returns : goal.returns
returns c =
    let i = c.args.input.now in
    let session = c.args.session.now in
    IfOk-weaker c.print_learnt.result (λ text. text ≡ canon (learnt_policies i.policies (version_of session.reloads) session.changed session.filters) c.args.emulation) (λ text. (trace : List Entry) → IsSessionIn (looking_back i (reverse trace)) session → text ≡ policy_text i trace c.args.emulation)
    (λ text is trace (kept : IsSessionIn (looking_back i (reverse trace)) session). is ∙ (λ k. canon (learnt_policies i.policies (λ (binary : List ℕ). kept.versions binary k) (kept.changed k) (kept.filters k)) c.args.emulation))
    c.print_learnt.ensures
