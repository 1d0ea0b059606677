use Rattle.std.proofs.Common.{◌∙◌}
use Rattle.st_audit.proofs.Answered.{audit_same}
use Rattle.st_audit.proofs.audit.AuditRecorder.into_text.Goals as goal

pub returns-clause-audit : goal.returns-clause-audit
returns-clause-audit g c = λ i trace is startable x. is.text ∙ audit_same i startable _ trace x.lawful
