use Rattle.st_audit.proofs.audit.AuditRecorder.new.Goals as goal

pub returns : goal.returns
returns g c = λ i. record { text = c.new-2.ensures; kept = c.new.ensures i }
