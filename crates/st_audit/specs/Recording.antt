-- What is recorded of a run while it goes on.
use Rattle.std.specs.Prelude.{◌≡◌, ℕ, Bool, true, false, List, reverse}
use Rattle.st_emulation.specs.declared.emulation.Emulation.{Emulation}
use Rattle.st_emulation.specs.declared.emulation.Emulation.TheVariants.{Native, Linux}
use Rattle.st_law.specs.declared.input.Input.{Input}
use Rattle.st_trace.specs.declared.entry.Entry.{Entry}
use Rattle.st_audit.specs.declared.audit.AuditRecorder.{AuditRecorder}
use Rattle.st_audit.specs.Ledger.{IsLedger}
use Rattle.st_audit.specs.FromHistory.{audit_from_history}

-- the emulation of Linux, or the native one
abbrev pub emulation_by : Bool → Emulation
emulation_by true = Linux
emulation_by false = Native

-- what an audit records of a trace of numbers: its text is that of these entries, by the names of an emulation, and its ledger is that of
-- their history
pub record IsAuditOf {linux : ℕ} (recorder : AuditRecorder linux) (i : Input) (trace : List Entry) (emulation : Emulation) : Type 0 where
  pub text : recorder.text ≡ audit_from_history i trace emulation
  pub kept : IsLedger i recorder.ledger (reverse trace)
