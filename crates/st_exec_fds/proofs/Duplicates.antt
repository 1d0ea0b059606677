-- When dup(2) is refused.
use Rattle.std.proofs.Common.{◌≡◌, ℕ, [], Option, Some, None, refl, ap, sym, ◌∙◌}
use Rattle.std.specs.declared.result.Result.TheVariants.{Err}
use Rattle.st_base.specs.declared.errno.Errno.{Errno}
use Rattle.st_model.specs.Descriptors.{Table, file_at, file_number_at, least_free}
use Rattle.st_model.specs.DescriptorCalls.{dup_refused, dup_refused_at, table_after_dup, table_after_dup_at}
use Rattle.st_model.specs.declared.open_file.OpenFile.{OpenFile}
use Rattle.st_trace.specs.declared.entry.CallResult.TheVariants.{Failed}
use Rattle.st_effects.specs.System as effects
use Rattle.st_request.specs.Outcome.{outcome_of}
use Rattle.st_request.specs.declared.outcome.Outcome.{Outcome}
use Rattle.st_fds.specs.Calls.{dup_result, dup_result_at}
use Rattle.st_fds.specs.declared.fds.FdFault.{FdFault}
use Rattle.st_fds.specs.declared.fds.FdFault.TheVariants.{Os}

refused_by : (t : Table) (pid : ℕ) (number : Option ℕ) (file : Option OpenFile) (least : Option ℕ) (errno : Errno) → Err (Os errno) ≡ dup_result_at file least
    → (dup_refused_at file least ≡ Some errno) × (table_after_dup_at t pid number file least ≡ t)
refused_by t pid number None least errno answer = (cc, refl)
refused_by t pid number (Some file) None errno answer = (cc, refl)
refused_by t pid number (Some file) (Some fd) errno answer = absurd (cc)

-- the outcome of a call that fails
pub failed : (system : effects.System) (errno : Errno) (outcome : Outcome) (descriptors : Table)
    → outcome.result ≡ Failed errno → outcome.changes ≡ [] → descriptors ≡ system.descriptors → outcome_of outcome descriptors ≡ effects.failure system errno
failed system errno outcome descriptors result changes kept = λ i. record { result = result i; changes = changes i; descriptors = kept i }

-- dup(2) is refused with the error that it returns, and changes nothing
pub refused : (t : Table) (pid fd : ℕ) (fault : FdFault) (errno : Errno) → Err fault ≡ dup_result t pid fd → fault ≡ Os errno → (dup_refused t pid fd ≡ Some errno) × (table_after_dup t pid fd ≡ t)
refused t pid fd fault errno answer is = refused_by t pid (file_number_at t pid fd) (file_at t pid fd) (least_free t pid) errno (ap Err (sym is) ∙ answer)
