-- Binding sockets: the errors in their order, and that what is open stays real.
use Rattle.std.proofs.Common.{◌≡◌, ◌∙◌, refl, sym, ap, ℕ, Bool, [], ◌∷◌, Option, Some, None, Err, IfSome}
use Rattle.std.proofs.lemmas.List.Elements.{All-set}
use Rattle.st_base.specs.Errno.{first_error}
use Rattle.st_base.specs.declared.errno.Errno.{Errno}
use Rattle.st_model.specs.DescriptorCalls.{bind_refused, table_after_bind, table_unless_refused, with_changed_file, with_changed_file_at, with_port}
use Rattle.st_model.specs.Descriptors.{Table, file_at, file_number_at}
use Rattle.st_model.specs.Tree.{Tree}
use Rattle.st_model.specs.declared.open_file.FileKind.{FileKind}
use Rattle.st_model.specs.declared.open_file.FileKind.TheVariants.{Console, Node, Socket}
use Rattle.st_model.specs.declared.open_file.OpenFile.{OpenFile}
use Rattle.st_effects.specs.Sockets.{bind_outcome}
use Rattle.st_effects.specs.System.{System, Request, Outcome, arg_text_at, failure, register, success_with_table, unless_error}
use Rattle.st_fds.specs.Calls.{result_of_refusal}
use Rattle.st_trace.specs.declared.entry.CallResult.TheVariants.{Failed}
use Rattle.st_request.specs.declared.outcome.Outcome as given
use Rattle.st_request.specs.Outcome.{outcome_of, with_descriptors}
use Rattle.st_request.proofs.Outcomes.{failed}
use Rattle.st_request.specs.Ready.{AreValidOpenFiles, IsValidOpenFile, IsValidFileKind}
use Rattle.st_request.proofs.Real.{of_descriptor}
use Rattle.st_exec_sys.specs.Sockets.{low_bind_refused}
use Rattle.st_effects.specs.Sockets.{port_in}

-- ---- the errors in their order

low_first : (a b c : Option Errno) (errno : Errno) → Some errno ≡ first_error (a ∷ b ∷ []) → first_error (a ∷ b ∷ c ∷ []) ≡ Some errno
low_first (Some e) b c errno is = sym is
low_first None (Some e) c errno is = sym is
low_first None None c errno is = cc

alone : (c : Option Errno) → first_error (c ∷ []) ≡ c
alone None = refl
alone (Some e) = refl

taken_last : (a b c : Option Errno) → None ≡ first_error (a ∷ b ∷ []) → first_error (a ∷ b ∷ c ∷ []) ≡ c
taken_last (Some e) b c is = cc
taken_last None (Some e) c is = cc
taken_last None None c is = alone c

refused_by : (reason : Option Errno) (errno : Errno) → Err errno ≡ result_of_refusal reason → reason ≡ Some errno
refused_by None errno e = cc
refused_by (Some other) errno e = cc

module _ (system : System) (request : Request) (table : Table) (port : ℕ) (port_is : port ≡ port_in (arg_text_at request 0)) where
  -- the outcome of bind(2), unless there is an error
  abbrev unless : Option Errno → Outcome
  unless reason = unless_error (with_descriptors system table) reason (success_with_table 0 [] (table_after_bind table request.pid (register request 0) (port_in (arg_text_at request 0))))

  -- a bind that isn't tried
  pub not_bound : (errno : Errno) → Some errno ≡ low_bind_refused table request port → bind_outcome (with_descriptors system table) request ≡ failure (with_descriptors system table) errno
  not_bound errno is = ap unless (low_first _ _ (bind_refused table request.pid (register request 0) (port_in (arg_text_at request 0))) errno (is ∙ ap (low_bind_refused table request) port_is))

  -- a bind that is tried
  pub tried : None ≡ low_bind_refused table request port → bind_outcome (with_descriptors system table) request
      ≡ unless_error (with_descriptors system table) (bind_refused table request.pid (register request 0) port) (success_with_table 0 [] (table_after_bind table request.pid (register request 0) port))
  tried is =
      ap unless (taken_last _ _ (bind_refused table request.pid (register request 0) (port_in (arg_text_at request 0))) (is ∙ ap (low_bind_refused table request) port_is))
      ∙ ap (λ (p : ℕ). unless_error (with_descriptors system table) (bind_refused table request.pid (register request 0) p) (success_with_table 0 [] (table_after_bind table request.pid (register request 0) p))) (sym port_is)

  -- a bind that is tried and fails
  pub bind_failed : (given : given.Outcome) (new : Table) (pid fd : ℕ) (errno : Errno) → pid ≡ request.pid → fd ≡ register request 0 → None ≡ low_bind_refused table request port
      → Err errno ≡ result_of_refusal (bind_refused table pid fd port) → new ≡ table_after_bind table pid fd port → given.result ≡ Failed errno → given.changes ≡ []
      → outcome_of given new ≡ bind_outcome (with_descriptors system table) request
  bind_failed given new pid fd errno pid_is fd_is passed answer table_is result changes =
      let reason : bind_refused table pid fd port ≡ Some errno = refused_by (bind_refused table pid fd port) errno answer in
      let reason_is : bind_refused table request.pid (register request 0) port ≡ Some errno =
      ap (λ (p : ℕ). bind_refused table p (register request 0) port) (sym pid_is) ∙ ap (λ (f : ℕ). bind_refused table pid f port) (sym fd_is) ∙ reason in
      let same : new ≡ table = table_is ∙ ap (λ (r : Option Errno). table_unless_refused r table (with_changed_file table pid fd (λ file. record file { kind = with_port port file.kind }))) reason in
      ap (outcome_of given) same ∙ failed given (with_descriptors system table) errno result changes
      ∙ sym (tried passed ∙ ap (λ (r : Option Errno). unless_error (with_descriptors system table) r (success_with_table 0 [] (table_after_bind table request.pid (register request 0) port))) reason_is)

-- ---- what is open stays real

real_with_port : (tree : Tree) (port : ℕ) (is_written : Bool) (kind : FileKind) → IsValidFileKind tree is_written kind → IsValidFileKind tree is_written (with_port port kind)
real_with_port tree port is_written Console is = tt
real_with_port tree port is_written (Node obj) is = is
real_with_port tree port is_written (Socket before connected) is = tt

bound_by : (tree : Tree) (table : Table) (port : ℕ) (reason : Option Errno) (number : Option ℕ) (file : Option OpenFile) → AreValidOpenFiles tree table → IfSome file (IsValidOpenFile tree)
    → AreValidOpenFiles tree (table_unless_refused reason table (with_changed_file_at table number file (λ file. record file { kind = with_port port file.kind })))
bound_by tree table port (Some errno) number file real is = real
bound_by tree table port None number None real is = real
bound_by tree table port None None (Some file) real is = real
bound_by tree table port None (Some n) (Some file) real is =
    All-set (IsValidOpenFile tree) table.files n (record file { kind = with_port port file.kind }) (real_with_port tree port file.write file.kind is) real

-- a socket that is bound
pub bound_real : (tree : Tree) (table : Table) (pid fd port : ℕ) → AreValidOpenFiles tree table → AreValidOpenFiles tree (table_after_bind table pid fd port)
bound_real tree table pid fd port real = bound_by tree table port (bind_refused table pid fd port) (file_number_at table pid fd) (file_at table pid fd) real (of_descriptor tree table pid fd real)
