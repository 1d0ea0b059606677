-- What open(2) returns, test by test.
use Rattle.std.proofs.Common.{◌≡◌, ◌∙◌, ap, refl, sym, subst, ℕ, ◌==◌, ◌&&◌, false, not, List, [], ◌∷◌, Option, Some, None, IfSome}
use Rattle.std.specs.Option.{option_map, unwrap_or}
use Rattle.std.specs.Prelude.{IfOk, OnOk, Result, Ok, Err}
use Rattle.std.specs.Result.{is_err}
use Rattle.std.specs.declared.alloc.AllocError.{AllocError}
use Rattle.st_base.specs.Errno.{error_if, first_error}
use Rattle.st_base.specs.declared.errno.Errno.{Errno}
use Rattle.st_base.specs.declared.errno.Errno.TheVariants.{EACCES, EEXIST, EISDIR}
use Rattle.st_names.specs.Name.{Components}
use Rattle.st_calls.specs.Call.{has_flag}
use Rattle.st_calls.specs.declared.flags.TheConstants.{O_CREAT, O_EXCL}
use Rattle.st_model.specs.Descriptors.{Table, least_free}
use Rattle.st_model.specs.DescriptorCalls.{open_refused, table_after_open}
use Rattle.st_model.specs.Tree.{Tree, Node, is_directory, node_at, node_with_number, object_of}
use Rattle.st_tree.specs.Refusals.{IsObjectNumber}
use Rattle.st_effects.specs.Descriptors.{access_of, is_for_writing, may_open, next_descriptor, open_file_of, open_node_outcome, open_object_outcome, open_outcome, truncation}
use Rattle.st_effects.specs.NameTests.{Object, object_at, object_numbered, object_with, walk_error}
use Rattle.st_effects.specs.Names.{is_link}
use Rattle.st_effects.specs.System as effects
use Rattle.st_exec_fs.specs.Open.{is_changing, open_changes, opened_object, opened_outcome, IsNoLink}
use Rattle.st_request.specs.Ready.{IsOpenable, AreValidOpenFiles, KeepsObjects}
use Rattle.st_request.specs.Outcome.{outcome_of, with_descriptors, with_tree}
use Rattle.st_request.specs.declared.outcome.Outcome.{Outcome}
use Rattle.st_trace.specs.declared.entry.CallResult.TheVariants.{Value}
use Rattle.st_exec_objects.specs.Walking.{object_made}
use Rattle.st_exec_objects.proofs.Objects.{numbered}
use Rattle.st_request.proofs.Real.{kept_objects, more}

-- what a name has, by what a walk to it found
pub found_at : (tree : Tree) (name : Components) (found : Option ℕ) → found ≡ object_of tree name → IfSome found (IsObjectNumber tree) → object_at tree name ≡ option_map (object_made tree) found
found_at tree name None is made = ap (object_numbered tree) (sym is)
found_at tree name (Some obj) is made = ap (object_numbered tree) (sym is) ∙ ap (object_with obj) (numbered tree obj made)

-- the flags ask for an access, a descriptor is free, and a walk reaches the name
pub passed : (system : effects.System) (request : effects.Request) (found : Option Object) → (access_of (effects.register request 1) == 3) ≡ false → open_refused system.descriptors request.pid ≡ None
    → walk_error system.tree request.ids (effects.arg_name_at request 0) ≡ None → object_at system.tree (effects.arg_name_at request 0) ≡ found → open_outcome system request ≡ open_node_outcome system request found
passed system request found flags free walks is = rw (flags, free, walks, is) refl

module _ (system : effects.System) (request : effects.Request) (object : Object) where
  abbrev pub reasons : List (Option Errno)
  reasons =
      let flags = effects.register request 1 in
      error_if (has_flag flags O_CREAT && has_flag flags O_EXCL) EEXIST ∷
      error_if (is_directory object.node.kind && is_changing flags) EISDIR ∷
      error_if (not (may_open object.node request.ids flags)) EACCES ∷ []

  -- an object isn't opened, and then one that is
  pub not_opened : (errno : Errno) → Some errno ≡ first_error reasons → open_node_outcome system request (Some object) ≡ effects.failure system errno
  not_opened errno reason = ap (λ reason. effects.unless_error system reason (open_object_outcome system request object.number (truncation object.number (effects.register request 1)))) (sym reason)

  pub opened : None ≡ first_error reasons → open_node_outcome system request (Some object) ≡ open_object_outcome system request object.number (truncation object.number (effects.register request 1))
  opened reason = ap (λ reason. effects.unless_error system reason (open_object_outcome system request object.number (truncation object.number (effects.register request 1)))) (sym reason)

-- an object whose name isn't that of a link
pub no_link_at : (tree : Tree) (name : Components) (obj : ℕ) → Some obj ≡ object_of tree name → IsObjectNumber tree obj → IsNoLink tree name → is_link (node_with_number tree obj).kind ≡ false
no_link_at tree name obj is made no_link =
    let P : Option Node → Type 0 = λ found. IfSome found (λ node. is_link node.kind ≡ false) in
    subst P (ap (node_at tree) (sym is) ∙ numbered tree obj made) no_link

-- ---- what is known after the descriptor is given and the tree is changed

module _ (tree : Tree) (table : Table) (request : effects.Request) (found : Option ℕ) (fd : ℕ) (after : Table) where
  given_by : (outcome : Outcome) → ((system : effects.System) → let before = with_descriptors (with_tree system tree) table in open_outcome before request ≡ opened_outcome before request found) → least_free table request.pid ≡ Some fd
      → after ≡ table_after_open table request.pid (open_file_of (opened_object tree found) (effects.register request 1)) → outcome.result ≡ Value fd → outcome.changes ≡ open_changes tree request found
      → (system : effects.System) → outcome_of outcome after ≡ open_outcome (with_descriptors (with_tree system tree) table) request
  given_by outcome is free now result changes system =
      let before = with_descriptors (with_tree system tree) table in
      let value : outcome.result ≡ Value (next_descriptor before request) = result ∙ ap (λ (least : Option ℕ). Value (unwrap_or least 0)) (sym free) in
      let whole : outcome_of outcome after ≡ opened_outcome before request found = λ i. record { result = value i; changes = changes i; descriptors = now i } in
      whole ∙ sym (is system)

  -- the outcome of a call that wasn't refused
  pub given : (result : Result Outcome AllocError) → ((system : effects.System) → let before = with_descriptors (with_tree system tree) table in open_outcome before request ≡ opened_outcome before request found) → least_free table request.pid ≡ Some fd
      → after ≡ table_after_open table request.pid (open_file_of (opened_object tree found) (effects.register request 1)) → IfOk result (λ outcome. outcome.result ≡ Value fd) → IfOk result (λ outcome. outcome.changes ≡ open_changes tree request found)
      → IfOk result (λ outcome. (system : effects.System) → outcome_of outcome after ≡ open_outcome (with_descriptors (with_tree system tree) table) request)
  given (Ok outcome) is free now value changes = given_by outcome is free now value changes
  given (Err error) is free now value changes = tt

-- the open files are real afterwards
pub real_then : (old new : Tree) (table after : Table) (pid obj flags : ℕ) → KeepsObjects old new → after ≡ table_after_open table pid (open_file_of obj flags) → IsOpenable new (is_for_writing flags) obj → AreValidOpenFiles old table → AreValidOpenFiles new after
real_then old new table after pid obj flags keeps now is real =
    subst (λ (t : Table). AreValidOpenFiles new t) (sym now) (more new table pid (open_file_of obj flags) (kept_objects old new table keeps real) is)

-- a call that didn't run out of memory
pub had_memory : (result : Result Outcome AllocError) (P : Type 0) → is_err result ≡ false → OnOk result P → P
had_memory (Ok outcome) P is holds = holds
had_memory (Err error) P is holds = absurd (cc)
