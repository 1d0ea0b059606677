use Rattle.std.proofs.Common.{◌≡◌, ◌∙◌, sym, rules, Some}
use Rattle.st_model.specs.Descriptors.{least_free}
use Rattle.st_model.specs.DescriptorCalls.{table_after_open}
use Rattle.st_effects.specs.Descriptors.{is_for_writing, open_file_of}
use Rattle.st_effects.specs.System as effects
use Rattle.st_exec_fs.specs.Open.{opened_object}
use Rattle.st_request.specs.Ready.{IsOpenable}
use Rattle.st_exec_fs.proofs.Opens.{given, had_memory, real_then}
use Rattle.st_exec_fs.proofs.opening.open.Goals.{Else-is_err}
use Rattle.st_exec_fs.proofs.opening.open.Goals as goal

table : (c : Else-is_err) → c.open.new.self ≡ table_after_open c.args.fds.now c.args.request.now.pid (open_file_of (opened_object c.args.tree.now c.in-Ok.found) (effects.register c.args.request.now 1))
table c = search rules

free : (c : Else-is_err) → least_free c.args.fds.now c.args.request.now.pid ≡ Some c.in-Ok-open.fd
free c = search rules

openable : (c : Else-is_err) → IsOpenable c.change_tree-opened.new.tree (is_for_writing (effects.register c.args.request.now 1)) (opened_object c.args.tree.now c.in-Ok.found)
openable c = had_memory c.change_tree-opened.result _ (sym c.is_err.ensures.value ∙ c.if-is_err.false) c.change_tree-opened.ensures.opened

pub returns-else-is_err-clause-outcome : goal.returns-else-is_err-clause-outcome
returns-else-is_err-clause-outcome c =
    given c.args.tree.now c.args.fds.now c.args.request.now c.in-Ok.found c.in-Ok-open.fd c.open.new.self c.change_tree-opened.result c.in-Ok.ensures.outcome
    (free c) (table c) (search rules) c.change_tree-opened.ensures.changes

pub returns-else-is_err-clause-real : goal.returns-else-is_err-clause-real
returns-else-is_err-clause-real c = λ real.
    real_then c.args.tree.now c.change_tree-opened.new.tree c.args.fds.now c.open.new.self c.args.request.now.pid (opened_object c.args.tree.now c.in-Ok.found) (effects.register c.args.request.now 1)
    c.change_tree-opened.ensures.objects (table c) (openable c) real
