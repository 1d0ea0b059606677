use Rattle.std.proofs.Common.{◌≡◌, ◌∙◌, ap, sym, rules, length, Some}
use Rattle.std.proofs.lemmas.Bool.{lt-leb}
use Rattle.std.specs.Option.{option_map}
use Rattle.std.proofs.lemmas.Result.{err_from_is_err_and}
use Rattle.st_effects.specs.NameTests.{object_at}
use Rattle.st_effects.specs.System as effects
use Rattle.st_tree.specs.Refusals.{IsObjectNumber}
use Rattle.st_exec_fs.specs.Open.{CanOpen}
use Rattle.st_request.specs.Outcome.{with_descriptors, with_tree}
use Rattle.st_exec_objects.specs.Walking.{object_made}
use Rattle.st_exec_fs.proofs.Opens.{found_at, no_link_at, not_opened, opened, passed}
use Rattle.st_model.specs.declared.limits.TheConstants.{MOST_OBJECTS}
use Rattle.st_exec_names.proofs.Allowed.{addable, place_free}
use Rattle.st_exec_objects.proofs.Objects.{found_made}
use Rattle.st_exec_fs.proofs.opening.may_open.Goals as goal

pub returns-in_err-may_open_object-in-Some-clause-outcome : goal.returns-in_err-may_open_object-in-Some-clause-outcome
returns-in_err-may_open_object-in-Some-clause-outcome c = λ system.
    let p = err_from_is_err_and c.from_residual-in_err-may_open_object-in-Some.result c.from_residual-in_err-may_open_object-in-Some.ensures.1 in
    let before = with_descriptors (with_tree system c.args.tree.now) c.args.fds.now in
    let object = object_made c.args.tree.now c.in-Some.obj in
    let place = c.in_ok-place.ensures.place in
    let found : object_at c.args.tree.now (effects.arg_name_at c.args.request.now 0) ≡ Some object =
    ap (object_at c.args.tree.now) (sym c.requires.name) ∙ found_at c.args.tree.now c.args.name.now c.in_ok-place.place.object place.object place.object_made ∙ ap (option_map (object_made c.args.tree.now)) c.in-Some.is in
    rw (p.1, p.2) (passed before c.args.request.now (Some object) (search rules) (search rules) (search rules) found ∙ not_opened before c.args.request.now object _ c.in_err-may_open_object-in-Some.ensures.refused)

pub returns-in_ok-may_open_object-in-Some-clause-outcome : goal.returns-in_ok-may_open_object-in-Some-clause-outcome
returns-in_ok-may_open_object-in-Some-clause-outcome c = λ system.
    let before = with_descriptors (with_tree system c.args.tree.now) c.args.fds.now in
    let object = object_made c.args.tree.now c.in-Some.obj in
    let place = c.in_ok-place.ensures.place in
    let found : object_at c.args.tree.now (effects.arg_name_at c.args.request.now 0) ≡ Some object =
    ap (object_at c.args.tree.now) (sym c.requires.name) ∙ found_at c.args.tree.now c.args.name.now c.in_ok-place.place.object place.object place.object_made ∙ ap (option_map (object_made c.args.tree.now)) c.in-Some.is in
    rw c.in-Some.is (passed before c.args.request.now (Some object) (search rules) (search rules) (search rules) found ∙ opened before c.args.request.now object c.in_ok-may_open_object-in-Some.ensures.refused)

pub returns-in_ok-may_open_object-in-Some-clause-object : goal.returns-in_ok-may_open_object-in-Some-clause-object
returns-in_ok-may_open_object-in-Some-clause-object c =
    let place = c.in_ok-place.ensures.place in
    let made : IsObjectNumber c.args.tree.now c.in-Some.obj = found_made c.args.tree.now c.in_ok-place.place.object c.in-Some.obj c.in-Some.is place.object_made in
    let can : CanOpen c.args.tree.now (effects.register c.args.request.now 1) c.in-Some.obj = record {
      made = made;
      no_link = no_link_at c.args.tree.now c.args.name.now c.in-Some.obj (sym c.in-Some.is ∙ place.object) made (c.requires.no_link c.in_ok-may_open_object-in-Some.ensures.exclusive);
      no_directory = c.in_ok-may_open_object-in-Some.ensures.no_directory;
    } in
    rw c.in-Some.is can

pub returns-in_ok-may_make-in-None-clause-may : goal.returns-in_ok-may_make-in-None-clause-may
returns-in_ok-may_make-in-None-clause-may c = λ none.
    addable c.args.tree.now c.args.name.now
    (place_free c.args.tree.now _ c.args.name.now (sym c.in_ok-place.ensures.refused) (sym c.in_ok-place.ensures.place.object ∙ none))
    (lt-leb MOST_OBJECTS (length c.args.tree.now.objects) c.in_ok-may_make-in-None.ensures.room)
