use Rattle.std.proofs.Common.{◌∙◌, ap, sym, true, false, [], ◌∷◌, Option, Some, None}
use Rattle.std.proofs.lemmas.Result.{err_from_is_err_and}
use Rattle.st_base.specs.Errno.{first_error}
use Rattle.st_base.specs.declared.errno.Errno.{Errno}
use Rattle.st_trace.specs.declared.entry.Change.TheVariants.{Removed, Renamed}
use Rattle.st_effects.specs.NameTests.{parent_not_writable}
use Rattle.st_effects.specs.System.{Request, success, unless_error}
use Rattle.st_exec_names.proofs.Renamed.{none_left, found_movable, found_outcome, free_after, free_taken, other_taken, passed_before, refused_before, replace_errors, same_taken, swapped}
use Rattle.st_exec_names.proofs.renaming.may_move.Goals as goal

pub returns-in_default-clause-may : goal.returns-in_default-clause-may
returns-in_default-clause-may c =
    found_movable c.args.tree.now _ c.args.old.now c.args.new.now c.in_ok-both.both None c.in_ok-both.ensures.found (none_left c.in_ok-both.both.to.object c.in_default.not-Some) (free_taken c.args.tree.now c.in_ok-both.both.obj)

pub returns-in_default-clause-tree : goal.returns-in_default-clause-tree
returns-in_default-clause-tree c =
    let found = c.in_ok-both.ensures.found in
    free_after c.args.tree.now c.args.old.now c.args.new.now c.in_ok-both.both.obj (sym found.from.object ∙ found.object) (sym found.to.object ∙ none_left c.in_ok-both.both.to.object c.in_default.not-Some)

pub returns-then-is_same-clause-outcome : goal.returns-then-is_same-clause-outcome
returns-then-is_same-clause-outcome c = λ system. found_outcome system c.args.request.now c.args.tree.now c.args.old.now c.args.new.now c.in_ok-both.both c.in-Some.other true c.requires.old c.requires.new c.in_ok-both.ensures.found c.in-Some.is (sym c.is_same.ensures ∙ c.if-is_same.true)

pub returns-then-is_same-clause-may : goal.returns-then-is_same-clause-may
returns-then-is_same-clause-may c =
    found_movable c.args.tree.now _ c.args.old.now c.args.new.now c.in_ok-both.both (Some c.in-Some.other) c.in_ok-both.ensures.found c.in-Some.is
    (same_taken c.args.tree.now c.in_ok-both.both.obj c.in-Some.other (swapped c.in_ok-both.both.obj c.in-Some.other true (sym c.if-is_same.true ∙ c.is_same.ensures)))

pub returns-in_err-may_write_holders-2-clause-outcome : goal.returns-in_err-may_write_holders-2-clause-outcome
returns-in_err-may_write_holders-2-clause-outcome c =
    let p = err_from_is_err_and c.from_residual-in_err-may_write_holders-2.result c.from_residual-in_err-may_write_holders-2.ensures.1 in
    let ids = ap (λ (r : Request). first_error (parent_not_writable c.args.tree.now r.ids c.args.old.now ∷ parent_not_writable c.args.tree.now r.ids c.args.new.now ∷ [])) c.request.view_is in
    rw (p.1, p.2) (λ system. found_outcome system c.args.request.now c.args.tree.now c.args.old.now c.args.new.now c.in_ok-both.both c.in-Some.other false c.requires.old c.requires.new c.in_ok-both.ensures.found c.in-Some.is (sym c.is_same.ensures ∙ c.if-is_same.false)
    ∙ refused_before system _ _ (replace_errors c.args.tree.now c.in_ok-both.both.obj c.in-Some.other) (success system 0 (Removed c.args.new.now ∷ Renamed c.args.old.now c.args.new.now ∷ [])) _
    (c.in_err-may_write_holders-2.ensures c.args.old.now c.args.new.now c.in_ok-both.ensures.found.from c.in_ok-both.ensures.found.to ∙ ids))

pub returns-in_err-may_replace-clause-outcome : goal.returns-in_err-may_replace-clause-outcome
returns-in_err-may_replace-clause-outcome c =
    let p = err_from_is_err_and c.from_residual-in_err-may_replace.result c.from_residual-in_err-may_replace.ensures.1 in
    let ids = ap (λ (r : Request). first_error (parent_not_writable c.args.tree.now r.ids c.args.old.now ∷ parent_not_writable c.args.tree.now r.ids c.args.new.now ∷ [])) c.request.view_is in
    rw (p.1, p.2) (λ system. found_outcome system c.args.request.now c.args.tree.now c.args.old.now c.args.new.now c.in_ok-both.both c.in-Some.other false c.requires.old c.requires.new c.in_ok-both.ensures.found c.in-Some.is (sym c.is_same.ensures ∙ c.if-is_same.false)
    ∙ passed_before system (parent_not_writable c.args.tree.now c.args.request.now.ids c.args.old.now) (parent_not_writable c.args.tree.now c.args.request.now.ids c.args.new.now) (replace_errors c.args.tree.now c.in_ok-both.both.obj c.in-Some.other) (success system 0 (Removed c.args.new.now ∷ Renamed c.args.old.now c.args.new.now ∷ []))
    (c.in_ok-may_write_holders-2.ensures c.args.old.now c.args.new.now c.in_ok-both.ensures.found.from c.in_ok-both.ensures.found.to ∙ ids)
    ∙ ap (λ (error : Option Errno). unless_error system error (success system 0 (Removed c.args.new.now ∷ Renamed c.args.old.now c.args.new.now ∷ []))) (sym c.in_err-may_replace.ensures.refused))

pub returns-clause-outcome : goal.returns-clause-outcome
returns-clause-outcome c =
    let ids = ap (λ (r : Request). first_error (parent_not_writable c.args.tree.now r.ids c.args.old.now ∷ parent_not_writable c.args.tree.now r.ids c.args.new.now ∷ [])) c.request.view_is in
    λ system. found_outcome system c.args.request.now c.args.tree.now c.args.old.now c.args.new.now c.in_ok-both.both c.in-Some.other false c.requires.old c.requires.new c.in_ok-both.ensures.found c.in-Some.is (sym c.is_same.ensures ∙ c.if-is_same.false)
    ∙ passed_before system (parent_not_writable c.args.tree.now c.args.request.now.ids c.args.old.now) (parent_not_writable c.args.tree.now c.args.request.now.ids c.args.new.now) (replace_errors c.args.tree.now c.in_ok-both.both.obj c.in-Some.other) (success system 0 (Removed c.args.new.now ∷ Renamed c.args.old.now c.args.new.now ∷ []))
    (c.in_ok-may_write_holders-2.ensures c.args.old.now c.args.new.now c.in_ok-both.ensures.found.from c.in_ok-both.ensures.found.to ∙ ids)
    ∙ ap (λ (error : Option Errno). unless_error system error (success system 0 (Removed c.args.new.now ∷ Renamed c.args.old.now c.args.new.now ∷ []))) (sym c.in_ok-may_replace.ensures.refused)

pub returns-clause-may : goal.returns-clause-may
returns-clause-may c =
    found_movable c.args.tree.now _ c.args.old.now c.args.new.now c.in_ok-both.both (Some c.in-Some.other) c.in_ok-both.ensures.found c.in-Some.is
    (other_taken c.args.tree.now c.in_ok-both.both.obj c.in-Some.other (swapped c.in_ok-both.both.obj c.in-Some.other false (sym c.if-is_same.false ∙ c.is_same.ensures)) c.in_ok-may_replace.ensures.may)
