use Rattle.std.proofs.Common.{◌∙◌, ap, ℕ, List, Some, Ok, Err}
use Rattle.st_tree.specs.Objects.{dirs_of, is_dir_of}
use Rattle.st_tree.specs.Paths.{dir_entry}
use Rattle.st_tree.specs.Reached.{object_or_gap, gap_or_entry}
use Rattle.st_tree.proofs.Reasons.{is_taken, name_by, name_gap_before}
use Rattle.st_tree.proofs.places.taken_place.Goals as goal

pub returns-in-Err-clause-refused : goal.returns-in-Err-clause-refused
returns-in-Err-clause-refused c =
    ap Some c.errno.ensures ∙ name_gap_before c.args.objects.now c.requires.whole c.args.name.now c.in-Err.gap c.requires.named
    (c.in-Err.ensures.reached ∙ ap (object_or_gap c.args.objects.now 1) c.parent.ensures)

pub returns-in-Ok-step-clause-taken : goal.returns-in-Ok-step-clause-taken
returns-in-Ok-step-clause-taken c =
    is_taken c.args.objects.now c.requires.whole c.args.name.now c.in-Ok.holder c.in-Ok-step.obj c.requires.named
    (c.in-Ok.ensures.reached ∙ ap (object_or_gap c.args.objects.now 1) c.parent.ensures)
    c.in-Ok.ensures.number
    (c.in-Ok-step.ensures ∙ ap (λ (part : List ℕ). gap_or_entry (is_dir_of c.args.objects.now c.in-Ok.holder) (dir_entry (dirs_of c.args.objects.now) c.in-Ok.holder part)) c.last.ensures)

pub returns-in-Ok-step-clause-refused : goal.returns-in-Ok-step-clause-refused
returns-in-Ok-step-clause-refused c =
    name_by c.args.objects.now c.requires.whole c.args.name.now c.in-Ok.holder (Ok c.in-Ok-step.obj) c.requires.named
    (c.in-Ok.ensures.reached ∙ ap (object_or_gap c.args.objects.now 1) c.parent.ensures)
    (c.in-Ok-step.ensures ∙ ap (λ (part : List ℕ). gap_or_entry (is_dir_of c.args.objects.now c.in-Ok.holder) (dir_entry (dirs_of c.args.objects.now) c.in-Ok.holder part)) c.last.ensures)

pub returns-in-Err-step-clause-refused : goal.returns-in-Err-step-clause-refused
returns-in-Err-step-clause-refused c =
    ap Some c.errno-in-Err-step.ensures ∙ name_by c.args.objects.now c.requires.whole c.args.name.now c.in-Ok.holder (Err c.in-Err-step.gap) c.requires.named
    (c.in-Ok.ensures.reached ∙ ap (object_or_gap c.args.objects.now 1) c.parent.ensures)
    (c.in-Err-step.ensures ∙ ap (λ (part : List ℕ). gap_or_entry (is_dir_of c.args.objects.now c.in-Ok.holder) (dir_entry (dirs_of c.args.objects.now) c.in-Ok.holder part)) c.last.ensures)
