use Rattle.std.proofs.Common.{◌∙◌, ◌<◌, ap, sym, ℕ, List, Some, length}
use Rattle.std.specs.Prelude.{is_some}
use Rattle.std.proofs.lemmas.Bool.{true≢false}
use Rattle.st_names.specs.Name.{parent}
use Rattle.st_model.specs.Tree.{object_of}
use Rattle.st_tree.specs.Objects.{dirs_of, tree_of}
use Rattle.st_tree.specs.Paths.{dir_entry}
use Rattle.st_tree.proofs.Reasons.{directory_led, is_free, named_from, object_in, place_free, place_gap, place_taken}
use Rattle.st_tree.proofs.places.free_place.Goals as goal

pub returns-in-Err-clause-refused : goal.returns-in-Err-clause-refused
returns-in-Err-clause-refused c = ap Some c.errno.ensures ∙ place_gap c.args.objects.now c.requires c.args.name.now c.in-Err.gap c.in-Err.ensures.reached

pub returns-then-is_root-clause-refused : goal.returns-then-is_root-clause-refused
returns-then-is_root-clause-refused c =
    place_taken c.args.objects.now c.requires c.args.name.now c.in-Ok.holder c.in-Ok.ensures.reached
    (ap (λ name. is_some (object_of (tree_of c.args.objects.now) name)) (c.is_root.ensures.0 c.if-is_root.true))

pub returns-in-Some-clause-refused : goal.returns-in-Some-clause-refused
returns-in-Some-clause-refused c =
    let named : 0 < length c.args.name.now = named_from c.args.name.now (λ e. true≢false (sym (c.if-is_root.ensures.1 e))) in
    let led = directory_led c.args.objects.now c.requires (parent c.args.name.now) c.in-Ok.holder c.in-Ok.ensures.reached in
    place_taken c.args.objects.now c.requires c.args.name.now c.in-Ok.holder c.in-Ok.ensures.reached
    (ap is_some (object_in c.args.objects.now c.requires c.args.name.now c.in-Ok.holder named led.0
    ∙ ap (λ (part : List ℕ). dir_entry (dirs_of c.args.objects.now) c.in-Ok.holder part) (sym c.last.ensures) ∙ sym c.in-Some.ensures))

pub returns-in-None-clause-free : goal.returns-in-None-clause-free
returns-in-None-clause-free c =
    let named : 0 < length c.args.name.now = named_from c.args.name.now (λ e. true≢false (sym (c.if-is_root.ensures.1 e))) in
    is_free c.args.objects.now c.requires c.args.name.now c.in-Ok.holder named c.in-Ok.ensures.reached c.in-Ok.ensures.number
    (ap (λ (part : List ℕ). dir_entry (dirs_of c.args.objects.now) c.in-Ok.holder part) (sym c.last.ensures) ∙ sym c.in-None.ensures)

pub returns-in-None-clause-refused : goal.returns-in-None-clause-refused
returns-in-None-clause-refused c =
    let free = returns-in-None-clause-free c in
    place_free c.args.objects.now c.requires c.args.name.now c.in-Ok.holder c.in-Ok.ensures.reached
    (object_in c.args.objects.now c.requires c.args.name.now c.in-Ok.holder free.named free.place ∙ free.free)
