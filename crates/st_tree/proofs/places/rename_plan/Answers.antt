use Rattle.std.proofs.Common.{◌≡◌, ◌∙◌, ◌<◌, ap, sym, Some, None, false, length}
use Rattle.std.proofs.lemmas.Bool.{true≢false}
use Rattle.std.proofs.lemmas.Result.{err_from_is_err_and}
use Rattle.st_tree.specs.Objects.{dirs_of}
use Rattle.st_tree.specs.Paths.{dir_entry}
use Rattle.st_model.specs.Tree.{is_proper_prefix}
use Rattle.st_tree.proofs.Reasons.{named_from}
use Rattle.st_tree.proofs.Renamings.{rename_gap, rename_free, rename_one, rename_replaces, one_object, way_free, way_replaces}
use Rattle.st_tree.proofs.places.rename_plan.Goals as goal

pub returns-in-Err-clause-refused : goal.returns-in-Err-clause-refused
returns-in-Err-clause-refused c =
    let named : 0 < length c.args.new.now = named_from c.args.new.now (λ e. true≢false (sym (c.if-is_root-2.ensures.1 e))) in
    let apart : is_proper_prefix c.args.old.now c.args.new.now ≡ false = sym c.is_proper_prefix.ensures ∙ c.if-is_proper_prefix.false in
    ap Some c.errno.ensures ∙ rename_gap c.args.objects.now c.requires c.args.old.now c.args.new.now c.in_ok-from.ensures.taken.named named apart c.in-Err.gap c.in_ok-from.ensures.refused c.in-Err.ensures.reached

pub returns-in_default-clause-way : goal.returns-in_default-clause-way
returns-in_default-clause-way c =
    let named : 0 < length c.args.new.now = named_from c.args.new.now (λ e. true≢false (sym (c.if-is_root-2.ensures.1 e))) in
    let apart : is_proper_prefix c.args.old.now c.args.new.now ≡ false = sym c.is_proper_prefix.ensures ∙ c.if-is_proper_prefix.false in
    let there = c.in_default.ensures ∙ ap (dir_entry (dirs_of c.args.objects.now) c.in-Ok.to) c.last.ensures in
    way_free c.args.objects.now c.requires c.args.old.now c.args.new.now c.in_ok-from.ensures.taken.named named apart c.in_ok-from.from c.in_ok-from.obj c.in-Ok.to c.in_ok-from.ensures.taken c.in_ok-from.ensures.refused c.in-Ok.ensures.reached there c.in-Ok.ensures.number

pub returns-in_default-clause-refused : goal.returns-in_default-clause-refused
returns-in_default-clause-refused c =
    let named : 0 < length c.args.new.now = named_from c.args.new.now (λ e. true≢false (sym (c.if-is_root-2.ensures.1 e))) in
    let apart : is_proper_prefix c.args.old.now c.args.new.now ≡ false = sym c.is_proper_prefix.ensures ∙ c.if-is_proper_prefix.false in
    let there = c.in_default.ensures ∙ ap (dir_entry (dirs_of c.args.objects.now) c.in-Ok.to) c.last.ensures in
    rename_free c.args.objects.now c.requires c.args.old.now c.args.new.now c.in_ok-from.ensures.taken.named named apart c.in_ok-from.from c.in_ok-from.obj c.in-Ok.to c.in_ok-from.ensures.taken c.in_ok-from.ensures.refused c.in-Ok.ensures.reached there

pub returns-then-replaced-obj-clause-way : goal.returns-then-replaced-obj-clause-way
returns-then-replaced-obj-clause-way c =
    let named : 0 < length c.args.new.now = named_from c.args.new.now (λ e. true≢false (sym (c.if-is_root-2.ensures.1 e))) in
    let apart : is_proper_prefix c.args.old.now c.args.new.now ≡ false = sym c.is_proper_prefix.ensures ∙ c.if-is_proper_prefix.false in
    let there = c.in-Some.ensures ∙ ap (dir_entry (dirs_of c.args.objects.now) c.in-Ok.to) c.last.ensures in
    one_object c.args.objects.now c.requires c.args.old.now c.args.new.now c.in_ok-from.ensures.taken.named named apart c.in_ok-from.from c.in_ok-from.obj c.in-Ok.to c.in_ok-from.ensures.taken c.in_ok-from.ensures.refused c.in-Ok.ensures.reached c.in-Some.replaced there c.if-replaced-obj.true

pub returns-then-replaced-obj-clause-refused : goal.returns-then-replaced-obj-clause-refused
returns-then-replaced-obj-clause-refused c =
    let named : 0 < length c.args.new.now = named_from c.args.new.now (λ e. true≢false (sym (c.if-is_root-2.ensures.1 e))) in
    let apart : is_proper_prefix c.args.old.now c.args.new.now ≡ false = sym c.is_proper_prefix.ensures ∙ c.if-is_proper_prefix.false in
    let there = c.in-Some.ensures ∙ ap (dir_entry (dirs_of c.args.objects.now) c.in-Ok.to) c.last.ensures in
    rename_one c.args.objects.now c.requires c.args.old.now c.args.new.now c.in_ok-from.ensures.taken.named named apart c.in_ok-from.from c.in_ok-from.obj c.in-Ok.to c.in_ok-from.ensures.taken c.in_ok-from.ensures.refused c.in-Ok.ensures.reached c.in-Some.replaced there c.if-replaced-obj.true

pub returns-in_err-replace-clause-refused : goal.returns-in_err-replace-clause-refused
returns-in_err-replace-clause-refused c =
    let named : 0 < length c.args.new.now = named_from c.args.new.now (λ e. true≢false (sym (c.if-is_root-2.ensures.1 e))) in
    let apart : is_proper_prefix c.args.old.now c.args.new.now ≡ false = sym c.is_proper_prefix.ensures ∙ c.if-is_proper_prefix.false in
    let there = c.in-Some.ensures ∙ ap (dir_entry (dirs_of c.args.objects.now) c.in-Ok.to) c.last.ensures in
    let p = err_from_is_err_and c.from_residual-in_err-replace.result c.from_residual-in_err-replace.ensures.1 in
    rw (p.1, p.2) (rename_replaces c.args.objects.now c.requires c.args.old.now c.args.new.now c.in_ok-from.ensures.taken.named named apart c.in_ok-from.from c.in_ok-from.obj c.in-Ok.to c.in_ok-from.ensures.taken c.in_ok-from.ensures.refused c.in-Ok.ensures.reached c.in-Some.replaced (Some c.in_err-replace.field-0.0) there c.if-replaced-obj.false c.in_err-replace.ensures.refused)

pub returns-clause-way : goal.returns-clause-way
returns-clause-way c =
    let named : 0 < length c.args.new.now = named_from c.args.new.now (λ e. true≢false (sym (c.if-is_root-2.ensures.1 e))) in
    let apart : is_proper_prefix c.args.old.now c.args.new.now ≡ false = sym c.is_proper_prefix.ensures ∙ c.if-is_proper_prefix.false in
    let there = c.in-Some.ensures ∙ ap (dir_entry (dirs_of c.args.objects.now) c.in-Ok.to) c.last.ensures in
    way_replaces c.args.objects.now c.requires c.args.old.now c.args.new.now c.in_ok-from.ensures.taken.named named apart c.in_ok-from.from c.in_ok-from.obj c.in-Ok.to c.in_ok-from.ensures.taken c.in_ok-from.ensures.refused c.in-Ok.ensures.reached c.in-Some.replaced there c.if-replaced-obj.false c.in_ok-replace.ensures.empty c.in-Ok.ensures.number

pub returns-clause-refused : goal.returns-clause-refused
returns-clause-refused c =
    let named : 0 < length c.args.new.now = named_from c.args.new.now (λ e. true≢false (sym (c.if-is_root-2.ensures.1 e))) in
    let apart : is_proper_prefix c.args.old.now c.args.new.now ≡ false = sym c.is_proper_prefix.ensures ∙ c.if-is_proper_prefix.false in
    let there = c.in-Some.ensures ∙ ap (dir_entry (dirs_of c.args.objects.now) c.in-Ok.to) c.last.ensures in
    rename_replaces c.args.objects.now c.requires c.args.old.now c.args.new.now c.in_ok-from.ensures.taken.named named apart c.in_ok-from.from c.in_ok-from.obj c.in-Ok.to c.in_ok-from.ensures.taken c.in_ok-from.ensures.refused c.in-Ok.ensures.reached c.in-Some.replaced None there c.if-replaced-obj.false c.in_ok-replace.ensures.refused
