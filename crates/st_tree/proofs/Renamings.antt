-- Why a rename is refused, and the data of a rename.
use Rattle.std.proofs.Common.{◌≡◌, ◌≢◌, ap, refl, sym, ◌∙◌, subst, ℕ, ◌<◌, Bool, true, false, List, [], ◌∷◌, length, Option, Some, None, Result, Ok, Err}
use Rattle.std.proofs.lemmas.Bool.{eq-eqb, false_from_ne_true, ltb-false, ne_eqb, true≢false}
use Rattle.std.proofs.Math.Seq.{take_all}
use Rattle.std.specs.Option.{option_map}
use Rattle.std.specs.Prelude.{◌||◌, ◌&&◌, not, if◌then◌else◌, nat_lt, take}
use Rattle.std.specs.Result.{result_err}
use Rattle.st_base.specs.Errno.{first_error, error_if}
use Rattle.st_base.specs.declared.errno.Errno.{Errno}
use Rattle.st_base.specs.declared.errno.Errno.TheVariants.{EINVAL, EISDIR, ENOTDIR}
use Rattle.st_names.specs.Name.{Components, last_part, parent, is_root}
use Rattle.st_model.specs.Tree.{Tree, is_prefix, is_directory, node_with_number, object_of, is_proper_prefix}
use Rattle.st_model.proofs.Objects.{is_same_name-Decides}
use Rattle.st_tree.specs.Objects.{dirs_of, tree_of, IsNumber, IsValidTree}
use Rattle.st_tree.specs.Paths.{dir_entry}
use Rattle.st_tree.specs.Reached.{directory_reached, errno_of_gap, IsTaken, IsRenamePlan, Replaces}
use Rattle.st_tree.specs.Refusals.{is_same_object, no_object, rename_refused, replace_refused}
use Rattle.st_model.specs.Adding.{no_directory}
use Rattle.st_tree.specs.declared.object.Object.{Object}
use Rattle.st_tree.specs.declared.places.Gap.{Gap}
use Rattle.st_tree.specs.declared.places.RenamePlan.{RenamePlan}
use Rattle.st_tree.proofs.Reasons.{directory_led, first_error-here, first_error-last, first_error-later, named_no_root, no_directory_reached, object_in, error_if-false}

-- the last reason for refusal: the object to be replaced
abbrev pub replaced_refused : Tree → Option ℕ → Option ℕ → Option Errno
replaced_refused tree old new = if is_same_object old new then None else replace_refused tree old new

no_object_there : (tree : Tree) (number : ℕ) → None ≡ replace_refused tree (Some number) None
no_object_there tree number = by (is_directory (node_with_number tree number).kind) where
  by : (dir : Bool) → None ≡ first_error (error_if (dir && false) ENOTDIR ∷ error_if (not dir && false) EISDIR ∷ None ∷ [])
  by true = refl
  by false = refl

-- neither name is the root's, and the old name is no proper prefix of the new name
module _ (objects : List Object) (whole : IsValidTree objects) (old new : Components) (named_old : 0 < length old) (named_new : 0 < length new) (apart : is_proper_prefix old new ≡ false) where
  no_reason : (is_root old || is_root new || is_proper_prefix old new) ≡ false
  no_reason =
      ap (λ (b : Bool). b || is_root new || is_proper_prefix old new) (named_no_root old named_old)
      ∙ ap (λ (b : Bool). b || is_proper_prefix old new) (named_no_root new named_new) ∙ apart

  rest_refused : (found : Option Errno) → None ≡ no_object (tree_of objects) old
      → found ≡ first_error (no_directory (tree_of objects) new ∷ replaced_refused (tree_of objects) (object_of (tree_of objects) old) (object_of (tree_of objects) new) ∷ [])
      → found ≡ rename_refused (tree_of objects) old new
  rest_refused found none is =
      let tree : Tree = tree_of objects in
      let rest : List (Option Errno) = no_directory tree new ∷ replaced_refused tree (object_of tree old) (object_of tree new) ∷ [] in
      first_error-later found (error_if (is_root old || is_root new || is_proper_prefix old new) EINVAL) (no_object tree old ∷ rest) (error_if-false _ EINVAL no_reason) (first_error-later found (no_object tree old) rest none is)

  pub rename_gap : (gap : Gap) → None ≡ no_object (tree_of objects) old → Err gap ≡ directory_reached objects (parent new) → Some (errno_of_gap gap) ≡ rename_refused (tree_of objects) old new
  rename_gap gap none lost =
      rest_refused (Some (errno_of_gap gap)) none
      (first_error-here (errno_of_gap gap) (no_directory (tree_of objects) new) _ (sym (no_directory_reached objects whole new ∙ ap (λ (f : Result ℕ Gap). option_map errno_of_gap (result_err f)) (sym lost))))

  -- both directories exist
  module _ (from held to : ℕ) (taken : IsTaken objects old from held) (none : None ≡ no_object (tree_of objects) old) (found_to : Ok to ≡ directory_reached objects (parent new)) where
    new_is : object_of (tree_of objects) new ≡ dir_entry (dirs_of objects) to (last_part new)
    new_is = object_in objects whole new to named_new (directory_led objects whole (parent new) to found_to).0

    old_is : object_of (tree_of objects) old ≡ Some held
    old_is = object_in objects whole old from taken.named taken.place ∙ taken.taken

    both_are : (there : Option ℕ) → there ≡ dir_entry (dirs_of objects) to (last_part new) → (found : Option Errno) → found ≡ replaced_refused (tree_of objects) (Some held) there → found ≡ rename_refused (tree_of objects) old new
    both_are there is found reason =
        let tree : Tree = tree_of objects in
        rest_refused found none
        (first_error-later found (no_directory tree new) (replaced_refused tree (object_of tree old) (object_of tree new) ∷ [])
        (sym (no_directory_reached objects whole new ∙ ap (λ (f : Result ℕ Gap). option_map errno_of_gap (result_err f)) (sym found_to)))
        (first_error-last found (replaced_refused tree (object_of tree old) (object_of tree new))
        (reason
        ∙ ap (λ (o : Option ℕ). replaced_refused tree o there) (sym old_is)
        ∙ ap (replaced_refused tree (object_of tree old)) (is ∙ sym new_is))))

    pub rename_free : None ≡ dir_entry (dirs_of objects) to (last_part new) → None ≡ rename_refused (tree_of objects) old new
    rename_free is = both_are None is None (no_object_there (tree_of objects) held)

    pub rename_one : (replaced : ℕ) → Some replaced ≡ dir_entry (dirs_of objects) to (last_part new) → replaced ≡ held → None ≡ rename_refused (tree_of objects) old new
    rename_one replaced is same =
        both_are (Some replaced) is None (sym (ap (λ (b : Bool). if b then None else replace_refused (tree_of objects) (Some held) (Some replaced)) (eq-eqb replaced held same)))

    pub rename_replaces : (replaced : ℕ) (found : Option Errno) → Some replaced ≡ dir_entry (dirs_of objects) to (last_part new) → replaced ≢ held → found ≡ replace_refused (tree_of objects) (Some held) (Some replaced) → found ≡ rename_refused (tree_of objects) old new
    rename_replaces replaced found is other reason =
        both_are (Some replaced) is found (reason ∙ sym (ap (λ (b : Bool). if b then None else replace_refused (tree_of objects) (Some held) (Some replaced)) (ne_eqb replaced held other)))

    pub one_object : (replaced : ℕ) → Some replaced ≡ dir_entry (dirs_of objects) to (last_part new) → replaced ≡ held → is_same_object (object_of (tree_of objects) old) (object_of (tree_of objects) new) ≡ true
    one_object replaced is same =
        ap (λ (o : Option ℕ). is_same_object o (object_of (tree_of objects) new)) old_is ∙ ap (is_same_object (Some held)) (new_is ∙ sym is) ∙ eq-eqb replaced held same

    way_by : (there : Option ℕ) → there ≡ dir_entry (dirs_of objects) to (last_part new) → IsNumber objects to → Replaces objects held there → is_same_object (Some held) there ≡ false → IsRenamePlan objects old new (record { from = from; to = to; obj = held })
    way_by there is number free differ =
        let led = directory_led objects whole (parent new) to found_to in
        record {
          taken = taken;
          number = number;
          place = led.0;
          dir = led.1;
          named = named_new;
          free = subst (Replaces objects held) is free;
          apart = apart;
          differ = ap (λ (o : Option ℕ). is_same_object o (object_of (tree_of objects) new)) old_is ∙ ap (is_same_object (Some held)) (new_is ∙ sym is) ∙ differ;
        }

    pub way_free : None ≡ dir_entry (dirs_of objects) to (last_part new) → IsNumber objects to → IsRenamePlan objects old new (record { from = from; to = to; obj = held })
    way_free is number = way_by None is number tt refl

    pub way_replaces : (replaced : ℕ) → Some replaced ≡ dir_entry (dirs_of objects) to (last_part new) → replaced ≢ held → dirs_of objects replaced ≡ [] → IsNumber objects to → IsRenamePlan objects old new (record { from = from; to = to; obj = held })
    way_replaces replaced is other empty number = way_by (Some replaced) is number (other, empty) (ne_eqb replaced held other)

is_one-same : (there : Option ℕ) (number : ℕ) → there ≡ Some number → is_same_object there there ≡ true
is_one-same there number is = ap (λ (o : Option ℕ). is_same_object o o) is ∙ eq-eqb number number refl

-- the old name neither is a prefix of the new name nor equals it
pub way_apart : (objects : List Object) → IsValidTree objects → (old new : Components) (way : RenamePlan) → IsRenamePlan objects old new way → is_prefix old new ≡ false
way_apart objects whole old new way is = false_from_ne_true (is_prefix old new) (λ e. by e (nat_lt (length old) (length new)) refl) where
  by : is_prefix old new ≡ true → (longer : Bool) → nat_lt (length old) (length new) ≡ longer → ⊥
  by e true longer = true≢false (sym (ap (λ (b : Bool). b && nat_lt (length old) (length new)) e ∙ longer) ∙ is.apart)
  by e false longer =
      let front : old ≡ take (length old) new = (is_same_name-Decides old (take (length old) new)).0 e in
      let same : old ≡ new = front ∙ take_all (length old) new (ltb-false (length old) (length new) longer) in
      let held : object_of (tree_of objects) old ≡ Some way.obj = object_in objects whole old way.from is.taken.named is.taken.place ∙ is.taken.taken in
      true≢false (sym (is_one-same (object_of (tree_of objects) old) way.obj held) ∙ ap (λ (n : Components). is_same_object (object_of (tree_of objects) old) (object_of (tree_of objects) n)) same ∙ is.differ)
