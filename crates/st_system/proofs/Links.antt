-- A name without a link in its way that is followed to its end isn't a link's.
use Rattle.std.proofs.Common.{◌≡◌, ◌∙◌, ℕ, Bool, true, false, cond, not, ◌&&◌, ◌||◌, List, [], ◌∷◌, ◌++◌, Option, Some, None, IfSome, refl, ap, subst, sym}
use Rattle.std.proofs.lemmas.Bool.{true≢false}
use Rattle.std.proofs.lemmas.List.{append_assoc, append-nil}
use Rattle.std.specs.Prelude.{slice_index_or}
use Rattle.st_calls.specs.Argument.{args_of, argument, filename, second_filename}
use Rattle.st_calls.specs.Call.{follows, reads_alone, rule_of}
use Rattle.st_calls.specs.declared.argument.ArgSpec.{ArgSpec}
use Rattle.st_calls.specs.declared.argument.ArgText.{ArgText}
use Rattle.st_calls.specs.declared.argument.Label.TheVariants.{Argv, Gid, Mode, Uid}
use Rattle.st_calls.specs.declared.argument.PartKind.TheVariants as kind
use Rattle.st_calls.specs.declared.call.SysCall.{SysCall}
use Rattle.st_calls.specs.declared.call.SysCall.TheVariants.{Open, Stat, Access, Link, Chdir, Chmod, Chown, Truncate, Execve}
use Rattle.st_calls.specs.declared.rule.Rule.TheVariants.{FsRead, FsWrite}
use Rattle.st_names.specs.Name.{Components, components_of}
use Rattle.st_model.specs.Tree.{Node, Tree, is_directory, node_at, node_of, node_with_number, object_of}
use Rattle.st_model.specs.Walk.{is_last}
use Rattle.st_model.specs.declared.object.Kind.{Kind}
use Rattle.st_model.specs.declared.object.Kind.TheVariants as object_kind
use Rattle.st_tree.specs.Refusals.{IsObjectNumber}
use Rattle.st_effects.specs.Names.{is_link}
use Rattle.st_exec_objects.proofs.Objects.{numbered}
use Rattle.st_exec_fs.specs.Open.{IsNoLink}
use Rattle.st_law.specs.Arguments.{first_of_two, is_link_at, is_link_node, link_along, link_among, link_met, link_on_way}
use Rattle.st_system.specs.Fit.{first_name}

-- ---- the root

directory_unlinked : (k : Kind) → is_directory k ≡ true → is_link k ≡ false
directory_unlinked object_kind.Dir is = refl
directory_unlinked object_kind.File is = absurd (true≢false (sym is))
directory_unlinked object_kind.Link is = absurd (true≢false (sym is))

-- the root isn't a link
pub root_unlinked : (tree : Tree) (root : ℕ) → object_of tree [] ≡ Some root → IsObjectNumber tree root → is_directory (node_with_number tree root).kind ≡ true → is_link_at tree [] ≡ false
root_unlinked tree root is made directory =
    ap is_link_node (ap (λ (o : Option ℕ). node_at tree o) is ∙ numbered tree root made) ∙ directory_unlinked (node_with_number tree root).kind directory

-- ---- links in the way

-- if no link is in the way of a name, the name isn't a link's
unlinked_along : (tree : Tree) (done rest : Components) → is_link_at tree done ≡ false → link_along tree true done rest ≡ None → is_link_at tree (done ++ rest) ≡ false
unlinked_along tree done [] here none = ap (is_link_at tree) (append-nil done) ∙ here
unlinked_along tree done (part ∷ rest) here none =
    let first : (is_link_at tree (done ++ part ∷ []) ≡ false) × (link_along tree true (done ++ part ∷ []) rest ≡ None) =
    by (is_link_at tree (done ++ part ∷ [])) none in
    ap (is_link_at tree) (sym (append_assoc done (part ∷ []) rest)) ∙ unlinked_along tree (done ++ part ∷ []) rest first.0 first.1 where
      by : (b : Bool) → cond (b && (true || not (is_last rest))) (Some (done ++ part ∷ [])) (link_along tree true (done ++ part ∷ []) rest) ≡ None → (b ≡ false) × (link_along tree true (done ++ part ∷ []) rest ≡ None)
      by true e = cc
      by false e = (refl, e)

-- if neither of two options exists, the first doesn't
first_none : (o other : Option Components) → first_of_two o other ≡ None → o ≡ None
first_none None other e = refl
first_none (Some name) other e = cc

module _ (tree : Tree) (root : is_link_at tree [] ≡ false) (call : SysCall) (regs : List ℕ) where
  -- the first argument, which is a name from register 0
  unlinked_first : (specs : List ArgSpec) (args : List ArgText) → follows call regs 0 ≡ true → link_among tree call regs (filename ∷ specs) args ≡ None → is_link_at tree (first_name args) ≡ false
  unlinked_first specs [] follow none = root
  unlinked_first specs (arg ∷ args) follow none =
      let way : link_on_way tree (follows call regs 0) (components_of arg.text) ≡ None = first_none (link_on_way tree (follows call regs 0) (components_of arg.text)) _ none in
      unlinked_along tree [] (components_of arg.text) root (subst (λ b. link_on_way tree b (components_of arg.text) ≡ None) follow way)

  -- the same by the arguments of a call
  unlinked_with : (specs all : List ArgSpec) (args : List ArgText) → all ≡ filename ∷ specs → follows call regs 0 ≡ true → link_among tree call regs all args ≡ None → is_link_at tree (first_name args) ≡ false
  unlinked_with specs all args is follow none = unlinked_first specs args follow (subst (λ each. link_among tree call regs each args ≡ None) is none)

no_link : (tree : Tree) (name : Components) (o : Option Node) → node_of tree name ≡ o → is_link_node o ≡ false → IfSome o (λ node. is_link node.kind ≡ false)
no_link tree name None e is = tt
no_link tree name (Some node) e is = is

open_args : (regs : List ℕ) (aliasing : Bool) → args_of (rule_of Open regs aliasing) ≡ filename ∷ []
open_args regs true = by (reads_alone (slice_index_or regs 1 0)) where
  by : (b : Bool) → args_of (cond b FsRead FsWrite) ≡ filename ∷ []
  by true = refl
  by false = refl
open_args regs false = refl

stat_args : (regs : List ℕ) (aliasing : Bool) → args_of (rule_of Stat regs aliasing) ≡ filename ∷ []
stat_args regs true = refl
stat_args regs false = refl

access_args : (regs : List ℕ) (aliasing : Bool) → args_of (rule_of Access regs aliasing) ≡ filename ∷ []
access_args regs true = refl
access_args regs false = refl

link_args : (regs : List ℕ) (aliasing : Bool) → args_of (rule_of Link regs aliasing) ≡ filename ∷ second_filename ∷ []
link_args regs true = refl
link_args regs false = refl

chdir_args : (regs : List ℕ) (aliasing : Bool) → args_of (rule_of Chdir regs aliasing) ≡ filename ∷ []
chdir_args regs true = refl
chdir_args regs false = refl

chmod_args : (regs : List ℕ) (aliasing : Bool) → args_of (rule_of Chmod regs aliasing) ≡ filename ∷ argument Mode 1 kind.Octal ∷ []
chmod_args regs true = refl
chmod_args regs false = refl

chown_args : (regs : List ℕ) (aliasing : Bool) → args_of (rule_of Chown regs aliasing) ≡ filename ∷ argument Uid 1 kind.Decimal ∷ argument Gid 2 kind.Decimal ∷ []
chown_args regs true = refl
chown_args regs false = refl

truncate_args : (regs : List ℕ) (aliasing : Bool) → args_of (rule_of Truncate regs aliasing) ≡ filename ∷ []
truncate_args regs true = refl
truncate_args regs false = refl

execve_args : (regs : List ℕ) (aliasing : Bool) → args_of (rule_of Execve regs aliasing) ≡ filename ∷ argument Argv 1 kind.Argv ∷ []
execve_args regs true = refl
execve_args regs false = refl

-- if no link is in the way of a call's names, and its first name is followed to its end, that name isn't a link's
unlinked : (tree : Tree) (call : SysCall) (regs : List ℕ) (aliasing : Bool) (args : List ArgText) → is_link_at tree [] ≡ false → link_met tree (rule_of call regs aliasing) call regs args ≡ None → follows call regs 0 ≡ true → is_link_at tree (first_name args) ≡ false
unlinked tree Open regs aliasing args root none follow = unlinked_with tree root Open regs _ _ args (open_args regs aliasing) follow none
unlinked tree Stat regs aliasing args root none follow = unlinked_with tree root Stat regs _ _ args (stat_args regs aliasing) follow none
unlinked tree Access regs aliasing args root none follow = unlinked_with tree root Access regs _ _ args (access_args regs aliasing) follow none
unlinked tree Link regs aliasing args root none follow = unlinked_with tree root Link regs _ _ args (link_args regs aliasing) follow none
unlinked tree Chdir regs aliasing args root none follow = unlinked_with tree root Chdir regs _ _ args (chdir_args regs aliasing) follow none
unlinked tree Chmod regs aliasing args root none follow = unlinked_with tree root Chmod regs _ _ args (chmod_args regs aliasing) follow none
unlinked tree Chown regs aliasing args root none follow = unlinked_with tree root Chown regs _ _ args (chown_args regs aliasing) follow none
unlinked tree Truncate regs aliasing args root none follow = unlinked_with tree root Truncate regs _ _ args (truncate_args regs aliasing) follow none
unlinked tree Execve regs aliasing args root none follow = unlinked_with tree root Execve regs _ _ args (execve_args regs aliasing) follow none
unlinked tree call regs aliasing args root none follow = absurd (true≢false (sym follow))

pub first_unlinked : (tree : Tree) (call : SysCall) (regs : List ℕ) (aliasing : Bool) (args : List ArgText) → is_link_at tree [] ≡ false → link_met tree (rule_of call regs aliasing) call regs args ≡ None → follows call regs 0 ≡ true → IsNoLink tree (first_name args)
first_unlinked tree call regs aliasing args root none follow = no_link tree (first_name args) (node_of tree (first_name args)) refl (unlinked tree call regs aliasing args root none follow)
