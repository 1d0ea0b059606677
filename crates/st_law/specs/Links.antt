-- The first link in the way of a call, defined by names and kinds alone.
use Rattle.std.specs.Prelude.{◌≡◌, ◌≢◌, ◌<◌, ℕ, Bool, true, List, [], ◌++◌, length, slice_get, Option, Some, None}
use Rattle.st_calls.specs.Argument.{args_of}
use Rattle.st_calls.specs.Call.{follows}
use Rattle.st_calls.specs.declared.argument.ArgSpec.{ArgSpec}
use Rattle.st_calls.specs.declared.argument.ArgText.{ArgText}
use Rattle.st_calls.specs.declared.argument.PartKind.TheVariants as kind
use Rattle.st_calls.specs.declared.call.SysCall.{SysCall}
use Rattle.st_calls.specs.declared.rule.Rule.{Rule}
use Rattle.st_model.specs.Tree.{Tree, Node, node_of}
use Rattle.st_model.specs.declared.object.Kind.TheVariants as object_kind
use Rattle.st_names.specs.Name.{Components, components_of}

-- a name is that of a link
pub record IsLinkName (tree : Tree) (name : Components) : Type 0 where
  pub node : Node
  pub there : node_of tree name ≡ Some node
  pub kind : node.kind ≡ object_kind.Link

-- a name is on the way to this name: a proper prefix that isn't empty, or the name itself if a link in its place is followed
pub record IsOnWay (follow : Bool) (name on : Components) : Type 0 where
  pub rest : Components
  pub split : name ≡ on ++ rest
  pub below : on ≢ []
  pub followed : rest ≡ [] → follow ≡ true

-- no name on the way is that of a link
abbrev pub IsUnlinked : Tree → Bool → Components → Type 0
IsUnlinked tree follow name = (on : Components) → IsOnWay follow name on → IsLinkName tree on → ⊥

-- this name on the way is that of a link, and no shorter name on the way is
pub record IsFirstLink (tree : Tree) (follow : Bool) (name link : Components) : Type 0 where
  pub on_way : IsOnWay follow name link
  pub is_link : IsLinkName tree link
  pub first : (on : Components) → IsOnWay follow name on → length on < length link → IsLinkName tree on → ⊥

-- the first link on the way to a name, or none
abbrev pub IsLinkFound : Tree → Bool → Components → Option Components → Type 0
IsLinkFound tree follow name None = IsUnlinked tree follow name
IsLinkFound tree follow name (Some link) = IsFirstLink tree follow name link

-- part j of a call is a name, with this register and text
pub record IsNamePart (specs : List ArgSpec) (args : List ArgText) (j register : ℕ) (text : List ℕ) : Type 0 where
  pub spec : ArgSpec
  pub arg : ArgText
  pub spec_is : slice_get specs j ≡ Some spec
  pub arg_is : slice_get args j ≡ Some arg
  pub kind : spec.kind ≡ kind.Name
  pub register_is : spec.register ≡ register
  pub text_is : arg.text ≡ text

-- no name among the parts has a link on its way
abbrev pub NoPartHasLink : Tree → SysCall → List ℕ → List ArgSpec → List ArgText → Type 0
NoPartHasLink tree call regs specs args =
    (j register : ℕ) (text : List ℕ) → IsNamePart specs args j register text → IsUnlinked tree (follows call regs register) (components_of text)

-- a name among the parts has this first link on its way, and no name before it has one
pub record FirstPartWithLink (tree : Tree) (call : SysCall) (regs : List ℕ) (specs : List ArgSpec) (args : List ArgText) (link : Components) : Type 0 where
  pub j : ℕ
  pub register : ℕ
  pub text : List ℕ
  pub part : IsNamePart specs args j register text
  pub meets : IsFirstLink tree (follows call regs register) (components_of text) link
  pub before : (k other : ℕ) (words : List ℕ) → k < j → IsNamePart specs args k other words → IsUnlinked tree (follows call regs other) (components_of words)

-- the first link on the way to the names among some parts, or none
abbrev pub IsFirstLinkAmongParts : Tree → SysCall → List ℕ → List ArgSpec → List ArgText → Option Components → Type 0
IsFirstLinkAmongParts tree call regs specs args None = NoPartHasLink tree call regs specs args
IsFirstLinkAmongParts tree call regs specs args (Some link) = FirstPartWithLink tree call regs specs args link

-- the first link in the way of a call, or none
abbrev pub IsFirstLinkInWay : Tree → Rule → SysCall → List ℕ → List ArgText → Option Components → Type 0
IsFirstLinkInWay tree rule call regs args = IsFirstLinkAmongParts tree call regs (args_of rule) args
