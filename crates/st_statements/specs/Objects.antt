-- The rows of directories, files and links.
use Rattle.std.specs.Prelude.{ℕ, List, [], ◌∷◌, Option, Some, None, option_map, option_and_then}
use Rattle.st_lex.specs.declared.token.Token.{Token}
use Rattle.st_model.specs.declared.object.NewKind.{NewKind}
use Rattle.st_model.specs.declared.object.NewKind.TheVariants.{Dir, File, Link}
use Rattle.st_model.specs.declared.object.NewNode.{NewNode}
use Rattle.st_statements.specs.Parts.{quoted_at, place_at}
use Rattle.st_statements.specs.Values.{id_at, mode_at}
use Rattle.st_statements.specs.declared.statement.Statement.{Statement}
use Rattle.st_statements.specs.declared.objects.TheConstants.{LINK_MODE}
use Rattle.st_statements.specs.declared.statement.Statement.TheVariants.{Object}

-- a new object, if its kind, owner, group and mode were read
abbrev pub new_node : Option NewKind → Option ℕ → Option ℕ → Option ℕ → Option NewNode
new_node kind uid gid mode =
    option_and_then (λ k. option_and_then (λ u. option_and_then (λ g. option_map (λ m. record { kind = k; uid = u; gid = g; mode = m })
    mode) gid) uid) kind

-- an object at a path, if both were read
abbrev pub object_statement : Option (List ℕ) → Option NewNode → Option Statement
object_statement path new = option_and_then (λ p. option_map (Object p) new) path

-- a file with this content
abbrev pub new_file : List ℕ → Token → Option NewKind
new_file text content = option_map File (quoted_at text content)

-- a link with this target, unless it is empty
abbrev pub link_to : List ℕ → Option NewKind
link_to [] = None
link_to (byte ∷ bytes) = Some (Link (byte ∷ bytes))

-- the link to a quoted target that isn't empty
abbrev pub link_at : List ℕ → Token → Option NewKind
link_at text target = option_and_then link_to (quoted_at text target)

-- "path" UID GID MODE
abbrev pub dir_row : List ℕ → List Token → Option Statement
dir_row text (path ∷ uid ∷ gid ∷ mode ∷ []) =
    object_statement (place_at text path) (new_node (Some Dir) (id_at text uid) (id_at text gid) (mode_at text mode))
dir_row text _ = None

-- a file with this owner, group, mode and content
abbrev pub file_node : List ℕ → Token → Token → Token → Token → Option NewNode
file_node text uid gid mode content = new_node (new_file text content) (id_at text uid) (id_at text gid) (mode_at text mode)

-- "path" UID GID MODE "content"
abbrev pub file_row : List ℕ → List Token → Option Statement
file_row text (path ∷ uid ∷ gid ∷ mode ∷ content ∷ []) =
    object_statement (place_at text path) (file_node text uid gid mode content)
file_row text _ = None

-- "path" UID GID "target"
abbrev pub link_row : List ℕ → List Token → Option Statement
link_row text (path ∷ uid ∷ gid ∷ target ∷ []) =
    object_statement (place_at text path) (new_node (link_at text target) (id_at text uid) (id_at text gid) (Some LINK_MODE))
link_row text _ = None
