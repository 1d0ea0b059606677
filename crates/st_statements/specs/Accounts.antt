-- The rows of users and groups.
use Rattle.std.specs.Prelude.{ℕ, List, [], ◌∷◌, Option, None, option_map, option_and_then}
use Rattle.st_lex.specs.declared.token.Token.{Token}
use Rattle.st_statements.specs.Parts.{word_at, quoted_at}
use Rattle.st_statements.specs.Values.{id_at}
use Rattle.st_statements.specs.declared.statement.Statement.{Statement}
use Rattle.st_statements.specs.declared.statement.Statement.TheVariants.{User, Group}

-- NAME UID GID "home"
abbrev pub user_row : List ℕ → List Token → Option Statement
user_row text (name ∷ uid ∷ gid ∷ home ∷ []) =
    option_and_then (λ n. option_and_then (λ u. option_and_then (λ g. option_map (λ h. User (record { name = n; uid = u; gid = g; home = h }))
    (quoted_at text home)) (id_at text gid)) (id_at text uid)) (word_at text name)
user_row text _ = None

-- NAME GID
abbrev pub group_row : List ℕ → List Token → Option Statement
group_row text (name ∷ gid ∷ []) =
    option_and_then (λ n. option_map (λ g. Group (record { name = n; gid = g })) (id_at text gid)) (word_at text name)
group_row text _ = None
