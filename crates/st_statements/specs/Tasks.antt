-- The rows of processes, threads, replies and policies.
use Rattle.std.specs.Prelude.{ℕ, Bool, true, false, if◌then◌else◌, List, [], ◌∷◌, codes, Option, Some, None, option_map, option_and_then}
use Rattle.st_lex.specs.declared.token.Token.{Token}
use Rattle.st_lex.specs.Text.{text_of_token, is_keyword, is_quoted}
use Rattle.st_statements.specs.Parts.{word_at, path_at, text_of_tokens}
use Rattle.st_statements.specs.Values.{id_at}
use Rattle.st_statements.specs.declared.statement.Statement.{Statement}
use Rattle.st_statements.specs.declared.statement.Statement.TheVariants.{Process, Thread, Reply, Policy}

-- `traced`, or `untraced`
abbrev pub traced_at : List ℕ → Token → Option Bool
traced_at text token =
    if is_keyword text (codes "traced") token then Some true
    else if is_keyword text (codes "untraced") token then Some false
    else None

-- NAME traced|untraced "binary" UID GID "cwd"
abbrev pub process_row : List ℕ → List Token → Option Statement
process_row text (name ∷ traced ∷ binary ∷ uid ∷ gid ∷ cwd ∷ []) =
    option_and_then (λ n. option_and_then (λ t. option_and_then (λ u. option_and_then (λ g. option_and_then (λ b. option_map
    (λ c. Process (record { name = n; traced = t; binary = b; uid = u; gid = g; cwd = c }))
    (path_at text cwd)) (path_at text binary)) (id_at text gid)) (id_at text uid)) (traced_at text traced)) (word_at text name)
process_row text _ = None

-- NAME of a thread that waits for a fork
abbrev pub waiting_thread : List ℕ → Token → Option Statement
waiting_thread text name = option_map (λ n. Thread n None) (word_at text name)

-- NAME and PROCESS of a thread that starts there
abbrev pub starting_thread : List ℕ → Token → Token → Option Statement
starting_thread text name process =
    option_and_then (λ n. option_map (λ p. Thread n (Some p)) (word_at text process)) (word_at text name)

-- NAME, or NAME in PROCESS
abbrev pub thread_row : List ℕ → List Token → Option Statement
thread_row text (name ∷ []) = waiting_thread text name
thread_row text (name ∷ within ∷ process ∷ []) = if is_keyword text (codes "in") within then starting_thread text name process else None
thread_row text _ = None

-- "binary" FILTER
abbrev pub reply_row : List ℕ → List Token → Option Statement
reply_row text [] = None
reply_row text (binary ∷ filter) =
    if is_quoted binary.kind then Some (Reply (text_of_token text binary) (text_of_tokens text filter)) else None

-- NAME "binary"
abbrev pub policy_row : List ℕ → List Token → Option Statement
policy_row text (name ∷ binary ∷ []) =
    if is_quoted binary.kind then option_map (λ n. Policy n (text_of_token text binary)) (word_at text name) else None
policy_row text _ = None
