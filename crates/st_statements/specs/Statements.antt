-- What the lines of a script say.
use Rattle.std.specs.Prelude.{ℕ, if◌then◌else◌, List, [], ◌∷◌, codes, Option, Some, None}
use Rattle.st_lex.specs.declared.token.Token.{Token}
use Rattle.st_lex.specs.Rows.{rows}
use Rattle.st_lex.specs.Text.{is_keyword}
use Rattle.st_lex.specs.Tokens.{lexed_text}
use Rattle.st_statements.specs.Accounts.{user_row, group_row}
use Rattle.st_statements.specs.Instructions.{store_row, put_row, call_row, fork_row, reload_row, end_row}
use Rattle.st_statements.specs.Lines.{tokens_before_fault_line, line_of_row}
use Rattle.st_statements.specs.Objects.{dir_row, file_row, link_row}
use Rattle.st_statements.specs.Parts.{text_of_tokens}
use Rattle.st_statements.specs.Tasks.{process_row, thread_row, reply_row, policy_row}
use Rattle.st_statements.specs.declared.statement.OpenBody.{OpenBody}
use Rattle.st_statements.specs.declared.statement.OpenBody.TheVariants.{NoBody, ThreadBody, PolicyBody}
use Rattle.st_statements.specs.declared.statement.ScriptLine.{ScriptLine}
use Rattle.st_statements.specs.declared.statement.Statement.{Statement}
use Rattle.st_statements.specs.declared.statement.Statement.TheVariants.{Thread, Policy, Filter, End}

-- what a row says outside all bodies, by its keyword
abbrev pub outer_row : List ℕ → Token → List Token → Option Statement
outer_row text keyword row =
    if is_keyword text (codes "user") keyword then user_row text row
    else if is_keyword text (codes "group") keyword then group_row text row
    else if is_keyword text (codes "dir") keyword then dir_row text row
    else if is_keyword text (codes "file") keyword then file_row text row
    else if is_keyword text (codes "link") keyword then link_row text row
    else if is_keyword text (codes "process") keyword then process_row text row
    else if is_keyword text (codes "thread") keyword then thread_row text row
    else if is_keyword text (codes "reply") keyword then reply_row text row
    else if is_keyword text (codes "policy") keyword then policy_row text row
    else None

-- what a row says inside the body of a thread, by its keyword
abbrev pub inner_row : List ℕ → Token → List Token → Option Statement
inner_row text keyword row =
    if is_keyword text (codes "store") keyword then store_row text row
    else if is_keyword text (codes "put") keyword then put_row text row
    else if is_keyword text (codes "call") keyword then call_row text row
    else if is_keyword text (codes "fork") keyword then fork_row text row
    else if is_keyword text (codes "reload") keyword then reload_row text row
    else if is_keyword text (codes "end") keyword then end_row row
    else None

-- what a row says inside a policy: `end`, or a filter, as it was written
abbrev pub policy_body_row : List ℕ → Token → List Token → Option Statement
policy_body_row text keyword row =
    if is_keyword text (codes "end") keyword then end_row row else Some (Filter (text_of_tokens text (keyword ∷ row)))

-- what a row says in this body, by its keyword
abbrev pub row_in : List ℕ → OpenBody → Token → List Token → Option Statement
row_in text NoBody keyword row = outer_row text keyword row
row_in text ThreadBody keyword row = inner_row text keyword row
row_in text PolicyBody keyword row = policy_body_row text keyword row

-- what a row says in the body that is open there, or outside all bodies; nothing if it isn't in the grammar there
abbrev pub statement_of : List ℕ → OpenBody → List Token → Option Statement
statement_of text body [] = None
statement_of text body (keyword ∷ row) = row_in text body keyword row

-- the body that is open after a row: `thread` and `policy` open one, and only `end` closes it
abbrev pub body_after : OpenBody → Option Statement → OpenBody
body_after body (Some (Thread name process)) = ThreadBody
body_after body (Some (Policy name binary)) = PolicyBody
body_after body (Some End) = NoBody
body_after body _ = body

-- the line of a row, with what it says
abbrev pub line_saying : List Token → Option Statement → ScriptLine
line_saying row says = record { number = line_of_row row; says = says }

-- the lines of rows, of which the first stands in this body
abbrev pub script_lines_from : List ℕ → OpenBody → List (List Token) → List ScriptLine
script_lines_from text body [] = []
script_lines_from text body (row ∷ rows) =
    line_saying row (statement_of text body row) ∷ script_lines_from text (body_after body (statement_of text body row)) rows

-- the lines of a script that are read
abbrev pub lines_in : List ℕ → List ScriptLine
lines_in text = script_lines_from text NoBody (rows (tokens_before_fault_line (lexed_text text)))
