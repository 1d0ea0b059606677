-- A script has fewer than 2^31 policies, since each has a row of three tokens, and they have no more filters than a script may have.
use Rattle.std.proofs.Common.{◌≡◌, ℕ, suc, ◌+◌, ◌*◌, ◌^◌, ◌≤◌, ◌<◌, Bool, true, false, if◌then◌else◌, cond, List, [], ◌∷◌, codes, length, Option, Some, None, Ok, arith}
use Rattle.std.proofs.lemmas.List.Elements.{recursion_from_All}
use Rattle.std.specs.List.{AllByRecursion, filter, list_any, onto_first}
use Rattle.std.specs.Prelude.{IfSome}
use Rattle.st_filter.specs.Formula.{FilterValue}
use Rattle.st_filter.specs.Policies.{filters_in}
use Rattle.st_filter.specs.declared.set.BinaryPolicy.{BinaryPolicy}
use Rattle.st_filter.specs.declared.set.TheConstants.{MOST_FILTERS}
use Rattle.st_grammar.specs.declared.env.Env.{Env}
use Rattle.st_emulation.specs.declared.emulation.Emulation.{Emulation}
use Rattle.st_law.specs.declared.input.Options.{Options}
use Rattle.st_lex.proofs.Parts.{lexed_text-slices}
use Rattle.st_lex.specs.Rows.{ends_line, has_token, lines, rows}
use Rattle.st_lex.specs.Slices.{AreSlices, AreTokensInOrder, IsTokenOf}
use Rattle.st_lex.specs.Text.{is_keyword, is_quoted, text_of_token}
use Rattle.st_lex.specs.Tokens.{lexed_text}
use Rattle.st_lex.specs.declared.token.LexFault.{LexFault}
use Rattle.st_lex.specs.declared.token.Token.{Token}
use Rattle.st_script_faults.specs.Faults.{policy_binary}
use Rattle.st_script_names.specs.Names.{Name}
use Rattle.st_statements.specs.Accounts.{group_row, user_row}
use Rattle.st_statements.specs.Lines.{tokens_before_fault_line, up_to_last_line, whole_lines}
use Rattle.st_statements.specs.Objects.{dir_row, file_row, link_row}
use Rattle.st_statements.specs.Parts.{word_at}
use Rattle.st_statements.specs.Statements.{body_after, line_saying, lines_in, outer_row, script_lines_from, statement_of}
use Rattle.st_statements.specs.Tasks.{policy_row, process_row, reply_row, thread_row}
use Rattle.st_statements.specs.declared.statement.OpenBody.{OpenBody}
use Rattle.st_statements.specs.declared.statement.OpenBody.TheVariants.{NoBody, PolicyBody, ThreadBody}
use Rattle.st_statements.specs.declared.statement.ScriptLine.{ScriptLine}
use Rattle.st_statements.specs.declared.statement.Statement.{Statement}
use Rattle.st_statements.specs.declared.statement.Statement.TheVariants as says
use Rattle.st_script.proofs.Counted.{few_filters}
use Rattle.st_script.proofs.ReadTexts.{read_has, whole_in}
use Rattle.st_script.proofs.Said.{IsSaid, IsSaidOutside, ScriptRow, dir_said, file_said, group_said, if_either, kind_of, link_said, map_any, process_said, reply_said, row_said, stands_in, thread_said, user_said}
use Rattle.st_script.specs.Reading.{blocks_in, filters_below, script_in, with_block}
use Rattle.st_script.specs.declared.reading.ReadScript.{ReadScript}

-- ---- tokens of rows

-- how many tokens rows have
abbrev token_count : List (List Token) → ℕ
token_count [] = 0
token_count (row ∷ rows) = length row + token_count rows

with_first : (t : Token) (rows : List (List Token)) → token_count (onto_first t rows) ≤ 1 + token_count rows
with_first t [] = omega arith
with_first t (row ∷ rows) = omega arith

split_by : (b : Bool) (t : Token) (rows : List (List Token)) (count : ℕ) → token_count rows ≤ count → token_count (cond b ([] ∷ rows) (onto_first t rows)) ≤ suc count
split_by true t rows count few = omega (arith, few)
split_by false t rows count few = let first = with_first t rows in omega (arith, few, first)

in_lines : (tokens : List Token) → token_count (lines tokens) ≤ length tokens
in_lines [] = omega arith
in_lines (t ∷ ts) = split_by (ends_line t) t (lines ts) (length ts) (in_lines ts)

in_rows : (rows : List (List Token)) → token_count (filter has_token rows) ≤ token_count rows
in_rows [] = omega arith
in_rows ([] ∷ rows) = let ih = in_rows rows in omega (arith, ih)
in_rows ((t ∷ ts) ∷ rows) = let ih = in_rows rows in omega (arith, ih)

-- ---- tokens of a text

in_text : (text : List ℕ) (end : ℕ) (tokens : List Token) → AllByRecursion (IsTokenOf text) tokens → AreTokensInOrder end tokens → end ≤ length text → end + length tokens ≤ length text
in_text text end [] each in_order within = omega (arith, within)
in_text text end (t ∷ ts) each in_order within =
    let ih = in_text text (t.at + t.len) ts each.1 in_order.1 each.0.within in
    let some = each.0.some in
    let after = in_order.0 in
    omega (arith, ih, some, after)

last_by : (b : Bool) (t : Token) (kept : List Token) (count : ℕ) → length kept ≤ count → length (if b then t ∷ kept else []) ≤ suc count
last_by true t kept count few = omega (arith, few)
last_by false t kept count few = omega arith

up_to_last : (tokens : List Token) → length (up_to_last_line tokens) ≤ length tokens
up_to_last [] = omega arith
up_to_last (t ∷ ts) = last_by (list_any ends_line (t ∷ ts)) t (up_to_last_line ts) (length ts) (up_to_last ts)

before_fault : (tokens : List Token) (fault : Option LexFault) → length (whole_lines tokens fault) ≤ length tokens
before_fault tokens None = omega arith
before_fault tokens (Some fault) = up_to_last tokens

read_tokens : (text : List ℕ) → length (tokens_before_fault_line (lexed_text text)) ≤ length text
read_tokens text =
    let slices : AreSlices text (lexed_text text).tokens = lexed_text-slices text in
    let all = in_text text 0 (lexed_text text).tokens (recursion_from_All (IsTokenOf text) (lexed_text text).tokens slices.each) slices.in_order (omega arith) in
    let kept = before_fault (lexed_text text).tokens (lexed_text text).fault in
    omega (arith, all, kept)

-- ---- rows of policies

-- a row of this many tokens that is a policy's has three or more
abbrev HasThree : ℕ → Statement → Type 0
HasThree n (says.Policy name binary) = 3 ≤ n
HasThree n _ = Unit {0}

of_script : (n : ℕ) (s : Statement) → kind_of s ≡ ScriptRow → HasThree n s
of_script n (says.Policy name binary) is = absurd (cc)
of_script n s is = tt

in_script : (n : ℕ) (o : Option Statement) → IfSome o IsSaidOutside → IfSome o (HasThree n)
in_script n None said = tt
in_script n (Some s) said = of_script n s said.1

of_thread : (n : ℕ) (s : Statement) → stands_in ThreadBody (kind_of s) ≡ true → HasThree n s
of_thread n (says.Policy name binary) is = absurd (cc)
of_thread n s is = tt

of_policy : (n : ℕ) (s : Statement) → stands_in PolicyBody (kind_of s) ≡ true → HasThree n s
of_policy n (says.Policy name binary) is = absurd (cc)
of_policy n s is = tt

policy_three : (text : List ℕ) (keyword : Token) (row : List Token) → IfSome (policy_row text row) (HasThree (length (keyword ∷ row)))
policy_three text keyword (name ∷ binary ∷ []) =
    let n : ℕ = length (keyword ∷ name ∷ binary ∷ []) in
    if_either (HasThree n) (is_quoted binary.kind) _ None (map_any (HasThree n) (λ w. says.Policy w (text_of_token text binary)) (word_at text name) (λ w. omega arith)) tt
policy_three text keyword _ = tt

outer_three : (text : List ℕ) (keyword : Token) (row : List Token) → IfSome (outer_row text keyword row) (HasThree (length (keyword ∷ row)))
outer_three text keyword row =
    let n : ℕ = length (keyword ∷ row) in
    if_either (HasThree n) (is_keyword text (codes "user") keyword) _ _ (in_script n (user_row text row) (user_said text row))
    (if_either (HasThree n) (is_keyword text (codes "group") keyword) _ _ (in_script n (group_row text row) (group_said text row))
    (if_either (HasThree n) (is_keyword text (codes "dir") keyword) _ _ (in_script n (dir_row text row) (dir_said text row))
    (if_either (HasThree n) (is_keyword text (codes "file") keyword) _ _ (in_script n (file_row text row) (file_said text row))
    (if_either (HasThree n) (is_keyword text (codes "link") keyword) _ _ (in_script n (link_row text row) (link_said text row))
    (if_either (HasThree n) (is_keyword text (codes "process") keyword) _ _ (in_script n (process_row text row) (process_said text row))
    (if_either (HasThree n) (is_keyword text (codes "thread") keyword) _ _ (in_script n (thread_row text row) (thread_said text row))
    (if_either (HasThree n) (is_keyword text (codes "reply") keyword) _ _ (in_script n (reply_row text row) (reply_said text row))
    (if_either (HasThree n) (is_keyword text (codes "policy") keyword) _ None (policy_three text keyword row) tt))))))))

if_of : (P Q : Statement → Type 0) (o : Option Statement) → IfSome o (λ s. P s × Q s) → (R : Statement → Type 0) → ((s : Statement) → Q s → R s) → IfSome o R
if_of P Q None is R all = tt
if_of P Q (Some s) is R all = all s is.1

three : (text : List ℕ) (body : OpenBody) (row : List Token) → IfSome (statement_of text body row) (HasThree (length row))
three text body [] = tt
three text NoBody (keyword ∷ row) = outer_three text keyword row
three text ThreadBody (keyword ∷ row) =
    if_of IsSaid (λ s. stands_in ThreadBody (kind_of s) ≡ true) (statement_of text ThreadBody (keyword ∷ row)) (row_said text ThreadBody (keyword ∷ row)) (HasThree (length (keyword ∷ row))) (of_thread (length (keyword ∷ row)))
three text PolicyBody (keyword ∷ row) =
    if_of IsSaid (λ s. stands_in PolicyBody (kind_of s) ≡ true) (statement_of text PolicyBody (keyword ∷ row)) (row_said text PolicyBody (keyword ∷ row)) (HasThree (length (keyword ∷ row))) (of_policy (length (keyword ∷ row)))

-- ---- policies of lines

one_more : (o : Option Name) (filters : List FilterValue) (blocks : List BinaryPolicy) → length (with_block o filters blocks) ≤ 1 + length blocks
one_more None filters blocks = omega arith
one_more (Some found) filters blocks = omega arith

counted_by : (env : Env) (number : ℕ) (o : Option Statement) (below : List ScriptLine) (n count : ℕ) → IfSome o (HasThree n) → 3 * length (blocks_in env below) ≤ count →
    3 * length (blocks_in env (record { number = number; says = o } ∷ below)) ≤ n + count
counted_by env number None below n count has few = omega (arith, few)
counted_by env number (Some (says.Policy name binary)) below n count has few = let more = one_more (policy_binary env binary) (filters_below env below) (blocks_in env below) in omega (arith, has, few, more)
counted_by env number (Some s) below n count has few = omega (arith, few)

counted : (env : Env) (text : List ℕ) (body : OpenBody) (rows : List (List Token)) → 3 * length (blocks_in env (script_lines_from text body rows)) ≤ token_count rows
counted env text body [] = omega arith
counted env text body (row ∷ rows) =
    counted_by env (line_saying row None).number (statement_of text body row) (script_lines_from text (body_after body (statement_of text body row)) rows) (length row) (token_count rows) (three text body row)
    (counted env text (body_after body (statement_of text body row)) rows)

abbrev pub HasFewPolicies : ReadScript → Type 0
HasFewPolicies script = length script.blocks < 2 ^ 31

abbrev pub HasFewFilters : ReadScript → Type 0
HasFewFilters script = filters_in script.blocks ≤ MOST_FILTERS

-- the policies of a script that is read have numbers of 31 bits
pub few_policies : (text : List ℕ) (options : Options) (emulation : Emulation) → length text < 2 ^ 32 → (script : ReadScript) → script_in text options emulation ≡ Ok script → HasFewPolicies script
few_policies text options emulation small = read_has HasFewPolicies text options emulation (λ uncut none.
    let tokens = tokens_before_fault_line (lexed_text text) in
    let policies = counted (whole_in text options emulation).env text NoBody (rows tokens) in
    let kept = in_rows (lines tokens) in
    let all = in_lines tokens in
    let read = read_tokens text in
    omega (arith, policies, kept, all, read, small))

-- and no more filters than a script may have
pub few_filters_read : (text : List ℕ) (options : Options) (emulation : Emulation) (script : ReadScript) → script_in text options emulation ≡ Ok script → HasFewFilters script
few_filters_read text options emulation = read_has HasFewFilters text options emulation (λ uncut none. few_filters (whole_in text options emulation) (whole_in text options emulation).env (lines_in text) none)
