-- What the lines of a script say: names in normal form, stores in memory, and no call that forks; and what they may say in the body of a
-- thread or of a policy, and outside.
use Rattle.std.proofs.Common.{◌≡◌, ◌≢◌, ℕ, ◌+◌, ◌*◌, ◌/◌, ◌%◌, ◌<◌, ◌==◌, Bool, true, false, ◌&&◌, if◌then◌else◌, nat_lt, List, [], ◌∷◌, codes, length, Option, Some, None, refl, ap, arith}
use Rattle.std.proofs.lemmas.Bool.{ltb-true}
use Rattle.std.specs.List.{AllByRecursion}
use Rattle.std.specs.Prelude.{IfSome, option_map, option_and_then}
use Rattle.st_calls.specs.Call.{call_named}
use Rattle.st_calls.specs.declared.call.SysCall.{SysCall}
use Rattle.st_calls.specs.declared.call.SysCall.TheVariants as calls
use Rattle.st_lex.specs.Text.{is_keyword, is_quoted, is_word, text_of_token}
use Rattle.st_lex.specs.declared.token.Token.{Token}
use Rattle.st_model.specs.declared.limits.TheConstants.{SPACE_BYTES, SPACE_WORDS}
use Rattle.st_model.specs.declared.object.NewKind.TheVariants as kind
use Rattle.st_model.specs.declared.object.NewNode.{NewNode}
use Rattle.st_statements.specs.Accounts.{user_row, group_row}
use Rattle.st_statements.specs.Instructions.{call_at, call_row, end_row, fork_row, reload_row, put_at, put_place, put_row, registers, store_row, unless_fork, word_place_at}
use Rattle.st_statements.specs.Objects.{dir_row, file_node, file_row, link_at, link_row, new_node, object_statement}
use Rattle.st_statements.specs.Parts.{if_normal, is_normal, path_at, place_at, quoted_at, text_of_tokens, unless_root, word_at}
use Rattle.st_statements.specs.Statements.{body_after, inner_row, outer_row, policy_body_row, script_lines_from, statement_of}
use Rattle.st_statements.specs.Tasks.{policy_row, process_row, reply_row, thread_row, traced_at}
use Rattle.st_statements.specs.Values.{id_at, mode_at, number_token, number_below}
use Rattle.st_statements.specs.declared.objects.TheConstants.{LINK_MODE}
use Rattle.st_statements.specs.declared.statement.OpenBody.{OpenBody}
use Rattle.st_statements.specs.declared.statement.OpenBody.TheVariants.{NoBody, ThreadBody, PolicyBody}
use Rattle.st_statements.specs.declared.statement.ScriptLine.{ScriptLine}
use Rattle.st_statements.specs.declared.statement.Statement.{Statement}
use Rattle.st_statements.specs.declared.statement.Statement.TheVariants as says

-- the paths of a statement are in normal form, its stores are in memory, and its call isn't fork
abbrev pub IsSaid : Statement → Type 0
IsSaid (says.Object path new) = is_normal path ≡ true
IsSaid (says.Process process) = is_normal process.cwd ≡ true
IsSaid (says.Store place word) = place < SPACE_WORDS
IsSaid (says.Put place bytes) = 8 * place + length bytes < SPACE_BYTES
IsSaid (says.Call call regs) = call ≢ calls.Fork
IsSaid _ = Unit {0}

-- the same of each line that says something
abbrev pub AreSaid : List ScriptLine → Type 0
AreSaid lines = AllByRecursion (λ line. IfSome line.says IsSaid) lines

-- the kinds of rows, by where they may stand
pub data RowKind : Type 0 where
  -- of the script, other than a policy
  ScriptRow : RowKind
  PolicyRow : RowKind
  InstructionRow : RowKind
  FilterRow : RowKind
  EndRow : RowKind

-- the kind of a row
abbrev pub kind_of : Statement → RowKind
kind_of (says.Policy name binary) = PolicyRow
kind_of (says.Filter text) = FilterRow
kind_of (says.Store place word) = InstructionRow
kind_of (says.Put place bytes) = InstructionRow
kind_of (says.Call call regs) = InstructionRow
kind_of (says.Fork name) = InstructionRow
kind_of (says.Reload name) = InstructionRow
kind_of says.End = EndRow
kind_of _ = ScriptRow

-- whether a row of this kind may stand in this body
abbrev pub stands_in : OpenBody → RowKind → Bool
stands_in NoBody ScriptRow = true
stands_in NoBody PolicyRow = true
stands_in ThreadBody InstructionRow = true
stands_in ThreadBody EndRow = true
stands_in PolicyBody FilterRow = true
stands_in PolicyBody EndRow = true
stands_in _ _ = false

-- the statements of lines, the first of which stands in this body, are where they may be
abbrev pub ArePlaced : OpenBody → List ScriptLine → Type 0
ArePlaced body [] = Unit {0}
ArePlaced body (line ∷ lines) = IfSome line.says (λ s. stands_in body (kind_of s) ≡ true) × ArePlaced (body_after body line.says) lines

-- what a row may say in a body, or outside
abbrev IsSaidIn : OpenBody → Statement → Type 0
IsSaidIn body s = IsSaid s × (stands_in body (kind_of s) ≡ true)

-- ---- what holds of an option

if_map : {A B : Type 0} (Q : A → Type 0) (P : B → Type 0) (f : A → B) (o : Option A) → IfSome o Q → ((a : A) → Q a → P (f a)) → IfSome (option_map f o) P
if_map Q P f None here all = tt
if_map Q P f (Some a) here all = all a here

if_then : {A B : Type 0} (Q : A → Type 0) (P : B → Type 0) (f : A → Option B) (o : Option A) → IfSome o Q → ((a : A) → Q a → IfSome (f a) P) → IfSome (option_and_then f o) P
if_then Q P f None here all = tt
if_then Q P f (Some a) here all = all a here

then_any : {A B : Type 0} (P : B → Type 0) (f : A → Option B) (o : Option A) → ((a : A) → IfSome (f a) P) → IfSome (option_and_then f o) P
then_any P f None all = tt
then_any P f (Some a) all = all a

pub map_any : {A B : Type 0} (P : B → Type 0) (f : A → B) (o : Option A) → ((a : A) → P (f a)) → IfSome (option_map f o) P
map_any P f None all = tt
map_any P f (Some a) all = all a

pub if_either : {B : Type 0} (P : B → Type 0) (b : Bool) (o p : Option B) → IfSome o P → IfSome p P → IfSome (if b then o else p) P
if_either P true o p this other = this
if_either P false o p this other = other

-- ---- names

abbrev IsNormal : List ℕ → Type 0
IsNormal name = is_normal name ≡ true

normal_by : (name : List ℕ) (b : Bool) → is_normal name ≡ b → IfSome (if b then Some name else None) IsNormal
normal_by name true is = is
normal_by name false is = tt

normal_path : (text : List ℕ) (token : Token) → IfSome (path_at text token) IsNormal
normal_path text token = then_any IsNormal if_normal (quoted_at text token) (λ name. normal_by name (is_normal name) refl)

below_root : (name : List ℕ) (b : Bool) → IsNormal name → IfSome (if b then Some name else None) IsNormal
below_root name true is = is
below_root name false is = tt

normal_place : (text : List ℕ) (token : Token) → IfSome (place_at text token) IsNormal
normal_place text token = if_then IsNormal IsNormal unless_root (path_at text token) (normal_path text token) (λ name is. below_root name _ is)

-- ---- rows

not_fork : (call : SysCall) → IfSome (unless_fork call) (λ c. c ≢ calls.Fork)
not_fork calls.Fork = tt
not_fork call = λ e. cc

-- what a row other than a policy's may say outside all bodies
abbrev pub IsSaidOutside : Statement → Type 0
IsSaidOutside s = IsSaid s × (kind_of s ≡ ScriptRow)

abbrev IsSaidInside : Statement → Type 0
IsSaidInside s = IsSaidIn ThreadBody s

outside : (o : Option Statement) → IfSome o IsSaidOutside → IfSome o (IsSaidIn NoBody)
outside None said = tt
outside (Some s) said = (said.0, ap (stands_in NoBody) said.1)

object_said : (path : Option (List ℕ)) (new : Option NewNode) → IfSome path IsNormal → IfSome (object_statement path new) IsSaidOutside
object_said path new is = if_then IsNormal IsSaidOutside (λ p. option_map (says.Object p) new) path is (λ p normal. map_any IsSaidOutside (says.Object p) new (λ n. (normal, refl)))

pub dir_said : (text : List ℕ) (row : List Token) → IfSome (dir_row text row) IsSaidOutside
dir_said text (path ∷ uid ∷ gid ∷ mode ∷ []) = object_said (place_at text path) (new_node (Some kind.Dir) (id_at text uid) (id_at text gid) (mode_at text mode)) (normal_place text path)
dir_said text _ = tt

pub file_said : (text : List ℕ) (row : List Token) → IfSome (file_row text row) IsSaidOutside
file_said text (path ∷ uid ∷ gid ∷ mode ∷ content ∷ []) = object_said (place_at text path) (file_node text uid gid mode content) (normal_place text path)
file_said text _ = tt

pub link_said : (text : List ℕ) (row : List Token) → IfSome (link_row text row) IsSaidOutside
link_said text (path ∷ uid ∷ gid ∷ target ∷ []) = object_said (place_at text path) (new_node (link_at text target) (id_at text uid) (id_at text gid) (Some LINK_MODE)) (normal_place text path)
link_said text _ = tt

pub process_said : (text : List ℕ) (row : List Token) → IfSome (process_row text row) IsSaidOutside
process_said text (name ∷ traced ∷ binary ∷ uid ∷ gid ∷ cwd ∷ []) =
    then_any IsSaidOutside _ (word_at text name) (λ n. then_any IsSaidOutside _ (traced_at text traced) (λ t. then_any IsSaidOutside _ (id_at text uid) (λ u. then_any IsSaidOutside _ (id_at text gid) (λ g.
    then_any IsSaidOutside _ (path_at text binary) (λ b. if_map IsNormal IsSaidOutside (λ c. says.Process (record { name = n; traced = t; binary = b; uid = u; gid = g; cwd = c })) (path_at text cwd) (normal_path text cwd) (λ c is. (is, refl)))))))
process_said text _ = tt

pub user_said : (text : List ℕ) (row : List Token) → IfSome (user_row text row) IsSaidOutside
user_said text (name ∷ uid ∷ gid ∷ home ∷ []) =
    then_any IsSaidOutside _ (word_at text name) (λ n. then_any IsSaidOutside _ (id_at text uid) (λ u. then_any IsSaidOutside _ (id_at text gid) (λ g. map_any IsSaidOutside (λ h. says.User (record { name = n; uid = u; gid = g; home = h })) (quoted_at text home) (λ h. (tt, refl)))))
user_said text _ = tt

pub group_said : (text : List ℕ) (row : List Token) → IfSome (group_row text row) IsSaidOutside
group_said text (name ∷ gid ∷ []) = then_any IsSaidOutside _ (word_at text name) (λ n. map_any IsSaidOutside (λ g. says.Group (record { name = n; gid = g })) (id_at text gid) (λ g. (tt, refl)))
group_said text _ = tt

pub thread_said : (text : List ℕ) (row : List Token) → IfSome (thread_row text row) IsSaidOutside
thread_said text (name ∷ []) = map_any IsSaidOutside (λ n. says.Thread n None) (word_at text name) (λ n. (tt, refl))
thread_said text (name ∷ within ∷ process ∷ []) =
    if_either IsSaidOutside (is_keyword text (codes "in") within) _ None (then_any IsSaidOutside _ (word_at text name) (λ n. map_any IsSaidOutside (λ p. says.Thread n (Some p)) (word_at text process) (λ p. (tt, refl)))) tt
thread_said text _ = tt

pub reply_said : (text : List ℕ) (row : List Token) → IfSome (reply_row text row) IsSaidOutside
reply_said text [] = tt
reply_said text (binary ∷ filter) = if_either IsSaidOutside _ (Some (says.Reply _ _)) None (tt, refl) tt

below_bound : (bound n : ℕ) (b : Bool) → nat_lt n bound ≡ b → IfSome (if b then Some n else None) (λ p. p < bound)
below_bound bound n true is = ltb-true n bound is
below_bound bound n false is = tt

word_within : (text : List ℕ) (token : Token) → IfSome (word_place_at text token) (λ p. p < SPACE_WORDS)
word_within text token = then_any (λ p. p < SPACE_WORDS) (number_below SPACE_WORDS) (number_token text token) (λ n. below_bound SPACE_WORDS n (nat_lt n SPACE_WORDS) refl)

store_said : (text : List ℕ) (row : List Token) → IfSome (store_row text row) IsSaidInside
store_said text (place ∷ word ∷ []) =
    if_then (λ p. p < SPACE_WORDS) IsSaidInside (λ p. option_map (says.Store p) (number_token text word)) (word_place_at text place) (word_within text place)
    (λ p within. map_any IsSaidInside (says.Store p) (number_token text word) (λ w. (within, refl)))
store_said text _ = tt

abbrev IsTextWithin : List ℕ → ℕ → Type 0
IsTextWithin bytes place = 8 * place + length bytes < SPACE_BYTES

text_within : (bytes : List ℕ) (at : ℕ) (a b : Bool) → nat_lt (at + length bytes) SPACE_BYTES ≡ b → IfSome (if a && b then Some (at / 8) else None) (IsTextWithin bytes)
text_within bytes at true true is = let within = ltb-true (at + length bytes) SPACE_BYTES is in omega (arith, within)
text_within bytes at true false is = tt
text_within bytes at false b is = tt

put_said : (text : List ℕ) (row : List Token) → IfSome (put_row text row) IsSaidInside
put_said text (at ∷ quoted ∷ []) = then_any IsSaidInside _ (quoted_at text quoted) (λ bytes. then_any IsSaidInside (put_at bytes) (number_token text at)
    (λ n. if_map (IsTextWithin bytes) IsSaidInside (λ p. says.Put p bytes) (put_place bytes n) (text_within bytes n (n % 8 == 0) (nat_lt (n + length bytes) SPACE_BYTES) refl) (λ p within. (within, refl))))
put_said text _ = tt

call_said : (text : List ℕ) (row : List Token) → IfSome (call_row text row) IsSaidInside
call_said text [] = tt
call_said text (name ∷ numbers) =
    if_then (λ c. c ≢ calls.Fork) IsSaidInside _ (call_at text name)
    (if_either (λ c. c ≢ calls.Fork) (is_word name.kind) (option_and_then unless_fork (call_named (text_of_token text name))) None (then_any (λ c. c ≢ calls.Fork) unless_fork (call_named (text_of_token text name)) not_fork) tt)
    (λ call other. map_any IsSaidInside (says.Call call) (registers text numbers) (λ regs. (other, refl)))

fork_said : (text : List ℕ) (row : List Token) → IfSome (fork_row text row) IsSaidInside
fork_said text (name ∷ []) = map_any IsSaidInside says.Fork (word_at text name) (λ n. (tt, refl))
fork_said text _ = tt

reload_said : (text : List ℕ) (row : List Token) → IfSome (reload_row text row) IsSaidInside
reload_said text (name ∷ []) = map_any IsSaidInside says.Reload (word_at text name) (λ n. (tt, refl))
reload_said text _ = tt

end_said : (body : OpenBody) (row : List Token) → stands_in body EndRow ≡ true → IfSome (end_row row) (IsSaidIn body)
end_said body [] stands = (tt, stands)
end_said body (token ∷ tokens) stands = tt

policy_said : (text : List ℕ) (row : List Token) → IfSome (policy_row text row) (IsSaidIn NoBody)
policy_said text (name ∷ binary ∷ []) =
    if_either (IsSaidIn NoBody) (is_quoted binary.kind) _ None (map_any (IsSaidIn NoBody) (λ n. says.Policy n (text_of_token text binary)) (word_at text name) (λ n. (tt, refl))) tt
policy_said text _ = tt

outer_said : (text : List ℕ) (keyword : Token) (row : List Token) → IfSome (outer_row text keyword row) (IsSaidIn NoBody)
outer_said text keyword row =
    if_either (IsSaidIn NoBody) (is_keyword text (codes "user") keyword) _ _ (outside (user_row text row) (user_said text row))
    (if_either (IsSaidIn NoBody) (is_keyword text (codes "group") keyword) _ _ (outside (group_row text row) (group_said text row))
    (if_either (IsSaidIn NoBody) (is_keyword text (codes "dir") keyword) _ _ (outside (dir_row text row) (dir_said text row))
    (if_either (IsSaidIn NoBody) (is_keyword text (codes "file") keyword) _ _ (outside (file_row text row) (file_said text row))
    (if_either (IsSaidIn NoBody) (is_keyword text (codes "link") keyword) _ _ (outside (link_row text row) (link_said text row))
    (if_either (IsSaidIn NoBody) (is_keyword text (codes "process") keyword) _ _ (outside (process_row text row) (process_said text row))
    (if_either (IsSaidIn NoBody) (is_keyword text (codes "thread") keyword) _ _ (outside (thread_row text row) (thread_said text row))
    (if_either (IsSaidIn NoBody) (is_keyword text (codes "reply") keyword) _ _ (outside (reply_row text row) (reply_said text row))
    (if_either (IsSaidIn NoBody) (is_keyword text (codes "policy") keyword) _ None (policy_said text row) tt))))))))

inner_said : (text : List ℕ) (keyword : Token) (row : List Token) → IfSome (inner_row text keyword row) IsSaidInside
inner_said text keyword row =
    if_either IsSaidInside (is_keyword text (codes "store") keyword) _ _ (store_said text row)
    (if_either IsSaidInside (is_keyword text (codes "put") keyword) _ _ (put_said text row)
    (if_either IsSaidInside (is_keyword text (codes "call") keyword) _ _ (call_said text row)
    (if_either IsSaidInside (is_keyword text (codes "fork") keyword) _ _ (fork_said text row)
    (if_either IsSaidInside (is_keyword text (codes "reload") keyword) _ _ (reload_said text row)
    (if_either IsSaidInside (is_keyword text (codes "end") keyword) _ None (end_said ThreadBody row refl) tt)))))

policy_body_said : (text : List ℕ) (keyword : Token) (row : List Token) → IfSome (policy_body_row text keyword row) (IsSaidIn PolicyBody)
policy_body_said text keyword row =
    if_either (IsSaidIn PolicyBody) (is_keyword text (codes "end") keyword) (end_row row) (Some (says.Filter (text_of_tokens text (keyword ∷ row)))) (end_said PolicyBody row refl) (tt, refl)

pub row_said : (text : List ℕ) (body : OpenBody) (row : List Token) → IfSome (statement_of text body row) (IsSaidIn body)
row_said text body [] = tt
row_said text NoBody (keyword ∷ row) = outer_said text keyword row
row_said text ThreadBody (keyword ∷ row) = inner_said text keyword row
row_said text PolicyBody (keyword ∷ row) = policy_body_said text keyword row

-- ---- lines

if_first : {A : Type 0} (P Q : A → Type 0) (o : Option A) → IfSome o (λ a. P a × Q a) → IfSome o P
if_first P Q None is = tt
if_first P Q (Some a) is = is.0

if_second : {A : Type 0} (P Q : A → Type 0) (o : Option A) → IfSome o (λ a. P a × Q a) → IfSome o Q
if_second P Q None is = tt
if_second P Q (Some a) is = is.1

-- each line of a script says such a statement, or nothing
pub lines_said : (text : List ℕ) (body : OpenBody) (rows : List (List Token)) → AreSaid (script_lines_from text body rows)
lines_said text body [] = tt
lines_said text body (row ∷ rows) =
    (if_first IsSaid (λ s. stands_in body (kind_of s) ≡ true) (statement_of text body row) (row_said text body row), lines_said text (body_after body (statement_of text body row)) rows)

-- and the statement is where it may be
pub lines_placed : (text : List ℕ) (body : OpenBody) (rows : List (List Token)) → ArePlaced body (script_lines_from text body rows)
lines_placed text body [] = tt
lines_placed text body (row ∷ rows) =
    (if_second IsSaid (λ s. stands_in body (kind_of s) ≡ true) (statement_of text body row) (row_said text body row), lines_placed text (body_after body (statement_of text body row)) rows)
