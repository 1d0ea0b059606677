-- The texts of a script's lines can be quoted, and its ids have 32 bits.
use Rattle.std.proofs.Common.{◌≡◌, ◌-◌, ◌^◌, ◌||◌, ℕ, zero, suc, Bool, true, false, cond, if◌then◌else◌, nat_eq, nat_le, nat_lt, List, [], ◌∷◌, codes, filter, length, take, drop, Option, Some, None, refl, ltb-true}
use Rattle.std.proofs.lemmas.Bool.{and_parts}
use Rattle.std.specs.List.{AllByRecursion, list_all, list_any, onto_first, slice_split, starts_with}
use Rattle.std.specs.Prelude.{IfSome, option_and_then, option_map}
use Rattle.st_lex.specs.Quote.{AreBytes}
use Rattle.st_lex.specs.Rows.{ends_line, has_token, rows}
use Rattle.st_lex.specs.Text.{inside, is_keyword, is_quoted, text_of_token}
use Rattle.st_lex.specs.Tokens.{lexed_text}
use Rattle.st_lex.specs.declared.token.LexFault.{LexFault}
use Rattle.st_lex.specs.declared.token.Token.{Token}
use Rattle.st_lex.specs.declared.token.TokenKind.{TokenKind}
use Rattle.st_lex.specs.declared.token.TokenKind.TheVariants as kinds
use Rattle.st_lex.proofs.Insides.{IsInside}
use Rattle.st_lex.proofs.Wholes.{HasInside, IsWholeToken, quotes_inside, words_whole}
use Rattle.st_model.specs.declared.object.NewKind.{NewKind}
use Rattle.st_model.specs.declared.object.NewKind.TheVariants as made
use Rattle.st_model.specs.declared.object.NewNode.{NewNode}
use Rattle.st_names.specs.Name.{split_at_slashes}
use Rattle.st_statements.specs.Accounts.{group_row, user_row}
use Rattle.st_statements.specs.Instructions.{call_at, call_row, end_row, fork_row, put_row, registers, reload_row, store_row}
use Rattle.st_statements.specs.Lines.{tokens_before_fault_line, up_to_last_line, whole_lines}
use Rattle.st_statements.specs.Objects.{dir_row, new_file, file_node, file_row, link_at, link_row, link_to, new_node, object_statement}
use Rattle.st_statements.specs.Parts.{last_end, if_normal, is_normal, is_plain_part, path_at, place_at, quoted_at, text_of_tokens, word_at}
use Rattle.st_statements.specs.Statements.{body_after, inner_row, policy_body_row, script_lines_from, lines_in, outer_row, statement_of}
use Rattle.st_statements.specs.Tasks.{policy_row, process_row, reply_row, thread_row, traced_at}
use Rattle.st_statements.specs.declared.statement.OpenBody.{OpenBody}
use Rattle.st_statements.specs.declared.statement.OpenBody.TheVariants.{NoBody, ThreadBody, PolicyBody}
use Rattle.st_statements.specs.Values.{id_at, mode_at, number_token, number_below}
use Rattle.st_statements.specs.declared.objects.TheConstants.{LINK_MODE}
use Rattle.st_statements.specs.declared.statement.ScriptLine.{ScriptLine}
use Rattle.st_statements.specs.declared.statement.Statement.{Statement}
use Rattle.st_statements.specs.declared.statement.Statement.TheVariants as says
use Rattle.st_relearn.specs.Plain.{HasPlainTarget}
use Rattle.st_relearn.specs.Writable.{IsId, IsWritableBinary}
use Rattle.st_relearn.proofs.Names.{each_filter}
use Rattle.st_relearn.proofs.Texts.{AreSmall, small_drop}
use Rattle.st_relearn.proofs.Quoting.{IsGood, quoted_plain, word_plain}

-- the texts of a statement can be quoted, its binary can be written, and its ids have 32 bits
abbrev pub IsPlainStatement : Statement → Type 0
IsPlainStatement (says.User user) = AreBytes user.name × AreBytes user.home × IsId user.uid
IsPlainStatement (says.Group group) = IsId group.gid
IsPlainStatement (says.Object path new) = HasPlainTarget new.kind
IsPlainStatement (says.Process process) = IsWritableBinary process.binary × AreBytes process.cwd
IsPlainStatement (says.Reply binary filter) = AreSmall filter
IsPlainStatement (says.Policy name binary) = IsInside (inside binary)
IsPlainStatement (says.Filter text) = AreSmall text
IsPlainStatement _ = Unit {0}

-- the same of each line that says something
abbrev pub ArePlainLines : List ScriptLine → Type 0
ArePlainLines lines = AllByRecursion (λ line. IfSome line.says IsPlainStatement) lines

-- ---- what holds of an option

pub if_map : {A B : Type 0} (Q : A → Type 0) (P : B → Type 0) (f : A → B) (o : Option A) → IfSome o Q → ((a : A) → Q a → P (f a)) → IfSome (option_map f o) P
if_map Q P f None here all = tt
if_map Q P f (Some a) here all = all a here

if_then : {A B : Type 0} (Q : A → Type 0) (P : B → Type 0) (f : A → Option B) (o : Option A) → IfSome o Q → ((a : A) → Q a → IfSome (f a) P) → IfSome (option_and_then f o) P
if_then Q P f None here all = tt
if_then Q P f (Some a) here all = all a here

then_any : {A B : Type 0} (P : B → Type 0) (f : A → Option B) (o : Option A) → ((a : A) → IfSome (f a) P) → IfSome (option_and_then f o) P
then_any P f None all = tt
then_any P f (Some a) all = all a

map_any : {A B : Type 0} (P : B → Type 0) (f : A → B) (o : Option A) → ((a : A) → P (f a)) → IfSome (option_map f o) P
map_any P f None all = tt
map_any P f (Some a) all = all a

pub if_either : {B : Type 0} (P : B → Type 0) (b : Bool) (o p : Option B) → IfSome o P → IfSome p P → IfSome (if b then o else p) P
if_either P true o p this other = this
if_either P false o p this other = other

-- ---- values

id_small : (text : List ℕ) (token : Token) → IfSome (id_at text token) IsId
id_small text token = then_any IsId (number_below (2 ^ 32)) (number_token text token) (λ n. below n (nat_lt n (2 ^ 32)) refl) where
  below : (n : ℕ) (b : Bool) → nat_lt n (2 ^ 32) ≡ b → IfSome (if b then Some n else None) IsId
  below n true is = ltb-true n (2 ^ 32) is
  below n false is = tt

path_plain : (text : List ℕ) (token : Token) → IsGood text token → IfSome (path_at text token) IsWritableBinary
path_plain text token good = if_then AreBytes IsWritableBinary if_normal (quoted_at text token) (quoted_plain text token good) (λ name bytes. normal name bytes (is_normal name) refl) where
  normal : (name : List ℕ) → AreBytes name → (b : Bool) → is_normal name ≡ b → IfSome (if b then Some name else None) IsWritableBinary
  normal name bytes true is =
      let first : starts_with nat_eq name (codes "/") ≡ true = (and_parts (starts_with nat_eq name (codes "/")) (nat_le (length name) 1 || list_all is_plain_part (split_at_slashes (drop 1 name))) is).0 in
      record { absolute = λ k. cond (first k) (Some name) None; bytes = bytes }
  normal name bytes false is = tt

-- ---- rows

abbrev AreGood : List ℕ → List Token → Type 0
AreGood text row = AllByRecursion (IsGood text) row

user_plain : (text : List ℕ) (row : List Token) → AreGood text row → IfSome (user_row text row) IsPlainStatement
user_plain text (name ∷ uid ∷ gid ∷ home ∷ []) good =
    if_then AreBytes IsPlainStatement _ (word_at text name) (word_plain text name good.0) (λ n named. if_then IsId IsPlainStatement _ (id_at text uid) (id_small text uid) (λ u small. then_any IsPlainStatement _ (id_at text gid) (λ g.
    if_map AreBytes IsPlainStatement (λ h. says.User (record { name = n; uid = u; gid = g; home = h })) (quoted_at text home) (quoted_plain text home good.1.1.1.0) (λ h held. (named, held, small)))))
user_plain text _ good = tt

group_plain : (text : List ℕ) (row : List Token) → IfSome (group_row text row) IsPlainStatement
group_plain text (name ∷ gid ∷ []) = then_any IsPlainStatement _ (word_at text name) (λ n. if_map IsId IsPlainStatement (λ g. says.Group (record { name = n; gid = g })) (id_at text gid) (id_small text gid) (λ g small. small))
group_plain text _ = tt

-- the text of a new object can be quoted, and its ids have 32 bits
abbrev IsPlainNew : NewNode → Type 0
IsPlainNew new = HasPlainTarget new.kind

node_plain : (kind : Option NewKind) (uid gid mode : Option ℕ) → IfSome kind HasPlainTarget → IfSome (new_node kind uid gid mode) IsPlainNew
node_plain kind uid gid mode is =
    if_then HasPlainTarget IsPlainNew _ kind is (λ k plain. then_any IsPlainNew _ uid (λ u. then_any IsPlainNew _ gid (λ g. map_any IsPlainNew (λ m. record { kind = k; uid = u; gid = g; mode = m }) mode (λ m. plain))))

object_plain : (path : Option (List ℕ)) (new : Option NewNode) → IfSome new IsPlainNew → IfSome (object_statement path new) IsPlainStatement
object_plain path new is = then_any IsPlainStatement (λ p. option_map (says.Object p) new) path (λ p. if_map IsPlainNew IsPlainStatement (says.Object p) new is (λ n plain. plain))

dir_plain : (text : List ℕ) (row : List Token) → IfSome (dir_row text row) IsPlainStatement
dir_plain text (path ∷ uid ∷ gid ∷ mode ∷ []) = object_plain (place_at text path) _ (node_plain (Some made.Dir) (id_at text uid) (id_at text gid) (mode_at text mode) tt)
dir_plain text _ = tt

file_plain : (text : List ℕ) (row : List Token) → IfSome (file_row text row) IsPlainStatement
file_plain text (path ∷ uid ∷ gid ∷ mode ∷ content ∷ []) =
    object_plain (place_at text path) (file_node text uid gid mode content) (node_plain (new_file text content) (id_at text uid) (id_at text gid) (mode_at text mode) (map_any HasPlainTarget made.File (quoted_at text content) (λ c. tt)))
file_plain text _ = tt

link_plain : (text : List ℕ) (row : List Token) → AreGood text row → IfSome (link_row text row) IsPlainStatement
link_plain text (path ∷ uid ∷ gid ∷ target ∷ []) good =
    object_plain (place_at text path) _ (node_plain (link_at text target) (id_at text uid) (id_at text gid) (Some LINK_MODE) (if_then AreBytes HasPlainTarget link_to (quoted_at text target) (quoted_plain text target good.1.1.1.0) to_plain)) where
      to_plain : (t : List ℕ) → AreBytes t → IfSome (link_to t) HasPlainTarget
      to_plain [] plain = tt
      to_plain (byte ∷ bytes) plain = plain
link_plain text _ good = tt

process_plain : (text : List ℕ) (row : List Token) → AreGood text row → IfSome (process_row text row) IsPlainStatement
process_plain text (name ∷ traced ∷ binary ∷ uid ∷ gid ∷ cwd ∷ []) good =
    then_any IsPlainStatement _ (word_at text name) (λ n. then_any IsPlainStatement _ (traced_at text traced) (λ t. then_any IsPlainStatement _ (id_at text uid) (λ u. then_any IsPlainStatement _ (id_at text gid) (λ g.
    if_then IsWritableBinary IsPlainStatement _ (path_at text binary) (path_plain text binary good.1.1.0) (λ b written.
    if_map IsWritableBinary IsPlainStatement (λ c. says.Process (record { name = n; traced = t; binary = b; uid = u; gid = g; cwd = c })) (path_at text cwd) (path_plain text cwd good.1.1.1.1.1.0) (λ c is. (written, is.bytes)))))))
process_plain text _ good = tt

thread_plain : (text : List ℕ) (row : List Token) → IfSome (thread_row text row) IsPlainStatement
thread_plain text (name ∷ []) = map_any IsPlainStatement (λ n. says.Thread n None) (word_at text name) (λ n. tt)
thread_plain text (name ∷ within ∷ process ∷ []) =
    if_either IsPlainStatement (is_keyword text (codes "in") within) _ None (then_any IsPlainStatement _ (word_at text name) (λ n. map_any IsPlainStatement (λ p. says.Thread n (Some p)) (word_at text process) (λ p. tt))) tt
thread_plain text _ = tt

small_take : (n : ℕ) (bs : List ℕ) → AreSmall bs → AreSmall (take n bs)
small_take zero bs small = tt
small_take (suc n) [] small = tt
small_take (suc n) (b ∷ bs) small = (small.0, small_take n bs small.1)

tokens_small : (text : List ℕ) (tokens : List Token) → AreSmall text → AreSmall (text_of_tokens text tokens)
tokens_small text [] small = tt
tokens_small text (token ∷ tokens) small = small_take (last_end token tokens - token.at) (drop token.at text) (small_drop token.at text small)

reply_plain : (text : List ℕ) (row : List Token) → AreSmall text → IfSome (reply_row text row) IsPlainStatement
reply_plain text [] small = tt
reply_plain text (binary ∷ filter) small = if_either IsPlainStatement (is_quoted binary.kind) (Some (says.Reply (text_of_token text binary) (text_of_tokens text filter))) None (tokens_small text filter small) tt

policy_plain : (text : List ℕ) (row : List Token) → AreGood text row → IfSome (policy_row text row) IsPlainStatement
policy_plain text (name ∷ binary ∷ []) good = by binary.kind good.1.0.1 where
  by : (k : TokenKind) → (k ≡ kinds.Quoted → IsInside (inside (text_of_token text binary))) → IfSome (if is_quoted k then option_map (λ n. says.Policy n (text_of_token text binary)) (word_at text name) else None) IsPlainStatement
  by kinds.Quoted well = map_any IsPlainStatement (λ n. says.Policy n (text_of_token text binary)) (word_at text name) (λ n. well refl)
  by _ well = tt
policy_plain text _ good = tt

store_plain : (text : List ℕ) (row : List Token) → IfSome (store_row text row) IsPlainStatement
store_plain text (place ∷ word ∷ []) = then_any IsPlainStatement _ _ (λ p. map_any IsPlainStatement (says.Store p) (number_token text word) (λ w. tt))
store_plain text _ = tt

put_plain : (text : List ℕ) (row : List Token) → IfSome (put_row text row) IsPlainStatement
put_plain text (at ∷ quoted ∷ []) = then_any IsPlainStatement _ (quoted_at text quoted) (λ bytes. then_any IsPlainStatement _ (number_token text at) (λ n. map_any IsPlainStatement (λ p. says.Put p bytes) _ (λ p. tt)))
put_plain text _ = tt

call_plain : (text : List ℕ) (row : List Token) → IfSome (call_row text row) IsPlainStatement
call_plain text [] = tt
call_plain text (name ∷ numbers) =
    then_any IsPlainStatement (λ call. option_map (says.Call call) (registers text numbers)) (call_at text name) (λ call. map_any IsPlainStatement (says.Call call) (registers text numbers) (λ regs. tt))

fork_plain : (text : List ℕ) (row : List Token) → IfSome (fork_row text row) IsPlainStatement
fork_plain text (name ∷ []) = map_any IsPlainStatement says.Fork (word_at text name) (λ n. tt)
fork_plain text _ = tt

reload_plain : (text : List ℕ) (row : List Token) → IfSome (reload_row text row) IsPlainStatement
reload_plain text (name ∷ []) = map_any IsPlainStatement says.Reload (word_at text name) (λ n. tt)
reload_plain text _ = tt

end_plain : (row : List Token) → IfSome (end_row row) IsPlainStatement
end_plain [] = tt
end_plain (token ∷ tokens) = tt

outer_plain : (text : List ℕ) (keyword : Token) (row : List Token) → AreSmall text → AreGood text row → IfSome (outer_row text keyword row) IsPlainStatement
outer_plain text keyword row small good =
    if_either IsPlainStatement (is_keyword text (codes "user") keyword) _ _ (user_plain text row good)
    (if_either IsPlainStatement (is_keyword text (codes "group") keyword) _ _ (group_plain text row)
    (if_either IsPlainStatement (is_keyword text (codes "dir") keyword) _ _ (dir_plain text row)
    (if_either IsPlainStatement (is_keyword text (codes "file") keyword) _ _ (file_plain text row)
    (if_either IsPlainStatement (is_keyword text (codes "link") keyword) _ _ (link_plain text row good)
    (if_either IsPlainStatement (is_keyword text (codes "process") keyword) _ _ (process_plain text row good)
    (if_either IsPlainStatement (is_keyword text (codes "thread") keyword) _ _ (thread_plain text row)
    (if_either IsPlainStatement (is_keyword text (codes "reply") keyword) _ _ (reply_plain text row small)
    (if_either IsPlainStatement (is_keyword text (codes "policy") keyword) _ None (policy_plain text row good) tt))))))))

inner_plain : (text : List ℕ) (keyword : Token) (row : List Token) → IfSome (inner_row text keyword row) IsPlainStatement
inner_plain text keyword row =
    if_either IsPlainStatement (is_keyword text (codes "store") keyword) _ _ (store_plain text row)
    (if_either IsPlainStatement (is_keyword text (codes "put") keyword) _ _ (put_plain text row)
    (if_either IsPlainStatement (is_keyword text (codes "call") keyword) _ _ (call_plain text row)
    (if_either IsPlainStatement (is_keyword text (codes "fork") keyword) _ _ (fork_plain text row)
    (if_either IsPlainStatement (is_keyword text (codes "reload") keyword) _ _ (reload_plain text row)
    (if_either IsPlainStatement (is_keyword text (codes "end") keyword) _ None (end_plain row) tt)))))

policy_body_plain : (text : List ℕ) (keyword : Token) (row : List Token) → AreSmall text → IfSome (policy_body_row text keyword row) IsPlainStatement
policy_body_plain text keyword row small = if_either IsPlainStatement (is_keyword text (codes "end") keyword) _ _ (end_plain row) (tokens_small text (keyword ∷ row) small)

row_plain : (text : List ℕ) (body : OpenBody) (row : List Token) → AreSmall text → AreGood text row → IfSome (statement_of text body row) IsPlainStatement
row_plain text body [] small good = tt
row_plain text ThreadBody (keyword ∷ row) small good = inner_plain text keyword row
row_plain text PolicyBody (keyword ∷ row) small good = policy_body_plain text keyword row small
row_plain text NoBody (keyword ∷ row) small good = outer_plain text keyword row small good.1

lines_plain : (text : List ℕ) (body : OpenBody) (rows : List (List Token)) → AreSmall text → AllByRecursion (AreGood text) rows → ArePlainLines (script_lines_from text body rows)
lines_plain text body [] small good = tt
lines_plain text body (row ∷ rows) small good =
    (row_plain text body row small good.0, lines_plain text (body_after body (statement_of text body row)) rows small good.1)

-- ---- the tokens of rows

module _ (P : Token → Type 0) where
  onto_each : (token : Token) (parts : List (List Token)) → P token → AllByRecursion (AllByRecursion P) parts → AllByRecursion (AllByRecursion P) (onto_first token parts)
  onto_each token [] here each = ((here, tt), tt)
  onto_each token (part ∷ parts) here each = ((here, each.0), each.1)

  split_each : (tokens : List Token) → AllByRecursion P tokens → AllByRecursion (AllByRecursion P) (slice_split ends_line tokens)
  split_each [] each = (tt, tt)
  split_each (token ∷ tokens) each = by (ends_line token) (split_each tokens each.1) where
    by : (b : Bool) → AllByRecursion (AllByRecursion P) (slice_split ends_line tokens) → AllByRecursion (AllByRecursion P) (cond b ([] ∷ slice_split ends_line tokens) (onto_first token (slice_split ends_line tokens)))
    by true rest = (tt, rest)
    by false rest = onto_each token (slice_split ends_line tokens) each.0 rest

  rows_each : (tokens : List Token) → AllByRecursion P tokens → AllByRecursion (AllByRecursion P) (rows tokens)
  rows_each tokens each = each_filter (AllByRecursion P) has_token (slice_split ends_line tokens) (split_each tokens each)

  last_each : (tokens : List Token) → AllByRecursion P tokens → AllByRecursion P (up_to_last_line tokens)
  last_each [] each = tt
  last_each (token ∷ tokens) each = by (list_any ends_line (token ∷ tokens)) (last_each tokens each.1) where
    by : (b : Bool) → AllByRecursion P (up_to_last_line tokens) → AllByRecursion P (cond b (token ∷ up_to_last_line tokens) [])
    by true rest = (each.0, rest)
    by false rest = tt

  whole_each : (tokens : List Token) (fault : Option LexFault) → AllByRecursion P tokens → AllByRecursion P (whole_lines tokens fault)
  whole_each tokens None each = each
  whole_each tokens (Some fault) each = last_each tokens each

both_each : (P Q : Token → Type 0) (tokens : List Token) → AllByRecursion P tokens → AllByRecursion Q tokens → AllByRecursion (λ token. P token × Q token) tokens
both_each P Q [] x y = tt
both_each P Q (token ∷ tokens) x y = ((x.0, y.0), both_each P Q tokens x.1 y.1)

-- the lines of a text of bytes
pub script_lines : (text : List ℕ) → AreSmall text → ArePlainLines (lines_in text)
script_lines text small =
    let good : AllByRecursion (IsGood text) (lexed_text text).tokens = both_each (IsWholeToken text) (HasInside text) (lexed_text text).tokens (words_whole text) (quotes_inside text small) in
    lines_plain text NoBody (rows (tokens_before_fault_line (lexed_text text))) small (rows_each (IsGood text) (tokens_before_fault_line (lexed_text text)) (whole_each (IsGood text) (lexed_text text).tokens (lexed_text text).fault good))
