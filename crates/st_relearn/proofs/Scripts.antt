-- The texts, ids and replies of a script that is read can be written.
use Rattle.std.proofs.Common.{◌≡◌, ◌≤◌, ◌<◌, ◌==◌, ◌∙◌, ◌++◌, ℕ, Bool, true, false, cond, if◌then◌else◌, List, [], ◌∷◌, codes, map, Option, Some, None, Ok, Err, refl, sym, subst, ap}
use Rattle.std.proofs.lemmas.List.Elements.{All-from_recursion, recursion_from_All}
use Rattle.std.specs.List.{AllByRecursion, cons_option, filter_map, starts_with}
use Rattle.std.specs.Prelude.{IfSome, find, nat_eq}
use Rattle.st_base.specs.declared.ids.Ids.{Ids}
use Rattle.st_calls.specs.declared.argument.ArgText.{ArgText}
use Rattle.st_calls.specs.declared.call.SysCall.{SysCall}
use Rattle.st_emulation.specs.declared.emulation.Emulation.{Emulation}
use Rattle.st_emulation.specs.declared.emulation.Emulation.TheVariants.{Native, Linux}
use Rattle.st_filter.specs.Formula.{FilterValue}
use Rattle.st_filter.specs.Policies.{filters_in}
use Rattle.st_filter.specs.declared.filter.Action.{Action}
use Rattle.st_filter.specs.declared.filter.Action.TheVariants.{Permit, Deny, Ask}
use Rattle.st_filter.specs.declared.set.BinaryPolicy.{BinaryPolicy}
use Rattle.st_filter.specs.declared.set.Reply.{Reply}
use Rattle.st_filter.specs.declared.set.TheConstants.{MOST_FILTERS}
use Rattle.st_law.specs.History.{looking_back}
use Rattle.st_law.specs.Lawful.{IsLawfulBack}
use Rattle.st_law.specs.Threads.{History}
use Rattle.st_law.specs.declared.input.Mode.TheVariants.{Learn}
use Rattle.st_law.specs.declared.input.Options.{Options}
use Rattle.st_learn.specs.Learnt.{learnt_in}
use Rattle.st_lex.specs.Quote.{AreBytes}
use Rattle.st_lex.specs.Text.{inside}
use Rattle.st_lex.specs.Tokens.{lexed_text}
use Rattle.st_lex.specs.Unquote.{unquoted}
use Rattle.st_lex.proofs.Holdings.{holds_bytes}
use Rattle.st_grammar.specs.Grammar.{if_absolute}
use Rattle.st_names.specs.Name.{components_of}
use Rattle.st_grammar.specs.OneFilter.{FilterResult, ReadsFilter, filter_in}
use Rattle.st_reread.specs.Readable.{AreTextBytes, HasPlainDollars, HasSmallIds, WasRead}
use Rattle.st_grammar.specs.declared.env.Env.{Env}
use Rattle.st_script_names.specs.Environment.{dollars_by, dollars_of, environment_of, first_traced, group_id, groups_below, is_given, learns, new_group, new_user, script_process, user_id, user_of, users_below}
use Rattle.st_script_faults.specs.Faults.{filter_read, filter_said, policy_said, reply_filter, reply_said, script_fault, unless_ask}
use Rattle.st_script_names.specs.Names.{Name, is_name_among, with_new_name}
use Rattle.st_script_faults.specs.declared.fault.ScriptFault.{ScriptFault}
use Rattle.st_script.specs.Reading.{blocks_in, filters_below, object_said, process_said, script_in, script_with, start_of, unless_begun, unless_fault, with_block}
use Rattle.st_script.specs.Startable.{IsRunnableScript, input_with, native_start}
use Rattle.st_script.specs.declared.reading.ReadScript.{ReadScript}
use Rattle.st_statements.specs.Parts.{is_normal}
use Rattle.st_statements.specs.Statements.{lines_in}
use Rattle.st_statements.specs.declared.statement.ScriptLine.{ScriptLine}
use Rattle.st_statements.specs.declared.statement.ScriptProcess.{ScriptProcess}
use Rattle.st_statements.specs.declared.statement.Statement.{Statement}
use Rattle.st_statements.specs.declared.statement.Statement.TheVariants as says
use Rattle.st_trace.specs.declared.entry.CallResult.{CallResult}
use Rattle.st_trace.specs.declared.start.Start.{Start}
use Rattle.st_trace.specs.declared.entry.Change.{Change}
use Rattle.st_trace.specs.declared.entry.Entry.TheVariants.{Used}
use Rattle.st_trace.specs.declared.start.GroupRow.{GroupRow}
use Rattle.st_trace.specs.declared.start.TreeRow.{TreeRow}
use Rattle.st_trace.specs.declared.start.UserRow.{UserRow}
use Rattle.st_relearn.specs.Plain.{HasPlainTarget, HasPlainTexts, IsPlainProcess}
use Rattle.st_relearn.specs.Relearnt.{ReadsAndPermits, learnt_policy_text}
use Rattle.st_relearn.specs.Scripts.{HasPlainScript}
use Rattle.st_relearn.specs.Writable.{IsId, IsWritableBinary, IsWritableFilter, IsWritablePolicy}
use Rattle.st_relearn.proofs.Lines.{ArePlainLines, IsPlainStatement, if_either, if_map, script_lines}
use Rattle.st_relearn.proofs.Names.{components_plain}
use Rattle.st_relearn.proofs.Replies.{reply_is_writable}
use Rattle.st_relearn.proofs.Runs.{PermitsMade, ReadsOnce, learnt_permits_made}
use Rattle.st_relearn.proofs.Texts.{decimal_plain, plain_test}

-- ---- rows of lines

each_given : {X Y : Type 0} (P : X → Type 0) (Q : Y → Type 0) (f : X → Option Y) (xs : List X) → AllByRecursion P xs → ((x : X) → P x → IfSome (f x) Q) → AllByRecursion Q (filter_map f xs)
each_given P Q f [] all gives = tt
each_given {Y = Y} P Q f (x ∷ xs) all gives = by (f x) (gives x all.0) (each_given P Q f xs all.1 gives) where
  by : (o : Option Y) → IfSome o Q → AllByRecursion Q (filter_map f xs) → AllByRecursion Q (cons_option o (filter_map f xs))
  by None here rest = rest
  by (Some y) here rest = (here, rest)

-- the statement of a line is plain
abbrev IsPlainLine : ScriptLine → Type 0
IsPlainLine line = IfSome line.says IsPlainStatement

process_plain : (o : Option Statement) → IfSome o IsPlainStatement → IfSome (process_said o) IsPlainProcess
process_plain (Some (says.Process process)) plain = record { binary = plain.0; cwd = All-from_recursion AreBytes (components_of process.cwd) (components_plain process.cwd plain.1) }
process_plain _ plain = tt

abbrev IsPlainObject : TreeRow → Type 0
IsPlainObject row = HasPlainTarget row.new.kind

object_plain : (o : Option Statement) → IfSome o IsPlainStatement → IfSome (object_said o) IsPlainObject
object_plain (Some (says.Object path new)) plain = plain
object_plain _ plain = tt

start_plain : (lines : List ScriptLine) → ArePlainLines lines → HasPlainTexts (start_of lines)
start_plain lines plain = record {
  processes = All-from_recursion IsPlainProcess _ (each_given IsPlainLine IsPlainProcess (λ line. process_said line.says) lines plain (λ line here. process_plain line.says here));
  targets = All-from_recursion IsPlainObject _ (each_given IsPlainLine IsPlainObject (λ line. object_said line.says) lines plain (λ line here. object_plain line.says here));
}

-- and so can those of a start that is made native
native_plain : (emulation : Emulation) (start : Start) → HasPlainTexts start → HasPlainTexts (native_start emulation start)
native_plain Native start plain = plain
native_plain Linux start plain = record { processes = plain.processes; targets = plain.targets }

-- ---- the environment

abbrev IsPlainUser : UserRow → Type 0
IsPlainUser user = AreBytes user.name × AreBytes user.home × IsId user.uid

new_user_plain : (known : List Name) (o : Option Statement) → IfSome o IsPlainStatement → IfSome (new_user known o) IsPlainUser
new_user_plain known (Some (says.User user)) plain = if_either IsPlainUser (is_name_among known user.name) None (Some user) tt plain
new_user_plain known _ plain = tt

users_plain : (known : List Name) (lines : List ScriptLine) → ArePlainLines lines → AllByRecursion IsPlainUser (users_below known lines)
users_plain known [] plain = tt
users_plain known (line ∷ lines) plain = by (new_user known line.says) (new_user_plain known line.says plain.0) (λ names. users_plain names lines plain.1) where
  by : (o : Option UserRow) → IfSome o IsPlainUser → ((names : List Name) → AllByRecursion IsPlainUser (users_below names lines))
      → AllByRecursion IsPlainUser (elim o [ Some user ↦ user ∷ users_below (with_new_name known user.name) lines | None ↦ users_below known lines ])
  by None here rest = rest known
  by (Some user) here rest = (here, rest (with_new_name known user.name))

abbrev IsPlainGroup : GroupRow → Type 0
IsPlainGroup group = IsId group.gid

new_group_plain : (known : List Name) (o : Option Statement) → IfSome o IsPlainStatement → IfSome (new_group known o) IsPlainGroup
new_group_plain known (Some (says.Group group)) plain = if_either IsPlainGroup (is_name_among known group.name) None (Some group) tt plain
new_group_plain known _ plain = tt

groups_plain : (known : List Name) (lines : List ScriptLine) → ArePlainLines lines → AllByRecursion IsPlainGroup (groups_below known lines)
groups_plain known [] plain = tt
groups_plain known (line ∷ lines) plain = by (new_group known line.says) (new_group_plain known line.says plain.0) (λ names. groups_plain names lines plain.1) where
  by : (o : Option GroupRow) → IfSome o IsPlainGroup → ((names : List Name) → AllByRecursion IsPlainGroup (groups_below names lines))
      → AllByRecursion IsPlainGroup (elim o [ Some group ↦ group ∷ groups_below (with_new_name known group.name) lines | None ↦ groups_below known lines ])
  by None here rest = rest known
  by (Some group) here rest = (here, rest (with_new_name known group.name))

abbrev IsPlainTraced : ScriptProcess → Type 0
IsPlainTraced process = AreBytes process.cwd

process_given : (o : Option Statement) → IfSome o IsPlainStatement → IfSome (script_process o) IsPlainTraced
process_given (Some (says.Process process)) plain = plain.1
process_given _ plain = tt

traced_plain : (known : List Name) (lines : List ScriptLine) → ArePlainLines lines → IfSome (first_traced known lines) IsPlainTraced
traced_plain known [] plain = tt
traced_plain known (line ∷ lines) plain = by (script_process line.says) (process_given line.says plain.0) (λ names. traced_plain names lines plain.1) where
  by : (o : Option ScriptProcess) → IfSome o IsPlainTraced → ((names : List Name) → IfSome (first_traced names lines) IsPlainTraced)
      → IfSome (elim o [ Some process ↦ if is_given known process then Some process else first_traced (with_new_name known process.name) lines | None ↦ first_traced known lines ]) IsPlainTraced
  by None here rest = rest known
  by (Some process) here rest = if_either IsPlainTraced (is_given known process) (Some process) (first_traced (with_new_name known process.name) lines) here (rest (with_new_name known process.name))

found_plain : (is : UserRow → Bool) (users : List UserRow) → AllByRecursion IsPlainUser users → IfSome (find is users) IsPlainUser
found_plain is [] all = tt
found_plain is (user ∷ users) all = by (is user) (found_plain is users all.1) where
  by : (b : Bool) → IfSome (find is users) IsPlainUser → IfSome (cond b (Some user) (find is users)) IsPlainUser
  by true rest = all.0
  by false rest = rest

-- the three texts can be quoted
abbrev ArePlainDollars : (home user cwd : List ℕ) → Type 0
ArePlainDollars home user cwd = AreBytes home × AreBytes user × AreBytes cwd

user_dollars : (uid : ℕ) (cwd : Name) (o : Option UserRow) → AreBytes cwd → IfSome o IsPlainUser → ArePlainDollars (dollars_by uid cwd o).home (dollars_by uid cwd o).user (dollars_by uid cwd o).cwd
user_dollars uid cwd (Some user) plain here = (here.1, here.0, plain)
user_dollars uid cwd None plain here = (plain_test (codes "/") refl, decimal_plain uid, plain)

dollars_plain : (options : Options) (users : List UserRow) (o : Option ScriptProcess) → AllByRecursion IsPlainUser users → IfSome o IsPlainTraced → ArePlainDollars (dollars_of options users o).home (dollars_of options users o).user (dollars_of options users o).cwd
dollars_plain options users None all here = (plain_test (codes "/root") refl, plain_test (codes "root") refl, plain_test (codes "/") refl)
dollars_plain options users (Some process) all here =
    user_dollars (user_of options process) process.cwd (find (λ user. user.uid == user_of options process) users) here (found_plain (λ user. user.uid == user_of options process) users all)

user_ids : (users : List UserRow) → AllByRecursion IsPlainUser users → AllByRecursion (λ row. IsId row.id) (map user_id users)
user_ids [] all = tt
user_ids (user ∷ users) all = (all.0.2, user_ids users all.1)

group_ids : (groups : List GroupRow) → AllByRecursion IsPlainGroup groups → AllByRecursion (λ row. IsId row.id) (map group_id groups)
group_ids [] all = tt
group_ids (group ∷ groups) all = (all.0, group_ids groups all.1)

module _ (options : Options) (lines : List ScriptLine) (emulation : Emulation) (plain : ArePlainLines lines) where
  abbrev env : Env
  env = environment_of options lines emulation

  plain_dollars : HasPlainDollars env
  plain_dollars =
      let three = dollars_plain options (users_below [] lines) (first_traced [] lines) (users_plain [] lines plain) (traced_plain [] lines plain) in
      record { home = three.0; user = three.1; cwd = three.2 }

  small_ids : HasSmallIds env
  small_ids = record {
    users = All-from_recursion (λ row. IsId row.id) (map user_id (users_below [] lines)) (user_ids (users_below [] lines) (users_plain [] lines plain));
    groups = All-from_recursion (λ row. IsId row.id) (map group_id (groups_below [] lines)) (group_ids (groups_below [] lines) (groups_plain [] lines plain));
  }

  -- ---- replies

  module _ (sound : (text : List ℕ) (e : Env) (f : FilterValue) → filter_in text e ≡ Ok f → ReadsFilter text e f) where
    abbrev IsWritableReply : Reply → Type 0
    IsWritableReply reply = IsWritableFilter env reply.filter

    answer_by : (f : FilterValue) (a : Action) → IsWritableFilter env f → IfSome (unless_ask f a) (IsWritableFilter env)
    answer_by f Permit w = w
    answer_by f (Deny errno) w = w
    answer_by f Ask w = tt

    answer_plain : (text : List ℕ) (r : FilterResult) → filter_in text env ≡ r → AllByRecursion (λ b. b < 256) text → IfSome (reply_filter r) (IsWritableFilter env)
    answer_plain text (Ok f) is small = answer_by f f.action (reply_is_writable env text f (sound text env f is) (All-from_recursion (λ b. b < 256) text small) plain_dollars small_ids)
    answer_plain text (Err fault) is small = tt

    reply_plain : (o : Option Statement) → IfSome o IsPlainStatement → IfSome (reply_said env o) IsWritableReply
    reply_plain (Some (says.Reply binary filter)) small =
        if_either IsWritableReply (is_normal (unquoted env.dollars binary)) _ None
        (if_map (IsWritableFilter env) IsWritableReply (λ f. record { binary = unquoted env.dollars binary; filter = f }) (reply_filter (filter_in filter env)) (answer_plain filter (filter_in filter env) refl small) (λ f w. w)) tt
    reply_plain _ small = tt

    -- ---- policies

    binary_plain : (binary : List ℕ) → AreBytes binary → IfSome (if_absolute binary) IsWritableBinary
    binary_plain binary bytes = by (starts_with nat_eq binary (codes "/")) refl where
      by : (b : Bool) → starts_with nat_eq binary (codes "/") ≡ b → IfSome (if b then Some binary else None) IsWritableBinary
      by true is = record { absolute = λ k. if is k then Some binary else None; bytes = bytes }
      by false is = tt

    policy_plain : (o : Option Statement) → IfSome o IsPlainStatement → IfSome (policy_said env o) IsWritableBinary
    policy_plain (Some (says.Policy name binary)) well = binary_plain (unquoted env.dollars binary) (holds_bytes env.dollars (inside binary) plain_dollars.home plain_dollars.user plain_dollars.cwd well)
    policy_plain _ well = tt

    read_plain : (text : List ℕ) (r : FilterResult) → filter_in text env ≡ r → AllByRecursion (λ b. b < 256) text → IfSome (filter_read r) (IsWritableFilter env)
    read_plain text (Ok f) is small = reply_is_writable env text f (sound text env f is) (All-from_recursion (λ b. b < 256) text small) plain_dollars small_ids
    read_plain text (Err fault) is small = tt

    filter_plain : (o : Option Statement) → IfSome o IsPlainStatement → IfSome (filter_said env o) (IsWritableFilter env)
    filter_plain (Some (says.Filter text)) small = read_plain text (filter_in text env) refl small
    filter_plain _ small = tt

    filters_plain : (below : List ScriptLine) → ArePlainLines below → AllByRecursion (IsWritableFilter env) (filters_below env below)
    filters_plain [] here = tt
    filters_plain (line ∷ below) here = by (policy_said env line.says) (filter_said env line.says) (filter_plain line.says here.0) (filters_plain below here.1) where
      by : (begun : Option (List ℕ)) (o : Option FilterValue) → IfSome o (IsWritableFilter env) → AllByRecursion (IsWritableFilter env) (filters_below env below) → AllByRecursion (IsWritableFilter env) (unless_begun begun (cons_option o (filters_below env below)))
      by (Some binary) o first rest = tt
      by None None first rest = rest
      by None (Some f) first rest = (first, rest)

    blocks_plain : (below : List ScriptLine) → ArePlainLines below → AllByRecursion (IsWritablePolicy env) (blocks_in env below)
    blocks_plain [] here = tt
    blocks_plain (line ∷ below) here = by (policy_said env line.says) (policy_plain line.says here.0) (blocks_plain below here.1) where
      by : (o : Option (List ℕ)) → IfSome o IsWritableBinary → AllByRecursion (IsWritablePolicy env) (blocks_in env below) → AllByRecursion (IsWritablePolicy env) (with_block o (filters_below env below) (blocks_in env below))
      by None first rest = rest
      by (Some binary) first rest = (record { binary = first; filters = All-from_recursion (IsWritableFilter env) (filters_below env below) (filters_plain below here.1) }, rest)

    lines_written : HasPlainScript (script_with env lines)
    lines_written = record {
      dollars = plain_dollars;
      ids = small_ids;
      texts = native_plain emulation (start_of lines) (start_plain lines plain);
      replies = All-from_recursion IsWritableReply _ (each_given IsPlainLine IsWritableReply (λ line. reply_said env line.says) lines plain (λ line here. reply_plain line.says here));
      blocks = All-from_recursion (IsWritablePolicy env) (blocks_in env lines) (blocks_plain lines plain);
    }

-- ---- scripts

-- the law that a text that is read as a filter is a filter by the grammar
abbrev ReadsFilters : Type 0
ReadsFilters = (text : List ℕ) (env : Env) (f : FilterValue) → filter_in text env ≡ Ok f → ReadsFilter text env f

read_by : (o : Option ScriptFault) (read script : ReadScript) → unless_fault o read ≡ Ok script → read ≡ script
read_by (Some fault) read script e = absurd (cc)
read_by None read script e = cc

read_is : (text : List ℕ) (options : Options) (emulation : Emulation) (script : ReadScript) → script_in text options emulation ≡ Ok script → script_with (environment_of options (lines_in text) emulation) (lines_in text) ≡ script
read_is text options emulation script e = read_by (script_fault options (lexed_text text).fault (lines_in text) emulation) (script_with (environment_of options (lines_in text) emulation) (lines_in text)) script e

pub script_is_plain : ReadsFilters → (text : List ℕ) (options : Options) (emulation : Emulation) (script : ReadScript) → AreTextBytes text → script_in text options emulation ≡ Ok script → HasPlainScript script
script_is_plain sound text options emulation script bytes e =
    subst HasPlainScript (read_is text options emulation script e)
    (lines_written options (lines_in text) emulation (script_lines text (recursion_from_All (λ b. b < 256) text bytes)) sound)

-- ---- runs of a script that learn

-- the law that a run can start with a script that is read
abbrev ScriptsStart : Type 0
ScriptsStart = (text : List ℕ) (options : Options) (emulation : Emulation) (script : ReadScript) → script_in text options emulation ≡ Ok script → IsRunnableScript script

pub script_permits_made : PermitsMade → ReadsOnce → ReadsFilters → ScriptsStart → (text : List ℕ) (options : Options) (emulation : Emulation) (script : ReadScript) (policies : List BinaryPolicy) →
    AreTextBytes text → script_in text options emulation ≡ Ok script → options.mode ≡ Learn → 1 ≤ options.workers → options.workers ≤ 8 → WasRead script.env policies →
    (later earlier : History) (t q : ℕ) (call : SysCall) (regs : List ℕ) (args : List ArgText) (ids : Ids) (result : CallResult) (changes : List Change) →
    IsLawfulBack (input_with policies options script) (later ++ Used t (Some q) call regs args ids result changes ∷ earlier) →
    filters_in (learnt_in (input_with policies options script) (looking_back (input_with policies options script) (later ++ Used t (Some q) call regs args ids result changes ∷ earlier))) ≤ MOST_FILTERS →
    ReadsAndPermits (learnt_policy_text (input_with policies options script) (looking_back (input_with policies options script) (later ++ Used t (Some q) call regs args ids result changes ∷ earlier)) script.env.emulation) script.env (looking_back (input_with policies options script) earlier) q ids
script_permits_made permits_made once sound start text options emulation script policies bytes e mode some few was later earlier t q call regs args ids result changes lawful room =
    let plain : HasPlainScript script = script_is_plain sound text options emulation script bytes e in
    let learning : script.env.learn ≡ true = ap (λ (s : ReadScript). s.env.learn) (sym (read_is text options emulation script e)) ∙ ap learns mode in
    learnt_permits_made permits_made once script.env (input_with policies options script) ((start text options emulation script e).startable policies options (λ learns. learning) some few) plain.texts mode learning plain.dollars plain.ids was
    later earlier t q call regs args ids result changes lawful room
