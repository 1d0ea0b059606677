-- Replies and policies of a script that is read grant no ids to a call that sets ids.
use Rattle.std.proofs.Common.{◌≡◌, ℕ, Bool, true, false, if◌then◌else◌, List, [], ◌∷◌, Option, Some, None, Ok, Err, refl}
use Rattle.std.proofs.lemmas.List.Elements.{All-from_recursion}
use Rattle.std.specs.List.{AllByRecursion, cons_option, filter_map}
use Rattle.std.specs.Prelude.{IfSome, option_map}
use Rattle.st_filter.specs.Formula.{FilterValue}
use Rattle.st_filter.specs.declared.filter.Action.{Action}
use Rattle.st_filter.specs.declared.filter.Action.TheVariants as action
use Rattle.st_filter.specs.declared.set.BinaryPolicy.{BinaryPolicy}
use Rattle.st_filter.specs.declared.set.Reply.{Reply}
use Rattle.st_emulation.specs.declared.emulation.Emulation.{Emulation}
use Rattle.st_law.specs.declared.input.Options.{Options}
use Rattle.st_lex.specs.Unquote.{unquoted}
use Rattle.st_grammar.specs.OneFilter.{FilterResult, ReadsFilter, filter_in}
use Rattle.st_grammar.specs.declared.env.Env.{Env}
use Rattle.st_reached.specs.Grants.{IsUngrantedForSetting, RepliesUngranted, SetIdsUngranted}
use Rattle.st_script_faults.specs.Faults.{filter_read, filter_said, policy_said, reply_filter, reply_in, reply_said, unless_ask}
use Rattle.st_script_names.specs.Names.{Name}
use Rattle.st_statements.specs.Parts.{is_normal}
use Rattle.st_statements.specs.Statements.{lines_in}
use Rattle.st_statements.specs.declared.statement.ScriptLine.{ScriptLine}
use Rattle.st_statements.specs.declared.statement.Statement.{Statement}
use Rattle.st_statements.specs.declared.statement.Statement.TheVariants as says
use Rattle.st_script.specs.Reading.{blocks_in, filters_below, script_in, unless_begun, with_block}
use Rattle.st_script.specs.declared.reading.ReadScript.{ReadScript}
use Rattle.st_script.proofs.ReadTexts.{read_has, whole_in}
use Rattle.st_script.proofs.Ungranted.{IsUngrantedPolicy, filter_ungranted}

abbrev IsUngrantedReply : Reply → Type 0
IsUngrantedReply reply = IsUngrantedForSetting reply.filter

-- a text that is read as a filter is a filter by the grammar
abbrev pub IsSound : Type 0
IsSound = (text : List ℕ) (env : Env) (filter : FilterValue) → filter_in text env ≡ Ok filter → ReadsFilter text env filter

unless_it_asks : (filter : FilterValue) (a : Action) → IsUngrantedForSetting filter → IfSome (unless_ask filter a) IsUngrantedForSetting
unless_it_asks filter action.Permit clean = clean
unless_it_asks filter (action.Deny errno) clean = clean
unless_it_asks filter action.Ask clean = tt

for_binary : (binary : Name) (b : Bool) (o : Option FilterValue) → IfSome o IsUngrantedForSetting → IfSome (if b then option_map (λ f. record { binary = binary; filter = f }) o else None) IsUngrantedReply
for_binary binary true None clean = tt
for_binary binary true (Some filter) clean = clean
for_binary binary false o clean = tt

with_reply : (o : Option Reply) (replies : List Reply) → IfSome o IsUngrantedReply → AllByRecursion IsUngrantedReply replies → AllByRecursion IsUngrantedReply (cons_option o replies)
with_reply None replies clean all = all
with_reply (Some reply) replies clean all = (clean, all)

module _ (sound : IsSound) where
  read_ungranted : (text : List ℕ) (env : Env) (r : FilterResult) → filter_in text env ≡ r → IfSome (filter_read r) IsUngrantedForSetting
  read_ungranted text env (Ok filter) is = let read = sound text env filter is in filter_ungranted env read.row filter read.is
  read_ungranted text env (Err fault) is = tt

  answer_ungranted : (text : List ℕ) (env : Env) (r : FilterResult) → filter_in text env ≡ r → IfSome (reply_filter r) IsUngrantedForSetting
  answer_ungranted text env (Ok filter) is = unless_it_asks filter filter.action (read_ungranted text env (Ok filter) is)
  answer_ungranted text env (Err fault) is = tt

  reply_ungranted : (env : Env) (binary filter : List ℕ) → IfSome (reply_in env binary filter) IsUngrantedReply
  reply_ungranted env binary filter =
      for_binary (unquoted env.dollars binary) (is_normal (unquoted env.dollars binary)) (reply_filter (filter_in filter env)) (answer_ungranted filter env (filter_in filter env) refl)

  said_ungranted : (env : Env) (o : Option Statement) → IfSome (reply_said env o) IsUngrantedReply
  said_ungranted env None = tt
  said_ungranted env (Some (says.Reply binary filter)) = reply_ungranted env binary filter
  said_ungranted env (Some other) = tt

  lines_ungranted : (env : Env) (lines : List ScriptLine) → AllByRecursion IsUngrantedReply (filter_map (λ line. reply_said env line.says) lines)
  lines_ungranted env [] = tt
  lines_ungranted env (line ∷ lines) = with_reply (reply_said env line.says) (filter_map (λ line. reply_said env line.says) lines) (said_ungranted env line.says) (lines_ungranted env lines)

  -- the replies of a script that is read grant no ids for setting ids
  pub replies_ungranted : (text : List ℕ) (options : Options) (emulation : Emulation) (script : ReadScript) → script_in text options emulation ≡ Ok script → RepliesUngranted script.replies
  replies_ungranted text options emulation =
      read_has (λ (script : ReadScript). RepliesUngranted script.replies) text options emulation (λ uncut none. All-from_recursion IsUngrantedReply _ (lines_ungranted (whole_in text options emulation).env (lines_in text)))

  filter_said_ungranted : (env : Env) (o : Option Statement) → IfSome (filter_said env o) IsUngrantedForSetting
  filter_said_ungranted env None = tt
  filter_said_ungranted env (Some (says.Filter text)) = read_ungranted text env (filter_in text env) refl
  filter_said_ungranted env (Some other) = tt

  filters_by : (o : Option Name) (f : Option FilterValue) (filters : List FilterValue) → IfSome f IsUngrantedForSetting → AllByRecursion IsUngrantedForSetting filters → AllByRecursion IsUngrantedForSetting (unless_begun o (cons_option f filters))
  filters_by (Some binary) f filters clean all = tt
  filters_by None None filters clean all = all
  filters_by None (Some filter) filters clean all = (clean, all)

  below_ungranted : (env : Env) (lines : List ScriptLine) → AllByRecursion IsUngrantedForSetting (filters_below env lines)
  below_ungranted env [] = tt
  below_ungranted env (line ∷ lines) = filters_by (policy_said env line.says) (filter_said env line.says) (filters_below env lines) (filter_said_ungranted env line.says) (below_ungranted env lines)

  block_ungranted : (o : Option Name) (filters : List FilterValue) (blocks : List BinaryPolicy) → AllByRecursion IsUngrantedForSetting filters → AllByRecursion IsUngrantedPolicy blocks → AllByRecursion IsUngrantedPolicy (with_block o filters blocks)
  block_ungranted None filters blocks all rest = rest
  block_ungranted (Some binary) filters blocks all rest = (All-from_recursion IsUngrantedForSetting filters all, rest)

  in_blocks_ungranted : (env : Env) (lines : List ScriptLine) → AllByRecursion IsUngrantedPolicy (blocks_in env lines)
  in_blocks_ungranted env [] = tt
  in_blocks_ungranted env (line ∷ lines) = block_ungranted (policy_said env line.says) (filters_below env lines) (blocks_in env lines) (below_ungranted env lines) (in_blocks_ungranted env lines)

  -- the policies of a script that is read grant no ids for setting ids
  pub blocks_ungranted : (text : List ℕ) (options : Options) (emulation : Emulation) (script : ReadScript) → script_in text options emulation ≡ Ok script → SetIdsUngranted script.blocks
  blocks_ungranted text options emulation =
      read_has (λ (script : ReadScript). SetIdsUngranted script.blocks) text options emulation (λ uncut none. All-from_recursion IsUngrantedPolicy _ (in_blocks_ungranted (whole_in text options emulation).env (lines_in text)))
