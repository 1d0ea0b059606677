-- The replies and the policies of lines, as they are collected from the first line on.
use Rattle.std.proofs.Common.{◌≡◌, ◌∙◌, ◌++◌, ℕ, List, [], ◌∷◌, Option, Some, None, refl, ap, sym}
use Rattle.std.proofs.lemmas.List.{append_assoc, append-nil}
use Rattle.std.specs.List.{cons_option, filter_map}
use Rattle.st_filter.specs.Formula.{FilterValue}
use Rattle.st_filter.specs.Policies.{add_filter, with_filter}
use Rattle.st_filter.specs.declared.set.BinaryPolicy.{BinaryPolicy}
use Rattle.st_filter.specs.declared.set.Reply.{Reply}
use Rattle.st_grammar.specs.OneFilter.{filter_in}
use Rattle.st_grammar.specs.declared.env.Env.{Env}
use Rattle.st_script_faults.specs.Faults.{ScriptFiltersValue, filter_read, filters_after, no_filters, or_invalid, policy_binary, reply_in, reply_said, with_line, with_value}
use Rattle.st_script_names.specs.Names.{Name}
use Rattle.st_script_faults.specs.declared.row_value.RowValue.TheVariants as value
use Rattle.st_script.specs.Reading.{blocks_in, filters_below, unless_begun, with_block}
use Rattle.st_statements.specs.declared.statement.ScriptLine.{ScriptLine}
use Rattle.st_statements.specs.declared.statement.Statement.{Statement}
use Rattle.st_statements.specs.declared.statement.Statement.TheVariants as says

-- ---- policies with more filters

-- policies with filters added to the last one
abbrev with_filters : List BinaryPolicy → List FilterValue → List BinaryPolicy
with_filters blocks [] = blocks
with_filters blocks (filter ∷ filters) = with_filters (add_filter blocks filter) filters

none_begun : (filters : List FilterValue) → with_filters [] filters ≡ []
none_begun [] = refl
none_begun (filter ∷ filters) = none_begun filters

add_to_last : (blocks : List BinaryPolicy) (p : BinaryPolicy) (filter : FilterValue) → add_filter (blocks ++ p ∷ []) filter ≡ blocks ++ with_filter p filter ∷ []
add_to_last [] p filter = refl
add_to_last (q ∷ []) p filter = refl
add_to_last (q ∷ r ∷ blocks) p filter = ap (λ rest. q ∷ rest) (add_to_last (r ∷ blocks) p filter)

-- the last policy gets all of them
last_gets : (blocks : List BinaryPolicy) (p : BinaryPolicy) (filters : List FilterValue) → with_filters (blocks ++ p ∷ []) filters ≡ blocks ++ record { binary = p.binary; filters = p.filters ++ filters } ∷ []
last_gets blocks p [] = ap (λ fs. blocks ++ record { binary = p.binary; filters = fs } ∷ []) (sym (append-nil p.filters))
last_gets blocks p (filter ∷ filters) =
    ap (λ more. with_filters more filters) (add_to_last blocks p filter) ∙
    last_gets blocks (with_filter p filter) filters ∙
    ap (λ fs. blocks ++ record { binary = p.binary; filters = fs } ∷ []) (append_assoc p.filters (filter ∷ []) filters)

-- ---- what lines give

module _ (env : Env) where
  abbrev said : List ScriptLine → List Reply
  said lines = filter_map (λ line. reply_said env line.says) lines

  reply_by : (read : ScriptFiltersValue) (o : Option Reply) (replies : List Reply) → (with_value read (or_invalid value.Reply o)).replies ++ replies ≡ read.replies ++ cons_option o replies
  reply_by read None replies = refl
  reply_by read (Some reply) replies = append_assoc read.replies (reply ∷ []) replies

  policy_adds_none : (read : ScriptFiltersValue) (o : Option Name) → (with_value read (or_invalid value.Policy o)).replies ≡ read.replies
  policy_adds_none read None = refl
  policy_adds_none read (Some binary) = refl

  filter_adds_none : (read : ScriptFiltersValue) (o : Option FilterValue) → (with_value read (or_invalid value.Filter o)).replies ≡ read.replies
  filter_adds_none read None = refl
  filter_adds_none read (Some filter) = refl

  reply_after : (read : ScriptFiltersValue) (o : Option Statement) (replies : List Reply) → (with_line env read o).replies ++ replies ≡ read.replies ++ cons_option (reply_said env o) replies
  reply_after read None replies = refl
  reply_after read (Some (says.Reply binary filter)) replies = reply_by read (reply_in env binary filter) replies
  reply_after read (Some (says.Policy name binary)) replies = ap (λ front. front ++ replies) (policy_adds_none read (policy_binary env binary))
  reply_after read (Some (says.Filter text)) replies = ap (λ front. front ++ replies) (filter_adds_none read (filter_read (filter_in text env)))
  reply_after read (Some s) replies = refl

  replies_from : (read : ScriptFiltersValue) (lines : List ScriptLine) → (filters_after env read lines).replies ≡ read.replies ++ said lines
  replies_from read [] = sym (append-nil read.replies)
  replies_from read (line ∷ lines) = replies_from (with_line env read line.says) lines ∙ reply_after read line.says (said lines)

  reply_begins_none : (read : ScriptFiltersValue) (o : Option Reply) → (with_value read (or_invalid value.Reply o)).blocks ≡ read.blocks
  reply_begins_none read None = refl
  reply_begins_none read (Some reply) = refl

  -- the policies that were begun, with the filters up to the next policy, and those of the lines
  abbrev all_blocks : List BinaryPolicy → List ScriptLine → List BinaryPolicy
  all_blocks blocks lines = with_filters blocks (filters_below env lines) ++ blocks_in env lines

  policy_by : (read : ScriptFiltersValue) (o : Option Name) (lines : List ScriptLine) →
      all_blocks (with_value read (or_invalid value.Policy o)).blocks lines ≡ with_filters read.blocks (unless_begun o (filters_below env lines)) ++ with_block o (filters_below env lines) (blocks_in env lines)
  policy_by read None lines = refl
  policy_by read (Some found) lines =
      ap (λ front. front ++ blocks_in env lines) (last_gets read.blocks (record { binary = found; filters = [] }) (filters_below env lines)) ∙
      append_assoc read.blocks (record { binary = found; filters = filters_below env lines } ∷ []) (blocks_in env lines)

  filter_by : (read : ScriptFiltersValue) (o : Option FilterValue) (lines : List ScriptLine) →
      all_blocks (with_value read (or_invalid value.Filter o)).blocks lines ≡ with_filters read.blocks (cons_option o (filters_below env lines)) ++ blocks_in env lines
  filter_by read None lines = refl
  filter_by read (Some filter) lines = refl

  block_after : (read : ScriptFiltersValue) (number : ℕ) (o : Option Statement) (lines : List ScriptLine) → all_blocks (with_line env read o).blocks lines ≡ all_blocks read.blocks (record { number = number; says = o } ∷ lines)
  block_after read number None lines = refl
  block_after read number (Some (says.Reply binary filter)) lines = ap (λ blocks. all_blocks blocks lines) (reply_begins_none read (reply_in env binary filter))
  block_after read number (Some (says.Policy name binary)) lines = policy_by read (policy_binary env binary) lines
  block_after read number (Some (says.Filter text)) lines = filter_by read (filter_read (filter_in text env)) lines
  block_after read number (Some s) lines = refl

  blocks_from : (read : ScriptFiltersValue) (lines : List ScriptLine) → (filters_after env read lines).blocks ≡ all_blocks read.blocks lines
  blocks_from read [] = sym (append-nil read.blocks)
  blocks_from read (line ∷ lines) = blocks_from (with_line env read line.says) lines ∙ block_after read line.number line.says lines

  -- the replies are those of the lines, in order
  pub replies_are : (lines : List ScriptLine) → (filters_after env no_filters lines).replies ≡ said lines
  replies_are lines = replies_from no_filters lines

  -- and so are the policies
  pub blocks_are : (lines : List ScriptLine) → (filters_after env no_filters lines).blocks ≡ blocks_in env lines
  blocks_are lines = blocks_from no_filters lines ∙ ap (λ front. front ++ blocks_in env lines) (none_begun (filters_below env lines))
