-- What the text of a script that was read to be learnt from gives under other options with the same ids: the same start, the same replies and
-- policies, and the same environment for policies, whether filters are learnt or not.
use Rattle.std.proofs.Common.{◌≡◌, ◌∙◌, ◌==◌, ◌⊎◌, inl, inr, ℕ, Bool, true, false, if◌then◌else◌, nat_le, List, [], ◌∷◌, Option, Some, None, find, is_some, map, Ok, Err, refl, ap, sym, subst}
use Rattle.std.specs.List.{cons_option, filter_map}
use Rattle.st_emulation.specs.declared.emulation.Emulation.{Emulation}
use Rattle.st_filter.specs.Formula.{FilterValue}
use Rattle.st_filter.specs.declared.set.BinaryPolicy.{BinaryPolicy}
use Rattle.st_filter.specs.declared.set.Reply.{Reply}
use Rattle.st_filter.specs.declared.set.TheConstants.{MOST_FILTERS}
use Rattle.st_law.specs.declared.input.Mode.{Mode}
use Rattle.st_law.specs.declared.input.Mode.TheVariants.{Enforce, Learn, AskText}
use Rattle.st_law.specs.declared.input.Options.{Options}
use Rattle.st_lex.specs.Tokens.{lexed_text}
use Rattle.st_lex.specs.Unquote.{unquoted}
use Rattle.st_lex.specs.declared.token.LexFault.{LexFault}
use Rattle.st_lex.specs.declared.unquoted.Dollars.{Dollars}
use Rattle.st_grammar.specs.OneFilter.{FilterResult, filter_in}
use Rattle.st_grammar.specs.declared.env.Env.{Env}
use Rattle.st_grammar.specs.declared.env.NamedId.{NamedId}
use Rattle.st_script.specs.Reading.{blocks_in, filters_below, read_lines, script_in, script_with, start_of, unless_begun, unless_fault, with_block}
use Rattle.st_script.specs.declared.reading.ReadScript.{ReadScript}
use Rattle.st_script.proofs.ReadTexts.{read_has}
use Rattle.st_script_names.specs.Environment.{dollars_by, dollars_of, environment_of, first_traced, group_id, groups_below, learns, user_id, user_of, users_below}
use Rattle.st_script_faults.specs.Faults.{WholeScript, filter_read, filter_said, first_fault, first_of, is_invalid, is_too_many, is_unknown, line_fault, or_invalid, policy_said, reply_for, reply_in, reply_said, row_fault, script_fault, script_lexical_fault, started_after, statement_fault, threads_after, whole_of}
use Rattle.st_script_names.specs.Names.{Name, Names, no_names, with_says}
use Rattle.st_script_faults.specs.declared.fault.ScriptFault.{ScriptFault}
use Rattle.st_script_faults.specs.declared.fault.ScriptFault.TheVariants.{Expected, ReloadWithLearn, TooMany, UnknownName}
use Rattle.st_script_faults.specs.declared.row_value.RowValue.TheVariants as value
use Rattle.st_statements.specs.Parts.{is_long}
use Rattle.st_statements.specs.Statements.{lines_in}
use Rattle.st_statements.specs.declared.statement.ScriptLine.{ScriptLine}
use Rattle.st_statements.specs.declared.statement.ScriptProcess.{ScriptProcess}
use Rattle.st_statements.specs.declared.statement.Statement.{Statement}
use Rattle.st_statements.specs.declared.statement.Statement.TheVariants as says
use Rattle.st_trace.specs.declared.start.UserRow.{UserRow}
use Rattle.st_round_trip.specs.RoundTrip.{enforcing}
use Rattle.st_round_trip.proofs.OtherFilters.{IsComplete, IsSound, env_with, learnt_read, same_answer}

-- ---- the environment that policies are read with

pub env_is : (text : List ℕ) (options : Options) (emulation : Emulation) (script : ReadScript) → script_in text options emulation ≡ Ok script → script.env ≡ environment_of options (lines_in text) emulation
env_is text options emulation script is = read_has (λ (other : ReadScript). other.env ≡ environment_of options (lines_in text) emulation) text options emulation (λ uncut none. refl) script is

module _ (options other : Options) (ids : other.ids ≡ options.ids) (lines : List ScriptLine) (emulation : Emulation) where
  same_user : (process : ScriptProcess) → user_of other process ≡ user_of options process
  same_user process = ap (λ (o : Option (ℕ × ℕ)). elim o [ Some pair ↦ pair.0 | None ↦ process.uid ]) ids

  same_dollars : (users : List UserRow) (o : Option ScriptProcess) → dollars_of other users o ≡ dollars_of options users o
  same_dollars users None = refl
  same_dollars users (Some process) = ap (λ (uid : ℕ). dollars_by uid process.cwd (find (λ user. user.uid == uid) users)) (same_user process)

  -- the environment that these lines give, whether filters are learnt or not
  abbrev env_for : Bool → Env
  env_for learn = env_with (map user_id (users_below [] lines)) (map group_id (groups_below [] lines)) (dollars_of options (users_below [] lines) (first_traced [] lines)) (is_some options.ids) emulation learn

  same_env : (learn : Bool) → learns other.mode ≡ learn → environment_of other lines emulation ≡ env_for learn
  same_env learn is =
      let users : List NamedId = map user_id (users_below [] lines) in
      let groups : List NamedId = map group_id (groups_below [] lines) in
      let dollars : Dollars = dollars_of options (users_below [] lines) (first_traced [] lines) in
      ap (λ (d : Dollars). env_with users groups d (is_some other.ids) emulation (learns other.mode)) (same_dollars (users_below [] lines) (first_traced [] lines))
      ∙ (ap (λ (o : Option (ℕ × ℕ)). env_with users groups dollars (is_some o) emulation (learns other.mode)) ids ∙ ap env_for is)

  -- filters are learnt under the other options too, or they aren't
  pub env_by : options.mode ≡ Learn → (m : Mode) → other.mode ≡ m →
      (environment_of other lines emulation ≡ environment_of options lines emulation) ⊎ (environment_of other lines emulation ≡ enforcing (environment_of options lines emulation))
  env_by learning Learn is = inl (same_env true (ap learns is) ∙ sym (ap env_for (ap learns learning)))
  env_by learning Enforce is = inr (same_env false (ap learns is))
  env_by learning AskText is = inr (same_env false (ap learns is))

-- ---- replies and faults

module _ (sound : IsSound) (complete : IsComplete) (users groups : List NamedId) (dollars : Dollars) (elevate : Bool) (emulation : Emulation) (a b : Bool) where
  abbrev env : Bool → Env
  env learn = env_with users groups dollars elevate emulation learn

  same_reply : (binary filter : List ℕ) → reply_in (env a) binary filter ≡ reply_in (env b) binary filter
  same_reply binary filter = ap (reply_for (unquoted dollars binary)) (same_answer users groups dollars elevate emulation sound complete a b filter)

  same_said : (o : Option Statement) → reply_said (env a) o ≡ reply_said (env b) o
  same_said None = refl
  same_said (Some (says.Reply binary filter)) = same_reply binary filter
  same_said (Some other) = refl

  pub same_replies : (lines : List ScriptLine) → filter_map (λ line. reply_said (env a) line.says) lines ≡ filter_map (λ line. reply_said (env b) line.says) lines
  same_replies [] = refl
  same_replies (line ∷ lines) =
      ap (λ (o : Option Reply). cons_option o (filter_map (λ line. reply_said (env a) line.says) lines)) (same_said line.says)
      ∙ ap (cons_option (reply_said (env b) line.says)) (same_replies lines)

-- ---- what has no fault while filters are learnt

module _ (sound : IsSound) (complete : IsComplete) (users groups : List NamedId) (dollars : Dollars) (elevate : Bool) (emulation : Emulation) (b : Bool) (is_cut : Bool) (threads started : List Name) where
  abbrev env_of : Bool → Env
  env_of learn = env_with users groups dollars elevate emulation learn

  abbrev whole : Bool → WholeScript
  whole learn = record { is_cut = is_cut; threads = threads; started = started; env = env_of learn }

  -- the fault of a filter's row, by what it is read as
  abbrev filter_fault : Names → ℕ → Option FilterValue → Option ScriptFault
  filter_fault above line o = if is_invalid (or_invalid value.Filter o) then Some (Expected line) else if nat_le MOST_FILTERS above.filters then Some (TooMany line) else None

  -- a filter that has no fault is read as the same filter
  same_filter : (above : Names) (line : ℕ) (text : List ℕ) (x : FilterResult) → filter_in text (env_of true) ≡ x → filter_fault above line (filter_read x) ≡ None → filter_in text (env_of b) ≡ x
  same_filter above line text (Ok f) is none = learnt_read users groups dollars elevate emulation sound complete b text f is
  same_filter above line text (Err fault) is none = absurd (cc)

  read_alike : (above : Names) (line : ℕ) (text : List ℕ) → filter_fault above line (filter_read (filter_in text (env_of true))) ≡ None → filter_in text (env_of true) ≡ filter_in text (env_of b)
  read_alike above line text none = sym (same_filter above line text (filter_in text (env_of true)) refl none)

  -- a reload has a fault
  reload_faulty : (unknown many : Bool) (line : ℕ) → (if unknown then Some (UnknownName line) else if many then Some (TooMany line) else Some (ReloadWithLearn line)) ≡ None → ⊥
  reload_faulty true many line e = cc
  reload_faulty false true line e = cc
  reload_faulty false false line e = cc

  row_so : (above : Names) (below : List ScriptLine) (line : ℕ) (statement : Statement) → row_fault (whole true) above below line statement ≡ None → row_fault (whole b) above below line statement ≡ None
  row_so above below line (says.Reply binary filter) none =
      ap (λ (o : Option Reply). if is_invalid (or_invalid value.Reply o) then Some (Expected line) else if is_long (unquoted dollars binary) then Some (TooMany line) else None)
      (sym (same_reply sound complete users groups dollars elevate emulation true b binary filter)) ∙ none
  row_so above below line (says.Filter text) none = ap (λ (x : FilterResult). filter_fault above line (filter_read x)) (sym (read_alike above line text none)) ∙ none
  row_so above below line (says.Reload name) none = absurd (reload_faulty (is_unknown (whole true) above (says.Reload name)) (is_too_many (whole true) above (says.Reload name)) line none)
  row_so above below line other none = none

  said_so : (above : Names) (below : List ScriptLine) (line : ℕ) (o : Option Statement) → statement_fault (whole true) above below line o ≡ None → statement_fault (whole b) above below line o ≡ None
  said_so above below line None none = none
  said_so above below line (Some statement) none = row_so above below line statement none

  -- neither a line nor those below it have a fault
  both_free : (o rest : Option ScriptFault) → ◌≡◌ {A = Option ScriptFault} (elim o [ Some fault ↦ Some fault | None ↦ rest ]) None → (o ≡ None) × (rest ≡ None)
  both_free (Some fault) rest none = absurd (cc)
  both_free None rest none = (refl, none)

  pub first_so : (above : Names) (lines : List ScriptLine) → first_fault (whole true) above lines ≡ None → first_fault (whole b) above lines ≡ None
  first_so above [] none = none
  first_so above (line ∷ lines) none =
      let free = both_free (line_fault (whole true) above lines line) (first_fault (whole true) (with_says above line.says) lines) none in
      ap (λ (o : Option ScriptFault). elim o [ Some fault ↦ Some fault | None ↦ first_fault (whole b) (with_says above line.says) lines ]) (said_so above lines line.number line.says free.0)
      ∙ first_so (with_says above line.says) lines free.1

  -- ---- policies

  same_binary : (o : Option Statement) → policy_said (env_of true) o ≡ policy_said (env_of b) o
  same_binary None = refl
  same_binary (Some (says.Policy name binary)) = refl
  same_binary (Some other) = refl

  same_row : (above : Names) (below : List ScriptLine) (line : ℕ) (o : Option Statement) → statement_fault (whole true) above below line o ≡ None → filter_said (env_of true) o ≡ filter_said (env_of b) o
  same_row above below line None none = absurd (cc)
  same_row above below line (Some (says.Filter text)) none = ap filter_read (read_alike above line text none)
  same_row above below line (Some other) none = refl

  same_below : (above : Names) (lines : List ScriptLine) → first_fault (whole true) above lines ≡ None → filters_below (env_of true) lines ≡ filters_below (env_of b) lines
  same_below above [] none = refl
  same_below above (line ∷ lines) none =
      let free = both_free (line_fault (whole true) above lines line) (first_fault (whole true) (with_says above line.says) lines) none in
      ap (λ (o : Option Name). unless_begun o (cons_option (filter_said (env_of true) line.says) (filters_below (env_of true) lines))) (same_binary line.says)
      ∙ ap (λ (o : Option FilterValue). unless_begun (policy_said (env_of b) line.says) (cons_option o (filters_below (env_of true) lines))) (same_row above lines line.number line.says free.0)
      ∙ ap (λ (fs : List FilterValue). unless_begun (policy_said (env_of b) line.says) (cons_option (filter_said (env_of b) line.says) fs)) (same_below (with_says above line.says) lines free.1)

  pub same_blocks : (above : Names) (lines : List ScriptLine) → first_fault (whole true) above lines ≡ None → blocks_in (env_of true) lines ≡ blocks_in (env_of b) lines
  same_blocks above [] none = refl
  same_blocks above (line ∷ lines) none =
      let free = both_free (line_fault (whole true) above lines line) (first_fault (whole true) (with_says above line.says) lines) none in
      ap (λ (o : Option Name). with_block o (filters_below (env_of true) lines) (blocks_in (env_of true) lines)) (same_binary line.says)
      ∙ ap (λ (fs : List FilterValue). with_block (policy_said (env_of b) line.says) fs (blocks_in (env_of true) lines)) (same_below (with_says above line.says) lines free.1)
      ∙ ap (λ (blocks : List BinaryPolicy). with_block (policy_said (env_of b) line.says) (filters_below (env_of b) lines) blocks) (same_blocks (with_says above line.says) lines free.1)

-- ---- scripts

-- a text that is whole has no lexical fault
unbroken : (broken : Option LexFault) → is_some broken ≡ false → script_lexical_fault broken ≡ None
unbroken None whole = refl
unbroken (Some fault) whole = absurd (cc)

module _ (sound : IsSound) (complete : IsComplete) (options other : Options) (learning : options.mode ≡ Learn) (ids : other.ids ≡ options.ids) (lines : List ScriptLine) (emulation : Emulation) where
  abbrev users : List NamedId
  users = map user_id (users_below [] lines)

  abbrev groups : List NamedId
  groups = map group_id (groups_below [] lines)

  abbrev dollars : Dollars
  dollars = dollars_of options (users_below [] lines) (first_traced [] lines)

  -- the environment of the lines, whether filters are learnt or not
  abbrev given : Bool → Env
  given learn = env_with users groups dollars (is_some options.ids) emulation learn

  own_env : environment_of options lines emulation ≡ given true
  own_env = ap given (ap learns learning)

  other_env : environment_of other lines emulation ≡ given (learns other.mode)
  other_env = same_env options other ids lines emulation (learns other.mode) refl

  -- what rows are read with
  abbrev whole_with : Bool → Env → WholeScript
  whole_with is_cut e = record { is_cut = is_cut; threads = threads_after [] lines; started = started_after [] lines; env = e }

  other_replies : filter_map (λ line. reply_said (environment_of other lines emulation) line.says) lines ≡ filter_map (λ line. reply_said (environment_of options lines emulation) line.says) lines
  other_replies =
      ap (λ (e : Env). filter_map (λ line. reply_said e line.says) lines) other_env
      ∙ same_replies sound complete users groups dollars (is_some options.ids) emulation (learns other.mode) (learns options.mode) lines

  module _ (is_cut : Bool) (none : first_fault (whole_of is_cut options lines emulation) no_names lines ≡ None) where
    none_learnt : first_fault (whole_with is_cut (given true)) no_names lines ≡ None
    none_learnt = subst (λ (e : Env). first_fault (whole_with is_cut e) no_names lines ≡ None) own_env none

    other_fault : first_fault (whole_of is_cut other lines emulation) no_names lines ≡ None
    other_fault =
        subst (λ (e : Env). first_fault (whole_with is_cut e) no_names lines ≡ None) (sym other_env)
        (first_so sound complete users groups dollars (is_some options.ids) emulation (learns other.mode) is_cut (threads_after [] lines) (started_after [] lines) no_names lines none_learnt)

    other_blocks : blocks_in (environment_of other lines emulation) lines ≡ blocks_in (environment_of options lines emulation) lines
    other_blocks =
        ap (λ (e : Env). blocks_in e lines) other_env
        ∙ sym (same_blocks sound complete users groups dollars (is_some options.ids) emulation (learns other.mode) is_cut (threads_after [] lines) (started_after [] lines) no_names lines none_learnt)
        ∙ sym (ap (λ (e : Env). blocks_in e lines) own_env)

  no_fault : (broken : Option LexFault) → is_some broken ≡ false → first_fault (whole_of (is_some broken) options lines emulation) no_names lines ≡ None → script_fault other broken lines emulation ≡ None
  no_fault broken uncut none = ap (λ (o : Option ScriptFault). first_of o (script_lexical_fault broken)) (other_fault (is_some broken) none) ∙ unbroken broken uncut

  read_so : (broken : Option LexFault) → is_some broken ≡ false → first_fault (whole_of (is_some broken) options lines emulation) no_names lines ≡ None →
      read_lines other broken lines emulation
      ≡ Ok (record { start = start_of lines; env = environment_of other lines emulation; replies = filter_map (λ line. reply_said (environment_of options lines emulation) line.says) lines; blocks = blocks_in (environment_of options lines emulation) lines })
  read_so broken uncut none =
      ap (λ (o : Option ScriptFault). unless_fault o (script_with (environment_of other lines emulation) lines)) (no_fault broken uncut none)
      ∙ ap (λ (replies : List Reply). Ok (record { start = start_of lines; env = environment_of other lines emulation; replies = replies; blocks = blocks_in (environment_of other lines emulation) lines })) other_replies
      ∙ ap (λ (blocks : List BinaryPolicy). Ok (record { start = start_of lines; env = environment_of other lines emulation; replies = filter_map (λ line. reply_said (environment_of options lines emulation) line.says) lines; blocks = blocks }))
      (other_blocks (is_some broken) none)

-- a script that is read from a text to be learnt from is read under other options with the same ids
pub script_so : IsSound → IsComplete → (text : List ℕ) (options other : Options) (emulation : Emulation) → options.mode ≡ Learn → other.ids ≡ options.ids → (script : ReadScript) → script_in text options emulation ≡ Ok script →
    script_in text other emulation ≡ Ok (record { start = script.start; env = environment_of other (lines_in text) emulation; replies = script.replies; blocks = script.blocks })
script_so sound complete text options other emulation learning ids script is =
    read_has (λ (s : ReadScript). script_in text other emulation ≡ Ok (record { start = s.start; env = environment_of other (lines_in text) emulation; replies = s.replies; blocks = s.blocks })) text options emulation
    (λ uncut none. read_so sound complete options other learning ids (lines_in text) emulation (lexed_text text).fault uncut none) script is
