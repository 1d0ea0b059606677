-- Lines without a fault are within the bounds of a script.
use Rattle.std.proofs.Common.{◌≡◌, ◌≢◌, ℕ, suc, ◌+◌, ◌-◌, ◌^◌, ◌≤◌, ◌<◌, Bool, true, false, ◌||◌, ◌&&◌, not, if◌then◌else◌, cond, nat_le, List, [], ◌∷◌, ◌++◌, length, Option, Some, None, Ok, Err, refl, sym, ap, ◌∙◌, arith}
use Rattle.std.proofs.Math.Nat.{min-le_left, le-min}
use Rattle.std.proofs.lemmas.Bool.{leb-false, ltb-false}
use Rattle.std.proofs.lemmas.List.{length-append}
use Rattle.std.specs.List.{AllByRecursion, cons_option, filter_map, position_or_len}
use Rattle.std.specs.Prelude.{option_map}
use Rattle.std.specs.Str.{bytes_eq}
use Rattle.st_filter.proofs.Counts.{filters_in_first}
use Rattle.st_filter.specs.Formula.{FilterValue}
use Rattle.st_filter.specs.declared.filter.Action.{Action}
use Rattle.st_filter.specs.declared.filter.Action.TheVariants as action
use Rattle.st_filter.specs.Policies.{filters_in}
use Rattle.st_filter.specs.declared.set.BinaryPolicy.{BinaryPolicy}
use Rattle.st_filter.specs.declared.set.Reply.{Reply}
use Rattle.st_filter.specs.declared.set.TheConstants.{MOST_FILTERS}
use Rattle.st_script_faults.specs.declared.row_value.RowValue.TheVariants as value
use Rattle.st_law.specs.Inputs.{HasProcess, HasShortTarget}
use Rattle.st_emulation.specs.declared.emulation.Emulation.{Emulation}
use Rattle.st_law.specs.declared.input.Options.{Options}
use Rattle.st_lex.specs.Unquote.{unquoted}
use Rattle.st_model.specs.declared.limits.TheConstants.{LONGEST_TEXT}
use Rattle.st_model.specs.declared.object.NewKind.{NewKind}
use Rattle.st_model.specs.declared.object.NewKind.TheVariants as kind
use Rattle.st_grammar.specs.OneFilter.{FilterResult, filter_in}
use Rattle.st_grammar.specs.declared.env.Env.{Env}
use Rattle.st_script_faults.specs.Faults.{WholeScript, expects_other, filter_read, is_invalid, is_left_open, is_unknown, is_duplicate, is_too_many, is_large, or_invalid, policy_binary, reloads_while_learning, row_value, row_fault, statement_fault, first_fault, line_fault, unless_ask, reply_filter, reply_in, reply_said, threads_after, with_thread_name}
use Rattle.st_script.specs.Bounds.{IsWithinBounds}
use Rattle.st_script_names.specs.Names.{Name, Names, no_names, is_name_among, with_new_name, name_number, with_says}
use Rattle.st_statements.specs.Parts.{is_long, is_normal}
use Rattle.st_statements.specs.Statements.{lines_in}
use Rattle.st_trace.specs.declared.start.ThreadRow.{ThreadRow}
use Rattle.st_script.specs.Reading.{BodyNames, blocks_in, body_in, body_names, filters_below, policy_names_after, unless_begun, with_block, with_policy_name, object_said, process_said, processes_after, script_in, script_with, thread_said, thread_with, threads_in, with_process_name}
use Rattle.st_script_faults.specs.declared.fault.ScriptFault.{ScriptFault}
use Rattle.st_script_names.specs.declared.limits.TheConstants.{MOST_PROCESSES, MOST_THREADS, MOST_TREE_ROWS}
use Rattle.st_script.specs.declared.reading.ReadScript.{ReadScript}
use Rattle.st_statements.specs.declared.statement.ScriptLine.{ScriptLine}
use Rattle.st_statements.specs.declared.statement.Statement.{Statement}
use Rattle.st_statements.specs.declared.statement.Statement.TheVariants as says
use Rattle.st_script.proofs.ReadTexts.{read_has, whole_in}

-- ---- no fault

-- a row has no fault
pub record IsFaultless (whole : WholeScript) (above : Names) (statement : Statement) : Type 0 where
  pub known : is_unknown whole above statement ≡ false
  pub new : is_duplicate whole above statement ≡ false
  pub few : is_too_many whole above statement ≡ false
  pub may_reload : reloads_while_learning whole statement ≡ false
  pub valid : is_invalid (row_value whole.env statement) ≡ false

valid_by : (unclosed invalid : Bool) → (unclosed || invalid) ≡ false → invalid ≡ false
valid_by true invalid e = absurd (cc)
valid_by false invalid e = e

faultless_by : (whole : WholeScript) (above : Names) (s : Statement) (a b c d e : Bool) (v w x y z : ScriptFault) →
    (a ≡ false → is_invalid (row_value whole.env s) ≡ false) → is_unknown whole above s ≡ b → is_duplicate whole above s ≡ c → is_too_many whole above s ≡ d → reloads_while_learning whole s ≡ e →
    (if a then Some v else if b then Some w else if c then Some x else if d then Some y else if e then Some z else None) ≡ None → IsFaultless whole above s
faultless_by whole above s true b c d e v w x y z valid p q r m none = absurd (cc)
faultless_by whole above s false true c d e v w x y z valid p q r m none = absurd (cc)
faultless_by whole above s false false true d e v w x y z valid p q r m none = absurd (cc)
faultless_by whole above s false false false true e v w x y z valid p q r m none = absurd (cc)
faultless_by whole above s false false false false true v w x y z valid p q r m none = absurd (cc)
faultless_by whole above s false false false false false v w x y z valid p q r m none = record { known = p; new = q; few = r; may_reload = m; valid = valid refl }

faultless : (whole : WholeScript) (above : Names) (below : List ScriptLine) (line : ℕ) (s : Statement) → row_fault whole above below line s ≡ None → IsFaultless whole above s
faultless whole above below line s none =
    faultless_by whole above s (expects_other whole below s) (is_unknown whole above s) (is_duplicate whole above s) (is_too_many whole above s) (reloads_while_learning whole s) _ _ _ _ _
    (valid_by (is_left_open whole below s) (is_invalid (row_value whole.env s))) refl refl refl refl none

-- the fault of a line, or of those below it
abbrev either : Option ScriptFault → Option ScriptFault → Option ScriptFault
either here below = elim here [ Some fault ↦ Some fault | None ↦ below ]

no_fault : (o p : Option ScriptFault) → either o p ≡ None → (o ≡ None) × (p ≡ None)
no_fault (Some fault) p e = absurd (cc)
no_fault None p e = (refl, e)

-- no line has a fault
pub data NoFault (whole : WholeScript) : Names → List ScriptLine → Type 0 where
  AtEnd : (above : Names) → NoFault whole above []
  After : (above : Names) (n : ℕ) (s : Statement) (lines : List ScriptLine) → IsFaultless whole above s → NoFault whole (with_says above (Some s)) lines → NoFault whole above (record { number = n; says = Some s } ∷ lines)

no_fault_by : (whole : WholeScript) (above : Names) (n : ℕ) (o : Option Statement) (lines : List ScriptLine) → statement_fault whole above lines n o ≡ None → NoFault whole (with_says above o) lines → NoFault whole above (record { number = n; says = o } ∷ lines)
no_fault_by whole above n None lines e rest = absurd (cc)
no_fault_by whole above n (Some s) lines e rest = After above n s lines (faultless whole above lines n s e) rest

pub none_has : (whole : WholeScript) (above : Names) (lines : List ScriptLine) → first_fault whole above lines ≡ None → NoFault whole above lines
none_has whole above [] e = AtEnd above
none_has whole above (line ∷ lines) e =
    let parts = no_fault (line_fault whole above lines line) (first_fault whole (with_says above line.says) lines) e in
    no_fault_by whole above line.number line.says lines parts.0 (none_has whole (with_says above line.says) lines parts.1)

-- ---- counts

pub added : (names : List Name) (name : Name) (b : Bool) → b ≡ false → length (if b then names else names ++ name ∷ []) ≡ length names + 1
added names name true e = absurd (cc)
added names name false e = length-append names (name ∷ [])

pub or_left : (a b : Bool) → (a || b) ≡ false → a ≡ false
or_left true b e = e
or_left false b e = refl

pub or_right : (a b : Bool) → (a || b) ≡ false → b ≡ false
or_right true b e = absurd (cc)
or_right false b e = e

pub few_threads : (whole : WholeScript) (ps : List Name) (ts : BodyNames) (above : Names) (lines : List ScriptLine) → NoFault whole above lines → length above.threads ≤ MOST_THREADS → length above.threads + length (threads_in ps ts lines) ≤ MOST_THREADS
few_threads whole ps ts above _ (AtEnd _) few = omega (arith, few)
few_threads whole ps ts above _ (After _ n (says.Thread name process) lines ok rest) few =
    let more : length (with_new_name above.threads name) ≡ length above.threads + 1 = added above.threads name (is_name_among above.threads name) ok.new in
    let room : length above.threads < MOST_THREADS = leb-false MOST_THREADS (length above.threads) ok.few in
    let ih = few_threads whole ps ts (with_says above (Some (says.Thread name process))) lines rest (omega (arith, more, room)) in
    omega (arith, ih, more)
few_threads whole ps ts above _ (After _ n s lines ok rest) few = few_threads whole ps ts (with_says above (Some s)) lines rest few

pub few_processes : (whole : WholeScript) (above : Names) (lines : List ScriptLine) → NoFault whole above lines → length above.processes ≤ MOST_PROCESSES → length above.processes + length (filter_map (λ line. process_said line.says) lines) ≤ MOST_PROCESSES
few_processes whole above _ (AtEnd _) few = omega (arith, few)
few_processes whole above _ (After _ n (says.Process process) lines ok rest) few =
    let more : length (with_new_name above.processes process.name) ≡ length above.processes + 1 = added above.processes process.name (is_name_among above.processes process.name) ok.new in
    let room : length above.processes < MOST_PROCESSES = leb-false MOST_PROCESSES (length above.processes) (or_left _ _ ok.few) in
    let ih = few_processes whole (with_says above (Some (says.Process process))) lines rest (omega (arith, more, room)) in
    omega (arith, ih, more)
few_processes whole above _ (After _ n s lines ok rest) few = few_processes whole (with_says above (Some s)) lines rest few

pub few_objects : (whole : WholeScript) (above : Names) (lines : List ScriptLine) → NoFault whole above lines → length above.paths ≤ MOST_TREE_ROWS → length above.paths + length (filter_map (λ line. object_said line.says) lines) ≤ MOST_TREE_ROWS
few_objects whole above _ (AtEnd _) few = omega (arith, few)
few_objects whole above _ (After _ n (says.Object path new) lines ok rest) few =
    let more : length (with_new_name above.paths path) ≡ length above.paths + 1 = added above.paths path (is_name_among above.paths path) ok.new in
    let room : length above.paths < MOST_TREE_ROWS = leb-false MOST_TREE_ROWS (length above.paths) (or_left _ _ ok.few) in
    let ih = few_objects whole (with_says above (Some (says.Object path new))) lines rest (omega (arith, more, room)) in
    omega (arith, ih, more)
few_objects whole above _ (After _ n s lines ok rest) few = few_objects whole (with_says above (Some s)) lines rest few

-- ---- targets

short_by : (new : NewKind) → is_large new ≡ false → HasShortTarget new
short_by kind.Dir e = tt
short_by (kind.File content) e = tt
short_by (kind.Link target) e = ltb-false LONGEST_TEXT (length target) e

pub short_targets : (whole : WholeScript) (above : Names) (lines : List ScriptLine) → NoFault whole above lines → AllByRecursion (λ row. HasShortTarget row.new.kind) (filter_map (λ line. object_said line.says) lines)
short_targets whole above _ (AtEnd _) = tt
short_targets whole above _ (After _ n (says.Object path new) lines ok rest) =
    (short_by new.kind (or_right (is_long path) (is_large new.kind) (or_right (nat_le MOST_TREE_ROWS (length above.paths)) (is_long path || is_large new.kind) ok.few)), short_targets whole (with_says above (Some (says.Object path new))) lines rest)
short_targets whole above _ (After _ n s lines ok rest) = short_targets whole (with_says above (Some s)) lines rest

-- ---- replies

abbrev DoesNotAsk : Reply → Type 0
DoesNotAsk reply = reply.filter.action ≢ action.Ask

abbrev AnswersIf : Option FilterValue → Type 0
AnswersIf None = Unit {0}
AnswersIf (Some filter) = filter.action ≢ action.Ask

abbrev RepliesIf : Option Reply → Type 0
RepliesIf None = Unit {0}
RepliesIf (Some reply) = DoesNotAsk reply

not_ask : (filter : FilterValue) (a : Action) → filter.action ≡ a → AnswersIf (unless_ask filter a)
not_ask filter action.Permit e = λ is. let d : action.Permit ≡ action.Ask = sym e ∙ is in cc
not_ask filter (action.Deny errno) e = λ is. let d : action.Deny errno ≡ action.Ask = sym e ∙ is in cc
not_ask filter action.Ask e = tt

answers : (r : FilterResult) → AnswersIf (reply_filter r)
answers (Ok filter) = not_ask filter filter.action refl
answers (Err fault) = tt

replies_by : (binary : Name) (b : Bool) (o : Option FilterValue) → AnswersIf o → RepliesIf (if b then option_map (λ f. record { binary = binary; filter = f }) o else None)
replies_by binary true None h = tt
replies_by binary true (Some filter) h = h
replies_by binary false o h = tt

reply_answers : (env : Env) (binary filter : List ℕ) → RepliesIf (reply_in env binary filter)
reply_answers env binary filter = replies_by (unquoted env.dollars binary) (is_normal (unquoted env.dollars binary)) (reply_filter (filter_in filter env)) (answers (filter_in filter env))

said_answers : (env : Env) (o : Option Statement) → RepliesIf (reply_said env o)
said_answers env None = tt
said_answers env (Some (says.Reply binary filter)) = reply_answers env binary filter
said_answers env (Some s) = tt

replies_more : (o : Option Reply) (replies : List Reply) → RepliesIf o → AllByRecursion DoesNotAsk replies → AllByRecursion DoesNotAsk (cons_option o replies)
replies_more None replies h all = all
replies_more (Some reply) replies h all = (h, all)

pub no_reply_asks : (env : Env) (lines : List ScriptLine) → AllByRecursion (λ reply. reply.filter.action ≢ action.Ask) (filter_map (λ line. reply_said env line.says) lines)
no_reply_asks env [] = tt
no_reply_asks env (line ∷ lines) = replies_more (reply_said env line.says) (filter_map (λ line. reply_said env line.says) lines) (said_answers env line.says) (no_reply_asks env lines)

-- ---- threads of forks

pub not_false : (b : Bool) → not b ≡ false → b ≡ true
not_false true e = refl
not_false false e = absurd (cc)

-- the fork of a line without a fault names a thread
pub known_by : (cut there : Bool) → cut ≡ false → (not cut && not there) ≡ false → there ≡ true
known_by true there whole known = absurd (cc)
known_by false there whole known = not_false there known

-- ---- processes of threads

pub or_true : (a b : Bool) → b ≡ true → (a || b) ≡ true
or_true true b e = refl
or_true false b e = e

kept_first : (b c d : Bool) → (b || c) ≡ true → (c ≡ true → d ≡ true) → (b || d) ≡ true
kept_first true c d h ih = refl
kept_first false c d h ih = ih h

kept_before : (names : List Name) (other name : Name) → is_name_among names name ≡ true → is_name_among (names ++ other ∷ []) name ≡ true
kept_before [] other name h = absurd (cc)
kept_before (first ∷ names) other name h = kept_first (bytes_eq name first) (is_name_among names name) (is_name_among (names ++ other ∷ []) name) h (kept_before names other name)

pub kept_in : (names : List Name) (other name : Name) (b : Bool) → is_name_among names name ≡ true → is_name_among (if b then names else names ++ other ∷ []) name ≡ true
kept_in names other name true h = h
kept_in names other name false h = kept_before names other name h

kept_said : (names : List Name) (o : Option Statement) (name : Name) → is_name_among names name ≡ true → is_name_among (with_process_name names o) name ≡ true
kept_said names None name h = h
kept_said names (Some (says.Process process)) name h = kept_in names process.name name (is_name_among names process.name) h
kept_said names (Some s) name h = h

still_there : (names : List Name) (lines : List ScriptLine) (name : Name) → is_name_among names name ≡ true → is_name_among (processes_after names lines) name ≡ true
still_there names [] name h = h
still_there names (line ∷ lines) name h = still_there (with_process_name names line.says) lines name (kept_said names line.says name h)

place_by : (b c : Bool) (place len : ℕ) → (b || c) ≡ true → (c ≡ true → place < len) → cond (not b) (1 + place) 0 < suc len
place_by true c place len h ih = omega arith
place_by false c place len h ih = let below = ih h in omega (arith, below)

pub place_within : (names : List Name) (name : Name) → is_name_among names name ≡ true → position_or_len (bytes_eq name) names < length names
place_within [] name h = absurd (cc)
place_within (first ∷ names) name h = place_by (bytes_eq name first) (is_name_among names name) (position_or_len (bytes_eq name) names) (length names) h (place_within names name)

pub at_most_one : (names : List Name) (name : Name) (b : Bool) → length (if b then names else names ++ name ∷ []) ≤ length names + 1
at_most_one names name true = omega arith
at_most_one names name false = let e = length-append names (name ∷ []) in omega (arith, e)

after_by : (names : List Name) (o : Option Statement) (lines : List ScriptLine) → length (processes_after (with_process_name names o) lines) ≤ length (with_process_name names o) + length (filter_map (λ line. process_said line.says) lines) →
    length (processes_after (with_process_name names o) lines) ≤ length names + length (cons_option (process_said o) (filter_map (λ line. process_said line.says) lines))
after_by names None lines ih = ih
after_by names (Some (says.Process process)) lines ih = let one = at_most_one names process.name (is_name_among names process.name) in omega (arith, ih, one)
after_by names (Some s) lines ih = ih

names_within : (names : List Name) (lines : List ScriptLine) → length (processes_after names lines) ≤ length names + length (filter_map (λ line. process_said line.says) lines)
names_within names [] = omega arith
names_within names (line ∷ lines) = after_by names line.says lines (names_within (with_process_name names line.says) lines)

pub numbered_within : (names : List Name) (name : Name) (count : ℕ) → is_name_among names name ≡ true → length names ≤ count → (1 ≤ name_number names name) × (name_number names name ≤ count)
numbered_within names name count h few =
    let place = place_within names name h in
    let most = min-le_left (position_or_len (bytes_eq name) names + 1) (2 ^ 32 - 1) in
    (le-min (omega arith) (omega arith), omega (arith, most, place, few))

later_is : (above : Names) (s : Statement) → (with_says above (Some s)).processes ≡ with_process_name above.processes (Some s)
later_is above (says.Process process) = refl
later_is above s = refl

pub threads_have_processes : (whole : WholeScript) (ps : List Name) (ts : BodyNames) (count : ℕ) → length ps ≤ count → (above : Names) (lines : List ScriptLine) → NoFault whole above lines → processes_after above.processes lines ≡ ps →
    AllByRecursion (λ row. HasProcess count row.process) (threads_in ps ts lines)
threads_have_processes whole ps ts count few above _ (AtEnd _) is = tt
threads_have_processes whole ps ts count few above _ (After _ n (says.Thread name None) lines ok rest) is =
    (tt, threads_have_processes whole ps ts count few (with_says above (Some (says.Thread name None))) lines rest is)
threads_have_processes whole ps ts count few above _ (After _ n (says.Thread name (Some process)) lines ok rest) is =
    let there : is_name_among above.processes process ≡ true = not_false (is_name_among above.processes process) ok.known in
    let still : is_name_among ps process ≡ true = ap (λ names. is_name_among names process) (sym is) ∙ still_there above.processes lines process there in
    (numbered_within ps process count still few, threads_have_processes whole ps ts count few (with_says above (Some (says.Thread name (Some process)))) lines rest is)
threads_have_processes whole ps ts count few above _ (After _ n s lines ok rest) is =
    threads_have_processes whole ps ts count few (with_says above (Some s)) lines rest (ap (λ names. processes_after names lines) (later_is above s) ∙ is)

pub processes_within : (lines : List ScriptLine) → length (processes_after [] lines) ≤ length (filter_map (λ line. process_said line.says) lines)
processes_within lines = let e = names_within [] lines in omega (arith, e)

-- ---- names of threads

-- the threads of a line and of those after it, given where the line's thread starts, if it has one
abbrev pub threads_with : List Name → BodyNames → List ScriptLine → Option (Option Name) → List ThreadRow
threads_with ps ts lines (Some process) = thread_with ps process (body_in ts lines) ∷ threads_in ps ts lines
threads_with ps ts lines None = threads_in ps ts lines

threads_by : (ps : List Name) (ts : BodyNames) (names : List Name) (o : Option Statement) (lines : List ScriptLine) → length (threads_after (with_thread_name names o) lines) ≤ length (with_thread_name names o) + length (threads_in ps ts lines) →
    length (threads_after (with_thread_name names o) lines) ≤ length names + length (threads_with ps ts lines (thread_said o))
threads_by ps ts names None lines ih = ih
threads_by ps ts names (Some (says.Thread name process)) lines ih = let one = at_most_one names name (is_name_among names name) in omega (arith, ih, one)
threads_by ps ts names (Some s) lines ih = ih

pub threads_within : (ps : List Name) (ts : BodyNames) (names : List Name) (lines : List ScriptLine) → length (threads_after names lines) ≤ length names + length (threads_in ps ts lines)
threads_within ps ts names [] = omega arith
threads_within ps ts names (line ∷ lines) = threads_by ps ts names line.says lines (threads_within ps ts (with_thread_name names line.says) lines)

-- ---- policies

more_filters : (o : Option FilterValue) (filters : List FilterValue) → length (cons_option o filters) ≤ 1 + length filters
more_filters None filters = omega arith
more_filters (Some filter) filters = omega arith

-- the filters that lines add to the policy above them, and those of their own policies
abbrev filter_count : Env → List ScriptLine → ℕ
filter_count env lines = length (filters_below env lines) + filters_in (blocks_in env lines)

policy_counts : (o : Option Name) (filters : List FilterValue) (blocks : List BinaryPolicy) → length (unless_begun o filters) + filters_in (with_block o filters blocks) ≡ length filters + filters_in blocks
policy_counts None filters blocks = refl
policy_counts (Some found) filters blocks =
    let all : ℕ = filters_in (record { binary = found; filters = filters } ∷ blocks) in
    let none : 0 + all ≡ all = omega arith in
    none ∙ filters_in_first (record { binary = found; filters = filters }) blocks

filters_counted : (whole : WholeScript) (env : Env) (above : Names) (lines : List ScriptLine) → NoFault whole above lines → above.filters ≤ MOST_FILTERS → above.filters + filter_count env lines ≤ MOST_FILTERS
filters_counted whole env above _ (AtEnd _) few = omega (arith, few)
filters_counted whole env above _ (After _ n (says.Filter text) lines ok rest) few =
    let room : above.filters < MOST_FILTERS = leb-false MOST_FILTERS above.filters ok.few in
    let ih = filters_counted whole env (with_says above (Some (says.Filter text))) lines rest (omega (arith, room)) in
    let one = more_filters (filter_read (filter_in text env)) (filters_below env lines) in
    omega (arith, ih, one)
filters_counted whole env above _ (After _ n (says.Policy name binary) lines ok rest) few =
    let ih = filters_counted whole env (with_says above (Some (says.Policy name binary))) lines rest few in
    let same = policy_counts (policy_binary env binary) (filters_below env lines) (blocks_in env lines) in
    omega (arith, ih, same)
filters_counted whole env above _ (After _ n s lines ok rest) few = filters_counted whole env (with_says above (Some s)) lines rest few

-- the policies of lines without a fault have no more filters than a script may have
pub few_filters : (whole : WholeScript) (env : Env) (lines : List ScriptLine) → first_fault whole no_names lines ≡ None → filters_in (blocks_in env lines) ≤ MOST_FILTERS
few_filters whole env lines none = let all = filters_counted whole env no_names lines (none_has whole no_names lines none) (omega arith) in omega (arith, all)

block_there : (o : Option Name) (filters : List FilterValue) (blocks : List BinaryPolicy) → is_invalid (or_invalid value.Policy o) ≡ false → length (with_block o filters blocks) ≡ 1 + length blocks
block_there None filters blocks valid = absurd (cc)
block_there (Some found) filters blocks valid = omega arith

-- there are no more names of policies than policies
pub policies_within : (whole : WholeScript) (above : Names) (names : List Name) (lines : List ScriptLine) → NoFault whole above lines → length (policy_names_after names lines) ≤ length names + length (blocks_in whole.env lines)
policies_within whole above names _ (AtEnd _) = omega arith
policies_within whole above names _ (After _ n (says.Policy name binary) lines ok rest) =
    let ih = policies_within whole (with_says above (Some (says.Policy name binary))) (with_new_name names name) lines rest in
    let one = at_most_one names name (is_name_among names name) in
    let there = block_there (policy_binary whole.env binary) (filters_below whole.env lines) (blocks_in whole.env lines) ok.valid in
    omega (arith, ih, one, there)
policies_within whole above names _ (After _ n s lines ok rest) = policies_within whole (with_says above (Some s)) names lines rest

kept_policy : (names : List Name) (o : Option Statement) (name : Name) → is_name_among names name ≡ true → is_name_among (with_policy_name names o) name ≡ true
kept_policy names None name h = h
kept_policy names (Some (says.Policy other binary)) name h = kept_in names other name (is_name_among names other) h
kept_policy names (Some s) name h = h

-- a policy stays among those of more lines
pub policy_still_there : (names : List Name) (lines : List ScriptLine) (name : Name) → is_name_among names name ≡ true → is_name_among (policy_names_after names lines) name ≡ true
policy_still_there names [] name h = h
policy_still_there names (line ∷ lines) name h = policy_still_there (with_policy_name names line.says) lines name (kept_policy names line.says name h)

-- the policies above a row, with the row's
pub policies_are : (above : Names) (s : Statement) → (with_says above (Some s)).policies ≡ with_policy_name above.policies (Some s)
policies_are above (says.Policy name binary) = refl
policies_are above s = refl

-- ---- all bounds together

pub within_bounds : (whole : WholeScript) (env : Env) (lines : List ScriptLine) → first_fault whole no_names lines ≡ None → IsWithinBounds (script_with env lines)
within_bounds whole env lines none =
    let ok = none_has whole no_names lines none in
    let ps = processes_after [] lines in
    let threads = few_threads whole ps (body_names lines) no_names lines ok (omega arith) in
    let processes = few_processes whole no_names lines ok (omega arith) in
    let objects = few_objects whole no_names lines ok (omega arith) in
    record {
      few_threads = omega (arith, threads);
      few_processes = omega (arith, processes);
      few_objects = omega (arith, objects);
      processes = threads_have_processes whole ps (body_names lines) (length (filter_map (λ line. process_said line.says) lines)) (processes_within lines) no_names lines ok refl;
      targets = short_targets whole no_names lines ok;
      replies = no_reply_asks env lines;
    }

-- a script that is read is within the bounds
pub script_within : (text : List ℕ) (options : Options) (emulation : Emulation) (script : ReadScript) → script_in text options emulation ≡ Ok script → IsWithinBounds script
script_within text options emulation = read_has IsWithinBounds text options emulation (λ uncut none.
    within_bounds (whole_in text options emulation) (whole_in text options emulation).env (lines_in text) none)
