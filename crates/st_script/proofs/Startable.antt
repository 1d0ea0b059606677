-- A run can start with what lines without a fault say: it is startable, its system can be built, and it is bounded.
use Rattle.std.proofs.Common.{◌≡◌, ◌≢◌, ℕ, zero, suc, ◌≤◌, true, false, ◌||◌, nat_lt, List, [], ◌∷◌, length, map, slice_get, Option, Some, None, Ok, refl, sym, ap, ◌∙◌, arith}
use Rattle.std.proofs.lemmas.Bool.{ltb-false}
use Rattle.std.proofs.lemmas.List.Elements.{All-from_recursion}
use Rattle.std.specs.List.{All, AllByRecursion, filter_map}
use Rattle.std.specs.Prelude.{unwrap_or}
use Rattle.st_base.specs.Numbered.{item_at_number}
use Rattle.st_filter.specs.declared.set.BinaryPolicy.{BinaryPolicy}
use Rattle.st_law.specs.Inputs.{CanStart, HasProcess, IsInstruction, IsStartable}
use Rattle.st_law.specs.Processes.{process_count}
use Rattle.st_law.specs.State.{thread_count}
use Rattle.st_law.specs.Threads.{owner_of_row}
use Rattle.st_law.specs.declared.input.Input.{Input}
use Rattle.st_law.specs.declared.input.Mode.TheVariants.{Learn}
use Rattle.st_emulation.specs.declared.emulation.Emulation.{Emulation}
use Rattle.st_emulation.specs.declared.emulation.Emulation.TheVariants.{Native, Linux}
use Rattle.st_law.specs.declared.input.Options.{Options}
use Rattle.st_names.specs.Name.{printed_name}
use Rattle.st_names.specs.declared.limits.TheConstants.{LONGEST_NAME}
use Rattle.st_lex.specs.Rows.{rows}
use Rattle.st_lex.specs.Tokens.{lexed_text}
use Rattle.st_base.proofs.Each.{each-append}
use Rattle.st_linux.proofs.Kept.{bounded_kept, can_start_kept, startable_kept}
use Rattle.st_reached.specs.Scripts.{IsBounded}
use Rattle.st_script_faults.specs.Faults.{WholeScript, first_fault, started_after, threads_after}
use Rattle.st_script_names.specs.Names.{Name, Names, is_name_among, no_names, with_says}
use Rattle.st_statements.specs.Lines.{tokens_before_fault_line}
use Rattle.st_statements.specs.Parts.{is_long}
use Rattle.st_statements.specs.Statements.{lines_in}
use Rattle.st_statements.specs.declared.statement.OpenBody.TheVariants.{NoBody}
use Rattle.st_statements.specs.declared.statement.ScriptLine.{ScriptLine}
use Rattle.st_statements.specs.declared.statement.Statement.TheVariants as says
use Rattle.st_trace.specs.declared.start.Start.{Start}
use Rattle.st_trace.specs.declared.start.ThreadRow.{ThreadRow}
use Rattle.st_script.specs.Bounds.{IsWithinBounds}
use Rattle.st_script.specs.Reading.{BodyNames, body_in, body_names, policy_names_after, process_said, processes_after, script_in, script_with, store_of, stores, threads_in}
use Rattle.st_script.specs.Startable.{IsRunnableScript, input_as_written, native_start}
use Rattle.st_script.specs.declared.reading.ReadScript.{ReadScript}
use Rattle.st_script.proofs.Bounded.{bounded}
use Rattle.st_script.proofs.Counted.{NoFault, AtEnd, After, known_by, none_has, not_false, numbered_within, or_left, or_right, policies_are, policies_within, policy_still_there, threads_within, within_bounds}
use Rattle.st_script.proofs.ReadTexts.{read_has, whole_in}
use Rattle.st_script.proofs.Said.{ArePlaced, AreSaid, lines_placed, lines_said}
use Rattle.st_script.proofs.Slashes.{normal_slashed, printed_short}
use Rattle.st_script.proofs.Standing.{objects_stand}

-- ---- instructions

all_map : {A B : Type 0} (P : B → Type 0) (f : A → B) (xs : List A) → ((x : A) → P (f x)) → AllByRecursion P (map f xs)
all_map P f [] all = tt
all_map P f (x ∷ xs) all = (all x, all_map P f xs all)

module _ (i : Input) (whole : WholeScript) (ts : BodyNames) (uncut : whole.is_cut ≡ false) (threads_are : whole.threads ≡ ts.threads) (few : length ts.threads ≤ length i.start.threads)
    (few_policies : length ts.policies ≤ length i.policies.blocks) (learning : i.options.mode ≡ Learn → whole.env.learn ≡ true) where
  bodies_are : (above : Names) (lines : List ScriptLine) → NoFault whole above lines → AreSaid lines → policy_names_after above.policies lines ≡ ts.policies → AllByRecursion (IsInstruction i) (body_in ts lines)
  bodies_are above _ (AtEnd _) said is = tt
  bodies_are above _ (After _ n (says.Store place word) lines ok rest) said is = (tt, bodies_are (with_says above (Some (says.Store place word))) lines rest said.1 is)
  bodies_are above _ (After _ n (says.Call call regs) lines ok rest) said is = (said.0, bodies_are (with_says above (Some (says.Call call regs))) lines rest said.1 is)
  bodies_are above _ (After _ n (says.Fork name) lines ok rest) said is =
      let there : is_name_among whole.threads name ≡ true = known_by whole.is_cut (is_name_among whole.threads name) uncut ok.known in
      let among : is_name_among ts.threads name ≡ true = ap (λ names. is_name_among names name) (sym threads_are) ∙ there in
      (numbered_within ts.threads name (length i.start.threads) among few, bodies_are (with_says above (Some (says.Fork name))) lines rest said.1 is)
  bodies_are above _ (After _ n (says.Reload name) lines ok rest) said is =
      let there : is_name_among above.policies name ≡ true = not_false (is_name_among above.policies name) ok.known in
      let among : is_name_among ts.policies name ≡ true = ap (λ names. is_name_among names name) (sym is) ∙ policy_still_there above.policies lines name there in
      let other : i.options.mode ≢ Learn = λ learns. let clash : true ≡ false = sym (learning learns) ∙ ok.may_reload in cc in
      ((numbered_within ts.policies name (length i.policies.blocks) among few_policies, other), bodies_are (with_says above (Some (says.Reload name))) lines rest said.1 is)
  bodies_are above _ (After _ n (says.Put place bytes) lines ok rest) said is =
      each-append (IsInstruction i) (stores place bytes) (body_in ts lines) (all_map (IsInstruction i) (store_of place bytes) _ (λ k. tt)) (bodies_are (with_says above (Some (says.Put place bytes))) lines rest said.1 is)
  bodies_are above _ (After _ n says.End lines ok rest) said is = tt
  bodies_are above _ (After _ n s lines ok rest) said is = bodies_are (with_says above (Some s)) lines rest said.1 (ap (λ names. policy_names_after names lines) (policies_are above s) ∙ is)

  threads_have_bodies : (processes : List Name) (above : Names) (lines : List ScriptLine) → NoFault whole above lines → AreSaid lines → policy_names_after above.policies lines ≡ ts.policies → AllByRecursion (λ row. All (IsInstruction i) row.body) (threads_in processes ts lines)
  threads_have_bodies processes above _ (AtEnd _) said is = tt
  threads_have_bodies processes above _ (After _ n (says.Thread name process) lines ok rest) said is = (
    All-from_recursion (IsInstruction i) (body_in ts lines) (bodies_are (with_says above (Some (says.Thread name process))) lines rest said.1 is),
    threads_have_bodies processes (with_says above (Some (says.Thread name process))) lines rest said.1 is,
  )
  threads_have_bodies processes above _ (After _ n s lines ok rest) said is = threads_have_bodies processes (with_says above (Some s)) lines rest said.1 (ap (λ names. policy_names_after names lines) (policies_are above s) ∙ is)

-- ---- owners

owner_by : (count : ℕ) (rows : List ThreadRow) → AllByRecursion (λ row. HasProcess count row.process) rows → (k : ℕ) → owner_of_row (slice_get rows k) ≤ count
owner_by count [] all k = omega arith
owner_by count (row ∷ rows) all zero = owner_of row.process all.0 where
  owner_of : (o : Option ℕ) → HasProcess count o → unwrap_or o 0 ≤ count
  owner_of None has = omega arith
  owner_of (Some p) has = has.1
owner_by count (row ∷ rows) all (suc k) = owner_by count rows all.1 k

pub owners_within : (count : ℕ) (rows : List ThreadRow) → AllByRecursion (λ row. HasProcess count row.process) rows → (t : ℕ) → owner_of_row (item_at_number rows t) ≤ count
owners_within count rows all zero = omega arith
owners_within count rows all (suc k) = owner_by count rows all k

-- ---- directories

directories_short : (whole : WholeScript) (above : Names) (lines : List ScriptLine) → NoFault whole above lines → AreSaid lines → AllByRecursion (λ row. length (printed_name row.cwd) ≤ LONGEST_NAME) (filter_map (λ line. process_said line.says) lines)
directories_short whole above _ (AtEnd _) said = tt
directories_short whole above _ (After _ n (says.Process process) lines ok rest) said =
    let short : is_long process.cwd ≡ false = or_right (is_long process.binary) (is_long process.cwd) (or_right _ (is_long process.binary || is_long process.cwd) ok.few) in
    let few : length process.cwd ≤ LONGEST_NAME = ltb-false LONGEST_NAME (length process.cwd) (or_left (nat_lt LONGEST_NAME (length process.cwd)) _ short) in
    let printed = printed_short process.cwd (normal_slashed process.cwd said.0) in
    (omega (arith, few, printed), directories_short whole (with_says above (Some (says.Process process))) lines rest said.1)
directories_short whole above _ (After _ n s lines ok rest) said = directories_short whole (with_says above (Some s)) lines rest said.1

-- ---- starts that are made native

-- an input with its start made native
abbrev with_native_start : Emulation → Input → Input
with_native_start emulation i = record i { start = native_start emulation i.start }

native_startable : (emulation : Emulation) (i : Input) → IsStartable i → IsStartable (with_native_start emulation i)
native_startable Native i can = can
native_startable Linux i can = (startable_kept i).0 can

native_system : (emulation : Emulation) (i : Input) → CanStart i → CanStart (with_native_start emulation i)
native_system Native i can = can
native_system Linux i can = (can_start_kept i).0 can

native_bounded : (emulation : Emulation) (start : Start) → IsBounded start → IsBounded (native_start emulation start)
native_bounded Native start bounds = bounds
native_bounded Linux start bounds = (bounded_kept start).0 bounds

-- ---- all conditions together

startable : (whole : WholeScript) (lines : List ScriptLine) → whole.is_cut ≡ false → whole.threads ≡ threads_after [] lines → NoFault whole no_names lines → AreSaid lines → IsWithinBounds (script_with whole.env lines) →
    (policies : List BinaryPolicy) (options : Options) → (options.mode ≡ Learn → whole.env.learn ≡ true) → 1 ≤ options.workers → options.workers ≤ 8 → IsStartable (input_as_written policies options (script_with whole.env lines))
startable whole lines uncut threads_are ok said bounds policies options learning some few =
    let i = input_as_written policies options (script_with whole.env lines) in
    let processes = processes_after [] lines in
    let ts = body_names lines in
    let among : length ts.threads ≤ length i.start.threads = let within = threads_within processes ts [] lines in omega (arith, within) in
    let policies_few : length ts.policies ≤ length i.policies.blocks = let within = policies_within whole no_names [] lines ok in omega (arith, within) in
    record {
      some_worker = some;
      few_workers = few;
      few_threads = bounds.few_threads;
      processes = All-from_recursion _ _ bounds.processes;
      bodies = All-from_recursion _ _ (threads_have_bodies i whole ts uncut threads_are among policies_few learning processes no_names lines ok said refl);
      replies = All-from_recursion _ _ bounds.replies;
      targets = All-from_recursion _ _ bounds.targets;
    }

can_start : (whole : WholeScript) (lines : List ScriptLine) → whole.is_cut ≡ false → whole.threads ≡ threads_after [] lines → whole.started ≡ started_after [] lines → first_fault whole no_names lines ≡ None → AreSaid lines → ArePlaced NoBody lines → IsRunnableScript (script_with whole.env lines)
can_start whole lines uncut threads_are started_are none said placed =
    let script = script_with whole.env lines in
    let ok = none_has whole no_names lines none in
    let bounds = within_bounds whole whole.env lines none in
    record {
      startable = λ policies options learning some few.
          native_startable whole.env.emulation (input_as_written policies options script) (startable whole lines uncut threads_are ok said bounds policies options learning some few);
      system = λ policies options.
          let i = input_as_written policies options script in
          let processes : process_count i ≤ 64 = bounds.few_processes in
          let threads : thread_count i ≤ 64 = bounds.few_threads in
          native_system whole.env.emulation i (record {
            tree = objects_stand whole lines ok said;
            few_processes = omega (arith, processes);
            few_threads = omega (arith, threads);
            owners = owners_within _ _ bounds.processes;
            short = All-from_recursion _ _ (directories_short whole no_names lines ok said);
          });
      bounded = native_bounded whole.env.emulation script.start (bounded whole lines uncut threads_are started_are none said placed);
    }

-- a run can start with a script that is read
pub script_can_start : (text : List ℕ) (options : Options) (emulation : Emulation) (script : ReadScript) → script_in text options emulation ≡ Ok script → IsRunnableScript script
script_can_start text options emulation = read_has IsRunnableScript text options emulation (λ uncut none.
    let lines_rows = rows (tokens_before_fault_line (lexed_text text)) in
    can_start (whole_in text options emulation) (lines_in text) uncut refl refl none (lines_said text NoBody lines_rows) (lines_placed text NoBody lines_rows))
