-- A script that is read is bounded: it isn't too long, its stores are in memory, and its threads start in at most one way.
use Rattle.std.proofs.Common.{◌≡◌, ℕ, ◌≤◌, false, List, [], length, None, Ok, refl, ap, arith}
use Rattle.std.proofs.lemmas.List.Concat.{length-flat_map}
use Rattle.std.proofs.lemmas.List.Elements.{All-from_recursion}
use Rattle.st_emulation.specs.declared.emulation.Emulation.{Emulation}
use Rattle.st_law.specs.declared.input.Options.{Options}
use Rattle.st_lex.specs.Rows.{rows}
use Rattle.st_lex.specs.Tokens.{lexed_text}
use Rattle.st_reached.specs.Scripts.{IsBounded}
use Rattle.st_script_faults.specs.Faults.{WholeScript, first_fault, started_after, threads_after}
use Rattle.st_script_names.specs.Names.{no_names}
use Rattle.st_script_names.specs.declared.limits.TheConstants.{MOST_THREADS}
use Rattle.st_statements.specs.Lines.{tokens_before_fault_line}
use Rattle.st_statements.specs.Statements.{lines_in}
use Rattle.st_statements.specs.declared.statement.OpenBody.TheVariants.{NoBody}
use Rattle.st_statements.specs.declared.statement.ScriptLine.{ScriptLine}
use Rattle.st_trace.specs.declared.start.ThreadRow.{ThreadRow}
use Rattle.st_script.specs.Reading.{body_names, processes_after, script_in, script_with, start_of, threads_in}
use Rattle.st_script.specs.declared.reading.ReadScript.{ReadScript}
use Rattle.st_script.proofs.Counted.{none_has, threads_within, within_bounds}
use Rattle.st_script.proofs.FewInstructions.{few_instructions}
use Rattle.st_script.proofs.InMemory.{stores_in_memory}
use Rattle.st_script.proofs.Placed.{bodies_are_said}
use Rattle.st_script.proofs.ReadTexts.{read_has, whole_in}
use Rattle.st_script.proofs.Said.{ArePlaced, AreSaid, lines_placed, lines_said}
use Rattle.st_script.proofs.StartedOnce.{starts_once}

abbrev pub IsBoundedScript : ReadScript → Type 0
IsBoundedScript script = IsBounded script.start

pub bounded : (whole : WholeScript) (lines : List ScriptLine) → whole.is_cut ≡ false → whole.threads ≡ threads_after [] lines → whole.started ≡ started_after [] lines → first_fault whole no_names lines ≡ None → AreSaid lines → ArePlaced NoBody lines → IsBounded (start_of lines)
bounded whole lines uncut threads_are started_are none said placed =
    let ok = none_has whole no_names lines none in
    let ps = processes_after [] lines in
    let ts = body_names lines in
    let bounds = within_bounds whole whole.env lines none in
    let names = threads_within ps ts [] lines in
    let rows_few : length (threads_in ps ts lines) ≤ MOST_THREADS = bounds.few_threads in
    let few : length ts.threads ≤ MOST_THREADS = omega (arith, names, rows_few) in
    let instructions = few_instructions whole ts no_names lines ok (omega arith) in
    let lengths = length-flat_map (λ (row : ThreadRow). row.body) (threads_in ps ts lines) in
    let same = ap length (bodies_are_said ps ts lines placed) in
    record {
      few_instructions = omega (arith, instructions, lengths, same);
      few_processes = bounds.few_processes;
      stores = All-from_recursion _ _ (stores_in_memory ps ts lines said);
      starts = starts_once whole ps lines uncut threads_are started_are few ok placed;
    }

-- a script that is read is bounded
pub script_is_bounded : (text : List ℕ) (options : Options) (emulation : Emulation) (script : ReadScript) → script_in text options emulation ≡ Ok script → IsBounded script.start
script_is_bounded text options emulation = read_has IsBoundedScript text options emulation (λ uncut none.
    let lines_rows = rows (tokens_before_fault_line (lexed_text text)) in
    bounded (whole_in text options emulation) (lines_in text) uncut refl refl none (lines_said text NoBody lines_rows) (lines_placed text NoBody lines_rows))
