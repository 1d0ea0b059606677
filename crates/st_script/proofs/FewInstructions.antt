-- Lines without a fault have no more instructions than a script may have.
use Rattle.std.proofs.Common.{◌+◌, ◌≤◌, List, length, Some, arith}
use Rattle.std.proofs.lemmas.Bool.{ltb-false}
use Rattle.std.proofs.lemmas.List.{length-append}
use Rattle.std.proofs.lemmas.List.FromFn.{length-map-range_with_len}
use Rattle.st_script_faults.specs.Faults.{WholeScript}
use Rattle.st_script_names.specs.Names.{Names, store_count, with_says}
use Rattle.st_script_names.specs.declared.limits.TheConstants.{MOST_INSTRUCTIONS}
use Rattle.st_statements.specs.declared.statement.ScriptLine.{ScriptLine}
use Rattle.st_statements.specs.declared.statement.Statement.TheVariants as says
use Rattle.st_script.specs.Reading.{BodyNames, store_of, stores}
use Rattle.st_script.proofs.Counted.{NoFault, AtEnd, After}
use Rattle.st_script.proofs.Placed.{all_said}

pub few_instructions : (whole : WholeScript) (ts : BodyNames) (above : Names) (lines : List ScriptLine) → NoFault whole above lines → above.instructions ≤ MOST_INSTRUCTIONS → above.instructions + length (all_said ts lines) ≤ MOST_INSTRUCTIONS
few_instructions whole ts above _ (AtEnd _) few = omega (arith, few)
few_instructions whole ts above _ (After _ n (says.Store place word) lines ok rest) few =
    let room = ltb-false MOST_INSTRUCTIONS (above.instructions + 1) ok.few in
    let ih = few_instructions whole ts (with_says above (Some (says.Store place word))) lines rest room in
    omega (arith, ih)
few_instructions whole ts above _ (After _ n (says.Put place bytes) lines ok rest) few =
    let room = ltb-false MOST_INSTRUCTIONS (above.instructions + store_count bytes) ok.few in
    let ih = few_instructions whole ts (with_says above (Some (says.Put place bytes))) lines rest room in
    let here = length-map-range_with_len (store_of place bytes) 0 (store_count bytes) in
    let both = length-append (stores place bytes) (all_said ts lines) in
    omega (arith, ih, here, both)
few_instructions whole ts above _ (After _ n (says.Call call regs) lines ok rest) few =
    let room = ltb-false MOST_INSTRUCTIONS (above.instructions + 1) ok.few in
    let ih = few_instructions whole ts (with_says above (Some (says.Call call regs))) lines rest room in
    omega (arith, ih)
few_instructions whole ts above _ (After _ n (says.Fork name) lines ok rest) few =
    let room = ltb-false MOST_INSTRUCTIONS (above.instructions + 1) ok.few in
    let ih = few_instructions whole ts (with_says above (Some (says.Fork name))) lines rest room in
    omega (arith, ih)
few_instructions whole ts above _ (After _ n (says.Reload name) lines ok rest) few =
    let room = ltb-false MOST_INSTRUCTIONS (above.instructions + 1) ok.few in
    let ih = few_instructions whole ts (with_says above (Some (says.Reload name))) lines rest room in
    omega (arith, ih)
few_instructions whole ts above _ (After _ n s lines ok rest) few = few_instructions whole ts (with_says above (Some s)) lines rest few
