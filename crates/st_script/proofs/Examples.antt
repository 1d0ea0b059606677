-- A script with policies and reloads, as it is read.
use Rattle.std.proofs.Common.{◌≡◌, ℕ, List, [], ◌∷◌, ◌++◌, None, Ok, Err, false, refl, codes, map}
use Rattle.st_calls.specs.declared.rule.Rule.TheVariants.{FsRead, FsWrite}
use Rattle.st_emulation.specs.declared.emulation.Emulation.TheVariants.{Native}
use Rattle.st_filter.specs.declared.filter.FilterName.{FilterName}
use Rattle.st_filter.specs.declared.filter.FilterName.TheVariants as name
use Rattle.st_filter.specs.declared.set.BinaryPolicy.{BinaryPolicy}
use Rattle.st_law.specs.declared.input.Mode.TheVariants.{Enforce}
use Rattle.st_law.specs.declared.input.Options.{Options}
use Rattle.st_trace.specs.declared.start.Instr.{Instr}
use Rattle.st_trace.specs.declared.start.Instr.TheVariants.{Reload, Store}
use Rattle.st_script.specs.Reading.{script_in}
use Rattle.st_script.specs.declared.reading.ReadScript.{ReadScript}
use Rattle.st_script_faults.specs.declared.fault.ScriptFault.{ScriptFault}
use Rattle.std.specs.Prelude.{Result}

abbrev options : Options
options = record { mode = Enforce; inherit = false; aliasing = false; ids = None; workers = 1 }

abbrev with_newlines : List (List ℕ) → List ℕ
with_newlines [] = []
with_newlines (line ∷ lines) = line ++ 10 ∷ with_newlines lines

-- two policies of one binary, and two threads
abbrev text : List ℕ
text = with_newlines (
    codes "policy open \"$HOME/b\"" ∷ codes "native-fsread: permit" ∷ codes "native-fswrite: permit" ∷ codes "end" ∷ codes "thread t" ∷ codes "store 1 2" ∷ codes "reload open" ∷ codes "end" ∷
    codes "policy empty \"/c\"" ∷ codes "end" ∷ codes "policy last \"/root/b\"" ∷ codes "native-fsread: permit" ∷ codes "end" ∷
    codes "thread u" ∷ codes "reload last" ∷ codes "reload empty" ∷ codes "end" ∷ [])

abbrev blocks : Result ReadScript ScriptFault → List BinaryPolicy
blocks (Ok script) = script.blocks
blocks (Err fault) = []

abbrev bodies : Result ReadScript ScriptFault → List (List Instr)
bodies (Ok script) = map (λ row. row.body) script.start.threads
bodies (Err fault) = []

abbrev binaries : List (List ℕ)
binaries = map (λ policy. policy.binary) (blocks (script_in text options Native))

abbrev names : List (List FilterName)
names = map (λ policy. map (λ filter. filter.name) policy.filters) (blocks (script_in text options Native))

binaries_are : binaries ≡ codes "/root/b" ∷ codes "/c" ∷ codes "/root/b" ∷ []
binaries_are = refl

filters_are : names ≡ (name.Rule FsRead ∷ name.Rule FsWrite ∷ []) ∷ [] ∷ (name.Rule FsRead ∷ []) ∷ []
filters_are = refl

bodies_are : bodies (script_in text options Native) ≡ (Store 1 2 ∷ Reload 1 ∷ []) ∷ (Reload 3 ∷ Reload 2 ∷ []) ∷ []
bodies_are = refl
