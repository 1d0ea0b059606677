-- What is printed of the policies after a run.
use Rattle.std.specs.Prelude.{ℕ, List, reverse}
use Rattle.st_emulation.specs.declared.emulation.Emulation.{Emulation}
use Rattle.st_law.specs.History.{looking_back}
use Rattle.st_law.specs.declared.input.Input.{Input}
use Rattle.st_learn.specs.Learnt.{learnt_in}
use Rattle.st_printing.specs.Canon.{canon}
use Rattle.st_trace.specs.declared.entry.Entry.{Entry}

-- the canonical text of the policies with the filters in force after a trace of drawings, and with what its session has added, by the names
-- of an emulation
abbrev pub policy_text : Input → List Entry → Emulation → List ℕ
policy_text i trace emulation = canon (learnt_in i (looking_back i (reverse trace))) emulation
