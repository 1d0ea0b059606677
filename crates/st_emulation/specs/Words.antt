-- The words of emulations, by which policies and audits name calls.
use Rattle.std.specs.Prelude.{ℕ, List, ◌++◌, codes}
use Rattle.st_calls.specs.Emulation.{emulation_word}
use Rattle.st_emulation.specs.declared.emulation.Emulation.{Emulation}
use Rattle.st_emulation.specs.declared.emulation.Emulation.TheVariants.{Linux, Native}

-- an emulation's word, as the header of a policy has it
abbrev pub word_of : Emulation → List ℕ
word_of Native = emulation_word
word_of Linux = codes "linux"

-- what stands before the name of a call or a rule: the emulation's word and `-`
abbrev pub prefix_of : Emulation → List ℕ
prefix_of emulation = word_of emulation ++ codes "-"
