-- The emulation's word, by which policies and what is printed name calls.
use Rattle.std.specs.Prelude.{ℕ, List, ◌++◌, codes}

-- the emulation's word, as the header of a policy has it
abbrev pub emulation_word : List ℕ
emulation_word = codes "native"

-- what stands before the name of a call or a rule: the emulation's word and `-`
abbrev pub emulation_prefix : List ℕ
emulation_prefix = emulation_word ++ codes "-"
