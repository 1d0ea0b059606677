-- The policies with the filters in force and those that a session has added, as they are printed.
use Rattle.std.specs.Prelude.{ℕ, List, [], map, take}
use Rattle.st_emulation.specs.declared.emulation.Emulation.{Emulation}
use Rattle.st_filter.specs.Formula.{FilterValue}
use Rattle.st_filter.specs.Policies.{PoliciesValue}
use Rattle.st_filter.specs.declared.set.BinaryPolicy.{BinaryPolicy}
use Rattle.st_law.specs.Sessions.{SessionFilter}
use Rattle.st_learn.specs.Learnt.{learnt_binaries, learnt_policy}
use Rattle.st_lex.specs.Pieces.{print}
use Rattle.st_printing.specs.Canon.{canon, rows_pieces}

-- a policy without filters
abbrev pub empty_policy : List ℕ → BinaryPolicy
empty_policy binary = record { binary = binary; filters = [] }

-- the rows of filters
abbrev pub rows_text : List FilterValue → Emulation → List ℕ
rows_text filters emulation = print (rows_pieces filters emulation)

-- the text of the policies with the session's filters; of the policies that weren't read, only the first n
abbrev pub learnt_so_far : PoliciesValue → (List ℕ → ℕ) → List (List ℕ) → List SessionFilter → ℕ → Emulation → List ℕ
learnt_so_far policies versions changed session n emulation = canon (map (learnt_policy policies versions session) (learnt_binaries policies.read (take n changed))) emulation
