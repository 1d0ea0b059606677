-- A run that learns through a link, the text of what it has learnt, and the policies that the text is read as.
use Rattle.std.proofs.Common.{◌≡◌, true, false, List, [], ◌∷◌, ◌++◌, ℕ, Option, Some, None, Ok, refl, codes}
use Rattle.std.specs.Prelude.{reverse}
use Rattle.st_emulation.specs.declared.emulation.Emulation.TheVariants.{Native, Linux}
use Rattle.st_filter.specs.declared.set.BinaryPolicy.{BinaryPolicy}
use Rattle.st_law.specs.Machine.{state_at}
use Rattle.st_law.specs.declared.input.Input.{Input}
use Rattle.st_law.proofs.Scripts.{passwd_only}
use Rattle.st_law.proofs.SessionRuns.{link_learner}
use Rattle.st_law.proofs.Writing.{policy, rest, trace}
use Rattle.st_learn.specs.Learnt.{learnt_in}
use Rattle.st_grammar.specs.Reading.{policies_in}
use Rattle.st_grammar.specs.declared.env.Env.{Env}
use Rattle.st_trace.specs.declared.entry.Entry.{Entry}
use Rattle.st_printing.specs.Canon.{canon}

-- the policies after a run, with what it has added
abbrev policies_of : Input → Option (List Entry) → List BinaryPolicy
policies_of i None = []
policies_of i (Some entries) = learnt_in i (state_at i (reverse entries))

abbrev learnt : List BinaryPolicy
learnt = policies_of link_learner (trace link_learner (rest ∷ []))

-- the environment without users and groups, in which filters are learnt
abbrev learning : Env
learning = record { users = []; groups = []; dollars = record { home = codes "/root"; user = codes "root"; cwd = codes "/" }; elevate = false; learn = true; emulation = Native }

-- the file has the name by which it was reached, not that of the link that was opened
abbrev two_rows : List ℕ
two_rows = codes "Policy: /bin/cat, Emulation: native" ++ 10 ∷ codes "native-fsread: filename eq \"/etc/passwd\" then permit" ++ 10 ∷ []

learnt_text : canon learnt Native ≡ two_rows
learnt_text = refl

learnt_text_is_read : policies_in two_rows learning [] ≡ Ok (policy "/bin/cat" (passwd_only ∷ []) ∷ [])
learnt_text_is_read = refl

-- the same text for Linux
abbrev linux_rows : List ℕ
linux_rows = codes "Policy: /bin/cat, Emulation: linux" ++ 10 ∷ codes "linux-fsread: filename eq \"/etc/passwd\" then permit" ++ 10 ∷ []

linux_text : canon learnt Linux ≡ linux_rows
linux_text = refl

linux_text_is_read : policies_in linux_rows (record learning { emulation = Linux }) [] ≡ Ok (policy "/bin/cat" (passwd_only ∷ []) ∷ [])
linux_text_is_read = refl

what_was_learnt : learnt ≡ policy "/bin/cat" (passwd_only ∷ []) ∷ []
what_was_learnt = refl
