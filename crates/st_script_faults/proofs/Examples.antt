-- Scripts with policies and reloads, and their faults.
use Rattle.std.proofs.Common.{◌≡◌, ℕ, List, [], ◌∷◌, ◌++◌, None, Some, false, refl, codes, Option}
use Rattle.st_emulation.specs.declared.emulation.Emulation.{Emulation}
use Rattle.st_emulation.specs.declared.emulation.Emulation.TheVariants.{Native, Linux}
use Rattle.st_law.specs.declared.input.Mode.TheVariants.{Enforce, Learn}
use Rattle.st_law.specs.declared.input.Options.{Options}
use Rattle.st_lex.specs.Tokens.{lexed_text}
use Rattle.st_lex.specs.declared.token.LexFault.TheVariants.{OpenQuote}
use Rattle.st_script_faults.specs.Faults.{WholeScript, row_fault, script_fault, whole_of}
use Rattle.st_script_names.specs.Names.{Names, no_names}
use Rattle.st_script_faults.specs.declared.fault.ScriptFault.{ScriptFault}
use Rattle.st_script_faults.specs.declared.fault.ScriptFault.TheVariants.{Duplicate, Expected, Lex, ReloadWithLearn, TooMany, UnknownName}
use Rattle.st_statements.specs.Statements.{lines_in}
use Rattle.st_statements.specs.declared.statement.Statement.TheVariants as says

abbrev enforcing : Options
enforcing = record { mode = Enforce; inherit = false; aliasing = false; ids = None; workers = 1 }

abbrev learning : Options
learning = record enforcing { mode = Learn }

abbrev with_newlines : List (List ℕ) → List ℕ
with_newlines [] = []
with_newlines (line ∷ lines) = line ++ 10 ∷ with_newlines lines

-- the fault of a script under an emulation
abbrev fault_under : Emulation → Options → List (List ℕ) → Option ScriptFault
fault_under emulation options lines = script_fault options (lexed_text (with_newlines lines)).fault (lines_in (with_newlines lines)) emulation

abbrev fault_of : Options → List (List ℕ) → Option ScriptFault
fault_of = fault_under Native

-- an administrator's reload
abbrev reloading : List (List ℕ)
reloading =
    codes "process q untraced \"/bin/adm\" 0 0 \"/\"" ∷ codes "policy np \"/bin/cat\"" ∷ codes "native-fsread: true then deny[enoent] log" ∷ codes "end" ∷
    codes "thread b in q" ∷ codes "reload np" ∷ codes "end" ∷ []

done : fault_of enforcing reloading ≡ None
done = refl

learnt : fault_of learning reloading ≡ Some (ReloadWithLearn 6)
learnt = refl

-- ---- bodies

left_open : fault_of enforcing (codes "policy np \"/b\"" ∷ codes "native-open: permit" ∷ []) ≡ Some (Expected 1)
left_open = refl

cut_off : fault_of enforcing (codes "policy np \"/b\"" ∷ codes "native-open: permit" ∷ codes "\"" ∷ []) ≡ Some (Lex (OpenQuote 35))
cut_off = refl

after_end : fault_of enforcing (codes "policy np \"/b\"" ∷ codes "end now" ∷ codes "end" ∷ []) ≡ Some (Expected 2)
after_end = refl

no_instruction : fault_of enforcing (codes "policy np \"/b\"" ∷ codes "call getpid" ∷ codes "end" ∷ []) ≡ Some (Expected 2)
no_instruction = refl

no_row : fault_of enforcing (codes "policy np \"/b\"" ∷ codes "group g 1" ∷ codes "end" ∷ []) ≡ Some (Expected 2)
no_row = refl

no_filter_outside : fault_of enforcing (codes "policy np \"/b\"" ∷ codes "end" ∷ codes "native-open: permit" ∷ []) ≡ Some (Expected 3)
no_filter_outside = refl

no_reload_outside : fault_of enforcing (codes "policy np \"/b\"" ∷ codes "end" ∷ codes "reload np" ∷ []) ≡ Some (Expected 3)
no_reload_outside = refl

-- ---- binaries and filters

home : fault_of enforcing (codes "policy np \"$HOME/b\"" ∷ codes "end" ∷ []) ≡ None
home = refl

relative : fault_of enforcing (codes "policy np \"b$HOME\"" ∷ codes "end" ∷ []) ≡ Some (Expected 1)
relative = refl

any_path : fault_of enforcing (codes "policy np \"//..\"" ∷ codes "end" ∷ []) ≡ None
any_path = refl

no_word : fault_of enforcing (codes "policy np /b" ∷ codes "end" ∷ []) ≡ Some (Expected 1)
no_word = refl

refused : fault_of enforcing (codes "policy np \"/b\"" ∷ codes "native-open: permit" ∷ codes "native-open: deny[eperm] as root" ∷ codes "end" ∷ []) ≡ Some (Expected 3)
refused = refl

asks : fault_of enforcing (codes "policy np \"/b\"" ∷ codes "native-open: ask" ∷ codes "end" ∷ []) ≡ None
asks = refl

asks_while_learning : fault_of learning (codes "policy np \"/b\"" ∷ codes "native-open: ask" ∷ codes "end" ∷ []) ≡ Some (Expected 2)
asks_while_learning = refl

user_below : fault_of enforcing (codes "policy np \"/b\"" ∷ codes "native-open: permit, if user = u" ∷ codes "end" ∷ codes "user u 5 5 \"/\"" ∷ []) ≡ None
user_below = refl

-- ---- emulations

-- a policy and a reply with native names
abbrev native_rows : List (List ℕ)
native_rows = codes "policy np \"/b\"" ∷ codes "native-open: permit" ∷ codes "end" ∷ codes "reply \"/b\" native-open: permit" ∷ []

native_done : fault_of enforcing native_rows ≡ None
native_done = refl

native_under_linux : fault_under Linux enforcing native_rows ≡ Some (Expected 2)
native_under_linux = refl

-- the same with names of Linux
abbrev linux_rows : List (List ℕ)
linux_rows = codes "policy np \"/b\"" ∷ codes "linux-open: permit" ∷ codes "end" ∷ codes "reply \"/b\" linux-open: permit" ∷ []

linux_done : fault_under Linux enforcing linux_rows ≡ None
linux_done = refl

linux_without_emulation : fault_of enforcing linux_rows ≡ Some (Expected 2)
linux_without_emulation = refl

native_reply : fault_under Linux enforcing (codes "reply \"/b\" native-open: permit" ∷ []) ≡ Some (Expected 1)
native_reply = refl

linux_reply : fault_of enforcing (codes "reply \"/b\" linux-open: permit" ∷ []) ≡ Some (Expected 1)
linux_reply = refl

-- ---- names

again : fault_of enforcing (codes "policy np \"/b\"" ∷ codes "end" ∷ codes "policy np \"/c\"" ∷ codes "end" ∷ []) ≡ Some (Duplicate 3)
again = refl

same_binary : fault_of enforcing (codes "policy np \"/b\"" ∷ codes "end" ∷ codes "policy other \"/b\"" ∷ codes "end" ∷ []) ≡ None
same_binary = refl

none_of_this_name : fault_of enforcing (codes "policy np \"/b\"" ∷ codes "end" ∷ codes "thread t" ∷ codes "reload other" ∷ codes "end" ∷ []) ≡ Some (UnknownName 4)
none_of_this_name = refl

below : fault_of enforcing (codes "thread t" ∷ codes "reload np" ∷ codes "end" ∷ codes "policy np \"/b\"" ∷ codes "end" ∷ []) ≡ Some (UnknownName 2)
below = refl

unknown_while_learning : fault_of learning (codes "thread t" ∷ codes "reload np" ∷ codes "end" ∷ []) ≡ Some (UnknownName 2)
unknown_while_learning = refl

unknown_above_a_cut : fault_of enforcing (codes "thread t" ∷ codes "reload np" ∷ codes "\"" ∷ []) ≡ Some (UnknownName 2)
unknown_above_a_cut = refl

-- ---- how many

abbrev whole : WholeScript
whole = whole_of false learning [] Native

abbrev full : Names
full = record no_names { policies = codes "np" ∷ []; instructions = 4096; filters = 4096 }

last_filter : row_fault whole (record full { filters = 4095 }) [] 9 (says.Filter (codes "native-open: permit")) ≡ None
last_filter = refl

one_filter_more : row_fault whole full [] 9 (says.Filter (codes "native-open: permit")) ≡ Some (TooMany 9)
one_filter_more = refl

one_refused_filter_more : row_fault whole full [] 9 (says.Filter (codes "native-open: perm")) ≡ Some (Expected 9)
one_refused_filter_more = refl

last_reload : row_fault whole (record full { instructions = 4095 }) [] 9 (says.Reload (codes "np")) ≡ Some (ReloadWithLearn 9)
last_reload = refl

one_reload_more : row_fault whole full [] 9 (says.Reload (codes "np")) ≡ Some (TooMany 9)
one_reload_more = refl
