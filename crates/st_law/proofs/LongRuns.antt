-- The longest name that words can spell, and runs over many links. The calls are made in one step, with the arguments that a worker would
-- get. The expected ends were derived from the rules.
use Prim.Native.String as text
use Rattle.std.proofs.Common.{◌≡◌, ℕ, zero, suc, List, [], ◌∷◌, ◌++◌, None, refl, codes}
use Rattle.std.specs.Int.{w64, from_le_bytes}
use Rattle.std.specs.Prelude.{drop, replicate, take}
use Rattle.st_base.specs.declared.errno.Errno.TheVariants.{ELOOP, ENAMETOOLONG}
use Rattle.st_calls.specs.declared.call.SysCall.TheVariants.{Open}
use Rattle.st_model.specs.Spelling.{Fault, Text, spell_name}
use Rattle.st_trace.specs.declared.entry.CallResult.TheVariants.{Value, Failed}
use Rattle.st_trace.specs.declared.entry.Entry.TheVariants.{Used}
use Rattle.st_trace.specs.declared.start.Instr.{Instr}
use Rattle.st_trace.specs.declared.start.TreeRow.{TreeRow}
use Rattle.st_law.specs.declared.input.Input.{Input}
use Rattle.st_law.specs.declared.input.Mode.TheVariants.{Enforce}
use Rattle.st_law.proofs.Writing.{link, untraced, thread_in, regs, input, plainly, rest, trace}
use Rattle.st_law.proofs.Scripts.{etc_files, opens, user, filename, calls_of}

-- ---- long names

-- a name with `count` slashes in front
abbrev slashed : ℕ → List ℕ
slashed count = replicate count 47 ++ codes "etc/passwd"

-- the words of bytes in memory, with zero bytes after them
abbrev words : ℕ → List ℕ → List ℕ
words zero bytes = []
words (suc count) bytes = from_le_bytes w64 (take 8 (bytes ++ replicate 8 0)) ∷ words count (drop 8 bytes)

-- a name of 1,024 bytes
the_longest_name : spell_name 0 (words 129 (slashed 1014)) ≡ Text (slashed 1014)
the_longest_name = refl

-- a name with one byte too many
a_name_too_long : spell_name 0 (words 129 (slashed 1015)) ≡ Fault ENAMETOOLONG
a_name_too_long = refl

-- ---- many links

-- one untraced process
abbrev opener : List TreeRow → List Instr → Input
opener objects body = input (plainly Enforce) [] objects (untraced "/bin/cat" 1000 1000 "/" ∷ []) (thread_in 1 body ∷ []) []

-- each link leads to the next, and the last to /etc/passwd
abbrev links : List TreeRow
links =
    link "/l1" 0 0 "/l2" ∷ link "/l2" 0 0 "/l3" ∷ link "/l3" 0 0 "/l4" ∷ link "/l4" 0 0 "/l5" ∷ link "/l5" 0 0 "/l6" ∷
    link "/l6" 0 0 "/l7" ∷ link "/l7" 0 0 "/l8" ∷ link "/l8" 0 0 "/l9" ∷ link "/l9" 0 0 "/l10" ∷ link "/l10" 0 0 "/l11" ∷
    link "/l11" 0 0 "/l12" ∷ link "/l12" 0 0 "/l13" ∷ link "/l13" 0 0 "/l14" ∷ link "/l14" 0 0 "/l15" ∷ link "/l15" 0 0 "/l16" ∷
    link "/l16" 0 0 "/l17" ∷ link "/l17" 0 0 "/l18" ∷ link "/l18" 0 0 "/l19" ∷ link "/l19" 0 0 "/l20" ∷ link "/l20" 0 0 "/l21" ∷
    link "/l21" 0 0 "/l22" ∷ link "/l22" 0 0 "/l23" ∷ link "/l23" 0 0 "/l24" ∷ link "/l24" 0 0 "/l25" ∷ link "/l25" 0 0 "/l26" ∷
    link "/l26" 0 0 "/l27" ∷ link "/l27" 0 0 "/l28" ∷ link "/l28" 0 0 "/l29" ∷ link "/l29" 0 0 "/l30" ∷ link "/l30" 0 0 "/l31" ∷
    link "/l31" 0 0 "/l32" ∷ link "/l32" 0 0 "/l33" ∷ link "/l33" 0 0 "/etc/passwd" ∷ []

abbrev linked : text.String → Input
linked text = opener (etc_files ++ links) (opens text)

-- 32 links are looked up
thirty_two_links : calls_of (trace (linked "/l2") (rest ∷ [])) ≡ Used 1 None Open (regs 0 0 0) (filename "/etc/passwd") user (Value 3) [] ∷ []
thirty_two_links = refl

-- the look at the 33rd link is the last
thirty_three_links : calls_of (trace (linked "/l1") (rest ∷ [])) ≡ Used 1 None Open (regs 0 0 0) [] user (Failed ELOOP) [] ∷ []
thirty_three_links = refl
