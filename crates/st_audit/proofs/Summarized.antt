-- The summaries of generated runs, whose counts were worked out from the rules.
use Prim.Native.String.{String}
use Rattle.std.proofs.Common.{◌≡◌, ℕ, List, [], ◌∷◌, ◌++◌, Some, None, refl, codes}
use Rattle.std.specs.Fmt.{digits}
use Rattle.std.specs.Prelude.{Option}
use Rattle.st_base.specs.declared.errno.Errno.TheVariants.{EACCES}
use Rattle.st_calls.specs.declared.call.SysCall.TheVariants.{Access}
use Rattle.st_calls.specs.declared.rule.Rule.TheVariants.{FsRead}
use Rattle.st_filter.specs.declared.filter.Action.TheVariants as action
use Rattle.st_filter.specs.declared.filter.Op.TheVariants as op
use Rattle.st_trace.specs.declared.entry.Entry.{Entry}
use Rattle.st_trace.specs.declared.start.Instr.{Instr}
use Rattle.st_trace.specs.declared.start.ThreadRow.{ThreadRow}
use Rattle.st_law.specs.declared.input.Input.{Input}
use Rattle.st_law.specs.declared.input.Mode.TheVariants.{Enforce}
use Rattle.st_law.proofs.Writing.{call, denies, dir, file, input, plainly, policy, put, rest, test, thread_in, trace, traced, when}
use Rattle.st_audit.specs.Summary.{summary_text}

abbrev summary_of_trace : Option (List Entry) → List ℕ
summary_of_trace None = []
summary_of_trace (Some entries) = summary_text entries

-- a thread's instructions of one round
abbrev asks : ℕ → String → List Instr
asks at text = put at text ++ call Access at 4 0 ∷ []

-- a run of a process with these threads, which may ask for what is in `/pub`
abbrev generated : List ThreadRow → Input
generated threads = input (plainly Enforce)
    (policy "/bin/gen" (when FsRead (test "filename" op.Match "/pub/*") action.Permit ∷ denies FsRead EACCES ∷ []) ∷ [])
    (dir "/pub" 0 0 493 ∷ dir "/sec" 0 0 493 ∷ file "/pub/f0" 0 0 420 (codes "x") ∷ file "/pub/f1" 0 0 420 (codes "x") ∷ file "/pub/f2" 0 0 420 (codes "x") ∷
    file "/pub/f3" 0 0 420 (codes "x") ∷ file "/pub/f4" 0 0 420 (codes "x") ∷ [])
    (traced "/bin/gen" 1000 1000 "/" ∷ []) threads []

one_round : summary_of_trace (trace (generated (
    thread_in 1 (asks 64 "/pub/f1") ∷
    thread_in 1 (asks 128 "/pub/f2") ∷
    thread_in 1 (asks 192 "/sec/f3") ∷
    thread_in 1 (asks 256 "/pub/f4") ∷ [])) (rest ∷ [])) ≡ codes "calls 4 used 3 failed 0 denied 1 entries 36\n"
unfolding digits
one_round = refl

two_rounds : summary_of_trace (trace (generated (
    thread_in 1 (asks 64 "/pub/f1" ++ asks 64 "/pub/f8") ∷
    thread_in 1 (asks 128 "/pub/f2" ++ asks 128 "/sec/f9") ∷
    thread_in 1 (asks 192 "/sec/f3" ++ asks 192 "/pub/f0") ∷
    thread_in 1 (asks 256 "/pub/f4" ++ asks 256 "/pub/f1") ∷ [])) (rest ∷ [])) ≡ codes "calls 8 used 6 failed 1 denied 2 entries 68\n"
unfolding digits
two_rounds = refl
