-- How many processes and spaces a run makes: a call makes at most one of each.
use native.Mathlib.Omega.{arith}
use Rattle.std.proofs.Common.{◌≡◌, ◌≤◌, ℕ, suc, ◌+◌, Bool, true, false, List, [], ◌∷◌, length, refl, sym, ap, subst, ◌∙◌}
use Rattle.std.proofs.lemmas.List.Sums.{sum_by-cons}
use Rattle.std.specs.List.{sum_by}
use Rattle.st_base.specs.declared.ids.Ids.{Ids}
use Rattle.st_calls.specs.declared.argument.ArgText.{ArgText}
use Rattle.st_calls.specs.declared.call.SysCall.{SysCall}
use Rattle.st_effects.specs.Changes.{next_process_after, next_process_after_change, next_space_after, next_space_after_change}
use Rattle.st_effects.specs.Processes.{is_other_of, policy_changes, renewals}
use Rattle.st_trace.specs.declared.entry.Change.{Change}
use Rattle.st_trace.specs.declared.entry.Change.TheVariants.{Forked, Execed, SetIds}
use Rattle.st_trace.specs.declared.entry.Choice.{Choice}
use Rattle.st_trace.specs.declared.start.Instr.{Instr}
use Rattle.st_trace.specs.declared.start.ThreadRow.{ThreadRow}
use Rattle.st_law.specs.declared.input.Input.{Input}
use Rattle.st_law.specs.Inputs.{IsStartable}
use Rattle.st_law.specs.Machine.{state_of_run}
use Rattle.st_law.specs.Processes.{process_count}
use Rattle.st_law.specs.Schedules.{instruction_count}
use Rattle.st_law.specs.State.{State, held_from, is_held_under, reload_changes, request_of, system_of, thread_count}
use Rattle.st_law.specs.Threads.{PendingCall}
use Rattle.st_law.proofs.QuietChanges.{fold_same, next_quiet}
use Rattle.st_law.proofs.Renewals.{renewals_same}
use Rattle.st_law.proofs.Shapes.{AreQuiet, IsQuiet, Shape, quiet, forked, execed, renewed}
use Rattle.st_law.proofs.UsedShapes.{used_shape}
use Rattle.st_reached.proofs.Spending.{Spends, all_of, spent_most}

-- ---- each instruction is worth one

abbrev one_each : Instr → ℕ
one_each x = 1

abbrev one_call : PendingCall → ℕ
one_call entered = 1

ones : (body : List Instr) → sum_by one_each body ≡ length body
ones [] = refl
ones (x ∷ later) = let more = sum_by-cons one_each x later in let rest = ones later in omega (arith, more, rest)

all_ones : (rows : List ThreadRow) → all_of one_each one_call rows ≡ sum_by (λ row. length row.body) rows
all_ones [] = refl
all_ones (row ∷ rows) =
    let worth = sum_by-cons (λ each. sum_by one_each each.body) row rows in
    let lengths = sum_by-cons (λ each. length each.body) row rows in
    let here = ones row.body in
    let rest = all_ones rows in
    omega (arith, worth, lengths, here, rest)

-- ---- what the changes of a call make

space_still : (n : ℕ) (c : Change) → IsQuiet c → next_space_after_change n c ≡ n
space_still n (Forked pid space tid) x = absurd x
space_still n (Execed binary space) x = absurd x
space_still n _ x = refl

space_quiet : (n : ℕ) (changes : List Change) → AreQuiet changes → next_space_after n changes ≡ n
space_quiet n changes all = fold_same next_space_after_change IsQuiet space_still n changes all

module _ (i : Input) (st : State) (u : ℕ) (regs : List ℕ) (args : List ArgText) (ids : Ids) (call : SysCall) where
  -- at most one more process
  abbrev OneProcess : List Change → Type 0
  OneProcess changes = next_process_after st.next_process changes ≤ st.next_process + 1

  exec_process : (binary : List ℕ) (inherit : Bool) → OneProcess (Execed binary st.next_space ∷ policy_changes inherit binary)
  exec_process binary true = omega arith
  exec_process binary false = omega arith

  one_process : (changes : List Change) → Shape (system_of i st) (request_of i st u regs args ids) call changes → OneProcess changes
  one_process changes (quiet x) = let same = next_quiet st.next_process changes x in omega (arith, same)
  one_process changes (forked is e) = subst OneProcess (sym e) (omega arith)
  one_process changes (execed binary e) = subst OneProcess (sym e) (exec_process binary i.options.inherit)
  one_process changes (renewed set sets e) = subst OneProcess (sym e)
      (let same : next_process_after st.next_process (SetIds set ∷ renewals (st.threads u).owner u (suc st.posted) (held_from st 1 (thread_count i))) ≡ st.next_process =
      renewals_same (is_other_of (st.threads u).owner u) next_process_after_change (λ n old fresh. refl) st.next_process (suc st.posted) (held_from st 1 (thread_count i)) in omega (arith, same))

  -- at most one more space
  abbrev OneSpace : List Change → Type 0
  OneSpace changes = next_space_after st.next_space changes ≤ st.next_space + 1

  exec_space : (binary : List ℕ) (inherit : Bool) → OneSpace (Execed binary st.next_space ∷ policy_changes inherit binary)
  exec_space binary true = omega arith
  exec_space binary false = omega arith

  one_space : (changes : List Change) → Shape (system_of i st) (request_of i st u regs args ids) call changes → OneSpace changes
  one_space changes (quiet x) = let same = space_quiet st.next_space changes x in omega (arith, same)
  one_space changes (forked is e) = subst OneSpace (sym e) (omega arith)
  one_space changes (execed binary e) = subst OneSpace (sym e) (exec_space binary i.options.inherit)
  one_space changes (renewed set sets e) = subst OneSpace (sym e)
      (let same : next_space_after st.next_space (SetIds set ∷ renewals (st.threads u).owner u (suc st.posted) (held_from st 1 (thread_count i))) ≡ st.next_space =
      renewals_same (is_other_of (st.threads u).owner u) next_space_after_change (λ n old fresh. refl) st.next_space (suc st.posted) (held_from st 1 (thread_count i)) in omega (arith, same))

-- a reload makes no process and no space
reload_process : (i : Input) (st : State) (n : ℕ) (done : Bool) → next_process_after st.next_process (reload_changes i st n done) ≡ st.next_process
reload_process i st n true = renewals_same (is_held_under i st n) next_process_after_change (λ p old fresh. refl) st.next_process (suc st.posted) (held_from st 1 (thread_count i))
reload_process i st n false = refl

reload_space : (i : Input) (st : State) (n : ℕ) (done : Bool) → next_space_after st.next_space (reload_changes i st n done) ≡ st.next_space
reload_space i st n true = renewals_same (is_held_under i st n) next_space_after_change (λ p old fresh. refl) st.next_space (suc st.posted) (held_from st 1 (thread_count i))
reload_space i st n false = refl

-- ---- every run

makes_processes : (i : Input) → Spends one_each one_call i (λ st. st.next_process)
makes_processes i = record {
  entering = 0;
  entered = λ x later call regs way makes. omega arith;
  enters = λ st u call regs way. omega arith;
  still = λ st e none unentered. ap (next_process_after st.next_process) none;
  used = λ st u seq call regs args ids result changes entered pending same y. one_process i st u regs args ids call changes (used_shape i st u call regs args ids result changes seq y);
  reloaded = λ st u n done changes y. let same = ap (next_process_after st.next_process) y.changes_are ∙ reload_process i st n done in omega (arith, same);
}

makes_spaces : (i : Input) → Spends one_each one_call i (λ st. st.next_space)
makes_spaces i = record {
  entering = 0;
  entered = λ x later call regs way makes. omega arith;
  enters = λ st u call regs way. omega arith;
  still = λ st e none unentered. ap (next_space_after st.next_space) none;
  used = λ st u seq call regs args ids result changes entered pending same y. one_space i st u regs args ids call changes (used_shape i st u call regs args ids result changes seq y);
  reloaded = λ st u n done changes y. let same = ap (next_space_after st.next_space) y.changes_are ∙ reload_space i st n done in omega (arith, same);
}

module _ (i : Input) (startable : IsStartable i) (choices : List Choice) where
  -- no run makes more processes than it has at first plus one for each instruction of its script
  pub few_processes : (state_of_run i choices).next_process ≤ suc (process_count i) + instruction_count i
  few_processes =
      let most = spent_most one_each one_call i startable (λ st. st.next_process) (makes_processes i) choices in
      let all = all_ones i.start.threads in
      omega (arith, most, all)

  -- nor more spaces
  pub few_spaces : (state_of_run i choices).next_space ≤ suc (process_count i) + instruction_count i
  few_spaces =
      let most = spent_most one_each one_call i startable (λ st. st.next_space) (makes_spaces i) choices in
      let all = all_ones i.start.threads in
      omega (arith, most, all)
