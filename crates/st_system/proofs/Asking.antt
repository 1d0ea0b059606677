-- The arguments of a call that is made in one step, and the links in the way of a call, as in the law's machine.
use Rattle.std.proofs.Common.{◌≡◌, ◌∙◌, ℕ, Bool, true, false, List, [], Option, Some, None, ap, sym}
use Rattle.std.specs.Prelude.{Result, Ok, Err, IfOk}
use Rattle.st_arguments.specs.Arguments.{arguments_progress}
use Rattle.st_arguments.specs.Parts.{surroundings}
use Rattle.st_arguments.specs.declared.arguments.Arguments.{Arguments}
use Rattle.st_calls.specs.Call.{follows, rule_of}
use Rattle.st_calls.specs.declared.argument.ArgText.{ArgText}
use Rattle.st_calls.specs.declared.call.SysCall.{SysCall}
use Rattle.st_calls.specs.declared.rule.Rule.{Rule}
use Rattle.st_memory.specs.Memory.{byte_in, is_space_live}
use Rattle.st_model.specs.Process.{Process}
use Rattle.st_model.specs.Processes.{pid_of, process_at, thread_at}
use Rattle.st_model.specs.Tree.{Tree}
use Rattle.st_names.specs.Name.{Components}
use Rattle.st_exec_fs.specs.Open.{IsNoLink}
use Rattle.st_law.specs.Arguments.{arguments_in, is_link_at, link_met}
use Rattle.st_law.specs.State.{State, arguments_now, link_now, process_in}
use Rattle.st_law.specs.declared.input.Input.{Input}
use Rattle.st_system.specs.Fit.{first_name}
use Rattle.st_system.specs.System.{IsSystem, Parts}
use Rattle.st_system.proofs.Kept.{owner_is, pid_owner}
use Rattle.st_system.proofs.Links.{first_unlinked}
use Rattle.st_system.proofs.Memory.{live_kept}

module _ (parts : Parts) (tid pid : ℕ) (is : Some pid ≡ pid_of parts.processes tid) (live : is_space_live parts.memories (process_at parts.processes pid).space ≡ true)
    (call : SysCall) (regs : List ℕ) (aliasing : Bool) (rule : Rule) (cwd : Components) (space : ℕ) (rule_is : rule ≡ rule_of call regs aliasing)
    (cwd_is : cwd ≡ (process_at parts.processes pid).cwd) (space_is : space ≡ (process_at parts.processes pid).space) where
  module _ (i : Input) (st : State) (x : IsSystem i st parts) (same : i.options.aliasing ≡ aliasing) where
    process : process_in st tid ≡ process_at parts.processes pid
    process = ap st.processes (owner_is (thread_at parts.processes tid) (st.threads tid) (x.threads tid) ∙ sym (pid_owner (thread_at parts.processes tid) pid is)) ∙ x.processes pid

    bytes : st.memory (process_in st tid).space ≡ byte_in parts.memories space
    bytes = ap (λ (p : Process). st.memory p.space) process ∙ (λ k b. x.memory (process_at parts.processes pid).space b (live_kept parts.memories (process_at parts.processes pid).space live) k) ∙ ap (byte_in parts.memories) (sym space_is)

    now_is : arguments_now i st tid call regs ≡ arguments_in (record { rule = rule; call = call; regs = regs; cwd = cwd }) (surroundings parts.tree parts.memories space)
    now_is = λ k. arguments_in (record { rule = (ap (rule_of call regs) same ∙ sym rule_is) k; call = call; regs = regs; cwd = (ap (λ (p : Process). p.cwd) process ∙ sym cwd_is) k })
        (record { bytes = bytes k; tree = x.tree k })

  -- the arguments, unless memory runs out
  pub asked_if : {E : Type 0} (result : Result Arguments E)
      → IfOk result (λ given. arguments_in (record { rule = rule; call = call; regs = regs; cwd = cwd }) (surroundings parts.tree parts.memories space) ≡ arguments_progress given)
      → IfOk result (λ given. (i : Input) (st : State) → IsSystem i st parts → i.options.aliasing ≡ aliasing → arguments_now i st tid call regs ≡ arguments_progress given)
  asked_if (Ok given) here = λ i st x same. now_is i st x same ∙ here
  asked_if (Err error) here = tt

-- the first link in the way of names, unless memory runs out
pub met_if : {E : Type 0} (result : Result (Option Components) E) (parts : Parts) (call : SysCall) (regs : List ℕ) (args : List ArgText) (aliasing : Bool) (rule : Rule) → rule ≡ rule_of call regs aliasing
    → IfOk result (λ link. link ≡ link_met parts.tree rule call regs args)
    → IfOk result (λ link. (i : Input) (st : State) → IsSystem i st parts → i.options.aliasing ≡ aliasing → link ≡ link_now i st call regs args)
met_if (Ok link) parts call regs args aliasing rule is here = λ i st x same. here ∙ (λ k. link_met (sym x.tree k) ((is ∙ ap (rule_of call regs) (sym same)) k) call regs args)
met_if (Err error) parts call regs args aliasing rule is here = tt

-- the first name if no link is in the way, unless memory runs out
pub unmet_if : {E : Type 0} (result : Result (Option Components) E) (tree : Tree) (call : SysCall) (regs : List ℕ) (args : List ArgText) (aliasing : Bool) (rule : Rule) → rule ≡ rule_of call regs aliasing
    → is_link_at tree [] ≡ false → IfOk result (λ link. link ≡ link_met tree rule call regs args)
    → IfOk result (λ link. link ≡ None → follows call regs 0 ≡ true → IsNoLink tree (first_name args))
unmet_if (Ok link) tree call regs args aliasing rule is root here = λ none. first_unlinked tree call regs aliasing args root (ap (λ r. link_met tree r call regs args) (sym is) ∙ sym here ∙ none)
unmet_if (Err error) tree call regs args aliasing rule is root here = tt
