use Rattle.std.proofs.Common.{◌≡◌, ℕ, List, sym, subst, rules, slice_index_or}
use Rattle.st_memory.specs.Memory.{byte_in}
use Rattle.st_model.specs.Spelling.{Text, Fault}
use Rattle.st_effects.specs.Progress.{ArgRequest, text_arg, is_followed}
use Rattle.st_law.specs.Arguments.{Surroundings}
use Rattle.st_model.specs.Walk.{Name, resolve}
use Rattle.st_names.specs.Name.{Components, printed_name}
use Rattle.st_arguments.specs.Parts.{surroundings, IsArgument, IsSpelledBy}
use Rattle.st_arguments.proofs.InOrder.{fault_in_memory, fault_of_name, name_argument, text_argument}
use Rattle.st_arguments.proofs.part.argument.Goals as goal
use Rattle.st_arguments.proofs.part.argument.Goals.{in-Name+in_ok-text-in-Name, in_default}

pub returns-in_err-spelled-clause-fault : goal.returns-in_err-spelled-clause-fault
returns-in_err-spelled-clause-fault c = λ errno h.
    fault_in_memory c.args.asked.now (surroundings c.args.tree.now c.args.spaces.now c.args.space) c.args.spec errno
    (subst (λ (n : ℕ). IsSpelledBy (byte_in c.args.spaces.now c.args.space) c.args.spec.kind n (Fault errno)) c.register_of.ensures
    (c.spelled_text.ensures.fault errno (search (rules, c, h))))

pub returns-in_err-text-in-Name-clause-fault : goal.returns-in_err-text-in-Name-clause-fault
returns-in_err-text-in-Name-clause-fault c = λ errno h.
    let text : c.in_ok-spelled.spelled ≡ c.bytes.result.now = search (rules, c) in
    fault_of_name c.args.asked.now (surroundings c.args.tree.now c.args.spaces.now c.args.space) c.args.spec c.bytes.result.now
    (subst (λ (n : ℕ). IsSpelledBy (byte_in c.args.spaces.now c.args.space) c.args.spec.kind n (Text c.bytes.result.now)) c.register_of.ensures
    (subst (λ (t : List ℕ). IsSpelledBy (byte_in c.args.spaces.now c.args.space) c.args.spec.kind c.register_of.result (Text t)) text c.in_ok-spelled.ensures.text))
    c.in-Name.is errno
    (c.full_name.ensures.fault errno (search (rules, c, h)))

pub returns-clause-arg : goal.returns-clause-arg
returns-clause-arg c =
    let spelled : IsSpelledBy (byte_in c.args.spaces.now c.args.space) c.args.spec.kind (slice_index_or c.args.asked.now.regs c.args.spec.register 0) (Text c.in_ok-spelled.spelled) =
    subst (λ (n : ℕ). IsSpelledBy (byte_in c.args.spaces.now c.args.space) c.args.spec.kind n (Text c.in_ok-spelled.spelled)) c.register_of.ensures c.in_ok-spelled.ensures.text in
    let asked : ArgRequest = c.args.asked.now in
    let around : Surroundings = surroundings c.args.tree.now c.args.spaces.now c.args.space in
    elim c.match-spec.branch [
      | in-Name+in_ok-text-in-Name w ↦
          let text : w.bytes.result.now ≡ c.in_ok-spelled.spelled = search (rules, w) in
          subst (λ (t : List ℕ). IsArgument asked around c.args.spec (text_arg c.args.spec t)) (sym w.text-is)
          (name_argument asked around c.args.spec c.in_ok-spelled.spelled spelled w.in-Name.is w.in_ok-text-in-Name.text
          (subst (λ (t : List ℕ). (name : Components) × (resolve c.args.tree.now asked.cwd t (is_followed asked c.args.spec) ≡ Name name) × (w.in_ok-text-in-Name.text ≡ printed_name name)) text w.in_ok-text-in-Name.ensures.name))
      | in_default w ↦
          subst (λ (t : List ℕ). IsArgument asked around c.args.spec (text_arg c.args.spec t)) (sym w.text-is)
          (text_argument asked around c.args.spec c.in_ok-spelled.spelled spelled w.in_default.not-Name)
    ]
