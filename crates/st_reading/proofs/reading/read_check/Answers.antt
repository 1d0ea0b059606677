use Rattle.std.proofs.Common.{ap, [], ◌∷◌, ◌++◌}
use Rattle.st_command.specs.Command.{CheckWords}
use Rattle.st_command.specs.Grammar.{maybe_word}
use Rattle.st_command.specs.declared.command.Command.TheVariants as command
use Rattle.st_reading.specs.Ends.{EndsReading}
use Rattle.st_reading.specs.declared.refusal.Refusal.TheVariants.{NoMemory}
use Rattle.st_reading.proofs.Fetched.{handed_on, are_from, refused_from, asked_more}
use Rattle.st_reading.proofs.Refusals.{check_policies_refused, check_wants_memory, check_read}
use Rattle.st_reading.proofs.reading.read_check.Goals as goal

pub returns-in_err-policies-clause-ends : goal.returns-in_err-policies-clause-ends
returns-in_err-policies-clause-ends g c =
    let contents = g.F.Files.contents c.args.files.now in
    let faults = g.F.Files.faults c.args.files.now in
    let old = g.F.Files.asked c.args.files.now in
    let after = g.F.Files.faults c.read_policy_files.new.files in
    let new = g.F.Files.asked c.read_policy_files.new.files in
    let named = ap (λ (check : CheckWords). check.policy ∷ []) c.check.view_is in
    handed_on (EndsReading contents (command.Check c.args.check.now) faults after old new)
    c.in_err-policies.field-0.0 c.from_residual-in_err-policies.result c.from_residual-in_err-policies.ensures.0 c.from_residual-in_err-policies.ensures.1
    (check_policies_refused contents faults after old new c.args.check.now c.in_ok-env.env c.in_ok-env.ensures.ends.0 c.in_err-policies.field-0.0
    (refused_from contents (g.F.Files.contents c.env_of_check.new.files) c.in_ok-env.env (c.args.check.now.policy ∷ []) (c.check.inside.policy.now ∷ []) c.in_ok-env.ensures.contents named
    faults (g.F.Files.faults c.env_of_check.new.files) after (old ++ maybe_word c.args.check.now.script) (g.F.Files.asked c.env_of_check.new.files) new c.in_err-policies.field-0.0
    (c.in_ok-env.ensures.quiet (λ e. cc)) c.in_ok-env.ensures.ends.1 c.in_err-policies.ensures.ends))

pub returns-in_err-print_policies-clause-ends : goal.returns-in_err-print_policies-clause-ends
returns-in_err-print_policies-clause-ends g c =
    let contents = g.F.Files.contents c.args.files.now in
    let faults = g.F.Files.faults c.args.files.now in
    let old = g.F.Files.asked c.args.files.now in
    let after = g.F.Files.faults c.read_policy_files.new.files in
    let new = g.F.Files.asked c.read_policy_files.new.files in
    let named = ap (λ (check : CheckWords). check.policy ∷ []) c.check.view_is in
    handed_on (EndsReading contents (command.Check c.args.check.now) faults after old new)
    NoMemory c.from_residual-in_err-print_policies.result c.from_residual-in_err-print_policies.ensures.0 c.from_residual-in_err-print_policies.ensures.1
    (check_wants_memory contents faults after old new c.args.check.now c.in_ok-env.env c.in_ok-env.ensures.ends.0 c.in_ok-policies.policies
    (are_from contents (g.F.Files.contents c.env_of_check.new.files) c.in_ok-env.env (c.args.check.now.policy ∷ []) (c.check.inside.policy.now ∷ []) c.in_ok-env.ensures.contents named c.in_ok-policies.policies c.in_ok-policies.ensures.ends.0)
    (asked_more (old ++ maybe_word c.args.check.now.script) (g.F.Files.asked c.env_of_check.new.files) new (c.check.inside.policy.now ∷ []) (c.args.check.now.policy ∷ []) c.in_ok-env.ensures.ends.1 named c.in_ok-policies.ensures.ends.1))

pub returns-clause-ends : goal.returns-clause-ends
returns-clause-ends g c =
    let contents = g.F.Files.contents c.args.files.now in
    let faults = g.F.Files.faults c.args.files.now in
    let old = g.F.Files.asked c.args.files.now in
    let after = g.F.Files.faults c.read_policy_files.new.files in
    let new = g.F.Files.asked c.read_policy_files.new.files in
    let named = ap (λ (check : CheckWords). check.policy ∷ []) c.check.view_is in
    check_read contents faults after old new c.args.check.now c.in_ok-env.env c.in_ok-env.ensures.ends.0 c.in_ok-policies.policies
    (are_from contents (g.F.Files.contents c.env_of_check.new.files) c.in_ok-env.env (c.args.check.now.policy ∷ []) (c.check.inside.policy.now ∷ []) c.in_ok-env.ensures.contents named c.in_ok-policies.policies c.in_ok-policies.ensures.ends.0)
    (asked_more (old ++ maybe_word c.args.check.now.script) (g.F.Files.asked c.env_of_check.new.files) new (c.check.inside.policy.now ∷ []) (c.args.check.now.policy ∷ []) c.in_ok-env.ensures.ends.1 named c.in_ok-policies.ensures.ends.1)
    c.in_ok-print_policies.field-0 c.in_ok-print_policies.ensures
