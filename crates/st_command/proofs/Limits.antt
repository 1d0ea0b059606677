-- Commands that are read keep to the limits.
use Rattle.std.proofs.Common.{◌≡◌, ℕ, suc, ◌≤◌, List, [], ◌∷◌, length, Option, Some, None, refl, ap, sym, ◌∙◌, subst, arith, unwrap_or}
use Rattle.std.proofs.Math.Numerals.{one-add}
use Rattle.std.specs.Prelude.{IfSome}
use Rattle.st_command.specs.Words.{Word}
use Rattle.st_command.specs.Given.{GivenOption, PolicyFile, ModeIs, Inherits, Unaliased, IdsAre, WorkersAre, PrintIs, EmulatesLinux, AreWithin, count_of}
use Rattle.st_command.specs.Command.{RunWords, policies_of, workers_of}
use Rattle.st_command.specs.Grammar.{SpellsCommand, SpellsRun, SpellsGen}
use Rattle.st_command.specs.Reading.{command_in, run_of_words, gen_of_words, IsWithinLimits, IsRunWithinLimits}
use Rattle.st_command.specs.declared.command.Command.{Command}
use Rattle.st_command.specs.declared.command.Command.TheVariants as command
use Rattle.st_command.specs.declared.given.Kind.TheVariants as kind
use Rattle.st_command.proofs.Commands.{read_is_spelled, read_is_spelled_run, read_is_spelled_gen}

policies_counted : (given : List GivenOption) → length (policies_of given) ≡ count_of kind.Policy given
policies_counted [] = refl
policies_counted (PolicyFile name ∷ given) = ap (λ n. suc n) (policies_counted given) ∙ sym (one-add (count_of kind.Policy given))
policies_counted (ModeIs mode ∷ given) = omega (arith, policies_counted given)
policies_counted (Inherits ∷ given) = omega (arith, policies_counted given)
policies_counted (Unaliased ∷ given) = omega (arith, policies_counted given)
policies_counted (IdsAre uid gid ∷ given) = omega (arith, policies_counted given)
policies_counted (WorkersAre count ∷ given) = omega (arith, policies_counted given)
policies_counted (PrintIs print ∷ given) = omega (arith, policies_counted given)
policies_counted (EmulatesLinux ∷ given) = omega (arith, policies_counted given)

workers_within : (given : List GivenOption) → AreWithin given → (1 ≤ unwrap_or (workers_of given) 1) × (unwrap_or (workers_of given) 1 ≤ 8)
workers_within [] within = (omega arith, omega arith)
workers_within (PolicyFile name ∷ given) within = workers_within given within.1
workers_within (ModeIs mode ∷ given) within = workers_within given within.1
workers_within (Inherits ∷ given) within = workers_within given within.1
workers_within (Unaliased ∷ given) within = workers_within given within.1
workers_within (IdsAre uid gid ∷ given) within = workers_within given within.1
workers_within (WorkersAre count ∷ given) within = within.0
workers_within (PrintIs print ∷ given) within = workers_within given within.1
workers_within (EmulatesLinux ∷ given) within = workers_within given within.1

spelled_within : (words : List Word) (c : Command) → SpellsCommand words c → IsWithinLimits c
spelled_within words (command.Step step) is =
    let count = policies_counted is.given in
    let workers = workers_within is.given is.within in
    subst (λ s. IsWithinLimits (command.Step s)) (sym is.asked) (omega (arith, count, is.together.few_policies), workers.0, workers.1)
spelled_within words (command.Replay replay) is =
    let count = policies_counted is.given in
    let workers = workers_within is.given is.within in
    subst (λ r. IsWithinLimits (command.Replay r)) (sym is.asked) (omega (arith, count, is.together.few_policies), workers.0, workers.1)
spelled_within words (command.Check check) is = tt

weaken : {A : Type 0} (P Q : A → Type 0) (o : Option A) → ((a : A) → P a → Q a) → IfSome o P → IfSome o Q
weaken P Q (Some a) f p = f a p
weaken P Q None f p = tt

pub limits_kept : (words : List Word) (found : Option Command) → found ≡ command_in words → IfSome found IsWithinLimits
limits_kept words found is =
    subst (λ o. IfSome o IsWithinLimits) (sym is) (weaken (SpellsCommand words) IsWithinLimits (command_in words) (spelled_within words) (read_is_spelled words))

-- ---- run and gen

run_within : (words : List Word) (run : RunWords) → SpellsRun words run → IsRunWithinLimits run
run_within words run is =
    let count = policies_counted is.given in
    let workers = workers_within is.given is.within in
    subst IsRunWithinLimits (sym is.asked) (omega (arith, count, is.together.few_policies), workers.0, workers.1)

pub run_limits_kept : (words : List Word) (found : Option RunWords) → found ≡ run_of_words words → IfSome found IsRunWithinLimits
run_limits_kept words found is =
    subst (λ o. IfSome o IsRunWithinLimits) (sym is) (weaken (SpellsRun words) IsRunWithinLimits (run_of_words words) (run_within words) (read_is_spelled_run words))

abbrev AreRounds : ℕ → Type 0
AreRounds rounds = (1 ≤ rounds) × (rounds ≤ 512)

pub gen_limits_kept : (words : List Word) (found : Option ℕ) → found ≡ gen_of_words words → IfSome found (λ rounds. (1 ≤ rounds) × (rounds ≤ 512))
gen_limits_kept words found is =
    subst (λ o. IfSome o AreRounds) (sym is) (weaken (SpellsGen words) AreRounds (gen_of_words words) (λ rounds is. (is.least, is.most)) (read_is_spelled_gen words))
